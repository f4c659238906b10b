-- The store of a lane in the world of a run: its list, a lost call, and how far its opening has come (this project's
-- own).
use Rattle.emv_ports.specs.Cut.{commit_of}
use Rattle.std.specs.Prelude.{ℕ, ◌+◌, ◌==◌, Bool, false, if◌then◌else◌, List, [], length, Option, Some, None, unwrap_or, option_map}
use Rattle.emv_ports.specs.Cut.{names_commit}
use Rattle.emv_ports.specs.declared.tear.Tear.{Tear}
use Rattle.capture_store.specs.Calls.{Call, Adds, Drops, called, list_found, call_left_by}

-- the store of a lane: its list, a lost call, the commits since its opening, whether its delivery is still to come,
-- and what the settlement found
pub record StoreRow : Type 0 where
  -- the messages that are kept, oldest first, and a lost call that the next opening finds or doesn't
  pub list : List (List ℕ)
  pub lost : Option Call
  -- how many commits were made since the opening, where the store is open
  pub commits : Option ℕ
  -- whether the delivery of this opening is still to come
  pub due : Bool
  -- the list that the opening for settlement found
  pub found : Option (List (List ℕ))

-- the row of a store that nothing has used
abbrev pub new_store : StoreRow
new_store = record { list = []; lost = None; commits = None; due = false; found = None }

abbrev pub commit_next : StoreRow → ℕ
commit_next row = commit_of (unwrap_or row.commits 0 + 1)

-- the plan names the next commit
abbrev pub is_next_cut : Option Tear → StoreRow → Bool
is_next_cut plan row = names_commit plan (commit_next row)

-- opened: the lost call is found or not, and either way none is left
abbrev pub store_opened : StoreRow → Bool → StoreRow
store_opened row found = record row { list = list_found row.list row.lost found; lost = None; commits = Some 0 }

-- opened for a purchase: a full list is to be delivered first
abbrev pub opened_to_add : StoreRow → Bool → StoreRow
opened_to_add row found = record (store_opened row found) { due = length (store_opened row found).list == 7 }

-- opened for settlement
abbrev pub opened_to_settle : StoreRow → Bool → StoreRow
opened_to_settle row found = record (store_opened row found) { found = Some (store_opened row found).list }

-- turned off
abbrev pub store_closed : StoreRow → StoreRow
store_closed row = record row { commits = None; due = false }

-- behind a call that was made
abbrev pub made_call : StoreRow → Call → StoreRow
made_call row call = record row { list = called row.list call; commits = option_map (λ made. made + 1) row.commits }

-- behind a call that was cut
abbrev pub cut_call : Option Tear → StoreRow → Call → StoreRow
cut_call plan row call =
    record row {
      list = (call_left_by plan row.list call).list;
      lost = (call_left_by plan row.list call).lost;
      commits = None;
      due = false;
    }

-- a call under a plan
abbrev pub call_under_plan : Option Tear → StoreRow → Call → StoreRow
call_under_plan plan row call = if is_next_cut plan row then cut_call plan row call else made_call row call

-- behind the delivery of its first message
abbrev pub delivered_by : Option Tear → StoreRow → StoreRow
delivered_by plan row = record (call_under_plan plan row Drops) { due = false }

-- behind the end of a purchase, with its capture or without one
abbrev pub ended_by : Option Tear → StoreRow → Option (List ℕ) → StoreRow
ended_by plan row None = store_closed row
ended_by plan row (Some message) = store_closed (call_under_plan plan row (Adds message))
