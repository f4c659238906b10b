-- The law of a store: whatever the next opening would find, what was sent and what is left is sent of what was caught
-- (this project's own).
use Rattle.std.specs.Prelude.{◌≡◌, ◌⊎◌, ℕ, Bool, true, List, [], ◌∷◌, ◌++◌, Option, None}
use Rattle.emv_ports.specs.declared.tear.Tear.{Tear}
use Rattle.capture_store.specs.Calls.{Call, Adds, Drops, called, list_found, call_left_by}
use Rattle.capture_store.specs.StoreRow.{StoreRow, new_store, is_next_cut, store_opened, call_under_plan}

-- the capture of a purchase, and whether the purchase was lost as it was added
pub record Caught : Type 0 where
  pub message : List ℕ
  pub lost : Bool

-- Of these captures these were sent, in their order: each once, or again, as its drop may be lost; that of a lost purchase
-- maybe never.
pub data Sends : List Caught → List (List ℕ) → Type 0 where
  none : Sends [] []
  once : (c : Caught) (others : List Caught) (sent : List (List ℕ)) → Sends others sent → Sends (c ∷ others) (c.message ∷ sent)
  again : (c : Caught) (others : List Caught) (sent : List (List ℕ)) → Sends (c ∷ others) (c.message ∷ sent) → Sends (c ∷ others) (c.message ∷ c.message ∷ sent)
  never : (c : Caught) (others : List Caught) (sent : List (List ℕ)) → c.lost ≡ true → Sends others sent → Sends (c ∷ others) sent

-- whatever the next opening would find, what was sent and what is left is sent of what was caught
abbrev pub KeepsSending : List Caught → List (List ℕ) → List (List ℕ) → Option Call → Type 0
KeepsSending caught sent list lost = (found : Bool) → Sends caught (sent ++ list_found list lost found)

abbrev pub RowKeeps : List Caught → List (List ℕ) → StoreRow → Type 0
RowKeeps caught sent row = KeepsSending caught sent row.list row.lost

-- the capture of a purchase whose store adds it under this plan
abbrev pub caught_by : Option Tear → StoreRow → List ℕ → Caught
caught_by plan row message = record { message = message; lost = is_next_cut plan row }

-- each step of a store keeps that what was sent and what is left is sent of what was caught, whatever the next
-- opening would find
pub record StoreKeeps : Type 0 where
  pub begins : RowKeeps [] [] new_store
  pub opens : (caught : List Caught) (sent : List (List ℕ)) (row : StoreRow) (found : Bool) → RowKeeps caught sent row → RowKeeps caught sent (store_opened row found)
  -- a message is added, under any plan
  pub adds : (caught : List Caught) (sent : List (List ℕ)) (row : StoreRow) (plan : Option Tear) (message : List ℕ) → row.lost ≡ None
      → RowKeeps caught sent row → RowKeeps (caught ++ caught_by plan row message ∷ []) sent (call_under_plan plan row (Adds message))
  -- the first message was sent, and is dropped, under any plan
  pub drops : (caught : List Caught) (sent : List (List ℕ)) (row : StoreRow) (plan : Option Tear) (message : List ℕ) (others : List (List ℕ)) → row.lost ≡ None
      → row.list ≡ message ∷ others → RowKeeps caught sent row → RowKeeps caught (sent ++ message ∷ []) (call_under_plan plan row Drops)
  -- nothing is left
  pub ends : (caught : List Caught) (sent : List (List ℕ)) (row : StoreRow) → row.lost ≡ None → row.list ≡ [] → RowKeeps caught sent row → Sends caught sent

-- a lost call leaves the list before it or behind it, whatever the next opening finds
abbrev pub LeavesOneOfTwo : Type 0
LeavesOneOfTwo =
    (plan : Option Tear) (list : List (List ℕ)) (call : Call) (found : Bool)
    → (list_found (call_left_by plan list call).list (call_left_by plan list call).lost found ≡ list)
    ⊎ (list_found (call_left_by plan list call).list (call_left_by plan list call).lost found ≡ called list call)
