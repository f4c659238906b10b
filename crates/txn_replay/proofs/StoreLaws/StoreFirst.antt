-- What comes before a purchase, way by way, and what it leaves of the store and of the lost purchases.
-- A cut opening or drop loses the purchase, and leaves the list before or behind its call.
use Rattle.std.proofs.Common.{◌≡◌, ℕ, ◌+◌, ◌*◌, ◌-◌, ◌≤◌, ◌<◌, Bool, true, false, cond, List, [], ◌∷◌, ◌++◌, length, drop, replicate, slice_get, Option, Some, None, refl, sym, ap, ◌∙◌, subst, inl, inr, arith, length-append, length-drop}
use Rattle.std.specs.List.{All}
use Rattle.std.specs.Prelude.{◌==◌, if◌then◌else◌, not, ◌&&◌, is_some, option_map, option_and_then, option_to_list}
use Rattle.std.proofs.lemmas.Bool.{eqb-true}
use Rattle.std.proofs.lemmas.Bool.Decides.{nat_tests}
use Rattle.std.proofs.lemmas.List.Elements.{All-append, All-drop, All-head, All-replicate}
use Rattle.std.proofs.lemmas.List.Sums.{sum_by-append, sum_by-cons}
use Rattle.auth_message.specs.Whole.{IsMessage}
use Rattle.capture_store.proofs.Sendings.{leaves_one}
use Rattle.capture_store.specs.Calls.{Call, Adds, Drops, list_found}
use Rattle.capture_store.specs.SeenLaneStore.{LaneStoreSeen, LaneStoreOn, LaneStoreOff, store_losses, has_power, count_of}
use Rattle.capture_store.specs.StoreRow.{StoreRow, is_next_cut, store_opened, opened_to_add, made_call, cut_call, call_under_plan, delivered_by, ended_by}
use Rattle.emv_ports.specs.Cut.{commit_of}
use Rattle.emv_ports.specs.Causes.{one_more}
use Rattle.emv_ports.specs.Cut.{names_commit}
use Rattle.emv_ports.specs.declared.tear.Tear.{Tear}
use Rattle.issuer_host.specs.History.{HostData, HostStands}
use Rattle.report_text.specs.declared.line.Line.{Line}
use Rattle.report_text.specs.declared.line.Line.TheVariants.{EndLost}
use Rattle.txn_replay.specs.Counting.{capped_at_64, lost_count}
use Rattle.txn_replay.specs.Part.{Part, loses_by, loses, lane_ended}
use Rattle.txn_replay.specs.Payment.{Payment}
use Rattle.txn_replay.specs.Prepared.{StoreRests, IsEnded, PreparedBy}
use Rattle.txn_replay.specs.Reading.{past_card}
use Rattle.txn_replay.specs.Standing.{LaneKeeps, StorePlace, StoreStands, LaneStoreFor, LaneStoreStands, HasRoomForCapture, lane_left, rank_in, lane_store_left, capture_list_left}
use Rattle.txn_replay.specs.Stored.{IsOpen, IsStored, StoredBy}
use Rattle.txn_replay.specs.Storing.{part_with, lane_lost, lost_with, copy_lines, lane_copied, copied, dropped_by, delivers_first, Ends, Begins, opened_for, opens_by, goes_through, stored_by, free_by, runs_by, before_by, before_purchase}
use Rattle.txn_replay.specs.World.{Holder, LaneRow, Past, with_store}
use Rattle.kernel.specs.Ended.{EndData}
use Rattle.kernel.specs.Reply.{Reply}
use Rattle.txn_replay.specs.Stocking.{is_lost, losses_by_outcome, IsStoredBy}
use Rattle.txn_replay.specs.declared.lane.Outcome.{Outcome}
use Rattle.txn_replay.specs.declared.lane.Outcome.TheVariants.{Told, Lost}
use Rattle.txn_replay.specs.declared.lane.Lane.{Lane}
use Rattle.txn_replay.proofs.ExchangeLaws.DialogueOver.{last_past-push}
use Rattle.txn_replay.proofs.Lists.{drop_at}
use Rattle.txn_replay.proofs.StoreLaws.StorePlans.{ended_off}
use Rattle.txn_replay.proofs.StoreLaws.StoreOpen.{place_on, place_off, count_is}

-- one more lost purchase is one more loss of power, and one that isn't lost is none
pub one_lost_more : (ended : List Past) (past : Past) → past.lost ≡ true → one_more (capped_at_64 (lost_count ended)) ≡ capped_at_64 (lost_count (ended ++ past ∷ []))
one_lost_more ended past lost =
    let more : lost_count (ended ++ past ∷ []) ≡ lost_count ended + lost_count (past ∷ []) = sum_by-append (λ (x : Past). cond x.lost 1 0) ended (past ∷ []) in
    let one : lost_count (past ∷ []) ≡ cond past.lost 1 0 + 0 = sum_by-cons (λ (x : Past). cond x.lost 1 0) past [] in
    let is : cond past.lost 1 0 + 0 ≡ 1 = ap (λ (b : Bool). cond b 1 0 + 0) lost in
    omega (arith, more, one, is)

pub none_lost_more : (ended : List Past) (past : Past) → past.lost ≡ false → capped_at_64 (lost_count ended) ≡ capped_at_64 (lost_count (ended ++ past ∷ []))
none_lost_more ended past told =
    let more : lost_count (ended ++ past ∷ []) ≡ lost_count ended + lost_count (past ∷ []) = sum_by-append (λ (x : Past). cond x.lost 1 0) ended (past ∷ []) in
    let one : lost_count (past ∷ []) ≡ cond past.lost 1 0 + 0 = sum_by-cons (λ (x : Past). cond x.lost 1 0) past [] in
    let is : cond past.lost 1 0 + 0 ≡ 0 = ap (λ (b : Bool). cond b 1 0 + 0) told in
    omega (arith, more, one, is)

-- what a lane keeps once a purchase was lost before its card was powered up
pub lost_keeps : (lane : Lane) (row : LaneRow) → LaneKeeps lane row → LaneKeeps (record lane { ended = lane.ended + 1; place = None; ending = None }) (lane_lost row)
lost_keeps lane row keeps = record {
  ended = (let more : length (row.ended ++ gone ∷ []) ≡ length row.ended + 1 = length-append row.ended (gone ∷ []) in omega (arith, more, keeps.ended));
  log = keeps.log;
  amounts = keeps.amounts;
  captures = keeps.captures;
  messages = keeps.messages;
  sent = keeps.sent;
  stored = keeps.stored;
  found = keeps.found;
  card = λ none. ap (λ (o : Option Past). option_and_then past_card o) (sym (last_past-push row.ended gone));
  ending = ap (λ (o : Option Past). option_and_then (λ past. option_map (λ end. end.ending) past.end) o) (sym (last_past-push row.ended gone));
}
  where
    gone : Past
    gone = record { began = None; replies = []; end = None; lost = true }

-- with another store, and other messages made for the host
pub keeps_with : (lane : Lane) (row : LaneRow) (sent : List (List ℕ)) (store : StoreRow) → LaneKeeps lane row → All IsMessage sent
    → ((found : Bool) → All IsMessage (list_found store.list store.lost found)) → lane.found ≡ option_map length store.found
    → LaneKeeps lane (record row { sent = sent; store = store })
keeps_with lane row sent store keeps messages stored found = record {
  ended = keeps.ended;
  log = keeps.log;
  amounts = keeps.amounts;
  captures = keeps.captures;
  messages = keeps.messages;
  sent = messages;
  stored = stored;
  found = found;
  card = keeps.card;
  ending = keeps.ending;
}

-- a store that is on tells nothing of its delivery
pub on_to_add : (lane_store : LaneStoreSeen) (store : StoreRow) (found : Bool) (plan : Option Tear) → LaneStoreOn lane_store (store_opened store found) plan
    → LaneStoreOn lane_store (opened_to_add store found) plan
on_to_add None store found plan on = on
on_to_add (Some seen) store found plan on = on

pub off_none : (lane_store : LaneStoreSeen) (store : StoreRow) → LaneStoreOff lane_store store → store.commits ≡ None
off_none None store off = absurd off
off_none (Some seen) store off = off.none

pub on_some : (lane_store : LaneStoreSeen) (store : StoreRow) (plan : Option Tear) → LaneStoreOn lane_store store plan → (made : ℕ) × (store.commits ≡ Some made)
on_some None store plan on = absurd on
on_some (Some seen) store plan on = by store.commits refl on.commit_is
  where
    by : (o : Option ℕ) → store.commits ≡ o → option_map commit_of o ≡ Some seen.memory.commit → (made : ℕ) × (store.commits ≡ Some made)
    by None is none = cc
    by (Some made) is some = (made, is)

-- the store of a lane whose next purchase is to come
module _ (p : Payment) (lane : Lane) (lane_store : LaneStoreSeen) (part : Part) (rests : StoreRests p lane lane_store part) (durable : p.durable ≡ true) where
  pub store_is : StoreStands lane_store part.lane p.planned.terminal_tear
  store_is = subst (λ (b : Bool). LaneStoreFor lane_store part.lane p.planned.terminal_tear b) durable rests.lane_store_is

  pub store_off : has_power lane_store ≡ false → LaneStoreOff lane_store part.lane.store
  store_off off = place_off lane_store part.lane.store p.planned.terminal_tear part.lane.store.commits store_is.place off

  pub store_on : has_power lane_store ≡ true → LaneStoreOn lane_store part.lane.store p.planned.terminal_tear
  store_on on = place_on lane_store part.lane.store p.planned.terminal_tear part.lane.store.commits store_is.place on

  at_store : (one : Bool) → before_purchase p part one ≡ stored_by p part one part.lane.store.commits
  at_store one =
      ap (λ (b : Bool). before_by p part one b) durable
      ∙ ap (λ (o : Option (List Reply)). runs_by p part one o) rests.rests
      ∙ ap (λ (o : Option Holder). free_by p part one o) rests.free

  -- the opening is cut
  pub before_lost : (one : Bool) → part.lane.store.commits ≡ None → names_commit p.planned.terminal_tear 0 ≡ true → before_purchase p part one ≡ Ends (lost_with p part [])
  before_lost one off cut =
      at_store one ∙ ap (λ (o : Option ℕ). stored_by p part one o) off ∙ ap (λ (b : Bool). opens_by p part one b) cut

  -- or completed
  pub before_opened : (one : Bool) → part.lane.store.commits ≡ None → names_commit p.planned.terminal_tear 0 ≡ false
      → before_purchase p part one ≡ opened_for (part_with (opened_to_add part.lane.store one) part) (opened_to_add part.lane.store one).due
  before_opened one off spared =
      at_store one ∙ ap (λ (o : Option ℕ). stored_by p part one o) off ∙ ap (λ (b : Bool). opens_by p part one b) spared

  -- an open store is delivered from, or the purchase begins
  pub before_on : (one : Bool) (made : ℕ) → part.lane.store.commits ≡ Some made → before_purchase p part one ≡ goes_through p part part.lane.store.due
  before_on one made on = at_store one ∙ ap (λ (o : Option ℕ). stored_by p part one o) on

  -- behind the opening
  pub opened_keeps : (one : Bool) → LaneKeeps lane (with_store (opened_to_add part.lane.store one) part.lane)
  opened_keeps one = keeps_with lane part.lane part.lane.sent (opened_to_add part.lane.store one) rests.keeps rests.keeps.sent (λ found. rests.keeps.stored one) rests.keeps.found

  pub opened_stands : (one : Bool) (behind : LaneStoreSeen) → LaneStoreOn behind (store_opened part.lane.store one) p.planned.terminal_tear → store_losses behind ≡ store_losses lane_store
      → LaneStoreFor behind (with_store (opened_to_add part.lane.store one) part.lane) p.planned.terminal_tear p.durable
  opened_stands one behind on losses =
      subst (λ (b : Bool). LaneStoreFor behind (with_store (opened_to_add part.lane.store one) part.lane) p.planned.terminal_tear b) (sym durable)
      (record { place = on_to_add behind part.lane.store one p.planned.terminal_tear on; losses = losses ∙ store_is.losses })

  -- a full store ends this exchange, and one with room lets the purchase begin
  pub opened_prepared : (one full : Bool) (behind : LaneStoreSeen) (host : HostData) (lines : List Line) → LaneStoreOn behind (store_opened part.lane.store one) p.planned.terminal_tear
      → store_losses behind ≡ store_losses lane_store → HostStands host part.messages → lines ≡ [] → full ≡ (length (store_opened part.lane.store one).list == 7)
      → PreparedBy p lane behind host lines (not full)
      (opened_for (part_with (opened_to_add part.lane.store one) part) (opened_to_add part.lane.store one).due)
  opened_prepared one full behind host lines on losses messages made full_so =
      subst (λ (b : Bool). PreparedBy p lane behind host lines (not b)
      (opened_for (part_with (opened_to_add part.lane.store one) part) (opened_to_add part.lane.store one).due)) (sym full_so)
      (by (opened_to_add part.lane.store one).due)
    where
      by : (due : Bool) → PreparedBy p lane behind host lines (not due) (opened_for (part_with (opened_to_add part.lane.store one) part) due)
      by true = record { keeps = opened_keeps one; lane_store_is = opened_stands one behind on losses; messages = messages; lines_are = made }
      by false = record { keeps = opened_keeps one; lane_store_is = opened_stands one behind on losses; messages = messages }

  -- behind a cut opening
  pub lost_opening : (later : Lane) (behind : LaneStoreSeen) (host : HostData) (lines : List Line) → LaneKeeps later (lane_lost part.lane) → LaneStoreOff behind part.lane.store
      → store_losses behind ≡ one_more (store_losses lane_store) → HostStands host part.messages → lines ≡ EndLost p.lane (length part.lane.ended + 1) ∷ []
      → IsEnded p later behind host lines (lost_with p part [])
  lost_opening later behind host lines keeps off losses messages made = record {
    keeps = keeps;
    lane_store_is = subst (λ (b : Bool). LaneStoreFor behind (lane_lost part.lane) p.planned.terminal_tear b) (sym durable)
        (record {
          place = subst (λ (o : Option ℕ). StorePlace behind part.lane.store p.planned.terminal_tear o) (sym (off_none behind part.lane.store off)) off;
          losses = losses ∙ ap one_more store_is.losses ∙ one_lost_more part.lane.ended (record { began = None; replies = []; end = None; lost = true }) refl;
        });
    messages = messages;
    lines_are = made;
  }

-- a full store that is on, by how many exchanges it has left
pub full_is : (lane_store : LaneStoreSeen) → lane_store_left lane_store ≡ 1 → (has_power lane_store ≡ true) × ((count_of lane_store == 7) ≡ true)
full_is None one = absurd (omega (arith, one))
full_is (Some seen) one = by seen.memory.on (length seen.list == 7) refl refl one
  where
    by : (on full : Bool) → seen.memory.on ≡ on → (length seen.list == 7) ≡ full → capture_list_left on full ≡ 1 → (seen.memory.on ≡ true) × ((length seen.list == 7) ≡ true)
    by true true on_is is left = (on_is, is)
    by true false on_is is left = absurd (omega (arith, left))
    by false full on_is is left = absurd (omega (arith, left))

-- behind the delivery of the first message: its drop was made, or cut
pub delivered_messages : (plan : Option Tear) (store : StoreRow) → store.lost ≡ None → All IsMessage store.list → (found : Bool)
    → All IsMessage (list_found (delivered_by plan store).list (delivered_by plan store).lost found)
delivered_messages plan store none all found = by (is_next_cut plan store)
  where
    by : (cut : Bool)
        → All IsMessage (list_found (if cut then cut_call plan store Drops else made_call store Drops).list (if cut then cut_call plan store Drops else made_call store Drops).lost found)
    by false = subst (λ (o : Option Call). All IsMessage (list_found (drop 1 store.list) o found)) (sym none) (All-drop IsMessage 1 store.list all)
    by true =
        elim (leaves_one plan store.list Drops found) [
          | inl before ↦ subst (λ (xs : List (List ℕ)). All IsMessage xs) (sym before) all
          | inr behind ↦ subst (λ (xs : List (List ℕ)). All IsMessage xs) (sym behind) (All-drop IsMessage 1 store.list all)
        ]

pub delivered_found : (plan : Option Tear) (store : StoreRow) → (delivered_by plan store).found ≡ store.found
delivered_found plan store = by (is_next_cut plan store)
  where
    by : (cut : Bool) → (if cut then cut_call plan store Drops else made_call store Drops).found ≡ store.found
    by true = refl
    by false = refl

-- a store that is on, or off, whatever its delivery is
on_delivered : (lane_store : LaneStoreSeen) (store : StoreRow) (plan : Option Tear) → LaneStoreOn lane_store store plan → StorePlace lane_store (record store { due = false }) plan store.commits
on_delivered None store plan on = absurd on
on_delivered (Some seen) store plan on = by store.commits refl on.commit_is
  where
    by : (o : Option ℕ) → store.commits ≡ o → option_map commit_of o ≡ Some seen.memory.commit → StorePlace (Some seen) (record store { due = false }) plan o
    by None is none = cc
    by (Some made) is some = record { on = on.on; list_is = on.list_is; fits = on.fits; none = on.none; commit_is = on.commit_is; plan_is = on.plan_is }

off_delivered : (lane_store : LaneStoreSeen) (store : StoreRow) (plan : Option Tear) → LaneStoreOff lane_store store → StorePlace lane_store (record store { due = false }) plan store.commits
off_delivered None store plan off = absurd off
off_delivered (Some seen) store plan off = by store.commits refl
  where
    by : (o : Option ℕ) → store.commits ≡ o → StorePlace (Some seen) (record store { due = false }) plan o
    by None is = record { off = off.off; may = off.may; none = off.none }
    by (Some made) is = (let no : None ≡ Some made = sym off.none ∙ is in cc)

-- the delivery of a full store
module _ (p : Payment) (lane : Lane) (lane_store : LaneStoreSeen) (part : Part) (rests : StoreRests p lane lane_store part) (durable : p.durable ≡ true)
    (full : lane_store_left lane_store ≡ 1) (message : List ℕ) (first_is : slice_get part.lane.store.list 0 ≡ Some message) where
  abbrev own_plan : Option Tear
  own_plan = p.planned.terminal_tear

  abbrev own_store : StoreRow
  own_store = part.lane.store

  on_store : LaneStoreOn lane_store own_store own_plan
  on_store = store_on p lane lane_store part rests durable (full_is lane_store full).0

  stored : IsStored part.lane
  stored = subst (λ (b : Bool). StoredBy b part.lane) durable rests.stored

  opened_once : IsOpen own_store
  opened_once = stored.clean (ap is_some (on_some lane_store own_store own_plan on_store).1)

  is_due : own_store.due ≡ true
  is_due = opened_once.due rests.before ∙ ap (λ n. n == 7) (sym (count_is lane_store own_store own_plan on_store)) ∙ (full_is lane_store full).1

  are_messages : All IsMessage own_store.list
  are_messages = subst (λ (o : Option Call). All IsMessage (list_found own_store.list o true)) opened_once.none (rests.keeps.stored true)

  list_is : own_store.list ≡ message ∷ drop 1 own_store.list
  list_is = drop_at own_store.list 0 message first_is

  is_message : IsMessage message
  is_message = All-head IsMessage message (drop 1 own_store.list) (subst (λ (xs : List (List ℕ)). All IsMessage xs) list_is are_messages)

  abbrev cut : Bool
  cut = is_next_cut own_plan own_store

  pub before_delivers : (one : Bool) → before_purchase p part one ≡ Ends (dropped_by p (copied p message part) (copy_lines p message part.messages p.copies) cut)
  before_delivers one =
      before_on p lane lane_store part rests durable one (on_some lane_store own_store own_plan on_store).0 (on_some lane_store own_store own_plan on_store).1
      ∙ ap (λ (b : Bool). goes_through p part b) is_due
      ∙ ap (λ (list : List (List ℕ)). Ends (delivers_first p part list)) list_is

  pub copied_keeps : LaneKeeps lane (lane_copied p message part.lane)
  copied_keeps =
      keeps_with lane part.lane (part.lane.sent ++ replicate p.copies message) (delivered_by own_plan own_store) rests.keeps
      (All-append IsMessage part.lane.sent (replicate p.copies message) rests.keeps.sent (All-replicate IsMessage p.copies message is_message))
      (delivered_messages own_plan own_store opened_once.none are_messages)
      (rests.keeps.found ∙ ap (λ (o : Option (List (List ℕ))). option_map length o) (sym (delivered_found own_plan own_store)))

  pub delivered_on : (behind : LaneStoreSeen) (host : HostData) (lines : List Line) → cut ≡ false → LaneStoreOn behind (call_under_plan own_plan own_store Drops) own_plan
      → store_losses behind ≡ store_losses lane_store → HostStands host (part.messages ++ replicate p.copies message) → lines ≡ copy_lines p message part.messages p.copies
      → IsEnded p lane behind host lines (dropped_by p (copied p message part) (copy_lines p message part.messages p.copies) cut)
  delivered_on behind host lines spared on losses messages made =
      subst (λ (b : Bool). IsEnded p lane behind host lines (dropped_by p (copied p message part) (copy_lines p message part.messages p.copies) b)) (sym spared)
      (record {
        keeps = copied_keeps;
        lane_store_is = subst (λ (b : Bool). LaneStoreFor behind (lane_copied p message part.lane) own_plan b) (sym durable)
            (record {
              place = on_delivered behind (call_under_plan own_plan own_store Drops) own_plan on;
              losses = losses ∙ (store_is p lane lane_store part rests durable).losses;
            });
        messages = messages;
        lines_are = made;
      })

  pub delivered_off : (later : Lane) (behind : LaneStoreSeen) (host : HostData) (lines : List Line) → cut ≡ true → LaneStoreOff behind (call_under_plan own_plan own_store Drops)
      → LaneKeeps later (lane_lost (lane_copied p message part.lane)) → store_losses behind ≡ one_more (store_losses lane_store)
      → HostStands host (part.messages ++ replicate p.copies message)
      → lines ≡ copy_lines p message part.messages p.copies ++ EndLost p.lane (length part.lane.ended + 1) ∷ []
      → IsEnded p later behind host lines (dropped_by p (copied p message part) (copy_lines p message part.messages p.copies) cut)
  delivered_off later behind host lines was_cut off keeps losses messages made =
      subst (λ (b : Bool). IsEnded p later behind host lines (dropped_by p (copied p message part) (copy_lines p message part.messages p.copies) b)) (sym was_cut)
      (record {
        keeps = keeps;
        lane_store_is = subst (λ (b : Bool). LaneStoreFor behind (lane_lost (lane_copied p message part.lane)) own_plan b) (sym durable)
            (record {
              place = off_delivered behind (call_under_plan own_plan own_store Drops) own_plan off;
              losses = losses ∙ ap one_more (store_is p lane lane_store part rests durable).losses
                  ∙ one_lost_more part.lane.ended (record { began = None; replies = []; end = None; lost = true }) refl;
            });
        messages = messages;
        lines_are = made;
      })

-- a purchase that has ended, with what it captured
call_list : (plan : Option Tear) (store : StoreRow) (message : List ℕ) (cut : Bool) → store.lost ≡ None → All IsMessage store.list → All IsMessage (message ∷ [])
    → (found : Bool)
    → All IsMessage (list_found (if cut then cut_call plan store (Adds message) else made_call store (Adds message)).list
    (if cut then cut_call plan store (Adds message) else made_call store (Adds message)).lost found)
call_list plan store message false none all one found =
    subst (λ (o : Option Call). All IsMessage (list_found (store.list ++ message ∷ []) o found)) (sym none) (All-append IsMessage store.list (message ∷ []) all one)
call_list plan store message true none all one found =
    elim (leaves_one plan store.list (Adds message) found) [
      | inl before ↦ subst (λ (xs : List (List ℕ)). All IsMessage xs) (sym before) all
      | inr behind ↦ subst (λ (xs : List (List ℕ)). All IsMessage xs) (sym behind) (All-append IsMessage store.list (message ∷ []) all one)
    ]

pub ended_messages : (plan : Option Tear) (store : StoreRow) (capture : Option (List ℕ)) → store.lost ≡ None → All IsMessage store.list
    → All IsMessage (option_to_list capture) → (found : Bool)
    → All IsMessage (list_found (ended_by plan store capture).list (ended_by plan store capture).lost found)
ended_messages plan store None none all one found = subst (λ (o : Option Call). All IsMessage (list_found store.list o found)) (sym none) all
ended_messages plan store (Some message) none all one found = call_list plan store message (is_next_cut plan store) none all one found

pub ended_found : (plan : Option Tear) (store : StoreRow) (capture : Option (List ℕ)) → (ended_by plan store capture).found ≡ store.found
ended_found plan store None = refl
ended_found plan store (Some message) = by (is_next_cut plan store)
  where
    by : (cut : Bool) → (if cut then cut_call plan store (Adds message) else made_call store (Adds message)).found ≡ store.found
    by true = refl
    by false = refl

-- its store is off, and has lost its power where the purchase was lost
pub stored_lane_store : (p : Payment) (row : LaneRow) (replies : List Reply) (end : EndData) (lane_store behind : LaneStoreSeen) (outcome : Outcome) → p.durable ≡ true
    → LaneStoreStands lane_store p row → has_power lane_store ≡ true → IsStoredBy lane_store behind p.planned.terminal_tear end.capture outcome
    → LaneStoreStands behind p (lane_ended p replies end row)
stored_lane_store p row replies end lane_store behind outcome durable stands on stored =
    subst (λ (b : Bool). LaneStoreFor behind (record (lane_ended p replies end row) {
      store = (if b then ended_by plan row.store end.capture else row.store);
    }) plan b) (sym durable)
    (record {
      place = subst (λ (o : Option ℕ). StorePlace behind (ended_by plan row.store end.capture) plan o) (sym (ended_off plan row.store end.capture))
          (stored.off row.store is_on);
      losses = stored.losses ∙ ap (λ n. losses_by_outcome outcome n) own.losses ∙ by outcome lost_is;
    })
  where
    plan : Option Tear
    plan = p.planned.terminal_tear

    own : StoreStands lane_store row plan
    own = subst (λ (b : Bool). LaneStoreFor lane_store row plan b) durable stands

    is_on : LaneStoreOn lane_store row.store plan
    is_on = place_on lane_store row.store plan row.store.commits own.place on

    lost_is : is_lost outcome ≡ loses p row.store end.capture
    lost_is = stored.told row.store is_on ∙ sym (ap (λ (b : Bool). b && loses_by plan row.store end.capture) durable)

    by : (o : Outcome) → is_lost o ≡ loses p row.store end.capture
        → losses_by_outcome o (capped_at_64 (lost_count row.ended)) ≡ capped_at_64 (lost_count (lane_ended p replies end row).ended)
    by Told told =
        none_lost_more row.ended (record { began = row.began; replies = replies; end = Some end; lost = loses p row.store end.capture }) (sym told)
    by Lost lost =
        one_lost_more row.ended (record { began = row.began; replies = replies; end = Some end; lost = loses p row.store end.capture }) (sym lost)

-- a lane without a store
pub plain_lane_store : (p : Payment) (row : LaneRow) (replies : List Reply) (end : EndData) (lane_store behind : LaneStoreSeen) → p.durable ≡ false → LaneStoreStands lane_store p row
    → behind ≡ lane_store → LaneStoreStands behind p (lane_ended p replies end row)
plain_lane_store p row replies end lane_store behind plain stands same =
    subst (λ (b : Bool). LaneStoreFor behind (lane_ended p replies end row) p.planned.terminal_tear b) (sym plain)
    (same ∙ subst (λ (b : Bool). LaneStoreFor lane_store row p.planned.terminal_tear b) plain stands)

-- either way, and the purchase was lost exactly where the outcome says so
pub ending_lane_store : (p : Payment) (row : LaneRow) (replies : List Reply) (end : EndData) (lane_store behind : LaneStoreSeen) (outcome : Outcome) → LaneStoreStands lane_store p row
    → HasRoomForCapture lane_store p.durable → (p.durable ≡ true → IsStoredBy lane_store behind p.planned.terminal_tear end.capture outcome)
    → (p.durable ≡ false → (outcome ≡ Told) × (behind ≡ lane_store))
    → LaneStoreStands behind p (lane_ended p replies end row) × (is_lost outcome ≡ loses p row.store end.capture)
ending_lane_store p row replies end lane_store behind outcome stands room kept plain = by p.durable refl
  where
    by : (durable : Bool) → p.durable ≡ durable → LaneStoreStands behind p (lane_ended p replies end row) × (is_lost outcome ≡ loses p row.store end.capture)
    by true is =
        let own : StoreStands lane_store row p.planned.terminal_tear = subst (λ (b : Bool). LaneStoreFor lane_store row p.planned.terminal_tear b) is stands in
        let on = place_on lane_store row.store p.planned.terminal_tear row.store.commits own.place (room is).0 in (
          stored_lane_store p row replies end lane_store behind outcome is stands (room is).0 (kept is),
          (kept is).told row.store on ∙ sym (ap (λ (b : Bool). b && loses_by p.planned.terminal_tear row.store end.capture) is),
        )
    by false is = (
      plain_lane_store p row replies end lane_store behind is stands (plain is).1,
      ap is_lost (plain is).0 ∙ sym (ap (λ (b : Bool). b && loses_by p.planned.terminal_tear row.store end.capture) is),
    )

-- a store that is on lets the purchase begin where it has room
module _ (p : Payment) (lane : Lane) (lane_store : LaneStoreSeen) (part : Part) (rests : StoreRests p lane lane_store part) (durable : p.durable ≡ true)
    (power : has_power lane_store ≡ true) where
  pub open_store : LaneStoreOn lane_store part.lane.store p.planned.terminal_tear
  open_store = store_on p lane lane_store part rests durable power

  open_stored : IsStored part.lane
  open_stored = subst (λ (b : Bool). StoredBy b part.lane) durable rests.stored

  open_so : IsOpen part.lane.store
  open_so = open_stored.clean (ap is_some (on_some lane_store part.lane.store p.planned.terminal_tear open_store).1)

  pub before_roomy : (one : Bool) → (count_of lane_store == 7) ≡ false → before_purchase p part one ≡ Begins part
  before_roomy one roomy =
      before_on p lane lane_store part rests durable one (on_some lane_store part.lane.store p.planned.terminal_tear open_store).0
      (on_some lane_store part.lane.store p.planned.terminal_tear open_store).1
      ∙ ap (λ (b : Bool). goes_through p part b)
      (open_so.due rests.before ∙ ap (λ n. n == 7) (sym (count_is lane_store part.lane.store p.planned.terminal_tear open_store)) ∙ roomy)

  pub open_messages : All IsMessage part.lane.store.list
  open_messages = subst (λ (o : Option Call). All IsMessage (list_found part.lane.store.list o true)) open_so.none (rests.keeps.stored true)

  pub few_in : count_of lane_store ≤ 7
  few_in =
      let few : length part.lane.store.list ≤ 7 = subst (λ (o : Option Call). length (list_found part.lane.store.list o true) ≤ 7) open_so.none (open_stored.few true) in
      omega (arith, few, count_is lane_store part.lane.store p.planned.terminal_tear open_store)

-- how many exchanges a store has left
pub left_one : (lane_store : LaneStoreSeen) → has_power lane_store ≡ true → (count_of lane_store == 7) ≡ true → lane_store_left lane_store ≡ 1
left_one None on full = cc
left_one (Some seen) on full = ap (λ (b : Bool). capture_list_left b (length seen.list == 7)) on ∙ ap (λ (b : Bool). capture_list_left true b) full

pub left_none : (lane_store : LaneStoreSeen) → has_power lane_store ≡ true → (count_of lane_store == 7) ≡ false → lane_store_left lane_store ≡ 0
left_none None on roomy = cc
left_none (Some seen) on roomy = ap (λ (b : Bool). capture_list_left b (length seen.list == 7)) on ∙ ap (λ (b : Bool). capture_list_left true b) roomy

pub left_on : (lane_store : LaneStoreSeen) → has_power lane_store ≡ true → lane_store_left lane_store ≤ 1
left_on lane_store on = by (count_of lane_store == 7) refl
  where
    by : (full : Bool) → (count_of lane_store == 7) ≡ full → lane_store_left lane_store ≤ 1
    by true is = omega (arith, left_one lane_store on is)
    by false is = omega (arith, left_none lane_store on is)

pub left_off : (lane_store : LaneStoreSeen) (store : StoreRow) → LaneStoreOff lane_store store → lane_store_left lane_store ≡ 2
left_off None store off = absurd off
left_off (Some seen) store off = ap (λ (b : Bool). capture_list_left b (length seen.list == 7)) off.off

pub left_few : (lane_store : LaneStoreSeen) → lane_store_left lane_store ≤ 2
left_few None = omega arith
left_few (Some seen) = by seen.memory.on (length seen.list == 7)
  where
    by : (on full : Bool) → capture_list_left on full ≤ 2
    by false full = omega arith
    by true true = omega arith
    by true false = omega arith

pub not_so : (b : Bool) → not b ≡ true → b ≡ false
not_so false is = refl
not_so true is = cc

-- fewer than seven
pub has_room : (n : ℕ) → n ≤ 7 → (n == 7) ≡ false → n < 7
has_room n few other = grind (arith, nat_tests)

pub seven_is : (n : ℕ) → (n == 7) ≡ true → n ≡ 7
seven_is n full = eqb-true n 7 full

-- a full store whose first message was dropped has none left to deliver
pub less_behind : (behind : LaneStoreSeen) (store : StoreRow) (plan : Option Tear) → has_power behind ≡ true → is_next_cut plan store ≡ false
    → LaneStoreOn behind (call_under_plan plan store Drops) plan → (count : ℕ) → count ≡ length store.list → (count == 7) ≡ true → lane_store_left behind ≡ 0
less_behind behind store plan power spared on count is full =
    left_none behind power (ap (λ n. n == 7) (count_is behind (call_under_plan plan store Drops) plan on ∙ six))
  where
    seven : length store.list ≡ 7
    seven = sym is ∙ seven_is count full

    six : length (call_under_plan plan store Drops).list ≡ 6
    six =
        ap (λ (b : Bool). length (if b then cut_call plan store Drops else made_call store Drops).list) spared
        ∙ length-drop 1 store.list ∙ ap (λ n. n - 1) seven

-- a purchase that is lost brings its lane nearer to its end, whatever its store is then
pub lane_nearer : (before later : Lane) (lane_store behind : LaneStoreSeen) → before.ended < 10000 → before.running ≡ None → later.running ≡ None
    → later.ended ≡ before.ended + 1 → lane_left later + lane_store_left behind < lane_left before + lane_store_left lane_store
lane_nearer before later lane_store behind few rests still more =
    let first : lane_left before ≡ 20103 * (10000 - before.ended) + 20099 = ap (λ o. 20103 * (10000 - before.ended) + rank_in o) rests in
    let second : lane_left later ≡ 20103 * (10000 - later.ended) + 20099 = ap (λ o. 20103 * (10000 - later.ended) + rank_in o) still in
    omega (arith, first, second, more, few, left_few behind)
