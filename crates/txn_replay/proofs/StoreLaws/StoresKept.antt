-- The stores in every world of a run: they never hold more than seven messages, and have room while a purchase runs.
-- The law `StoresAreKept`: an opening finds no more than was added.
use Rattle.std.proofs.Common.{◌≡◌, ◌⊎◌, ℕ, ◌+◌, ◌≤◌, ◌<◌, ◌==◌, Bool, true, false, List, [], ◌∷◌, ◌++◌, length, drop, set, slice_get, Option, Some, None, refl, sym, ap, ◌∙◌, subst, inl, inr, arith, length-append, length-drop}
use Rattle.std.specs.Prelude.{if◌then◌else◌, is_some, unwrap_or, option_map}
use Rattle.std.proofs.lemmas.Bool.Decides.{nat_tests}
use Rattle.capture_store.proofs.Sendings.{leaves_one}
use Rattle.capture_store.specs.Calls.{Call, Adds, Drops, called, list_found, call_left_by}
use Rattle.capture_store.specs.StoreRow.{StoreRow, new_store, is_next_cut, opened_to_add, opened_to_settle, store_closed, made_call, cut_call, call_under_plan, ended_by}
use Rattle.emv_ports.specs.declared.tear.Tear.{Tear}
use Rattle.kernel.specs.Reply.{Reply}
use Rattle.report_text.specs.declared.line.Line.{Line}
use Rattle.scenario_plan.specs.Plan.{ScenarioData}
use Rattle.txn_replay.specs.Part.{Part, lane_ended, piece}
use Rattle.txn_replay.specs.Payment.{Payment, next_of, durable_of}
use Rattle.txn_replay.specs.Run.{RunPlace, Settling, Reached, start, scheduled, rounds, round, again, settlement, settling, audit, auditing, finished, all_over}
use Rattle.txn_replay.specs.Steps.{Settlement, Opens, Sends, Check, PowersUp, Asks, checks, settlements, part_of, choice_in, turned_by, lane_settled, settles, audits, happens}
use Rattle.txn_replay.specs.Stored.{IsStored, StoredBy, StoresStand}
use Rattle.txn_replay.specs.Storing.{part_with, lane_lost, lane_copied, copied, copy_lines, dropped_by, delivers_first, lane_piece}
use Rattle.txn_replay.specs.World.{LaneRow, World, new_lane, first_world, lane_at, with_store}
use Rattle.txn_replay.specs.declared.event.Event.TheVariants.{Turn}
use Rattle.txn_replay.proofs.RunLaws.FewEvents.{HasFewFound}
use Rattle.txn_replay.proofs.ExchangeLaws.LaneOutcomes.{piece_lane}
use Rattle.txn_replay.proofs.Lists.{at_set, get_or-map_const}
use Rattle.txn_replay.proofs.ExchangeLaws.PurchaseFacts.{payment_facts}
use Rattle.txn_replay.proofs.ExchangeLaws.LaneMessages.{Later, as_is, beginning, messaging, settle_like}
use Rattle.txn_replay.proofs.SettlementLaws.SettlementSteps.{IsOfStore, durable_steps}
use Rattle.txn_replay.proofs.StoreLaws.StoreFirst.{has_room}
use Rattle.txn_replay.proofs.RunLaws.TurnsEnd.{calm_over, stays_over, not_over}
use Rattle.txn_replay.proofs.ExchangeLaws.SixWays.{AtRest, IsOn, Goes, plain, runs, ready, lane_ways}

-- what a lost call leaves is one of two lists
left_few : (plan : Option Tear) (list : List (List ℕ)) (call : Call) → length list ≤ 7 → length (called list call) ≤ 7 → (found : Bool)
    → length (list_found (call_left_by plan list call).list (call_left_by plan list call).lost found) ≤ 7
left_few plan list call few more found =
    elim (leaves_one plan list call found) [
      | inl before ↦ subst (λ (xs : List (List ℕ)). length xs ≤ 7) (sym before) few
      | inr behind ↦ subst (λ (xs : List (List ℕ)). length xs ≤ 7) (sym behind) more
    ]

-- where no call is lost, the list itself is found
here_few : (list : List (List ℕ)) (lost : Option Call) → lost ≡ None → ((found : Bool) → length (list_found list lost found) ≤ 7) → length list ≤ 7
here_few list None is few = few true
here_few list (Some call) is few = cc

found_here : (list : List (List ℕ)) (lost : Option Call) (found : Bool) → lost ≡ None → length list ≤ 7 → length (list_found list lost found) ≤ 7
found_here list None found is few = few
found_here list (Some call) found is few = cc

-- a store that is open for a purchase, with room
pub record HasRoom (store : StoreRow) : Type 0 where
  pub few : length store.list < 7
  pub none : store.lost ≡ None
  pub made : ℕ
  pub on : store.commits ≡ Some made
  pub due : store.due ≡ false
  pub found_few : length (unwrap_or store.found []) ≤ 7

-- behind a call it is off where the call was cut, and else as it was
record CalledStore (store : StoreRow) : Type 0 where
  few : (found : Bool) → length (list_found store.list store.lost found) ≤ 7
  none : is_some store.commits ≡ true → store.lost ≡ None

call_few : (plan : Option Tear) (store : StoreRow) (call : Call) (cut : Bool) → store.lost ≡ None → length store.list ≤ 7 → length (called store.list call) ≤ 7
    → CalledStore (if cut then cut_call plan store call else made_call store call)
call_few plan store call true none few more = record { few = left_few plan store.list call few more; none = λ on. cc }
call_few plan store call false none few more = record { few = λ found. found_here (called store.list call) store.lost found none more; none = λ on. none }

-- a closed store, for a lane in which no purchase runs
closed_stored : (row : LaneRow) (store : StoreRow) → row.running ≡ None → row.store ≡ store_closed store → ((found : Bool) → length (list_found store.list store.lost found) ≤ 7)
    → length (unwrap_or store.found []) ≤ 7 → IsStored row
closed_stored row store rests is few found = record {
  few = λ one. subst (λ (x : StoreRow). length (list_found x.list x.lost one) ≤ 7) (sym is) (few one);
  found_few = subst (λ (x : StoreRow). length (unwrap_or x.found []) ≤ 7) (sym is) found;
  clean = λ on. (let off : is_some row.store.commits ≡ false = ap (λ (x : StoreRow). is_some x.commits) is in cc);
  opens = λ on. (let off : is_some row.running ≡ false = ap is_some rests in cc);
  room = λ on. (let off : is_some row.running ≡ false = ap is_some rests in cc);
}

-- the messages behind one more
more_few : (list : List (List ℕ)) (message : List ℕ) → length list < 7 → length (list ++ message ∷ []) ≤ 7
more_few list message room = omega (arith, length-append list (message ∷ []))

less_few : (list : List (List ℕ)) → length list ≤ 7 → length (drop 1 list) < 7
less_few list few = omega (arith, few, length-drop 1 list)

-- the found list stays behind a call
call_found : (plan : Option Tear) (store : StoreRow) (call : Call) (cut : Bool) → (if cut then cut_call plan store call else made_call store call).found ≡ store.found
call_found plan store call true = refl
call_found plan store call false = refl

ended_stored : (plan : Option Tear) (row : LaneRow) (store : StoreRow) (capture : Option (List ℕ)) → row.running ≡ None → row.store ≡ ended_by plan store capture
    → HasRoom store → IsStored row
ended_stored plan row store None rests is room =
    closed_stored row store rests is (λ found. found_here store.list store.lost found room.none (omega (arith, room.few))) room.found_few
ended_stored plan row store (Some message) rests is room =
    let behind = call_few plan store (Adds message) (is_next_cut plan store) room.none (omega (arith, room.few)) (more_few store.list message room.few) in
    closed_stored row (call_under_plan plan store (Adds message)) rests is behind.few
    (subst (λ (found : Option (List (List ℕ))). length (unwrap_or found []) ≤ 7) (sym (call_found plan store (Adds message) (is_next_cut plan store))) room.found_few)

not_seven : (n : ℕ) → n < 7 → (n == 7) ≡ false
not_seven n below = grind (arith, nat_tests)

-- a lane with another purchase, or with none
with_running : (row : LaneRow) (replies : List Reply) → HasRoom row.store → IsStored (record row { running = Some replies })
with_running row replies room = record {
  few = λ found. found_here row.store.list row.store.lost found room.none (omega (arith, room.few));
  found_few = room.found_few;
  clean = λ on. record {
    none = room.none;
    due = λ first. room.due ∙ sym (not_seven (length row.store.list) room.few);
  };
  opens = λ on. ap is_some room.on;
  room = λ on. room.due;
}

-- a lane whose store is the same
later_room : (before lane : LaneRow) → Later before lane → HasRoom before.store → HasRoom lane.store
later_room before _ as_is room = room
later_room before _ (beginning found) room = room
later_room before _ (messaging message) room = room

room_from : (row : LaneRow) (made : ℕ) → IsStored row → row.store.found ≡ None → row.store.commits ≡ Some made → row.store.due ≡ false → HasRoom row.store
room_from row made stored first on due =
    let open_so = stored.clean (ap is_some on) in
    let few : length row.store.list ≤ 7 = here_few row.store.list row.store.lost open_so.none stored.few in
    let seven : (length row.store.list == 7) ≡ false = sym (open_so.due first) ∙ due in
    record {
      few = has_room (length row.store.list) few seven;
      none = open_so.none;
      made = made;
      on = on;
      due = due;
      found_few = stored.found_few;
    }

-- a purchase that goes on with room in its store, or begins
piece_stored : (p : Payment) (part : Part) (choice : Bool) → p.durable ≡ true → IsStored part.lane → HasRoom part.lane.store
    → IsStored (piece p part choice).part.lane
piece_stored p part choice durable stored room =
    piece_lane IsStored p part stored
    (λ lane replies later. with_running lane replies (later_room part.lane lane later room))
    (λ lane replies end later.
    ended_stored p.planned.terminal_tear (lane_ended p replies end lane) lane.store end.capture refl
    (ap (λ (b : Bool). if b then ended_by p.planned.terminal_tear lane.store end.capture else lane.store) durable)
    (later_room part.lane lane later room))
    choice

-- an opened store
opened_stored : (row : LaneRow) (one : Bool) → row.running ≡ None → IsStored row → IsStored (with_store (opened_to_add row.store one) row)
opened_stored row one rests stored = record {
  few = λ found. stored.few one;
  found_few = stored.found_few;
  clean = λ on. record { none = refl; due = λ first. refl };
  opens = λ on. refl;
  room = λ on. (let off : is_some row.running ≡ false = ap is_some rests in cc);
}

lost_stored : (row : LaneRow) → IsStored row → IsStored (lane_lost row)
lost_stored row stored = record { few = stored.few; found_few = stored.found_few; clean = stored.clean; opens = stored.opens; room = stored.room }

-- behind a delivery
copied_stored : (p : Payment) (message : List ℕ) (row : LaneRow) → row.running ≡ None → is_some row.store.commits ≡ true → IsStored row
    → IsStored (lane_copied p message row)
copied_stored p message row rests on stored =
    let open_so = stored.clean on in
    let few : length row.store.list ≤ 7 = here_few row.store.list row.store.lost open_so.none stored.few in
    let less : length (drop 1 row.store.list) < 7 = less_few row.store.list few in
    by (is_next_cut p.planned.terminal_tear row.store) few less open_so.none
  where
    by : (cut : Bool) → length row.store.list ≤ 7 → length (drop 1 row.store.list) < 7 → row.store.lost ≡ None
        → IsStored (record (lane_copied p message row) { store = record (if cut then cut_call p.planned.terminal_tear row.store Drops else made_call row.store Drops) { due = false } })
    by true few less none = record {
      few = left_few p.planned.terminal_tear row.store.list Drops few (omega (arith, less));
      found_few = stored.found_few;
      clean = λ on. cc;
      opens = λ on. (let off : is_some row.running ≡ false = ap is_some rests in cc);
      room = λ on. (let off : is_some row.running ≡ false = ap is_some rests in cc);
    }
    by false few less none = record {
      few = λ found. found_here (drop 1 row.store.list) row.store.lost found none (omega (arith, less));
      found_few = stored.found_few;
      clean = λ on. record { none = none; due = λ first. sym (not_seven (length (drop 1 row.store.list)) less) };
      opens = λ on. (let off : is_some row.running ≡ false = ap is_some rests in cc);
      room = λ on. refl;
    }

lane_stored : (p : Payment) (part : Part) (one other : Bool) → p.durable ≡ true → IsStored part.lane → part.lane.store.found ≡ None
    → IsStored (lane_piece p part one other).part.lane
lane_stored p part one other durable stored first =
    lane_ways (λ m. IsStored m.part.lane) p part
    stored
    goes
    (λ at off cut. lost_stored part.lane stored)
    (λ choice at off full. opened_stored part.lane choice at.rests stored)
    (λ choice second at off room.
    piece_stored p (part_with (opened_to_add part.lane.store choice) part) second durable (opened_stored part.lane choice at.rests stored)
    (room_from (with_store (opened_to_add part.lane.store choice) part.lane) 0 (opened_stored part.lane choice at.rests stored) first refl room))
    (λ at on. delivered at on part.lane.store.list)
    one other
  where
    goes : (choice : Bool) → Goes p part → IsStored (piece p part choice).part.lane
    goes choice (plain none) = cc
    goes choice (runs is replies ran) =
        let on = stored.opens (ap is_some ran) in
        let made = some_of part.lane.store.commits on in
        piece_stored p part choice durable stored (room_from part.lane made.0 stored first made.1 (stored.room (ap is_some ran)))
      where
        some_of : (o : Option ℕ) → is_some o ≡ true → (n : ℕ) × (o ≡ Some n)
        some_of None is_so = cc
        some_of (Some n) is_so = (n, refl)
    goes choice (ready at on) = piece_stored p part choice durable stored (room_from part.lane on.made stored first on.on on.due_is)

    delivered : AtRest p part → IsOn part true → (list : List (List ℕ)) → IsStored (delivers_first p part list).part.lane
    delivered at on [] = stored
    delivered at on (message ∷ others) = by (is_next_cut p.planned.terminal_tear part.lane.store)
      where
        by : (cut : Bool) → IsStored (dropped_by p (copied p message part) (copy_lines p message part.messages p.copies) cut).part.lane
        by true = lost_stored (lane_copied p message part.lane) (copied_stored p message part.lane at.rests (ap is_some on.on) stored)
        by false = copied_stored p message part.lane at.rests (ap is_some on.on) stored

-- a lane without a store never has one
pub plain_stored : (p : Payment) (part : Part) (one other : Bool) → p.durable ≡ false → part.lane.store ≡ new_store
    → (lane_piece p part one other).part.lane.store ≡ new_store
plain_stored p part one other durable none =
    lane_ways (λ m. m.part.lane.store ≡ new_store) p part
    none
    (λ choice so. piece_lane (λ row. row.store ≡ new_store) p part none
    (λ lane replies later. later_store part.lane lane later none)
    (λ lane replies end later.
    ap (λ (b : Bool). if b then ended_by p.planned.terminal_tear lane.store end.capture else lane.store) durable
    ∙ later_store part.lane lane later none) choice)
    (λ at off cut. not at)
    (λ choice at off full. not at)
    (λ choice second at off room. not at)
    (λ at on. not at)
    one other
  where
    not : {A : Type 0} → AtRest p part → A
    not at = let no : true ≡ false = sym at.durable ∙ durable in cc

    later_store : (before lane : LaneRow) → Later before lane → before.store ≡ new_store → lane.store ≡ new_store
    later_store before _ as_is is = is
    later_store before _ (beginning found) is = is
    later_store before _ (messaging message) is = is

-- no turn opens a store for settlement
pub piece_found : (p : Payment) (part : Part) (one other : Bool) → part.lane.store.found ≡ None → (lane_piece p part one other).part.lane.store.found ≡ None
piece_found p part one other first =
    lane_ways (λ m. m.part.lane.store.found ≡ None) p part
    first
    (λ choice so. plain_found part choice first)
    (λ at off cut. first)
    (λ choice at off full. first)
    (λ choice second at off room. plain_found (part_with (opened_to_add part.lane.store choice) part) second first)
    (λ at on. delivered part.lane.store.list)
    one other
  where
    ended : (lane : LaneRow) (capture : Option (List ℕ)) (durable : Bool) → lane.store.found ≡ None
        → (if durable then ended_by p.planned.terminal_tear lane.store capture else lane.store).found ≡ None
    ended lane None true is = is
    ended lane (Some message) true is = call_found p.planned.terminal_tear lane.store (Adds message) (is_next_cut p.planned.terminal_tear lane.store) ∙ is
    ended lane capture false is = is

    later_found : (before lane : LaneRow) → Later before lane → before.store.found ≡ None → lane.store.found ≡ None
    later_found before _ as_is is = is
    later_found before _ (beginning found) is = is
    later_found before _ (messaging message) is = is

    plain_found : (at : Part) (choice : Bool) → at.lane.store.found ≡ None → (piece p at choice).part.lane.store.found ≡ None
    plain_found at choice is =
        piece_lane (λ row. row.store.found ≡ None) p at is
        (λ lane replies later. later_found at.lane lane later is)
        (λ lane replies end later. ended lane end.capture p.durable (later_found at.lane lane later is)) choice

    delivered : (list : List (List ℕ)) → (delivers_first p part list).part.lane.store.found ≡ None
    delivered [] = first
    delivered (message ∷ others) = by (is_next_cut p.planned.terminal_tear part.lane.store)
      where
        same : (lane_copied p message part.lane).store.found ≡ None
        same = call_found p.planned.terminal_tear part.lane.store Drops (is_next_cut p.planned.terminal_tear part.lane.store) ∙ first

        by : (cut : Bool) → (dropped_by p (copied p message part) (copy_lines p message part.messages p.copies) cut).part.lane.store.found ≡ None
        by true = same
        by false = same

settle_opened : (row : LaneRow) (choice : Bool) → IsStored row → IsStored (with_store (opened_to_settle row.store choice) row)
settle_opened row choice stored = record {
  few = λ found. stored.few choice;
  found_few = stored.few choice;
  clean = λ on. record { none = refl; due = λ first. cc };
  opens = λ on. refl;
  room = stored.room;
}

-- one message less, whatever is found
dropped_few : (list : List (List ℕ)) (lost : Option Call) → ((found : Bool) → length (list_found list lost found) ≤ 7)
    → (found : Bool) → length (list_found (drop 1 list) lost found) ≤ 7
dropped_few list None few found = let whole : length list ≤ 7 = few true in omega (arith, length-drop 1 list)
dropped_few list (Some (Adds message)) few true =
    let whole : length (list ++ message ∷ []) ≤ 7 = few true in
    omega (arith, length-drop 1 list, length-append list (message ∷ []), length-append (drop 1 list) (message ∷ []))
dropped_few list (Some Drops) few true =
    let whole : length list ≤ 7 = few false in omega (arith, length-drop 1 list, length-drop 1 (drop 1 list))
dropped_few list (Some call) few false = let whole : length list ≤ 7 = few false in omega (arith, length-drop 1 list)

settle_sent : (row : LaneRow) (message : List ℕ) (drops : Bool) → (drops ≡ true → row.store.found ≡ None → ⊥) → IsStored row
    → IsStored (lane_settled message drops row)
settle_sent row message false never stored =
    record { few = stored.few; found_few = stored.found_few; clean = stored.clean; opens = stored.opens; room = stored.room }
settle_sent row message true never stored = record {
  few = dropped_few row.store.list row.store.lost stored.few;
  found_few = stored.found_few;
  clean = λ on. record {
    none = (stored.clean (was_on row.store.commits on)).none;
    due = λ first. absurd (never refl first);
  };
  opens = λ ran. still_on row.store.commits (stored.opens ran);
  room = stored.room;
}
  where
    was_on : (o : Option ℕ) → is_some (option_map (λ made. made + 1) o) ≡ true → is_some o ≡ true
    was_on None on = on
    was_on (Some made) on = refl

    still_on : (o : Option ℕ) → is_some o ≡ true → is_some (option_map (λ made. made + 1) o) ≡ true
    still_on None on = on
    still_on (Some made) on = refl

new_stored : (durable : Bool) → StoredBy durable new_lane
new_stored true = record {
  few = λ found. omega arith;
  found_few = omega arith;
  clean = λ on. cc;
  opens = λ on. cc;
  room = λ on. cc;
}
new_stored false = refl

module _ (s : ScenarioData) where
  -- a turn, which comes only before every purchase is over
  turn_stores : (w : World) (l : ℕ) (choices : List Bool) (o : Option Payment) → next_of s w l ≡ o → StoresStand s w
      → (k : ℕ) → StoredBy (durable_of s k) (lane_at (turned_by w l choices o).world k)
  turn_stores w l choices None is stand k = stand.lanes k
  turn_stores w l choices (Some p) is stand k =
      at_set (λ (i : ℕ) (row : LaneRow). StoredBy (durable_of s i) row) w.lanes l
      (lane_piece p (part_of w l p.planned.card) (choice_in choices 0) (choice_in choices 1)).part.lane new_lane
      (by (durable_of s l) (payment_facts s l _ p is).durable (stand.lanes l)) stand.lanes k
    where
      first : (lane_at w l).store.found ≡ None
      first = elim (stand.before l) [ inl none ↦ none | inr over ↦ absurd (not_over s w l p is over) ]

      by : (durable : Bool) → p.durable ≡ durable → StoredBy durable (lane_at w l)
          → StoredBy durable (lane_piece p (part_of w l p.planned.card) (choice_in choices 0) (choice_in choices 1)).part.lane
      by true durable stored = lane_stored p (part_of w l p.planned.card) (choice_in choices 0) (choice_in choices 1) durable stored first
      by false durable none = plain_stored p (part_of w l p.planned.card) (choice_in choices 0) (choice_in choices 1) durable none

  -- and every later turn
  turn_before : (w : World) (l : ℕ) (choices : List Bool) (o : Option Payment) → next_of s w l ≡ o → StoresStand s w
      → (k : ℕ) → ((lane_at (turned_by w l choices o).world k).store.found ≡ None) ⊎ (all_over s (turned_by w l choices o).world ≡ true)
  turn_before w l choices None is stand k = stand.before k
  turn_before w l choices (Some p) is stand k =
      inl (at_set (λ (i : ℕ) (row : LaneRow). row.store.found ≡ None) w.lanes l
      (lane_piece p (part_of w l p.planned.card) (choice_in choices 0) (choice_in choices 1)).part.lane new_lane
      (piece_found p (part_of w l p.planned.card) (choice_in choices 0) (choice_in choices 1) (first l)) first k)
    where
      first : (i : ℕ) → (lane_at w i).store.found ≡ None
      first i = elim (stand.before i) [ inl none ↦ none | inr over ↦ absurd (not_over s w l p is over) ]

  pub turn_stand : (w : World) (l : ℕ) (choices : List Bool) → StoresStand s w → StoresStand s (happens s w (Turn l) choices).world
  turn_stand w l choices stand = record {
    lanes = turn_stores w l choices (next_of s w l) refl stand;
    before = turn_before w l choices (next_of s w l) refl stand;
  }

  -- a step of the settlement, when every purchase is over
  store_set : (w : World) (l : ℕ) (row : LaneRow) (messages : List (List ℕ)) → durable_of s l ≡ true ⊎ (row.store ≡ (lane_at w l).store)
      → (IsStored (lane_at w l) → IsStored row) → StoresStand s w → (k : ℕ)
      → StoredBy (durable_of s k) (lane_at (record { cards = w.cards; lanes = set w.lanes l row; messages = messages }) k)
  store_set w l row messages either stays stand k =
      at_set (λ (i : ℕ) (x : LaneRow). StoredBy (durable_of s i) x) w.lanes l row new_lane (by (durable_of s l) refl (stand.lanes l)) stand.lanes k
    where
      by : (durable : Bool) → durable_of s l ≡ durable → StoredBy durable (lane_at w l) → StoredBy durable row
      by true is stored = stays stored
      by false is none =
          elim either [
            | inl durable ↦ (let no : true ≡ false = sym durable ∙ is in cc)
            | inr same ↦ same ∙ none
          ]

  pub settle_stand : (w : World) (choices : List Bool) (o : Option Settlement) → ((at : Settlement) → o ≡ Some at → IsOfStore s w at) → all_over s w ≡ true
      → StoresStand s w → StoresStand s (settles s w choices o).world
  settle_stand w choices None durable over stand = stand
  settle_stand w choices (Some (Opens l)) durable over stand = record {
    lanes = store_set w l (with_store (opened_to_settle (lane_at w l).store (choice_in choices 0)) (lane_at w l)) w.messages (inl (durable (Opens l) refl))
        (λ stored. settle_opened (lane_at w l) (choice_in choices 0) stored) stand;
    before = λ k. inr (stays_over s w (settles s w choices (Some (Opens l))).world (settle_like s w choices (Some (Opens l))) over);
  }
  settle_stand w choices (Some (Sends l message drops)) durable over stand = record {
    lanes = store_set w l (lane_settled message drops (lane_at w l)) (w.messages ++ message ∷ []) (either drops (λ last. (durable (Sends l message drops) refl last).on))
        (λ stored. settle_sent (lane_at w l) message drops (λ last. (durable (Sends l message drops) refl last).opened) stored) stand;
    before = λ k.
        inr (stays_over s w (settles s w choices (Some (Sends l message drops))).world (settle_like s w choices (Some (Sends l message drops))) over);
  }
    where
      either : (b : Bool) → (b ≡ true → durable_of s l ≡ true) → durable_of s l ≡ true ⊎ ((lane_settled message b (lane_at w l)).store ≡ (lane_at w l).store)
      either true on = inl (on refl)
      either false on = inr refl

  audit_stand : (w : World) (choices : List Bool) (o : Option Check) → StoresStand s w → StoresStand s (audits w choices o).world
  audit_stand w choices None stand = stand
  audit_stand w choices (Some (PowersUp i card)) stand =
      record { lanes = stand.lanes; before = λ k. elim (stand.before k) [ inl none ↦ inl none | inr over ↦ inr over ] }
  audit_stand w choices (Some (Asks i card command)) stand =
      record { lanes = stand.lanes; before = λ k. elim (stand.before k) [ inl none ↦ inl none | inr over ↦ inr over ] }

  pub first_stand : StoresStand s (first_world s)
  first_stand = record {
    lanes = λ l. subst (λ (row : LaneRow). StoredBy (durable_of s l) row) (sym (get_or-map_const s.lanes l new_lane)) (new_stored (durable_of s l));
    before = λ l. inl (ap (λ (row : LaneRow). row.store.found) (get_or-map_const s.lanes l new_lane));
  }

  by_step : (v after : World) (happened : World) → after ≡ happened → StoresStand s happened → StoresStand s after
  by_step v after happened leads stand = subst (λ (x : World). StoresStand s x) (sym leads) stand

  pub stores_stand : (place : RunPlace) (n : ℕ) (choices : List Bool) (lines : List Line) (w : World) → Reached s place n choices lines w → StoresStand s w
  stores_stand _ _ _ _ _ start = first_stand
  stores_stand _ _ _ _ _ (scheduled {l = l} {c = c} {w = v} {w' = v'} before at step) =
      by_step v v' (happens s v (Turn l) c).world step.leads (turn_stand v l c (stores_stand _ _ _ _ v before))
  stores_stand _ _ _ _ w (rounds before) = stores_stand _ _ _ _ w before
  stores_stand _ _ _ _ _ (round {l = l} {c = c} {w = v} {w' = v'} before inside on step) =
      by_step v v' (happens s v (Turn l) c).world step.leads (turn_stand v l c (stores_stand _ _ _ _ v before))
  stores_stand _ _ _ _ w (again before) = stores_stand _ _ _ _ w before
  stores_stand _ _ _ _ w (settlement before over) = stores_stand _ _ _ _ w before
  stores_stand _ _ _ _ _ (settling {k} {c = c} {w = v} {w' = v'} before at step) =
      by_step v v' (settles s v c (slice_get (settlements s v) k)).world step.leads
      (settle_stand v c (slice_get (settlements s v) k) (λ x is. durable_steps s v k x is) (calm_over s (Settling k) _ _ _ v before tt)
      (stores_stand _ _ _ _ v before))
  stores_stand _ _ _ _ w (audit before past) = stores_stand _ _ _ _ w before
  stores_stand _ _ _ _ _ (auditing {k} {c = c} {w = v} {w' = v'} before at step) =
      by_step v v' (audits v c (slice_get (checks s) k)).world step.leads (audit_stand v c (slice_get (checks s) k) (stores_stand _ _ _ _ v before))
  stores_stand _ _ _ _ w (finished before past) = stores_stand _ _ _ _ w before

-- what an opening for settlement finds is few
pub few_found : (durable : Bool) (row : LaneRow) → StoredBy durable row → HasFewFound row
few_found true row stored = stored.found_few
few_found false row none = subst (λ (store : StoreRow). length (unwrap_or store.found []) ≤ 7) (sym none) (omega arith)

pub reached_found : (s : ScenarioData) (place : RunPlace) (n : ℕ) (choices : List Bool) (lines : List Line) (w : World) → Reached s place n choices lines w
    → (l : ℕ) → HasFewFound (lane_at w l)
reached_found s place n choices lines w reached l = few_found (durable_of s l) (lane_at w l) ((stores_stand s place n choices lines w reached).lanes l)
