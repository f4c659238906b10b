-- How much a run comes to: purchases end one by one, and each captures at most one message.
-- So the settlement and the audit have no more steps than the scenario's purchases, lanes and cards allow.
use Rattle.std.proofs.Common.{◌≡◌, ℕ, suc, ◌+◌, ◌*◌, ◌-◌, ◌≤◌, ◌<◌, Bool, true, false, List, [], ◌∷◌, ◌++◌, length, replicate, get_or, slice_get, Option, Some, None, refl, sym, ap, ◌∙◌, subst, arith, length-append}
use Rattle.std.specs.List.{flat_map, sum_by}
use Rattle.std.specs.Prelude.{if◌then◌else◌, unwrap_or, option_to_list, option_and_then}
use Rattle.std.proofs.lemmas.List.{length-replicate}
use Rattle.std.proofs.lemmas.List.Sums.{sum_by-cons}
use Rattle.std.proofs.lemmas.Option.{slice_get_within, get_or_from_slice_get}
use Rattle.capture_store.specs.StoreRow.{opened_to_add}
use Rattle.card_files.specs.Views.{AppData, ImageData}
use Rattle.emv_dict.specs.Views.{PurchaseData}
use Rattle.emv_dict.specs.declared.ending.Ending.{Ending}
use Rattle.emv_dict.specs.declared.ending.Ending.TheVariants.{Approved, Declined, Terminated, CutOff}
use Rattle.kernel.specs.Ended.{EndData}
use Rattle.kernel.specs.Reply.{Reply}
use Rattle.object_lists.specs.CardRead.{ReadCard}
use Rattle.report_text.specs.declared.line.Line.{Line}
use Rattle.scenario_plan.specs.Cards.{CardData, IsKind, IsCard}
use Rattle.scenario_plan.specs.Plan.{ScenarioData, IsScenario}
use Rattle.scenario_lanes.specs.Plan.{LaneData, purchase_count}
use Rattle.scenario_lanes.specs.declared.plan.Planned.{Planned}
use Rattle.txn_replay.specs.Bounds.{purchases_in, IsFewIn, IsFew}
use Rattle.txn_replay.specs.Part.{approval, loses, lane_ended}
use Rattle.txn_replay.specs.Payment.{Payment, payment_of, payment_on, payment_in, next_of, durable_of}
use Rattle.txn_replay.specs.Run.{RunPlace, Reached}
use Rattle.txn_replay.specs.Sound.{IsWorldSound}
use Rattle.txn_replay.specs.Steps.{Sends, copies_of, dropped_copies, lane_settlements, settlements, settlements_from, app_checks, checks_for, card_checks, checks_from, checks, part_of, choice_in, turned_by, settles, audits, happens}
use Rattle.txn_replay.specs.Storing.{lane_lost, lane_copied, lane_piece}
use Rattle.txn_replay.specs.World.{Past, LaneRow, World, new_lane, first_world, lane_at, with_store}
use Rattle.txn_replay.specs.declared.event.Event.{Event}
use Rattle.txn_replay.specs.declared.event.Event.TheVariants.{Turn, Settle, Audit}
use Rattle.txn_replay.proofs.RunLaws.CardsReached.{reached_keeps}
use Rattle.txn_replay.proofs.ExchangeLaws.LaneOutcomes.{lane_lane}
use Rattle.txn_replay.proofs.Lists.{at_set, get_or-map_const}
use Rattle.txn_replay.proofs.ExchangeLaws.LaneMessages.{Later, as_is, beginning, messaging, later_ended, unsent, LanesLike, settle_like, audit_like}

-- a purchase that the scenario has is one of its lane's
pub inside_lane : (s : ScenarioData) (l n : ℕ) (p : Payment) → payment_in s l n ≡ Some p → n < purchases_in (slice_get s.lanes l)
unfolding payment_in
inside_lane s l n p is = by_lane (slice_get s.lanes l) is
  where
    by_planned : (lane : LaneData) (o : Option Planned) → slice_get lane.purchases n ≡ o → option_and_then (payment_of s l lane) o ≡ Some p
        → n < length lane.purchases
    by_planned lane None there is = cc
    by_planned lane (Some planned) there is = slice_get_within lane.purchases n planned there

    by_lane : (o : Option LaneData) → option_and_then (payment_on s l n) o ≡ Some p → n < purchases_in o
    by_lane None is = cc
    by_lane (Some lane) is = by_planned lane (slice_get lane.purchases n) refl is

one_approval : (purchase : PurchaseData) (ending : Ending) (card : Option ReadCard) → length (approval purchase ending card) ≤ 1
one_approval purchase (Approved online) (Some card) = omega arith
one_approval purchase (Approved online) None = omega arith
one_approval purchase (Declined online) card = omega arith
one_approval purchase (Terminated step cause) card = omega arith
one_approval purchase (CutOff step) card = omega arith

one_capture : (o : Option (List ℕ)) → length (option_to_list o) ≤ 1
one_capture None = omega arith
one_capture (Some message) = omega arith

one_if_waiting : (durable : Bool) (o : Option (List ℕ)) → length (if durable then [] else option_to_list o) ≤ 1
one_if_waiting true o = omega arith
one_if_waiting false o = one_capture o

one_if_told : (lost : Bool) (purchase : PurchaseData) (ending : Ending) (card : Option ReadCard)
    → length (if lost then [] else approval purchase ending card) ≤ 1
one_if_told true purchase ending card = omega arith
one_if_told false purchase ending card = one_approval purchase ending card

one_ended : (s : ScenarioData) (l : ℕ) (p : Payment) (row : LaneRow) (replies : List Reply) (end : EndData) → IsFewIn s l row
    → length row.ended < purchases_in (slice_get s.lanes l) → IsFewIn s l (lane_ended p replies end row)
one_ended s l p row replies end few room =
    let more : length (row.ended ++ record { began = row.began; replies = replies; end = Some end; lost = loses p row.store end.capture } ∷ [])
    ≡ length row.ended + 1 =
    length-append row.ended (record { began = row.began; replies = replies; end = Some end; lost = loses p row.store end.capture } ∷ []) in
    record {
      captures =
          (let both : length (row.captures ++ (if p.durable then [] else option_to_list end.capture))
          ≡ length row.captures + length (if p.durable then [] else option_to_list end.capture) =
          length-append row.captures (if p.durable then [] else option_to_list end.capture) in
          let one : length (if p.durable then [] else option_to_list end.capture) ≤ 1 = one_if_waiting p.durable end.capture in
          let before : length row.captures ≤ length row.ended = few.captures in
          omega arith);
      log =
          (let both : length (row.log ++ (if loses p row.store end.capture then [] else approval p.planned.purchase end.ending end.card))
          ≡ length row.log + length (if loses p row.store end.capture then [] else approval p.planned.purchase end.ending end.card) =
          length-append row.log (if loses p row.store end.capture then [] else approval p.planned.purchase end.ending end.card) in
          let one : length (if loses p row.store end.capture then [] else approval p.planned.purchase end.ending end.card) ≤ 1 =
          one_if_told (loses p row.store end.capture) p.planned.purchase end.ending end.card in
          let before : length row.log ≤ length row.ended = few.log in
          omega arith);
      ended = omega arith;
    }

-- a purchase that is lost before its card is powered up captures nothing
one_lost : (s : ScenarioData) (l : ℕ) (row : LaneRow) → IsFewIn s l row → length row.ended < purchases_in (slice_get s.lanes l) → IsFewIn s l (lane_lost row)
one_lost s l row few room =
    let more : length (row.ended ++ record { began = None; replies = []; end = None; lost = true } ∷ []) ≡ length row.ended + 1 =
    length-append row.ended (record { began = None; replies = []; end = None; lost = true } ∷ []) in
    let captures : length row.captures ≤ length row.ended = few.captures in
    let log : length row.log ≤ length row.ended = few.log in
    record { captures = omega arith; log = omega arith; ended = omega arith }

abbrev pub LanesFew : ScenarioData → World → Type 0
LanesFew s w = (l : ℕ) → IsFewIn s l (lane_at w l)

-- what doesn't end a purchase leaves these counts
few_later : (s : ScenarioData) (l : ℕ) (before lane : LaneRow) → IsFewIn s l before → Later before lane → IsFewIn s l lane
few_later s l before _ few as_is = few
few_later s l before _ few (beginning found) = record { captures = few.captures; log = few.log; ended = few.ended }
few_later s l before _ few (messaging message) = record { captures = few.captures; log = few.log; ended = few.ended }

few_like : (s : ScenarioData) (l : ℕ) (v w : LaneRow) → unsent v ≡ unsent w → IsFewIn s l w → IsFewIn s l v
few_like s l v w like few =
    let now : IsFewIn s l (unsent v) =
    subst (λ (row : LaneRow). IsFewIn s l row) (sym like) (record { captures = few.captures; log = few.log; ended = few.ended }) in
    record { captures = now.captures; log = now.log; ended = now.ended }

module _ (s : ScenarioData) where
  pub turn_few : (w : World) (l : ℕ) (choices : List Bool) (o : Option Payment) → next_of s w l ≡ o → LanesFew s w
      → LanesFew s (turned_by w l choices o).world
  turn_few w l choices None is few = few
  turn_few w l choices (Some p) is few =
      at_set (IsFewIn s) w.lanes l (lane_piece p (part_of w l p.planned.card) (choice_in choices 0) (choice_in choices 1)).part.lane new_lane here few
    where
      before : IsFewIn s l (lane_at w l)
      before = few l

      room : length (lane_at w l).ended < purchases_in (slice_get s.lanes l)
      room = inside_lane s l (length (lane_at w l).ended) p is

      -- which has as many ended purchases
      room_in : (row : LaneRow) → row.ended ≡ (lane_at w l).ended → length row.ended < purchases_in (slice_get s.lanes l)
      room_in row same = subst (λ (pasts : List Past). length pasts < purchases_in (slice_get s.lanes l)) (sym same) room

      goes_on : (row lane : LaneRow) (replies : List Reply) → IsFewIn s l row → row.ended ≡ (lane_at w l).ended → Later row lane
          → IsFewIn s l (record lane { running = Some replies })
      goes_on row lane replies has same later =
          let now : IsFewIn s l lane = few_later s l row lane has later in record { captures = now.captures; log = now.log; ended = now.ended }

      ends : (row lane : LaneRow) (replies : List Reply) (end : EndData) → IsFewIn s l row → row.ended ≡ (lane_at w l).ended → Later row lane
          → IsFewIn s l (lane_ended p replies end lane)
      ends row lane replies end has same later =
          one_ended s l p lane replies end (few_later s l row lane has later) (room_in lane (later_ended row lane later ∙ same))

      same_few : (row : LaneRow) → row.ended ≡ (lane_at w l).ended → row.captures ≡ (lane_at w l).captures → row.log ≡ (lane_at w l).log → IsFewIn s l row
      same_few row ended captures log = record {
        captures = rw (ended, captures) before.captures;
        log = rw (ended, log) before.log;
        ended = rw ended before.ended;
      }

      copied_few : (message : List ℕ) → IsFewIn s l (lane_copied p message (lane_at w l))
      copied_few message = same_few (lane_copied p message (lane_at w l)) refl refl refl

      here : IsFewIn s l (lane_piece p (part_of w l p.planned.card) (choice_in choices 0) (choice_in choices 1)).part.lane
      here =
          lane_lane (IsFewIn s l) p (part_of w l p.planned.card) before goes_on ends
          (λ one at off. same_few (with_store (opened_to_add (lane_at w l).store one) (lane_at w l)) refl refl refl)
          (λ at. one_lost s l (lane_at w l) before room)
          (λ message at on. copied_few message)
          (λ message at on. one_lost s l (lane_copied p message (lane_at w l)) (copied_few message) room)
          (choice_in choices 0) (choice_in choices 1)

  pub like_few : (w v : World) → LanesLike v w → LanesFew s w → LanesFew s v
  like_few w v like few l = few_like s l (lane_at v l) (lane_at w l) (like.each l) (few l)

  event_few : (w : World) (e : Event) (choices : List Bool) → LanesFew s w → LanesFew s (happens s w e choices).world
  event_few w (Turn l) choices few = turn_few w l choices (next_of s w l) refl few
  event_few w (Settle k) choices few =
      like_few w (settles s w choices (slice_get (settlements s w) k)).world (settle_like s w choices (slice_get (settlements s w) k)) few
  event_few w (Audit k) choices few =
      like_few w (audits w choices (slice_get (checks s) k)).world (audit_like w choices (slice_get (checks s) k)) few

  pub first_few : LanesFew s (first_world s)
  first_few l =
      subst (λ (row : LaneRow). IsFewIn s l row) (sym (get_or-map_const s.lanes l new_lane))
      (record { captures = omega arith; log = omega arith; ended = omega arith })

  pub lanes_few : (place : RunPlace) (n : ℕ) (choices : List Bool) (lines : List Line) (w : World) → Reached s place n choices lines w → LanesFew s w
  lanes_few = reached_keeps s (LanesFew s) first_few event_few

-- each row below its lane's purchases, and so in the sum
pub sum_below : (f : LaneRow → ℕ) (rows : List LaneRow) (lanes : List LaneData) → length rows ≡ length lanes
    → ((i : ℕ) (row : LaneRow) → slice_get rows i ≡ Some row → f row ≤ purchases_in (slice_get lanes i))
    → sum_by f rows ≤ purchase_count lanes
sum_below f [] [] same below = omega arith
sum_below f [] (lane ∷ lanes) same below = omega arith
sum_below f (row ∷ rows) [] same below = absurd (omega arith)
sum_below f (row ∷ rows) (lane ∷ lanes) same below =
    let first : f row ≤ length lane.purchases = below 0 row refl in
    let others : sum_by f rows ≤ purchase_count lanes = sum_below f rows lanes (omega arith) (λ i other here. below (suc i) other here) in
    let left : sum_by f (row ∷ rows) ≡ f row + sum_by f rows = sum_by-cons f row rows in
    let right : purchase_count (lane ∷ lanes) ≡ length lane.purchases + purchase_count lanes =
    sum_by-cons (λ (x : LaneData). length x.purchases) lane lanes in
    omega arith

pub copies_length : (copies l : ℕ) (captures : List (List ℕ)) → length (flat_map (copies_of copies l) captures) ≡ copies * length captures
copies_length copies l [] = omega arith
copies_length copies l (message ∷ captures) =
    let both : length (copies_of copies l message ++ flat_map (copies_of copies l) captures)
    ≡ length (copies_of copies l message) + length (flat_map (copies_of copies l) captures) =
    length-append (copies_of copies l message) (flat_map (copies_of copies l) captures) in
    let one : length (copies_of copies l message) ≡ copies = length-replicate copies (Sends l message false) in
    let others : length (flat_map (copies_of copies l) captures) ≡ copies * length captures = copies_length copies l captures in
    omega arith

-- the last copy drops the message
pub dropped_length : (copies l : ℕ) (found : List (List ℕ)) → 1 ≤ copies → length (flat_map (dropped_copies copies l) found) ≡ copies * length found
dropped_length copies l [] some = omega arith
dropped_length copies l (message ∷ found) some =
    let both : length (dropped_copies copies l message ++ flat_map (dropped_copies copies l) found)
    ≡ length (dropped_copies copies l message) + length (flat_map (dropped_copies copies l) found) =
    length-append (dropped_copies copies l message) (flat_map (dropped_copies copies l) found) in
    let earlier : length (replicate (copies - 1) (Sends l message false)) ≡ copies - 1 = length-replicate (copies - 1) (Sends l message false) in
    let one : length (dropped_copies copies l message) ≡ length (replicate (copies - 1) (Sends l message false)) + 1 =
    length-append (replicate (copies - 1) (Sends l message false)) (Sends l message true ∷ []) in
    let others : length (flat_map (dropped_copies copies l) found) ≡ copies * length found = dropped_length copies l found some in
    omega arith

-- what the opening for settlement finds is few
abbrev pub HasFewFound : LaneRow → Type 0
HasFewFound row = length (unwrap_or row.store.found []) ≤ 7

times_le : (c a b : ℕ) → a ≤ b → c * a ≤ c * b
times_le c a b le = grind arith

lane_length : (copies l : ℕ) (row : LaneRow) (durable : Bool) → 1 ≤ copies → HasFewFound row
    → length (lane_settlements copies l row durable) ≤ copies * length row.captures + (1 + copies * 7)
lane_length copies l row false some few = omega (arith, copies_length copies l row.captures)
lane_length copies l row true some few =
    let own : length (flat_map (dropped_copies copies l) (unwrap_or row.store.found [])) ≡ copies * length (unwrap_or row.store.found []) =
    dropped_length copies l (unwrap_or row.store.found []) some in
    let most : copies * length (unwrap_or row.store.found []) ≤ copies * 7 = times_le copies (length (unwrap_or row.store.found [])) 7 few in
    omega arith

-- a product over a sum, with a bound for each summand
added : (c a b d e k n : ℕ) → a ≤ c * b + k → d ≤ c * e + k * n → a + d ≤ c * (b + e) + k * (n + 1)
added c a b d e k n first second = omega arith

pub settlements_length : (s : ScenarioData) (l : ℕ) (rows : List LaneRow) → 1 ≤ s.copies → ((i : ℕ) (row : LaneRow) → slice_get rows i ≡ Some row → HasFewFound row)
    → length (settlements_from s l rows) ≤ s.copies * sum_by (λ row. length row.captures) rows + (1 + s.copies * 7) * length rows
unfolding settlements_from
settlements_length s l [] some few = omega arith
settlements_length s l (row ∷ rows) some few =
    let both : length (lane_settlements s.copies l row (durable_of s l) ++ settlements_from s (l + 1) rows)
    ≡ length (lane_settlements s.copies l row (durable_of s l)) + length (settlements_from s (l + 1) rows) =
    length-append (lane_settlements s.copies l row (durable_of s l)) (settlements_from s (l + 1) rows) in
    let one : length (lane_settlements s.copies l row (durable_of s l)) ≤ s.copies * length row.captures + (1 + s.copies * 7) =
    lane_length s.copies l row (durable_of s l) some (few 0 row refl) in
    let others : length (settlements_from s (l + 1) rows) ≤ s.copies * sum_by (λ (x : LaneRow). length x.captures) rows + (1 + s.copies * 7) * length rows =
    settlements_length s (l + 1) rows some (λ i other there. few (suc i) other there) in
    let sum : sum_by (λ (x : LaneRow). length x.captures) (row ∷ rows) ≡ length row.captures + sum_by (λ (x : LaneRow). length x.captures) rows =
    sum_by-cons (λ (x : LaneRow). length x.captures) row rows in
    let all : length (lane_settlements s.copies l row (durable_of s l)) + length (settlements_from s (l + 1) rows)
    ≤ s.copies * (length row.captures + sum_by (λ (x : LaneRow). length x.captures) rows) + (1 + s.copies * 7) * (length rows + 1) =
    added s.copies _ (length row.captures) _ (sum_by (λ (x : LaneRow). length x.captures) rows) (1 + s.copies * 7) (length rows) one others in
    let count : length rows + 1 ≡ length (row ∷ rows) = omega arith in
    rw (sum, both)
    (subst (λ n. length (lane_settlements s.copies l row (durable_of s l)) + length (settlements_from s (l + 1) rows)
    ≤ s.copies * (length row.captures + sum_by (λ (x : LaneRow). length x.captures) rows) + (1 + s.copies * 7) * n) count all)

pub few_of : (s : ScenarioData) (w : World) → IsWorldSound s w → LanesFew s w → ((l : ℕ) → HasFewFound (lane_at w l)) → IsFew s w
few_of s w sound few found =
    record {
      lanes = here;
      ended = sum_below (λ row. length row.ended) w.lanes s.lanes sound.lane_count (λ i row there. (here i row there).ended);
      settlements = λ some.
          (let captured : sum_by (λ (row : LaneRow). length row.captures) w.lanes ≤ purchase_count s.lanes =
          sum_below (λ row. length row.captures) w.lanes s.lanes sound.lane_count captures_below in
          let all : length (settlements s w) ≤ s.copies * sum_by (λ (row : LaneRow). length row.captures) w.lanes + (1 + s.copies * 7) * length w.lanes =
          settlements_length s 0 w.lanes some found_at in
          let most : s.copies * sum_by (λ (row : LaneRow). length row.captures) w.lanes ≤ s.copies * purchase_count s.lanes =
          times_le s.copies (sum_by (λ (row : LaneRow). length row.captures) w.lanes) (purchase_count s.lanes) captured in
          let lanes : (1 + s.copies * 7) * length w.lanes ≡ (1 + s.copies * 7) * length s.lanes =
          ap (λ n. (1 + s.copies * 7) * n) sound.lane_count in
          omega arith);
    }
  where
    here : (l : ℕ) (row : LaneRow) → slice_get w.lanes l ≡ Some row → IsFewIn s l row
    here l row there = subst (λ (x : LaneRow). IsFewIn s l x) (get_or_from_slice_get w.lanes l row new_lane there) (few l)

    found_at : (l : ℕ) (row : LaneRow) → slice_get w.lanes l ≡ Some row → HasFewFound row
    found_at l row there = subst HasFewFound (get_or_from_slice_get w.lanes l row new_lane there) (found l)

    captures_below : (i : ℕ) (row : LaneRow) → slice_get w.lanes i ≡ Some row → length row.captures ≤ purchases_in (slice_get s.lanes i)
    captures_below i row there =
        let one : IsFewIn s i row = here i row there in
        let a : length row.captures ≤ length row.ended = one.captures in
        let b : length row.ended ≤ purchases_in (slice_get s.lanes i) = one.ended in
        omega arith

most_of : (copies purchases lanes n : ℕ) → copies ≤ 3 → purchases ≤ 10000 → lanes ≤ 16 → n ≤ copies * purchases + (1 + copies * 7) * lanes → n ≤ 30352
most_of copies purchases lanes n few_copies few_purchases few_lanes below =
    let most : copies * purchases ≤ 3 * 10000 = grind arith in
    let own : (1 + copies * 7) * lanes ≤ 22 * 16 = grind arith in
    omega arith

pub settlements_few : (s : ScenarioData) (w : World) → IsScenario s → IsFew s w → length (settlements s w) ≤ 30352
settlements_few s w is few =
    most_of s.copies (purchase_count s.lanes) (length s.lanes) (length (settlements s w)) is.tables.few_copies is.tables.few_purchases is.tables.few_lanes
    (few.settlements is.tables.one_copy)

-- The steps of an audit.
pub asks_length : (i : ℕ) (card : CardData) (apps : List AppData) → length (flat_map (app_checks i card) apps) ≡ 3 * length apps
asks_length i card [] = refl
asks_length i card (app ∷ apps) =
    let others : length (flat_map (app_checks i card) apps) ≡ 3 * length apps = asks_length i card apps in omega arith

card_length : (i : ℕ) (card : CardData) → length (card_checks i card) ≤ 1 + 3 * length card.image.apps
card_length i card = by_kind card.canned
  where
    by_kind : (o : Option (List (List ℕ))) → length (checks_for i card o) ≤ 1 + 3 * length card.image.apps
    by_kind None = let asks : length (flat_map (app_checks i card) card.image.apps) ≡ 3 * length card.image.apps = asks_length i card card.image.apps in omega arith
    by_kind (Some answers) = omega arith

pub checks_length : (i : ℕ) (cards : List CardData) → ((k : ℕ) (card : CardData) → slice_get cards k ≡ Some card → length card.image.apps ≤ 4)
    → length (checks_from i cards) ≤ 13 * length cards
unfolding checks_from
checks_length i [] few = omega arith
checks_length i (card ∷ cards) few =
    let own : length (card_checks i card) ≤ 1 + 3 * length card.image.apps = card_length i card in
    let both : length (card_checks i card ++ checks_from (i + 1) cards) ≡ length (card_checks i card) + length (checks_from (i + 1) cards) =
    length-append (card_checks i card) (checks_from (i + 1) cards) in
    let apps : length card.image.apps ≤ 4 = few 0 card refl in
    let others : length (checks_from (i + 1) cards) ≤ 13 * length cards = checks_length (i + 1) cards (λ k other here. few (suc k) other here) in
    omega arith

pub checks_few : (s : ScenarioData) → IsScenario s → length (checks s) ≤ 832
checks_few s is =
    let most : length (checks s) ≤ 13 * length s.cards = checks_length 0 s.cards apps in
    let cards : length s.cards ≤ 64 = is.tables.cards.few in
    omega arith
  where
    of_kind : (image : ImageData) (o : Option (List (List ℕ))) → IsKind image o → length image.apps ≤ 4
    of_kind image None kind = kind.apps.few
    of_kind image (Some answers) kind = let none : length image.apps ≡ 0 = ap (λ (x : ImageData). length x.apps) kind.0 in omega arith

    apps : (k : ℕ) (card : CardData) → slice_get s.cards k ≡ Some card → length card.image.apps ≤ 4
    apps k card here =
        let rules : IsCard (get_or s.cards k card) = is.tables.cards.each k card (slice_get_within s.cards k card here) in
        subst (λ (x : CardData). length x.image.apps ≤ 4) (get_or_from_slice_get s.cards k card card here)
        (of_kind (get_or s.cards k card).image (get_or s.cards k card).canned rules.kind)
