-- While a lane's store is open, the purchase that is next or runs is the one whose plan it was opened under.
-- So a plan cuts the commits of its own purchase, and of no other.
use Rattle.std.proofs.Common.{◌≡◌, ℕ, Bool, true, false, List, [], ◌∷◌, length, Option, Some, None, refl, sym, ap, ◌∙◌, subst}
use Rattle.std.specs.Prelude.{if◌then◌else◌}
use Rattle.capture_store.specs.Calls.{Drops}
use Rattle.capture_store.specs.SeenLaneStore.{LaneStoreSeen, LaneStoreOn}
use Rattle.capture_store.specs.StoreRow.{StoreRow, is_next_cut, made_call, cut_call, opened_to_add, ended_by}
use Rattle.emv_ports.specs.declared.tear.Tear.{Tear}
use Rattle.scenario_plan.specs.Plan.{ScenarioData}
use Rattle.txn_replay.specs.Part.{Part, piece}
use Rattle.txn_replay.specs.Payment.{Payment, payment_in}
use Rattle.txn_replay.specs.Seen.{terminal_plan, LaneStoreAt}
use Rattle.txn_replay.specs.Standing.{StorePlace, LaneStoreFor, LaneStoreStands}
use Rattle.txn_replay.specs.Storing.{part_with, copied, copy_lines, dropped_by, delivers_first, lane_piece}
use Rattle.txn_replay.specs.World.{LaneRow}
use Rattle.txn_replay.proofs.ExchangeLaws.LaneOutcomes.{piece_lane}
use Rattle.txn_replay.proofs.ExchangeLaws.PurchaseFacts.{payment_facts}
use Rattle.txn_replay.proofs.ExchangeLaws.LaneMessages.{Later, as_is, beginning, messaging}
use Rattle.txn_replay.proofs.ExchangeLaws.SixWays.{lane_ways}

-- no purchase has ended behind which the store is still open
abbrev pub StaysPlanned : ℕ → LaneRow → Type 0
StaysPlanned count row = (made : ℕ) → row.store.commits ≡ Some made → length row.ended ≡ count

pub ended_off : (plan : Option Tear) (store : StoreRow) (capture : Option (List ℕ)) → (ended_by plan store capture).commits ≡ None
ended_off plan store None = refl
ended_off plan store (Some message) = refl

later_same : (before lane : LaneRow) → Later before lane → lane.ended ≡ before.ended
later_same before _ as_is = refl
later_same before _ (beginning found) = refl
later_same before _ (messaging message) = refl

piece_planned : (p : Payment) (part : Part) (choice : Bool) → p.durable ≡ true → StaysPlanned (length part.lane.ended) (piece p part choice).part.lane
piece_planned p part choice durable =
    piece_lane (StaysPlanned (length part.lane.ended)) p part
    (λ made on. refl)
    (λ lane replies later made on. ap (λ xs. length xs) (later_same part.lane lane later))
    (λ lane replies end later made on.
    (let off : (if p.durable then ended_by p.planned.terminal_tear lane.store end.capture else lane.store).commits ≡ None =
    ap (λ (b : Bool). (if b then ended_by p.planned.terminal_tear lane.store end.capture else lane.store).commits) durable
    ∙ ended_off p.planned.terminal_tear lane.store end.capture in
    let no : None ≡ Some made = sym off ∙ on in cc))
    choice

pub lane_planned : (p : Payment) (part : Part) (one other : Bool) → p.durable ≡ true → StaysPlanned (length part.lane.ended) (lane_piece p part one other).part.lane
lane_planned p part one other durable =
    lane_ways (λ m. StaysPlanned (length part.lane.ended) m.part.lane) p part
    (λ made on. refl)
    (λ choice so. piece_planned p part choice durable)
    (λ at off cut made on. (let no : None ≡ Some made = sym off ∙ on in cc))
    (λ choice at off full made on. refl)
    (λ choice second at off room. piece_planned p (part_with (opened_to_add part.lane.store choice) part) second durable)
    (λ at on. delivered part.lane.store.list)
    one other
  where
    delivered : (list : List (List ℕ)) → StaysPlanned (length part.lane.ended) (delivers_first p part list).part.lane
    delivered [] = λ made on. refl
    delivered (message ∷ others) = by (is_next_cut p.planned.terminal_tear part.lane.store) refl
      where
        by : (cut : Bool) → is_next_cut p.planned.terminal_tear part.lane.store ≡ cut
            → StaysPlanned (length part.lane.ended) (dropped_by p (copied p message part) (copy_lines p message part.messages p.copies) cut).part.lane
        by true is = λ made on.
            (let off : (if is_next_cut p.planned.terminal_tear part.lane.store then cut_call p.planned.terminal_tear part.lane.store Drops else made_call part.lane.store Drops).commits ≡ None =
            ap (λ (b : Bool). (if b then cut_call p.planned.terminal_tear part.lane.store Drops else made_call part.lane.store Drops).commits) is in
            let no : None ≡ Some made = sym off ∙ on in cc)
        by false is = λ made on. refl

-- a store by the plan of the purchase behind those that have ended
pub lane_store_placed : (s : ScenarioData) (l : ℕ) (p : Payment) (count : ℕ) → payment_in s l count ≡ Some p → (lane_store : LaneStoreSeen) (row : LaneRow)
    → StaysPlanned count row → LaneStoreStands lane_store p row → LaneStoreAt s l lane_store row
lane_store_placed s l p count is lane_store row planned stands =
    subst (λ (b : Bool). LaneStoreFor lane_store row (terminal_plan (payment_in s l (length row.ended))) b) (payment_facts s l count p is).durable
    (by p.durable stands)
  where
    placed : (commits : Option ℕ) → row.store.commits ≡ commits → StorePlace lane_store row.store p.planned.terminal_tear commits
        → StorePlace lane_store row.store (terminal_plan (payment_in s l (length row.ended))) commits
    placed None off place = place
    placed (Some made) on place =
        let same : terminal_plan (payment_in s l (length row.ended)) ≡ p.planned.terminal_tear =
        ap (λ n. terminal_plan (payment_in s l n)) (planned made on) ∙ ap terminal_plan is in
        subst (λ (plan : Option Tear). LaneStoreOn lane_store row.store plan) (sym same) place

    by : (durable : Bool) → LaneStoreFor lane_store row p.planned.terminal_tear durable
        → LaneStoreFor lane_store row (terminal_plan (payment_in s l (length row.ended))) durable
    by false none = none
    by true on = record { place = placed row.store.commits refl on.place; losses = on.losses }

-- the store of a purchase that is next or runs
pub lane_store_stands : (s : ScenarioData) (l : ℕ) (p : Payment) (row : LaneRow) → payment_in s l (length row.ended) ≡ Some p → (lane_store : LaneStoreSeen)
    → LaneStoreAt s l lane_store row → LaneStoreStands lane_store p row
lane_store_stands s l p row is lane_store at =
    subst (λ (plan : Option Tear). LaneStoreFor lane_store row plan p.durable) (ap terminal_plan is)
    (subst (λ (b : Bool). LaneStoreFor lane_store row (terminal_plan (payment_in s l (length row.ended))) b)
    (sym (payment_facts s l (length row.ended) p is).durable) at)
