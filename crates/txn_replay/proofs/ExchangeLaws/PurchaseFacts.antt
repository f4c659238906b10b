-- What is known of a purchase that a scenario has.
-- Its lane, its card and its row are there, and keep the rules of the scenario.
use Rattle.std.proofs.Common.{◌≡◌, ℕ, zero, suc, ◌+◌, ◌≤◌, ◌<◌, List, [], ◌∷◌, length, slice_get, Option, Some, None, option_map, refl, sym, ap, ◌∙◌, subst, arith}
use Rattle.std.proofs.lemmas.List.Sums.{sum_by-cons}
use Rattle.std.proofs.lemmas.Option.{same_Some, slice_get_within, get_or_from_slice_get}
use Rattle.std.specs.Prelude.{option_and_then}
use Rattle.scenario_plan.specs.Cards.{CardData}
use Rattle.scenario_plan.specs.Plan.{ScenarioData, IsScenario}
use Rattle.scenario_lanes.specs.Plan.{LaneData, HasCards, purchase_count}
use Rattle.scenario_lanes.specs.declared.plan.Planned.{Planned}
use Rattle.txn_replay.specs.Bounds.{purchases_in}
use Rattle.txn_replay.specs.Payment.{Payment, payment_with, payment_of, payment_on, payment_in, is_iso, dialect_of, is_durable, durable_of}

pub payment_is : (s : ScenarioData) (l n : ℕ) (lane : LaneData) (planned : Planned) (card : CardData) → slice_get s.lanes l ≡ Some lane
    → slice_get lane.purchases n ≡ Some planned → slice_get s.cards planned.card ≡ Some card → payment_in s l n ≡ Some (payment_with s l lane planned card)
unfolding payment_in
payment_is s l n lane planned card lane_there planned_there card_there =
    ap (λ (o : Option LaneData). option_and_then (payment_on s l n) o) lane_there
    ∙ ap (λ (o : Option Planned). option_and_then (payment_of s l lane) o) planned_there
    ∙ ap (option_map (payment_with s l lane planned)) card_there

pub payment_none : (s : ScenarioData) (l n : ℕ) (lane : LaneData) → slice_get s.lanes l ≡ Some lane → slice_get lane.purchases n ≡ None → payment_in s l n ≡ None
unfolding payment_in
payment_none s l n lane lane_there none =
    ap (λ (o : Option LaneData). option_and_then (payment_on s l n) o) lane_there
    ∙ ap (λ (o : Option Planned). option_and_then (payment_of s l lane) o) none

pub record IsPayment (s : ScenarioData) (l : ℕ) (p : Payment) : Type 0 where
  pub inside : l < length s.lanes
  pub card : slice_get s.cards p.planned.card ≡ Some p.card
  pub lane : p.lane ≡ l
  pub iso : p.iso ≡ dialect_of s l
  pub durable : p.durable ≡ durable_of s l
  pub copies : p.copies ≡ s.copies
  pub issuer : p.issuer ≡ s.issuer
  pub accounts : p.accounts ≡ s.accounts

pub payment_facts : (s : ScenarioData) (l n : ℕ) (p : Payment) → payment_in s l n ≡ Some p → IsPayment s l p
unfolding payment_in
payment_facts s l n p is = by_lane (slice_get s.lanes l) refl is
  where
    by_card : (lane : LaneData) (planned : Planned) (o : Option CardData) → slice_get s.cards planned.card ≡ o → slice_get s.lanes l ≡ Some lane
        → option_map (payment_with s l lane planned) o ≡ Some p → IsPayment s l p
    by_card lane planned None there at is = cc
    by_card lane planned (Some card) there at is =
        subst (λ (q : Payment). IsPayment s l q) (same_Some (payment_with s l lane planned card) p is)
        (record { inside = slice_get_within s.lanes l lane at; card = there; lane = refl; iso = ap is_iso (sym at); durable = ap is_durable (sym at); copies = refl; issuer = refl; accounts = refl })

    by_planned : (lane : LaneData) (o : Option Planned) → slice_get s.lanes l ≡ Some lane → option_and_then (payment_of s l lane) o ≡ Some p → IsPayment s l p
    by_planned lane None at is = cc
    by_planned lane (Some planned) at is = by_card lane planned (slice_get s.cards planned.card) refl at is

    by_lane : (o : Option LaneData) → slice_get s.lanes l ≡ o → option_and_then (payment_on s l n) o ≡ Some p → IsPayment s l p
    by_lane None there is = cc
    by_lane (Some lane) there is = by_planned lane (slice_get lane.purchases n) there is

-- the card of a purchase is there
pub planned_card : (s : ScenarioData) (l n : ℕ) (lane : LaneData) (planned : Planned) → IsScenario s → slice_get s.lanes l ≡ Some lane
    → slice_get lane.purchases n ≡ Some planned → planned.card < length s.cards
planned_card s l n lane planned fits lane_there planned_there =
    let cards : HasCards (length s.cards) lane =
    subst (λ (x : LaneData). HasCards (length s.cards) x) (get_or_from_slice_get s.lanes l lane lane lane_there)
    (fits.known_cards l lane (slice_get_within s.lanes l lane lane_there)) in
    subst (λ (x : Planned). x.card < length s.cards) (get_or_from_slice_get lane.purchases n planned planned planned_there)
    (cards n planned (slice_get_within lane.purchases n planned planned_there))

-- a lane has no more purchases than all have
pub some_of_all : (lanes : List LaneData) (l : ℕ) → purchases_in (slice_get lanes l) ≤ purchase_count lanes
some_of_all [] l = omega arith
some_of_all (lane ∷ lanes) zero =
    let sum : purchase_count (lane ∷ lanes) ≡ length lane.purchases + purchase_count lanes = sum_by-cons (λ (x : LaneData). length x.purchases) lane lanes in omega arith
some_of_all (lane ∷ lanes) (suc l) =
    let sum : purchase_count (lane ∷ lanes) ≡ length lane.purchases + purchase_count lanes = sum_by-cons (λ (x : LaneData). length x.purchases) lane lanes in
    let one : purchases_in (slice_get lanes l) ≤ purchase_count lanes = some_of_all lanes l in omega arith
