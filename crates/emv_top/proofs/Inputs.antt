-- What is read of a source's bytes, and a scenario whose first purchase has lost its tears.
use Rattle.std.proofs.Common.{◌≡◌, ℕ, zero, suc, ◌<◌, ◌≤◌, ◌+◌, List, [], ◌∷◌, length, get_or, Ok, Err, refl, sym, ap, ◌∙◌, subst, arith, rules}
use Rattle.std.specs.Prelude.{codes}
use Rattle.std.specs.List.{All}
use Rattle.std.proofs.lemmas.List.Sums.{sum_by-cons}
use Rattle.std.proofs.lemmas.Option.{same_Some}
use Rattle.emv_top.specs.Input.{first_purchases, with_purchase, IsInput}
use Rattle.emv_top.specs.declared.words.Task.{Task}
use Rattle.emv_top.specs.declared.words.Task.TheVariants.{Read, Replay}
use Rattle.scenario_plan.specs.Plan.{ScenarioData, AreScenarioTables, IsScenario}
use Rattle.scenario.specs.Scenario.{ReadsScenario}
use Rattle.scenario_fields.specs.Fault.{TellsFault}
use Rattle.scenario_fields.specs.declared.fault.ScenarioFault.{ScenarioFault}
use Rattle.scenario_fields.specs.declared.fault.ScenarioFault.TheVariants.{Toml, MissingKey, BadValue, OutOfLimit, UnknownKey, UnknownName, OutOfMemory}
use Rattle.scenario_lanes.specs.Plan.{LaneData, IsPlanned, IsLane, HasCards, HaveRoom, purchase_count}
use Rattle.scenario_lanes.specs.declared.plan.Planned.{Planned}
use Rattle.txn_replay.specs.Reading.{untorn, first_untorn, lane_untorn, to_read}

pub fault_input : (task : Task) (bytes : List ℕ) (fault : ScenarioFault) → ReadsScenario bytes (Err fault) → IsInput task bytes (Err fault)
fault_input task bytes fault reading = record { read = Err fault; reading = reading; serves = refl }

pub replay_input : (bytes : List ℕ) (s : ScenarioData) → ReadsScenario bytes (Ok s) → IsInput Replay bytes (Ok s)
replay_input bytes s reading = record { read = Ok s; reading = reading; serves = refl }

with_some : (s : ScenarioData) (purchases : List Planned) → 1 ≤ length purchases → with_purchase s purchases ≡ Ok s
with_some s [] some = absurd (omega arith)
with_some s (planned ∷ others) some = refl

pub read_input : (bytes : List ℕ) (s : ScenarioData) → ReadsScenario bytes (Ok s) → 1 ≤ length (first_purchases s.lanes) → IsInput Read bytes (Ok s)
read_input bytes s reading some = record { read = Ok s; reading = reading; serves = sym (with_some s (first_purchases s.lanes) some) }

pub some_served : (s : ScenarioData) (lane : LaneData) (lanes : List LaneData) → s.lanes ≡ lane ∷ lanes → 1 ≤ length lane.purchases → 1 ≤ length (first_purchases s.lanes)
some_served s lane lanes is some = subst (λ (ls : List LaneData). 1 ≤ length (first_purchases ls)) (sym is) some

-- the fault of a scenario without such a purchase; want of memory may come in its place
module _ (bytes : List ℕ) (s : ScenarioData) (reading : ReadsScenario bytes (Ok s)) (none : first_purchases s.lanes ≡ []) where
  no_purchase : (fault : ScenarioFault) → fault ≡ UnknownName (codes "lane[0].purchase[0]") → IsInput Read bytes (Err fault)
  no_purchase fault told = record {
    read = Ok s;
    reading = reading;
    serves = ap (λ (e : ScenarioFault). Err e) told ∙ sym (ap (λ (ps : List Planned). with_purchase s ps) none);
  }

  pub unserved : (fault : ScenarioFault) → TellsFault fault (UnknownName (codes "lane[0].purchase[0]")) → IsInput Read bytes (Err fault)
  unserved OutOfMemory told = fault_input Read bytes OutOfMemory (record { long = λ _. tt; text = λ _ _. tt; other = λ _ _. tt })
  unserved Toml told = no_purchase Toml told
  unserved (MissingKey path) told = no_purchase (MissingKey path) told
  unserved (BadValue path) told = no_purchase (BadValue path) told
  unserved (OutOfLimit path) told = no_purchase (OutOfLimit path) told
  unserved (UnknownKey path) told = no_purchase (UnknownKey path) told
  unserved (UnknownName path) told = no_purchase (UnknownName path) told

-- what holds of each lane, and of one whose first purchase has lost its tears, holds where the first lane is such a one
all_lanes : (P : LaneData → Type 0) → ((lane : LaneData) → P lane → P (record lane { purchases = first_untorn lane.purchases })) → (lanes : List LaneData) → All P lanes
    → All P (lane_untorn lanes)
all_lanes P keeps [] all = all
all_lanes P keeps (lane ∷ lanes) all = go
  where
    go : (k : ℕ) (d : LaneData) → k < length (lane_untorn (lane ∷ lanes)) → P (get_or (lane_untorn (lane ∷ lanes)) k d)
    go zero d within = keeps lane (all 0 d within)
    go (suc k) d within = all (suc k) d within

all_purchases : (P : Planned → Type 0) → ((planned : Planned) → P planned → P (untorn planned)) → (purchases : List Planned) → All P purchases → All P (first_untorn purchases)
all_purchases P keeps [] all = all
all_purchases P keeps (planned ∷ others) all = go
  where
    go : (k : ℕ) (d : Planned) → k < length (first_untorn (planned ∷ others)) → P (get_or (first_untorn (planned ∷ others)) k d)
    go zero d within = keeps planned (all 0 d within)
    go (suc k) d within = all (suc k) d within

untorn_planned : (planned : Planned) → IsPlanned planned → IsPlanned (untorn planned)
untorn_planned planned is = record {
  purchase = is.purchase;
  plan = search rules;
  tear = search rules;
  terminal_plan = search rules;
  terminal_tear = search rules;
}

untorn_lane : (lane : LaneData) → IsLane lane → IsLane (record lane { purchases = first_untorn lane.purchases })
untorn_lane lane is = record { settings = is.settings; purchases = all_purchases IsPlanned untorn_planned lane.purchases is.purchases }

untorn_cards : (cards : ℕ) (lane : LaneData) → HasCards cards lane → HasCards cards (record lane { purchases = first_untorn lane.purchases })
untorn_cards cards lane has = all_purchases (λ (planned : Planned). planned.card < cards) (λ planned known. known) lane.purchases has

untorn_rooms : (cards : ℕ) (lanes : List LaneData) → HaveRoom cards lanes → HaveRoom cards (lane_untorn lanes)
untorn_rooms cards [] rooms = rooms
untorn_rooms cards (lane ∷ lanes) rooms = go
  where
    go : HaveRoom cards (lane_untorn (lane ∷ lanes))
    go zero found there durable =
        let same : record lane { purchases = first_untorn lane.purchases } ≡ found = same_Some _ _ there in
        rooms 0 lane refl (ap (λ (l : LaneData). l.durable) same ∙ durable)
    go (suc i) found there durable = rooms (suc i) found there durable

same_purchases : (purchases : List Planned) → length (first_untorn purchases) ≡ length purchases
same_purchases [] = refl
same_purchases (planned ∷ others) = refl

same_lanes : (lanes : List LaneData) → length (lane_untorn lanes) ≡ length lanes
same_lanes [] = refl
same_lanes (lane ∷ lanes) = refl

same_count : (lanes : List LaneData) → purchase_count (lane_untorn lanes) ≡ purchase_count lanes
same_count [] = refl
same_count (lane ∷ lanes) =
    let first : LaneData = record lane { purchases = first_untorn lane.purchases } in
    sum_by-cons (λ (l : LaneData). length l.purchases) first lanes
    ∙ ap (λ (n : ℕ). n + purchase_count lanes) (same_purchases lane.purchases)
    ∙ sym (sum_by-cons (λ (l : LaneData). length l.purchases) lane lanes)

pub same_first : (lanes : List LaneData) → length (first_purchases (lane_untorn lanes)) ≡ length (first_purchases lanes)
same_first [] = refl
same_first (lane ∷ lanes) = same_purchases lane.purchases

untorn_tables : (s : ScenarioData) → AreScenarioTables s → AreScenarioTables (to_read s)
untorn_tables s is = record {
  few_accounts = is.few_accounts;
  accounts = is.accounts;
  own_pans = is.own_pans;
  cards = is.cards;
  plain_names = is.plain_names;
  some_lane = subst (λ (n : ℕ). 1 ≤ n) (sym (same_lanes s.lanes)) is.some_lane;
  few_lanes = subst (λ (n : ℕ). n ≤ 16) (sym (same_lanes s.lanes)) is.few_lanes;
  lanes = all_lanes IsLane untorn_lane s.lanes is.lanes;
  rooms = untorn_rooms (length s.cards) s.lanes is.rooms;
  few_purchases = subst (λ (n : ℕ). n ≤ 10000) (sym (same_count s.lanes)) is.few_purchases;
  pin_keys = all_lanes (λ (lane : LaneData). lane.settings.pin_key ≡ s.issuer.pin) (λ lane same. same) s.lanes is.pin_keys;
  few_turns = is.few_turns;
  one_copy = is.one_copy;
  few_copies = is.few_copies;
}

pub untorn_scenario : (s : ScenarioData) → IsScenario s → IsScenario (to_read s)
untorn_scenario s is = record {
  tables = untorn_tables s is.tables;
  known_cards = all_lanes (HasCards (length s.cards)) (untorn_cards (length s.cards)) s.lanes is.known_cards;
  known_lanes = subst (λ (n : ℕ). All (λ lane. lane < n) s.schedule) (sym (same_lanes s.lanes)) is.known_lanes;
}

pub none_of : (purchases : List Planned) (n : ℕ) → n ≡ length purchases → n ≡ 0 → purchases ≡ []
none_of [] n count none = refl
none_of (planned ∷ others) n count none = absurd (omega arith)
