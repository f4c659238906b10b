-- A generated scenario is a scenario, and its tears leave no choice.
use Rattle.std.proofs.Common.{◌≡◌, ◌≢◌, ◌≤◌, ℕ, true, false, List, [], map, slice_get, Some, refl, subst, arith}
use Rattle.std.proofs.lemmas.Option.{slice_get_within, get_or_from_slice_get}
use Rattle.std.specs.Prelude.{IfSome}
use Rattle.std.specs.List.{All, range_with_len}
use Rattle.issuer_host.specs.Account.{AccountData, IsAccount}
use Rattle.issuer_host.specs.declared.keys.HostKeys.{HostKeys}
use Rattle.scenario_fields.specs.declared.place.LaneAt.TheVariants.{Numbered}
use Rattle.scenario_plan.specs.Cards.{IsCard, AreCards, CardData}
use Rattle.scenario_plan.specs.Plan.{HasPlainName, AreScenarioTables, IsScenario}
use Rattle.scenario_lanes.specs.Plan.{LaneData, IsLane, HasCards, HasOwnPages}
use Rattle.generated.proofs.Cards.{account_rules, card_rules, plain_name, own_pans, own_names}
use Rattle.generated.proofs.Lanes.{lane_rules, lane_cards, lane_no_choice, all_purchases}
use Rattle.generated.proofs.Numbered.{all_numbered, pairs_numbered}
use Rattle.generated.specs.Card.{generated_card}
use Rattle.generated.specs.Generated.{generated_of}
use Rattle.generated.specs.Issuer.{generated_keys, generated_account}
use Rattle.generated.specs.Lanes.{generated_settings, generated_lane}
use Rattle.generated.specs.Purchases.{LeavesNoChoice}

card_tables : (count : ℕ) → AreCards (generated_of count).cards
unfolding generated_of
card_tables count = record {
  some = omega arith;
  few = omega arith;
  each = all_numbered IsCard generated_card 8 (λ card within. card_rules card);
  names = pairs_numbered (λ a b. a.name ≢ b.name) generated_card 8 (λ i j order within. own_names i j order);
}

-- no lane has a store
no_store : (count i : ℕ) (lane : LaneData) → slice_get (generated_of count).lanes i ≡ Some lane → lane.durable ≡ true → HasOwnPages 8 (Numbered i)
unfolding generated_of generated_lane
no_store count i lane there durable =
    let made : List LaneData = map (generated_lane count) (range_with_len 0 4) in
    let none : lane.durable ≡ false =
    subst (λ (x : LaneData). x.durable ≡ false) (get_or_from_slice_get made i lane lane there)
    (all_numbered (λ (x : LaneData). x.durable ≡ false) (generated_lane count) 4 (λ l within. refl) i lane (slice_get_within made i lane there)) in
    absurd (cc (none, durable))

tables : (count : ℕ) → count ≤ 10000 → AreScenarioTables (generated_of count)
unfolding generated_of generated_lane generated_settings
tables count few = record {
  few_accounts = omega arith;
  accounts = all_numbered IsAccount generated_account 8 (λ card within. account_rules card);
  own_pans = pairs_numbered (λ account other. account.pan ≢ other.pan) generated_account 8 (λ i j order within. own_pans i j order);
  cards = card_tables count;
  plain_names = all_numbered HasPlainName generated_card 8 plain_name;
  some_lane = omega arith;
  few_lanes = omega arith;
  lanes = all_numbered IsLane (generated_lane count) 4 (lane_rules count);
  rooms = λ i lane there durable. no_store count i lane there durable;
  few_purchases = omega (arith, few, all_purchases count);
  pin_keys = all_numbered (λ lane. lane.settings.pin_key ≡ generated_keys.pin) (generated_lane count) 4 (λ lane within. refl);
  few_turns = omega arith;
  one_copy = omega arith;
  few_copies = omega arith;
}

is_scenario : (count : ℕ) → count ≤ 10000 → IsScenario (generated_of count)
unfolding generated_of
is_scenario count few = record {
  tables = tables count few;
  known_cards = all_numbered (HasCards 8) (generated_lane count) 4 (λ lane within. lane_cards count lane);
  known_lanes = λ k d within. absurd (omega (arith, within));
}

-- a scenario that is made part by part
pub made_rules : (count : ℕ) (issuer : HostKeys) (accounts : List AccountData) (cards : List CardData) (lanes : List LaneData) (schedule : List ℕ)
    → count ≤ 10000 → issuer ≡ generated_keys → accounts ≡ map generated_account (range_with_len 0 8) → cards ≡ map generated_card (range_with_len 0 8)
    → lanes ≡ map (generated_lane count) (range_with_len 0 4) → schedule ≡ []
    → IsScenario (record { issuer = issuer; accounts = accounts; cards = cards; lanes = lanes; schedule = schedule; copies = 2 })
unfolding generated_of
made_rules count issuer accounts cards lanes schedule few of_issuer of_accounts of_cards of_lanes of_schedule =
    rw (of_issuer, of_accounts, of_cards, of_lanes, of_schedule) (is_scenario count few)

pub made_no_choices : (count : ℕ) (lanes : List LaneData) → lanes ≡ map (generated_lane count) (range_with_len 0 4)
    → All (λ lane. All (λ planned. IfSome planned.tear LeavesNoChoice) lane.purchases) lanes
made_no_choices count lanes made =
    rw made
    (all_numbered (λ lane. All (λ planned. IfSome planned.tear LeavesNoChoice) lane.purchases) (generated_lane count) 4
    (λ lane within. lane_no_choice count lane))
