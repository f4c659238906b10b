-- A scenario as a contract sees it, and what it keeps, on which those who run it rest.
use Rattle.std.specs.Prelude.{◌≡◌, ◌≢◌, ℕ, ◌≤◌, ◌<◌, IsTrue, List, length}
use Rattle.std.specs.List.{All, AllPairs}
use Rattle.issuer_host.specs.Account.{AccountData, IsAccount}
use Rattle.issuer_host.specs.declared.keys.HostKeys.{HostKeys}
use Rattle.scenario_fields.specs.Value.{is_one_of}
use Rattle.scenario_fields.specs.declared.spot.Characters.TheVariants.{LowercaseOrDigit}
use Rattle.scenario_lanes.specs.Plan.{LaneData, IsLane, HasCards, HaveRoom, purchase_count}
use Rattle.scenario_plan.specs.Cards.{AreCards, CardData}

pub record ScenarioData : Type 0 where
  pub issuer : HostKeys
  pub accounts : List AccountData
  pub cards : List CardData
  pub lanes : List LaneData
  pub schedule : List ℕ
  pub copies : ℕ

-- the names of cards are of 0 to 9 and a to z
abbrev pub HasPlainName : CardData → Type 0
HasPlainName card = All (λ c. IsTrue (is_one_of LowercaseOrDigit c)) card.name

-- no two accounts of one PAN
abbrev pub HaveOwnPans : List AccountData → Type 0
HaveOwnPans accounts = AllPairs (λ account other. account.pan ≢ other.pan) accounts

-- the tables of a scenario, whatever cards and lanes they name
pub record AreScenarioTables (scenario : ScenarioData) : Type 0 where
  pub few_accounts : length scenario.accounts ≤ 1000
  pub accounts : All IsAccount scenario.accounts
  pub own_pans : HaveOwnPans scenario.accounts
  pub cards : AreCards scenario.cards
  pub plain_names : All HasPlainName scenario.cards
  pub some_lane : 1 ≤ length scenario.lanes
  pub few_lanes : length scenario.lanes ≤ 16
  pub lanes : All IsLane scenario.lanes
  pub rooms : HaveRoom (length scenario.cards) scenario.lanes
  pub few_purchases : purchase_count scenario.lanes ≤ 10000
  pub pin_keys : All (λ lane. lane.settings.pin_key ≡ scenario.issuer.pin) scenario.lanes
  pub few_turns : length scenario.schedule ≤ 200000
  pub one_copy : 1 ≤ scenario.copies
  pub few_copies : scenario.copies ≤ 3

-- a scenario: each card and each lane that is named is there
pub record IsScenario (scenario : ScenarioData) : Type 0 where
  pub tables : AreScenarioTables scenario
  pub known_cards : All (HasCards (length scenario.cards)) scenario.lanes
  pub known_lanes : All (λ lane. lane < length scenario.lanes) scenario.schedule
