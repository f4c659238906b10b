-- The scenario of so many purchases that anyone can make again.
use Rattle.std.specs.Prelude.{ℕ, [], map}
use Rattle.std.specs.List.{range_with_len}
use Rattle.scenario_plan.specs.Plan.{ScenarioData}
use Rattle.generated.specs.Card.{generated_card}
use Rattle.generated.specs.Issuer.{generated_keys, generated_account}
use Rattle.generated.specs.Lanes.{lanes, generated_lane}
use Rattle.generated.specs.Purchases.{cards}

-- its cards, accounts and lanes are numbered from 0 on
unfoldable pub generated_of : ℕ → ScenarioData
generated_of count = record {
  issuer = generated_keys;
  accounts = map generated_account (range_with_len 0 cards);
  cards = map generated_card (range_with_len 0 cards);
  lanes = map (generated_lane count) (range_with_len 0 lanes);
  schedule = [];
  copies = 2;
}
