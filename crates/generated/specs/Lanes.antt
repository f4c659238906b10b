-- The lanes of a generated scenario.
use Rattle.std.specs.Prelude.{ℕ, ◌+◌, ◌%◌, ◌==◌, Bool, List, [], ◌∷◌, ◌++◌, map, codes, false}
use Rattle.std.specs.List.{filter, range_with_len}
use Rattle.emv_dict.specs.Views.{SettingsData}
use Rattle.emv_dict.specs.declared.purchase.AidRow.{AidRow}
use Rattle.scenario_lanes.specs.Plan.{LaneData}
use Rattle.scenario_lanes.specs.declared.plan.Planned.{Planned}
use Rattle.generated.specs.Card.{application}
use Rattle.generated.specs.Issuer.{generated_keys, code}
use Rattle.generated.specs.Purchases.{planned_at}

abbrev pub lanes : ℕ
lanes = 4

unfoldable pub aid_row : AidRow
aid_row = record {
  name = application;
  partial = false;
  version = 0x00 ∷ 0x96 ∷ [];
  denial = 0x00 ∷ 0x10 ∷ 0x00 ∷ 0x00 ∷ 0x00 ∷ [];
  online = 0x70 ∷ 0x68 ∷ 0xBC ∷ 0x98 ∷ 0x00 ∷ [];
  fallback = 0x70 ∷ 0x68 ∷ 0xBC ∷ 0xF8 ∷ 0x00 ∷ [];
  floor = 10000;
  threshold = 5000;
  target = 10;
  max_target = 50;
}

-- an attended terminal that can go online, `TERM0000` and on
unfoldable pub generated_settings : ℕ → SettingsData
generated_settings lane = record {
  kind = 22;
  country = code;
  caps = 0xE0 ∷ 0xB8 ∷ 0xC8 ∷ [];
  id = codes "TERM000" ++ (48 + lane) ∷ [];
  pin_key = generated_keys.pin;
  exceptions = [];
  aids = aid_row ∷ [];
  pse = false;
}

-- the lanes take turns
abbrev pub stands_on : ℕ → ℕ → Bool
stands_on lane k = k % lanes == lane

-- the purchases of a lane, in their order
unfoldable pub purchases_of : ℕ → ℕ → List Planned
purchases_of count lane = map (planned_at count) (filter (stands_on lane) (range_with_len 0 count))

unfoldable pub generated_lane : ℕ → ℕ → LaneData
generated_lane count lane = record { settings = generated_settings lane; purchases = purchases_of count lane; iso = false; durable = false }
