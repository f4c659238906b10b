-- What a purchase keeps to, with all that its scenario says of it.
use Rattle.std.specs.Prelude.{ℕ, ◌≤◌, List, length}
use Rattle.emv_dict.specs.Settings.{IsSettings}
use Rattle.emv_dict.specs.Views.{SettingsData}
use Rattle.scenario_lanes.specs.Plan.{IsPlanned}
use Rattle.scenario_lanes.specs.declared.plan.Planned.{Planned}

-- the terminal's settings and the plan keep their rules, the card's name is short, and a settlement message is sent one to
-- three times
pub record PaymentFits (copies : ℕ) (settings : SettingsData) (planned : Planned) (name : List ℕ) : Type 0 where
  pub terminal : IsSettings settings
  pub plan : IsPlanned planned
  pub short : length name ≤ 16
  pub one_copy : 1 ≤ copies
  pub few_copies : copies ≤ 3
