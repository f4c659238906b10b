-- Lanes as a contract sees them, and what they keep, on which those who run them rest.
use Rattle.std.specs.Prelude.{ℕ, Bool, true, ◌≡◌, ◌-◌, ◌≤◌, ◌<◌, IsTrue, IfSome, List, length, sum_by, slice_get, Some}
use Rattle.std.specs.List.{All}
use Rattle.emv_dict.specs.Settings.{IsSettings, IsPurchase}
use Rattle.emv_dict.specs.Views.{SettingsData}
use Rattle.emv_ports.specs.Cut.{is_plan}
use Rattle.emv_ports.specs.declared.tear.Tear.{Tear}
use Rattle.emv_ports.specs.declared.tear.TearAt.{TearAt}
use Rattle.emv_ports.specs.declared.tear.TearAt.TheVariants.{Before, Within, Release}
use Rattle.scenario_fields.specs.declared.place.LaneAt.{LaneAt}
use Rattle.scenario_fields.specs.declared.place.LaneAt.TheVariants.{Numbered, Only}
use Rattle.scenario_lanes.specs.declared.plan.Planned.{Planned}

-- A terminal and its purchases. `iso` tells that its messages go to the host in the second dialect, `durable`
-- that it keeps its captures on a page object of the bank.
pub record LaneData : Type 0 where
  pub settings : SettingsData
  pub purchases : List Planned
  pub iso : Bool
  pub durable : Bool

-- the number of the write at which the power is cut, or 0
abbrev pub write_number : TearAt → ℕ
write_number (Before write) = write
write_number (Within write) = write
write_number Release = 0

-- a cut among the first marks and writes
pub record IsEarly (tear : Tear) : Type 0 where
  pub few_marks : tear.commit ≤ 50
  pub few_writes : write_number tear.at ≤ 40

-- a purchase of a lane
pub record IsPlanned (planned : Planned) : Type 0 where
  pub purchase : IsPurchase planned.purchase
  pub plan : IsTrue (is_plan planned.tear)
  pub tear : IfSome planned.tear IsEarly
  pub terminal_plan : IsTrue (is_plan planned.terminal_tear)
  pub terminal_tear : IfSome planned.terminal_tear IsEarly

-- a terminal and its purchases
pub record IsLane (lane : LaneData) : Type 0 where
  pub settings : IsSettings lane.settings
  pub purchases : All IsPlanned lane.purchases

-- how many purchases all lanes have
abbrev pub purchase_count : List LaneData → ℕ
purchase_count lanes = sum_by (λ lane. length lane.purchases) lanes

-- each purchase of a lane has one of so many cards
abbrev pub HasCards : ℕ → LaneData → Type 0
HasCards cards lane = All (λ planned. planned.card < cards) lane.purchases

-- the last of the bank's 64 page objects; the store of lane `i` has the one that is `i` before it
abbrev pub last_pages : ℕ
last_pages = 63

-- the page object of a lane's store is none of so many cards'
abbrev pub HasOwnPages : ℕ → LaneAt → Type 0
HasOwnPages cards (Numbered i) = cards ≤ last_pages - i
HasOwnPages cards Only = Unit {0}

-- so for each lane that has a store
abbrev pub HaveRoom : ℕ → List LaneData → Type 0
HaveRoom cards lanes = (i : ℕ) (lane : LaneData) → slice_get lanes i ≡ Some lane → lane.durable ≡ true → HasOwnPages cards (Numbered i)
