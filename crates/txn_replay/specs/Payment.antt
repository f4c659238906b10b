-- A purchase with all that its scenario says of it.
use Rattle.std.specs.Prelude.{ℕ, Bool, false, List, length, slice_get, Option, Some, None, option_map, option_and_then}
use Rattle.emv_dict.specs.Views.{SettingsData}
use Rattle.issuer_host.specs.Account.{AccountData}
use Rattle.issuer_host.specs.declared.keys.HostKeys.{HostKeys}
use Rattle.kernel.specs.Dialogue.{dialogue}
use Rattle.kernel.specs.Ended.{EndData, end_of}
use Rattle.kernel.specs.Reply.{Reply}
use Rattle.scenario_plan.specs.Cards.{CardData}
use Rattle.scenario_plan.specs.Plan.{ScenarioData}
use Rattle.scenario_lanes.specs.Plan.{LaneData}
use Rattle.scenario_lanes.specs.declared.plan.Planned.{Planned}
use Rattle.terminal_state.specs.Terminal.{Outset}
use Rattle.txn_replay.specs.World.{World, lane_at}

-- the issuer, how often a settlement message is sent, the lane's number, whether it speaks ISO 8583 with the host and
-- whether it keeps its captures durably, its terminal's settings, what is planned, and the card
pub record Payment : Type 0 where
  pub issuer : HostKeys
  pub accounts : List AccountData
  pub copies : ℕ
  pub lane : ℕ
  pub iso : Bool
  pub durable : Bool
  pub settings : SettingsData
  pub planned : Planned
  pub card : CardData

abbrev pub payment_with : ScenarioData → ℕ → LaneData → Planned → CardData → Payment
payment_with s l lane planned card = record {
  issuer = s.issuer;
  accounts = s.accounts;
  copies = s.copies;
  lane = l;
  iso = lane.iso;
  durable = lane.durable;
  settings = lane.settings;
  planned = planned;
  card = card;
}

abbrev pub payment_of : ScenarioData → ℕ → LaneData → Planned → Option Payment
payment_of s l lane planned = option_map (payment_with s l lane planned) (slice_get s.cards planned.card)

abbrev pub payment_on : ScenarioData → ℕ → ℕ → LaneData → Option Payment
payment_on s l number lane = option_and_then (payment_of s l lane) (slice_get lane.purchases number)

-- the purchase of this number in a lane
unfoldable pub payment_in : ScenarioData → ℕ → ℕ → Option Payment
payment_in s l number = option_and_then (payment_on s l number) (slice_get s.lanes l)

-- whether a lane speaks ISO 8583 with the host
abbrev pub is_iso : Option LaneData → Bool
is_iso None = false
is_iso (Some lane) = lane.iso

abbrev pub dialect_of : ScenarioData → ℕ → Bool
dialect_of s l = is_iso (slice_get s.lanes l)

-- whether a lane keeps its captures durably
abbrev pub is_durable : Option LaneData → Bool
is_durable None = false
is_durable (Some lane) = lane.durable

abbrev pub durable_of : ScenarioData → ℕ → Bool
durable_of s l = is_durable (slice_get s.lanes l)

-- the one that a lane begins next, or that runs in it
abbrev pub next_of : ScenarioData → World → ℕ → Option Payment
next_of s w l = payment_in s l (length (lane_at w l).ended)

abbrev pub outset_for : Payment → Outset
outset_for p = record { settings = p.settings; purchase = p.planned.purchase }

-- its end record once the terminal was told these replies, where its dialogue is over
abbrev pub end_at : Payment → List Reply → Option EndData
end_at p replies = end_of (outset_for p) (dialogue (outset_for p) replies)
