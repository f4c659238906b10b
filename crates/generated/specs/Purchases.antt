-- The purchases of a generated scenario.
use Rattle.std.specs.Prelude.{◌≡◌, ℕ, ◌+◌, ◌/◌, ◌%◌, ◌≤◌, ◌==◌, [], ◌∷◌, false, true, Option, Some, None, if◌then◌else◌}
use Rattle.std.specs.Int.{to_be_bytes, w32}
use Rattle.emv_dict.specs.Views.{PurchaseData}
use Rattle.emv_ports.specs.declared.tear.Tear.{Tear}
use Rattle.emv_ports.specs.declared.tear.TearAt.TheVariants.{Before}
use Rattle.scenario_lanes.specs.declared.plan.Link.{Link}
use Rattle.scenario_lanes.specs.declared.plan.Link.TheVariants.{Sound, ReplyLost}
use Rattle.scenario_lanes.specs.declared.plan.Planned.{Planned}
use Rattle.generated.specs.Issuer.{code, pin}
use Rattle.generated.specs.Numbers.{generated_number}

-- how many cards there are, each with an account of its own
abbrev pub cards : ℕ
cards = 8

-- the purchase that a number tells, of 100 to 9,999
unfoldable pub purchase_by : ℕ → PurchaseData
purchase_by x = record {
  amount = 100 + x % 9900;
  other = 0;
  currency = code;
  trade = 0;
  services = false;
  date = 0x24 ∷ 0x06 ∷ 0x15 ∷ [];
  time = 0x12 ∷ 0x00 ∷ 0x00 ∷ [];
  number = to_be_bytes w32 x;
  word = x / 65536;
  pins = pin ∷ [];
  forced = false;
  confirm = true;
}

-- one of sixteen replies is lost
abbrev pub link_by : ℕ → Link
link_by x = (if x / 8 % 16 == 0 then ReplyLost else Sound)

-- before the first write of the first cryptogram's decision
abbrev pub cut_cryptogram : Tear
cut_cryptogram = record { commit = 4; at = Before 1 }

-- one of sixteen cards is pulled out
abbrev pub tear_by : ℕ → Option Tear
tear_by x = (if x / 128 % 16 == 0 then Some cut_cryptogram else None)

-- purchase `k`, which this number tells: the cards take turns
unfoldable pub planned_by : ℕ → ℕ → Planned
planned_by k x = record { purchase = purchase_by x; card = k % cards; link = link_by x; tear = tear_by x; terminal_tear = None }

-- purchase `k` of so many, from 0 on
abbrev pub planned_at : ℕ → ℕ → Planned
planned_at count k = planned_by k (generated_number count (k + 1))

-- the tear leaves no choice: a decision is cut before its first write, so that nothing of it is left for a power-up to
-- find
pub record LeavesNoChoice (tear : Tear) : Type 0 where
  pub decision : 1 ≤ tear.commit
  pub unbegun : tear.at ≡ Before 1
