-- What is left of risk management while the card is asked for a counter.
use Rattle.std.specs.Prelude.{ℕ, List, Option}
use Rattle.emv_dict.specs.Progress.{Progress}
use Rattle.emv_dict.specs.declared.judged.Judged.{Judged}
use Rattle.risk_mgmt.specs.Risky.{first_asked, last_asked}
use Rattle.risk_mgmt.specs.declared.judging.Asking.{Asking}
use Rattle.risk_mgmt.specs.declared.judging.Asking.TheVariants.{Counter, LastOnline}

-- a state: the bits that stand already, the lower and the upper limit, and which counter is asked for
pub record JudgingData : Type 0 where
  pub bits : ℕ
  pub lower : ℕ
  pub upper : ℕ
  pub asking : Asking

abbrev pub rest_by : Asking → ℕ → ℕ → ℕ → List (List ℕ) → Progress Judged
rest_by Counter bits lower upper = first_asked bits lower upper
rest_by (LastOnline counter) bits lower upper = last_asked bits lower upper counter

-- what the rest makes of the answers to come
abbrev pub judging_rest : JudgingData → List (List ℕ) → Progress Judged
judging_rest state = rest_by state.asking state.bits state.lower state.upper

-- how many counters are still asked for
abbrev pub counters_by : Asking → ℕ
counters_by Counter = 2
counters_by (LastOnline counter) = 1
