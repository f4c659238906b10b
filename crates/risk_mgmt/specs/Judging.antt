-- What a state of risk management leaves to be done.
use Rattle.std.specs.Prelude.{ℕ, List, Option}
use Rattle.emv_dict.specs.Progress.{Progress, Leads, Stopped, Done}
use Rattle.emv_dict.specs.declared.judged.Judged.{Judged}
use Rattle.risk_mgmt.specs.Asked.{judging_rest, counters_by}
use Rattle.risk_mgmt.specs.declared.judging.JudgeNext.{JudgeNext}
use Rattle.risk_mgmt.specs.declared.judging.JudgeNext.TheVariants as next

-- the whole goes on as what comes next in risk management does
abbrev pub JudgeNextLeads : (List (List ℕ) → Progress Judged) → List (List ℕ) → JudgeNext → Type 0
JudgeNextLeads whole answers (next.Ask judging) = Leads whole answers (judging_rest judging)
JudgeNextLeads whole answers (next.Done judged) = Leads whole answers (λ later. Done judged later)
JudgeNextLeads whole answers (next.Ended cause) = Leads whole answers (λ _. Stopped cause)

-- how many counters are still to be asked for
abbrev pub counters_left : JudgeNext → ℕ
counters_left (next.Ask judging) = counters_by judging.asking
counters_left (next.Done judged) = 0
counters_left (next.Ended cause) = 0
