-- What follows an answer, for the whole behind it.
use Rattle.std.proofs.Common.{ℕ, List, [], ◌∷◌, ◌++◌}
use Rattle.cvm_list.specs.NextIs.{VerifyNextLeads as VerifyLeads}
use Rattle.cvm_list.specs.declared.verifying.VerifyNext.{VerifyNext}
use Rattle.cvm_list.specs.declared.verifying.VerifyNext.TheVariants as verify
use Rattle.emv_dict.specs.Progress.{Progress}
use Rattle.emv_dict.specs.declared.judged.Judged.{Judged}
use Rattle.emv_dict.specs.declared.verified.Verified.{Verified}
use Rattle.risk_mgmt.specs.Judging.{JudgeNextLeads as JudgeLeads}
use Rattle.risk_mgmt.specs.declared.judging.JudgeNext.{JudgeNext}
use Rattle.risk_mgmt.specs.declared.judging.JudgeNext.TheVariants as judge

pub verify_shifted : (whole : List (List ℕ) → Progress Verified) → (answer : List ℕ) → (next : VerifyNext) → VerifyLeads whole ([] ++ answer ∷ []) next → VerifyLeads (λ later. whole (answer ∷ later)) [] next
verify_shifted whole answer (verify.Ask state) leads = leads
verify_shifted whole answer (verify.Done verified) leads = leads
verify_shifted whole answer (verify.Ended cause) leads = leads

pub judge_shifted : (whole : List (List ℕ) → Progress Judged) → (answer : List ℕ) → (next : JudgeNext) → JudgeLeads whole ([] ++ answer ∷ []) next → JudgeLeads (λ later. whole (answer ∷ later)) [] next
judge_shifted whole answer (judge.Ask state) leads = leads
judge_shifted whole answer (judge.Done judged) leads = leads
judge_shifted whole answer (judge.Ended cause) leads = leads
