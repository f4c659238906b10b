-- What the value of a step is like, where the step has one.
use Rattle.std.proofs.Common.{Bool, true, false, if◌then◌else◌}
use Rattle.emv_dict.specs.Progress.{Progress, Wants, Stopped, Done}

abbrev pub Gives : {A : Type 0} → (A → Type 0) → Progress A → Type 0
Gives P (Wants command) = Unit {0}
Gives P (Stopped cause) = Unit {0}
Gives P (Done value rest) = P value

-- what each value is like
pub gives_any : {A : Type 0} (P : A → Type 0) → ((value : A) → P value) → (progress : Progress A) → Gives P progress
gives_any P all (Wants command) = tt
gives_any P all (Stopped cause) = tt
gives_any P all (Done value rest) = all value

pub gives_either : {A : Type 0} (P : A → Type 0) (test : Bool) (one two : Progress A) → Gives P one → Gives P two → Gives P (if test then one else two)
gives_either P true one two first second = first
gives_either P false one two first second = second
