-- How cardholder verification goes on.
use Rattle.std.specs.Prelude.{◌≡◌, ℕ, List, length}
use Rattle.cvm_list.specs.Waiting.{verifying_rest}
use Rattle.cvm_list.specs.declared.verifying.VerifyNext.{VerifyNext}
use Rattle.cvm_list.specs.declared.verifying.VerifyNext.TheVariants as next
use Rattle.emv_dict.specs.Progress.{Progress, Leads, Stopped, Done}
use Rattle.emv_dict.specs.declared.verified.Verified.{Verified}

-- the whole goes on as what comes next in cardholder verification does
abbrev pub VerifyNextLeads : (List (List ℕ) → Progress Verified) → List (List ℕ) → VerifyNext → Type 0
VerifyNextLeads whole answers (next.Ask verifying) = Leads whole answers (verifying_rest verifying)
VerifyNextLeads whole answers (next.Done verified) = Leads whole answers (λ later. Done verified later)
VerifyNextLeads whole answers (next.Ended cause) = Leads whole answers (λ _. Stopped cause)

-- how many entries the card may still be asked about
abbrev pub entries_left : VerifyNext → ℕ
entries_left (next.Ask verifying) = length verifying.pins
entries_left (next.Done verified) = 0
entries_left (next.Ended cause) = 0
