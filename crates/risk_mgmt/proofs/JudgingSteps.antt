-- What is left of risk management once an answer more has come.
use Rattle.std.proofs.Common.{◌≡◌, ℕ, List, ◌∷◌, Option, Ok, Err, Result, ap, sym, refl, ◌∙◌}
use Rattle.emv_dict.specs.Progress.{Progress, Stopped, Done}
use Rattle.emv_dict.specs.declared.ending.Cause.{Cause}
use Rattle.emv_dict.specs.declared.judged.Judged.{Judged}
use Rattle.risk_mgmt.specs.Asked.{JudgingData, judging_rest, rest_by}
use Rattle.risk_mgmt.specs.Counters.{counter_tag, last_online_tag, counter_in_answer}
use Rattle.risk_mgmt.specs.Risky.{first_asked, first_by, last_asked, last_by}
use Rattle.risk_mgmt.specs.declared.judging.Asking.{Asking}
use Rattle.risk_mgmt.specs.declared.judging.Asking.TheVariants.{Counter, LastOnline}

pub first_answered : (s : JudgingData) (a : Asking) (b l u : ℕ) (reply : List ℕ) (given : Result (Option ℕ) Cause)
    → record { bits = b; lower = l; upper = u; asking = a } ≡ s → a ≡ Counter → given ≡ counter_in_answer counter_tag reply
    → (later : List (List ℕ)) → judging_rest s (reply ∷ later) ≡ first_by b l u given later
unfolding first_asked
first_answered s a b l u reply given seen is read later =
    ap (λ s. judging_rest s (reply ∷ later)) (sym seen)
    ∙ ap (λ a. rest_by a b l u (reply ∷ later)) is
    ∙ ap (λ r. first_by b l u r later) (sym read)

pub last_answered : (s : JudgingData) (a : Asking) (b l u : ℕ) (counter : Option ℕ) (reply : List ℕ) (given : Result (Option ℕ) Cause)
    → record { bits = b; lower = l; upper = u; asking = a } ≡ s → a ≡ LastOnline counter → given ≡ counter_in_answer last_online_tag reply
    → (later : List (List ℕ)) → judging_rest s (reply ∷ later) ≡ last_by b l u counter given later
unfolding last_asked
last_answered s a b l u counter reply given seen is read later =
    ap (λ s. judging_rest s (reply ∷ later)) (sym seen)
    ∙ ap (λ a. rest_by a b l u (reply ∷ later)) is
    ∙ ap (λ r. last_by b l u counter r later) (sym read)
