-- One rule more behind what earlier rules found.
use Rattle.std.specs.Prelude.{◌≡◌, ℕ, true, false, if◌then◌else◌, List, Option, option_map}
use Rattle.apdu_core.specs.Response.{response_of}
use Rattle.cvm_list.specs.Cvm.{ReachedRules, found_after, is_deciding, verified_by_rules, verified}
use Rattle.cvm_list.specs.Tried.{said_of}
use Rattle.cvm_list.specs.declared.outcome.Found.{Found}
use Rattle.cvm_list.specs.declared.outcome.Outcome.{Outcome}
use Rattle.cvm_list.specs.declared.outcome.Said.{Said}
use Rattle.cvm_list.specs.declared.outcome.Settled.{Settled}
use Rattle.cvm_list.specs.declared.outcome.Settled.TheVariants as settled
use Rattle.emv_dict.specs.Progress.{Progress, Done}
use Rattle.emv_dict.specs.declared.verified.Verified.{Verified}

-- what a card's answer to VERIFY says, where it is a response
abbrev pub said_in : List ℕ → Option Said
said_in reply = option_map (λ response. said_of response.status) (response_of reply)

abbrev pub SettledIs : Found → Outcome → Settled → Type 0
SettledIs found outcome (settled.GoesOn more) = (is_deciding outcome ≡ false) × (more ≡ found_after found outcome)
SettledIs found outcome (settled.Done result) = (is_deciding outcome ≡ true) × (result ≡ verified (found_after found outcome))

-- verification behind a rule with this outcome, where so many entries and answers are left
abbrev pub rest_behind_rule : Found → Outcome → (List (List ℕ) → List (List ℕ) → ReachedRules) → List (List ℕ) → List (List ℕ) → Progress Verified
rest_behind_rule found outcome behind pins rest =
    if is_deciding outcome then Done (verified (found_after found outcome)) rest else verified_by_rules (found_after found outcome) (behind pins rest) rest
