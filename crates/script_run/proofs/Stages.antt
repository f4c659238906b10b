-- How a script goes on behind a command.
use Rattle.std.proofs.Common.{◌≡◌, ℕ, ◌+◌, true, false, is_some, List, [], ◌∷◌, ◌++◌, length, refl, ap, sym, ◌∙◌, arith}
use Rattle.apdu_core.specs.Command.{command_of}
use Rattle.apdu_core.specs.Response.{response_of}
use Rattle.emv_dict.proofs.Steps.{leads_more, leads_now}
use Rattle.emv_dict.specs.Progress.{Progress, Wants, Done, Leads}
use Rattle.script_run.specs.Laws.{AllWentOn}
use Rattle.script_run.specs.Ran.{all_went_on, failed_at, goes_on, command_then, ran}

pub ran-end : (identifier : List ℕ) (number : ℕ) (answers : List (List ℕ)) → ran identifier number [] answers ≡ Done (all_went_on identifier) answers
unfolding ran
ran-end identifier number answers = refl

pub ran-sent : (identifier : List ℕ) (number : ℕ) (command : List ℕ) (commands answers : List (List ℕ)) → is_some (command_of command) ≡ true
    → ran identifier number (command ∷ commands) answers ≡ command_then command (failed_at identifier number) (ran identifier (number + 1) commands) answers
unfolding ran
ran-sent identifier number command commands answers is = rw is refl

pub ran-unsent : (identifier : List ℕ) (number : ℕ) (command : List ℕ) (commands answers : List (List ℕ)) → is_some (command_of command) ≡ false
    → ran identifier number (command ∷ commands) answers ≡ Done (failed_at identifier number) answers
unfolding ran
ran-unsent identifier number command commands answers is = rw is refl

ran-more : (identifier : List ℕ) (number : ℕ) (command answer : List ℕ) (commands answers : List (List ℕ)) → is_some (command_of command) ≡ true → goes_on answer ≡ true
    → ran identifier number (command ∷ commands) (answer ∷ answers) ≡ ran identifier (number + 1) commands answers
ran-more identifier number command answer commands answers is on = ran-sent identifier number command commands (answer ∷ answers) is ∙ rw on refl

pub ran-failed : (identifier : List ℕ) (number : ℕ) (command answer : List ℕ) (commands answers : List (List ℕ)) → is_some (command_of command) ≡ true → goes_on answer ≡ false
    → ran identifier number (command ∷ commands) (answer ∷ answers) ≡ Done (failed_at identifier number) answers
ran-failed identifier number command answer commands answers is on = ran-sent identifier number command commands (answer ∷ answers) is ∙ rw on refl

-- behind commands that went on
pub ran-behind : (identifier : List ℕ) (number : ℕ) (before left answers rest : List (List ℕ)) → AllWentOn before answers
    → ran identifier number (before ++ left) (answers ++ rest) ≡ ran identifier (number + length before) left rest
ran-behind identifier number [] left [] rest on = ap (λ (n : ℕ). ran identifier n left rest) (omega arith)
ran-behind identifier number [] left (answer ∷ answers) rest on = absurd on
ran-behind identifier number (command ∷ before) left [] rest on = absurd on
ran-behind identifier number (command ∷ before) left (answer ∷ answers) rest on =
    ran-more identifier number command answer (before ++ left) (answers ++ rest) on.0 on.1
    ∙ ran-behind identifier (number + 1) before left answers rest on.2
    ∙ ap (λ (n : ℕ). ran identifier n left rest) (omega arith)

done_so : (result same : List ℕ) (later : List (List ℕ)) → result ≡ same → ◌≡◌ {A = Progress (List ℕ)} (Done same later) (Done result later)
done_so result same later is = ap (λ (bytes : List ℕ). let p : Progress (List ℕ) = Done bytes later in p) (sym is)

-- no command is left
pub ended : (whole : List (List ℕ) → Progress (List ℕ)) (answers : List (List ℕ)) (identifier : List ℕ) (number : ℕ) (commands : List (List ℕ)) (result : List ℕ)
    → commands ≡ [] → result ≡ all_went_on identifier → Leads whole answers (ran identifier number commands) → Leads whole answers (Done result)
ended whole answers identifier number commands result none is leads later =
    leads later ∙ ap (λ (left : List (List ℕ)). ran identifier number left later) none ∙ ran-end identifier number later ∙ done_so result _ later is

-- the next one is no command
pub not_sent : (whole : List (List ℕ) → Progress (List ℕ)) (answers : List (List ℕ)) (identifier : List ℕ) (number : ℕ) (commands : List (List ℕ)) (command : List ℕ) (behind : List (List ℕ)) (result : List ℕ)
    → commands ≡ command ∷ behind → is_some (command_of command) ≡ false → result ≡ failed_at identifier number
    → Leads whole answers (ran identifier number commands) → Leads whole answers (Done result)
not_sent whole answers identifier number commands command behind result stands bad is leads later =
    leads later ∙ ap (λ (left : List (List ℕ)). ran identifier number left later) stands ∙ ran-unsent identifier number command behind later bad ∙ done_so result _ later is

-- the next one is asked
pub wanted : (whole : List (List ℕ) → Progress (List ℕ)) (answers : List (List ℕ)) (identifier : List ℕ) (number : ℕ) (commands : List (List ℕ)) (command : List ℕ) (behind : List (List ℕ)) (out : List ℕ)
    → commands ≡ command ∷ behind → is_some (command_of command) ≡ true → out ≡ command
    → Leads whole answers (ran identifier number commands) → whole answers ≡ Wants out
wanted whole answers identifier number commands command behind out stands good is leads =
    leads_now whole (ran identifier number commands) answers leads
    ∙ ap (λ (left : List (List ℕ)). ran identifier number left []) stands
    ∙ ran-sent identifier number command behind [] good
    ∙ ap (λ (bytes : List ℕ). let w : Progress (List ℕ) = Wants bytes in w) (sym is)

-- its answer lets the next one follow
pub went_on : (whole : List (List ℕ) → Progress (List ℕ)) (answers : List (List ℕ)) (identifier : List ℕ) (number : ℕ) (commands : List (List ℕ)) (command answer : List ℕ) (behind : List (List ℕ))
    → commands ≡ command ∷ behind → is_some (command_of command) ≡ true → goes_on answer ≡ true
    → Leads whole answers (ran identifier number commands) → Leads whole (answers ++ answer ∷ []) (ran identifier (number + 1) behind)
went_on whole answers identifier number commands command answer behind stands good on leads =
    leads_more whole (ran identifier number commands) (ran identifier (number + 1) behind) answers answer leads
    (λ later. ap (λ (left : List (List ℕ)). ran identifier number left (answer ∷ later)) stands ∙ ran-more identifier number command answer behind later good on)

-- it failed by its answer
pub gave_up : (whole : List (List ℕ) → Progress (List ℕ)) (answers : List (List ℕ)) (identifier : List ℕ) (number : ℕ) (commands : List (List ℕ)) (command answer : List ℕ) (behind : List (List ℕ)) (result : List ℕ)
    → commands ≡ command ∷ behind → is_some (command_of command) ≡ true → goes_on answer ≡ false → result ≡ failed_at identifier number
    → Leads whole answers (ran identifier number commands) → Leads whole (answers ++ answer ∷ []) (Done result)
gave_up whole answers identifier number commands command answer behind result stands good off is leads =
    leads_more whole (ran identifier number commands) (Done result) answers answer leads
    (λ later. ap (λ (left : List (List ℕ)). ran identifier number left (answer ∷ later)) stands ∙ ran-failed identifier number command answer behind later good off ∙ done_so result _ later is)

pub no_answer : goes_on [] ≡ false
unfolding goes_on response_of
no_answer = refl
