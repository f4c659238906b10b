-- Scripts: an answer that can't be read ends the one that waits for it, and each result has a first byte.
use Rattle.std.proofs.Common.{◌≡◌, refl, ℕ, ◌+◌, ◌<◌, Bool, true, false, if◌then◌else◌, List, [], ◌∷◌, ◌++◌, length, Option, Some, None, is_some, arith}
use Rattle.apdu_core.specs.Command.{command_of}
use Rattle.apdu_core.specs.Response.{response_of}
use Rattle.dialogue_laws.proofs.Giving.{Gives, gives_either}
use Rattle.emv_dict.specs.Progress.{Progress, Wants, Done}
use Rattle.script_run.specs.Ran.{failed_at, goes_on, command_then, ran, script_ran, template_ran}
use Rattle.script_run.specs.Script.{ReadScript, script_of}

-- the script is done, and took all answers
abbrev IsDone : Progress (List ℕ) → Type 0
IsDone progress = (result : List ℕ) × (progress ≡ Done result [])

no_answer : goes_on [] ≡ false
unfolding goes_on response_of
no_answer = refl

-- behind so many answers the script waits, so with one more that can't be read it is done
abbrev EndsNext : (List (List ℕ) → Progress (List ℕ)) → List (List ℕ) → Type 0
EndsNext whole answers = (command : List ℕ) → whole answers ≡ Wants command → IsDone (whole (answers ++ [] ∷ []))

behind_answer : (goes : Bool) (failed : List ℕ) (next : List (List ℕ) → Progress (List ℕ)) (answers : List (List ℕ)) → EndsNext next answers
    → EndsNext (λ later. if goes then next later else Done failed later) answers
behind_answer true failed next answers ends = ends
behind_answer false failed next answers ends = λ command waits. absurd (cc waits)

exchanged_ends : (command failed : List ℕ) (next : List (List ℕ) → Progress (List ℕ)) → ((later : List (List ℕ)) → EndsNext next later)
    → (answers : List (List ℕ)) → EndsNext (command_then command failed next) answers
exchanged_ends command failed next ends [] = λ asked waits. (failed, rw no_answer refl)
exchanged_ends command failed next ends (answer ∷ answers) = behind_answer (goes_on answer) failed next answers (ends answers)

sent_ends : (sendable : Bool) (failed : List ℕ) (whole : List (List ℕ) → Progress (List ℕ)) (answers : List (List ℕ)) → EndsNext whole answers
    → EndsNext (λ later. if sendable then whole later else Done failed later) answers
sent_ends true failed whole answers ends = ends
sent_ends false failed whole answers ends = λ command waits. absurd (cc waits)

ran_ends : (identifier : List ℕ) (number : ℕ) (commands answers : List (List ℕ)) → EndsNext (ran identifier number commands) answers
unfolding ran
ran_ends identifier number [] answers = λ command waits. absurd (cc waits)
ran_ends identifier number (command ∷ commands) answers =
    sent_ends (is_some (command_of command)) (failed_at identifier number) (command_then command (failed_at identifier number) (ran identifier (number + 1) commands)) answers
    (exchanged_ends command (failed_at identifier number) (ran identifier (number + 1) commands) (ran_ends identifier (number + 1) commands) answers)

script_ends : (script : Option ReadScript) (answers : List (List ℕ)) → EndsNext (script_ran script) answers
script_ends None answers = λ command waits. absurd (cc waits)
script_ends (Some script) answers = ran_ends script.identifier 1 script.commands answers

pub waiting_ends : (template : List ℕ) (answers : List (List ℕ)) (command : List ℕ) → template_ran template answers ≡ Wants command
    → (result : List ℕ) × (template_ran template (answers ++ [] ∷ []) ≡ Done result [])
waiting_ends template answers command waits = script_ends (script_of template) answers command waits

abbrev pub HasFirstByte : List ℕ → Type 0
HasFirstByte result = 0 < length result

exchanged_gives : (command failed : List ℕ) (next : List (List ℕ) → Progress (List ℕ)) → HasFirstByte failed
    → ((later : List (List ℕ)) → Gives HasFirstByte (next later)) → (answers : List (List ℕ)) → Gives HasFirstByte (command_then command failed next answers)
exchanged_gives command failed next has gives [] = tt
exchanged_gives command failed next has gives (answer ∷ answers) =
    gives_either HasFirstByte (goes_on answer) (next answers) (Done failed answers) (gives answers) has

ran_gives : (identifier : List ℕ) (number : ℕ) (commands answers : List (List ℕ)) → Gives HasFirstByte (ran identifier number commands answers)
unfolding ran
ran_gives identifier number [] answers = omega arith
ran_gives identifier number (command ∷ commands) answers =
    let failed = failed_at identifier number in
    let has : HasFirstByte failed = omega arith in
    let next = ran identifier (number + 1) commands in
    gives_either HasFirstByte (is_some (command_of command)) (command_then command failed next answers) (Done failed answers)
    (exchanged_gives command failed next has (ran_gives identifier (number + 1) commands) answers) has

script_gives : (script : Option ReadScript) (answers : List (List ℕ)) → Gives HasFirstByte (script_ran script answers)
script_gives None answers = omega arith
script_gives (Some script) answers = ran_gives script.identifier 1 script.commands answers

-- each result has a first byte
pub results_begin : (template : List ℕ) (answers : List (List ℕ)) → Gives HasFirstByte (template_ran template answers)
results_begin template answers = script_gives (script_of template) answers
