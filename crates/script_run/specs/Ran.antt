-- How a script runs over a card's answers, and its result (EMV 4.3 Book 3 section 10.10 and Book 4 Annex A5).
use Rattle.std.specs.Prelude.{ℕ, Bool, false, ◌+◌, ◌/◌, ◌==◌, ◌||◌, min, is_some, if◌then◌else◌, List, [], ◌∷◌, Option, Some, None}
use Rattle.apdu_core.specs.Command.{command_of}
use Rattle.apdu_core.specs.Response.{ResponseData, response_of}
use Rattle.apdu_core.specs.Status.{is_warning}
use Rattle.emv_dict.specs.Progress.{Progress, Wants, Done}
use Rattle.script_run.specs.Script.{ReadScript, script_of}

-- the result of a script whose commands all went on: 20 and the identifier
abbrev pub all_went_on : List ℕ → List ℕ
all_went_on identifier = 0x20 ∷ identifier

-- the result of one whose command of this number failed, counted from 1: 1 and the number, F from 15 on,
-- and the identifier
abbrev pub failed_at : List ℕ → ℕ → List ℕ
failed_at identifier number = (0x10 + min number 15) ∷ identifier

-- the result of a template that holds no script
abbrev pub no_script : List ℕ
no_script = 0 ∷ 0 ∷ 0 ∷ 0 ∷ 0 ∷ []

abbrev pub said_goes_on : Option ResponseData → Bool
said_goes_on None = false
said_goes_on (Some said) = (said.status / 256 == 0x90) || is_warning said.status

-- behind this answer the next command follows: SW1 is 90, 62 or 63; one that cannot be read fails the command
unfoldable pub goes_on : List ℕ → Bool
goes_on answer = said_goes_on (response_of answer)

-- a command and its answer: the result where it failed, else what follows
abbrev pub command_then : List ℕ → List ℕ → (List (List ℕ) → Progress (List ℕ)) → List (List ℕ) → Progress (List ℕ)
command_then command failed next [] = Wants command
command_then command failed next (answer ∷ answers) = (if goes_on answer then next answers else Done failed answers)

-- the commands from the one of this number on; one whose bytes are no command is not sent, and failed
unfoldable pub ran : List ℕ → ℕ → List (List ℕ) → List (List ℕ) → Progress (List ℕ)
ran identifier number [] answers = Done (all_went_on identifier) answers
ran identifier number (command ∷ commands) answers =
    if is_some (command_of command) then command_then command (failed_at identifier number) (ran identifier (number + 1) commands) answers
    else Done (failed_at identifier number) answers

abbrev pub script_ran : Option ReadScript → List (List ℕ) → Progress (List ℕ)
script_ran None answers = Done no_script answers
script_ran (Some script) answers = ran script.identifier 1 script.commands answers

-- the value of a template over the answers: the result of its script, and the answers behind those it took
abbrev pub template_ran : List ℕ → List (List ℕ) → Progress (List ℕ)
template_ran template answers = script_ran (script_of template) answers

-- a script that waits for an answer: the number of the command that is asked, from 1, and the commands from
-- that one on
pub record RunningData : Type 0 where
  pub identifier : List ℕ
  pub number : ℕ
  pub commands : List (List ℕ)

-- what it makes of the answers to come
abbrev pub running_rest : RunningData → List (List ℕ) → Progress (List ℕ)
running_rest running answers = ran running.identifier running.number running.commands answers
