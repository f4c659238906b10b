-- What the script does next with the later answers.
use Rattle.std.specs.Prelude.{◌≡◌, ⊤, ℕ, List, length}
use Rattle.emv_dict.specs.Progress.{Progress, Done, Leads}
use Rattle.script_run.specs.Ran.{running_rest}
use Rattle.script_run.specs.declared.running.RunNext.{RunNext}
use Rattle.script_run.specs.declared.running.RunNext.TheVariants as run

-- behind these answers the whole asks and goes on so, or is done with this result
abbrev pub RunNextLeads : (List (List ℕ) → Progress (List ℕ)) → List (List ℕ) → RunNext → Type 0
RunNextLeads whole answers (run.Ask running) = Leads whole answers (running_rest running)
RunNextLeads whole answers (run.Done result) = Leads whole answers (Done result)

-- how many commands may still be asked
abbrev pub commands_left_next : RunNext → ℕ
commands_left_next (run.Ask running) = length running.commands
commands_left_next (run.Done result) = 0

-- the command of this number is asked, if one is
abbrev pub AsksNumber : ℕ → RunNext → Type 0
AsksNumber number (run.Ask running) = running.number ≡ number
AsksNumber number (run.Done result) = ⊤
