-- How many replies a terminal may still take at most.
use Rattle.std.specs.Prelude.{ℕ, ◌+◌, ◌*◌, List, [], ◌∷◌, length, drop, Option, Some, None}
use Rattle.app_select.specs.Candidates.{CandidateData}
use Rattle.app_select.specs.Leading.{search_answers_left}
use Rattle.app_select.specs.declared.search.SearchNext.{SearchNext}
use Rattle.app_select.specs.declared.search.SearchNext.TheVariants as search
use Rattle.kernel.specs.Kernel.{KernelData}
use Rattle.kernel.specs.Stages.{behind_if}
use Rattle.kernel.specs.declared.stage.OpeningNext.{OpeningNext}
use Rattle.kernel.specs.declared.stage.OpeningNext.TheVariants as next
use Rattle.kernel.specs.declared.stage.Opening.{Opening}
use Rattle.kernel.specs.declared.stage.Opening.TheVariants as opening
use Rattle.kernel.specs.declared.stage.Stage.{Stage}
use Rattle.kernel.specs.declared.stage.Stage.TheVariants as stage
use Rattle.kernel.specs.declared.stage.Trading.{Trading}
use Rattle.kernel.specs.declared.stage.Trading.TheVariants as trading
use Rattle.pse_directory.specs.Left.{directory_answers_left}
use Rattle.read_records.specs.Afl.{most_records}
use Rattle.risk_mgmt.specs.Asked.{counters_by}
use Rattle.script_run.specs.Ran.{RunningData}
use Rattle.terminal_state.specs.Scripts.{templates_of_tag}
use Rattle.terminal_state.specs.declared.table.Table.{Table}

-- scripts ask no more commands than they have bytes: those of each value, and one for its tag
abbrev pub bytes_in_templates : List (List ℕ) → ℕ
bytes_in_templates [] = 0
bytes_in_templates (template ∷ others) = 1 + length template + bytes_in_templates others

-- the most bytes that scripts have
abbrev pub most_scripts : ℕ
most_scripts = 1024

-- how many commands the script that runs may still ask
abbrev pub commands_left : Option RunningData → ℕ
commands_left None = 0
commands_left (Some running) = length running.commands

-- once the card is read: the scripts, two cryptograms, the host, EXTERNAL AUTHENTICATE, two counters, and the PIN entries
abbrev pub trading_rank : Table → Trading → ℕ
trading_rank t (trading.Verify v) = length v.pins + 6 + most_scripts
trading_rank t (trading.Risk j) = counters_by j.asking + 4 + most_scripts
trading_rank t (trading.First asked) = 4 + most_scripts
trading_rank t trading.Online = 3 + most_scripts
trading_rank t trading.Authenticate = 2 + (bytes_in_templates (templates_of_tag 0x71 t.reply.scripts) + bytes_in_templates (templates_of_tag 0x72 t.reply.scripts))
trading_rank t (trading.ScriptBefore s) =
    commands_left t.running + 2 + (bytes_in_templates (drop s.next (templates_of_tag 0x71 t.reply.scripts)) + bytes_in_templates (templates_of_tag 0x72 t.reply.scripts))
trading_rank t (trading.Second s) = 1 + bytes_in_templates (behind_if s.outcome t.reply.scripts)
trading_rank t (trading.ScriptBehind s ending) = commands_left t.running + 1 + bytes_in_templates (drop s.next (templates_of_tag 0x72 t.reply.scripts))
trading_rank t (trading.Over ending) = 0

-- behind reading
abbrev pub rank_behind : Table → ℕ
rank_behind t = length t.purchase.now.pins + 6 + most_scripts

-- before: the records, and for each answer of the list, or of the directory, a final SELECT and GET PROCESSING OPTIONS
abbrev pub opening_rank : Table → Opening → ℕ
opening_rank t (opening.Directory s) = 2 * directory_answers_left s.listing + (most_records + rank_behind t)
opening_rank t (opening.Select s) = 2 * search_answers_left s.search t.candidates + (most_records + rank_behind t)
opening_rank t (opening.Initiate s) = 1 + 2 * length t.candidates + (most_records + rank_behind t)
opening_rank t (opening.Read s) = length s.course + rank_behind t
opening_rank t (opening.Over ending) = 0

abbrev pub stage_rank : Table → Stage → ℕ
stage_rank t (stage.Opening s) = opening_rank t s
stage_rank t (stage.Trading at) = trading_rank t at.trading

-- how many replies a kernel may still take at most
abbrev pub kernel_rank : KernelData → ℕ
kernel_rank k = stage_rank k.table k.stage

-- the same behind a reply
abbrev pub search_rank : SearchNext → List CandidateData → ℕ
search_rank (search.Ask state) candidates = 2 * search_answers_left state candidates
search_rank (search.Chosen choice) candidates = 1 + 2 * length candidates
search_rank (search.Ended cause) candidates = 0

abbrev pub next_rank : Table → OpeningNext → ℕ
next_rank t (next.On s) = opening_rank t s
next_rank t (next.Read row) = rank_behind t
