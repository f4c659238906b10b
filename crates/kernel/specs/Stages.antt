-- What is left of a dialogue at each of its stages.
use Rattle.std.specs.Prelude.{◌≡◌, ⊤, ℕ, ◌+◌, ◌-◌, ◌≤◌, Bool, List, [], ◌∷◌, length, drop, Option, Some, None, IsSome}
use Rattle.app_select.specs.Leading.{rest_with}
use Rattle.auth_message.specs.Whole.{IsMessage}
use Rattle.cvm_list.specs.Waiting.{verifying_rest}
use Rattle.emv_dict.specs.Progress.{Progress, Wants, Done}
use Rattle.emv_dict.specs.Views.{AcData}
use Rattle.emv_dict.specs.declared.ending.Kind.{Kind}
use Rattle.emv_dict.specs.declared.ending.Step.TheVariants as step
use Rattle.emv_dict.specs.declared.purchase.Logged.{Logged}
use Rattle.kernel.specs.StepsInTurn.{Standing, Rest, over, card_step, cut_off, host_step}
use Rattle.kernel.specs.Dialogue.{TransactionData, selected_then, granted, candidates_left, read_then, verified_then, judged_then, first_then, replied, authenticated_then, scripts_before, scripts_behind, second_then, left_script}
use Rattle.kernel.specs.Reply.{Reply}
use Rattle.kernel.specs.declared.stage.OnlineOutcome.{OnlineOutcome}
use Rattle.kernel.specs.declared.stage.OnlineOutcome.TheVariants.{Replied, Unable}
use Rattle.kernel.specs.declared.stage.Opening.{Opening}
use Rattle.kernel.specs.declared.stage.Opening.TheVariants as opening
use Rattle.kernel.specs.declared.stage.Trading.{Trading}
use Rattle.kernel.specs.declared.stage.Trading.TheVariants as trading
use Rattle.object_lists.specs.CardRead.{ReadCard}
use Rattle.online_step.specs.Ac.{ac_in_answer}
use Rattle.online_step.specs.Authenticate.{authentication_verdict, after_verdict}
use Rattle.online_step.specs.Generate.{after_ac}
use Rattle.online_step.specs.declared.ac.GenerateAc.{GenerateAc}
use Rattle.online_step.specs.declared.ac.GenerateAc.TheVariants as generate
use Rattle.pse_directory.specs.Left.{directory_rest}
use Rattle.read_records.specs.DataRead.{reading}
use Rattle.read_records.specs.Options.{initiated}
use Rattle.risk_mgmt.specs.Asked.{judging_rest}
use Rattle.script_run.specs.Ran.{RunningData, no_script, running_rest}
use Rattle.terminal_state.specs.StepResults as step_result
use Rattle.terminal_state.specs.StepResults.{StepResult, state_so_far, latest, sets_card}
use Rattle.terminal_state.specs.Scripts.{templates_of_tag}
use Rattle.terminal_state.specs.Table.{outset_of}
use Rattle.terminal_state.specs.declared.table.Table.{Table}

-- GENERATE AC was asked by this command
abbrev pub generating : List ℕ → Kind → GenerateAc → List (List ℕ) → Progress AcData
generating command asked which [] = Wants command
generating command asked which (answer ∷ rest) = after_ac (ac_in_answer answer asked which) rest

-- EXTERNAL AUTHENTICATE was asked by this one
abbrev pub authenticating : List ℕ → List (List ℕ) → Progress Bool
authenticating command [] = Wants command
authenticating command (answer ∷ rest) = after_verdict (authentication_verdict answer) rest

-- what the script that runs makes of the answers to come
abbrev pub script_rest : Option RunningData → List (List ℕ) → Progress (List ℕ)
script_rest None answers = Done no_script answers
script_rest (Some running) answers = running_rest running answers

-- the templates 72 of a reply that was read
abbrev pub behind_if : OnlineOutcome → List ℕ → List (List ℕ)
behind_if Replied scripts = templates_of_tag 0x72 scripts
behind_if Unable scripts = []

-- once the card is read
abbrev pub trading_rest : Table → TransactionData → List StepResult → Trading → Rest StepResult
trading_rest t transaction steps_done (trading.Verify v) =
    card_step (cut_off steps_done) step.Verify step.Verify steps_done (verifying_rest v) (verified_then transaction steps_done)
trading_rest t transaction steps_done (trading.Risk j) =
    card_step (cut_off steps_done) step.Risk step.Risk steps_done (judging_rest j) (judged_then transaction steps_done)
trading_rest t transaction steps_done (trading.First asked) =
    card_step (cut_off steps_done) step.First step.First steps_done (generating t.command.items asked generate.First)
    (first_then transaction steps_done)
trading_rest t transaction steps_done trading.Online = host_step steps_done t.message.items (replied transaction steps_done)
trading_rest t transaction steps_done trading.Authenticate =
    card_step (cut_off steps_done) step.Authenticate step.Authenticate steps_done (authenticating t.command.items)
    (authenticated_then transaction t.reply steps_done)
trading_rest t transaction steps_done (trading.ScriptBefore s) =
    card_step (cut_off steps_done) step.Script step.Script steps_done (script_rest t.running)
    (λ result. scripts_before transaction t.reply (drop s.next (templates_of_tag 0x71 t.reply.scripts)) (step_result.HasRunBefore result ∷ steps_done))
trading_rest t transaction steps_done (trading.Second s) =
    card_step (cut_off steps_done) step.Second step.Second steps_done (generating t.command.items s.asked generate.Second)
    (second_then s.outcome (behind_if s.outcome t.reply.scripts) steps_done)
trading_rest t transaction steps_done (trading.ScriptBehind s ending) =
    card_step (left_script ending (drop s.next (templates_of_tag 0x72 t.reply.scripts)) steps_done) step.Script step.Script steps_done (script_rest t.running)
    (λ result. scripts_behind ending (drop s.next (templates_of_tag 0x72 t.reply.scripts)) (step_result.HasRunBehind result ∷ steps_done))
trading_rest t transaction steps_done (trading.Over ending) = over steps_done ending

-- the command that waits is the one that the step wants answered
abbrev pub TradingShows : Table → Trading → Type 0
TradingShows t (trading.Verify v) = verifying_rest v [] ≡ Wants t.command.items
TradingShows t (trading.Risk j) = judging_rest j [] ≡ Wants t.command.items
TradingShows t (trading.First asked) = ⊤
TradingShows t trading.Online = ⊤
TradingShows t trading.Authenticate = ⊤
TradingShows t (trading.ScriptBefore s) = script_rest t.running [] ≡ Wants t.command.items
TradingShows t (trading.Second s) = ⊤
TradingShows t (trading.ScriptBehind s ending) = script_rest t.running [] ≡ Wants t.command.items
TradingShows t (trading.Over ending) = ⊤

-- what is left of the dialogue is what this stage leaves, behind these steps
pub record TradingStands (t : Table) (transaction : TransactionData) (s : Trading) (log : List Logged) (rest : List Reply → Standing StepResult) : Type 0 where
  pub steps_done : List StepResult
  pub passed : (later : List Reply) → rest later ≡ trading_rest t transaction steps_done s log later
  pub tied : t.state_so_far ≡ state_so_far steps_done
  pub read : latest sets_card None steps_done ≡ Some transaction.card
  pub shows : TradingShows t s

-- a step begins here, with this card
pub record Begins (t : Table) (card : ReadCard) (steps_done : List StepResult) (rest start : List Reply → Standing StepResult) : Type 0 where
  pub passed : (later : List Reply) → rest later ≡ start later
  pub tied : t.state_so_far ≡ state_so_far steps_done
  pub read : latest sets_card None steps_done ≡ Some card

-- before the card is read
abbrev pub opening_rest : Table → Opening → Rest StepResult
opening_rest t (opening.Directory s) =
    card_step (cut_off []) s.cut step.Select [] (directory_rest s.listing) (selected_then (outset_of t))
opening_rest t (opening.Select s) =
    card_step (cut_off []) s.cut step.Select [] (rest_with s.search t.candidates) (selected_then (outset_of t))
opening_rest t (opening.Initiate s) =
    card_step (cut_off []) step.Initiate step.Initiate [] (initiated s.initiating)
    (granted (outset_of t) s.choice.row (candidates_left (outset_of t) t.candidates))
opening_rest t (opening.Read s) =
    card_step (cut_off []) step.Read step.Read [] (reading (record { entries = t.objects; left = s.course }))
    (read_then (outset_of t) s.row.now)
opening_rest t (opening.Over ending) = over [] ending

abbrev pub OpeningShows : Table → Opening → Type 0
OpeningShows t (opening.Directory s) = directory_rest s.listing [] ≡ Wants t.command.items
OpeningShows t (opening.Select s) = rest_with s.search t.candidates [] ≡ Wants t.command.items
OpeningShows t (opening.Initiate s) = initiated s.initiating [] ≡ Wants t.command.items
OpeningShows t (opening.Read s) = reading (record { entries = t.objects; left = s.course }) [] ≡ Wants t.command.items
OpeningShows t (opening.Over ending) = ⊤

pub record OpeningStands (t : Table) (s : Opening) (log : List Logged) (rest : List Reply → Standing StepResult) : Type 0 where
  pub passed : (later : List Reply) → rest later ≡ opening_rest t s log later
  pub tied : t.state_so_far ≡ state_so_far []
  pub shows : OpeningShows t s

-- how many scripts may still run
abbrev pub scripts_left : List ℕ → Trading → ℕ
scripts_left scripts (trading.Verify v) = 8
scripts_left scripts (trading.Risk j) = 8
scripts_left scripts (trading.First asked) = 8
scripts_left scripts trading.Online = 8
scripts_left scripts trading.Authenticate = length (templates_of_tag 0x71 scripts) + length (templates_of_tag 0x72 scripts)
scripts_left scripts (trading.ScriptBefore s) = 1 + (length (templates_of_tag 0x71 scripts) - s.next) + length (templates_of_tag 0x72 scripts)
scripts_left scripts (trading.Second s) = length (behind_if s.outcome scripts)
scripts_left scripts (trading.ScriptBehind s ending) = 1 + (length (templates_of_tag 0x72 scripts) - s.next)
scripts_left scripts (trading.Over ending) = 0

-- a message that is asked of the host is one that it reads, and a script that runs lies on the table
abbrev pub HasAsked : Table → Trading → Type 0
HasAsked t trading.Online = IsMessage t.message.items
HasAsked t (trading.ScriptBefore s) = IsSome t.running
HasAsked t (trading.ScriptBehind s ending) = IsSome t.running
HasAsked t other = ⊤

-- there is room for so many results more
abbrev pub HasRoomForResults : Table → ℕ → Type 0
HasRoomForResults t count = length t.state_so_far.scripts + count ≤ 8
