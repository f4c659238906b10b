-- What a kernel shows of the dialogue.
use Rattle.std.proofs.Common.{◌≡◌, refl, sym, ap, ◌∙◌, List, [], ◌++◌, drop, None}
use Rattle.std.proofs.lemmas.List.{append-nil}
use Rattle.app_select.specs.Leading.{rest_with}
use Rattle.cvm_list.specs.Waiting.{verifying_rest}
use Rattle.emv_dict.specs.declared.ending.Step.TheVariants as step
use Rattle.emv_dict.specs.declared.purchase.Logged.{Logged}
use Rattle.kernel.proofs.Courses.{wants}
use Rattle.kernel.specs.StepsInTurn.{Standing, stands, cut_off, host_step}
use Rattle.kernel.specs.Dialogue.{TransactionData, dialogue, left_script}
use Rattle.kernel.specs.Kernel.{KernelData, KernelFits, StageFits, KernelStands, StageGoes, outset_in, kernel_next, stage_next, opening_next, trading_next, standing_next, told_bytes, deed_next, deed_bytes, bytes_by}
use Rattle.kernel.specs.Reply.{Reply, Deed, ToCard, ToHost, Over}
use Rattle.kernel.specs.Stages.{OpeningStands, TradingStands, generating, authenticating, script_rest}
use Rattle.kernel.specs.declared.stage.Opening.{Opening}
use Rattle.kernel.specs.declared.stage.Opening.TheVariants as opening
use Rattle.kernel.specs.declared.stage.Stage.{Stage}
use Rattle.kernel.specs.declared.stage.Stage.TheVariants as stage
use Rattle.kernel.specs.declared.stage.Trading.{Trading}
use Rattle.kernel.specs.declared.stage.Trading.TheVariants as trading
use Rattle.online_step.specs.declared.ac.GenerateAc.TheVariants as generate
use Rattle.pse_directory.specs.Left.{directory_rest}
use Rattle.read_records.specs.DataRead.{reading}
use Rattle.read_records.specs.Options.{initiated}
use Rattle.risk_mgmt.specs.Asked.{judging_rest}
use Rattle.terminal_state.specs.StepResults.{StepResult, state_so_far, latest, sets_card}
use Rattle.terminal_state.specs.Scripts.{templates_of_tag}
use Rattle.terminal_state.specs.declared.table.Table.{Table}

-- what a stage does next
abbrev pub opening_deed : Table → Opening → Deed
opening_deed t (opening.Directory s) = ToCard t.command.items
opening_deed t (opening.Select s) = ToCard t.command.items
opening_deed t (opening.Initiate s) = ToCard t.command.items
opening_deed t (opening.Read s) = ToCard t.command.items
opening_deed t (opening.Over ending) = Over ending

abbrev pub trading_deed : Table → Trading → Deed
trading_deed t (trading.Verify v) = ToCard t.command.items
trading_deed t (trading.Risk j) = ToCard t.command.items
trading_deed t (trading.First asked) = ToCard t.command.items
trading_deed t trading.Online = ToHost t.message.items
trading_deed t trading.Authenticate = ToCard t.command.items
trading_deed t (trading.ScriptBefore s) = ToCard t.command.items
trading_deed t (trading.Second s) = ToCard t.command.items
trading_deed t (trading.ScriptBehind s ending) = ToCard t.command.items
trading_deed t (trading.Over ending) = Over ending

abbrev pub stage_deed : Table → Stage → Deed
stage_deed t (stage.Opening s) = opening_deed t s
stage_deed t (stage.Trading at) = trading_deed t at.trading

pub opening_shows : (t : Table) → (s : Opening) → (log : List Logged) → (rest : List Reply → Standing StepResult) → OpeningStands t s log rest → rest [] ≡ stands [] (opening_deed t s)
opening_shows t (opening.Directory s) log rest is =
    is.passed [] ∙ wants (cut_off []) s.cut step.Select [] (directory_rest s.listing) _ log t.command.items is.shows
opening_shows t (opening.Select s) log rest is =
    is.passed [] ∙ wants (cut_off []) s.cut step.Select [] (rest_with s.search t.candidates) _ log t.command.items is.shows
opening_shows t (opening.Initiate s) log rest is =
    is.passed [] ∙ wants (cut_off []) step.Initiate step.Initiate [] (initiated s.initiating) _ log t.command.items is.shows
opening_shows t (opening.Read s) log rest is =
    is.passed [] ∙ wants (cut_off []) step.Read step.Read [] (reading (record { entries = t.objects; left = s.course })) _ log t.command.items is.shows
opening_shows t (opening.Over ending) log rest is = is.passed []

pub trading_shows : (t : Table) → (transaction : TransactionData) → (s : Trading) → (log : List Logged) → (rest : List Reply → Standing StepResult) → (is : TradingStands t transaction s log rest) → rest [] ≡ stands is.steps_done (trading_deed t s)
unfolding host_step
trading_shows t transaction (trading.Verify v) log rest is =
    is.passed [] ∙ wants (cut_off is.steps_done) step.Verify step.Verify is.steps_done (verifying_rest v) _ log t.command.items is.shows
trading_shows t transaction (trading.Risk j) log rest is =
    is.passed [] ∙ wants (cut_off is.steps_done) step.Risk step.Risk is.steps_done (judging_rest j) _ log t.command.items is.shows
trading_shows t transaction (trading.First asked) log rest is =
    is.passed [] ∙ wants (cut_off is.steps_done) step.First step.First is.steps_done (generating t.command.items asked generate.First) _ log t.command.items refl
trading_shows t transaction trading.Online log rest is = is.passed []
trading_shows t transaction trading.Authenticate log rest is =
    is.passed [] ∙ wants (cut_off is.steps_done) step.Authenticate step.Authenticate is.steps_done (authenticating t.command.items) _ log t.command.items refl
trading_shows t transaction (trading.ScriptBefore s) log rest is =
    is.passed [] ∙ wants (cut_off is.steps_done) step.Script step.Script is.steps_done (script_rest t.running) _ log t.command.items is.shows
trading_shows t transaction (trading.Second s) log rest is =
    is.passed [] ∙ wants (cut_off is.steps_done) step.Second step.Second is.steps_done (generating t.command.items s.asked generate.Second) _ log t.command.items refl
trading_shows t transaction (trading.ScriptBehind s ending) log rest is =
    is.passed [] ∙ wants (left_script ending (drop s.next (templates_of_tag 0x72 t.reply.scripts)) is.steps_done) step.Script step.Script is.steps_done (script_rest t.running) _ log t.command.items is.shows
trading_shows t transaction (trading.Over ending) log rest is = is.passed []

-- what the dialogue does next is what the stage does, and the card that it read and what its steps leave are the kernel's
pub record ShownAt (k : KernelData) (s : Stage) (standing : Standing StepResult) : Type 0 where
  pub steps_done : List StepResult
  pub is : standing ≡ stands steps_done (stage_deed k.table s)
  pub read : latest sets_card None steps_done ≡ k.card
  pub tied : k.table.state_so_far ≡ state_so_far steps_done

pub stage_shows : (k : KernelData) → (s : Stage) → (log : List Logged) → (rest : List Reply → Standing StepResult) → StageFits k.table k.card s → StageGoes k.table k.card s log rest → ShownAt k s (rest [])
stage_shows k (stage.Opening s) log rest fits goes = record {
  steps_done = [];
  is = opening_shows k.table s log rest goes;
  read = sym fits.1;
  tied = goes.tied;
}
stage_shows k (stage.Trading at) log rest fits goes = record {
  steps_done = goes.stands.steps_done;
  is = trading_shows k.table (record { outset = outset_in k; row = at.row.now; card = goes.card }) at.trading log rest goes.stands;
  read = goes.stands.read ∙ sym goes.card_is;
  tied = goes.stands.tied;
}

pub kernel_shows : (k : KernelData) → (replies : List Reply) → KernelFits k → KernelStands k replies → ShownAt k k.stage (dialogue (outset_in k) replies)
kernel_shows k replies fits is =
    let shown = stage_shows k k.stage is.log (λ later. dialogue (outset_in k) (replies ++ later)) fits.stage is.goes in
    record { steps_done = shown.steps_done; is = ap (λ (all : List Reply). dialogue (outset_in k) all) (sym (append-nil replies)) ∙ shown.is; read = shown.read; tied = shown.tied }

-- what it does next, as the kernel names it
pub opening_deed_next : (t : Table) → (s : Opening) → deed_next (opening_deed t s) ≡ opening_next s
opening_deed_next t (opening.Directory s) = refl
opening_deed_next t (opening.Select s) = refl
opening_deed_next t (opening.Initiate s) = refl
opening_deed_next t (opening.Read s) = refl
opening_deed_next t (opening.Over ending) = refl

pub trading_deed_next : (t : Table) → (s : Trading) → deed_next (trading_deed t s) ≡ trading_next s
trading_deed_next t (trading.Verify v) = refl
trading_deed_next t (trading.Risk j) = refl
trading_deed_next t (trading.First asked) = refl
trading_deed_next t trading.Online = refl
trading_deed_next t trading.Authenticate = refl
trading_deed_next t (trading.ScriptBefore s) = refl
trading_deed_next t (trading.Second s) = refl
trading_deed_next t (trading.ScriptBehind s ending) = refl
trading_deed_next t (trading.Over ending) = refl

pub stage_deed_next : (t : Table) → (s : Stage) → deed_next (stage_deed t s) ≡ stage_next s
stage_deed_next t (stage.Opening s) = opening_deed_next t s
stage_deed_next t (stage.Trading at) = trading_deed_next t at.trading

pub next_is_told : (k : KernelData) → (replies : List Reply) → KernelFits k → KernelStands k replies → kernel_next k ≡ standing_next (dialogue (outset_in k) replies)
next_is_told k replies fits is =
    let shown = kernel_shows k replies fits is in
    sym (stage_deed_next k.table k.stage) ∙ ap (λ (standing : Standing StepResult). standing_next standing) (sym shown.is)

opening_bytes : (t : Table) → (s : Opening) → deed_bytes (opening_deed t s) ≡ bytes_by t (opening_next s)
opening_bytes t (opening.Directory s) = refl
opening_bytes t (opening.Select s) = refl
opening_bytes t (opening.Initiate s) = refl
opening_bytes t (opening.Read s) = refl
opening_bytes t (opening.Over ending) = refl

trading_bytes : (t : Table) → (s : Trading) → deed_bytes (trading_deed t s) ≡ bytes_by t (trading_next s)
trading_bytes t (trading.Verify v) = refl
trading_bytes t (trading.Risk j) = refl
trading_bytes t (trading.First asked) = refl
trading_bytes t trading.Online = refl
trading_bytes t trading.Authenticate = refl
trading_bytes t (trading.ScriptBefore s) = refl
trading_bytes t (trading.Second s) = refl
trading_bytes t (trading.ScriptBehind s ending) = refl
trading_bytes t (trading.Over ending) = refl

stage_bytes : (t : Table) → (s : Stage) → deed_bytes (stage_deed t s) ≡ bytes_by t (stage_next s)
stage_bytes t (stage.Opening s) = opening_bytes t s
stage_bytes t (stage.Trading at) = trading_bytes t at.trading

pub bytes_are_told : (k : KernelData) → (replies : List Reply) → KernelFits k → KernelStands k replies → bytes_by k.table (kernel_next k) ≡ told_bytes (dialogue (outset_in k) replies)
bytes_are_told k replies fits is =
    let shown = kernel_shows k replies fits is in
    sym (stage_bytes k.table k.stage) ∙ ap (λ (standing : Standing StepResult). told_bytes standing) (sym shown.is)

pub card_is_told : (k : KernelData) → (replies : List Reply) → KernelFits k → KernelStands k replies → k.card ≡ latest sets_card None (dialogue (outset_in k) replies).steps_done
card_is_told k replies fits is =
    let shown = kernel_shows k replies fits is in
    sym shown.read ∙ ap (λ (standing : Standing StepResult). latest sets_card None standing.steps_done) (sym shown.is)

pub state_is_told : (k : KernelData) → (replies : List Reply) → KernelFits k → KernelStands k replies → k.table.state_so_far ≡ state_so_far (dialogue (outset_in k) replies).steps_done
state_is_told k replies fits is =
    let shown = kernel_shows k replies fits is in
    shown.tied ∙ ap (λ (standing : Standing StepResult). state_so_far standing.steps_done) (sym shown.is)
