-- The end of a kernel's dialogue.
use Rattle.std.proofs.Common.{◌≡◌, ℕ, ◌-◌, ◌^◌, arith, refl, sym, ap, ◌∙◌, List, [], ◌++◌, Some, None}
use Rattle.std.proofs.lemmas.List.{append-nil}
use Rattle.std.proofs.lemmas.Option.{same_Some}
use Rattle.std.specs.Prelude.{min}
use Rattle.std.specs.declared.option.Option.{Option}
use Rattle.emv_dict.specs.declared.ending.Ending.{Ending}
use Rattle.emv_dict.specs.declared.ending.Ending.TheVariants.{Approved, Declined, Terminated, CutOff}
use Rattle.emv_dict.specs.declared.purchase.Logged.{Logged}
use Rattle.kernel.proofs.Showing.{opening_deed, trading_deed, opening_shows, trading_shows}
use Rattle.kernel.specs.StepsInTurn.{Standing, stands}
use Rattle.kernel.specs.Dialogue.{TransactionData, dialogue}
use Rattle.kernel.specs.Ended.{EndData, capture, presentment, reversal, end_with, end_of}
use Rattle.kernel.specs.Kernel.{KernelData, KernelFits, StageFits, KernelStands, StageGoes, outset_in}
use Rattle.kernel.specs.Reply.{Reply, Deed, Over}
use Rattle.kernel.specs.EndShown.{opening_over, trading_over, stage_over}
use Rattle.kernel.specs.Stages.{OpeningStands, TradingStands}
use Rattle.kernel.specs.Tally.{Counts, capped_plus, raised}
use Rattle.kernel.specs.declared.stage.Opening.{Opening}
use Rattle.kernel.specs.declared.stage.Opening.TheVariants as opening
use Rattle.kernel.specs.declared.stage.Stage.{Stage}
use Rattle.kernel.specs.declared.stage.Stage.TheVariants as stage
use Rattle.kernel.specs.declared.stage.Trading.{Trading}
use Rattle.kernel.specs.declared.stage.Trading.TheVariants as trading
use Rattle.object_lists.specs.CardRead.{ReadCard}
use Rattle.terminal_state.specs.StepResults.{StepResult, StateSoFarData, state_so_far, latest, sets_card}
use Rattle.terminal_state.specs.Terminal.{Outset}
use Rattle.terminal_state.specs.declared.table.Table.{Table}

-- a stage that is over does nothing else
opening_ends : (t : Table) → (s : Opening) → (ending : Ending) → opening_over s ≡ Some ending → opening_deed t s ≡ Over ending
opening_ends t (opening.Directory s) ending is = cc
opening_ends t (opening.Select s) ending is = cc
opening_ends t (opening.Initiate s) ending is = cc
opening_ends t (opening.Read s) ending is = cc
opening_ends t (opening.Over at) ending is = cc

trading_ends : (t : Table) → (s : Trading) → (ending : Ending) → trading_over s ≡ Some ending → trading_deed t s ≡ Over ending
trading_ends t (trading.Verify v) ending is = cc
trading_ends t (trading.Risk j) ending is = cc
trading_ends t (trading.First asked) ending is = cc
trading_ends t trading.Online ending is = cc
trading_ends t trading.Authenticate ending is = cc
trading_ends t (trading.ScriptBefore s) ending is = cc
trading_ends t (trading.Second s) ending is = cc
trading_ends t (trading.ScriptBehind s at) ending is = cc
trading_ends t (trading.Over at) ending is = cc

-- a stage that is over, behind these steps
record EndsAt (k : KernelData) (ending : Ending) (standing : Standing StepResult) : Type 0 where
  steps_done : List StepResult
  is : standing ≡ stands steps_done (Over ending)
  read : latest sets_card None steps_done ≡ k.card
  tied : k.table.state_so_far ≡ state_so_far steps_done

stage_ends_at : (k : KernelData) → (s : Stage) → (log : List Logged) → (rest : List Reply → Standing StepResult) → (ending : Ending) → StageFits k.table k.card s → StageGoes k.table k.card s log rest → stage_over s ≡ Some ending → EndsAt k ending (rest [])
stage_ends_at k (stage.Opening s) log rest ending fits goes over = record {
  steps_done = [];
  is = opening_shows k.table s log rest goes ∙ ap (λ (deed : Deed). stands [] deed) (opening_ends k.table s ending over);
  read = sym fits.1;
  tied = goes.tied;
}
stage_ends_at k (stage.Trading at) log rest ending fits goes over = record {
  steps_done = goes.stands.steps_done;
  is = trading_shows k.table (record { outset = outset_in k; row = at.row.now; card = goes.card }) at.trading log rest goes.stands
      ∙ ap (λ (deed : Deed). stands goes.stands.steps_done deed) (trading_ends k.table at.trading ending over);
  read = goes.stands.read ∙ sym goes.card_is;
  tied = goes.stands.tied;
}

ends_with : (outset : Outset) → (standing : Standing StepResult) → (steps_done : List StepResult) → (ending : Ending) → (card : Option ReadCard) → (held : StateSoFarData) → standing ≡ stands steps_done (Over ending)
    → latest sets_card None steps_done ≡ card → held ≡ state_so_far steps_done → end_of outset standing ≡ Some (end_with outset ending card held)
ends_with outset standing steps_done ending card held is read tied = rw (is, read, tied) refl

pub kernel_ends : (k : KernelData) → (replies : List Reply) → (ending : Ending) → KernelFits k → KernelStands k replies → stage_over k.stage ≡ Some ending
    → end_of (outset_in k) (dialogue (outset_in k) replies) ≡ Some (end_with (outset_in k) ending k.card k.table.state_so_far)
kernel_ends k replies ending fits is over =
    let at = stage_ends_at k k.stage is.log (λ later. dialogue (outset_in k) (replies ++ later)) ending fits.stage is.goes over in
    ends_with (outset_in k) (dialogue (outset_in k) replies) at.steps_done ending k.card k.table.state_so_far (ap (λ (all : List Reply). dialogue (outset_in k) all) (sym (append-nil replies)) ∙ at.is) at.read at.tied

-- a stage that is over takes nothing from further replies
opening_stays : (t : Table) → (s : Opening) → (log : List Logged) → (rest : List Reply → Standing StepResult) → (ending : Ending) → OpeningStands t s log rest → opening_over s ≡ Some ending → (later : List Reply) → rest later ≡ rest []
opening_stays t (opening.Directory s) log rest ending stands over later = cc
opening_stays t (opening.Select s) log rest ending stands over later = cc
opening_stays t (opening.Initiate s) log rest ending stands over later = cc
opening_stays t (opening.Read s) log rest ending stands over later = cc
opening_stays t (opening.Over at) log rest ending stands over later = stands.passed later ∙ sym (stands.passed [])

trading_stays : (t : Table) → (transaction : TransactionData) → (s : Trading) → (log : List Logged) → (rest : List Reply → Standing StepResult) → (ending : Ending) → TradingStands t transaction s log rest → trading_over s ≡ Some ending → (later : List Reply) → rest later ≡ rest []
trading_stays t transaction (trading.Verify v) log rest ending stands over later = cc
trading_stays t transaction (trading.Risk j) log rest ending stands over later = cc
trading_stays t transaction (trading.First asked) log rest ending stands over later = cc
trading_stays t transaction trading.Online log rest ending stands over later = cc
trading_stays t transaction trading.Authenticate log rest ending stands over later = cc
trading_stays t transaction (trading.ScriptBefore s) log rest ending stands over later = cc
trading_stays t transaction (trading.Second s) log rest ending stands over later = cc
trading_stays t transaction (trading.ScriptBehind s at) log rest ending stands over later = cc
trading_stays t transaction (trading.Over at) log rest ending stands over later = stands.passed later ∙ sym (stands.passed [])

stage_stays : (k : KernelData) → (s : Stage) → (log : List Logged) → (rest : List Reply → Standing StepResult) → (ending : Ending) → StageGoes k.table k.card s log rest → stage_over s ≡ Some ending → (later : List Reply) → rest later ≡ rest []
stage_stays k (stage.Opening s) log rest ending goes over later = opening_stays k.table s log rest ending goes over later
stage_stays k (stage.Trading at) log rest ending goes over later = trading_stays k.table (record { outset = outset_in k; row = at.row.now; card = goes.card }) at.trading log rest ending goes.stands over later

pub kernel_stays : (k : KernelData) → (replies more : List Reply) → (ending : Ending) → KernelStands k replies → stage_over k.stage ≡ Some ending → dialogue (outset_in k) (replies ++ more) ≡ dialogue (outset_in k) replies
kernel_stays k replies more ending is over =
    stage_stays k k.stage is.log (λ later. dialogue (outset_in k) (replies ++ later)) ending is.goes over more
    ∙ ap (λ (all : List Reply). dialogue (outset_in k) all) (append-nil replies)

-- a count of replies that stops at the greatest number raises a tally as the replies do
plus_taken : (a taken n : ℕ) → taken ≡ min n (2 ^ 64 - 1) → capped_plus a taken ≡ capped_plus a n
plus_taken a taken n is = rw is (grind arith)

pub raised_taken : (counts : Counts) (ending : Ending) (taken n : ℕ) → taken ≡ min n (2 ^ 64 - 1) → raised counts ending taken ≡ raised counts ending n
raised_taken counts (Approved online) taken n is =
    ap (λ r. record counts { approved = capped_plus counts.approved 1; replies = r }) (plus_taken counts.replies taken n is)
raised_taken counts (Declined online) taken n is =
    ap (λ r. record counts { declined = capped_plus counts.declined 1; replies = r }) (plus_taken counts.replies taken n is)
raised_taken counts (Terminated step cause) taken n is =
    ap (λ r. record counts { other = capped_plus counts.other 1; replies = r }) (plus_taken counts.replies taken n is)
raised_taken counts (CutOff step) taken n is =
    ap (λ r. record counts { other = capped_plus counts.other 1; replies = r }) (plus_taken counts.replies taken n is)

pub ends_with_card : (k : KernelData) (replies : List Reply) (end : EndData) (ending : Ending) → KernelFits k → KernelStands k replies → stage_over k.stage ≡ Some ending
    → end_of (outset_in k) (dialogue (outset_in k) replies) ≡ Some end → end.card ≡ k.card
ends_with_card k replies end ending fits is over ends =
    let same : Some end ≡ Some (end_with (outset_in k) ending k.card k.table.state_so_far) = sym ends ∙ kernel_ends k replies ending fits is over in
    ap (λ (e : EndData). e.card) (same_Some end (end_with (outset_in k) ending k.card k.table.state_so_far) same)

-- before the first step nothing is captured
pub nothing_captured : (outset : Outset) (ending : Ending) (card : Option ReadCard) (m : StateSoFarData) → m ≡ state_so_far [] → capture outset ending card m ≡ None
unfolding presentment reversal
nothing_captured outset ending None m is = refl
nothing_captured outset (Approved online) (Some card) m is = rw is refl
nothing_captured outset (Declined online) (Some card) m is = rw is refl
nothing_captured outset (Terminated step cause) (Some card) m is = rw is refl
nothing_captured outset (CutOff step) (Some card) m is = rw is refl
