-- From the first cryptogram to the second one.
use Rattle.std.proofs.Common.{◌≡◌, refl, sym, ap, ◌∙◌, ℕ, true, false, List, [], ◌∷◌, Some, None, Ok, Err}
use Rattle.emv_dict.specs.Progress.{Stopped, Done}
use Rattle.emv_dict.specs.Views.{AcData}
use Rattle.emv_dict.specs.declared.ending.Cause.{Cause}
use Rattle.emv_dict.specs.declared.ending.Cause.TheVariants.{Dol}
use Rattle.emv_dict.specs.declared.ending.Ending.{Ending}
use Rattle.emv_dict.specs.declared.ending.Ending.TheVariants.{Terminated}
use Rattle.emv_dict.specs.declared.ending.Kind.{Kind}
use Rattle.emv_dict.specs.declared.ending.Step.TheVariants as step
use Rattle.emv_dict.specs.declared.purchase.Logged.{Logged}
use Rattle.kernel.proofs.Courses.{same}
use Rattle.kernel.proofs.Following.{trading_stopped}
use Rattle.kernel.specs.StepsInTurn.{Standing, over, host_step, cut_off}
use Rattle.kernel.specs.Dialogue.{TransactionData, first_answered, online, is_offline_only, replied, unable_online, kind_unable, second, scripts_behind, decision, objects_at}
use Rattle.kernel.specs.Reply.{Reply}
use Rattle.kernel.specs.Stages.{TradingStands, Begins, generating, behind_if}
use Rattle.kernel.specs.declared.stage.AtSecond.{AtSecond}
use Rattle.kernel.specs.declared.stage.OnlineOutcome.{OnlineOutcome}
use Rattle.kernel.specs.declared.stage.OnlineOutcome.TheVariants.{Unable}
use Rattle.kernel.specs.declared.stage.Trading.TheVariants as trading
use Rattle.online_step.specs.Ac.{ac_in_answer}
use Rattle.online_step.specs.Generate.{list_data, generated, generate_command, after_ac}
use Rattle.online_step.specs.Request.{request_of}
use Rattle.online_step.specs.declared.ac.GenerateAc.{GenerateAc}
use Rattle.online_step.specs.declared.ac.GenerateAc.TheVariants as generate
use Rattle.terminal_state.specs.StepResults.{StepResult, HasFirst, HasSecond, WasUnable, state_so_far, latest, sets_card}
use Rattle.terminal_state.specs.declared.state_so_far.OnlineRequest.{OnlineRequest}
use Rattle.terminal_state.specs.declared.state_so_far.OnlineRequest.TheVariants.{NotSent}
use Rattle.terminal_state.specs.declared.table.Table.{Table}

-- the dialogue is over
pub stands_over : (t : Table) → (transaction : TransactionData) → (steps_done : List StepResult) → (log : List Logged) → (rest : List Reply → Standing StepResult) → (ending : Ending) → ((later : List Reply) → rest later ≡ over steps_done ending log later) → t.state_so_far ≡ state_so_far steps_done → latest sets_card None steps_done ≡ Some transaction.card → TradingStands t transaction (trading.Over ending) log rest
stands_over t transaction steps_done log rest ending passed tied read = record { steps_done = steps_done; passed = passed; tied = tied; read = read; shows = tt }

-- the first cryptogram decides
pub decided : (t t2 : Table) → (transaction : TransactionData) → (steps_done : List StepResult) → (log : List Logged) → (rest : List Reply → Standing StepResult) → (ac : AcData) → (kind : Kind) → (ending : Ending) → Begins t transaction.card steps_done rest (first_answered transaction ac (HasFirst ac ∷ steps_done) ac.kind log) → ac.kind ≡ kind → ((later : List Reply) → first_answered transaction ac (HasFirst ac ∷ steps_done) kind log later ≡ over (HasFirst ac ∷ steps_done) ending log later) → t2.state_so_far ≡ state_so_far (HasFirst ac ∷ steps_done) → TradingStands t2 transaction (trading.Over ending) log rest
decided t t2 transaction steps_done log rest ac kind ending begins is over_then tied =
    stands_over t2 transaction (HasFirst ac ∷ steps_done) log rest ending
    (λ later. begins.passed later ∙ ap (λ (k : Kind). first_answered transaction ac (HasFirst ac ∷ steps_done) k log later) is ∙ over_then later) tied begins.read

-- it asks the issuer
pub asks_issuer : (t t2 : Table) → (transaction : TransactionData) → (steps_done : List StepResult) → (log : List Logged) → (rest : List Reply → Standing StepResult) → (ac : AcData) → Begins t transaction.card steps_done rest (first_answered transaction ac (HasFirst ac ∷ steps_done) ac.kind log) → ((later : List Reply) → first_answered transaction ac (HasFirst ac ∷ steps_done) ac.kind log later ≡ online transaction ac (HasFirst ac ∷ steps_done) log later) → t2.state_so_far ≡ state_so_far (HasFirst ac ∷ steps_done) → Begins t2 transaction.card (HasFirst ac ∷ steps_done) rest (online transaction ac (HasFirst ac ∷ steps_done) log)
asks_issuer t t2 transaction steps_done log rest ac begins goes tied = record {
  passed = λ later. begins.passed later ∙ goes later;
  tied = tied;
  read = begins.read;
}

-- the terminal never goes online
pub offline_only : (t : Table) → (transaction : TransactionData) → (steps_done : List StepResult) → (log : List Logged) → (rest : List Reply → Standing StepResult) → (ac : AcData) → Begins t transaction.card steps_done rest (online transaction ac steps_done log) → is_offline_only transaction.outset.settings.kind ≡ true → Begins t transaction.card steps_done rest (unable_online transaction NotSent steps_done log)
offline_only t transaction steps_done log rest ac begins is = record { passed = λ later. begins.passed later ∙ rw is refl; tied = begins.tied; read = begins.read }

-- the request waits for the host
pub asked_online : (t t2 : Table) → (transaction : TransactionData) → (steps_done : List StepResult) → (log : List Logged) → (rest : List Reply → Standing StepResult) → (ac : AcData) → Begins t transaction.card steps_done rest (online transaction ac steps_done log) → is_offline_only transaction.outset.settings.kind ≡ false → t2.message.items ≡ request_of transaction.card (objects_at transaction steps_done) transaction.outset.settings ac (state_so_far steps_done).pin → t2.state_so_far ≡ t.state_so_far → TradingStands t2 transaction trading.Online log rest
asked_online t t2 transaction steps_done log rest ac begins is message kept = record {
  steps_done = steps_done;
  passed = λ later. begins.passed later ∙ rw is (ap (λ (bytes : List ℕ). host_step steps_done bytes (replied transaction steps_done) log later) (sym message));
  tied = kept ∙ begins.tied;
  read = begins.read;
  shows = tt;
}

-- the kind is chosen where the terminal was unable to go online
pub unabled : (t t2 : Table) → (transaction : TransactionData) → (steps_done : List StepResult) → (log : List Logged) → (rest : List Reply → Standing StepResult) → (request : OnlineRequest) → (asked : Kind) → Begins t transaction.card steps_done rest (unable_online transaction request steps_done log) → asked ≡ kind_unable transaction steps_done → t2.state_so_far ≡ state_so_far (WasUnable request asked ∷ steps_done) → Begins t2 transaction.card (WasUnable request asked ∷ steps_done) rest (second transaction Unable asked [] (WasUnable request asked ∷ steps_done) log)
unfolding unable_online
unabled t t2 transaction steps_done log rest request asked begins is tied = record {
  passed = λ later. begins.passed later ∙ rw is refl;
  tied = tied;
  read = begins.read;
}

-- the second list can't be filled
pub second_unfilled : (t t2 : Table) → (transaction : TransactionData) → (steps_done : List StepResult) → (log : List Logged) → (rest : List Reply → Standing StepResult) → (outcome : OnlineOutcome) → (asked : Kind) → (behind : List (List ℕ)) → Begins t transaction.card steps_done rest (second transaction outcome asked behind steps_done log) → list_data 0x8D transaction.card (objects_at transaction steps_done) ≡ None → t2.state_so_far ≡ t.state_so_far → TradingStands t2 transaction (trading.Over (Terminated step.Second (Dol (record { 0 = 0x8D })))) log rest
unfolding second
second_unfilled t t2 transaction steps_done log rest outcome asked behind begins none kept =
    trading_stopped t t2 transaction step.Second steps_done log (generated 0x8D asked generate.Second (list_data 0x8D transaction.card (objects_at transaction steps_done)))
    (λ ac. scripts_behind (decision outcome ac.kind) behind (HasSecond ac ∷ steps_done)) (Dol (record { 0 = 0x8D })) rest kept
    (record { passed = begins.passed; tied = begins.tied; read = begins.read }) (λ later. rw none refl)

-- it is filled, and its command asked
second_asks : (given : List ℕ) → (asked : Kind) → (later : List (List ℕ)) → generated 0x8D asked generate.Second (Some given) later ≡ generating (generate_command asked given) asked generate.Second later
second_asks given asked [] = refl
second_asks given asked (answer ∷ later) = refl

pub second_filled : (t t2 : Table) → (transaction : TransactionData) → (steps_done : List StepResult) → (log : List Logged) → (rest : List Reply → Standing StepResult) → (state : AtSecond) → (given : List ℕ)
    → Begins t transaction.card steps_done rest (second transaction state.outcome state.asked (behind_if state.outcome t.reply.scripts) steps_done log)
    → list_data 0x8D transaction.card (objects_at transaction steps_done) ≡ Some given → t2.command.items ≡ generate_command state.asked given → t2.state_so_far ≡ t.state_so_far → t2.reply ≡ t.reply
    → TradingStands t2 transaction (trading.Second state) log rest
unfolding second
second_filled t t2 transaction steps_done log rest state given begins is command kept replied = record {
  steps_done = steps_done;
  passed = λ later. begins.passed later ∙ rw (is, command, replied) (same (cut_off steps_done) step.Second step.Second steps_done (generated 0x8D state.asked generate.Second (Some given)) (generating (generate_command state.asked given) state.asked generate.Second)
      (λ ac. scripts_behind (decision state.outcome ac.kind) (behind_if state.outcome t.reply.scripts) (HasSecond ac ∷ steps_done)) log later (λ at one two alike. refl) (second_asks given state.asked));
  tied = kept ∙ begins.tied;
  read = begins.read;
  shows = tt;
}

-- an answer to GENERATE AC that gives a cryptogram, or a cause
pub ac_given : (answer : List ℕ) → (asked : Kind) → (which : GenerateAc) → (ac : AcData) → (later : List (List ℕ)) → ac_in_answer answer asked which ≡ Ok ac → after_ac (ac_in_answer answer asked which) later ≡ Done ac later
ac_given answer asked which ac later is = rw is refl

pub ac_refused : (answer : List ℕ) → (asked : Kind) → (which : GenerateAc) → (cause : Cause) → (later : List (List ℕ)) → ac_in_answer answer asked which ≡ Err cause → after_ac (ac_in_answer answer asked which) later ≡ Stopped cause
ac_refused answer asked which cause later is = rw is refl
