-- Action analysis and the first GENERATE AC.
use Rattle.std.proofs.Common.{◌≡◌, refl, ◌∙◌, ℕ, List, [], ◌∷◌, Some, None}
use Rattle.emv_dict.specs.declared.ending.Cause.TheVariants.{Dol}
use Rattle.emv_dict.specs.declared.ending.Ending.TheVariants.{Terminated}
use Rattle.emv_dict.specs.declared.ending.Kind.{Kind}
use Rattle.emv_dict.specs.declared.ending.Step.TheVariants as step
use Rattle.emv_dict.specs.declared.purchase.Logged.{Logged}
use Rattle.kernel.proofs.Courses.{same}
use Rattle.kernel.proofs.Following.{trading_stopped}
use Rattle.kernel.specs.StepsInTurn.{Standing, cut_off}
use Rattle.kernel.specs.Dialogue.{TransactionData, restrictions, verification, analysis, first, first_answered, first_then, kind_wanted, objects_at}
use Rattle.kernel.specs.Reply.{Reply}
use Rattle.kernel.specs.Stages.{TradingStands, Begins, generating}
use Rattle.kernel.specs.declared.stage.Trading.TheVariants as trading
use Rattle.online_step.specs.Generate.{list_data, generated, generate_command}
use Rattle.online_step.specs.declared.ac.GenerateAc.TheVariants as generate
use Rattle.restrictions.specs.Restricted.{restricted}
use Rattle.terminal_state.specs.StepResults.{StepResult, HasRead, HasRestricted, HasAnalysed, HasFirst, analysed_by, state_so_far}
use Rattle.terminal_state.specs.declared.table.Table.{Table}

pub analysed : (transaction : TransactionData) → (steps_done : List StepResult) → (asked : Kind) → (log : List Logged) → (rest : List Reply → Standing StepResult) → (t t2 : Table) → Begins t transaction.card steps_done rest (analysis transaction steps_done log) → asked ≡ kind_wanted transaction steps_done → t2.state_so_far ≡ state_so_far (HasAnalysed (analysed_by transaction.row asked) ∷ steps_done) → Begins t2 transaction.card (HasAnalysed (analysed_by transaction.row asked) ∷ steps_done) rest (first transaction asked (HasAnalysed (analysed_by transaction.row asked) ∷ steps_done) log)
unfolding analysis
analysed transaction steps_done asked log rest t t2 begins is tied = record {
  passed = λ later. begins.passed later ∙ rw is refl;
  tied = tied;
  read = begins.read;
}

-- the list can't be filled
pub first_unfilled : (transaction : TransactionData) → (steps_done : List StepResult) → (asked : Kind) → (log : List Logged) → (rest : List Reply → Standing StepResult) → (t t2 : Table) → Begins t transaction.card steps_done rest (first transaction asked steps_done log) → list_data 0x8C transaction.card (objects_at transaction steps_done) ≡ None → t2.state_so_far ≡ t.state_so_far → TradingStands t2 transaction (trading.Over (Terminated step.First (Dol (record { 0 = 0x8C })))) log rest
unfolding first
first_unfilled transaction steps_done asked log rest t t2 begins none kept =
    trading_stopped t t2 transaction step.First steps_done log (generated 0x8C asked generate.First (list_data 0x8C transaction.card (objects_at transaction steps_done)))
    (λ ac. first_answered transaction ac (HasFirst ac ∷ steps_done) ac.kind) (Dol (record { 0 = 0x8C })) rest kept
    (record { passed = begins.passed; tied = begins.tied; read = begins.read }) (λ later. rw none refl)

-- it is filled, and its command asked
first_asks : (given : List ℕ) → (asked : Kind) → (later : List (List ℕ)) → generated 0x8C asked generate.First (Some given) later ≡ generating (generate_command asked given) asked generate.First later
first_asks given asked [] = refl
first_asks given asked (answer ∷ later) = refl

pub first_filled : (transaction : TransactionData) → (steps_done : List StepResult) → (asked : Kind) → (log : List Logged) → (rest : List Reply → Standing StepResult) → (t t2 : Table) → (given : List ℕ) → Begins t transaction.card steps_done rest (first transaction asked steps_done log)
    → list_data 0x8C transaction.card (objects_at transaction steps_done) ≡ Some given → t2.command.items ≡ generate_command asked given → t2.state_so_far ≡ t.state_so_far → TradingStands t2 transaction (trading.First asked) log rest
unfolding first
first_filled transaction steps_done asked log rest t t2 given begins is command kept = record {
  steps_done = steps_done;
  passed = λ later. begins.passed later ∙ rw (is, command) (same (cut_off steps_done) step.First step.First steps_done (generated 0x8C asked generate.First (Some given)) (generating (generate_command asked given) asked generate.First)
      (first_then transaction steps_done) log later (λ at one two alike. refl) (first_asks given asked));
  tied = kept ∙ begins.tied;
  read = begins.read;
  shows = tt;
}

-- verification begins behind the restrictions
pub in_transaction : (transaction : TransactionData) → (bits : ℕ) → (log : List Logged) → (rest : List Reply → Standing StepResult) → (t2 : Table) → ((later : List Reply) → rest later ≡ restrictions transaction log later) → bits ≡ restricted transaction.card transaction.outset.settings transaction.row transaction.outset.purchase → t2.state_so_far ≡ state_so_far (HasRestricted bits ∷ HasRead transaction.card ∷ []) → Begins t2 transaction.card (HasRestricted bits ∷ HasRead transaction.card ∷ []) rest (verification transaction (HasRestricted bits ∷ HasRead transaction.card ∷ []) log)
unfolding restrictions
in_transaction transaction bits log rest t2 passed is tied = record {
  passed = λ later. passed later ∙ rw is refl;
  tied = tied;
  read = refl;
}
