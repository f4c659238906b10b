-- The last question about a cryptogram that a terminal has decided on, and what its kind rests on (EMV 4.3 Book 3 sections
-- 10.7, 10.9 and 10.11).
use Rattle.std.specs.Prelude.{ℕ, List, Option, Some, None}
use Rattle.action_analysis.specs.Analysed.{issuer_codes}
use Rattle.emv_dict.specs.Flags.{tvr_bytes}
use Rattle.emv_dict.specs.declared.ending.Kind.{Kind}
use Rattle.object_lists.specs.CardRead.{ReadCard}
use Rattle.terminal_state.specs.StepResults.{StateSoFarData, StepResult, latest, sets_card, state_so_far}
use Rattle.terminal_state.specs.declared.state_so_far.Analysed.{Analysed}
use Rattle.terminal_state.specs.declared.state_so_far.Conclusion.{Conclusion}
use Rattle.terminal_state.specs.declared.state_so_far.Conclusion.TheVariants.{ByAnalysis, ByReply}
use Rattle.trace_check.specs.declared.question.Basis.{Basis}
use Rattle.trace_check.specs.declared.question.Question.{Question}
use Rattle.trace_check.specs.declared.question.Question.TheVariants.{First, Replied, Unable}

-- what action analysis looks at: the terminal's type, its verification results, and the action codes of the issuer and of
-- the terminal for its application
abbrev pub basis_of : ReadCard → ℕ → ℕ → Analysed → Basis
basis_of card terminal_type tvr analysed = record {
  terminal_type = terminal_type;
  tvr = tvr_bytes tvr;
  issuer = issuer_codes card;
  terminal = record { denial = analysed.denial; online = analysed.online; fallback = analysed.fallback };
}

-- the first question, or the second one, by the host's reply or where the terminal was unable to go online; no step
-- between the two gives a bit of the results
abbrev pub question_by : Basis → Kind → Option Conclusion → Question
question_by basis wanted None = First basis wanted
question_by basis wanted (Some (ByReply code)) = Replied code
question_by basis wanted (Some (ByAnalysis unable)) = Unable basis unable

-- there is none before action analysis
abbrev pub question_if : ReadCard → ℕ → StateSoFarData → Option Analysed → Option Question
question_if card terminal_type state None = None
question_if card terminal_type state (Some analysed) =
    Some (question_by (basis_of card terminal_type state.tvr_when_first analysed) analysed.wanted state.concluded)

-- the last question of a terminal of this type, which has this card's data where reading is finished, and holds this
unfoldable pub last_question : ℕ → Option ReadCard → StateSoFarData → Option Question
last_question terminal_type None state = None
last_question terminal_type (Some card) state = question_if card terminal_type state state.analysed

-- the last question of a terminal of this type behind these finished steps, with what its kind rests on
unfoldable pub question_behind : ℕ → List StepResult → Option Question
question_behind terminal_type steps_done = last_question terminal_type (latest sets_card None steps_done) (state_so_far steps_done)
