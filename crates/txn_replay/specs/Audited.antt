-- The steps of an audit as the values of a run have them.
use Rattle.std.specs.Prelude.{◌≡◌, ◌⊎◌, ℕ, zero, suc, ◌+◌, Bool, List, [], ◌∷◌, ◌++◌, length, Option, Some, None}
use Rattle.app_select.specs.Said.{select_command}
use Rattle.card_app.specs.Answering.{card_answer}
use Rattle.card_files.specs.Views.{AppData}
use Rattle.card_app.specs.SeenIcc.{IccSeen, IccOn}
use Rattle.card_app.specs.Pages.{found_of}
use Rattle.report_text.specs.declared.line.Line.{Line}
use Rattle.risk_mgmt.specs.Counters.{counter_tag, last_online_tag, get_data}
use Rattle.scenario_plan.specs.Cards.{CardData}
use Rattle.scenario_plan.specs.SeenCards.{seen_card}
use Rattle.txn_replay.specs.Changes.{powered, exchanged}
use Rattle.txn_replay.specs.Lines.{audit_power_line, audit_lines}
use Rattle.txn_replay.specs.RunCard.{RunCardSeen, RunCardOn, RunCardOff}
use Rattle.txn_replay.specs.Steps.{Check, PowersUp, Asks}
use Rattle.txn_replay.specs.World.{CardRow}
use Rattle.txn_replay.specs.declared.audit.AuditStep.{AuditStep}
use Rattle.txn_replay.specs.declared.audit.Question.{Question}
use Rattle.txn_replay.specs.declared.audit.Question.TheVariants.{Select, Counter, LastOnline}

abbrev pub question_command : Question → List ℕ
question_command (Select app) = select_command 0 app.now.name
question_command Counter = get_data counter_tag
question_command LastOnline = get_data last_online_tag

abbrev pub question_check : ℕ → CardData → Question → Check
question_check i card question = Asks i card (question_command question)

-- the first, second or third question to an application
abbrev pub audit_question : ℕ → CardData → AppData → ℕ → Check
audit_question i card app zero = Asks i card (select_command 0 app.name)
audit_question i card app (suc zero) = Asks i card (get_data counter_tag)
audit_question i card app (suc (suc rest)) = Asks i card (get_data last_online_tag)

abbrev pub check_by : ℕ → CardData → Option Question → Check
check_by i card None = PowersUp i card
check_by i card (Some question) = question_check i card question

abbrev pub step_check : AuditStep → Check
step_check step = check_by step.index (seen_card step.card.now) step.question

-- a card that no purchase has: off, or turned on by the audit
abbrev pub RowRests : RunCardSeen → CardRow → Type 0
RowRests run_card row = RunCardOff run_card row.kept row.pending ⊎ RunCardOn run_card row None

-- a card that is on without a plan has answered a command
pub record IsAuditAsked (icc : IccSeen) (card : CardData) (row : CardRow) (command : List ℕ) (lines : List Line) : Type 0 where
  pub on :
      IccOn icc (row.session ++ record { command = command; answer = (card_answer card.image row.kept row.session command).answer } ∷ [])
      (row.kept ++ (card_answer card.image row.kept row.session command).new) None
      (row.made + length (card_answer card.image row.kept row.session command).new)
  pub none : row.pending ≡ None
  pub lines_are : lines ≡ audit_lines card command (card_answer card.image row.kept row.session command).answer

-- what a step makes of a card that no purchase has, and its lines
abbrev pub checked_row : CardData → CardRow → Option Question → Bool → CardRow
checked_row card row None choice = powered row (found_of row.kept row.pending choice) row.holder
checked_row card row (Some question) choice =
    exchanged card.image row (question_command question) (card_answer card.image row.kept row.session (question_command question))

abbrev pub checked_lines : CardData → CardRow → Option Question → Bool → List Line
checked_lines card row None choice = audit_power_line card (found_of row.kept row.pending choice) ∷ []
checked_lines card row (Some question) choice =
    audit_lines card (question_command question) (card_answer card.image row.kept row.session (question_command question)).answer

pub record IsChecked (run_card : RunCardSeen) (card : CardData) (row : CardRow) (question : Option Question) (choice : Bool) (lines : List Line) : Type 0 where
  pub on : RunCardOn run_card (checked_row card row question choice) None
  pub lines_are : lines ≡ checked_lines card row question choice
