-- What the program does with its words and with a document.
use Rattle.std.specs.Prelude.{◌≡◌, ℕ, List, [], ◌∷◌, map, Option, Some, None, Ok, Err}
use Rattle.line_talk.specs.Talk.{Programme, no_programme}
use Rattle.line_talk.specs.Turns.{Turn}
use Rattle.scenario_plan.specs.declared.plan.CardKind.{CardKind}
use Rattle.scenario_plan.specs.declared.plan.CardKind.TheVariants.{App, Canned}
use Rattle.scenario_plan.specs.declared.plan.NamedCard.{NamedCard}
use Rattle.scenario_fields.specs.Line.{refused_line}
use Rattle.scenario_fields.specs.declared.fault.ScenarioFault.{ScenarioFault}
use Rattle.card_at_reader.specs.Canned.{IsCannedTalk}
use Rattle.card_at_reader.specs.Desk.{IsCardTalk, card_opening}
use Rattle.card_at_reader.specs.Document.{wanted_kind, ReadsCards}

-- a document's card of this name, and what it answers by
pub record IsServed (name : Option (List ℕ)) (bytes : List ℕ) (kind : CardKind) : Type 0 where
  pub cards : List NamedCard
  pub reading : ReadsCards bytes (Ok cards)
  pub kind_is : wanted_kind name cards ≡ Some kind

-- a talk of a card with applications, from the day that it was made, or of one of canned answers
abbrev pub IsTalkOf : CardKind → List Turn → Type 0
IsTalkOf (App image) turns = IsCardTalk image turns
IsTalkOf (Canned answers) turns = IsCannedTalk (map (λ answer. answer.items) answers.items) turns

-- a document is refused by its first fault; it may have no such card; and else that card talks
abbrev pub card_programme : Option (List ℕ) → Programme
card_programme name = record {
  Unasked = ⊥;
  Refuses = λ bytes line. (fault : ScenarioFault) × ReadsCards bytes (Err fault) × (refused_line fault ≡ line);
  Lacks = λ bytes. (cards : List NamedCard) × ReadsCards bytes (Ok cards) × (wanted_kind name cards ≡ None);
  Talks = λ bytes opening turns. (kind : CardKind) × IsServed name bytes kind × (opening ≡ card_opening) × IsTalkOf kind turns;
}

-- the card's name, where one is said
abbrev pub card_name_in : List (List ℕ) → Option (List ℕ)
card_name_in [] = None
card_name_in (name ∷ words) = Some name

-- the first word is the card's name, and a second one asks for nobody
abbrev pub programme_of : List (List ℕ) → Programme
programme_of [] = card_programme None
programme_of (name ∷ []) = card_programme (Some name)
programme_of (name ∷ second ∷ words) = no_programme
