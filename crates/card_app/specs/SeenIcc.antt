-- A card in its place, on or off, as a contract sees it.
use Rattle.std.specs.Prelude.{◌≡◌, ℕ, ◌+◌, List, [], ◌∷◌, ◌++◌, length, Bool, true, false, Option, Some, None}
use Rattle.card_files.specs.Files.{opening_of}
use Rattle.card_state.specs.Allowed.{Allowed}
use Rattle.card_state.specs.Decisions.{Decided}
use Rattle.emv_ports.specs.Causes.{one_more}
use Rattle.emv_ports.specs.declared.tear.Tear.{Tear}
use Rattle.card_app.specs.Answering.{card_answer}
use Rattle.card_app.specs.Cuts.{Cut, cut_of, fate_by, kept_by, pending_by}
use Rattle.card_app.specs.Pages.{MayStand}
use Rattle.card_app.specs.SeenCard.{CardSeen, CardOn}
use Rattle.card_app.specs.AtWork.{IsAppThere}
use Rattle.card_app.specs.Session.{Exchange}

-- its image, its pages with the state that they hold while it is on, and its phase while it is on
abbrev pub IccSeen : Type 0
IccSeen = CardSeen

-- whether a card in its place has power
abbrev pub icc_is_powered : IccSeen → Bool
icc_is_powered seen = seen.kept.memory.on

-- while it is on, it has a state for each application, and its phase names one that is there
pub record IsIccInRange (seen : IccSeen) : Type 0 where
  pub apps : length seen.kept.state.apps.items ≡ length seen.image.apps
  pub at : IsAppThere seen.phase (length seen.image.apps)

-- it is on, and stands for this session and these decisions
pub record IccOn (seen : IccSeen) (session : List Exchange) (ds : List Decided) (plan : Option Tear) (made : ℕ) : Type 0 where
  pub on : icc_is_powered seen ≡ true
  pub card : CardOn seen session ds plan made

-- it is off, and may stand for these decisions
pub record IccOff (seen : IccSeen) (kept : List Decided) (pending : Option Decided) : Type 0 where
  pub off : icc_is_powered seen ≡ false
  pub may : MayStand seen.kept.memory.cells seen.image.version (opening_of seen.image) kept pending

-- how often the power was lost
abbrev pub icc_losses : IccSeen → ℕ
icc_losses seen = seen.kept.memory.losses

-- A command was answered: the plan cuts none of its decisions, and the card stands for the longer session and the
-- longer list.
pub record IccAnswered (old new : IccSeen) (session : List Exchange) (ds : List Decided) (plan : Option Tear) (made : ℕ) (command answer : List ℕ) : Type 0 where
  pub spared : cut_of plan made (card_answer old.image ds session command).new ≡ None
  pub answer_is : answer ≡ (card_answer old.image ds session command).answer
  pub on :
      IccOn new (session ++ record { command = command; answer = answer } ∷ []) (ds ++ (card_answer old.image ds session command).new) plan
      (made + length (card_answer old.image ds session command).new)

-- A command was cut off: the plan cuts one of its decisions, and the pages may stand for what is left.
pub record IccCutAt (old new : IccSeen) (session : List Exchange) (ds : List Decided) (plan : Option Tear) (made : ℕ) (command : List ℕ) (at : Cut) : Type 0 where
  pub cut : cut_of plan made (card_answer old.image ds session command).new ≡ Some at
  pub off : IccOff new (kept_by (fate_by plan) ds at) (pending_by (fate_by plan) at)

abbrev pub IccCut : IccSeen → IccSeen → List Exchange → List Decided → Option Tear → ℕ → List ℕ → Type 0
IccCut old new session ds plan made command = (at : Cut) × IccCutAt old new session ds plan made command at

-- on, for some session and some decisions
abbrev pub IsIccOn : IccSeen → Type 0
IsIccOn seen = (session : List Exchange) × (ds : List Decided) × (plan : Option Tear) × (made : ℕ) × IccOn seen session ds plan made

-- off, for some decisions
abbrev pub IsIccOff : IccSeen → Type 0
IsIccOff seen = (kept : List Decided) × (pending : Option Decided) × IccOff seen kept pending

-- it is on, and its power was lost as often as before
pub record StaysCard (old new : IccSeen) : Type 0 where
  pub on : icc_is_powered new ≡ true
  pub losses : icc_losses new ≡ icc_losses old

-- it is off, and its power was lost once more
pub record LosesCard (old new : IccSeen) : Type 0 where
  pub off : icc_is_powered new ≡ false
  pub losses : icc_losses new ≡ one_more (icc_losses old)

-- the command was answered so, whatever session and decisions it stood for
abbrev pub AnswersIcc : IccSeen → IccSeen → List ℕ → List ℕ → Type 0
AnswersIcc old new command answer =
    (session : List Exchange) (ds : List Decided) (plan : Option Tear) (made : ℕ) → IccOn old session ds plan made
    → IccAnswered old new session ds plan made command answer

-- the command was cut off, whatever session and decisions it stood for
abbrev pub CutsIcc : IccSeen → IccSeen → List ℕ → Type 0
CutsIcc old new command =
    (session : List Exchange) (ds : List Decided) (plan : Option Tear) (made : ℕ) → IccOn old session ds plan made
    → IccCut old new session ds plan made command

-- a list of allowed decisions stays one with those of the command, whether it is answered or cut off
abbrev pub AllowsIcc : IccSeen → List ℕ → Type 0
AllowsIcc old command =
    (session : List Exchange) (ds : List Decided) (plan : Option Tear) (made : ℕ) → IccOn old session ds plan made → Allowed (opening_of old.image) ds
    → Allowed (opening_of old.image) (ds ++ (card_answer old.image ds session command).new)
