-- A card in its course, as a contract sees it.
use Rattle.std.specs.Prelude.{◌≡◌, ℕ, ◌+◌, List, [], ◌∷◌, ◌++◌, false, length, Option, None}
use Rattle.card_files.specs.Files.{opening_of}
use Rattle.card_files.specs.Views.{ImageData}
use Rattle.card_state.specs.Allowed.{Allowed}
use Rattle.card_state.specs.Decisions.{Decided}
use Rattle.emv_ports.specs.Memory.{Memory}
use Rattle.emv_ports.specs.declared.tear.Tear.{Tear}
use Rattle.card_app.specs.Answering.{card_answer}
use Rattle.card_app.specs.Cuts.{Cut, cut_of}
use Rattle.card_app.specs.Pages.{MayStand}
use Rattle.card_app.specs.SeenKept.{KeptState, KeptOn, CutAt}
use Rattle.card_app.specs.Session.{Exchange, phase_of}
use Rattle.card_cryptogram.specs.declared.phase.Phase.{Phase}

-- a card that is on: its image, its pages with their state, and its phase
pub record CardSeen : Type 0 where
  pub image : ImageData
  pub kept : KeptState
  pub phase : Phase

-- the card stands for this session and these decisions
pub record CardOn (seen : CardSeen) (session : List Exchange) (ds : List Decided) (plan : Option Tear) (made : ℕ) : Type 0 where
  pub kept : KeptOn seen.kept (opening_of seen.image) ds plan made
  pub phase_is : seen.phase ≡ phase_of seen.image session

-- A command was answered: the plan cuts none of its decisions, and the card stands for the longer session and the
-- longer list.
pub record Answered (old new : CardSeen) (session : List Exchange) (ds : List Decided) (plan : Option Tear) (made : ℕ) (command answer : List ℕ) : Type 0 where
  pub spared : cut_of plan made (card_answer old.image ds session command).new ≡ None
  pub answer_is : answer ≡ (card_answer old.image ds session command).answer
  pub same_image : new.image ≡ old.image
  pub on :
      CardOn new (session ++ record { command = command; answer = answer } ∷ []) (ds ++ (card_answer old.image ds session command).new) plan
      (made + length (card_answer old.image ds session command).new)

-- A command was cut off: the plan cuts one of its decisions.
abbrev pub CutOff : CardSeen → Memory → List Exchange → List Decided → Option Tear → ℕ → List ℕ → Type 0
CutOff old lost session ds plan made command =
    (at : Cut) × CutAt old.kept.memory lost (opening_of old.image) ds (card_answer old.image ds session command).new plan made at

-- a card that stands for some session and some decisions
abbrev pub IsRunning : CardSeen → Type 0
IsRunning seen = (session : List Exchange) × (ds : List Decided) × (plan : Option Tear) × (made : ℕ) × CardOn seen session ds plan made

-- pages that are off and may stand for some decisions of a card of this image
pub record IsCardOff (image : ImageData) (memory : Memory) : Type 0 where
  pub off : memory.on ≡ false
  pub stands : (kept : List Decided) × (pending : Option Decided) × MayStand memory.cells image.version (opening_of image) kept pending

-- the command was answered so, whatever session and decisions the card stood for
abbrev pub AnswersCard : CardSeen → CardSeen → List ℕ → List ℕ → Type 0
AnswersCard old new command answer =
    (session : List Exchange) (ds : List Decided) (plan : Option Tear) (made : ℕ) → CardOn old session ds plan made
    → Answered old new session ds plan made command answer

-- the command was cut off, whatever session and decisions the card stood for
abbrev pub CutsCard : CardSeen → Memory → List ℕ → Type 0
CutsCard old lost command =
    (session : List Exchange) (ds : List Decided) (plan : Option Tear) (made : ℕ) → CardOn old session ds plan made
    → CutOff old lost session ds plan made command

-- a list of allowed decisions stays one with those of the command, whether it is answered or cut off
abbrev pub AllowsCard : CardSeen → List ℕ → Type 0
AllowsCard old command =
    (session : List Exchange) (ds : List Decided) (plan : Option Tear) (made : ℕ) → CardOn old session ds plan made → Allowed (opening_of old.image) ds
    → Allowed (opening_of old.image) (ds ++ (card_answer old.image ds session command).new)

-- pages that may stand for decisions of a card of this image
abbrev pub MayBeCard : ImageData → Memory → List Decided → Option Decided → Type 0
MayBeCard image memory kept pending = MayStand memory.cells image.version (opening_of image) kept pending
