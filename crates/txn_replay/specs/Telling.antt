-- What the lines of one event tell of a card: the cryptograms that it gave, and which of its decisions an answer rests on
-- (this project's own).
use Rattle.std.specs.Prelude.{◌≡◌, ⊤, ℕ, ◌&&◌, Bool, true, false, if◌then◌else◌, List, [], ◌∷◌, ◌++◌, slice_get, Option, Some, None}
use Rattle.std.specs.List.{list_any}
use Rattle.apdu_core.specs.Command.{command_of}
use Rattle.apdu_core.specs.Response.{response_of, response_bytes}
use Rattle.card_cryptogram.specs.Bodies.{body_in}
use Rattle.card_files.specs.Views.{AppData, ImageData}
use Rattle.emv_dict.specs.declared.ending.Kind.{Kind}
use Rattle.report_text.specs.declared.line.Line.{Line}
use Rattle.report_text.specs.declared.line.Line.TheVariants.{ToCard, FromCard}
use Rattle.scenario_plan.specs.Plan.{ScenarioData}
use Rattle.txn_replay.specs.Changes.{is_generate, is_good}
use Rattle.txn_replay.specs.Laws.{taken_in}
use Rattle.txn_replay.specs.Payment.{Payment, next_of}
use Rattle.txn_replay.specs.Run.{RunPlace, Reached}
use Rattle.txn_replay.specs.Sound.{IsWorldSound, holder_in}
use Rattle.txn_replay.specs.Steps.{happens}
use Rattle.txn_replay.specs.World.{Holder, CryptogramGiven, CardRow, World, card_at}
use Rattle.txn_replay.specs.declared.event.Event.TheVariants.{Turn, Settle, Audit}

-- the command that a line tells
abbrev pub command_told : Line → Option (List ℕ)
command_told (ToCard lane bytes) = Some bytes.items
command_told other = None

abbrev pub is_answer : Line → Bool
is_answer (FromCard lane bytes) = true
is_answer other = false

-- the answer that a line tells to the command before it, where that is a GENERATE AC and the status is 9000
abbrev pub cryptogram_told : Option (List ℕ) → Line → List (List ℕ)
cryptogram_told (Some command) (FromCard lane bytes) =
    if is_generate (command_of command) && is_good (response_of bytes.items) then bytes.items ∷ [] else []
cryptogram_told (Some command) other = []
cryptogram_told None line = []

-- those among these lines, behind this command
unfoldable pub cryptograms_behind : Option (List ℕ) → List Line → List (List ℕ)
cryptograms_behind command [] = []
cryptograms_behind command (line ∷ lines) = cryptogram_told command line ++ cryptograms_behind (command_told line) lines

abbrev pub cryptograms_told : List Line → List (List ℕ)
cryptograms_told lines = cryptograms_behind None lines

-- the answer holds a cryptogram of this application with this transaction counter (EMV 4.3 Book 3 section 6.5.5.4)
pub record HoldsCounter (image : ImageData) (app counter : ℕ) (answer : List ℕ) : Type 0 where
  pub application : AppData
  pub is : slice_get image.apps app ≡ Some application
  pub kind : Kind
  pub cryptogram : List ℕ
  pub issuer_data : List ℕ
  pub answer_is : answer ≡ response_bytes (body_in application.ac_format kind counter cryptogram issuer_data) 0x9000

-- a row of a cryptogram: of this purchase, with the counter that the answer holds
pub record IsCryptogramRow (image : ImageData) (holder : Holder) (row : CryptogramGiven) (answer : List ℕ) : Type 0 where
  pub holder_is : row.holder ≡ holder
  pub holds : HoldsCounter image row.app row.counter answer

-- one row an answer, in their order
abbrev pub AreCryptogramRows : ImageData → Holder → List CryptogramGiven → List (List ℕ) → Type 0
AreCryptogramRows image holder [] [] = ⊤
AreCryptogramRows image holder (row ∷ rows) (answer ∷ answers) = IsCryptogramRow image holder row answer × AreCryptogramRows image holder rows answers
AreCryptogramRows image holder [] (answer ∷ answers) = ⊥
AreCryptogramRows image holder (row ∷ rows) [] = ⊥

-- a card of canned answers has no application that gives one
abbrev pub cryptograms_given : Option (List (List ℕ)) → List Line → List (List ℕ)
cryptograms_given None lines = cryptograms_told lines
cryptograms_given (Some answers) lines = []

-- the rows of a card grew by those of the cryptograms that the lines tell
pub record GivesRows (p : Payment) (holder : Holder) (before after : CardRow) (lines : List Line) : Type 0 where
  pub rows : List CryptogramGiven
  pub grown : after.given ≡ before.given ++ rows
  pub are : AreCryptogramRows p.card.image holder rows (cryptograms_given p.card.canned lines)

-- an exchange of a lane adds to its purchase's card one row a GENERATE AC that is answered 9000
abbrev pub GivenIsTold : Type 0
GivenIsTold =
    (s : ScenarioData) (w : World) (l : ℕ) (choices : List Bool) (p : Payment) → IsWorldSound s w → next_of s w l ≡ Some p
    → GivesRows p (holder_in w l) (card_at w p.planned.card) (card_at (happens s w (Turn l) choices).world p.planned.card) (happens s w (Turn l) choices).lines

-- and nothing else adds one: the settlement and the audit leave the rows of each card
pub record LeavesGiven (s : ScenarioData) (w : World) (k : ℕ) (choices : List Bool) : Type 0 where
  pub settle : (i : ℕ) → (card_at (happens s w (Settle k) choices).world i).given ≡ (card_at w i).given
  pub audit : (i : ℕ) → (card_at (happens s w (Audit k) choices).world i).given ≡ (card_at w i).given

-- the settlement and the audit leave each card's rows of cryptograms
abbrev pub GivenIsLeft : Type 0
GivenIsLeft = (s : ScenarioData) (w : World) (k : ℕ) (choices : List Bool) → LeavesGiven s w k choices

-- an answer rests on every decision that the card has kept
pub record IsSure (card : CardRow) : Type 0 where
  pub all : (taken_in card.acts).all ≡ card.kept
  pub sure : (taken_in card.acts).sure ≡ card.kept

-- so it is of a card that a purchase has
abbrev pub HeldIsSure : Type 0
HeldIsSure =
    (s : ScenarioData) (place : RunPlace) (n : ℕ) (choices : List Bool) (lines : List Line) (w : World) (i : ℕ) (h : Holder)
    → Reached s place n choices lines w → (card_at w i).holder ≡ Some h → IsSure (card_at w i)

-- and behind an answer, also where that ends the purchase
abbrev pub AnsweredIsSure : Type 0
AnsweredIsSure =
    (s : ScenarioData) (place : RunPlace) (n : ℕ) (taken : List Bool) (lines : List Line) (w : World) (l : ℕ) (choices : List Bool) (p : Payment)
    → Reached s place n taken lines w → next_of s w l ≡ Some p → list_any is_answer (happens s w (Turn l) choices).lines ≡ true
    → IsSure (card_at (happens s w (Turn l) choices).world p.planned.card)
