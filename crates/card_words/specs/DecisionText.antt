-- The decisions of a card in words, each with what it changed (this project's own).
use Rattle.std.specs.Prelude.{ℕ, Bool, true, false, if◌then◌else◌, List, [], ◌∷◌, ◌++◌, length, codes, decimal, Option, Some, None, slice_get}
use Rattle.std.specs.List.{flat_map}
use Rattle.card_files.specs.Files.{opening_of}
use Rattle.card_state.specs.Change.{changed}
use Rattle.card_state.specs.Decisions.{Decided, blocks_app, blocks_whole, restores}
use Rattle.card_state.specs.Totals.{totals}
use Rattle.card_state.specs.declared.decision.Decision.{Decision}
use Rattle.card_state.specs.declared.decision.Decision.TheVariants.{Started, PinTry, PinRight, First, Authenticated, Script, Second}
use Rattle.card_state.specs.declared.decision.How.{How}
use Rattle.card_state.specs.declared.decision.How.TheVariants.{Authenticated as ByIssuer, Held, Alone, Offline}
use Rattle.card_state.specs.declared.decision.Sale.{Sale}
use Rattle.card_state.specs.declared.decision.Scripted.{Scripted}
use Rattle.card_state.specs.declared.decision.Scripted.TheVariants.{Block, Unblock, CardBlock, PinUnblock, PinChange, Count, Sum}
use Rattle.card_state.specs.declared.decision.Steered.{Steered}
use Rattle.card_state.specs.declared.decision.Which.{Which}
use Rattle.card_state.specs.declared.decision.Which.TheVariants.{One, Two, Neither}
use Rattle.card_state.specs.declared.state.AppState.{AppState}
use Rattle.card_state.specs.declared.state.CardState.{CardState}
use Rattle.emv_dict.specs.declared.ending.Kind.{Kind}
use Rattle.emv_dict.specs.declared.ending.Kind.TheVariants.{Aac, Tc, Arqc}
use Rattle.report_text.specs.Pieces.{newline}
use Rattle.card_words.specs.StateText.{field_text}
use Rattle.card_words.specs.declared.decision.Told.{Told}

-- the counter that a start takes, and the tries that a PIN try leaves
abbrev pub counter_taken : Option AppState → ℕ
counter_taken None = 0
counter_taken (Some s) = (changed s Started).counter

abbrev pub tries_left : Option AppState → ℕ
tries_left None = 0
tries_left (Some s) = (changed s PinTry).tries

-- the number that a decision leaves and doesn't hold itself, by the state of its application before it
abbrev pub number_left : Decision → Option AppState → ℕ
number_left Started s = counter_taken s
number_left PinTry s = tries_left s
number_left (PinRight limit) s = 0
number_left (First kind sale) s = 0
number_left (Authenticated right steered) s = 0
number_left (Script command) s = 0
number_left (Second kind how sale) s = 0

-- a decision as it is told, taken in a state of the card
abbrev pub told_in : CardState → Decided → Told
told_in state d = record { app = d.app; decision = d.decision; left = number_left d.decision (slice_get state.apps.items d.app); sure = true }

-- these decisions, taken one behind the other behind those of a card
abbrev pub told_behind : CardState → List Decided → List Decided → List Told
told_behind opening ds [] = []
told_behind opening ds (d ∷ later) = told_in (totals opening ds) d ∷ told_behind opening (ds ++ d ∷ []) later

abbrev pub kind_text : Kind → List ℕ
kind_text Aac = codes " aac"
kind_text Tc = codes " tc"
kind_text Arqc = codes " arqc"

-- in which of the application's currencies
abbrev pub which_text : Which → List ℕ
which_text One = codes " one"
which_text Two = codes " two"
which_text Neither = codes " neither"

unfoldable pub sale_text : Sale → List ℕ
sale_text sale = which_text sale.which ++ field_text (codes " ") sale.amount

abbrev pub how_text : How → List ℕ
how_text ByIssuer = codes " authenticated"
how_text Held = codes " held"
how_text Alone = codes " alone"
how_text Offline = codes " offline"

abbrev pub right_text : Bool → List ℕ
right_text true = codes " right"
right_text false = codes " wrong"

-- a word where something holds
abbrev pub word_if : Bool → List ℕ → List ℕ
word_if true word = word
word_if false word = []

-- what a card status update changes
unfoldable pub steered_text : Option Steered → List ℕ
steered_text None = []
steered_text (Some s) =
    word_if (blocks_app s) (codes " block") ++ word_if (blocks_whole s) (codes " card-block") ++ word_if (restores s) (field_text (codes " tries ") s.limit)

abbrev pub script_text : Scripted → List ℕ
script_text Block = codes " block"
script_text Unblock = codes " unblock"
script_text CardBlock = codes " card-block"
script_text (PinUnblock limit) = field_text (codes " pin-unblock ") limit
script_text (PinChange pin limit) = field_text (codes " pin-change ") limit
script_text (Count limit) = field_text (codes " count-limit ") limit
script_text (Sum limit) = field_text (codes " sum-limit ") limit

-- a decision, with the number that it leaves
unfoldable pub decision_text : ℕ → Decision → List ℕ
decision_text left Started = field_text (codes " started ") left
decision_text left PinTry = field_text (codes " pin-try ") left
decision_text left (PinRight limit) = field_text (codes " pin-right ") limit
decision_text left (First kind sale) = codes " first" ++ kind_text kind ++ sale_text sale
decision_text left (Authenticated right steered) = codes " authenticated" ++ right_text right ++ steered_text steered
decision_text left (Script command) = codes " script" ++ script_text command
decision_text left (Second kind how sale) = codes " second" ++ kind_text kind ++ how_text how ++ sale_text sale

-- one that may be kept or not is marked
abbrev pub sure_text : Bool → List ℕ
sure_text true = []
sure_text false = codes " unsure"

unfoldable pub told_text : Told → List ℕ
told_text told = field_text (codes "app ") told.app ++ decision_text told.left told.decision ++ sure_text told.sure ++ newline

-- how many decisions there are, and a line for each
unfoldable pub decided_text : List Told → List ℕ
decided_text told = codes "decided " ++ decimal (length told) ++ newline ++ flat_map told_text told
