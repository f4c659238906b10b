-- Why a card isn't well-formed: the parts before hold, and this one doesn't.
use Rattle.std.specs.Prelude.{◌≡◌, ◌⊎◌, ℕ, ◌<◌, true, false, List, length, slice_get, take, Some, Ok, Err}
use Rattle.std.specs.List.{All}
use Rattle.card_app.specs.OwnLists.{cdol_of}
use Rattle.card_files.specs.Views.{AppData, ImageData}
use Rattle.card_state.specs.declared.state.CardState.{CardState}
use Rattle.card_check.specs.Judged.{clashes, own_data}
use Rattle.dialogue_laws.specs.WellFormed.{HaveApartNames, CanServe, HasWholeData, list_total}
use Rattle.card_check.specs.declared.fault.AppFault.{AppFault}
use Rattle.card_check.specs.declared.fault.AppFault.TheVariants.{Reading, FirstList, SecondList, Locator}
use Rattle.card_check.specs.declared.fault.CardFault.{CardFault}
use Rattle.card_check.specs.declared.fault.CardFault.TheVariants.{Blocked, Clash, Unserved, App}
use Rattle.env_map.specs.Entries.{value_of}
use Rattle.object_lists.specs.CardRead.{ReadCard}
use Rattle.object_lists.specs.DolEntries.{total_of}
use Rattle.terminal_state.specs.Terminal.{Outset}

-- a pair of applications comes before another one: by the first of the two, then by the second
abbrev pub IsEarlier : ℕ → ℕ → ℕ → ℕ → Type 0
IsEarlier i j first second = (i < first) ⊎ ((i ≡ first) × (j < second))

-- the first pair of applications of which one's name begins the other's
pub record IsFirstClash (apps : List AppData) (first second : ℕ) : Type 0 where
  pub one : AppData
  pub other : AppData
  pub one_is : slice_get apps first ≡ Some one
  pub other_is : slice_get apps second ≡ Some other
  pub order : first < second
  pub clash : clashes one other ≡ true
  pub before : (i j : ℕ) (a b : AppData) → slice_get apps i ≡ Some a → slice_get apps j ≡ Some b → i < j → IsEarlier i j first second
      → clashes a b ≡ false

-- the application's own data are these
abbrev pub GivesReason : AppData → ReadCard → Type 0
GivesReason a card = own_data a ≡ Ok card

-- the object list of these data wants as many bytes as this one of the application
abbrev pub Matches : ℕ → List ℕ → ReadCard → Type 0
Matches tag own card = list_total (value_of tag card.entries) ≡ Some (total_of (cdol_of own))

-- the part of a whole application that this one breaks, where those before it hold
abbrev pub BreaksApp : AppData → AppFault → Type 0
BreaksApp a (Reading cause) = own_data a ≡ Err cause
BreaksApp a FirstList = (card : ReadCard) × GivesReason a card × (Matches 0x8C a.cdol1 card → ⊥)
BreaksApp a SecondList = (card : ReadCard) × GivesReason a card × Matches 0x8C a.cdol1 card × (Matches 0x8D a.cdol2 card → ⊥)
BreaksApp a Locator = (card : ReadCard) × GivesReason a card × Matches 0x8C a.cdol1 card × Matches 0x8D a.cdol2 card
    × (a.gpo_format ≡ 2) × (244 < length a.afl)

-- the first application that isn't whole, and the part that it breaks
pub record IsFirstBroken (apps : List AppData) (app : ℕ) (fault : AppFault) : Type 0 where
  pub own : AppData
  pub is : slice_get apps app ≡ Some own
  pub before : All HasWholeData (take app apps)
  pub breaks : BreaksApp own fault

-- the part that a card in this state breaks for a purchase, where those before it hold
abbrev pub BreaksPart : ImageData → Outset → CardState → CardFault → Type 0
BreaksPart image outset state Blocked = state.blocked ≡ true
BreaksPart image outset state (Clash first second) = (state.blocked ≡ false) × IsFirstClash image.apps first second
BreaksPart image outset state Unserved = (state.blocked ≡ false) × HaveApartNames image.apps × (CanServe image state outset → ⊥)
BreaksPart image outset state (App app fault) =
    (state.blocked ≡ false) × HaveApartNames image.apps × CanServe image state outset × IsFirstBroken image.apps app fault
