-- What each stage of a dialogue owes, for a card of this image.
use Rattle.std.proofs.Common.{◌≡◌, ℕ, ◌≤◌, false, List, slice_get, Option, Some, None}
use Rattle.card_app.specs.OwnLists.{cdol_of}
use Rattle.card_cryptogram.specs.declared.phase.Phase.TheVariants.{Selected, Started}
use Rattle.card_files.specs.ImageRules.{KeepsRules}
use Rattle.card_files.specs.Views.{AppData, ImageData}
use Rattle.card_state.specs.declared.state.AppState.{AppState}
use Rattle.dialogue_laws.proofs.Answers.{state_at, phase_at}
use Rattle.dialogue_laws.proofs.Ends.{Ends}
use Rattle.dialogue_laws.proofs.Runs.{Runs}
use Rattle.dialogue_laws.specs.Cards.{Now}
use Rattle.dialogue_laws.specs.WellFormed.{HasWholeData, list_total}
use Rattle.emv_dict.specs.declared.purchase.AidRow.{AidRow}
use Rattle.emv_dict.specs.declared.purchase.Logged.{Logged}
use Rattle.env_map.specs.Entries.{Entries, value_of}
use Rattle.kernel.specs.Dialogue.{TransactionData, analysis, read}
use Rattle.object_lists.specs.CardRead.{ReadCard}
use Rattle.object_lists.specs.DolEntries.{total_of}
use Rattle.read_records.specs.Options.{Opened, initiating}
use Rattle.terminal_state.specs.StepResults.{StepResult}
use Rattle.terminal_state.specs.Terminal.{Outset}

-- the object lists that were read want what the application takes
pub record HasLists (a : AppData) (card : ReadCard) : Type 0 where
  pub first : list_total (value_of 0x8C card.entries) ≡ Some (total_of (cdol_of a.cdol1))
  pub second : list_total (value_of 0x8D card.entries) ≡ Some (total_of (cdol_of a.cdol2))

-- from action analysis on
abbrev pub AnalysisEnds : ImageData → Type 0
AnalysisEnds image =
    (a : AppData) (app : ℕ) (now : Now) (transaction : TransactionData) (steps_done : List StepResult) (log : List Logged)
    → slice_get image.apps app ≡ Some a → HasLists a transaction.card → phase_at image now ≡ Started app
    → Ends image now (analysis transaction steps_done log)

-- from reading on
abbrev pub ReadEnds : ImageData → Type 0
ReadEnds image =
    (a : AppData) (app : ℕ) (now : Now) (outset : Outset) (row : AidRow) (whole : HasWholeData a) (log : List Logged)
    → slice_get image.apps app ≡ Some a → phase_at image now ≡ Started app
    → Ends image now (read outset row whole.reads.start log)

-- GET PROCESSING OPTIONS was answered: the application is refused where it has no counter left, and nothing is decided;
-- else it is started, and reading begins with what its own profile and locator give
abbrev pub Initiated : ImageData → (a : AppData) → HasWholeData a → ℕ → AppState → Now → Now → Option Opened → Type 0
Initiated image a whole app s before at None = (65535 ≤ s.counter) × (phase_at image at ≡ Selected app) × (at.kept ≡ before.kept)
Initiated image a whole app s before at (Some opened) = (opened ≡ whole.reads.start) × (phase_at image at ≡ Started app)

abbrev pub InitiationRuns : ImageData → Type 0
InitiationRuns image =
    (a : AppData) (app : ℕ) (now : Now) (s : AppState) (terminal : Entries) (whole : HasWholeData a)
    → KeepsRules a → slice_get image.apps app ≡ Some a → slice_get (state_at image now).apps.items app ≡ Some s
    → (state_at image now).blocked ≡ false → s.blocked ≡ false → phase_at image now ≡ Selected app
    → Runs image (Initiated image a whole app s now) now (initiating a.pdol terminal)
