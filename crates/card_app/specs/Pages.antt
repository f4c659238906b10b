-- The pages of a card and the decisions that they stand for.
use Rattle.emv_ports.specs.Cell.{Cells}
use Rattle.std.specs.Prelude.{◌≡◌, ◌⊎◌, ℕ, List, [], ◌∷◌, ◌++◌, Bool, Option, Some, None, option_map, if◌then◌else◌}
use Rattle.card_state.specs.Decisions.{Decided}
use Rattle.card_state.specs.Encoding.{encoding, encoding_one, HasShortLogs, IsCardState}
use Rattle.card_state.specs.Layout.{decoded_one}
use Rattle.card_state.specs.Totals.{totals}
use Rattle.card_state.specs.Upgrade.{with_limits}
use Rattle.card_state.specs.declared.state.CardState.{CardState}
use Rattle.torn_store.specs.Layout.{recover}
use Rattle.torn_store.specs.Recovery.{Holds, Between}

-- What pages hold while their card is on: the encoding of the totals of the decisions, whatever their unsure
-- cells give.
pub record HoldsTotals (cells : Cells) (opening : CardState) (ds : List Decided) : Type 0 where
  pub fits : IsCardState (totals opening ds)
  pub short : HasShortLogs opening
  pub holds : Holds recover cells (encoding (totals opening ds))

-- The pages of a card that was personalised in version 1 and hasn't decided yet: they are between the bytes of its
-- opening state in version 1 and those in version 2, which its first power-up writes.
pub record IsFresh (cells : Cells) (version : ℕ) (opening : CardState) (ds : List Decided) : Type 0 where
  pub none : ds ≡ []
  pub old : version ≡ 1
  pub unused : totals opening [] ≡ opening
  pub fits : IsCardState opening
  pub short : HasShortLogs opening
  pub among : Between recover cells (encoding_one opening) (encoding opening)

-- what the pages of a card of this version may hold for its decisions while it is off
abbrev pub StandsFor : Cells → ℕ → CardState → List Decided → Type 0
StandsFor cells version opening ds = HoldsTotals cells opening ds ⊎ IsFresh cells version opening ds

-- the pages are between the decisions that are kept, and these with one more
pub record StandsBetween (cells : Cells) (opening : CardState) (kept : List Decided) (last : Decided) : Type 0 where
  pub fits : IsCardState (totals opening kept)
  pub fits_with : IsCardState (totals opening (kept ++ last ∷ []))
  pub short : HasShortLogs opening
  pub between : Between recover cells (encoding (totals opening kept)) (encoding (totals opening (kept ++ last ∷ [])))

-- without a pending decision the pages stand for those that are kept, and with one they may stand for either
abbrev pub MayStand : Cells → ℕ → CardState → List Decided → Option Decided → Type 0
MayStand cells version opening kept None = StandsFor cells version opening kept
MayStand cells version opening kept (Some last) = StandsBetween cells opening kept last

-- what a power-up makes of the bytes of a state: of version 1 those of version 2, with the limits of the opening state
abbrev pub upgraded : CardState → List ℕ → Option (List ℕ)
upgraded opening bytes = option_map (λ state. encoding (with_limits opening state)) (decoded_one bytes)

-- the decisions that a power-up finds: with the pending one, or without it
abbrev pub found_of : List Decided → Option Decided → Bool → List Decided
found_of kept None with_it = kept
found_of kept (Some last) with_it = if with_it then kept ++ last ∷ [] else kept
