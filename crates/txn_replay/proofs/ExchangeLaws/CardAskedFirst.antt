-- A terminal asks the card first.
-- So the dialogue of a purchase that begins isn't over before its card has answered.
use Rattle.std.proofs.Common.{◌≡◌, ◌≤◌, Bool, true, false, List, [], ◌∷◌, length, refl, arith}
use Rattle.app_select.specs.Selecting.{listing}
use Rattle.emv_dict.specs.Settings.{IsSettings}
use Rattle.emv_dict.specs.declared.purchase.AidRow.{AidRow}
use Rattle.kernel.specs.StepsInTurn.{card_step}
use Rattle.kernel.specs.Dialogue.{dialogue}
use Rattle.kernel.specs.Kernel.{standing_next}
use Rattle.kernel.specs.declared.kernel.Next.TheVariants as next
use Rattle.pse_directory.specs.Directory.{directory, selecting_by}
use Rattle.terminal_state.specs.Terminal.{Outset}

pub first_waits : (outset : Outset) → IsSettings outset.settings → standing_next (dialogue outset []) ≡ next.ToCard
unfolding dialogue card_step selecting_by directory listing
first_waits outset fits = by_start outset.settings.pse outset.settings.aids fits.some_aid
  where
    by_start : (pse : Bool) (rows : List AidRow) → 1 ≤ length rows
        → standing_next (dialogue (record outset { settings = record outset.settings { aids = rows; pse = pse } }) []) ≡ next.ToCard
    by_start pse [] some = absurd (omega arith)
    by_start true (row ∷ rows) some = refl
    by_start false (row ∷ rows) some = refl
