-- The law of a store's room: whatever the next opening would find fits, and behind an opening for a purchase and its
-- delivery there is room for one message more (this project's own).
use Rattle.std.specs.Prelude.{◌≡◌, ℕ, ◌<◌, Bool, false, List, length, Option, None}
use Rattle.emv_ports.specs.declared.tear.Tear.{Tear}
use Rattle.capture_store.specs.Calls.{Adds, Drops, list_found}
use Rattle.capture_store.specs.Spelling.{IsCaptureMessage, IsList}
use Rattle.capture_store.specs.StoreRow.{StoreRow, new_store, is_next_cut, store_opened, opened_to_add, call_under_plan, delivered_by}

-- whatever the next opening would find fits
abbrev pub RowFits : StoreRow → Type 0
RowFits row = (found : Bool) → IsList (list_found row.list row.lost found)

-- each step of a store keeps that what the next opening would find fits, and that there is room behind the opening
-- for a purchase and its delivery
pub record StoreFits : Type 0 where
  pub begins : RowFits new_store
  pub opens : (row : StoreRow) (found : Bool) → RowFits row → RowFits (store_opened row found)
  pub adds : (row : StoreRow) (plan : Option Tear) (message : List ℕ) → row.lost ≡ None → length row.list < 7 → IsCaptureMessage message → RowFits row
      → RowFits (call_under_plan plan row (Adds message))
  pub drops : (row : StoreRow) (plan : Option Tear) → row.lost ≡ None → RowFits row → RowFits (call_under_plan plan row Drops)
  -- where no delivery is due there is room
  pub room : (row : StoreRow) (found : Bool) → RowFits row → (opened_to_add row found).due ≡ false → length (opened_to_add row found).list < 7
  -- and so there is behind a delivery
  pub delivers : (row : StoreRow) (plan : Option Tear) → row.lost ≡ None → is_next_cut plan row ≡ false → RowFits row → length (delivered_by plan row).list < 7
