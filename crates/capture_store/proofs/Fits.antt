-- A store's list fits, one step after another.
use Rattle.std.proofs.Common.{◌≡◌, ◌⊎◌, ℕ, ◌<◌, ◌≤◌, Bool, true, false, ◌==◌, List, [], drop, length, Option, Some, None, sym, subst, arith, inl, inr, length-drop}
use Rattle.std.specs.Prelude.{if◌then◌else◌}
use Rattle.std.proofs.lemmas.Bool.Decides.{nat_tests}
use Rattle.emv_ports.specs.declared.tear.Tear.{Tear}
use Rattle.capture_store.specs.Calls.{Call, Adds, Drops, called, list_found, call_left_by}
use Rattle.capture_store.specs.Fitting.{RowFits, StoreFits}
use Rattle.capture_store.specs.Spelling.{IsCaptureMessage, IsList}
use Rattle.capture_store.specs.StoreRow.{StoreRow, is_next_cut, made_call, cut_call, call_under_plan, delivered_by}
use Rattle.capture_store.proofs.Entries.{list_more, list_less}
use Rattle.capture_store.proofs.Sendings.{leaves_one}

none_fits : IsList []
none_fits = record { few = omega arith; each = λ k d inside. absurd (omega arith) }

-- the list where no call is lost
here_fits : (list : List (List ℕ)) (lost : Option Call) → lost ≡ None → ((found : Bool) → IsList (list_found list lost found)) → IsList list
here_fits list None is fits = fits true
here_fits list (Some call) is fits = cc is

one_fits : (list behind found : List (List ℕ)) → IsList list → IsList behind → (found ≡ list) ⊎ (found ≡ behind) → IsList found
one_fits list behind found fits more (inl is) = subst IsList (sym is) fits
one_fits list behind found fits more (inr is) = subst IsList (sym is) more

call_fits : (row : StoreRow) (plan : Option Tear) (call : Call) (cut : Bool) → row.lost ≡ None → IsList row.list → IsList (called row.list call)
    → RowFits (if cut then cut_call plan row call else made_call row call)
call_fits row plan call true is fits more =
    λ found.
    one_fits row.list (called row.list call) (list_found (call_left_by plan row.list call).list (call_left_by plan row.list call).lost found) fits more
    (leaves_one plan row.list call found)
call_fits row plan call false is fits more =
    subst (λ (lost : Option Call). (found : Bool) → IsList (list_found (called row.list call) lost found)) (sym is) (λ found. more)

adds_fit : (row : StoreRow) (plan : Option Tear) (message : List ℕ) → row.lost ≡ None → length row.list < 7 → IsCaptureMessage message → RowFits row
    → RowFits (call_under_plan plan row (Adds message))
adds_fit row plan message is room short fits =
    let here = here_fits row.list row.lost is fits in
    call_fits row plan (Adds message) (is_next_cut plan row) is here (list_more row.list message here room short)

drops_fit : (row : StoreRow) (plan : Option Tear) → row.lost ≡ None → RowFits row → RowFits (call_under_plan plan row Drops)
drops_fit row plan is fits =
    let here = here_fits row.list row.lost is fits in call_fits row plan Drops (is_next_cut plan row) is here (list_less row.list here)

not_full : (count : ℕ) → count ≤ 7 → (count == 7) ≡ false → count < 7
not_full count few is = grind (arith, nat_tests)

delivery_has_room : (row : StoreRow) (plan : Option Tear) → row.lost ≡ None → is_next_cut plan row ≡ false → RowFits row → length (delivered_by plan row).list < 7
delivery_has_room row plan is spared fits =
    let few = (here_fits row.list row.lost is fits).few in
    let less = length-drop 1 row.list in
    let room : length (drop 1 row.list) < 7 = omega (arith, few, less) in
    subst (λ (b : Bool). length (if b then cut_call plan row Drops else made_call row Drops).list < 7) (sym spared) room

pub store_fits : StoreFits
store_fits = record {
  begins = λ found. none_fits;
  opens = λ row found fits other. fits found;
  adds = adds_fit;
  drops = drops_fit;
  room = λ row found fits due. not_full (length (list_found row.list row.lost found)) (fits found).few due;
  delivers = delivery_has_room;
}
