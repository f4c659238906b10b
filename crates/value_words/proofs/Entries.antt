-- The entries of a data object list, and the fields that they make of data, one by one.
use Rattle.std.proofs.Common.{◌≡◌, ℕ, zero, suc, ◌+◌, ◌<◌, ◌≤◌, ◌==◌, Bool, ◌&&◌, List, [], ◌∷◌, length, take, drop, Option, Some, None, option_map, Result, Ok, Err, slice_get, refl, ap, ◌∙◌, arith, length-drop}
use Rattle.std.proofs.lemmas.Bool.Decides.{nat_tests}
use Rattle.std.proofs.lemmas.Option.{slice_get_within}
use Rattle.ber_tlv.specs.Item.{tag_at}
use Rattle.ber_tlv.specs.declared.item.TlvFault.{TlvFault}
use Rattle.value_words.specs.Fields.{ListEntry, entry_behind, next_entry, by_entry, list_entries_from, list_entries, bytes_wanted, filled_entries, fields_of, are_fitting}

behind-shorter : (list : List ℕ) (r : Result (ℕ × ℕ) TlvFault) (e : ListEntry) → entry_behind list r ≡ Some e → length e.rest < length list
behind-shorter list (Err fault) e is = absurd cc
behind-shorter list (Ok found) e is = by (slice_get list found.1) refl is
  where
    by : (b : Option ℕ) → slice_get list found.1 ≡ b
        → option_map (λ count. record { tag = found.0; count = count; rest = drop (found.1 + 1) list }) b ≡ Some e → length e.rest < length list
    by None none is = absurd cc
    by (Some count) there is =
        let within = slice_get_within list found.1 count there in
        let rest : drop (found.1 + 1) list ≡ e.rest = cc in
        omega (arith, length-drop (found.1 + 1) list, ap length rest)

-- an entry takes bytes
pub entry-shorter : (list : List ℕ) (e : ListEntry) → next_entry list ≡ Some e → length e.rest < length list
unfolding next_entry
entry-shorter list e is = behind-shorter list (tag_at list 0) e is

by_entry-same : (list : List ℕ) (found : Option ListEntry) (f g : List ℕ → List (ℕ × ℕ) × List ℕ)
    → ((e : ListEntry) → found ≡ Some e → f e.rest ≡ g e.rest) → by_entry list found f ≡ by_entry list found g
by_entry-same list None f g same = refl
by_entry-same list (Some e) f g same = ap (λ (m : List (ℕ × ℕ) × List ℕ). ((e.tag, e.count) ∷ m.0, m.1)) (same e refl)

-- a larger count changes nothing
list_entries_from-count : (c d : ℕ) (list : List ℕ) → length list < c → length list < d → list_entries_from c list ≡ list_entries_from d list
unfolding list_entries_from
list_entries_from-count zero d list p q = absurd (omega arith)
list_entries_from-count (suc c) zero list p q = absurd (omega arith)
list_entries_from-count (suc c) (suc d) list p q =
    by_entry-same list (next_entry list) _ _ (λ e is.
    let shorter = entry-shorter list e is in
    list_entries_from-count c d e.rest (omega arith) (omega arith))

-- the first entry, and those behind it
pub entries-step : (list : List ℕ) → list_entries list ≡ by_entry list (next_entry list) list_entries
unfolding list_entries list_entries_from
entries-step list =
    by_entry-same list (next_entry list) _ _ (λ e is.
    let shorter = entry-shorter list e is in
    list_entries_from-count (length list) (suc (length e.rest)) e.rest (omega arith) (omega arith))

-- where one stands, and where none does
pub entries-some : (list : List ℕ) (e : ListEntry) → next_entry list ≡ Some e → list_entries list ≡ ((e.tag, e.count) ∷ (list_entries e.rest).0, (list_entries e.rest).1)
entries-some list e is = entries-step list ∙ ap (λ (f : Option ListEntry). by_entry list f list_entries) is

pub entries-none : (list : List ℕ) → next_entry list ≡ None → list_entries list ≡ ([], list)
entries-none list is = entries-step list ∙ ap (λ (f : Option ListEntry). by_entry list f list_entries) is

-- the first field, and those behind it
pub fields-next : (list bytes : List ℕ) (e : ListEntry) → next_entry list ≡ Some e → e.count ≤ length bytes
    → fields_of list bytes ≡ (e.tag, take e.count bytes) ∷ fields_of e.rest (drop e.count bytes)
unfolding fields_of
fields-next list bytes e is fits =
    ap (λ (m : List (ℕ × ℕ) × List ℕ). filled_entries m.0 bytes) (entries-some list e is)
    ∙ grind (arith, nat_tests)

pub fields-short : (list bytes : List ℕ) (e : ListEntry) → next_entry list ≡ Some e → length bytes < e.count → fields_of list bytes ≡ []
unfolding fields_of
fields-short list bytes e is short =
    ap (λ (m : List (ℕ × ℕ) × List ℕ). filled_entries m.0 bytes) (entries-some list e is)
    ∙ grind (arith, nat_tests)

pub fields-none : (list bytes : List ℕ) → next_entry list ≡ None → fields_of list bytes ≡ []
unfolding fields_of
fields-none list bytes is = ap (λ (m : List (ℕ × ℕ) × List ℕ). filled_entries m.0 bytes) (entries-none list is)

-- whether the list and the data fit, by what stands behind the first field
pub fitting-next : (list bytes : List ℕ) (e : ListEntry) → next_entry list ≡ Some e → e.count ≤ length bytes → are_fitting list bytes ≡ are_fitting e.rest (drop e.count bytes)
unfolding are_fitting
fitting-next list bytes e is fits =
    ap (λ (m : List (ℕ × ℕ) × List ℕ). (length m.1 == 0) && (bytes_wanted m.0 == length bytes)) (entries-some list e is)
    ∙ ap (λ b. (length (list_entries e.rest).1 == 0) && b) (sums (bytes_wanted (list_entries e.rest).0))
  where
    sums : (w : ℕ) → (e.count + w == length bytes) ≡ (w == length (drop e.count bytes))
    sums w = rw (length-drop e.count bytes) (grind (arith, nat_tests))

pub fitting-short : (list bytes : List ℕ) (e : ListEntry) → next_entry list ≡ Some e → length bytes < e.count → are_fitting list bytes ≡ ((length list == 0) && (length bytes == 0))
unfolding are_fitting
fitting-short list bytes e is short =
    ap (λ (m : List (ℕ × ℕ) × List ℕ). (length m.1 == 0) && (bytes_wanted m.0 == length bytes)) (entries-some list e is)
    ∙ neither (bytes_wanted (list_entries e.rest).0) (length (list_entries e.rest).1 == 0) (entry-shorter list e is)
  where
    neither : (w : ℕ) (b : Bool) → length e.rest < length list → (b && (e.count + w == length bytes)) ≡ ((length list == 0) && (length bytes == 0))
    neither w b shorter = grind (arith, nat_tests)

pub fitting-none : (list bytes : List ℕ) → next_entry list ≡ None → are_fitting list bytes ≡ ((length list == 0) && (length bytes == 0))
unfolding are_fitting
fitting-none list bytes is =
    ap (λ (m : List (ℕ × ℕ) × List ℕ). (length m.1 == 0) && (bytes_wanted m.0 == length bytes)) (entries-none list is)
    ∙ ap (λ b. (length list == 0) && b) (grind (arith, nat_tests))
