-- What `entries_behind` gives at the end, at an entry and at a fault.
use Rattle.std.proofs.Common.{◌≡◌, ℕ, zero, suc, Bool, true, false, ◌+◌, ◌<◌, ◌≤◌, ◌==◌, if◌then◌else◌, List, [], ◌∷◌, ◌++◌, length, Option, Some, None, Result, Ok, Err, slice_get, refl, arith, sym, ap, ◌∙◌, append_assoc, append-nil}
use Rattle.std.proofs.lemmas.Option.{slice_get_within}
use Rattle.ber_tlv.specs.Item.{tag_at}
use Rattle.ber_tlv.specs.declared.item.TlvFault.{TlvFault}
use Rattle.ber_tlv.proofs.ItemBounds.{tag_at-onward}
use Rattle.object_lists.specs.DolEntries.{DolEntry, dol_entry_with, with_count, dol_entry_at, then_entries, then_behind, entries_from, entries_behind, dol_of}
use Rattle.object_lists.specs.declared.dol.DolFault.{DolFault}

-- these entries, and those of a reading behind them
abbrev pub with_front : List DolEntry → Result (List DolEntry) DolFault → Result (List DolEntry) DolFault
with_front front (Ok entries) = Ok (front ++ entries)
with_front front (Err fault) = Err fault

-- an entry ends behind its first byte and within the bytes
record Ends (bytes : List ℕ) (place next : ℕ) : Type 0 where
  onward : place < next
  within : next ≤ length bytes

dol_entry_with-ends : (bytes : List ℕ) (start : ℕ) (tag : ℕ × ℕ) (count : Option ℕ) (entry : DolEntry) (next : ℕ) → start < tag.1 → slice_get bytes tag.1 ≡ count
    → dol_entry_with start tag count ≡ Ok (entry, next) → Ends bytes start next
dol_entry_with-ends bytes start tag (Some count) entry next onward there e =
    let pair : ◌≡◌ {A = DolEntry × ℕ} (record { tag = tag.0; count = count }, tag.1 + 1) (entry, next) = cc e in
    let end : tag.1 + 1 ≡ next = ap (λ p. p.1) pair in
    let inside = slice_get_within bytes tag.1 count there in
    record { onward = omega arith; within = omega arith }
dol_entry_with-ends bytes start tag None entry next onward there e = cc

with_count-ends : (bytes : List ℕ) (start : ℕ) (tag : Result (ℕ × ℕ) TlvFault) (entry : DolEntry) (next : ℕ) → tag_at bytes start ≡ tag
    → with_count bytes start tag ≡ Ok (entry, next) → Ends bytes start next
with_count-ends bytes start (Ok tag) entry next is_tag e =
    dol_entry_with-ends bytes start tag (slice_get bytes tag.1) entry next (tag_at-onward bytes start tag is_tag) refl e
with_count-ends bytes start (Err fault) entry next is_tag e = cc

dol_entry_at-ends : (bytes : List ℕ) (start : ℕ) (entry : DolEntry) (next : ℕ) → dol_entry_at bytes start ≡ Ok (entry, next) → Ends bytes start next
unfolding dol_entry_at
dol_entry_at-ends bytes start entry next e = with_count-ends bytes start (tag_at bytes start) entry next refl e

then_behind-same : (found : Result (DolEntry × ℕ) DolFault) (f g : ℕ → Result (List DolEntry) DolFault)
    → ((entry : DolEntry) (next : ℕ) → found ≡ Ok (entry, next) → f next ≡ g next) → then_behind found f ≡ then_behind found g
then_behind-same (Ok (entry, next)) f g same = ap (then_entries entry) (same entry next refl)
then_behind-same (Err fault) f g same = refl

if-same : {A : Type 0} (test : Bool) (x y z : A) → (test ≡ false → y ≡ z) → (if test then x else y) ≡ (if test then x else z)
if-same true x y z same = refl
if-same false x y z same = same refl

-- a larger count changes nothing
entries_from-count : (c d : ℕ) (bytes : List ℕ) (place : ℕ) → place ≤ length bytes → length bytes ≤ place + c → length bytes ≤ place + d → entries_from c bytes place ≡ entries_from d bytes place
unfolding entries_from
entries_from-count zero zero bytes place within p q = refl
entries_from-count zero (suc d) bytes place within p q =
    let end : (place == length bytes) ≡ true = grind arith in rw end refl
entries_from-count (suc c) zero bytes place within p q =
    let end : (place == length bytes) ≡ true = grind arith in rw end refl
entries_from-count (suc c) (suc d) bytes place within p q =
    if-same (place == length bytes) _ _ _ (λ _.
    then_behind-same (dol_entry_at bytes place) _ _ (λ entry next found.
    let ends = dol_entry_at-ends bytes place entry next found in
    entries_from-count c d bytes next ends.within (omega (arith, ends.onward)) (omega (arith, ends.onward))))

at_zero : (bytes : List ℕ) (place : ℕ) → entries_from zero bytes place ≡ Ok []
unfolding entries_from
at_zero bytes place = refl

-- nothing is left at the end
pub behind-end : (bytes : List ℕ) (place : ℕ) → place ≡ length bytes → entries_behind bytes place ≡ Ok []
unfolding entries_behind
behind-end bytes place e = entries_from-count (length bytes) zero bytes place (omega arith) (omega arith) (omega arith) ∙ at_zero bytes place

one_step : (count : ℕ) (bytes : List ℕ) (place : ℕ) → (place == length bytes) ≡ false → entries_from (suc count) bytes place ≡ then_behind (dol_entry_at bytes place) (entries_from count bytes)
unfolding entries_from
one_step count bytes place inside = rw inside refl

-- an entry, and what is left behind it
behind-found : (bytes : List ℕ) (place : ℕ) → place < length bytes → entries_behind bytes place ≡ then_behind (dol_entry_at bytes place) (entries_behind bytes)
unfolding entries_behind
behind-found bytes place inside =
    entries_from-count (length bytes) (suc (length bytes)) bytes place (omega arith) (omega arith) (omega arith)
    ∙ one_step (length bytes) bytes place (grind arith)

pub behind-entry : (bytes : List ℕ) (place : ℕ) (entry : DolEntry) (next : ℕ) → place < length bytes → dol_entry_at bytes place ≡ Ok (entry, next) → entries_behind bytes place ≡ then_entries entry (entries_behind bytes next)
behind-entry bytes place entry next inside found = behind-found bytes place inside ∙ rw found refl

pub behind-fault : (bytes : List ℕ) (place : ℕ) (fault : DolFault) → place < length bytes → dol_entry_at bytes place ≡ Err fault → entries_behind bytes place ≡ Err fault
behind-fault bytes place fault inside found = behind-found bytes place inside ∙ rw found refl

-- one entry moves from the reading to the front
pub with_front-entry : (front : List DolEntry) (entry : DolEntry) (rest : Result (List DolEntry) DolFault) → with_front front (then_entries entry rest) ≡ with_front (front ++ entry ∷ []) rest
with_front-entry front entry (Ok entries) = ap Ok (sym (append_assoc front (entry ∷ []) entries))
with_front-entry front entry (Err fault) = refl

-- a step of the reading: what it has, and what is left behind the entry
pub one_more : (bytes : List ℕ) (front : List DolEntry) (place : ℕ) (entry : DolEntry) (next : ℕ) → place < length bytes → dol_entry_at bytes place ≡ Ok (entry, next)
    → with_front front (entries_behind bytes place) ≡ dol_of bytes → with_front (front ++ entry ∷ []) (entries_behind bytes next) ≡ dol_of bytes
one_more bytes front place entry next inside found so_far =
    sym (with_front-entry front entry (entries_behind bytes next)) ∙ ap (with_front front) (sym (behind-entry bytes place entry next inside found)) ∙ so_far

pub at_fault : (bytes : List ℕ) (front : List DolEntry) (place : ℕ) (fault : DolFault) → place < length bytes → dol_entry_at bytes place ≡ Err fault
    → with_front front (entries_behind bytes place) ≡ dol_of bytes → dol_of bytes ≡ Err fault
at_fault bytes front place fault inside found so_far = sym so_far ∙ ap (with_front front) (behind-fault bytes place fault inside found)

pub at_end : (bytes : List ℕ) (front : List DolEntry) (place : ℕ) → place ≡ length bytes → with_front front (entries_behind bytes place) ≡ dol_of bytes → dol_of bytes ≡ Ok front
at_end bytes front place e so_far = sym so_far ∙ ap (with_front front) (behind-end bytes place e) ∙ ap Ok (append-nil front)
