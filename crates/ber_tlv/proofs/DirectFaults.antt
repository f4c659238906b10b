-- What `template_fault_behind` gives at the end, at an object and at a fault.
use Rattle.std.proofs.Common.{◌≡◌, ℕ, zero, suc, Bool, true, false, ◌+◌, ◌-◌, ◌<◌, ◌==◌, if◌then◌else◌, List, length, Option, Some, None, option_map, Result, Ok, Err, slice_get, refl, arith, ap, sym, ◌∙◌, eq-eqb, subst, [], ◌∷◌, IsNone, ◌↔◌}
use Rattle.std.proofs.lemmas.Option.{slice_get_past}
use Rattle.std.specs.Option.{option_or}
use Rattle.ber_tlv.specs.Direct.{fault_inside, fault_at_object, fault_by_byte, template_fault_from, template_fault_behind, template_fault, AreListsInside, IsWholeList}
use Rattle.ber_tlv.specs.Item.{ItemData, item_at}
use Rattle.ber_tlv.specs.Left.{items_of, fault_of}
use Rattle.ber_tlv.specs.FaultPlace.{moved_fault}
use Rattle.ber_tlv.specs.Items.{Zeros, HasObjectAt, NextItem, NextFault, Items, FaultBehind}
use Rattle.ber_tlv.specs.declared.item.TlvFault.{TlvFault}
use Rattle.ber_tlv.proofs.ItemBounds.{item_at-lies}
use Rattle.ber_tlv.proofs.Reading.{reads_list, reads_fault}

fault_by_byte-same : (byte : Option ℕ) (p q u v : Option TlvFault) → p ≡ q → u ≡ v → fault_by_byte byte p u ≡ fault_by_byte byte q v
fault_by_byte-same byte p q u v e f = cc

fault_at_object-same : (tag : ℕ) (r : Result (ItemData × ℕ) TlvFault) (f g : ℕ → Option TlvFault) → ((found : ItemData × ℕ) → r ≡ Ok found → f found.1 ≡ g found.1)
    → fault_at_object tag r f ≡ fault_at_object tag r g
fault_at_object-same tag (Ok found) f g same = ap (option_or (fault_inside tag found.0 found.1)) (same found refl)
fault_at_object-same tag (Err fault) f g same = refl

-- a larger count changes nothing
template_fault_from-count : (c d tag : ℕ) (bytes : List ℕ) (place : ℕ) → length bytes < place + c → length bytes < place + d → template_fault_from c tag bytes place ≡ template_fault_from d tag bytes place
unfolding template_fault_from
template_fault_from-count zero zero tag bytes place p q = refl
template_fault_from-count zero (suc d) tag bytes place p q = rw (slice_get_past bytes place (omega arith)) refl
template_fault_from-count (suc c) zero tag bytes place p q = rw (slice_get_past bytes place (omega arith)) refl
template_fault_from-count (suc c) (suc d) tag bytes place p q =
    fault_by_byte-same (slice_get bytes place) _ _ _ _
    (template_fault_from-count c d tag bytes (place + 1) (omega arith) (omega arith))
    (fault_at_object-same tag (item_at bytes place) _ _ (λ found stands.
    let lies = item_at-lies bytes place found.0 found.1 stands in
    template_fault_from-count c d tag bytes found.1 (omega arith) (omega arith)))

fault_by_byte-begins : (byte : ℕ) (p o : Option TlvFault) → 0 < byte → fault_by_byte (Some byte) p o ≡ o
fault_by_byte-begins byte p o positive = grind arith

padding : (tag : ℕ) (bytes : List ℕ) (place : ℕ) → slice_get bytes place ≡ Some 0 → template_fault_behind tag bytes place ≡ template_fault_behind tag bytes (place + 1)
unfolding template_fault_behind template_fault_from
padding tag bytes place zero_there =
    rw zero_there (template_fault_from-count (length bytes) (suc (length bytes)) tag bytes (place + 1) (omega arith) (omega arith))

many_zeros : (count tag : ℕ) (bytes : List ℕ) (place start : ℕ) → place + count ≡ start → Zeros bytes place start → template_fault_behind tag bytes place ≡ template_fault_behind tag bytes start
many_zeros zero tag bytes place start e zeros = ap (template_fault_behind tag bytes) (omega arith)
many_zeros (suc count) tag bytes place start e zeros =
    padding tag bytes place (zeros.zero place (omega arith) (omega arith))
    ∙ many_zeros count tag bytes (place + 1) start (omega arith)
    (record { upward = omega arith; within = zeros.within; zero = λ k from to. zeros.zero k (omega arith) to })

behind_zeros : (tag : ℕ) (bytes : List ℕ) (place start : ℕ) → Zeros bytes place start → template_fault_behind tag bytes place ≡ template_fault_behind tag bytes start
behind_zeros tag bytes place start zeros = many_zeros (start - place) tag bytes place start (omega arith) zeros

at_begin : (tag : ℕ) (bytes : List ℕ) (start : ℕ) → HasObjectAt bytes start
    → template_fault_behind tag bytes start ≡ fault_at_object tag (item_at bytes start) (template_fault_behind tag bytes)
unfolding template_fault_behind template_fault_from
at_begin tag bytes start begins =
    rw begins.there (fault_by_byte-begins begins.byte _ _ begins.not_zero
    ∙ fault_at_object-same tag (item_at bytes start) _ _ (λ found stands.
    let lies = item_at-lies bytes start found.0 found.1 stands in
    template_fault_from-count (length bytes) (suc (length bytes)) tag bytes found.1 (omega arith) (omega arith)))

pub fault-end : (tag : ℕ) (bytes : List ℕ) (place : ℕ) → Zeros bytes place (length bytes) → template_fault_behind tag bytes place ≡ None
unfolding template_fault_behind template_fault_from
fault-end tag bytes place zeros =
    behind_zeros tag bytes place (length bytes) zeros ∙ rw (slice_get_past bytes (length bytes) (omega arith)) refl

pub fault-item : (tag : ℕ) (bytes : List ℕ) (place : ℕ) (item : ItemData) (next : ℕ) → NextItem bytes place item next
    → template_fault_behind tag bytes place ≡ option_or (fault_inside tag item next) (template_fault_behind tag bytes next)
fault-item tag bytes place item next step =
    behind_zeros tag bytes place step.start step.zeros ∙ at_begin tag bytes step.start step.begins ∙ rw step.stands refl

pub fault-fault : (tag : ℕ) (bytes : List ℕ) (place : ℕ) (fault : TlvFault) → NextFault bytes place fault → template_fault_behind tag bytes place ≡ Some fault
fault-fault tag bytes place fault step =
    behind_zeros tag bytes place step.start step.zeros ∙ at_begin tag bytes step.start step.begins ∙ rw step.broken refl

-- the fault inside an object of the tag
pub fault_found : (tag : ℕ) (bytes : List ℕ) (place : ℕ) (item : ItemData) (next : ℕ) (fault : TlvFault) → NextItem bytes place item next
    → (item.tag == tag) ≡ true → fault_of (items_of item.value) ≡ Some fault → template_fault_behind tag bytes place ≡ Some (moved_fault (next - length item.value) fault)
fault_found tag bytes place item next fault step same found =
    fault-item tag bytes place item next step ∙ rw (same, found) refl

no_fault_inside : {behind : Option TlvFault} (test : Bool) (next : ℕ) (item : ItemData) → fault_of (items_of item.value) ≡ None
    → option_or (if test then option_map (moved_fault (next - length item.value)) (fault_of (items_of item.value)) else None) behind ≡ behind
no_fault_inside true next item none = rw none refl
no_fault_inside false next item none = refl

-- an object of the tag without a fault inside, or another object
pub fault_passed : (tag : ℕ) (bytes : List ℕ) (place : ℕ) (item : ItemData) (next : ℕ) → NextItem bytes place item next
    → fault_of (items_of item.value) ≡ None → template_fault_behind tag bytes place ≡ template_fault_behind tag bytes next
fault_passed tag bytes place item next step none =
    fault-item tag bytes place item next step ∙ no_fault_inside (item.tag == tag) next item none

pub fault_other : (tag : ℕ) (bytes : List ℕ) (place : ℕ) (item : ItemData) (next : ℕ) → NextItem bytes place item next
    → (item.tag == tag) ≡ false → template_fault_behind tag bytes place ≡ template_fault_behind tag bytes next
fault_other tag bytes place item next step other =
    fault-item tag bytes place item next step ∙ rw other refl

if_inside_found : (found : Option TlvFault) (front : ℕ) {behind : Option TlvFault} → option_or (option_map (moved_fault front) found) behind ≡ None → (true ≡ true → found ≡ None) × (behind ≡ None)
if_inside_found None front e = (λ t. refl, e)
if_inside_found (Some fault) front e = cc

is_none-none : (found : Option TlvFault) → IsNone found → found ≡ None
is_none-none None none = refl
is_none-none (Some fault) none = cc

if_inside : (test : Bool) (item : ItemData) (next : ℕ) {behind : Option TlvFault} → option_or (if test then option_map (moved_fault (next - length item.value)) (fault_of (items_of item.value)) else None) behind ≡ None
    → (test ≡ true → fault_of (items_of item.value) ≡ None) × (behind ≡ None)
if_inside true item next e = if_inside_found (fault_of (items_of item.value)) (next - length item.value) e
if_inside false item next e = (λ t. cc, e)

-- a whole list without a fault inside
none_at_item : (tag : ℕ) (bytes : List ℕ) (place : ℕ) (item : ItemData) (next : ℕ) → NextItem bytes place item next → (item.tag ≡ tag → fault_of (items_of item.value) ≡ None)
    → template_fault_behind tag bytes place ≡ template_fault_behind tag bytes next
none_at_item tag bytes place item next step none = by_test (item.tag == tag) refl where
  by_test : (test : Bool) → (item.tag == tag) ≡ test → template_fault_behind tag bytes place ≡ template_fault_behind tag bytes next
  by_test true same = fault_passed tag bytes place item next step (none (grind arith))
  by_test false other = fault_other tag bytes place item next step other

whole-none : (tag : ℕ) (bytes : List ℕ) (place : ℕ) (items : List ItemData) → Items bytes place items → AreListsInside tag items → template_fault_behind tag bytes place ≡ None
whole-none tag bytes place [] zeros inside = fault-end tag bytes place zeros
whole-none tag bytes place (item ∷ items) (next, step, rest) inside =
    none_at_item tag bytes place item next step inside.0 ∙ whole-none tag bytes next items rest inside.1

none-whole : (tag : ℕ) (bytes : List ℕ) (place : ℕ) (items : List ItemData) → Items bytes place items → template_fault_behind tag bytes place ≡ None → AreListsInside tag items
none-whole tag bytes place [] zeros e = tt
none-whole tag bytes place (item ∷ items) (next, step, rest) e =
    let both = if_inside (item.tag == tag) item next (sym (fault-item tag bytes place item next step) ∙ e) in
    (λ same. both.0 (eq-eqb item.tag tag same), none-whole tag bytes next items rest both.1)

fault-some : (tag : ℕ) (bytes : List ℕ) (place : ℕ) (items : List ItemData) (fault : TlvFault) → FaultBehind bytes place items fault → template_fault_behind tag bytes place ≡ None → ⊥
fault-some tag bytes place [] fault broken e = let found = fault-fault tag bytes place fault broken in cc
fault-some tag bytes place (item ∷ items) fault (next, step, rest) e =
    fault-some tag bytes next items fault rest (if_inside (item.tag == tag) item next (sym (fault-item tag bytes place item next step) ∙ e)).1

whole_of_reading : (tag : ℕ) (bytes : List ℕ) (reading : Result (List ItemData) TlvFault) → items_of bytes ≡ reading → template_fault tag bytes ≡ None → IsWholeList tag bytes
whole_of_reading tag bytes (Ok items) is_list e =
    record { items = items; listed = is_list; inside = none-whole tag bytes 0 items ((reads_list bytes items).0 is_list) e }
whole_of_reading tag bytes (Err fault) is_fault e =
    let behind = (reads_fault bytes fault).0 is_fault in
    absurd (fault-some tag bytes 0 behind.0 fault behind.1 e)

-- no fault exactly where the bytes are whole
no_fault-whole : (tag : ℕ) (bytes : List ℕ) → IsNone (template_fault tag bytes) ↔ IsWholeList tag bytes
no_fault-whole tag bytes = (
  λ none. whole_of_reading tag bytes (items_of bytes) refl (is_none-none (template_fault tag bytes) none),
  λ whole. rw (whole-none tag bytes 0 whole.items ((reads_list bytes whole.items).0 whole.listed) whole.inside) refl,
)

pub whole_where_none : (result : Option TlvFault) (tag : ℕ) (bytes : List ℕ) → result ≡ template_fault tag bytes → IsNone result ↔ IsWholeList tag bytes
whole_where_none result tag bytes e =
    let P : Option TlvFault → Type 0 = λ r. IsNone r ↔ IsWholeList tag bytes in
    subst P (sym e) (no_fault-whole tag bytes)
