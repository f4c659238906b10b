-- What `walk_behind` gives at each kind of place, and that it agrees with `Spells`.
use Rattle.std.proofs.Common.{◌≡◌, ℕ, zero, suc, ◌+◌, ◌-◌, ◌<◌, ◌≤◌, Bool, true, false, if◌then◌else◌, List, length, take, Option, Some, None, Result, Ok, Err, slice_get, refl, arith, sym, ap, subst, ◌∙◌, MatchBool, IsNone, ◌↔◌}
use Rattle.std.proofs.lemmas.List.{length-take-le}
use Rattle.std.proofs.lemmas.Option.{slice_get_past, slice_get_within}
use Rattle.ber_tlv.specs.Item.{ItemData, item_at}
use Rattle.ber_tlv.specs.Items.{Zeros, HasObjectAt, NextItem, NextFault}
use Rattle.ber_tlv.specs.Tag.{names_template}
use Rattle.ber_tlv.specs.Walked.{Walked, Done, Broken, Met, then_walked, walk_by_byte, met_object, walk_from, walk_behind, walk_of, walk_inside, walk_fault, Forest, Bare, Grown, Spells, walk_of_forest}
use Rattle.ber_tlv.specs.declared.item.TlvFault.{TlvFault}
use Rattle.ber_tlv.proofs.ItemBounds.{Lies, item_at-lies, lies-length}
use Rattle.ber_tlv.proofs.Reading.{Zeros-padding, NextItem-padding, no_zeros, ends_at}

walk_by_byte-same : (byte : Option ℕ) (p q u v : Walked) → p ≡ q → u ≡ v → walk_by_byte byte p u ≡ walk_by_byte byte q v
walk_by_byte-same byte p q u v e f = cc

met_object-same : (r : Result (ItemData × ℕ) TlvFault) (f g h k : ItemData × ℕ → Walked)
    → ((found : ItemData × ℕ) → r ≡ Ok found → (f found ≡ g found) × (h found ≡ k found)) → met_object r f h ≡ met_object r g k
met_object-same (Ok found) f g h k same =
    let both = same found refl in
    let inside = both.0 in
    let behind = both.1 in
    cc
met_object-same (Err fault) f g h k same = refl

-- a larger count changes nothing
walk_from-count : (c d : ℕ) (bytes : List ℕ) (place : ℕ) → length bytes < place + c → length bytes < place + d → walk_from c bytes place ≡ walk_from d bytes place
unfolding walk_from
walk_from-count zero zero bytes place p q = refl
walk_from-count zero (suc d) bytes place p q = rw (slice_get_past bytes place (omega arith)) refl
walk_from-count (suc c) zero bytes place p q = rw (slice_get_past bytes place (omega arith)) refl
walk_from-count (suc c) (suc d) bytes place p q =
    walk_by_byte-same (slice_get bytes place) _ _ _ _
    (walk_from-count c d bytes (place + 1) (omega arith) (omega arith))
    (met_object-same (item_at bytes place) _ _ _ _ (λ found stands.
    let lies = item_at-lies bytes place found.0 found.1 stands in
    let whole = lies-length bytes place found.0 found.1 lies in
    let shorter = length-take-le found.1 bytes lies.within in (
      walk_from-count c d (take found.1 bytes) (found.1 - length found.0.value) (omega arith) (omega arith),
      walk_from-count c d bytes found.1 (omega arith) (omega arith),
    )))

walk_by_byte-begins : (byte : ℕ) (p o : Walked) → 0 < byte → walk_by_byte (Some byte) p o ≡ o
walk_by_byte-begins byte p o positive = grind arith

walk_behind-padding : (bytes : List ℕ) (place : ℕ) → slice_get bytes place ≡ Some 0 → walk_behind bytes place ≡ walk_behind bytes (place + 1)
unfolding walk_behind walk_from
walk_behind-padding bytes place padding =
    rw padding (walk_from-count (length bytes) (suc (length bytes)) bytes (place + 1) (omega arith) (omega arith))

walk_behind-zeros : (count : ℕ) (bytes : List ℕ) (place start : ℕ) → place + count ≡ start → Zeros bytes place start → walk_behind bytes place ≡ walk_behind bytes start
walk_behind-zeros zero bytes place start e zeros = ap (walk_behind bytes) (omega arith)
walk_behind-zeros (suc count) bytes place start e zeros =
    walk_behind-padding bytes place (zeros.zero place (omega arith) (omega arith))
    ∙ walk_behind-zeros count bytes (place + 1) start (omega arith)
    (record { upward = omega arith; within = zeros.within; zero = λ k from to. zeros.zero k (omega arith) to })

-- bytes 00 leave the walk behind them
zeros-walk : (bytes : List ℕ) (place start : ℕ) → Zeros bytes place start → walk_behind bytes place ≡ walk_behind bytes start
zeros-walk bytes place start zeros = walk_behind-zeros (start - place) bytes place start (omega arith) zeros

begins-walk : (bytes : List ℕ) (start : ℕ) → HasObjectAt bytes start → walk_behind bytes start
    ≡ met_object (item_at bytes start) (λ found. walk_behind (take found.1 bytes) (found.1 - length found.0.value)) (λ found. walk_behind bytes found.1)
unfolding walk_behind walk_from
begins-walk bytes start begins =
    rw begins.there (walk_by_byte-begins begins.byte _ _ begins.not_zero
    ∙ met_object-same (item_at bytes start) _ _ _ _ (λ found stands.
    let lies = item_at-lies bytes start found.0 found.1 stands in
    let whole = lies-length bytes start found.0 found.1 lies in
    let shorter = length-take-le found.1 bytes lies.within in (
      walk_from-count (length bytes) (suc (length (take found.1 bytes))) (take found.1 bytes) (found.1 - length found.0.value) (omega arith) (omega arith),
      walk_from-count (length bytes) (suc (length bytes)) bytes found.1 (omega arith) (omega arith),
    )))

-- the walk ends where only bytes 00 are left
pub walk-end : (bytes : List ℕ) (place : ℕ) → Zeros bytes place (length bytes) → walk_behind bytes place ≡ Done
unfolding walk_behind walk_from
walk-end bytes place zeros =
    zeros-walk bytes place (length bytes) zeros ∙ rw (slice_get_past bytes (length bytes) (omega arith)) refl

-- an object, what it holds, and what stands behind it
pub walk-item : (bytes : List ℕ) (place : ℕ) (item : ItemData) (next : ℕ) → NextItem bytes place item next
    → walk_behind bytes place ≡ Met item (then_walked (walk_inside bytes item next) (walk_behind bytes next))
walk-item bytes place item next step =
    zeros-walk bytes place step.start step.zeros ∙ begins-walk bytes step.start step.begins ∙ rw step.stands refl

pub walk-fault : (bytes : List ℕ) (place : ℕ) (fault : TlvFault) → NextFault bytes place fault → walk_behind bytes place ≡ Broken fault
walk-fault bytes place fault step =
    zeros-walk bytes place step.start step.zeros ∙ begins-walk bytes step.start step.begins ∙ rw step.broken refl

inside-walk : (kind : Bool) (bytes : List ℕ) (place : ℕ) (children : Forest) → (Spells bytes place children → walk_behind bytes place ≡ walk_of_forest children)
    → MatchBool kind (Spells bytes place children) (children ≡ Bare) → (if kind then walk_behind bytes place else Done) ≡ walk_of_forest children
inside-walk true bytes place children walks spells = walks spells
inside-walk false bytes place children walks bare = rw bare refl

-- objects in a row give their walk
pub Spells-walk : (bytes : List ℕ) (place : ℕ) (forest : Forest) → Spells bytes place forest → walk_behind bytes place ≡ walk_of_forest forest
Spells-walk bytes place Bare zeros = walk-end bytes place zeros
Spells-walk bytes place (Grown item children behind) (next, step, inside, rest) =
    let within : walk_inside bytes item next ≡ walk_of_forest children =
    inside-walk (names_template item.tag) (take next bytes) (next - length item.value) children (Spells-walk (take next bytes) (next - length item.value) children) inside in
    let after : walk_behind bytes next ≡ walk_of_forest behind = Spells-walk bytes next behind rest in
    walk-item bytes place item next step ∙ rw (within, after) refl

then_walked-fault : (walk behind : Walked) → walk_fault (then_walked walk behind) ≡ None → (walk_fault walk ≡ None) × (walk_fault behind ≡ None)
then_walked-fault Done behind e = (refl, e)
then_walked-fault (Broken fault) behind e = (e, cc)
then_walked-fault (Met item rest) behind e = then_walked-fault rest behind e

-- these bytes are objects in a row
abbrev Spelled : List ℕ → ℕ → Type 0
Spelled bytes place = (forest : Forest) × Spells bytes place forest

Spelled-padding : (bytes : List ℕ) (place : ℕ) → slice_get bytes place ≡ Some 0 → Spelled bytes (place + 1) → Spelled bytes place
Spelled-padding bytes place padding (Bare, zeros) = (Bare, Zeros-padding bytes place (length bytes) padding zeros)
Spelled-padding bytes place padding (Grown item children behind, (next, step, inside, rest)) =
    (Grown item children behind, (next, NextItem-padding bytes place item next padding step, inside, rest))

Spelled-inside : (kind : Bool) (bytes : List ℕ) (place : ℕ) (walk : Walked) → (walk_fault walk ≡ None → Spelled bytes place)
    → walk_fault (if kind then walk else Done) ≡ None → (children : Forest) × MatchBool kind (Spells bytes place children) (children ≡ Bare)
Spelled-inside true bytes place walk spelled e = spelled e
Spelled-inside false bytes place walk spelled e = (Bare, refl)

some_none : (fault : TlvFault) → ◌≡◌ {A = Option TlvFault} (Some fault) None → ⊥
some_none fault e = cc

Spelled-item : (bytes : List ℕ) (place : ℕ) (inside behind : ItemData × ℕ → Walked) (found : Result (ItemData × ℕ) TlvFault) → HasObjectAt bytes place → item_at bytes place ≡ found
    → ((item : ItemData) (next : ℕ) → Lies bytes place item next → walk_fault (inside (item, next)) ≡ None → Spelled (take next bytes) (next - length item.value))
    → ((item : ItemData) (next : ℕ) → Lies bytes place item next → walk_fault (behind (item, next)) ≡ None → Spelled bytes next)
    → walk_fault (met_object found inside behind) ≡ None → Spelled bytes place
Spelled-item bytes place inside behind (Ok (item, next)) begins stands spelled_inside spelled_behind e =
    let lies = item_at-lies bytes place item next stands in
    let faults = then_walked-fault (if names_template item.tag then inside (item, next) else Done) (behind (item, next)) e in
    let children = Spelled-inside (names_template item.tag) (take next bytes) (next - length item.value) (inside (item, next)) (spelled_inside item next lies) faults.0 in
    let rest = spelled_behind item next lies faults.1 in
    let within = slice_get_within bytes place begins.byte begins.there in (
      Grown item children.0 rest.0,
      (next, record { start = place; zeros = no_zeros bytes place (omega arith); begins = begins; stands = stands }, children.1, rest.1),
    )
Spelled-item bytes place inside behind (Err fault) begins broken spelled_inside spelled_behind e = absurd (some_none fault e)

Spelled-byte : (bytes : List ℕ) (place : ℕ) (byte : Option ℕ) (padding object : Walked) → place ≤ length bytes → slice_get bytes place ≡ byte
    → (slice_get bytes place ≡ Some 0 → walk_fault padding ≡ None → Spelled bytes (place + 1)) → (HasObjectAt bytes place → walk_fault object ≡ None → Spelled bytes place)
    → walk_fault (walk_by_byte byte padding object) ≡ None → Spelled bytes place
Spelled-byte bytes place None padding object within e by_padding by_object none = (Bare, ends_at bytes place within e)
Spelled-byte bytes place (Some zero) padding object within e by_padding by_object none = Spelled-padding bytes place e (by_padding e none)
Spelled-byte bytes place (Some (suc byte)) padding object within e by_padding by_object none =
    by_object (record { byte = suc byte; there = e; not_zero = omega arith })
    (rw (walk_by_byte-begins (suc byte) padding object (omega arith)) at none)

Spelled-count : (count : ℕ) (bytes : List ℕ) (place : ℕ) → place ≤ length bytes → length bytes < place + count → walk_fault (walk_from count bytes place) ≡ None → Spelled bytes place
unfolding walk_from
Spelled-count zero bytes place within enough none = absurd (omega arith)
Spelled-count (suc count) bytes place within enough none =
    Spelled-byte bytes place (slice_get bytes place) _ _ within refl
    (λ padding. let inside = slice_get_within bytes place 0 padding in Spelled-count count bytes (place + 1) (omega arith) (omega arith))
    (λ begins. Spelled-item bytes place _ _ (item_at bytes place) begins refl
    (λ item next lies.
    let whole = lies-length bytes place item next lies in
    let shorter = length-take-le next bytes lies.within in
    Spelled-count count (take next bytes) (next - length item.value) (omega arith) (omega arith))
    (λ item next lies. Spelled-count count bytes next lies.within (omega arith)))
    none

-- a walk that meets no fault is the walk of objects in a row
pub walk-spelled : (bytes : List ℕ) → walk_fault (walk_of bytes) ≡ None → (forest : Forest) × Spells bytes 0 forest
unfolding walk_behind
walk-spelled bytes none = Spelled-count (suc (length bytes)) bytes 0 (omega arith) (omega arith) none

then_walked-no_fault : (walk behind : Walked) → walk_fault walk ≡ None → walk_fault behind ≡ None → walk_fault (then_walked walk behind) ≡ None
then_walked-no_fault Done behind e f = f
then_walked-no_fault (Broken fault) behind e f = e
then_walked-no_fault (Met item rest) behind e f = then_walked-no_fault rest behind e f

walk_of_forest-fault : (forest : Forest) → walk_fault (walk_of_forest forest) ≡ None
walk_of_forest-fault Bare = refl
walk_of_forest-fault (Grown item children behind) =
    then_walked-no_fault (walk_of_forest children) (walk_of_forest behind) (walk_of_forest-fault children) (walk_of_forest-fault behind)

pub spelled-walk : (bytes : List ℕ) (forest : Forest) → Spells bytes 0 forest → walk_fault (walk_of bytes) ≡ None
spelled-walk bytes forest spells = ap walk_fault (Spells-walk bytes 0 forest spells) ∙ walk_of_forest-fault forest

-- a fault of the first walk is the fault of both
pub fault_of_first : (walk behind : Walked) (fault : TlvFault) → walk_fault walk ≡ Some fault → walk_fault (then_walked walk behind) ≡ Some fault
fault_of_first Done behind fault e = absurd (some_none fault (sym e))
fault_of_first (Broken broken) behind fault e = e
fault_of_first (Met item rest) behind fault e = fault_of_first rest behind fault e

pub fault_of_second : (walk behind : Walked) → walk_fault walk ≡ None → walk_fault (then_walked walk behind) ≡ walk_fault behind
fault_of_second Done behind e = refl
fault_of_second (Broken fault) behind e = absurd (some_none fault e)
fault_of_second (Met item rest) behind e = fault_of_second rest behind e

is_none : (fault : Option TlvFault) → IsNone fault → fault ≡ None
is_none None none = refl
is_none (Some fault) none = cc

none_is : (fault : Option TlvFault) → fault ≡ None → IsNone fault
none_is fault e = let P : Option TlvFault → Type 0 = λ o. IsNone o in subst P (sym e) refl

-- a walk meets no fault exactly where the bytes are objects in a row
pub no_fault-spelled : (bytes : List ℕ) → IsNone (walk_fault (walk_of bytes)) ↔ ((forest : Forest) × Spells bytes 0 forest)
no_fault-spelled bytes = (
  λ none. walk-spelled bytes (is_none (walk_fault (walk_of bytes)) none),
  λ (forest, spells). none_is (walk_fault (walk_of bytes)) (spelled-walk bytes forest spells),
)
