-- Each byte string is either a list of objects or has a fault: what `items_behind` gives at each
-- kind of place, and that it agrees with `Items` and `FaultBehind`.
use Rattle.std.proofs.Common.{◌≡◌, ℕ, zero, suc, ◌+◌, ◌-◌, ◌<◌, ◌≤◌, List, [], ◌∷◌, length, Option, Some, None, Result, Ok, Err, slice_get, refl, arith, sym, ap, ◌∙◌, inl, inr, subst, ◌↔◌}
use Rattle.std.proofs.Math.Nat.{eq-or-lt_of_le}
use Rattle.std.proofs.lemmas.Option.{slice_get_past, slice_get_within, slice_get_cases}
use Rattle.ber_tlv.specs.Item.{ItemData, ◌>>=◌, item_at}
use Rattle.ber_tlv.specs.Items.{Zeros, HasObjectAt, NextItem, NextFault, Items, FaultBehind}
use Rattle.ber_tlv.specs.Left.{then_left, by_byte, items_from, items_behind, items_of}
use Rattle.ber_tlv.specs.declared.item.TlvFault.{TlvFault}
use Rattle.ber_tlv.proofs.ItemBounds.{item_at-lies}

step-same : {A B : Type 0} (r : Result A TlvFault) (f g : A → Result B TlvFault) → ((a : A) → r ≡ Ok a → f a ≡ g a) → (r >>= f) ≡ (r >>= g)
step-same (Ok a) f g same = same a refl
step-same (Err fault) f g same = refl

by_byte-same : (byte : Option ℕ) (p q u v : Result (List ItemData) TlvFault) → p ≡ q → u ≡ v → by_byte byte p u ≡ by_byte byte q v
by_byte-same byte p q u v e f = cc

-- a larger count changes nothing
items_from-count : (c d : ℕ) (bytes : List ℕ) (place : ℕ) → length bytes < place + c → length bytes < place + d → items_from c bytes place ≡ items_from d bytes place
unfolding items_from
items_from-count zero zero bytes place p q = refl
items_from-count zero (suc d) bytes place p q = rw (slice_get_past bytes place (omega arith)) refl
items_from-count (suc c) zero bytes place p q = rw (slice_get_past bytes place (omega arith)) refl
items_from-count (suc c) (suc d) bytes place p q =
    by_byte-same (slice_get bytes place) _ _ _ _
    (items_from-count c d bytes (place + 1) (omega arith) (omega arith))
    (step-same (item_at bytes place) _ _ (λ found stands.
    let lies = item_at-lies bytes place found.0 found.1 stands in
    ap (then_left found.0) (items_from-count c d bytes found.1 (omega arith) (omega arith))))

by_byte-begins : (byte : ℕ) (p o : Result (List ItemData) TlvFault) → 0 < byte → by_byte (Some byte) p o ≡ o
by_byte-begins byte p o positive = grind arith

items_behind-padding : (bytes : List ℕ) (place : ℕ) → slice_get bytes place ≡ Some 0 → items_behind bytes place ≡ items_behind bytes (place + 1)
unfolding items_behind items_from
items_behind-padding bytes place padding =
    rw padding (items_from-count (length bytes) (suc (length bytes)) bytes (place + 1) (omega arith) (omega arith))

items_behind-zeros : (count : ℕ) (bytes : List ℕ) (place start : ℕ) → place + count ≡ start → Zeros bytes place start → items_behind bytes place ≡ items_behind bytes start
items_behind-zeros zero bytes place start e zeros = ap (items_behind bytes) (omega arith)
items_behind-zeros (suc count) bytes place start e zeros =
    items_behind-padding bytes place (zeros.zero place (omega arith) (omega arith))
    ∙ items_behind-zeros count bytes (place + 1) start (omega arith)
    (record { upward = omega arith; within = zeros.within; zero = λ k from to. zeros.zero k (omega arith) to })

-- bytes 00 leave what stands behind them
zeros-left : (bytes : List ℕ) (place start : ℕ) → Zeros bytes place start → items_behind bytes place ≡ items_behind bytes start
zeros-left bytes place start zeros = items_behind-zeros (start - place) bytes place start (omega arith) zeros

begins-left : (bytes : List ℕ) (start : ℕ) → HasObjectAt bytes start → items_behind bytes start ≡ (item_at bytes start >>= (λ found. then_left found.0 (items_behind bytes found.1)))
unfolding items_behind items_from
begins-left bytes start begins =
    rw begins.there (by_byte-begins begins.byte _ _ begins.not_zero
    ∙ step-same (item_at bytes start) _ _ (λ found stands.
    let lies = item_at-lies bytes start found.0 found.1 stands in
    ap (then_left found.0) (items_from-count (length bytes) (suc (length bytes)) bytes found.1 (omega arith) (omega arith))))

-- nothing is left where only bytes 00 are
pub left-end : (bytes : List ℕ) (place : ℕ) → Zeros bytes place (length bytes) → items_behind bytes place ≡ Ok []
unfolding items_behind items_from
left-end bytes place zeros =
    zeros-left bytes place (length bytes) zeros ∙ rw (slice_get_past bytes (length bytes) (omega arith)) refl

-- an object, and what is left behind it
pub left-item : (bytes : List ℕ) (place : ℕ) (item : ItemData) (next : ℕ) → NextItem bytes place item next → items_behind bytes place ≡ then_left item (items_behind bytes next)
left-item bytes place item next step =
    zeros-left bytes place step.start step.zeros ∙ begins-left bytes step.start step.begins ∙ rw step.stands refl

pub left-fault : (bytes : List ℕ) (place : ℕ) (fault : TlvFault) → NextFault bytes place fault → items_behind bytes place ≡ Err fault
left-fault bytes place fault step =
    zeros-left bytes place step.start step.zeros ∙ begins-left bytes step.start step.begins ∙ rw step.broken refl

-- a list of objects is what `items_behind` gives
pub Items-left : (bytes : List ℕ) (place : ℕ) (items : List ItemData) → Items bytes place items → items_behind bytes place ≡ Ok items
Items-left bytes place [] zeros = left-end bytes place zeros
Items-left bytes place (item ∷ items) (next, step, rest) =
    left-item bytes place item next step ∙ ap (then_left item) (Items-left bytes next items rest)

pub FaultBehind-left : (bytes : List ℕ) (place : ℕ) (items : List ItemData) (fault : TlvFault) → FaultBehind bytes place items fault → items_behind bytes place ≡ Err fault
FaultBehind-left bytes place [] fault broken = left-fault bytes place fault broken
FaultBehind-left bytes place (item ∷ items) fault (next, step, rest) =
    left-item bytes place item next step ∙ ap (then_left item) (FaultBehind-left bytes next items fault rest)

-- what a reading says of the bytes from a place on
abbrev pub Reads : List ℕ → ℕ → Result (List ItemData) TlvFault → Type 0
Reads bytes place (Ok items) = Items bytes place items
Reads bytes place (Err fault) = (items : List ItemData) × FaultBehind bytes place items fault

pub Zeros-padding : (bytes : List ℕ) (place start : ℕ) → slice_get bytes place ≡ Some 0 → Zeros bytes (place + 1) start → Zeros bytes place start
Zeros-padding bytes place start padding zeros =
    record {
      upward = omega (arith, zeros.upward);
      within = zeros.within;
      zero = λ k from to.
          elim (eq-or-lt_of_le from) [
            | inl here ↦ ap (slice_get bytes) (sym here) ∙ padding
            | inr behind ↦ zeros.zero k (omega arith) to
          ];
    }

pub NextItem-padding : (bytes : List ℕ) (place : ℕ) (item : ItemData) (next : ℕ) → slice_get bytes place ≡ Some 0 → NextItem bytes (place + 1) item next → NextItem bytes place item next
NextItem-padding bytes place item next padding step =
    record { start = step.start; zeros = Zeros-padding bytes place step.start padding step.zeros; begins = step.begins; stands = step.stands }

Reads-padding : (bytes : List ℕ) (place : ℕ) (reading : Result (List ItemData) TlvFault) → slice_get bytes place ≡ Some 0 → Reads bytes (place + 1) reading → Reads bytes place reading
Reads-padding bytes place (Ok []) padding zeros = Zeros-padding bytes place (length bytes) padding zeros
Reads-padding bytes place (Ok (item ∷ items)) padding (next, step, rest) = (next, NextItem-padding bytes place item next padding step, rest)
Reads-padding bytes place (Err fault) padding ([], step) =
    ([], record { start = step.start; zeros = Zeros-padding bytes place step.start padding step.zeros; begins = step.begins; broken = step.broken })
Reads-padding bytes place (Err fault) padding (item ∷ items, (next, step, rest)) =
    (item ∷ items, (next, NextItem-padding bytes place item next padding step, rest))

pub no_zeros : (bytes : List ℕ) (place : ℕ) → place ≤ length bytes → Zeros bytes place place
no_zeros bytes place within = record { upward = omega arith; within = within; zero = λ k from to. absurd (omega arith) }

Reads-item : (bytes : List ℕ) (place : ℕ) (item : ItemData) (next : ℕ) (rest : Result (List ItemData) TlvFault) → NextItem bytes place item next → Reads bytes next rest → Reads bytes place (then_left item rest)
Reads-item bytes place item next (Ok items) step reads = (next, step, reads)
Reads-item bytes place item next (Err fault) step (items, reads) = (item ∷ items, (next, step, reads))

Reads-start : (bytes : List ℕ) (place : ℕ) (rest : ℕ → Result (List ItemData) TlvFault) (found : Result (ItemData × ℕ) TlvFault) → HasObjectAt bytes place → item_at bytes place ≡ found → ((next : ℕ) → place < next → next ≤ length bytes → Reads bytes next (rest next)) → Reads bytes place (found >>= (λ found. then_left found.0 (rest found.1)))
Reads-start bytes place rest (Ok (item, next)) begins stands all =
    let lies = item_at-lies bytes place item next stands in
    let within = slice_get_within bytes place begins.byte begins.there in
    Reads-item bytes place item next (rest next)
    (record { start = place; zeros = no_zeros bytes place (omega arith); begins = begins; stands = stands })
    (all next (omega arith) lies.within)
Reads-start bytes place rest (Err fault) begins broken all =
    let within = slice_get_within bytes place begins.byte begins.there in
    ([], record { start = place; zeros = no_zeros bytes place (omega arith); begins = begins; broken = broken })

none_some : (byte : ℕ) → ◌≡◌ {A = Option ℕ} None (Some byte) → ⊥
none_some byte e = cc

-- where no byte stands, the string ends
pub ends_at : (bytes : List ℕ) (place : ℕ) → place ≤ length bytes → slice_get bytes place ≡ None → Zeros bytes place (length bytes)
ends_at bytes place within e =
    elim (slice_get_cases bytes place).1 [
      | inl (byte, inside, there, _) ↦ absurd (none_some byte (sym e ∙ there))
      | inr (past, _) ↦ record { upward = within; within = omega arith; zero = λ k from to. absurd (omega arith) }
    ]

Reads-byte : (bytes : List ℕ) (place : ℕ) (byte : Option ℕ) (padding object : Result (List ItemData) TlvFault) → place ≤ length bytes → slice_get bytes place ≡ byte
    → (slice_get bytes place ≡ Some 0 → Reads bytes (place + 1) padding) → (HasObjectAt bytes place → Reads bytes place object) → Reads bytes place (by_byte byte padding object)
Reads-byte bytes place None padding object within e by_padding by_object =
    ends_at bytes place within e
Reads-byte bytes place (Some zero) padding object within e by_padding by_object = Reads-padding bytes place padding e (by_padding e)
Reads-byte bytes place (Some (suc byte)) padding object within e by_padding by_object =
    rw (by_byte-begins (suc byte) padding object (omega arith))
    (by_object (record { byte = suc byte; there = e; not_zero = omega arith }))

Reads-count : (count : ℕ) (bytes : List ℕ) (place : ℕ) → place ≤ length bytes → length bytes < place + count → Reads bytes place (items_from count bytes place)
unfolding items_from
Reads-count zero bytes place within enough = absurd (omega arith)
Reads-count (suc count) bytes place within enough =
    Reads-byte bytes place (slice_get bytes place) _ _ within refl
    (λ padding. let inside = slice_get_within bytes place 0 padding in Reads-count count bytes (place + 1) (omega arith) (omega arith))
    (λ begins. Reads-start bytes place (items_from count bytes) (item_at bytes place) begins refl
    (λ next onward inside. Reads-count count bytes next inside (omega arith)))

-- what `items_behind` gives is a list of objects, or the fault behind some
pub left-Reads : (bytes : List ℕ) (place : ℕ) → place ≤ length bytes → Reads bytes place (items_behind bytes place)
unfolding items_behind
left-Reads bytes place within = Reads-count (suc (length bytes)) bytes place within (omega arith)

Reads-at : (bytes : List ℕ) (reading : Result (List ItemData) TlvFault) → items_of bytes ≡ reading → Reads bytes 0 reading
Reads-at bytes reading e =
    let P : Result (List ItemData) TlvFault → Type 0 = λ r. Reads bytes 0 r in
    subst P e (left-Reads bytes 0 (omega arith))

pub reads_list : (bytes : List ℕ) (items : List ItemData) → (items_of bytes ≡ Ok items) ↔ Items bytes 0 items
reads_list bytes items = (λ e. Reads-at bytes (Ok items) e, Items-left bytes 0 items)

pub reads_fault : (bytes : List ℕ) (fault : TlvFault) → (items_of bytes ≡ Err fault) ↔ ((items : List ItemData) × FaultBehind bytes 0 items fault)
reads_fault bytes fault = (λ e. Reads-at bytes (Err fault) e, λ (items, behind). FaultBehind-left bytes 0 items fault behind)
