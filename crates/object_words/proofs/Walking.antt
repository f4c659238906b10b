-- The objects before the first fault, one by one.
use Rattle.std.proofs.Common.{◌≡◌, ℕ, zero, suc, ◌+◌, ◌-◌, ◌<◌, List, [], ◌∷◌, length, Option, Some, None, Result, Ok, Err, slice_get, IfSome, IfNone, refl, arith, sym, ap, ◌∙◌}
use Rattle.std.proofs.lemmas.Option.{slice_get_past}
use Rattle.ber_tlv.specs.Item.{ItemData, item_at}
use Rattle.ber_tlv.specs.Items.{Zeros, HasObjectAt, NextItem, NextFault}
use Rattle.ber_tlv.specs.declared.item.TlvFault.{TlvFault}
use Rattle.ber_tlv.proofs.ItemBounds.{item_at-lies}
use Rattle.ber_tlv.specs.Seen.{seen}
use Rattle.ber_tlv.specs.declared.item.Item.{Item}
use Rattle.object_words.specs.Leading.{then_leading, with_item, items_by_byte, leading_from, leading_behind}

with_item-same : (found : Result (ItemData × ℕ) TlvFault) (f g : ℕ → List ItemData) → ((a : ItemData × ℕ) → found ≡ Ok a → f a.1 ≡ g a.1) → with_item found f ≡ with_item found g
with_item-same (Ok found) f g same = ap (λ (items : List ItemData). found.0 ∷ items) (same found refl)
with_item-same (Err fault) f g same = refl

items_by_byte-same : (byte : Option ℕ) (p q u v : List ItemData) → p ≡ q → u ≡ v → items_by_byte byte p u ≡ items_by_byte byte q v
items_by_byte-same byte p q u v e f = cc

-- a larger count changes nothing
leading_from-count : (c d : ℕ) (bytes : List ℕ) (place : ℕ) → length bytes < place + c → length bytes < place + d → leading_from c bytes place ≡ leading_from d bytes place
unfolding leading_from
leading_from-count zero zero bytes place p q = refl
leading_from-count zero (suc d) bytes place p q = rw (slice_get_past bytes place (omega arith)) refl
leading_from-count (suc c) zero bytes place p q = rw (slice_get_past bytes place (omega arith)) refl
leading_from-count (suc c) (suc d) bytes place p q =
    items_by_byte-same (slice_get bytes place) _ _ _ _
    (leading_from-count c d bytes (place + 1) (omega arith) (omega arith))
    (with_item-same (item_at bytes place) _ _ (λ found stands.
    let lies = item_at-lies bytes place found.0 found.1 stands in
    leading_from-count c d bytes found.1 (omega arith) (omega arith)))

items_by_byte-begins : (byte : ℕ) (p o : List ItemData) → 0 < byte → items_by_byte (Some byte) p o ≡ o
items_by_byte-begins byte p o positive = grind arith

leading_behind-padding : (bytes : List ℕ) (place : ℕ) → slice_get bytes place ≡ Some 0 → leading_behind bytes place ≡ leading_behind bytes (place + 1)
unfolding leading_behind leading_from
leading_behind-padding bytes place padding =
    rw padding (leading_from-count (length bytes) (suc (length bytes)) bytes (place + 1) (omega arith) (omega arith))

leading_behind-zeros : (count : ℕ) (bytes : List ℕ) (place start : ℕ) → place + count ≡ start → Zeros bytes place start → leading_behind bytes place ≡ leading_behind bytes start
leading_behind-zeros zero bytes place start e zeros = ap (leading_behind bytes) (omega arith)
leading_behind-zeros (suc count) bytes place start e zeros =
    leading_behind-padding bytes place (zeros.zero place (omega arith) (omega arith))
    ∙ leading_behind-zeros count bytes (place + 1) start (omega arith)
    (record { upward = omega arith; within = zeros.within; zero = λ k from to. zeros.zero k (omega arith) to })

-- bytes 00 leave what stands behind them
behind-zeros : (bytes : List ℕ) (place start : ℕ) → Zeros bytes place start → leading_behind bytes place ≡ leading_behind bytes start
behind-zeros bytes place start zeros = leading_behind-zeros (start - place) bytes place start (omega arith) zeros

behind-begins : (bytes : List ℕ) (start : ℕ) → HasObjectAt bytes start → leading_behind bytes start ≡ with_item (item_at bytes start) (leading_behind bytes)
unfolding leading_behind leading_from
behind-begins bytes start begins =
    rw begins.there (items_by_byte-begins begins.byte _ _ begins.not_zero
    ∙ with_item-same (item_at bytes start) _ _ (λ found stands.
    let lies = item_at-lies bytes start found.0 found.1 stands in
    leading_from-count (length bytes) (suc (length bytes)) bytes found.1 (omega arith) (omega arith)))

-- nothing is left where only bytes 00 are
pub leading-end : (bytes : List ℕ) (place : ℕ) → Zeros bytes place (length bytes) → leading_behind bytes place ≡ []
unfolding leading_behind leading_from
leading-end bytes place zeros =
    behind-zeros bytes place (length bytes) zeros ∙ rw (slice_get_past bytes (length bytes) (omega arith)) refl

-- an object, and what is left behind it
pub leading-item : (bytes : List ℕ) (place : ℕ) (item : ItemData) (next : ℕ) → NextItem bytes place item next → leading_behind bytes place ≡ item ∷ leading_behind bytes next
leading-item bytes place item next step =
    behind-zeros bytes place step.start step.zeros ∙ behind-begins bytes step.start step.begins ∙ rw step.stands refl

-- nothing is met behind a fault
pub leading-fault : (bytes : List ℕ) (place : ℕ) (fault : TlvFault) → NextFault bytes place fault → leading_behind bytes place ≡ []
leading-fault bytes place fault step =
    behind-zeros bytes place step.start step.zeros ∙ behind-begins bytes step.start step.begins ∙ rw step.broken refl

-- what a step gave, with the objects behind it
pub after-step : (old new : List ℕ) (place next : ℕ) (found : Option Item) → new ≡ old → IfSome found (λ item. NextItem old place (seen item) next) → IfNone found (Zeros old place (length old))
    → then_leading found (leading_behind new next) ≡ leading_behind old place
after-step old new place next None same some none = sym (leading-end old place none)
after-step old new place next (Some item) same some none =
    ap (λ (bytes : List ℕ). seen item ∷ leading_behind bytes next) same ∙ sym (leading-item old place (seen item) next some)
