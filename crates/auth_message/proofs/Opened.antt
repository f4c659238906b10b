-- The items of a message's value, from the step that gave its outer item.
use Rattle.std.proofs.Common.{◌≡◌, ℕ, ◌+◌, ◌-◌, true, false, List, [], ◌∷◌, length, take, Option, Some, None, Result, Ok, Err, refl, sym, ap, subst, ◌∙◌, inl, inr, zero, suc, IfSome}
use Rattle.std.specs.Prelude.{nat_le, slice_range, ◌==◌, unwrap_or}
use Rattle.std.specs.List.{list_any}
use Rattle.ber_tlv.specs.Item.{ItemData, item_at, tag_at, length_at, value_at}
use Rattle.ber_tlv.specs.Items.{NextItem, NextFault}
use Rattle.ber_tlv.specs.Left.{items_behind, items_of, fault_of, then_left}
use Rattle.ber_tlv.specs.FaultPlace.{place_of_fault}
use Rattle.ber_tlv.specs.Walked.{Walked, walk_of}
use Rattle.ber_tlv.specs.declared.item.TlvFault.{TlvFault}
use Rattle.ber_tlv.specs.declared.item.Item.{Item}
use Rattle.ber_tlv.specs.Seen.{seen}
use Rattle.ber_tlv.proofs.ItemBounds.{step-ok, chosen-ok}
use Rattle.ber_tlv.proofs.Reading.{left-fault}
use Rattle.ber_tlv.proofs.Walking.{walk-item, walk-fault}
use Rattle.auth_message.specs.declared.fault.MessageFault.TheVariants.{Coding}
use Rattle.auth_message.specs.Outer.{items_held, items_within, first_met, fault_in, outer_of, outer_among, outer_within}

value_start : (bytes : List ℕ) (start tag place count : ℕ) (item : ItemData) (next : ℕ) → value_at bytes start tag place count ≡ Ok (item, next) → item.start ≡ start
unfolding value_at
value_start bytes start tag place count item next e =
    elim (chosen-ok (nat_le (place + count) (length bytes)) _ _ _ e) [
      | inl (fits, stands) ↦
          let pair : ◌≡◌ {A = ItemData × ℕ} (record { tag = tag; value = slice_range bytes place (place + count); start = start }, place + count) (item, next) = cc stands in
          sym (ap (λ (p : ItemData × ℕ). p.0.start) pair)
      | inr cut ↦ cc
    ]

pub start_of : (bytes : List ℕ) (start : ℕ) (item : ItemData) (next : ℕ) → item_at bytes start ≡ Ok (item, next) → item.start ≡ start
unfolding item_at
start_of bytes start item next stands =
    let tag = step-ok (tag_at bytes start) _ _ stands in
    let count = step-ok (length_at bytes start tag.0.1) _ _ tag.2 in
    value_start bytes start tag.0.0 count.0.1 count.0.0 item next count.2

pub held_is : (bytes : List ℕ) (place : ℕ) (item : ItemData) (next : ℕ) → NextItem bytes place item next → items_held bytes item ≡ items_behind (take next bytes) (next - length item.value)
held_is bytes place item next step =
    ap (λ s. items_within bytes (item_at bytes s)) (start_of bytes step.start item next step.stands) ∙ ap (items_within bytes) step.stands

-- the first item of the message, and what is left behind it
pub record First (bytes : List ℕ) (item : ItemData) (next : ℕ) : Type 0 where
  pub step : NextItem bytes 0 item next
  pub left : then_left item (items_behind bytes next) ≡ items_of bytes

pub first_is : (b b2 bytes : List ℕ) (p : ℕ) (item : ItemData) (next : ℕ) → b ≡ bytes → p ≡ 0 → b2 ≡ b → NextItem b p item next → then_left item (items_behind b2 next) ≡ items_behind b p → First bytes item next
first_is b b2 bytes p item next same first same2 step left = record {
  step = subst (λ x. NextItem bytes x item next) first (subst (λ x. NextItem x p item next) same step);
  left = ap (λ x. then_left item (items_behind x next)) (sym (same2 ∙ same)) ∙ left ∙ ap (λ x. items_behind x p) same ∙ ap (items_behind bytes) first;
}

-- the items of its value
pub inside_is : (b2 bytes inside : List ℕ) (place next count : ℕ) → b2 ≡ bytes → inside ≡ take next b2 → place ≡ next - count → items_behind inside place ≡ items_behind (take next bytes) (next - count)
inside_is b2 bytes inside place next count same cut at = ap (λ x. items_behind x place) (cut ∙ ap (take next) same) ∙ ap (items_behind (take next bytes)) at

-- the fault in the first item, whose value's items are these
fault_first : (bytes : List ℕ) (item : ItemData) (next : ℕ) (r : Result (List ItemData) TlvFault) → First bytes item next → items_behind (take next bytes) (next - length item.value) ≡ r
    → fault_in bytes (first_met (walk_of bytes)) ≡ fault_of r
fault_first bytes item next r first inside =
    ap (λ (w : Walked). fault_in bytes (first_met w)) (walk-item bytes 0 item next first.step) ∙ ap fault_of (held_is bytes 0 item next first.step ∙ inside)

found_first : (known bytes : List ℕ) (item : ItemData) (next : ℕ) (others : List ItemData) (r : Result (List ItemData) TlvFault) → First bytes item next → items_behind bytes next ≡ Ok others
    → items_behind (take next bytes) (next - length item.value) ≡ r → outer_of known bytes ≡ outer_within known item others r
found_first known bytes item next others r first rest inside =
    ap (outer_among known bytes (fault_in bytes (first_met (walk_of bytes)))) (sym first.left ∙ ap (then_left item) rest) ∙ ap (outer_within known item others) (held_is bytes 0 item next first.step ∙ inside)

-- the same where a fault stands behind the first item
broken_behind : (known bytes : List ℕ) (item : ItemData) (next : ℕ) (fault : TlvFault) (r : Result (List ItemData) TlvFault) → First bytes item next → items_behind bytes next ≡ Err fault
    → items_behind (take next bytes) (next - length item.value) ≡ r → outer_of known bytes ≡ Err (Coding (place_of_fault (unwrap_or (fault_of r) fault)))
broken_behind known bytes item next fault r first rest inside =
    ap (outer_among known bytes (fault_in bytes (first_met (walk_of bytes)))) (sym first.left ∙ ap (then_left item) rest)
    ∙ ap (λ f. Err (Coding (place_of_fault (unwrap_or f fault)))) (fault_first bytes item next r first inside)

-- where the message has no fault, what is left has none
others_of : (item : ItemData) (r : Result (List ItemData) TlvFault) → None ≡ fault_of (then_left item r) → (others : List ItemData) × (r ≡ Ok others)
others_of item (Ok others) h = (others, refl)
others_of item (Err fault) h = absurd cc

whole_rest : (bytes : List ℕ) (item : ItemData) (next : ℕ) → First bytes item next → None ≡ fault_of (items_of bytes) → (others : List ItemData) × (items_behind bytes next ≡ Ok others)
whole_rest bytes item next first whole = others_of item (items_behind bytes next) (whole ∙ ap fault_of (sym first.left))

fault_is : (r : Result (List ItemData) TlvFault) (fault : TlvFault) → Some fault ≡ fault_of r → r ≡ Err fault
fault_is (Ok items) fault h = absurd cc
fault_is (Err other) fault h = let same : other ≡ fault = cc in ap (λ f. Err f) same

items_are : (r : Result (List ItemData) TlvFault) → None ≡ fault_of r → (items : List ItemData) × (r ≡ Ok items)
items_are (Ok items) h = (items, refl)
items_are (Err fault) h = absurd cc

-- no item stands at the front of the message
pub first_fault_is : (known bytes : List ℕ) (place : ℕ) (fault : TlvFault) → NextFault bytes 0 fault → place ≡ place_of_fault fault → outer_of known bytes ≡ Err (Coding place)
first_fault_is known bytes place fault broken at =
    ap (λ (w : Walked). outer_among known bytes (fault_in bytes (first_met w)) (items_of bytes)) (walk-fault bytes 0 fault broken)
    ∙ ap (outer_among known bytes None) (left-fault bytes 0 fault broken) ∙ ap (λ n. Err (Coding n)) (sym at)

-- a fault among the items of its value
pub value_fault : (known bytes : List ℕ) (item : ItemData) (next place : ℕ) (fault : TlvFault) → First bytes item next
    → Some fault ≡ fault_of (items_behind (take next bytes) (next - length item.value)) → place ≡ place_of_fault fault → outer_of known bytes ≡ Err (Coding place)
value_fault known bytes item next place fault first broken at = by (items_behind bytes next) refl
  where
    inside : items_behind (take next bytes) (next - length item.value) ≡ Err fault
    inside = fault_is _ fault broken

    by : (r : Result (List ItemData) TlvFault) → items_behind bytes next ≡ r → outer_of known bytes ≡ Err (Coding place)
    by (Ok others) rest = found_first known bytes item next others (Err fault) first rest inside ∙ ap (λ n. Err (Coding n)) (sym at)
    by (Err other) rest = broken_behind known bytes item next other (Err fault) first rest inside ∙ ap (λ n. Err (Coding n)) (sym at)

-- a fault behind the first item, whose value has none
pub fault_after : (known bytes : List ℕ) (item : ItemData) (next place : ℕ) (fault : TlvFault) → First bytes item next → Some fault ≡ fault_of (items_of bytes)
    → None ≡ fault_of (items_behind (take next bytes) (next - length item.value)) → place ≡ place_of_fault fault → outer_of known bytes ≡ Err (Coding place)
fault_after known bytes item next place fault first broken good at =
    let inside = items_are _ good in
    ap (λ (f : Option TlvFault). outer_among known bytes f (items_of bytes)) (fault_first bytes item next (Ok inside.0) first inside.1)
    ∙ ap (outer_among known bytes None) (fault_is _ fault broken) ∙ ap (λ n. Err (Coding n)) (sym at)

pub unknown_tag : (known bytes : List ℕ) (item : ItemData) (next : ℕ) → First bytes item next → None ≡ fault_of (items_of bytes)
    → None ≡ fault_of (items_behind (take next bytes) (next - length item.value)) → list_any (λ tag. tag == item.tag) known ≡ false → outer_of known bytes ≡ Err (Coding item.start)
unknown_tag known bytes item next first whole good unknown =
    let rest = whole_rest bytes item next first whole in
    let inside = items_are _ good in
    found_first known bytes item next rest.0 (Ok inside.0) first rest.1 inside.1 ∙ rw unknown refl

pub second_item : (known bytes : List ℕ) (item other : ItemData) (next : ℕ) (r : Result (List ItemData) TlvFault) → First bytes item next → None ≡ fault_of (items_of bytes)
    → then_left other r ≡ items_behind bytes next
    → None ≡ fault_of (items_behind (take next bytes) (next - length item.value)) → list_any (λ tag. tag == item.tag) known ≡ true → outer_of known bytes ≡ Err (Coding other.start)
second_item known bytes item other next r first whole more good is_known =
    let rest = whole_rest bytes item next first whole in
    let inside = items_are _ good in
    let behind = others_of other r (ap (λ x. fault_of x) (sym (more ∙ rest.1))) in
    let others : Ok rest.0 ≡ Ok (other ∷ behind.0) = sym rest.1 ∙ sym more ∙ ap (then_left other) behind.1 in
    found_first known bytes item next (other ∷ behind.0) (Ok inside.0) first (rest.1 ∙ others) inside.1 ∙ rw is_known refl

pub alone_item : (known bytes : List ℕ) (item : ItemData) (next : ℕ) (items : List ItemData) → First bytes item next → Ok [] ≡ items_behind bytes next
    → items_behind (take next bytes) (next - length item.value) ≡ Ok items → list_any (λ tag. tag == item.tag) known ≡ true → outer_of known bytes ≡ Ok (item.tag, items)
alone_item known bytes item next items first end inside is_known =
    found_first known bytes item next [] (Ok items) first (sym end) inside ∙ rw is_known refl

-- the item of a step stands at its own start
pub stands_at : (bytes again : List ℕ) (place : ℕ) (item : ItemData) (next : ℕ) → again ≡ bytes → NextItem bytes place item next → item_at again item.start ≡ Ok (item, next)
stands_at bytes again place item next same step =
    ap (λ b. item_at b item.start) same ∙ ap (item_at bytes) (start_of bytes step.start item next step.stands) ∙ step.stands

-- the same where there is an item
pub some_stands : (found : Option Item) (bytes again : List ℕ) (place next : ℕ) → again ≡ bytes → IfSome found (λ item. NextItem bytes place (seen item) next)
    → IfSome found (λ item. item_at again item.start ≡ Ok (seen item, next))
some_stands None bytes again place next same step = tt
some_stands (Some item) bytes again place next same step = stands_at bytes again place (seen item) next same step

take_self : (count : ℕ) (bytes : List ℕ) → take count bytes ≡ take (length (take count bytes)) bytes
take_self zero bytes = refl
take_self (suc count) [] = refl
take_self (suc count) (byte ∷ bytes) = ap (λ b. byte ∷ b) (take_self count bytes)

-- so many first bytes are as many as there are
pub front_of : (whole bytes again : List ℕ) (count : ℕ) → bytes ≡ take count again → again ≡ whole → bytes ≡ take (length bytes) whole
front_of whole bytes again count cut same =
    let first : bytes ≡ take count whole = cut ∙ ap (take count) same in
    first ∙ take_self count whole ∙ ap (λ (b : List ℕ). take (length b) whole) (sym first)
