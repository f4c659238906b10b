-- An item of a byte string, read in a part of the string that holds the whole item.
use Rattle.std.proofs.Common.{◌≡◌, refl, sym, ap, ◌∙◌, ◌⊎◌, inl, inr, ℕ, ◌+◌, ◌-◌, ◌*◌, ◌%◌, ◌<◌, ◌≤◌, ◌==◌, nat_lt, nat_le, Bool, true, false, if◌then◌else◌, List, length, Option, Some, None, Result, Ok, slice_get, slice_range, arith}
use Rattle.std.proofs.lemmas.Bool.{le-leb}
use Rattle.std.proofs.lemmas.Option.{slice_get_cases}
use Rattle.auth_message.proofs.Inside.{Inside}
use Rattle.ber_tlv.proofs.ItemBounds.{step-ok, tag_at-onward}
use Rattle.ber_tlv.proofs.ReadAgain.{item_of_parts}
use Rattle.ber_tlv.specs.Item.{ItemData, or_cut, byte_at, tag_at, second_tag_byte, third_tag_byte, length_at, long_length, one_byte_length, two_byte_length, value_at, item_at}
use Rattle.ber_tlv.specs.declared.item.TlvFault.{TlvFault}

chosen : {A : Type 0} (test : Bool) (x y : Result A TlvFault) (a : A) → (if test then x else y) ≡ Ok a → ((test ≡ true) × (x ≡ Ok a)) ⊎ ((test ≡ false) × (y ≡ Ok a))
chosen true x y a e = inl (refl, e)
chosen false x y a e = inr (refl, e)

byte_stands : (start byte : ℕ) (found : Option ℕ) → or_cut start found ≡ Ok byte → found ≡ Some byte
byte_stands start byte (Some other) e = let same : other ≡ byte = cc in ap Some same
byte_stands start byte None e = cc

-- a byte of the string stands in the part, where the part goes so far
pub byte_in : (bytes whole : List ℕ) (front place at byte : ℕ) → Inside bytes whole front → at ≡ front + place → place < length bytes → slice_get whole at ≡ Some byte
    → slice_get bytes place ≡ Some byte
byte_in bytes whole front place at byte inside is within stands =
    elim (slice_get_cases bytes place).1 [
      | inl (found, _, there, _) ↦ there ∙ sym (inside.get place found there) ∙ ap (slice_get whole) (sym is) ∙ stands
      | inr (past, none) ↦ absurd (omega arith)
    ]

byte_read : (bytes whole : List ℕ) (front start behind place at byte : ℕ) → Inside bytes whole front → at ≡ front + place → place < length bytes → byte_at whole start at ≡ Ok byte
    → byte_at bytes behind place ≡ Ok byte
unfolding byte_at
byte_read bytes whole front start behind place at byte inside is within e =
    rw (byte_in bytes whole front place at byte inside is within (byte_stands start byte (slice_get whole at) e)) refl

-- what was found in the string is read in the part, and ends at this place or behind it
record Again (front least : ℕ) (read : Result (ℕ × ℕ) TlvFault) (found : ℕ × ℕ) : Type 0 where
  end : ℕ
  upward : least ≤ end
  same : found.1 ≡ front + end
  reads : read ≡ Ok (found.0, end)

pair_end : (m n : ℕ) (r : ℕ × ℕ) → ◌≡◌ {A = Result (ℕ × ℕ) TlvFault} (Ok (m, n)) (Ok r) → n ≡ r.1
pair_end m n r e = let pair : ◌≡◌ {A = ℕ × ℕ} (m, n) r = cc e in ap (λ p. p.1) pair

pair_again : (front m n end : ℕ) (r : ℕ × ℕ) (read : Result (ℕ × ℕ) TlvFault) → ◌≡◌ {A = Result (ℕ × ℕ) TlvFault} (Ok (m, n)) (Ok r) → n ≡ front + end → read ≡ Ok (m, end)
    → Again front end read r
pair_again front m n end r read e moved reads =
    let pair : ◌≡◌ {A = ℕ × ℕ} (m, n) r = cc e in
    let first : m ≡ r.0 = ap (λ p. p.0) pair in
    record {
      end = end;
      upward = omega arith;
      same = sym (ap (λ p. p.1) pair) ∙ moved;
      reads = reads ∙ ap (λ (k : ℕ). let x : Result (ℕ × ℕ) TlvFault = Ok (k, end) in x) first;
    }

-- the same, read in one step more
step_again : (front least small : ℕ) (read more : Result (ℕ × ℕ) TlvFault) (r : ℕ × ℕ) → Again front least read r → small ≤ least → more ≡ read → Again front small more r
step_again front least small read more r again below is = record {
  end = again.end;
  upward = (let upward = again.upward in omega arith);
  same = again.same;
  reads = is ∙ again.reads;
}

third_again : (bytes whole : List ℕ) (front start first : ℕ) (r : ℕ × ℕ) → Inside bytes whole front → third_tag_byte whole (front + start) first ≡ Ok r → r.1 ≤ front + length bytes
    → Again front (start + 3) (third_tag_byte bytes start first) r
unfolding third_tag_byte
third_again bytes whole front start first r inside e within =
    let third = step-ok (byte_at whole (front + start) (front + start + 2)) _ r e in
    elim (chosen (nat_lt third.0 128) _ _ r third.2) [
      | inl (last, same) ↦
          let end = pair_end _ _ r same in
          let there = byte_read bytes whole front (front + start) start (start + 2) (front + start + 2) third.0 inside (omega arith) (omega arith) third.1 in
          pair_again front _ _ (start + 3) r (third_tag_byte bytes start first) same (omega arith) (rw (there, last) refl)
      | inr (more, same) ↦ cc
    ]

second_again : (bytes whole : List ℕ) (front start first : ℕ) (r : ℕ × ℕ) → Inside bytes whole front → second_tag_byte whole (front + start) first ≡ Ok r → r.1 ≤ front + length bytes
    → Again front (start + 2) (second_tag_byte bytes start first) r
unfolding second_tag_byte
second_again bytes whole front start first r inside e within =
    let second = step-ok (byte_at whole (front + start) (front + start + 1)) _ r e in
    elim (chosen (nat_lt second.0 128) _ _ r second.2) [
      | inl (last, same) ↦
          let end = pair_end _ _ r same in
          let there = byte_read bytes whole front (front + start) start (start + 1) (front + start + 1) second.0 inside (omega arith) (omega arith) second.1 in
          pair_again front _ _ (start + 2) r (second_tag_byte bytes start first) same (omega arith) (rw (there, last) refl)
      | inr (more, same) ↦
          let third = third_again bytes whole front start (first * 256 + second.0) r inside same within in
          let upward = third.upward in
          let end = third.same in
          let there = byte_read bytes whole front (front + start) start (start + 1) (front + start + 1) second.0 inside (omega arith) (omega arith) second.1 in
          step_again front (start + 3) (start + 2) (third_tag_byte bytes start (first * 256 + second.0)) (second_tag_byte bytes start first) r third (omega arith) (rw (there, more) refl)
    ]

tag_again : (bytes whole : List ℕ) (front start : ℕ) (r : ℕ × ℕ) → Inside bytes whole front → tag_at whole (front + start) ≡ Ok r → r.1 ≤ front + length bytes
    → Again front (start + 1) (tag_at bytes start) r
unfolding tag_at
tag_again bytes whole front start r inside e within =
    let first = step-ok (byte_at whole (front + start) (front + start)) _ r e in
    elim (chosen (first.0 % 32 == 31) _ _ r first.2) [
      | inl (more, same) ↦
          let second = second_again bytes whole front start first.0 r inside same within in
          let upward = second.upward in
          let end = second.same in
          let there = byte_read bytes whole front (front + start) start start (front + start) first.0 inside refl (omega arith) first.1 in
          step_again front (start + 2) (start + 1) (second_tag_byte bytes start first.0) (tag_at bytes start) r second (omega arith) (rw (there, more) refl)
      | inr (last, same) ↦
          let end = pair_end _ _ r same in
          let there = byte_read bytes whole front (front + start) start start (front + start) first.0 inside refl (omega arith) first.1 in
          pair_again front _ _ (start + 1) r (tag_at bytes start) same (omega arith) (rw (there, last) refl)
    ]

one_again : (bytes whole : List ℕ) (front start behind place at : ℕ) (r : ℕ × ℕ) → Inside bytes whole front → at ≡ front + place → one_byte_length whole start at ≡ Ok r → r.1 ≤ front + length bytes
    → Again front (place + 2) (one_byte_length bytes behind place) r
unfolding one_byte_length
one_again bytes whole front start behind place at r inside is e within =
    let low = step-ok (byte_at whole start (at + 1)) _ r e in
    let end = pair_end _ _ r low.2 in
    let there = byte_read bytes whole front start behind (place + 1) (at + 1) low.0 inside (omega arith) (omega arith) low.1 in
    pair_again front _ _ (place + 2) r (one_byte_length bytes behind place) low.2 (omega arith) (rw there refl)

two_again : (bytes whole : List ℕ) (front start behind place at : ℕ) (r : ℕ × ℕ) → Inside bytes whole front → at ≡ front + place → two_byte_length whole start at ≡ Ok r → r.1 ≤ front + length bytes
    → Again front (place + 3) (two_byte_length bytes behind place) r
unfolding two_byte_length
two_again bytes whole front start behind place at r inside is e within =
    let high = step-ok (byte_at whole start (at + 1)) _ r e in
    let low = step-ok (byte_at whole start (at + 2)) _ r high.2 in
    let end = pair_end _ _ r low.2 in
    let there = byte_read bytes whole front start behind (place + 1) (at + 1) high.0 inside (omega arith) (omega arith) high.1 in
    let next = byte_read bytes whole front start behind (place + 2) (at + 2) low.0 inside (omega arith) (omega arith) low.1 in
    pair_again front _ _ (place + 3) r (two_byte_length bytes behind place) low.2 (omega arith) (rw (there, next) refl)

long_again : (bytes whole : List ℕ) (front start behind place at first : ℕ) (r : ℕ × ℕ) → Inside bytes whole front → at ≡ front + place → long_length whole start at first ≡ Ok r
    → r.1 ≤ front + length bytes → Again front (place + 2) (long_length bytes behind place first) r
unfolding long_length
long_again bytes whole front start behind place at first r inside is e within =
    elim (chosen (first == 129) _ _ r e) [
      | inl (one, same) ↦ step_again front (place + 2) (place + 2) (one_byte_length bytes behind place) (long_length bytes behind place first) r (one_again bytes whole front start behind place at r inside is same within) (omega arith) (rw one refl)
      | inr (other, same) ↦ elim (chosen (first == 130) _ _ r same) [
        | inl (two, found) ↦ step_again front (place + 3) (place + 2) (two_byte_length bytes behind place) (long_length bytes behind place first) r (two_again bytes whole front start behind place at r inside is found within) (omega arith) (rw (other, two) refl)
        | inr (bad, found) ↦ cc
      ]
    ]

length_again : (bytes whole : List ℕ) (front start behind place at : ℕ) (r : ℕ × ℕ) → Inside bytes whole front → at ≡ front + place → length_at whole start at ≡ Ok r → r.1 ≤ front + length bytes
    → Again front (place + 1) (length_at bytes behind place) r
unfolding length_at
length_again bytes whole front start behind place at r inside is e within =
    let first = step-ok (byte_at whole start at) _ r e in
    elim (chosen (nat_lt first.0 128) _ _ r first.2) [
      | inl (short, same) ↦
          let end = pair_end _ _ r same in
          let there = byte_read bytes whole front start behind place at first.0 inside is (omega arith) first.1 in
          pair_again front _ _ (place + 1) r (length_at bytes behind place) same (omega arith) (rw (there, short) refl)
      | inr (long, same) ↦
          let more = long_again bytes whole front start behind place at first.0 r inside is same within in
          let upward = more.upward in
          let end = more.same in
          let there = byte_read bytes whole front start behind place at first.0 inside is (omega arith) first.1 in
          step_again front (place + 2) (place + 1) (long_length bytes behind place first.0) (length_at bytes behind place) r more (omega arith) (rw (there, long) refl)
    ]

value_end : (bytes : List ℕ) (start tag place count : ℕ) (item : ItemData) (next : ℕ) → value_at bytes start tag place count ≡ Ok (item, next) → place + count ≡ next
unfolding value_at
value_end bytes start tag place count item next e =
    elim (chosen (nat_le (place + count) (length bytes)) _ _ _ e) [
      | inl (fits, stands) ↦
          let pair : ◌≡◌ {A = ItemData × ℕ} (record { tag = tag; value = slice_range bytes place (place + count); start = start }, place + count) (item, next) = cc stands in
          ap (λ p. p.1) pair
      | inr (cut, stands) ↦ cc
    ]

-- an item of the string, read in the part
pub record Stands (bytes : List ℕ) (front start next : ℕ) : Type 0 where
  pub item : ItemData
  pub end : ℕ
  pub same : next ≡ front + end
  pub reads : item_at bytes start ≡ Ok (item, end)

value_stands : (bytes : List ℕ) (start tag place count : ℕ) → place + count ≤ length bytes → (item : ItemData) × (value_at bytes start tag place count ≡ Ok (item, place + count))
unfolding value_at
value_stands bytes start tag place count within =
    let fits : nat_le (place + count) (length bytes) ≡ true = le-leb _ _ within in
    (record { tag = tag; value = slice_range bytes place (place + count); start = start }, rw fits refl)

pub item_again : (bytes whole : List ℕ) (front start : ℕ) (item : ItemData) (next : ℕ) → Inside bytes whole front → item_at whole (front + start) ≡ Ok (item, next) → next ≤ front + length bytes
    → Stands bytes front start next
unfolding item_at
item_again bytes whole front start item next inside e within =
    let tag = step-ok (tag_at whole (front + start)) _ _ e in
    let count = step-ok (length_at whole (front + start) tag.0.1) _ _ tag.2 in
    let ends : count.0.1 + count.0.0 ≡ next = value_end whole (front + start) tag.0.0 count.0.1 count.0.0 item next count.2 in
    let onward : front + start < tag.0.1 = tag_at-onward whole (front + start) tag.0 tag.1 in
    let bound = length_again bytes whole front (front + start) start (tag.0.1 - front) tag.0.1 count.0 inside (omega arith) count.1 (omega arith) in
    let bound_upward = bound.upward in
    let bound_same = bound.same in
    let first = tag_again bytes whole front start tag.0 inside tag.1 (omega arith) in
    let second = length_again bytes whole front (front + start) start first.end tag.0.1 count.0 inside first.same count.1 (omega arith) in
    let second_same = second.same in
    let value = value_stands bytes start tag.0.0 second.end count.0.0 (omega arith) in
    record {
      item = value.0;
      end = second.end + count.0.0;
      same = omega arith;
      reads = item_of_parts bytes start first.end second.end tag.0.0 count.0.0 (second.end + count.0.0) value.0 first.reads second.reads value.1;
    }
