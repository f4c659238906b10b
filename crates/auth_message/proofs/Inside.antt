-- An item of a byte string is an item of each longer string that has it inside, at its place there.
use Rattle.std.proofs.Common.{◌≡◌, ℕ, Bool, true, false, ◌+◌, ◌-◌, ◌%◌, ◌<◌, ◌≤◌, ◌==◌, ◌⊎◌, inl, inr, nat_lt, nat_le, if◌then◌else◌, List, [], ◌∷◌, ◌++◌, length, take, drop, Option, Some, None, Result, Ok, slice_get, refl, ap, ◌∙◌, arith, length-append, length-drop, suc, zero}
use Rattle.std.specs.Prelude.{slice_range}
use Rattle.std.proofs.lemmas.Bool.{le-leb}
use Rattle.std.proofs.lemmas.Bool.Decides.{nat_tests}
use Rattle.std.proofs.lemmas.List.{take-append-le, drop-append-le}
use Rattle.std.proofs.Math.Seq.{drop-append-add}
use Rattle.ber_tlv.specs.Item.{ItemData, byte_at, or_cut, tag_at, second_tag_byte, third_tag_byte, length_at, long_length, one_byte_length, two_byte_length, value_at, item_at}
use Rattle.ber_tlv.specs.declared.item.TlvFault.{TlvFault}
use Rattle.ber_tlv.proofs.ItemBounds.{step-ok}

-- the first bytes stand in the second ones behind so many others
pub record Inside (bytes whole : List ℕ) (front : ℕ) : Type 0 where
  pub get : (place byte : ℕ) → slice_get bytes place ≡ Some byte → slice_get whole (front + place) ≡ Some byte
  pub range : (from to : ℕ) → to ≤ length bytes → slice_range whole (front + from) (front + to) ≡ slice_range bytes from to
  pub fits : front + length bytes ≤ length whole

chosen : {A : Type 0} (test : Bool) (x y : Result A TlvFault) (a : A) → (if test then x else y) ≡ Ok a → ((test ≡ true) × (x ≡ Ok a)) ⊎ ((test ≡ false) × (y ≡ Ok a))
chosen true x y a e = inl (refl, e)
chosen false x y a e = inr (refl, e)

byte_stands : (start byte : ℕ) (found : Option ℕ) → or_cut start found ≡ Ok byte → found ≡ Some byte
byte_stands start byte (Some other) e = let same : other ≡ byte = cc in ap Some same
byte_stands start byte None e = cc

byte_inside : (bytes whole : List ℕ) (front start place at byte : ℕ) → Inside bytes whole front → at ≡ front + place → byte_at bytes start place ≡ Ok byte → byte_at whole (front + start) at ≡ Ok byte
unfolding byte_at
byte_inside bytes whole front start place at byte inside same e =
    let there : slice_get whole at ≡ Some byte = ap (slice_get whole) same ∙ inside.get place byte (byte_stands start byte (slice_get bytes place) e) in
    rw there refl

moved_pair : (front : ℕ) → ℕ × ℕ → ℕ × ℕ
moved_pair front found = (found.0, front + found.1)

pairs : (m n k front : ℕ) (r : ℕ × ℕ) → ◌≡◌ {A = Result (ℕ × ℕ) TlvFault} (Ok (m, n)) (Ok r) → k ≡ front + n → ◌≡◌ {A = Result (ℕ × ℕ) TlvFault} (Ok (m, k)) (Ok (moved_pair front r))
unfolding moved_pair
pairs m n k front r e same =
    let pair : ◌≡◌ {A = ℕ × ℕ} (m, n) r = cc e in
    ap (λ (p : ℕ). let x : Result (ℕ × ℕ) TlvFault = Ok (m, p) in x) same ∙ ap (λ (p : ℕ × ℕ). let x : Result (ℕ × ℕ) TlvFault = Ok (p.0, front + p.1) in x) pair

third_inside : (bytes whole : List ℕ) (front start first : ℕ) (r : ℕ × ℕ) → Inside bytes whole front → third_tag_byte bytes start first ≡ Ok r → third_tag_byte whole (front + start) first ≡ Ok (moved_pair front r)
unfolding third_tag_byte
third_inside bytes whole front start first r inside e =
    let third = step-ok (byte_at bytes start (start + 2)) _ r e in
    let there = byte_inside bytes whole front start (start + 2) (front + start + 2) third.0 inside (omega arith) third.1 in
    elim (chosen (nat_lt third.0 128) _ _ r third.2) [
      | inl (last, same) ↦ rw (there, last) (pairs _ (start + 3) (front + start + 3) front r same (omega arith))
      | inr (more, same) ↦ cc
    ]

second_inside : (bytes whole : List ℕ) (front start first : ℕ) (r : ℕ × ℕ) → Inside bytes whole front → second_tag_byte bytes start first ≡ Ok r → second_tag_byte whole (front + start) first ≡ Ok (moved_pair front r)
unfolding second_tag_byte
second_inside bytes whole front start first r inside e =
    let second = step-ok (byte_at bytes start (start + 1)) _ r e in
    let there = byte_inside bytes whole front start (start + 1) (front + start + 1) second.0 inside (omega arith) second.1 in
    elim (chosen (nat_lt second.0 128) _ _ r second.2) [
      | inl (last, same) ↦ rw (there, last) (pairs _ (start + 2) (front + start + 2) front r same (omega arith))
      | inr (more, same) ↦ rw (there, more) (third_inside bytes whole front start _ r inside same)
    ]

tag_inside : (bytes whole : List ℕ) (front start : ℕ) (r : ℕ × ℕ) → Inside bytes whole front → tag_at bytes start ≡ Ok r → tag_at whole (front + start) ≡ Ok (moved_pair front r)
unfolding tag_at
tag_inside bytes whole front start r inside e =
    let first = step-ok (byte_at bytes start start) _ r e in
    let there = byte_inside bytes whole front start start (front + start) first.0 inside refl first.1 in
    elim (chosen (first.0 % 32 == 31) _ _ r first.2) [
      | inl (more, same) ↦ rw (there, more) (second_inside bytes whole front start first.0 r inside same)
      | inr (last, same) ↦ rw (there, last) (pairs _ (start + 1) (front + start + 1) front r same (omega arith))
    ]

one_inside : (bytes whole : List ℕ) (front start place : ℕ) (r : ℕ × ℕ) → Inside bytes whole front → one_byte_length bytes start place ≡ Ok r → one_byte_length whole (front + start) (front + place) ≡ Ok (moved_pair front r)
unfolding one_byte_length
one_inside bytes whole front start place r inside e =
    let low = step-ok (byte_at bytes start (place + 1)) _ r e in
    let there = byte_inside bytes whole front start (place + 1) (front + place + 1) low.0 inside (omega arith) low.1 in
    rw there (pairs _ (place + 2) (front + place + 2) front r low.2 (omega arith))

two_inside : (bytes whole : List ℕ) (front start place : ℕ) (r : ℕ × ℕ) → Inside bytes whole front → two_byte_length bytes start place ≡ Ok r → two_byte_length whole (front + start) (front + place) ≡ Ok (moved_pair front r)
unfolding two_byte_length
two_inside bytes whole front start place r inside e =
    let high = step-ok (byte_at bytes start (place + 1)) _ r e in
    let low = step-ok (byte_at bytes start (place + 2)) _ r high.2 in
    let there = byte_inside bytes whole front start (place + 1) (front + place + 1) high.0 inside (omega arith) high.1 in
    let behind = byte_inside bytes whole front start (place + 2) (front + place + 2) low.0 inside (omega arith) low.1 in
    rw (there, behind) (pairs _ (place + 3) (front + place + 3) front r low.2 (omega arith))

long_inside : (bytes whole : List ℕ) (front start place first : ℕ) (r : ℕ × ℕ) → Inside bytes whole front → long_length bytes start place first ≡ Ok r → long_length whole (front + start) (front + place) first ≡ Ok (moved_pair front r)
unfolding long_length
long_inside bytes whole front start place first r inside e =
    elim (chosen (first == 129) _ _ r e) [
      | inl (one, same) ↦ rw one (one_inside bytes whole front start place r inside same)
      | inr (other, same) ↦ elim (chosen (first == 130) _ _ r same) [
        | inl (two, again) ↦ rw (other, two) (two_inside bytes whole front start place r inside again)
        | inr (bad, again) ↦ cc
      ]
    ]

length_inside : (bytes whole : List ℕ) (front start place : ℕ) (r : ℕ × ℕ) → Inside bytes whole front → length_at bytes start place ≡ Ok r → length_at whole (front + start) (front + place) ≡ Ok (moved_pair front r)
unfolding length_at
length_inside bytes whole front start place r inside e =
    let first = step-ok (byte_at bytes start place) _ r e in
    let there = byte_inside bytes whole front start place (front + place) first.0 inside refl first.1 in
    elim (chosen (nat_lt first.0 128) _ _ r first.2) [
      | inl (short, same) ↦ rw (there, short) (pairs _ (place + 1) (front + place + 1) front r same (omega arith))
      | inr (long, same) ↦ rw (there, long) (long_inside bytes whole front start place first.0 r inside same)
    ]

-- an item of a string that begins behind so many others
abbrev pub moved_item : ℕ → ItemData → ItemData
moved_item front item = record { tag = item.tag; value = item.value; start = front + item.start }

value_inside : (bytes whole : List ℕ) (front start tag place count : ℕ) (item : ItemData) (next : ℕ) → Inside bytes whole front → value_at bytes start tag place count ≡ Ok (item, next)
    → value_at whole (front + start) tag (front + place) count ≡ Ok (moved_item front item, front + next)
unfolding value_at
value_inside bytes whole front start tag place count item next inside e =
    elim (chosen (nat_le (place + count) (length bytes)) _ _ _ e) [
      | inl (fits, stands) ↦
          let pair : ◌≡◌ {A = ItemData × ℕ} (record { tag = tag; value = slice_range bytes place (place + count); start = start }, place + count) (item, next) = cc stands in
          let small : place + count ≤ length bytes = grind (arith, nat_tests) in
          let large : front + place + count ≤ length whole = let room = inside.fits in omega arith in
          let fit : nat_le (front + place + count) (length whole) ≡ true = le-leb _ _ large in
          let end : front + place + count ≡ front + (place + count) = omega arith in
          let same : slice_range whole (front + place) (front + place + count) ≡ slice_range bytes place (place + count) = ap (slice_range whole (front + place)) end ∙ inside.range place (place + count) small in
          rw (fit, same, end) (ap (λ (p : ItemData × ℕ). let x : Result (ItemData × ℕ) TlvFault = Ok (record { tag = p.0.tag; value = p.0.value; start = front + p.0.start }, front + p.1) in x) pair)
      | inr (cut, stands) ↦ cc
    ]

pub item_inside : (bytes whole : List ℕ) (front start : ℕ) (item : ItemData) (next : ℕ) → Inside bytes whole front → item_at bytes start ≡ Ok (item, next)
    → item_at whole (front + start) ≡ Ok (moved_item front item, front + next)
unfolding item_at moved_pair
item_inside bytes whole front start item next inside e =
    let tag = step-ok (tag_at bytes start) _ _ e in
    let count = step-ok (length_at bytes start tag.0.1) _ _ tag.2 in
    rw (tag_inside bytes whole front start tag.0 inside tag.1, length_inside bytes whole front start tag.0.1 count.0 inside count.1)
    (value_inside bytes whole front start tag.0.0 count.0.1 count.0.0 item next inside count.2)

get_behind : (front bytes : List ℕ) (place : ℕ) → slice_get (front ++ bytes) (length front + place) ≡ slice_get bytes place
get_behind [] bytes place = ap (slice_get bytes) (omega arith)
get_behind (x ∷ front) bytes place = ap (slice_get (x ∷ front ++ bytes)) {y = suc (length front + place)} (omega arith) ∙ get_behind front bytes place

get_before : (bytes rest : List ℕ) (place byte : ℕ) → slice_get bytes place ≡ Some byte → slice_get (bytes ++ rest) place ≡ Some byte
get_before [] rest zero byte e = cc
get_before [] rest (suc place) byte e = cc
get_before (x ∷ bytes) rest zero byte e = e
get_before (x ∷ bytes) rest (suc place) byte e = get_before bytes rest place byte e

range_before : (bytes rest : List ℕ) (from to : ℕ) → to ≤ length bytes → slice_range (bytes ++ rest) from to ≡ slice_range bytes from to
range_before bytes rest from to within = by (nat_le from (length bytes)) refl
  where
    by : (test : Bool) → nat_le from (length bytes) ≡ test → slice_range (bytes ++ rest) from to ≡ slice_range bytes from to
    by true is =
        let before : from ≤ length bytes = grind (arith, nat_tests) in
        let room : to - from ≤ length (drop from bytes) = simp length-drop (omega arith) in
        ap (take (to - from)) (drop-append-le from bytes rest before) ∙ take-append-le (to - from) (drop from bytes) rest room
    by false is =
        let past : length bytes < from = grind (arith, nat_tests) in
        let none : to - from ≡ 0 = omega arith in
        rw none refl

-- bytes stand in those that they are joined to
pub inside_joined : (front bytes rest : List ℕ) → Inside bytes (front ++ (bytes ++ rest)) (length front)
inside_joined front bytes rest = record {
  get = λ place byte there. get_behind front (bytes ++ rest) place ∙ get_before bytes rest place byte there;
  range = λ from to within.
      let count : length front + to - (length front + from) ≡ to - from = omega arith in
      ap (λ n. take n (drop (length front + from) (front ++ (bytes ++ rest)))) count ∙ ap (take (to - from)) (drop-append-add front (bytes ++ rest) from) ∙ range_before bytes rest from to within;
  fits = simp length-append (omega arith);
}
