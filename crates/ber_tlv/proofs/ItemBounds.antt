-- Where an object ends: behind its first byte, and within the string.
use Rattle.std.proofs.Common.{◌≡◌, ℕ, Bool, true, false, ◌+◌, ◌-◌, ◌<◌, ◌≤◌, ◌%◌, ◌==◌, nat_lt, nat_le, if◌then◌else◌, List, length, Result, Ok, Err, refl, arith, sym, ap, ◌∙◌, min, length-drop, ◌⊎◌, inl, inr}
use Rattle.std.specs.List.{slice_range}
use Rattle.std.proofs.lemmas.List.{length-take}
use Rattle.ber_tlv.specs.Item.{ItemData, ◌>>=◌, byte_at, tag_at, second_tag_byte, third_tag_byte, length_at, long_length, one_byte_length, two_byte_length, value_at, item_at}
use Rattle.ber_tlv.specs.declared.item.TlvFault.{TlvFault}

-- a reading in two steps that gives a value: what its first step gave
pub step-ok : {A B : Type 0} (r : Result A TlvFault) (f : A → Result B TlvFault) (b : B) → (r >>= f) ≡ Ok b → (a : A) × (r ≡ Ok a) × (f a ≡ Ok b)
step-ok (Ok a) f b e = (a, refl, e)
step-ok (Err fault) f b e = cc

-- a choice that gives a value: its test, and what was chosen
choice-ok : {A : Type 0} (test : Bool) (x y : Result A TlvFault) (a : A) → (if test then x else y) ≡ Ok a → (x ≡ Ok a) ⊎ (y ≡ Ok a)
choice-ok true x y a e = inl e
choice-ok false x y a e = inr e

pub chosen-ok : {A : Type 0} (test : Bool) (x y : Result A TlvFault) (a : A) → (if test then x else y) ≡ Ok a → ((test ≡ true) × (x ≡ Ok a)) ⊎ (y ≡ Ok a)
chosen-ok true x y a e = inl (refl, e)
chosen-ok false x y a e = inr e

pair-ok : (m n : ℕ) (r : ℕ × ℕ) → ◌≡◌ {A = Result (ℕ × ℕ) TlvFault} (Ok (m, n)) (Ok r) → n ≡ r.1
pair-ok m n r e = let pair : ◌≡◌ {A = ℕ × ℕ} (m, n) r = cc e in ap (λ p. p.1) pair

third_tag_byte-onward : (bytes : List ℕ) (start front : ℕ) (r : ℕ × ℕ) → third_tag_byte bytes start front ≡ Ok r → start < r.1
unfolding third_tag_byte
third_tag_byte-onward bytes start front r e =
    let step = step-ok (byte_at bytes start (start + 2)) _ r e in
    elim (choice-ok (nat_lt step.0 128) _ _ r step.2) [
      | inl short ↦ let end = pair-ok _ _ r short in omega arith
      | inr long ↦ cc
    ]

second_tag_byte-onward : (bytes : List ℕ) (start first : ℕ) (r : ℕ × ℕ) → second_tag_byte bytes start first ≡ Ok r → start < r.1
unfolding second_tag_byte
second_tag_byte-onward bytes start first r e =
    let step = step-ok (byte_at bytes start (start + 1)) _ r e in
    elim (choice-ok (nat_lt step.0 128) _ _ r step.2) [
      | inl short ↦ let end = pair-ok _ _ r short in omega arith
      | inr long ↦ third_tag_byte-onward _ _ _ r long
    ]

pub tag_at-onward : (bytes : List ℕ) (start : ℕ) (r : ℕ × ℕ) → tag_at bytes start ≡ Ok r → start < r.1
unfolding tag_at
tag_at-onward bytes start r e =
    let step = step-ok (byte_at bytes start start) _ r e in
    elim (choice-ok (step.0 % 32 == 31) _ _ r step.2) [
      | inl long ↦ second_tag_byte-onward _ _ _ r long
      | inr short ↦ let end = pair-ok _ _ r short in omega arith
    ]

long_length-onward : (bytes : List ℕ) (start place first : ℕ) (r : ℕ × ℕ) → long_length bytes start place first ≡ Ok r → place < r.1
unfolding long_length one_byte_length two_byte_length
long_length-onward bytes start place first r e =
    elim (choice-ok (first == 129) _ _ r e) [
      | inl one ↦
          let low = step-ok (byte_at bytes start (place + 1)) _ r one in
          let end = pair-ok _ _ r low.2 in omega arith
      | inr more ↦ elim (choice-ok (first == 130) _ _ r more) [
        | inl two ↦
            let high = step-ok (byte_at bytes start (place + 1)) _ r two in
            let low = step-ok (byte_at bytes start (place + 2)) _ r high.2 in
            let end = pair-ok _ _ r low.2 in omega arith
        | inr bad ↦ cc
      ]
    ]

length_at-onward : (bytes : List ℕ) (start place : ℕ) (r : ℕ × ℕ) → length_at bytes start place ≡ Ok r → place < r.1
unfolding length_at
length_at-onward bytes start place r e =
    let step = step-ok (byte_at bytes start place) _ r e in
    elim (choice-ok (nat_lt step.0 128) _ _ r step.2) [
      | inl short ↦ let end = pair-ok _ _ r short in omega arith
      | inr long ↦ long_length-onward _ _ _ _ r long
    ]

-- an object of this string: its value is the bytes before the next place, and its tag and length
-- take two bytes or more
pub record Lies (bytes : List ℕ) (start : ℕ) (item : ItemData) (next : ℕ) : Type 0 where
  pub from : ℕ
  pub header : start + 2 ≤ from
  pub upward : from ≤ next
  pub within : next ≤ length bytes
  pub value : item.value ≡ slice_range bytes from next

value_at-lies : (bytes : List ℕ) (start tag place count : ℕ) (item : ItemData) (next : ℕ) → start + 2 ≤ place → value_at bytes start tag place count ≡ Ok (item, next) → Lies bytes start item next
unfolding value_at
value_at-lies bytes start tag place count item next header e =
    elim (chosen-ok (nat_le (place + count) (length bytes)) _ _ _ e) [
      | inl (fits, stands) ↦
          let pair : ◌≡◌ {A = ItemData × ℕ} (record { tag = tag; value = slice_range bytes place (place + count); start = start }, place + count) (item, next) = cc stands in
          let same_end : place + count ≡ next = ap (λ p. p.1) pair in
          let same_value : slice_range bytes place (place + count) ≡ item.value = ap (λ p. p.0.value) pair in
          let within : place + count ≤ length bytes = grind arith in
          record { from = place; header = header; upward = omega arith; within = omega arith; value = rw (← same_end) (sym same_value) }
      | inr cut ↦ cc
    ]

pub item_at-lies : (bytes : List ℕ) (start : ℕ) (item : ItemData) (next : ℕ) → item_at bytes start ≡ Ok (item, next) → Lies bytes start item next
unfolding item_at
item_at-lies bytes start item next stands =
    let tag = step-ok (tag_at bytes start) _ _ stands in
    let count = step-ok (length_at bytes start tag.0.1) _ _ tag.2 in
    let tag_onward = tag_at-onward bytes start tag.0 tag.1 in
    let length_onward = length_at-onward bytes start tag.0.1 count.0 count.1 in
    value_at-lies bytes start tag.0.0 count.0.1 count.0.0 item next (omega arith) count.2

-- a value has as many bytes as lie between its first place and the next object's
pub lies-length : (bytes : List ℕ) (start : ℕ) (item : ItemData) (next : ℕ) (lies : Lies bytes start item next) → lies.from + length item.value ≡ next
lies-length bytes start item next lies =
    let count : length item.value ≡ min (next - lies.from) (length bytes - lies.from) = ap length lies.value ∙ simp (length-take, length-drop) in
    let upward = lies.upward in
    let within = lies.within in
    omega arith
