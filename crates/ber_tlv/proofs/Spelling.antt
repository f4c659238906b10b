-- The bytes that a reading passes over: a tag's are its own, and an object's are at least as many as
-- those that are written for it.
use Rattle.std.proofs.Common.{◌≡◌, ℕ, zero, suc, Bool, true, false, ◌+◌, ◌-◌, ◌*◌, ◌/◌, ◌%◌, ◌<◌, ◌≤◌, ◌==◌, nat_lt, nat_le, if◌then◌else◌, List, [], ◌∷◌, ◌++◌, length, drop, Option, Some, None, Result, Ok, Err, slice_get, refl, arith, sym, ap, ◌∙◌, ◌⊎◌, inl, inr, subst, length-append, length-drop, append-nil, IfOk, MatchResult}
use Rattle.std.proofs.lemmas.Bool.Decides.{nat_tests}
use Rattle.std.proofs.lemmas.Option.{get_or_from_slice_get}
use Rattle.std.specs.List.{slice_range}
use Rattle.std.proofs.lemmas.List.{length-take}
use Rattle.ber_tlv.specs.Item.{AreBytes, ItemData, ◌>>=◌, or_cut, byte_at, tag_at, second_tag_byte, third_tag_byte, length_at, long_length, one_byte_length, two_byte_length, value_at, item_at}
use Rattle.ber_tlv.specs.Spelled.{Spelled, IsCutTag, HasLongTag, StopsTag, number_of_bytes, LongLength, HasLength}
use Rattle.ber_tlv.specs.declared.item.TlvFault.TheVariants.{Truncated, LongTag}
use Rattle.ber_tlv.specs.Written.{tag_bytes, length_bytes, written}
use Rattle.ber_tlv.specs.declared.item.TlvFault.{TlvFault}
use Rattle.ber_tlv.specs.Seen.{seen}
use Rattle.ber_tlv.specs.declared.item.Item.{Item}
use Rattle.ber_tlv.proofs.ReadAgain.{item_of_parts}
use Rattle.ber_tlv.proofs.ItemBounds.{step-ok, chosen-ok}

-- a byte that was read
record ReadByte (bytes : List ℕ) (place byte : ℕ) : Type 0 where
  there : slice_get bytes place ≡ Some byte
  small : byte < 256

or_cut-ok : (start byte : ℕ) (found : Option ℕ) → or_cut start found ≡ Ok byte → found ≡ Some byte
or_cut-ok start byte (Some other) e = cc
or_cut-ok start byte None e = cc

byte_at-read : (bytes : List ℕ) (start place byte : ℕ) → AreBytes bytes → byte_at bytes start place ≡ Ok byte → ReadByte bytes place byte
unfolding byte_at
byte_at-read bytes start place byte all e =
    let there = or_cut-ok start byte (slice_get bytes place) e in
    let value = get_or_from_slice_get bytes place byte 0 there in
    let small = all place in
    record { there = there; small = omega arith }

pub drop-at : (bytes : List ℕ) (place byte : ℕ) → slice_get bytes place ≡ Some byte → drop place bytes ≡ byte ∷ drop (place + 1) bytes
drop-at [] place byte e = cc
drop-at (x ∷ bytes) zero byte e = cc
drop-at (x ∷ bytes) (suc place) byte e = drop-at bytes place byte e ∙ ap (λ n. byte ∷ drop n (x ∷ bytes)) {x = suc (place + 1)} (omega arith)

both-ok : (m n k l : ℕ) → ◌≡◌ {A = Result (ℕ × ℕ) TlvFault} (Ok (m, n)) (Ok (k, l)) → (m ≡ k) × (n ≡ l)
both-ok m n k l e = let pair : ◌≡◌ {A = ℕ × ℕ} (m, n) (k, l) = cc e in (ap (λ p. p.0) pair, ap (λ p. p.1) pair)

spelled_by : (bytes : List ℕ) (start tag next : ℕ) (piece : List ℕ) (end : ℕ) → tag_bytes tag ≡ piece → start + length piece ≡ end → end ≡ next
    → drop start bytes ≡ piece ++ drop end bytes → Spelled bytes start tag next
spelled_by bytes start tag next piece end spelling passed same_end same = record {
  passed = rw (spelling, ← same_end) passed;
  same = rw (spelling, ← same_end) same;
}

one_byte : (x : ℕ) → x < 256 → tag_bytes x ≡ x ∷ []
one_byte x small = grind (arith, nat_tests)

pub two_bytes : (x y : ℕ) → x < 256 → y < 256 → x % 32 ≡ 31 → tag_bytes (x * 256 + y) ≡ x ∷ y ∷ []
two_bytes x y first second more =
    let above : nat_lt (x * 256 + y) 256 ≡ false = grind (arith, nat_tests) in
    let below : nat_lt (x * 256 + y) 65536 ≡ true = grind (arith, nat_tests) in
    let high : (x * 256 + y) / 256 ≡ x = omega arith in
    let low : (x * 256 + y) % 256 ≡ y = omega arith in
    rw (above, below, high, low) refl

three_bytes : (x y z : ℕ) → x < 256 → y < 256 → z < 256 → x % 32 ≡ 31 → tag_bytes ((x * 256 + y) * 256 + z) ≡ x ∷ y ∷ z ∷ []
three_bytes x y z first second third more =
    let above : nat_lt ((x * 256 + y) * 256 + z) 256 ≡ false = grind (arith, nat_tests) in
    let above_two : nat_lt ((x * 256 + y) * 256 + z) 65536 ≡ false = grind (arith, nat_tests) in
    let high : ((x * 256 + y) * 256 + z) / 65536 % 256 ≡ x = omega arith in
    let middle : ((x * 256 + y) * 256 + z) / 256 % 256 ≡ y = omega arith in
    let low : ((x * 256 + y) * 256 + z) % 256 ≡ z = omega arith in
    rw (above, above_two, high, middle, low) refl

third_tag_byte-spelled : (bytes : List ℕ) (start x y tag next : ℕ) → AreBytes bytes → x < 256 → y < 256 → x % 32 ≡ 31 → drop start bytes ≡ x ∷ y ∷ drop (start + 2) bytes
    → third_tag_byte bytes start (x * 256 + y) ≡ Ok (tag, next) → Spelled bytes start tag next
unfolding third_tag_byte
third_tag_byte-spelled bytes start x y tag next all first second more front e =
    let step = step-ok (byte_at bytes start (start + 2)) _ (tag, next) e in
    let third = byte_at-read bytes start (start + 2) step.0 all step.1 in
    elim (chosen-ok (nat_lt step.0 128) _ _ (tag, next) step.2) [
      | inl (short, found) ↦
          let same = both-ok _ _ _ _ found in
          let bytes_are = three_bytes x y step.0 first second third.small more in
          let spelling = ap tag_bytes (sym same.0) ∙ bytes_are in
          spelled_by bytes start tag next (x ∷ y ∷ step.0 ∷ []) (start + 3) spelling refl same.1
          (front ∙ ap (λ r. x ∷ y ∷ r) (drop-at bytes (start + 2) step.0 third.there ∙ ap (λ n. step.0 ∷ drop n bytes) {x = start + 2 + 1} {y = start + 3} (omega arith)))
      | inr long ↦ cc
    ]

second_tag_byte-spelled : (bytes : List ℕ) (start x tag next : ℕ) → AreBytes bytes → x < 256 → x % 32 ≡ 31 → drop start bytes ≡ x ∷ drop (start + 1) bytes
    → second_tag_byte bytes start x ≡ Ok (tag, next) → Spelled bytes start tag next
unfolding second_tag_byte
second_tag_byte-spelled bytes start x tag next all first more front e =
    let step = step-ok (byte_at bytes start (start + 1)) _ (tag, next) e in
    let second = byte_at-read bytes start (start + 1) step.0 all step.1 in
    let front_two = front ∙ ap (λ r. x ∷ r) (drop-at bytes (start + 1) step.0 second.there ∙ ap (λ n. step.0 ∷ drop n bytes) {x = start + 1 + 1} {y = start + 2} (omega arith)) in
    elim (chosen-ok (nat_lt step.0 128) _ _ (tag, next) step.2) [
      | inl (short, found) ↦
          let same = both-ok _ _ _ _ found in
          let spelling = ap tag_bytes (sym same.0) ∙ two_bytes x step.0 first second.small more in
          spelled_by bytes start tag next (x ∷ step.0 ∷ []) (start + 2) spelling refl same.1 front_two
      | inr long ↦ third_tag_byte-spelled bytes start x step.0 tag next all first second.small more front_two long
    ]

pub tag_at-spelled : (bytes : List ℕ) (start tag next : ℕ) → AreBytes bytes → tag_at bytes start ≡ Ok (tag, next) → Spelled bytes start tag next
unfolding tag_at
tag_at-spelled bytes start tag next all e =
    let step = step-ok (byte_at bytes start start) _ (tag, next) e in
    let first = byte_at-read bytes start start step.0 all step.1 in
    let front = drop-at bytes start step.0 first.there in
    elim (chosen-ok (step.0 % 32 == 31) _ _ (tag, next) step.2) [
      | inl (more, found) ↦ second_tag_byte-spelled bytes start step.0 tag next all first.small (grind arith) front found
      | inr found ↦
          let same = both-ok _ _ _ _ found in
          let spelling = ap tag_bytes (sym same.0) ∙ one_byte step.0 first.small in
          spelled_by bytes start tag next (step.0 ∷ []) (start + 1) spelling refl same.1 front
    ]

or_cut-err : (start : ℕ) (found : Option ℕ) (fault : TlvFault) → or_cut start found ≡ Err fault → (found ≡ None) × (fault ≡ Truncated start)
or_cut-err start None fault e = (refl, cc)
or_cut-err start (Some byte) fault e = cc

-- a step that fails, or the step behind it
step-err : {A B : Type 0} (r : Result A TlvFault) (f : A → Result B TlvFault) (fault : TlvFault) → (r >>= f) ≡ Err fault
    → (r ≡ Err fault) ⊎ ((a : A) × (r ≡ Ok a) × (f a ≡ Err fault))
step-err (Ok a) f fault e = inr (a, refl, e)
step-err (Err other) f fault e = inl cc

choice-err : {A : Type 0} (test : Bool) (x y : Result A TlvFault) (fault : TlvFault) → (if test then x else y) ≡ Err fault
    → ((test ≡ true) × (x ≡ Err fault)) ⊎ ((test ≡ false) × (y ≡ Err fault))
choice-err true x y fault e = inl (refl, e)
choice-err false x y fault e = inr (refl, e)

pub drop-past : (bytes : List ℕ) (place : ℕ) → slice_get bytes place ≡ None → drop place bytes ≡ []
drop-past [] zero e = refl
drop-past [] (suc place) e = refl
drop-past (x ∷ bytes) zero e = cc
drop-past (x ∷ bytes) (suc place) e = drop-past bytes place e

-- a place where no byte stands: the bytes before it are cut, and these are missing
cut_at : (bytes : List ℕ) (start place : ℕ) (front more : List ℕ) (tag : ℕ) (fault : TlvFault) → or_cut start (slice_get bytes place) ≡ Err fault → drop start bytes ≡ front ++ drop place bytes
    → tag_bytes tag ≡ front ++ more → 0 < length more → StopsTag fault start (drop start bytes)
cut_at bytes start place front more tag fault e same spelling missing =
    let past = or_cut-err start (slice_get bytes place) fault e in
    let whole : drop start bytes ≡ front = same ∙ ap (λ r. front ++ r) (drop-past bytes place past.0) ∙ append-nil front in
    let cut : IsCutTag (drop start bytes) = record { tag = tag; more = more; spells = rw whole (sym spelling); missing = missing } in
    let P : TlvFault → Type 0 = λ f. StopsTag f start (drop start bytes) in
    subst P (sym past.1) (refl, cut)

third_tag_byte-stops : (bytes : List ℕ) (start x y : ℕ) (fault : TlvFault) → AreBytes bytes → x < 256 → y < 256 → x % 32 ≡ 31 → 128 ≤ y → drop start bytes ≡ x ∷ y ∷ drop (start + 2) bytes
    → third_tag_byte bytes start (x * 256 + y) ≡ Err fault → StopsTag fault start (drop start bytes)
unfolding third_tag_byte byte_at
third_tag_byte-stops bytes start x y fault all first second more more_second front e =
    elim (step-err (byte_at bytes start (start + 2)) _ fault e) [
      | inl cut ↦ cut_at bytes start (start + 2) (x ∷ y ∷ []) (0 ∷ []) ((x * 256 + y) * 256 + 0) fault cut front (three_bytes x y 0 first second (omega arith) more) (omega arith)
      | inr (third, read, later) ↦ elim (choice-err (nat_lt third 128) _ _ fault later) [
        | inl (short, found) ↦ cc
        | inr (long, found) ↦
            let there = byte_at-read bytes start (start + 2) third all read in
            let tag : HasLongTag (drop start bytes) = record {
              first = x;
              second = y;
              third = third;
              behind = drop (start + 2 + 1) bytes;
              splits = front ∙ ap (λ r. x ∷ y ∷ r) (drop-at bytes (start + 2) third there.there);
              more = more;
              more_second = more_second;
              more_third = grind (arith, nat_tests);
            } in
            let P : TlvFault → Type 0 = λ f. StopsTag f start (drop start bytes) in
            let is_long : LongTag start ≡ fault = cc in
            subst P is_long (refl, tag)
      ]
    ]

second_tag_byte-stops : (bytes : List ℕ) (start x : ℕ) (fault : TlvFault) → AreBytes bytes → x < 256 → x % 32 ≡ 31 → drop start bytes ≡ x ∷ drop (start + 1) bytes
    → second_tag_byte bytes start x ≡ Err fault → StopsTag fault start (drop start bytes)
unfolding second_tag_byte byte_at
second_tag_byte-stops bytes start x fault all first more front e =
    elim (step-err (byte_at bytes start (start + 1)) _ fault e) [
      | inl cut ↦ cut_at bytes start (start + 1) (x ∷ []) (0 ∷ []) (x * 256 + 0) fault cut front (two_bytes x 0 first (omega arith) more) (omega arith)
      | inr (second, read, later) ↦ elim (choice-err (nat_lt second 128) _ _ fault later) [
        | inl (short, found) ↦ cc
        | inr (long, found) ↦
            let there = byte_at-read bytes start (start + 1) second all read in
            let front_two = front ∙ ap (λ r. x ∷ r) (drop-at bytes (start + 1) second there.there ∙ ap (λ n. second ∷ drop n bytes) {x = start + 1 + 1} {y = start + 2} (omega arith)) in
            third_tag_byte-stops bytes start x second fault all first there.small more (grind (arith, nat_tests)) front_two found
      ]
    ]

pub tag_at-stops : (bytes : List ℕ) (start : ℕ) (fault : TlvFault) → AreBytes bytes → tag_at bytes start ≡ Err fault → StopsTag fault start (drop start bytes)
unfolding tag_at byte_at
tag_at-stops bytes start fault all e =
    elim (step-err (byte_at bytes start start) _ fault e) [
      | inl cut ↦ cut_at bytes start start [] (0 ∷ []) 0 fault cut refl refl (omega arith)
      | inr (first, read, later) ↦
          let there = byte_at-read bytes start start first all read in
          let front = drop-at bytes start first there.there in
          elim (choice-err (first % 32 == 31) _ _ fault later) [
            | inl (more, found) ↦ second_tag_byte-stops bytes start first fault all there.small (grind arith) front found
            | inr (short, found) ↦ cc
          ]
    ]

long_by : (bytes : List ℕ) (place count next : ℕ) (following : List ℕ) (end : ℕ) → slice_get bytes place ≡ Some (128 + length following) → 1 ≤ length following → length following ≤ 2
    → place + 1 + length following ≡ end → end ≡ next → drop (place + 1) bytes ≡ following ++ drop end bytes → number_of_bytes following ≡ count → LongLength bytes place count next
long_by bytes place count next following end first some few passed same_end stand number = record {
  following = following;
  first = first;
  some = some;
  few = few;
  end = passed ∙ same_end;
  stand = rw (← same_end) stand;
  number = number;
}

same_length : (bytes : List ℕ) (place count next : ℕ) → HasLength bytes place count next → (place2 count2 next2 : ℕ) → place ≡ place2 → count ≡ count2 → next ≡ next2 → HasLength bytes place2 count2 next2
same_length bytes place count next has place2 count2 next2 p q r = rw (← p, ← q, ← r) has

one_byte_length-form : (bytes : List ℕ) (start place count next : ℕ) → slice_get bytes place ≡ Some 129 → one_byte_length bytes start place ≡ Ok (count, next) → LongLength bytes place count next
unfolding one_byte_length byte_at
one_byte_length-form bytes start place count next first e =
    let low = step-ok (byte_at bytes start (place + 1)) _ (count, next) e in
    let there = or_cut-ok start low.0 (slice_get bytes (place + 1)) low.1 in
    let same = both-ok _ _ _ _ low.2 in
    long_by bytes place count next (low.0 ∷ []) (place + 2) first (omega arith) (omega arith) (omega arith) same.1
    (drop-at bytes (place + 1) low.0 there ∙ ap (λ n. low.0 ∷ drop n bytes) {x = place + 1 + 1} {y = place + 2} (omega arith))
    (omega arith ∙ same.0)

two_byte_length-form : (bytes : List ℕ) (start place count next : ℕ) → slice_get bytes place ≡ Some 130 → two_byte_length bytes start place ≡ Ok (count, next) → LongLength bytes place count next
unfolding two_byte_length byte_at
two_byte_length-form bytes start place count next first e =
    let high = step-ok (byte_at bytes start (place + 1)) _ (count, next) e in
    let low = step-ok (byte_at bytes start (place + 2)) _ (count, next) high.2 in
    let high_there = or_cut-ok start high.0 (slice_get bytes (place + 1)) high.1 in
    let low_there = or_cut-ok start low.0 (slice_get bytes (place + 2)) low.1 in
    let same = both-ok _ _ _ _ low.2 in
    long_by bytes place count next (high.0 ∷ low.0 ∷ []) (place + 3) first (omega arith) (omega arith) (omega arith) same.1
    (drop-at bytes (place + 1) high.0 high_there
    ∙ ap (λ r. high.0 ∷ r) (ap (λ n. drop n bytes) {x = place + 1 + 1} {y = place + 2} (omega arith)
    ∙ drop-at bytes (place + 2) low.0 low_there ∙ ap (λ n. low.0 ∷ drop n bytes) {x = place + 2 + 1} {y = place + 3} (omega arith)))
    (omega arith ∙ same.0)

length_at-form : (bytes : List ℕ) (start place count next : ℕ) → length_at bytes start place ≡ Ok (count, next) → HasLength bytes place count next
unfolding length_at long_length byte_at HasLength
length_at-form bytes start place count next e =
    let first = step-ok (byte_at bytes start place) _ (count, next) e in
    let there = or_cut-ok start first.0 (slice_get bytes place) first.1 in
    elim (chosen-ok (nat_lt first.0 128) _ _ (count, next) first.2) [
      | inl (short, found) ↦
          let same = both-ok _ _ _ _ found in
          let is_count = same.0 in
          let below : first.0 < 128 = grind (arith, nat_tests) in
          inl (record { first = there ∙ ap (λ (n : ℕ). let o : Option ℕ = Some n in o) is_count; small = omega arith; end = same.1 })
      | inr long ↦ elim (chosen-ok (first.0 == 129) _ _ (count, next) long) [
        | inl (test, one) ↦
            let is_one : first.0 ≡ 129 = grind arith in
            inr (one_byte_length-form bytes start place count next (there ∙ ap (λ (n : ℕ). let o : Option ℕ = Some n in o) is_one) one)
        | inr more ↦ elim (chosen-ok (first.0 == 130) _ _ (count, next) more) [
          | inl (test, two) ↦
              let is_two : first.0 ≡ 130 = grind arith in
              inr (two_byte_length-form bytes start place count next (there ∙ ap (λ (n : ℕ). let o : Option ℕ = Some n in o) is_two) two)
          | inr bad ↦ cc
        ]
      ]
    ]

short_count : (count : ℕ) → count < 256 → length (length_bytes count) ≤ 2
short_count count small = grind (arith, nat_tests)

shortest_count : (count : ℕ) → count < 128 → length (length_bytes count) ≡ 1
shortest_count count small = grind (arith, nat_tests)

pub any_count : (count : ℕ) → length (length_bytes count) ≤ 3
any_count count = grind (arith, nat_tests)

one_byte_length-least : (bytes : List ℕ) (start place count next : ℕ) → AreBytes bytes → one_byte_length bytes start place ≡ Ok (count, next) → place + length (length_bytes count) ≤ next
unfolding one_byte_length
one_byte_length-least bytes start place count next all e =
    let step = step-ok (byte_at bytes start (place + 1)) _ (count, next) e in
    let low = byte_at-read bytes start (place + 1) step.0 all step.1 in
    let same = both-ok _ _ _ _ step.2 in
    let is_count = same.0 in
    let end = same.1 in
    let small = low.small in
    let few = short_count count (omega arith) in
    omega arith

two_byte_length-least : (bytes : List ℕ) (start place count next : ℕ) → two_byte_length bytes start place ≡ Ok (count, next) → place + length (length_bytes count) ≤ next
unfolding two_byte_length
two_byte_length-least bytes start place count next e =
    let high = step-ok (byte_at bytes start (place + 1)) _ (count, next) e in
    let low = step-ok (byte_at bytes start (place + 2)) _ (count, next) high.2 in
    let same = both-ok _ _ _ _ low.2 in
    let end = same.1 in
    let few = any_count count in
    omega arith

long_length-least : (bytes : List ℕ) (start place first count next : ℕ) → AreBytes bytes → long_length bytes start place first ≡ Ok (count, next) → place + length (length_bytes count) ≤ next
unfolding long_length
long_length-least bytes start place first count next all e =
    elim (chosen-ok (first == 129) _ _ (count, next) e) [
      | inl (test, one) ↦ one_byte_length-least bytes start place count next all one
      | inr more ↦ elim (chosen-ok (first == 130) _ _ (count, next) more) [
        | inl (test, two) ↦ two_byte_length-least bytes start place count next two
        | inr bad ↦ cc
      ]
    ]

length_at-least : (bytes : List ℕ) (start place count next : ℕ) → AreBytes bytes → length_at bytes start place ≡ Ok (count, next) → place + length (length_bytes count) ≤ next
unfolding length_at
length_at-least bytes start place count next all e =
    let step = step-ok (byte_at bytes start place) _ (count, next) e in
    elim (chosen-ok (nat_lt step.0 128) _ _ (count, next) step.2) [
      | inl (short, found) ↦
          let same = both-ok _ _ _ _ found in
          let is_count = same.0 in
          let end = same.1 in
          let below : step.0 < 128 = grind (arith, nat_tests) in
          let one = shortest_count count (omega arith) in
          omega arith
      | inr long ↦ long_length-least bytes start place step.0 count next all long
    ]

-- what `value_at` gives
record Given (tag place count : ℕ) (item : ItemData) (next : ℕ) : Type 0 where
  same_tag : item.tag ≡ tag
  same_end : place + count ≡ next

value_at-given : (bytes : List ℕ) (start tag place count : ℕ) (item : ItemData) (next : ℕ) → value_at bytes start tag place count ≡ Ok (item, next) → Given tag place count item next
unfolding value_at
value_at-given bytes start tag place count item next e =
    elim (chosen-ok (nat_le (place + count) (length bytes)) _ _ _ e) [
      | inl (fits, stands) ↦
          let pair : ◌≡◌ {A = ItemData × ℕ} (record { tag = tag; value = slice_range bytes place (place + count); start = start }, place + count) (item, next) = cc stands in
          record { same_tag = sym (ap (λ p. p.0.tag) pair); same_end = ap (λ p. p.1) pair }
      | inr cut ↦ cc
    ]

value_at-counts : (bytes : List ℕ) (start tag place count : ℕ) (item : ItemData) (next : ℕ) → value_at bytes start tag place count ≡ Ok (item, next) → length item.value ≡ count
unfolding value_at
value_at-counts bytes start tag place count item next e =
    elim (chosen-ok (nat_le (place + count) (length bytes)) _ _ _ e) [
      | inl (fits, stands) ↦
          let pair : ◌≡◌ {A = ItemData × ℕ} (record { tag = tag; value = slice_range bytes place (place + count); start = start }, place + count) (item, next) = cc stands in
          let same_value : slice_range bytes place (place + count) ≡ item.value = ap (λ p. p.0.value) pair in
          let within : place + count ≤ length bytes = grind arith in
          let counted : length (slice_range bytes place (place + count)) ≡ count = simp (length-take, length-drop) (omega arith) in
          sym (ap length same_value) ∙ counted
      | inr cut ↦ cc
    ]

pub item_at-length : (bytes : List ℕ) (start : ℕ) (item : ItemData) (next : ℕ) → AreBytes bytes → item_at bytes start ≡ Ok (item, next)
    → HasLength bytes (start + length (tag_bytes item.tag)) (length item.value) (next - length item.value)
unfolding item_at
item_at-length bytes start item next all e =
    let tag = step-ok (tag_at bytes start) _ (item, next) e in
    let count = step-ok (length_at bytes start tag.0.1) _ (item, next) tag.2 in
    let of_tag = tag_at-spelled bytes start tag.0.0 tag.0.1 all tag.1 in
    let given = value_at-given bytes start tag.0.0 count.0.1 count.0.0 item next count.2 in
    let counts = value_at-counts bytes start tag.0.0 count.0.1 count.0.0 item next count.2 in
    let of_value = given.same_end in
    same_length bytes tag.0.1 count.0.0 count.0.1 (length_at-form bytes start tag.0.1 count.0.0 count.0.1 count.1)
    (start + length (tag_bytes item.tag)) (length item.value) (next - length item.value)
    (sym of_tag.passed ∙ ap (λ t. start + length (tag_bytes t)) (sym given.same_tag)) (sym counts) (omega arith)

-- the same of what a call returned
pub length_where_ok : (bytes : List ℕ) (start tag place count from : ℕ) (result : Result (Item × ℕ) TlvFault) → AreBytes bytes → tag_at bytes start ≡ Ok (tag, place) → length_at bytes start place ≡ Ok (count, from)
    → MatchResult result (λ r. value_at bytes start tag from count ≡ Ok (seen r.0, r.1)) (λ fault. value_at bytes start tag from count ≡ Err fault)
    → IfOk result (λ r. HasLength bytes (start + length (tag_bytes r.0.tag.0)) (length r.0.value.now) (r.1 - length r.0.value.now))
length_where_ok bytes start tag place count from (Ok (item, next)) all is_tag is_length is_value =
    item_at-length bytes start (seen item) next all (item_of_parts bytes start place from tag count next (seen item) is_tag is_length is_value)
length_where_ok bytes start tag place count from (Err fault) all is_tag is_length is_value = tt

written_by : (tag : ℕ) (value : List ℕ) (same_tag count : ℕ) → tag ≡ same_tag → length value ≡ count
    → length (written tag value) ≡ length (tag_bytes same_tag) + length (length_bytes count) + count
unfolding written
written_by tag value same_tag count e counts =
    rw (← e, ← counts) (simp length-append (omega arith))

-- an object's bytes are at least as many as those that are written for it
pub item_at-least : (bytes : List ℕ) (start : ℕ) (item : ItemData) (next : ℕ) → AreBytes bytes → item_at bytes start ≡ Ok (item, next) → start + length (written item.tag item.value) ≤ next
unfolding item_at
item_at-least bytes start item next all e =
    let tag = step-ok (tag_at bytes start) _ (item, next) e in
    let count = step-ok (length_at bytes start tag.0.1) _ (item, next) tag.2 in
    let of_tag = tag_at-spelled bytes start tag.0.0 tag.0.1 all tag.1 in
    let of_length = length_at-least bytes start tag.0.1 count.0.0 count.0.1 all count.1 in
    let given = value_at-given bytes start tag.0.0 count.0.1 count.0.0 item next count.2 in
    let counts = value_at-counts bytes start tag.0.0 count.0.1 count.0.0 item next count.2 in
    let of_value = given.same_end in
    let passed = of_tag.passed in
    let whole = written_by item.tag item.value tag.0.0 count.0.0 given.same_tag counts in
    omega arith
