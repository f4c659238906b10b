-- A data object as it is written is read again, wherever it stands.
use Rattle.std.proofs.Common.{◌≡◌, ℕ, suc, Bool, true, false, ◌&&◌, not, IsTrue, ◌+◌, ◌-◌, ◌*◌, ◌/◌, ◌%◌, ◌==◌, ◌<◌, nat_lt, nat_le, List, [], ◌∷◌, ◌++◌, length, take, Some, Ok, slice_get, refl, arith, ap, ◌∙◌, append_assoc, length-append}
use Rattle.std.proofs.lemmas.Bool.{le-leb}
use Rattle.std.proofs.Math.Seq.{drop-append_seam}
use Rattle.ber_tlv.specs.Item.{ItemData, byte_at, tag_at, second_tag_byte, third_tag_byte, length_at, long_length, one_byte_length, two_byte_length, value_at, item_at}
use Rattle.ber_tlv.specs.Tag.{is_readable}
use Rattle.ber_tlv.specs.Written.{tag_bytes, length_bytes, written}

slice_get-behind : (front ys : List ℕ) (k : ℕ) → slice_get (front ++ ys) (length front + k) ≡ slice_get ys k
slice_get-behind [] ys k = ap (slice_get ys) (omega arith)
slice_get-behind (x ∷ front) ys k =
    ap (slice_get (x ∷ front ++ ys)) {y = suc (length front + k)} (omega arith) ∙ slice_get-behind front ys k

at_first : (front rest : List ℕ) (x : ℕ) → slice_get (front ++ x ∷ rest) (length front) ≡ Some x
at_first front rest x = ap (slice_get (front ++ x ∷ rest)) (omega arith) ∙ slice_get-behind front (x ∷ rest) 0

at_second : (front rest : List ℕ) (x y : ℕ) → slice_get (front ++ x ∷ y ∷ rest) (length front + 1) ≡ Some y
at_second front rest x y = slice_get-behind front (x ∷ y ∷ rest) 1

at_third : (front rest : List ℕ) (x y z : ℕ) → slice_get (front ++ x ∷ y ∷ z ∷ rest) (length front + 2) ≡ Some z
at_third front rest x y z = slice_get-behind front (x ∷ y ∷ z ∷ rest) 2

tag_of_one : (front rest : List ℕ) (x : ℕ) → (x % 32 == 31) ≡ false → tag_at (front ++ x ∷ rest) (length front) ≡ Ok (x, length front + 1)
unfolding tag_at byte_at
tag_of_one front rest x last = rw (at_first front rest x, last) refl

tag_of_two : (front rest : List ℕ) (x y tag : ℕ) → x * 256 + y ≡ tag → (x % 32 == 31) ≡ true → nat_lt y 128 ≡ true → tag_at (front ++ x ∷ y ∷ rest) (length front) ≡ Ok (tag, length front + 2)
unfolding tag_at second_tag_byte byte_at
tag_of_two front rest x y tag whole more last = rw (at_first front (y ∷ rest) x, more, at_second front rest x y, last, whole) refl

tag_of_three : (front rest : List ℕ) (x y z tag : ℕ) → (x * 256 + y) * 256 + z ≡ tag → (x % 32 == 31) ≡ true → nat_lt y 128 ≡ false → nat_lt z 128 ≡ true → tag_at (front ++ x ∷ y ∷ z ∷ rest) (length front) ≡ Ok (tag, length front + 3)
unfolding tag_at second_tag_byte third_tag_byte byte_at
tag_of_three front rest x y z tag whole more third last =
    rw (at_first front (y ∷ z ∷ rest) x, more, at_second front (z ∷ rest) x y, third, at_third front rest x y z, last, whole) refl

length_of_one : (front rest : List ℕ) (start x : ℕ) → nat_lt x 128 ≡ true → length_at (front ++ x ∷ rest) start (length front) ≡ Ok (x, length front + 1)
unfolding length_at byte_at
length_of_one front rest start x short = rw (at_first front rest x, short) refl

length_of_two : (front rest : List ℕ) (start x : ℕ) → length_at (front ++ 129 ∷ x ∷ rest) start (length front) ≡ Ok (x, length front + 2)
unfolding length_at long_length one_byte_length byte_at
length_of_two front rest start x = rw (at_first front (x ∷ rest) 129, at_second front rest 129 x) refl

length_of_three : (front rest : List ℕ) (start x y count : ℕ) → x * 256 + y ≡ count → length_at (front ++ 130 ∷ x ∷ y ∷ rest) start (length front) ≡ Ok (count, length front + 3)
unfolding length_at long_length two_byte_length byte_at
length_of_three front rest start x y count whole = rw (at_first front (x ∷ y ∷ rest) 130, at_second front (y ∷ rest) 130 x, at_third front rest 130 x y, whole) refl

pub both : (a b : Bool) → (a && b) ≡ true → (a ≡ true) × (b ≡ true)
both true b e = (refl, e)
both false b e = cc

is_not : (a : Bool) → not a ≡ true → a ≡ false
is_not true e = cc
is_not false e = refl

not_below : (n : ℕ) → nat_le 128 n ≡ true → nat_lt n 128 ≡ false
not_below n e = grind arith

three_bytes : (tag : ℕ) → nat_lt tag 16777216 ≡ true → tag / 65536 % 256 ≡ tag / 65536
three_bytes tag below = let small : tag < 16777216 = grind (arith, below) in omega arith

tag_read : (front rest : List ℕ) (tag : ℕ) (p q : Bool) → nat_lt tag 256 ≡ p → nat_lt tag 65536 ≡ q → IsTrue (is_readable tag) → tag_at (front ++ (tag_bytes tag ++ rest)) (length front) ≡ Ok (tag, length front + length (tag_bytes tag))
tag_read front rest tag true q one two readable =
    let facts = both (nat_lt 0 tag) _ (rw one at readable) in
    rw one (tag_of_one front rest tag (is_not _ facts.1))
tag_read front rest tag false true one two readable =
    let facts = both (tag / 256 % 32 == 31) _ (rw (one, two) at readable) in
    rw (one, two) (tag_of_two front rest (tag / 256) (tag % 256) tag (omega arith) facts.0 facts.1)
tag_read front rest tag false false one two readable =
    let facts = both _ (nat_lt (tag % 256) 128) (rw (one, two) at readable) in
    let third = both _ (nat_le 128 (tag / 256 % 256)) facts.0 in
    let first = both (nat_lt tag 16777216) (tag / 65536 % 32 == 31) third.0 in
    let two_and_more : nat_lt (tag / 256 % 256) 128 ≡ false = not_below _ third.1 in
    let one_byte : tag / 65536 % 256 ≡ tag / 65536 = three_bytes tag first.0 in
    rw (one, two, one_byte) (tag_of_three front rest (tag / 65536) (tag / 256 % 256) (tag % 256) tag (omega arith) first.1 two_and_more facts.1)

-- a readable tag's bytes are read again
pub tag_again : (tag : ℕ) → IsTrue (is_readable tag) → (front rest : List ℕ) → tag_at (front ++ (tag_bytes tag ++ rest)) (length front) ≡ Ok (tag, length front + length (tag_bytes tag))
tag_again tag readable front rest = tag_read front rest tag _ _ refl refl readable

length_read : (front rest : List ℕ) (start count : ℕ) (p q : Bool) → nat_lt count 128 ≡ p → nat_lt count 256 ≡ q → length_at (front ++ (length_bytes count ++ rest)) start (length front) ≡ Ok (count, length front + length (length_bytes count))
length_read front rest start count true q one two = rw one (length_of_one front rest start count one)
length_read front rest start count false true one two = rw (one, two) (length_of_two front rest start count)
length_read front rest start count false false one two =
    rw (one, two) (length_of_three front rest start (count / 256) (count % 256) count (omega arith))

take-append_all : (xs ys : List ℕ) → take (length xs) (xs ++ ys) ≡ xs
take-append_all [] ys = refl
take-append_all (x ∷ xs) ys = ap (λ zs. x ∷ zs) (take-append_all xs ys)

value_read : (front rest value : List ℕ) (start tag : ℕ) → value_at (front ++ (value ++ rest)) start tag (length front) (length value)
    ≡ Ok (record { tag = tag; value = value; start = start }, length front + length value)
unfolding value_at
value_read front rest value start tag =
    let fits : nat_le (length front + length value) (length (front ++ (value ++ rest))) ≡ true = le-leb _ _ (simp length-append (omega arith)) in
    let count : length front + length value - length front ≡ length value = omega arith in
    let taken : take (length value) (value ++ rest) ≡ value = take-append_all value rest in
    rw (fits, count, drop-append_seam front (value ++ rest), taken) refl

pub item_of_parts : (bytes : List ℕ) (start place from tag count next : ℕ) (item : ItemData) → tag_at bytes start ≡ Ok (tag, place) → length_at bytes start place ≡ Ok (count, from) → value_at bytes start tag from count ≡ Ok (item, next) → item_at bytes start ≡ Ok (item, next)
unfolding item_at
item_of_parts bytes start place from tag count next item is_tag is_length is_value = rw (is_tag, is_length) is_value

parts_read : (front tag_part length_part value rest : List ℕ) (tag : ℕ)
    → ((behind : List ℕ) → tag_at (front ++ (tag_part ++ behind)) (length front) ≡ Ok (tag, length front + length tag_part))
    → ((before behind : List ℕ) → length_at (before ++ (length_part ++ behind)) (length front) (length before) ≡ Ok (length value, length before + length length_part))
    → item_at (front ++ (tag_part ++ length_part ++ value) ++ rest) (length front)
    ≡ Ok (record { tag = tag; value = value; start = length front }, length front + length (tag_part ++ length_part ++ value))
parts_read front tag_part length_part value rest tag is_tag is_length =
    let bytes = front ++ (tag_part ++ length_part ++ value) ++ rest in
    let before = front ++ tag_part in
    let header = before ++ length_part in
    let from_tag : front ++ (tag_part ++ (length_part ++ (value ++ rest))) ≡ bytes = simp append_assoc in
    let from_length : before ++ (length_part ++ (value ++ rest)) ≡ bytes = simp append_assoc in
    let from_value : header ++ (value ++ rest) ≡ bytes = simp append_assoc in
    let before_length : length before ≡ length front + length tag_part = length-append front tag_part in
    let header_length : length header ≡ length before + length length_part = length-append before length_part in
    let whole_length : length front + length (tag_part ++ length_part ++ value) ≡ length header + length value = simp length-append (omega arith) in
    let tag_at_front : tag_at bytes (length front) ≡ Ok (tag, length before) =
    rw (← from_tag, before_length) (is_tag (length_part ++ (value ++ rest))) in
    let length_behind : length_at bytes (length front) (length before) ≡ Ok (length value, length header) =
    rw (← from_length, header_length) (is_length before (value ++ rest)) in
    let value_behind : value_at bytes (length front) tag (length header) (length value) ≡ Ok (record { tag = tag; value = value; start = length front }, length header + length value) =
    rw (← from_value) (value_read header rest value (length front) tag) in
    rw whole_length (item_of_parts bytes (length front) (length before) (length header) tag (length value) _ _ tag_at_front length_behind value_behind)

-- what is written behind some bytes is read there, whatever stands behind it
pub item_read : (front rest : List ℕ) (tag : ℕ) (value : List ℕ) → IsTrue (is_readable tag) → item_at (front ++ written tag value ++ rest) (length front)
    ≡ Ok (record { tag = tag; value = value; start = length front }, length front + length (written tag value))
unfolding written
item_read front rest tag value readable =
    parts_read front (tag_bytes tag) (length_bytes (length value)) value rest tag
    (λ behind. tag_read front behind tag _ _ refl refl readable)
    (λ before behind. length_read before behind (length front) (length value) _ _ refl refl)

pub appended_read : (old new : List ℕ) (tag : ℕ) (value : List ℕ) → new ≡ old ++ written tag value → IsTrue (is_readable tag) → (rest : List ℕ) → item_at (new ++ rest) (length old)
    ≡ Ok (record { tag = tag; value = value; start = length old }, length new)
appended_read old new tag value appended readable rest =
    rw (appended, length-append old (written tag value)) (item_read old rest tag value readable)
