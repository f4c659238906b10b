-- Each part of a message is read back, and what was read is spelled.
use Rattle.std.proofs.Common.{◌≡◌, ℕ, Bool, true, false, ◌+◌, ◌<◌, ◌≤◌, nat_le, List, [], ◌∷◌, ◌++◌, length, take, drop, Ok, Err, Result, refl, sym, ap, ◌∙◌, arith, length-append, append_assoc, append-nil, length-take, take-append-drop, bytes_eq, ◌==◌}
use Rattle.std.proofs.Math.Seq.{take-append_seam, drop-append_seam}
use Rattle.std.proofs.lemmas.Bool.{le-leb}
use Rattle.std.proofs.lemmas.Bool.Decides.{nat_tests}
use Rattle.std.proofs.lemmas.Slice.Eq.{bytes_eq-Decides}
use Rattle.ber_tlv.specs.Item.{ItemData}
use Rattle.ber_tlv.specs.Left.{items_of, items_behind}
use Rattle.ber_tlv.specs.declared.item.TlvFault.{TlvFault}
use Rattle.ber_tlv.specs.Written.{written}
use Rattle.ber_tlv.proofs.Reading.{no_zeros, left-end}
use Rattle.emv_dict.specs.Bcd.{number_of_digits}
use Rattle.auth_message.specs.Spelling.{spelled}
use Rattle.auth_message.proofs.Spelled.{placed, are_tags, read_fields}
use Rattle.iso_message.specs.declared.fault.IsoFault.TheVariants.{Field, Bitmap, Rest}
use Rattle.iso_message.specs.Left.{Left, only_if, part_from, part_at, digits_part_at, counted_at, bits_at, items_at, as_written, nothing_left}
use Rattle.iso_message.specs.Pairs.{pairs}
use Rattle.iso_message.specs.Text.{digit_characters, values, are_numerals, decimal_digits, with_length}
use Rattle.iso_message.proofs.Numerals.{at_most, two_read, four_read, two_spelled, four_spelled, text_values, text_numerals, text_length, decimals, decimals_length}
use Rattle.iso_message.proofs.Steps.{made_of, holds_only}

-- what is left from a place on
abbrev pub left : ℕ → List ℕ → Left
left place bytes = record { place = place; bytes = bytes }

pub same_bytes : (bytes : List ℕ) → bytes_eq bytes bytes ≡ true
same_bytes bytes = (bytes_eq-Decides bytes bytes).1 refl

pub equal_bytes : (a b : List ℕ) → bytes_eq a b ≡ true → a ≡ b
equal_bytes a b = (bytes_eq-Decides a b).0

pub part_again : (start place : ℕ) (front rest : List ℕ) (count : ℕ) → length front ≡ count → part_from start count (left place (front ++ rest)) ≡ Ok (front, left (place + count) rest)
unfolding part_from
part_again start place front rest count size =
    let room : nat_le count (length (front ++ rest)) ≡ true = le-leb count (length (front ++ rest)) (omega (arith, length-append front rest)) in
    let first : take count (front ++ rest) ≡ front = ap (λ n. take n (front ++ rest)) (sym size) ∙ take-append_seam front rest in
    let last : drop count (front ++ rest) ≡ rest = ap (λ n. drop n (front ++ rest)) (sym size) ∙ drop-append_seam front rest in
    rw (room, first, last) refl

pub digits_again :
    (field place : ℕ) (front rest : List ℕ) (count : ℕ) → length front ≡ count → are_numerals front ≡ true → digits_part_at field count (left place (front ++ rest)) ≡ Ok (front, left (place + count) rest)
unfolding digits_part_at
digits_again field place front rest count size all = rw (part_again place place front rest count size, all) refl

-- a content behind its length in these digits
counted_by :
    (field count place : ℕ) (digits content rest : List ℕ) → length (digit_characters digits) ≡ count → are_numerals (digit_characters digits) ≡ true → number_of_digits (values (digit_characters digits)) ≡ length content
    → counted_at field count (left place ((digit_characters digits ++ content) ++ rest)) ≡ Ok (content, left ((place + count) + length content) rest)
unfolding counted_at
counted_by field count place digits content rest size all number =
    let parts : (digit_characters digits ++ content) ++ rest ≡ digit_characters digits ++ (content ++ rest) = append_assoc (digit_characters digits) content rest in
    rw (parts, digits_again field place (digit_characters digits) (content ++ rest) count size all, number) (part_again place (place + count) content rest (length content) refl)

pub two_counted : (field place : ℕ) (content rest : List ℕ) → length content < 100 → counted_at field 2 (left place (with_length 2 content ++ rest)) ≡ Ok (content, left ((place + 2) + length content) rest)
unfolding with_length
two_counted field place content rest small =
    let digits = decimal_digits 2 (length content) in
    counted_by field 2 place digits content rest (text_length digits ∙ decimals_length 2 (length content)) (text_numerals digits (decimals 2 (length content)))
    (ap number_of_digits (text_values digits (decimals 2 (length content))) ∙ two_read (length content) small)

pub four_counted : (field place : ℕ) (content rest : List ℕ) → length content < 10000 → counted_at field 4 (left place (with_length 4 content ++ rest)) ≡ Ok (content, left ((place + 4) + length content) rest)
unfolding with_length
four_counted field place content rest small =
    let digits = decimal_digits 4 (length content) in
    counted_by field 4 place digits content rest (text_length digits ∙ decimals_length 4 (length content)) (text_numerals digits (decimals 4 (length content)))
    (ap number_of_digits (text_values digits (decimals 4 (length content))) ∙ four_read (length content) small)

pub bits_again : (place : ℕ) (bits rest : List ℕ) → length bits ≡ 8 → bits_at bits (left place (bits ++ rest)) ≡ Ok (left (place + 8) rest)
unfolding bits_at
bits_again place bits rest size = rw (part_again place place bits rest 8 size, same_bytes bits) refl

-- the pairs of placed fields are the fields
pub pairs_placed : (place : ℕ) (fields : List (ℕ × List ℕ)) → pairs (placed place fields) ≡ fields
pairs_placed place [] = refl
pairs_placed place (field ∷ fields) = ap (λ (others : List (ℕ × List ℕ)). field ∷ others) (pairs_placed (place + length (written field.0 field.1)) fields)

-- the items of fields that are spelled
pub fields_of : (fields : List (ℕ × List ℕ)) → are_tags fields ≡ true → items_of (spelled fields) ≡ Ok (placed 0 fields)
fields_of fields are =
    let bytes = spelled fields in
    let end : items_behind bytes (0 + length bytes) ≡ Ok [] = ap (items_behind bytes) (omega arith) ∙ left-end bytes (length bytes) (no_zeros bytes (length bytes) (omega arith)) in
    read_fields fields [] [] bytes [] are (sym (append-nil bytes)) end ∙ ap Ok (append-nil (placed 0 fields))

pub items_again :
    (place : ℕ) (fields : List (ℕ × List ℕ)) (rest : List ℕ) → are_tags fields ≡ true → length (spelled fields) < 10000
    → items_at (left place (with_length 4 (spelled fields) ++ rest)) ≡ Ok ((spelled fields, placed 0 fields), left ((place + 4) + length (spelled fields)) rest)
unfolding items_at
items_again place fields rest are small =
    rw (four_counted 55 place (spelled fields) rest small, fields_of fields are, pairs_placed 0 fields, same_bytes (spelled fields)) refl

-- a part that was read stands at the front
pub record IsPart (count : ℕ) (before : Left) (part : List ℕ) (after : Left) : Type 0 where
  pub front : before.bytes ≡ part ++ after.bytes
  pub size : length part ≡ count

length_taken : (count : ℕ) (bytes : List ℕ) → count ≤ length bytes → length (take count bytes) ≡ count
length_taken count bytes within = omega (arith, length-take count bytes)

part_by : (start count : ℕ) (before : Left) (part : List ℕ) (after : Left) (room : Bool) → nat_le count (length before.bytes) ≡ room → part_from start count before ≡ Ok (part, after) → IsPart count before part after
unfolding part_from
part_by start count before part after true room is =
    let here = rw room at is in
    let same : (take count before.bytes, left (before.place + count) (drop count before.bytes)) ≡ (part, after) = cc in
    let first : take count before.bytes ≡ part = ap (λ (p : List ℕ × Left). p.0) same in
    let last : drop count before.bytes ≡ after.bytes = ap (λ (p : List ℕ × Left). p.1.bytes) same in
    record {
      front = sym (take-append-drop count before.bytes) ∙ ap (λ b. b ++ drop count before.bytes) first ∙ ap (λ b. part ++ b) last;
      size = ap length (sym first) ∙ length_taken count before.bytes (at_most count (length before.bytes) room);
    }
part_by start count before part after false room is = let here = rw room at is in cc

pub part_spelled : (start count : ℕ) (before : Left) (part : List ℕ) (after : Left) → part_from start count before ≡ Ok (part, after) → IsPart count before part after
part_spelled start count before part after is = part_by start count before part after _ refl is

pub record AreDigitsAt (count : ℕ) (before : Left) (part : List ℕ) (after : Left) : Type 0 where
  pub stands : IsPart count before part after
  pub numerals : are_numerals part ≡ true

pub digits_spelled : (field count : ℕ) (before : Left) (part : List ℕ) (after : Left) → digits_part_at field count before ≡ Ok (part, after) → AreDigitsAt count before part after
unfolding digits_part_at
digits_spelled field count before part after is =
    let first = made_of (part_at count before) _ (part, after) is in
    let second = made_of (only_if (are_numerals first.value.0) (Field field)) _ (part, after) first.behind in
    let same : first.value ≡ (part, after) = cc in
    let right = holds_only (are_numerals first.value.0) (Field field) second.value second.made in
    record {
      stands = part_spelled before.place count before part after (first.made ∙ ap Ok same);
      numerals = ap (λ (p : List ℕ × Left). are_numerals p.0) (sym same) ∙ right;
    }

-- the length that was read, and the content behind it
record HasSize (count : ℕ) (before : Left) (content : List ℕ) (after : Left) : Type 0 where
  size : List ℕ
  digits : length size ≡ count
  numerals : are_numerals size ≡ true
  number : number_of_digits (values size) ≡ length content
  front : before.bytes ≡ size ++ (content ++ after.bytes)

sized : (field count : ℕ) (before : Left) (content : List ℕ) (after : Left) → counted_at field count before ≡ Ok (content, after) → HasSize count before content after
unfolding counted_at
sized field count before content after is =
    let first = made_of (digits_part_at field count before) _ (content, after) is in
    let length_is = digits_spelled field count before first.value.0 first.value.1 first.made in
    let second = part_spelled before.place (number_of_digits (values first.value.0)) first.value.1 content after first.behind in
    record {
      size = first.value.0;
      digits = length_is.stands.size;
      numerals = length_is.numerals;
      number = sym second.size;
      front = length_is.stands.front ∙ ap (λ b. first.value.0 ++ b) second.front;
    }

pub two_counted_spelled : (field : ℕ) (before : Left) (content : List ℕ) (after : Left) → counted_at field 2 before ≡ Ok (content, after) → before.bytes ≡ with_length 2 content ++ after.bytes
unfolding with_length
two_counted_spelled field before content after is =
    let has = sized field 2 before content after is in
    let again : digit_characters (decimal_digits 2 (length content)) ≡ has.size = ap (λ n. digit_characters (decimal_digits 2 n)) (sym has.number) ∙ two_spelled has.size has.digits has.numerals in
    has.front ∙ ap (λ b. b ++ (content ++ after.bytes)) (sym again) ∙ sym (append_assoc (digit_characters (decimal_digits 2 (length content))) content after.bytes)

pub four_counted_spelled : (field : ℕ) (before : Left) (content : List ℕ) (after : Left) → counted_at field 4 before ≡ Ok (content, after) → before.bytes ≡ with_length 4 content ++ after.bytes
unfolding with_length
four_counted_spelled field before content after is =
    let has = sized field 4 before content after is in
    let again : digit_characters (decimal_digits 4 (length content)) ≡ has.size = ap (λ n. digit_characters (decimal_digits 4 n)) (sym has.number) ∙ four_spelled has.size has.digits has.numerals in
    has.front ∙ ap (λ b. b ++ (content ++ after.bytes)) (sym again) ∙ sym (append_assoc (digit_characters (decimal_digits 4 (length content))) content after.bytes)

pub bits_spelled : (bits : List ℕ) (before after : Left) → bits_at bits before ≡ Ok after → before.bytes ≡ bits ++ after.bytes
unfolding bits_at
bits_spelled bits before after is =
    let first = made_of (part_at 8 before) _ after is in
    let second = made_of (only_if (bytes_eq first.value.0 bits) Bitmap) _ after first.behind in
    let last : first.value.1 ≡ after = cc in
    let same = equal_bytes first.value.0 bits (holds_only (bytes_eq first.value.0 bits) Bitmap second.value second.made) in
    let part = part_spelled before.place 8 before first.value.0 first.value.1 first.made in
    part.front ∙ ap (λ b. b ++ first.value.1.bytes) same ∙ ap (λ (l : Left). bits ++ l.bytes) last

-- the items of field 55 are its content
pub record HasItems (before : Left) (content : List ℕ) (items : List ItemData) (after : Left) : Type 0 where
  pub front : before.bytes ≡ with_length 4 content ++ after.bytes
  pub listed : items_of content ≡ Ok items
  pub exact : content ≡ spelled (pairs items)

written_if : (content : List ℕ) (found items : List ItemData) (same : Bool) → bytes_eq (spelled (pairs found)) content ≡ same → as_written content (Ok found) ≡ Ok items
    → (found ≡ items) × (content ≡ spelled (pairs items))
written_if content found items true same is =
    let here = rw same at is in
    let found_is : found ≡ items = cc in
    (found_is, sym (equal_bytes (spelled (pairs found)) content same) ∙ ap (λ (l : List ItemData). spelled (pairs l)) found_is)
written_if content found items false same is = let here = rw same at is in cc

written_by : (content : List ℕ) (found : Result (List ItemData) TlvFault) (items : List ItemData) → as_written content found ≡ Ok items → (found ≡ Ok items) × (content ≡ spelled (pairs items))
written_by content (Ok found) items is =
    let same = written_if content found items (bytes_eq (spelled (pairs found)) content) refl is in
    (ap Ok same.0, same.1)
written_by content (Err fault) items is = cc

pub items_spelled : (before : Left) (content : List ℕ) (items : List ItemData) (after : Left) → items_at before ≡ Ok ((content, items), after) → HasItems before content items after
unfolding items_at
items_spelled before content items after is =
    let first = made_of (counted_at 55 4 before) _ ((content, items), after) is in
    let second = made_of (as_written first.value.0 (items_of first.value.0)) _ ((content, items), after) first.behind in
    let same : ((first.value.0, second.value), first.value.1) ≡ ((content, items), after) = cc in
    let content_is : first.value.0 ≡ content = ap (λ (p : (List ℕ × List ItemData) × Left). p.0.0) same in
    let items_is : second.value ≡ items = ap (λ (p : (List ℕ × List ItemData) × Left). p.0.1) same in
    let after_is : first.value.1 ≡ after = ap (λ (p : (List ℕ × List ItemData) × Left). p.1) same in
    let found = written_by first.value.0 (items_of first.value.0) second.value second.made in
    record {
      front = four_counted_spelled 55 before content after (first.made ∙ ap (λ c. Ok (c, first.value.1)) content_is ∙ ap (λ l. Ok (content, l)) after_is);
      listed = ap items_of (sym content_is) ∙ found.0 ∙ ap Ok items_is;
      exact = sym content_is ∙ found.1 ∙ ap (λ (l : List ItemData). spelled (pairs l)) items_is;
    }

empty : (bytes : List ℕ) → (length bytes == 0) ≡ true → bytes ≡ []
empty [] none = refl
empty (b ∷ bytes) none = let size : length (b ∷ bytes) ≡ 0 = grind (arith, nat_tests) in absurd (omega arith)

pub nothing_spelled : (before : Left) (u : Unit {0}) → nothing_left before ≡ Ok u → before.bytes ≡ []
nothing_spelled before u is = empty before.bytes (holds_only (length before.bytes == 0) (Rest before.place) u is)
