-- No value of an object is longer than the byte string that the object is read from.
use Rattle.std.proofs.Common.{◌≡◌, ℕ, zero, suc, ◌+◌, ◌-◌, ◌≤◌, ◌==◌, true, false, if◌then◌else◌, List, length, take, Option, Some, None, Result, Ok, Err, slice_get, refl, arith}
use Rattle.std.specs.Prelude.{⊤}
use Rattle.std.specs.List.{AllByRecursion}
use Rattle.std.proofs.lemmas.List.{length-take-le}
use Rattle.ber_tlv.specs.Item.{ItemData, ◌>>=◌, item_at}
use Rattle.ber_tlv.specs.Left.{then_left, by_byte, items_from, items_behind, items_of}
use Rattle.ber_tlv.specs.Tag.{names_template}
use Rattle.ber_tlv.specs.Walked.{Walked, Done, Broken, Met, then_walked, walk_by_byte, met_object, walk_from, walk_behind, walk_of}
use Rattle.ber_tlv.specs.declared.item.TlvFault.{TlvFault}
use Rattle.ber_tlv.proofs.ItemBounds.{item_at-lies, lies-length}

-- each value of a walk has at most this many bytes
abbrev pub WalkShort : ℕ → Walked → Type 0
WalkShort most Done = ⊤
WalkShort most (Broken fault) = ⊤
WalkShort most (Met item rest) = (length item.value ≤ most) × WalkShort most rest

-- the same of objects in a row, where the bytes are such
abbrev pub ItemsShort : ℕ → Result (List ItemData) TlvFault → Type 0
ItemsShort most (Ok items) = AllByRecursion (λ item. length item.value ≤ most) items
ItemsShort most (Err fault) = ⊤

item_at-short : (most : ℕ) (bytes : List ℕ) (place : ℕ) (item : ItemData) (next : ℕ) → length bytes ≤ most + 2 → item_at bytes place ≡ Ok (item, next)
    → (length item.value ≤ most) × (length (take next bytes) ≤ most + 2)
item_at-short most bytes place item next fits stands =
    let lies = item_at-lies bytes place item next stands in
    let whole = lies-length bytes place item next lies in
    let within = lies.within in
    let header = lies.header in
    let upward = lies.upward in
    let shorter = length-take-le next bytes within in
    (omega arith, omega arith)

then_walked-short : (most : ℕ) (front behind : Walked) → WalkShort most front → WalkShort most behind → WalkShort most (then_walked front behind)
then_walked-short most Done behind p q = q
then_walked-short most (Broken fault) behind p q = tt
then_walked-short most (Met item rest) behind p q = (p.0, then_walked-short most rest behind p.1 q)

walk_by_byte-short : (most : ℕ) (byte : Option ℕ) (padding object : Walked) → WalkShort most padding → WalkShort most object → WalkShort most (walk_by_byte byte padding object)
walk_by_byte-short most None padding object p q = tt
walk_by_byte-short most (Some byte) padding object p q = elim (byte == 0) as (λ b. WalkShort most (if b then padding else object)) [ true ↦ p | false ↦ q ]

met_object-short : (most : ℕ) (read : Result (ItemData × ℕ) TlvFault) (inside behind : ItemData × ℕ → Walked)
    → ((found : ItemData × ℕ) → read ≡ Ok found → (length found.0.value ≤ most) × WalkShort most (inside found) × WalkShort most (behind found))
    → WalkShort most (met_object read inside behind)
met_object-short most (Ok found) inside behind each =
    let short = each found refl in
    let within : WalkShort most (if names_template found.0.tag then inside found else Done) =
    elim (names_template found.0.tag) as (λ b. WalkShort most (if b then inside found else Done)) [ true ↦ short.1 | false ↦ tt ] in
    (short.0, then_walked-short most (if names_template found.0.tag then inside found else Done) (behind found) within short.2)
met_object-short most (Err fault) inside behind each = tt

walk_from-short : (most count : ℕ) (bytes : List ℕ) (place : ℕ) → length bytes ≤ most + 2 → WalkShort most (walk_from count bytes place)
unfolding walk_from
walk_from-short most zero bytes place fits = tt
walk_from-short most (suc count) bytes place fits =
    walk_by_byte-short most (slice_get bytes place) _ _
    (walk_from-short most count bytes (place + 1) fits)
    (met_object-short most (item_at bytes place) _ _ (λ found stands.
    let short = item_at-short most bytes place found.0 found.1 fits stands in (
      short.0,
      walk_from-short most count (take found.1 bytes) (found.1 - length found.0.value) short.1,
      walk_from-short most count bytes found.1 fits,
    )))

-- each value has two bytes less than the string, or more
pub walk_values_fit : (most : ℕ) (bytes : List ℕ) → length bytes ≤ most + 2 → WalkShort most (walk_of bytes)
unfolding walk_behind
walk_values_fit most bytes fits = walk_from-short most (suc (length bytes)) bytes 0 fits

pub walk_values_short : (most : ℕ) (bytes : List ℕ) → length bytes ≤ most → WalkShort most (walk_of bytes)
walk_values_short most bytes fits = walk_values_fit most bytes (omega arith)

then_left-short : (most : ℕ) (item : ItemData) (left : Result (List ItemData) TlvFault) → length item.value ≤ most → ItemsShort most left → ItemsShort most (then_left item left)
then_left-short most item (Ok items) here rest = (here, rest)
then_left-short most item (Err fault) here rest = tt

by_byte-short : (most : ℕ) (byte : Option ℕ) (padding object : Result (List ItemData) TlvFault) → ItemsShort most padding → ItemsShort most object → ItemsShort most (by_byte byte padding object)
by_byte-short most None padding object p q = tt
by_byte-short most (Some byte) padding object p q = elim (byte == 0) as (λ b. ItemsShort most (if b then padding else object)) [ true ↦ p | false ↦ q ]

step-short : (most : ℕ) (read : Result (ItemData × ℕ) TlvFault) (behind : ItemData × ℕ → Result (List ItemData) TlvFault)
    → ((found : ItemData × ℕ) → read ≡ Ok found → ItemsShort most (behind found)) → ItemsShort most (read >>= behind)
step-short most (Ok found) behind each = each found refl
step-short most (Err fault) behind each = tt

items_from-short : (most count : ℕ) (bytes : List ℕ) (place : ℕ) → length bytes ≤ most → ItemsShort most (items_from count bytes place)
unfolding items_from
items_from-short most zero bytes place fits = tt
items_from-short most (suc count) bytes place fits =
    by_byte-short most (slice_get bytes place) _ _
    (items_from-short most count bytes (place + 1) fits)
    (step-short most (item_at bytes place) _ (λ found stands.
    let short = item_at-short most bytes place found.0 found.1 (omega arith) stands in
    then_left-short most found.0 (items_from count bytes found.1) short.0 (items_from-short most count bytes found.1 fits)))

pub item_values_short : (most : ℕ) (bytes : List ℕ) → length bytes ≤ most → ItemsShort most (items_of bytes)
unfolding items_behind
item_values_short most bytes fits = items_from-short most (suc (length bytes)) bytes 0 fits
