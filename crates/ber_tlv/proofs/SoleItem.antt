-- A byte string that is one object as it is written.
use Rattle.std.proofs.Common.{◌≡◌, ℕ, Bool, true, false, IsTrue, ◌/◌, ◌%◌, ◌==◌, ◌<◌, ◌≤◌, nat_lt, nat_le, List, [], ◌∷◌, length, Some, Result, Ok, refl, arith, sym, ap, ◌∙◌, append-nil, zero-add}
use Rattle.std.proofs.lemmas.Bool.Decides.{nat_tests}
use Rattle.ber_tlv.specs.Direct.{sole_value}
use Rattle.ber_tlv.specs.Item.{ItemData, item_at}
use Rattle.ber_tlv.specs.Items.{HasObjectAt, NextItem}
use Rattle.ber_tlv.specs.Left.{items_of}
use Rattle.ber_tlv.specs.Tag.{is_readable}
use Rattle.ber_tlv.specs.Written.{tag_bytes, written}
use Rattle.ber_tlv.specs.declared.item.TlvFault.{TlvFault}
use Rattle.ber_tlv.proofs.ReadAgain.{item_read, both}
use Rattle.ber_tlv.proofs.Reading.{Items-left, no_zeros}

-- a readable tag's first byte is not 00
record BeginsTag (bytes : List ℕ) : Type 0 where
  first : ℕ
  rest : List ℕ
  splits : bytes ≡ first ∷ rest
  positive : 0 < first

begins_tag : (tag : ℕ) (one two : Bool) → nat_lt tag 256 ≡ one → nat_lt tag 65536 ≡ two → IsTrue (is_readable tag) → BeginsTag (tag_bytes tag)
begins_tag tag true two p q readable =
    let facts = both (nat_lt 0 tag) _ (rw p at readable) in
    record { first = tag; rest = []; splits = rw p refl; positive = grind (arith, nat_tests, facts.0) }
begins_tag tag false true p q readable =
    let above : 256 ≤ tag = grind (arith, nat_tests) in
    record { first = tag / 256; rest = tag % 256 ∷ []; splits = rw (p, q) refl; positive = omega arith }
begins_tag tag false false p q readable =
    let above : 65536 ≤ tag = grind (arith, nat_tests) in
    let third = both _ (nat_lt (tag % 256) 128) (rw (p, q) at readable) in
    let second = both _ (nat_le 128 (tag / 256 % 256)) third.0 in
    let first = both (nat_lt tag 16777216) (tag / 65536 % 32 == 31) second.0 in
    let small : tag < 16777216 = grind (arith, nat_tests, first.0) in
    record { first = tag / 65536 % 256; rest = tag / 256 % 256 ∷ tag % 256 ∷ []; splits = rw (p, q) refl; positive = omega arith }

written_begins : (tag : ℕ) (value : List ℕ) → IsTrue (is_readable tag) → HasObjectAt (written tag value) 0
unfolding written
written_begins tag value readable =
    let tag_begins = begins_tag tag (nat_lt tag 256) (nat_lt tag 65536) refl refl readable in
    record { byte = tag_begins.first; there = rw tag_begins.splits refl; not_zero = tag_begins.positive }

-- its objects are that one alone
items_of-written : (tag : ℕ) (value : List ℕ) → IsTrue (is_readable tag) → items_of (written tag value) ≡ Ok (record { tag = tag; value = value; start = 0 } ∷ [])
items_of-written tag value readable =
    let bytes = written tag value in
    let item : ItemData = record { tag = tag; value = value; start = 0 } in
    let stands : item_at bytes 0 ≡ Ok (item, length bytes) = ap (λ b. item_at b 0) (sym (append-nil bytes)) ∙ item_read [] [] tag value readable
    ∙ ap (λ (n : ℕ). let r : Result (ItemData × ℕ) TlvFault = Ok (item, n) in r) (zero-add (length bytes)) in
    let step : NextItem bytes 0 item (length bytes) = record { start = 0; zeros = no_zeros bytes 0 (omega arith); begins = written_begins tag value readable; stands = stands } in
    Items-left bytes 0 (item ∷ []) (length bytes, step, no_zeros bytes (length bytes) (omega arith))

pub sole_value-written : (tag : ℕ) (bytes value : List ℕ) → IsTrue (is_readable tag) → bytes ≡ written tag value → sole_value tag (items_of bytes) ≡ Some value
sole_value-written tag bytes value readable e =
    let same : (tag == tag) ≡ true = grind arith in
    ap (λ b. sole_value tag (items_of b)) e ∙ ap (sole_value tag) (items_of-written tag value readable) ∙ rw same refl
