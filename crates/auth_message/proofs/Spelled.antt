-- The items of fields as they are spelled.
use Rattle.std.proofs.Common.{◌≡◌, ℕ, Bool, true, ◌&&◌, ◌+◌, ◌-◌, ◌<◌, ◌==◌, nat_lt, List, [], ◌∷◌, ◌++◌, length, take, Option, Some, None, Ok, slice_get, slice_index, refl, sym, ap, subst, ◌∙◌, arith, append_assoc, append-nil, length-append}
use Rattle.std.specs.List.{list_all, list_any}
use Rattle.std.proofs.lemmas.Bool.Decides.{nat_tests}
use Rattle.ber_tlv.specs.Item.{ItemData, item_at}
use Rattle.ber_tlv.specs.Items.{HasObjectAt, NextItem}
use Rattle.ber_tlv.specs.Left.{items_behind, then_left}
use Rattle.ber_tlv.specs.Tag.{is_readable}
use Rattle.ber_tlv.specs.Written.{tag_bytes, length_bytes, written}
use Rattle.ber_tlv.proofs.ReadAgain.{item_read, both}
use Rattle.ber_tlv.proofs.Reading.{no_zeros, left-item, left-end}
use Rattle.auth_message.specs.Outer.{outer_of}
use Rattle.auth_message.specs.Spelling.{optional, spelled}
use Rattle.auth_message.proofs.Opened.{First, alone_item}

-- a tag that is read where its bytes stand, and that begins with no 00
abbrev pub is_tag : ℕ → Bool
is_tag tag = is_readable tag && nat_lt 0 (slice_index (tag_bytes tag) 0)

abbrev pub are_tags : List (ℕ × List ℕ) → Bool
are_tags fields = list_all (λ field. is_tag field.0) fields

pub optional_front : (tag : ℕ) (value : Option (List ℕ)) (fields : List (ℕ × List ℕ)) → is_tag tag ≡ true → are_tags fields ≡ true → are_tags (optional tag value ++ fields) ≡ true
optional_front tag None fields one others = others
optional_front tag (Some value) fields one others = rw one others

pub optional_last : (tag : ℕ) (value : Option (List ℕ)) → is_tag tag ≡ true → are_tags (optional tag value) ≡ true
optional_last tag None one = refl
optional_last tag (Some value) one = rw one refl

pub spelled_append : (fields others : List (ℕ × List ℕ)) → spelled (fields ++ others) ≡ spelled fields ++ spelled others
spelled_append [] others = refl
spelled_append (field ∷ fields) others = ap (λ b. written field.0 field.1 ++ b) (spelled_append fields others) ∙ simp append_assoc

-- the items that fields are from a place on
abbrev pub placed : ℕ → List (ℕ × List ℕ) → List ItemData
placed start [] = []
placed start (field ∷ fields) = record { tag = field.0; value = field.1; start = start } ∷ placed (start + length (written field.0 field.1)) fields

front_get : (front rest : List ℕ) (byte : ℕ) → slice_get (front ++ byte ∷ rest) (length front) ≡ Some byte
front_get [] rest byte = refl
front_get (x ∷ front) rest byte = front_get front rest byte

-- the first byte of a tag stands where the tag does
begins : (front rest bytes : List ℕ) → bytes ≡ front ++ rest → 0 < slice_index rest 0 → HasObjectAt bytes (length front)
begins front [] bytes same positive = absurd (omega arith)
begins front (byte ∷ rest) bytes same positive = record { byte = byte; there = ap (λ b. slice_get b (length front)) same ∙ front_get front rest byte; not_zero = positive }

first_index : (front rest : List ℕ) → 0 < slice_index front 0 → slice_index (front ++ rest) 0 ≡ slice_index front 0
first_index [] rest positive = absurd (omega arith)
first_index (byte ∷ front) rest positive = refl

written_index : (tag : ℕ) (value rest : List ℕ) → 0 < slice_index (tag_bytes tag) 0 → 0 < slice_index (written tag value ++ rest) 0
unfolding written
written_index tag value rest positive =
    let parts : ((tag_bytes tag ++ length_bytes (length value)) ++ value) ++ rest ≡ tag_bytes tag ++ (length_bytes (length value) ++ (value ++ rest)) = simp append_assoc in
    let same : slice_index (((tag_bytes tag ++ length_bytes (length value)) ++ value) ++ rest) 0 ≡ slice_index (tag_bytes tag) 0 = ap (λ (b : List ℕ). slice_index b 0) parts ∙ first_index (tag_bytes tag) _ positive in
    omega arith

-- one field, and what stands behind it
pub field_step : (front rest bytes : List ℕ) (tag : ℕ) (value : List ℕ) → is_tag tag ≡ true → bytes ≡ front ++ (written tag value ++ rest)
    → NextItem bytes (length front) (record { tag = tag; value = value; start = length front }) (length front + length (written tag value))
field_step front rest bytes tag value is same =
    let facts = both (is_readable tag) _ is in
    let positive : 0 < slice_index (tag_bytes tag) 0 = grind (arith, nat_tests, facts.1) in
    let size : length bytes ≡ length front + length (written tag value ++ rest) = ap length same ∙ length-append front (written tag value ++ rest) in
    record {
      start = length front;
      zeros = no_zeros bytes (length front) (omega arith);
      begins = begins front (written tag value ++ rest) bytes same (written_index tag value rest positive);
      stands = ap (λ b. item_at b (length front)) (same ∙ simp append_assoc) ∙ item_read front rest tag value facts.0;
    }

-- the fields, and the items behind them
pub read_fields : (fields : List (ℕ × List ℕ)) (front rest bytes : List ℕ) (items : List ItemData) → are_tags fields ≡ true → bytes ≡ front ++ (spelled fields ++ rest)
    → items_behind bytes (length front + length (spelled fields)) ≡ Ok items → items_behind bytes (length front) ≡ Ok (placed (length front) fields ++ items)
read_fields [] front rest bytes items are same behind = ap (items_behind bytes) (omega arith) ∙ behind
read_fields (field ∷ fields) front rest bytes items are same behind =
    let facts = both (is_tag field.0) _ are in
    let this = written field.0 field.1 in
    let again : bytes ≡ (front ++ this) ++ (spelled fields ++ rest) = same ∙ simp append_assoc in
    let here : bytes ≡ front ++ (this ++ (spelled fields ++ rest)) = same ∙ simp append_assoc in
    let next : length (front ++ this) ≡ length front + length this = length-append front this in
    let last : length (front ++ this) + length (spelled fields) ≡ length front + length (this ++ spelled fields) = omega (arith, length-append this (spelled fields)) in
    let others = read_fields fields (front ++ this) rest bytes items facts.1 again (ap (items_behind bytes) last ∙ behind) in
    left-item bytes (length front) _ _ (field_step front (spelled fields ++ rest) bytes field.0 field.1 facts.0 here)
    ∙ ap (λ n. then_left (record { tag = field.0; value = field.1; start = length front }) (items_behind bytes n)) (sym next)
    ∙ ap (then_left (record { tag = field.0; value = field.1; start = length front })) others
    ∙ ap (λ n. Ok (record { tag = field.0; value = field.1; start = length front } ∷ (placed n fields ++ items))) next

pub take_whole : (bytes : List ℕ) → take (length bytes) bytes ≡ bytes
take_whole [] = refl
take_whole (byte ∷ bytes) = ap (λ b. byte ∷ b) (take_whole bytes)

-- a message is one item whose value's items are given
outer_read : (known : List ℕ) (tag : ℕ) (content : List ℕ) (items : List ItemData) → is_tag tag ≡ true → list_any (λ t. t == tag) known ≡ true
    → items_behind (written tag content) (length (written tag content) - length content) ≡ Ok items → outer_of known (written tag content) ≡ Ok (tag, items)
outer_read known tag content items is is_known inside =
    let bytes = written tag content in
    let item : ItemData = record { tag = tag; value = content; start = 0 } in
    let whole : bytes ≡ [] ++ (bytes ++ []) = sym (append-nil bytes) in
    let step : NextItem bytes 0 item (length bytes) = subst (λ n. NextItem bytes 0 item n) (omega arith) (field_step [] [] bytes tag content is whole) in
    let first : First bytes item (length bytes) = record { step = step; left = sym (left-item bytes 0 item (length bytes) step) } in
    alone_item known bytes item (length bytes) items first (sym (left-end bytes (length bytes) (no_zeros bytes (length bytes) (omega arith))))
    (ap (λ b. items_behind b (length bytes - length content)) (take_whole bytes) ∙ inside) is_known

abbrev pub header : ℕ → List ℕ → List ℕ
header tag content = tag_bytes tag ++ length_bytes (length content)

pub in_parts : (tag : ℕ) (content : List ℕ) → written tag content ≡ header tag content ++ content
unfolding written
in_parts tag content = refl

-- how many bytes stand before the value of a message
abbrev pub front_length : ℕ → List ℕ → ℕ
front_length tag content = length (header tag content)

-- a message of fields, and what its value holds behind them
pub message_read : (known : List ℕ) (tag : ℕ) (fields : List (ℕ × List ℕ)) (rest : List ℕ) (items : List ItemData) → is_tag tag ≡ true → list_any (λ t. t == tag) known ≡ true → are_tags fields ≡ true
    → items_behind (written tag (spelled fields ++ rest)) (front_length tag (spelled fields ++ rest) + length (spelled fields)) ≡ Ok items
    → outer_of known (written tag (spelled fields ++ rest)) ≡ Ok (tag, placed (front_length tag (spelled fields ++ rest)) fields ++ items)
message_read known tag fields rest items is is_known are behind =
    let content = spelled fields ++ rest in
    let bytes = written tag content in
    let start : length bytes - length content ≡ length (header tag content) = omega (arith, ap length (in_parts tag content), length-append (header tag content) content) in
    outer_read known tag content _ is is_known (ap (items_behind bytes) start ∙ read_fields fields (header tag content) rest bytes items are (in_parts tag content) behind)

-- a message of fields alone
pub fields_read : (known : List ℕ) (tag : ℕ) (fields : List (ℕ × List ℕ)) → is_tag tag ≡ true → list_any (λ t. t == tag) known ≡ true → are_tags fields ≡ true
    → outer_of known (written tag (spelled fields)) ≡ Ok (tag, placed (front_length tag (spelled fields)) fields)
fields_read known tag fields is is_known are =
    let content = spelled fields in
    let bytes = written tag content in
    let whole : bytes ≡ header tag content ++ (content ++ []) = in_parts tag content ∙ ap (λ c. header tag content ++ c) (sym (append-nil content)) in
    let end : length (header tag content) + length content ≡ length bytes = omega (arith, ap length (in_parts tag content), length-append (header tag content) content) in
    let start : length bytes - length content ≡ length (header tag content) = omega arith in
    let none : items_behind bytes (length (header tag content) + length content) ≡ Ok [] = ap (items_behind bytes) end ∙ left-end bytes (length bytes) (no_zeros bytes (length bytes) (omega arith)) in
    outer_read known tag content _ is is_known (ap (items_behind bytes) start ∙ read_fields fields (header tag content) [] bytes [] are whole none)
    ∙ ap (λ l. Ok (tag, l)) (append-nil (placed (length (header tag content)) fields))

-- the parts that a request's value is written in
pub request_joined : (named paid others : List (ℕ × List ℕ)) (t5f24 t9f10 : List ℕ)
    → ((((([] ++ spelled named) ++ written 0x5F24 t5f24) ++ spelled paid) ++ written 0x9F10 t9f10) ++ spelled others) ≡ spelled (named ++ ((0x5F24, t5f24) ∷ (paid ++ ((0x9F10, t9f10) ∷ others))))
request_joined named paid others t5f24 t9f10 =
    simp append_assoc (sym (spelled_append named _ ∙ ap (λ b. spelled named ++ (written 0x5F24 t5f24 ++ b)) (spelled_append paid _)))

pub present_joined : (named paid : List (ℕ × List ℕ)) (t9f10 t8a : List ℕ)
    → (((([] ++ spelled named) ++ spelled paid) ++ written 0x9F10 t9f10) ++ written 0x8A t8a) ≡ spelled (named ++ (paid ++ ((0x9F10, t9f10) ∷ (0x8A, t8a) ∷ [])))
present_joined named paid t9f10 t8a =
    simp append_assoc (sym (spelled_append named _ ∙ ap (λ b. spelled named ++ b) (spelled_append paid _ ∙ ap (λ b. spelled paid ++ (written 0x9F10 t9f10 ++ b)) (append-nil (written 0x8A t8a)))))

pub reversal_joined : (named : List (ℕ × List ℕ)) (t9f36 t9f02 t5f2a t8a : List ℕ)
    → ((((([] ++ spelled named) ++ written 0x9F36 t9f36) ++ written 0x9F02 t9f02) ++ written 0x5F2A t5f2a) ++ written 0x8A t8a)
    ≡ spelled (named ++ ((0x9F36, t9f36) ∷ (0x9F02, t9f02) ∷ (0x5F2A, t5f2a) ∷ (0x8A, t8a) ∷ []))
reversal_joined named t9f36 t9f02 t5f2a t8a =
    simp append_assoc (sym (spelled_append named _ ∙ ap (λ b. spelled named ++ (written 0x9F36 t9f36 ++ (written 0x9F02 t9f02 ++ (written 0x5F2A t5f2a ++ b)))) (append-nil (written 0x8A t8a))))
