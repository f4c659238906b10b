-- An application's answer to GET PROCESSING OPTIONS has room in a response, and gives its own profile and locator
-- (EMV 4.3 Book 3 section 6.5.8.4).
use Rattle.std.proofs.Common.{◌≡◌, ℕ, ◌+◌, ◌<◌, ◌≤◌, ◌==◌, Bool, true, false, IsTrue, if◌then◌else◌, nat_lt, List, [], ◌∷◌, ◌++◌, length, take, drop, Option, Some, None, Result, Ok, Err, refl, ap, sym, ◌∙◌, arith, append-nil, length-append, take_at, drop_at, eqb-true, eq-eqb, lt-ltb, le-ltb}
use Rattle.auth_message.proofs.Spelled.{placed}
use Rattle.ber_tlv.proofs.SoleItem.{sole_value-written}
use Rattle.ber_tlv.specs.Direct.{sole_value, value_if}
use Rattle.ber_tlv.specs.Item.{ItemData}
use Rattle.ber_tlv.specs.Left.{items_of}
use Rattle.ber_tlv.specs.Written.{tag_bytes, length_bytes, written}
use Rattle.ber_tlv.specs.declared.item.TlvFault.{TlvFault}
use Rattle.card_cryptogram.specs.Options.{options_body}
use Rattle.card_files.specs.AppRules.{is_format}
use Rattle.dialogue_laws.proofs.Fields.{fields_again}
use Rattle.read_records.specs.Options.{profile_and_locator, options_in_format_one, options_in_format_two, options_by_format, options_in}

fair_count : (count : ℕ) (short : Bool) → nat_lt count 128 ≡ short → nat_lt count 256 ≡ true → length (length_bytes count) ≤ 2
fair_count count true short fair = rw short (omega arith)
fair_count count false short fair = rw (short, fair) (omega arith)

-- one byte of tag, and at most two of length
pub written_fair : (tag : ℕ) (value : List ℕ) → nat_lt tag 256 ≡ true → length value < 256 → length (written tag value) ≤ length value + 3
unfolding written
written_fair tag value one few =
    let fair : nat_lt (length value) 256 ≡ true = lt-ltb (length value) 256 few in
    let count : length (length_bytes (length value)) ≤ 2 = fair_count (length value) (nat_lt (length value) 128) refl fair in
    let first : length (tag_bytes tag) ≡ 1 = rw one refl in
    simp length-append (omega (arith, count, first))

room_by : (format : ℕ) (aip afl : List ℕ) (one : Bool) → (format == 1) ≡ one → IsTrue (is_format format) → length aip ≡ 2 → length afl ≤ 248
    → (format ≡ 2 → length afl ≤ 244) → length (options_body format aip afl) ≤ 256
unfolding options_body
room_by format aip afl true one known two few short =
    let size : length (aip ++ afl) ≡ length aip + length afl = length-append aip afl in
    let whole : length (written 0x80 (aip ++ afl)) ≤ length (aip ++ afl) + 3 = written_fair 0x80 (aip ++ afl) refl (omega arith) in
    rw one (omega arith)
room_by format aip afl false one known two few short =
    let is_two : format ≡ 2 = eqb-true format 2 (rw one at known) in
    let fewer : length afl ≤ 244 = short is_two in
    let profile : length (written 0x82 aip) ≤ length aip + 3 = written_fair 0x82 aip refl (omega arith) in
    let locator : length (written 0x94 afl) ≤ length afl + 3 = written_fair 0x94 afl refl (omega arith) in
    let size : length (written 0x82 aip ++ written 0x94 afl) ≡ length (written 0x82 aip) + length (written 0x94 afl) = length-append (written 0x82 aip) (written 0x94 afl) in
    let whole : length (written 0x77 (written 0x82 aip ++ written 0x94 afl)) ≤ length (written 0x82 aip ++ written 0x94 afl) + 3 =
    written_fair 0x77 (written 0x82 aip ++ written 0x94 afl) refl (omega arith) in
    rw one (omega arith)

pub options_room : (format : ℕ) (aip afl : List ℕ) → IsTrue (is_format format) → length aip ≡ 2 → length afl ≤ 248 → (format ≡ 2 → length afl ≤ 244)
    → length (options_body format aip afl) ≤ 256
options_room format aip afl known two few short = room_by format aip afl (format == 1) refl known two few short

other_item : (tag other : ℕ) (item : ItemData) (value : List ℕ) (test : Bool) → (item.tag == tag) ≡ test → (tag == other) ≡ false
    → (if test then Some item.value else None) ≡ Some value → value_if other item ≡ None
other_item tag other item value true is apart one =
    let same : item.tag ≡ tag = eqb-true item.tag tag is in
    ap (λ (t : ℕ). let v : Option (List ℕ) = if t == other then Some item.value else None in v) same ∙ rw apart refl
other_item tag other item value false is apart one = cc

-- an object of this tag alone is none of another tag
other_sole : (tag other : ℕ) (read : Result (List ItemData) TlvFault) (value : List ℕ) → (tag == other) ≡ false → sole_value tag read ≡ Some value → sole_value other read ≡ None
other_sole tag other (Ok []) value apart is = refl
other_sole tag other (Ok (item ∷ [])) value apart is = other_item tag other item value (item.tag == tag) refl apart is
other_sole tag other (Ok (item ∷ more ∷ items)) value apart is = refl
other_sole tag other (Err fault) value apart is = refl

in_one : (aip afl : List ℕ) → length aip ≡ 2 → options_in_format_one (aip ++ afl) ≡ profile_and_locator aip afl
in_one aip afl two =
    let size : length (aip ++ afl) ≡ length aip + length afl = length-append aip afl in
    let some : nat_lt (length (aip ++ afl)) 2 ≡ false = le-ltb (length (aip ++ afl)) 2 (omega arith) in
    let front : take 2 (aip ++ afl) ≡ aip = take_at aip afl 2 two in
    let behind : drop 2 (aip ++ afl) ≡ afl = drop_at aip afl 2 two in
    rw some (ap (λ (profile : List ℕ). profile_and_locator profile (drop 2 (aip ++ afl))) front ∙ ap (profile_and_locator aip) behind)

pub one_read : (body aip afl : List ℕ) → body ≡ written 0x80 (aip ++ afl) → length aip ≡ 2 → options_in body ≡ profile_and_locator aip afl
unfolding options_in
one_read body aip afl is two =
    ap (λ (found : Option (List ℕ)). options_by_format body found (sole_value 0x77 (items_of body))) (sole_value-written 0x80 body (aip ++ afl) refl is)
    ∙ in_one aip afl two

-- the two objects behind one another
pair_read : (aip afl : List ℕ) → items_of (written 0x82 aip ++ written 0x94 afl) ≡ Ok (placed 0 ((0x82, aip) ∷ (0x94, afl) ∷ []))
pair_read aip afl =
    fields_again ((0x82, aip) ∷ (0x94, afl) ∷ []) (written 0x82 aip ++ written 0x94 afl) refl (ap (λ (b : List ℕ). written 0x82 aip ++ b) (sym (append-nil (written 0x94 afl))))

two_read : (body aip afl : List ℕ) → body ≡ written 0x77 (written 0x82 aip ++ written 0x94 afl) → length aip ≡ 2 → options_in body ≡ profile_and_locator aip afl
unfolding options_in
two_read body aip afl is two =
    let content : List ℕ = written 0x82 aip ++ written 0x94 afl in
    let sole : sole_value 0x77 (items_of body) ≡ Some content = sole_value-written 0x77 body content refl is in
    let size : (length aip == 2) ≡ true = eq-eqb (length aip) 2 two in
    ap (λ (found : Option (List ℕ)). options_by_format body found (sole_value 0x77 (items_of body))) (other_sole 0x77 0x80 (items_of body) content refl sole)
    ∙ ap (λ (found : Option (List ℕ)). options_by_format body None found) sole
    ∙ ap (options_in_format_two body) (pair_read aip afl)
    ∙ rw size refl

read_by : (format : ℕ) (aip afl : List ℕ) (one : Bool) → (format == 1) ≡ one → length aip ≡ 2 → options_in (options_body format aip afl) ≡ profile_and_locator aip afl
unfolding options_body
read_by format aip afl true one two = one_read (options_body format aip afl) aip afl (rw one refl) two
read_by format aip afl false one two = two_read (options_body format aip afl) aip afl (rw one refl) two

pub options_read : (format : ℕ) (aip afl : List ℕ) → length aip ≡ 2 → options_in (options_body format aip afl) ≡ profile_and_locator aip afl
options_read format aip afl two = read_by format aip afl (format == 1) refl two
