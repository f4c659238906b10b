-- Values of digits: those of a purchase and of a card have the forms that a message needs.
use Rattle.std.proofs.Common.{◌≡◌, ℕ, suc, ◌≤◌, ◌==◌, ◌||◌, nat_le, Bool, true, false, List, [], ◌∷◌, length, IsTrue, IsSome, refl, ap, sym, arith, Option, Some, None, Result, Ok, Err, if◌then◌else◌}
use Rattle.std.proofs.lemmas.Bool.{le-leb}
use Rattle.std.proofs.lemmas.Bool.Decides.{nat_tests}
use Rattle.std.specs.List.{All}
use Rattle.std.specs.Prelude.{option_and_then}
use Rattle.std.specs.Result.{result_ok}
use Rattle.auth_message.specs.Accepted.{AreDigitBytes}
use Rattle.ber_tlv.proofs.ReadAgain.{both}
use Rattle.emv_dict.specs.Bcd.{has_digits}
use Rattle.emv_dict.specs.Date.{date_of, is_date}
use Rattle.emv_dict.specs.Pan.{pan_of, HasPanLength, least_pan, most_pan, is_pan_length, before_filler, faultless_pan, stray_nibble}
use Rattle.emv_dict.specs.Nibbles.{nibbles}
use Rattle.emv_dict.specs.Settings.{is_code}
use Rattle.emv_dict.specs.declared.date.Date.{Date}
use Rattle.emv_dict.specs.declared.pan.PanFault.{PanFault}
use Rattle.env_map.specs.Entries.{value_of}
use Rattle.object_lists.specs.CardRead.{ReadCard, IsRead}
use Rattle.object_lists.specs.Forms.{is_two_digits}

pub all_digits : (bytes : List ℕ) → All (λ b. IsTrue (has_digits b)) bytes → AreDigitBytes bytes
all_digits [] all = refl
all_digits (byte ∷ bytes) all =
    let first : has_digits byte ≡ true = all 0 0 (omega arith) in
    rw first (all_digits bytes (λ k other within. all (suc k) other (omega arith)))

small_digits : (byte : ℕ) → nat_le byte 9 ≡ true → has_digits byte ≡ true
small_digits byte small = grind (arith, nat_tests)

pub code_digits : (bytes : List ℕ) → length bytes ≡ 2 → IsTrue (is_code bytes) → AreDigitBytes bytes
code_digits [] two code = refl
code_digits (a ∷ []) two code = absurd (omega arith)
code_digits (a ∷ b ∷ []) two code =
    let parts = both (nat_le a 9) (has_digits b) code in
    rw (small_digits a parts.0, parts.1) refl
code_digits (a ∷ b ∷ c ∷ rest) two code = absurd (omega arith)

small_trade : (trade : ℕ) (a b c : Bool) → (trade == 0) ≡ a → (trade == 1) ≡ b → (trade == 9) ≡ c → (a || (b || c)) ≡ true → trade ≤ 9
small_trade trade true b c first second third known = grind (arith, nat_tests)
small_trade trade false true c first second third known = grind (arith, nat_tests)
small_trade trade false false true first second third known = grind (arith, nat_tests)
small_trade trade false false false first second third known = cc

-- a type of transaction
pub trade_digits : (trade : ℕ) → IsTrue (trade == 0 || (trade == 1 || trade == 9)) → AreDigitBytes (trade ∷ [])
trade_digits trade known = rw (small_digits trade (le-leb trade 9 (small_trade trade _ _ _ refl refl refl known))) refl

is_date-there : (test : Bool) (year month day : ℕ) → IsSome (let date : Option Date = (if test then Some (record { year = year; month = month; day = day }) else None) in date) → test ≡ true
is_date-there true year month day there = refl
is_date-there false year month day there = there

pub date_digits : (bytes : List ℕ) → length bytes ≡ 3 → IsSome (date_of bytes) → AreDigitBytes bytes
date_digits [] three there = refl
date_digits (a ∷ []) three there = absurd (omega arith)
date_digits (a ∷ b ∷ []) three there = absurd (omega arith)
date_digits (a ∷ b ∷ c ∷ []) three there =
    let date : is_date a b c ≡ true = is_date-there (is_date a b c) _ _ _ there in
    let first = both (has_digits a) _ date in
    let second = both (has_digits b) _ first.1 in
    let third = both (has_digits c) _ second.1 in
    rw (first.0, second.0, third.0) refl
date_digits (a ∷ b ∷ c ∷ d ∷ rest) three there = absurd (omega arith)

sized-long : (test : Bool) (digits pan : List ℕ) (fault : PanFault) → (let r : Result (List ℕ) PanFault = (if test then Ok digits else Err fault) in r) ≡ Ok pan → test ≡ is_pan_length (length digits) → HasPanLength pan
sized-long true digits pan fault is sized = let same : digits ≡ pan = cc in rw (← same) (sym sized)
sized-long false digits pan fault is sized = cc

faultless-long : (ns pan : List ℕ) (stray : Option ℕ) → faultless_pan ns stray ≡ Ok pan → HasPanLength pan
faultless-long ns pan (Some nibble) is = cc
faultless-long ns pan None is = sized-long (is_pan_length (length (before_filler ns))) (before_filler ns) pan _ is refl

read-long : (field pan : List ℕ) → pan_of field ≡ Ok pan → HasPanLength pan
unfolding pan_of
read-long field pan is = faultless-long (nibbles field) pan (stray_nibble (nibbles field)) is

ok-some : (read : Result (List ℕ) PanFault) (pan : List ℕ) → result_ok read ≡ Some pan → read ≡ Ok pan
ok-some (Ok digits) pan is = let same : digits ≡ pan = cc in ap (λ (ds : List ℕ). let r : Result (List ℕ) PanFault = Ok ds in r) same
ok-some (Err fault) pan is = cc

there-long : (field : Option (List ℕ)) (pan : List ℕ) → option_and_then (λ bytes. result_ok (pan_of bytes)) field ≡ Some pan → HasPanLength pan
there-long None pan is = cc
there-long (Some field) pan is = read-long field pan (ok-some (pan_of field) pan is)

pub card_pan : (card : ReadCard) → IsRead card → HasPanLength card.pan
card_pan card read = there-long (value_of 0x5A card.entries) card.pan read.digits

-- a number in one byte, as a sequence number is
pub two_digits-one : (value : List ℕ) → IsTrue (is_two_digits value) → length value ≡ 1
two_digits-one value form = let parts = both (length value == 1) _ form in grind (arith, nat_tests)

pub two_digits-digits : (byte : ℕ) → IsTrue (is_two_digits (byte ∷ [])) → AreDigitBytes (byte ∷ [])
two_digits-digits byte form = let parts = both (length (byte ∷ []) == 1) (has_digits byte) form in rw parts.1 refl

pub two_digits-value : (value : List ℕ) → IsTrue (is_two_digits value) → AreDigitBytes value
two_digits-value [] form = cc
two_digits-value (byte ∷ []) form = two_digits-digits byte form
two_digits-value (byte ∷ other ∷ rest) form = let one = two_digits-one (byte ∷ other ∷ rest) form in absurd (omega arith)

pub pan_least : (card : ReadCard) → IsRead card → 13 ≤ length card.pan
pan_least card read =
    let parts = both (nat_le least_pan (length card.pan)) (nat_le (length card.pan) most_pan) (card_pan card read) in
    grind (arith, nat_tests)
