-- Twelve decimal digits are at most the greatest amount.
use Rattle.std.proofs.Common.{◌≡◌, ℕ, ◌+◌, ◌*◌, ◌/◌, ◌%◌, ◌≤◌, true, List, [], ◌∷◌, length, arith}
use Rattle.std.proofs.lemmas.Bool.Decides.{nat_tests}
use Rattle.emv_dict.specs.Bcd.{has_digits, number_of_bcd, number_in}
use Rattle.emv_dict.specs.Nibbles.{nibbles, is_decimal}
use Rattle.emv_dict.specs.Settings.{most_amount}
use Rattle.ber_tlv.proofs.ReadAgain.{both}
use Rattle.auth_message.specs.Accepted.{AreDigitBytes}

digit_small : (byte : ℕ) → has_digits byte ≡ true → number_of_bcd byte ≤ 99
digit_small byte is =
    let halves = both (is_decimal (byte / 16)) (is_decimal (byte % 16)) is in
    let high : byte / 16 ≤ 9 = grind (arith, nat_tests, halves.0) in
    let low : byte % 16 ≤ 9 = grind (arith, nat_tests, halves.1) in
    omega arith

number_of_six : (a b c d e f : ℕ) → number_in (a ∷ b ∷ c ∷ d ∷ e ∷ f ∷ []) ≡ number_of_bcd a * 10000000000 + number_of_bcd b * 100000000 + number_of_bcd c * 1000000 + number_of_bcd d * 10000 + number_of_bcd e * 100 + number_of_bcd f
unfolding number_in nibbles
number_of_six a b c d e f = omega arith

pub amount_small : (bytes : List ℕ) → length bytes ≡ 6 → AreDigitBytes bytes → number_in bytes ≤ most_amount
amount_small [] six digits = absurd (omega arith)
amount_small (a ∷ []) six digits = absurd (omega arith)
amount_small (a ∷ b ∷ []) six digits = absurd (omega arith)
amount_small (a ∷ b ∷ c ∷ []) six digits = absurd (omega arith)
amount_small (a ∷ b ∷ c ∷ d ∷ []) six digits = absurd (omega arith)
amount_small (a ∷ b ∷ c ∷ d ∷ e ∷ []) six digits = absurd (omega arith)
amount_small (a ∷ b ∷ c ∷ d ∷ e ∷ f ∷ []) six digits =
    let one = both (has_digits a) _ digits in
    let two = both (has_digits b) _ one.1 in
    let three = both (has_digits c) _ two.1 in
    let four = both (has_digits d) _ three.1 in
    let five = both (has_digits e) _ four.1 in
    let six_digits = both (has_digits f) _ five.1 in
    omega (arith, number_of_six a b c d e f, digit_small a one.0, digit_small b two.0, digit_small c three.0, digit_small d four.0, digit_small e five.0, digit_small f six_digits.0)
amount_small (a ∷ b ∷ c ∷ d ∷ e ∷ f ∷ g ∷ rest) six digits = absurd (omega arith)
