-- The fields before field 55 that were read are spelled, and may be written.
use Rattle.std.proofs.Common.{◌≡◌, ℕ, true, ◌+◌, ◌*◌, ◌/◌, ◌%◌, nat_le, List, [], ◌∷◌, ◌++◌, length, take, drop, Ok, refl, sym, ap, ◌∙◌, arith, bytes_eq, subst}
use Rattle.ber_tlv.proofs.ReadAgain.{both}
use Rattle.emv_dict.specs.Nibbles.{nibbles, packed}
use Rattle.emv_dict.specs.Pan.{HasPanLength, is_pan_length}
use Rattle.emv_dict.specs.Settings.{is_code}
use Rattle.auth_message.specs.Accepted.{AreDigitBytes}
use Rattle.iso_message.specs.declared.fault.IsoFault.TheVariants.{Field}
use Rattle.iso_message.specs.declared.front.Acceptor.{Acceptor}
use Rattle.iso_message.specs.declared.front.Numbers.{Numbers}
use Rattle.iso_message.specs.Front.{account_field_at, processing_at, numbers_at, acceptor_at, tied}
use Rattle.iso_message.specs.Left.{Left, only_if, part_at, digits_part_at, counted_at}
use Rattle.iso_message.specs.Spelling.{account_number_field, processing_field, amount_field, audit_field, reference_field, terminal_field, currency_field}
use Rattle.iso_message.specs.Text.{digit_characters, values, is_numeral, are_numerals, zeros, with_length, counter_digits}
use Rattle.iso_message.proofs.Numerals.{numeral_range, values_text, values_length, values_decimal, nibbles_packed, packed_digits}
use Rattle.iso_message.proofs.Parts.{equal_bytes, part_spelled, digits_spelled, two_counted_spelled}
use Rattle.iso_message.proofs.Steps.{made_of, holds_only}

pub record IsAccount (before : Left) (pan : List ℕ) (after : Left) : Type 0 where
  pub front : before.bytes ≡ (account_number_field pan).1 ++ after.bytes
  pub sized : HasPanLength pan

pub account_spelled : (before : Left) (pan : List ℕ) (after : Left) → account_field_at before ≡ Ok (pan, after) → IsAccount before pan after
unfolding account_field_at
account_spelled before pan after is =
    let first = made_of (counted_at 2 2 before) _ (pan, after) is in
    let characters = first.value.0 in
    let second = made_of (only_if (are_numerals characters) (Field 2)) _ (pan, after) first.behind in
    let third = made_of (only_if (is_pan_length (length characters)) (Field 2)) _ (pan, after) second.behind in
    let same : (values characters, first.value.1) ≡ (pan, after) = cc in
    let pan_is : values characters ≡ pan = ap (λ (p : List ℕ × Left). p.0) same in
    let after_is : first.value.1 ≡ after = ap (λ (p : List ℕ × Left). p.1) same in
    let numerals = holds_only (are_numerals characters) (Field 2) second.value second.made in
    let right = holds_only (is_pan_length (length characters)) (Field 2) third.value third.made in
    let text_is : digit_characters pan ≡ characters = ap digit_characters (sym pan_is) ∙ values_text characters numerals in
    let size : length pan ≡ length characters = ap length (sym pan_is) ∙ values_length characters in
    let front = two_counted_spelled 2 before characters after (first.made ∙ ap (λ l. Ok (characters, l)) after_is) in
    record { front = front ∙ ap (λ c. with_length 2 c ++ after.bytes) (sym text_is); sized = ap is_pan_length size ∙ right }

-- one byte of two digits
one_text : (a b : ℕ) → is_numeral a ≡ true → is_numeral b ≡ true → digit_characters (nibbles ((a % 16 * 16 + b % 16) ∷ [])) ≡ a ∷ b ∷ []
unfolding nibbles
one_text a b one two =
    let range_a = numeral_range a one in
    let range_b = numeral_range b two in
    let least_a = range_a.0 in
    let most_a = range_a.1 in
    let least_b = range_b.0 in
    let most_b = range_b.1 in
    let high : 48 + (a % 16 * 16 + b % 16) / 16 ≡ a = omega arith in
    let low : 48 + (a % 16 * 16 + b % 16) % 16 ≡ b = omega arith in
    rw (high, low) refl

pub record IsProcessing (before : Left) (t9c : List ℕ) (after : Left) : Type 0 where
  pub front : before.bytes ≡ (processing_field t9c).1 ++ after.bytes
  pub digits : AreDigitBytes t9c

-- two digits and four zeros
processing_text : (characters : List ℕ) → length characters ≡ 6 → are_numerals characters ≡ true → drop 2 characters ≡ zeros 4
    → (characters ≡ (processing_field (packed (values (take 2 characters)))).1) × AreDigitBytes (packed (values (take 2 characters)))
unfolding packed
processing_text [] size all last = absurd (omega arith)
processing_text (a ∷ []) size all last = absurd (omega arith)
processing_text (a ∷ b ∷ rest) size all last =
    let one = both (is_numeral a) _ all in
    let two = both (is_numeral b) _ one.1 in
    let decimal = values_decimal (a ∷ b ∷ []) (rw (one.0, two.0) refl) in
    (ap (λ (r : List ℕ). a ∷ b ∷ r) last ∙ ap (λ (f : List ℕ). f ++ zeros 4) (sym (one_text a b one.0 two.0)), packed_digits 1 (values (a ∷ b ∷ [])) refl decimal)

pub processing_spelled : (before : Left) (t9c : List ℕ) (after : Left) → processing_at before ≡ Ok (t9c, after) → IsProcessing before t9c after
unfolding processing_at
processing_spelled before t9c after is =
    let first = made_of (digits_part_at 3 6 before) _ (t9c, after) is in
    let characters = first.value.0 in
    let second = made_of (only_if (bytes_eq (drop 2 characters) (zeros 4)) (Field 3)) _ (t9c, after) first.behind in
    let same : (packed (values (take 2 characters)), first.value.1) ≡ (t9c, after) = cc in
    let t9c_is : packed (values (take 2 characters)) ≡ t9c = ap (λ (p : List ℕ × Left). p.0) same in
    let after_is : first.value.1 ≡ after = ap (λ (p : List ℕ × Left). p.1) same in
    let found = digits_spelled 3 6 before characters after (first.made ∙ ap (λ l. Ok (characters, l)) after_is) in
    let last = equal_bytes (drop 2 characters) (zeros 4) (holds_only (bytes_eq (drop 2 characters) (zeros 4)) (Field 3) second.value second.made) in
    let both_are = processing_text characters found.stands.size found.numerals last in
    record {
      front = found.stands.front ∙ ap (λ c. c ++ after.bytes) both_are.0 ∙ ap (λ (t : List ℕ). (processing_field t).1 ++ after.bytes) t9c_is;
      digits = subst AreDigitBytes t9c_is both_are.1;
    }

pub record AreNumbers (before : Left) (numbers : Numbers) (after : Left) : Type 0 where
  pub front : before.bytes ≡ (amount_field numbers.t9f02).1 ++ (numbers.audit ++ (numbers.reference ++ after.bytes))
  pub digits : AreDigitBytes numbers.t9f02

pub numbers_spelled : (before : Left) (numbers : Numbers) (after : Left) → numbers_at before ≡ Ok (numbers, after) → AreNumbers before numbers after
unfolding numbers_at
numbers_spelled before numbers after is =
    let first = made_of (digits_part_at 4 12 before) _ (numbers, after) is in
    let second = made_of (digits_part_at 11 6 first.value.1) _ (numbers, after) first.behind in
    let third = made_of (part_at 12 second.value.1) _ (numbers, after) second.behind in
    let read : Numbers = record { t9f02 = packed (values first.value.0); audit = second.value.0; reference = third.value.0 } in
    let same : (read, third.value.1) ≡ (numbers, after) = cc in
    let numbers_is : read ≡ numbers = ap (λ (p : Numbers × Left). p.0) same in
    let after_is : third.value.1 ≡ after = ap (λ (p : Numbers × Left). p.1) same in
    let amount = digits_spelled 4 12 before first.value.0 first.value.1 first.made in
    let audit = digits_spelled 11 6 first.value.1 second.value.0 second.value.1 second.made in
    let reference = part_spelled second.value.1.place 12 second.value.1 third.value.0 third.value.1 third.made in
    let decimal = values_decimal first.value.0 amount.numerals in
    let twelve : length (values first.value.0) ≡ 2 * 6 = values_length first.value.0 ∙ amount.stands.size in
    let digits : digit_characters (nibbles (packed (values first.value.0))) ≡ first.value.0 = ap digit_characters (nibbles_packed 6 (values first.value.0) twelve decimal) ∙ values_text first.value.0 amount.numerals in
    record {
      front =
          amount.stands.front
          ∙ ap (λ b. first.value.0 ++ b) (audit.stands.front ∙ ap (λ b. second.value.0 ++ b) (reference.front ∙ ap (λ (l : Left). third.value.0 ++ l.bytes) after_is))
          ∙ ap (λ b. b ++ (second.value.0 ++ (third.value.0 ++ after.bytes))) (sym digits)
          ∙ ap (λ (n : Numbers). (amount_field n.t9f02).1 ++ (n.audit ++ (n.reference ++ after.bytes))) numbers_is;
      digits = subst (λ (n : Numbers). AreDigitBytes n.t9f02) numbers_is (packed_digits 6 (values first.value.0) twelve decimal);
    }

pub record IsAcceptor (before : Left) (acceptor : Acceptor) (after : Left) : Type 0 where
  pub front : before.bytes ≡ (terminal_field acceptor.t9f1c).1 ++ ((currency_field acceptor.t5f2a).1 ++ after.bytes)
  pub code : is_code acceptor.t5f2a ≡ true
  pub digits : AreDigitBytes acceptor.t5f2a

-- three digits behind a zero
record IsCurrency (characters : List ℕ) : Type 0 where
  same : (currency_field (packed (0 ∷ values characters))).1 ≡ characters
  code : is_code (packed (0 ∷ values characters)) ≡ true
  digits : AreDigitBytes (packed (0 ∷ values characters))

currency_text : (characters : List ℕ) → length characters ≡ 3 → are_numerals characters ≡ true → IsCurrency characters
unfolding packed nibbles
currency_text [] size all = absurd (omega arith)
currency_text (a ∷ []) size all = absurd (omega arith)
currency_text (a ∷ b ∷ []) size all = absurd (omega arith)
currency_text (a ∷ b ∷ c ∷ []) size all =
    let decimal = values_decimal (a ∷ b ∷ c ∷ []) all in
    let one = both (nat_le (a % 16) 9) _ decimal in
    let two = both (nat_le (b % 16) 9) _ one.1 in
    let three = both (nat_le (c % 16) 9) _ two.1 in
    let high : (b % 16 * 16 + c % 16) / 16 ≡ b % 16 = omega arith in
    let low : (b % 16 * 16 + c % 16) % 16 ≡ c % 16 = omega arith in
    let first : (0 * 16 + a % 16) % 16 ≡ a % 16 = omega arith in
    let zero_high : (0 * 16 + a % 16) / 16 ≡ 0 = omega arith in
    let whole : 0 * 16 + a % 16 ≡ a % 16 = omega arith in
    record {
      same = rw (first, high, low) (values_text (a ∷ b ∷ c ∷ []) all);
      code = rw (whole, high, low, one.0, two.0, three.0) refl;
      digits = rw (zero_high, first, high, low, one.0, two.0, three.0) refl;
    }
currency_text (a ∷ b ∷ c ∷ d ∷ rest) size all = absurd (omega arith)

pub acceptor_spelled : (before : Left) (acceptor : Acceptor) (after : Left) → acceptor_at before ≡ Ok (acceptor, after) → IsAcceptor before acceptor after
unfolding acceptor_at
acceptor_spelled before acceptor after is =
    let first = made_of (part_at 8 before) _ (acceptor, after) is in
    let second = made_of (digits_part_at 49 3 first.value.1) _ (acceptor, after) first.behind in
    let read : Acceptor = record { t9f1c = first.value.0; t5f2a = packed (0 ∷ values second.value.0) } in
    let same : (read, second.value.1) ≡ (acceptor, after) = cc in
    let acceptor_is : read ≡ acceptor = ap (λ (p : Acceptor × Left). p.0) same in
    let after_is : second.value.1 ≡ after = ap (λ (p : Acceptor × Left). p.1) same in
    let terminal = part_spelled before.place 8 before first.value.0 first.value.1 first.made in
    let currency = digits_spelled 49 3 first.value.1 second.value.0 second.value.1 second.made in
    let facts = currency_text second.value.0 currency.stands.size currency.numerals in
    record {
      front =
          terminal.front
          ∙ ap (λ b. first.value.0 ++ b) (currency.stands.front ∙ ap (λ b. b ++ second.value.1.bytes) (sym facts.same) ∙ ap (λ (l : Left). (currency_field read.t5f2a).1 ++ l.bytes) after_is)
          ∙ ap (λ (r : Acceptor). (terminal_field r.t9f1c).1 ++ ((currency_field r.t5f2a).1 ++ after.bytes)) acceptor_is;
      code = ap (λ (r : Acceptor). is_code r.t5f2a) (sym acceptor_is) ∙ facts.code;
      digits = subst (λ (r : Acceptor). AreDigitBytes r.t5f2a) acceptor_is facts.digits;
    }

-- fields 11 and 37 that are the counter's
pub tied_spelled : (numbers : Numbers) (t9f36 : List ℕ) (u : Unit {0}) → tied numbers t9f36 ≡ Ok u → (numbers.audit ≡ (audit_field t9f36).1) × (numbers.reference ≡ (reference_field t9f36).1)
unfolding tied
tied_spelled numbers t9f36 u is =
    let first = made_of (only_if (bytes_eq numbers.audit (counter_digits t9f36)) (Field 11)) _ u is in (
      equal_bytes numbers.audit (counter_digits t9f36) (holds_only (bytes_eq numbers.audit (counter_digits t9f36)) (Field 11) first.value first.made),
      equal_bytes numbers.reference (zeros 6 ++ counter_digits t9f36) (holds_only (bytes_eq numbers.reference (zeros 6 ++ counter_digits t9f36)) (Field 37) u first.behind),
    )
