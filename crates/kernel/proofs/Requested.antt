-- The terminal's objects are those that a request needs.
use Rattle.std.proofs.Common.{◌≡◌, ℕ, zero, suc, ◌+◌, ◌*◌, ◌/◌, ◌%◌, ◌<◌, ◌≤◌, true, List, [], ◌∷◌, ◌++◌, length, refl, ◌∙◌, arith, Option, Some, None, length-append}
use Rattle.std.proofs.lemmas.Bool.Decides.{nat_tests}
use Rattle.std.proofs.lemmas.List.Folds.{list_all-append}
use Rattle.auth_message.specs.Accepted.{AreDigitBytes}
use Rattle.emv_dict.specs.Bcd.{has_digits, two_digits, numeric}
use Rattle.emv_dict.specs.Flags.{tvr_bytes}
use Rattle.emv_dict.specs.Settings.{IsPurchase}
use Rattle.emv_dict.specs.declared.purchase.AidRow.{AidRow}
use Rattle.online_step.proofs.Digits.{date_digits, trade_digits}
use Rattle.online_step.specs.TerminalData.{HasTerminalData}
use Rattle.terminal_state.specs.StepResults.{StateSoFarData}
use Rattle.terminal_state.specs.Terminal.{Outset, object_if_there, lasting_objects, terminal_objects}

pub two_digits-good : (n : ℕ) → n < 100 → has_digits (two_digits n) ≡ true
two_digits-good n small =
    let high : (n / 10 * 16 + n % 10) / 16 ≡ n / 10 = omega arith in
    let low : (n / 10 * 16 + n % 10) % 16 ≡ n % 10 = omega arith in
    let first : n / 10 ≤ 9 = omega arith in
    let second : n % 10 ≤ 9 = omega arith in
    rw (high, low) (grind (arith, nat_tests))

numeric-digits : (count n : ℕ) → AreDigitBytes (numeric count n)
unfolding numeric
numeric-digits zero n = refl
numeric-digits (suc count) n =
    let last : has_digits (two_digits (n % 100)) ≡ true = two_digits-good (n % 100) (omega arith) in
    list_all-append has_digits (numeric count (n / 100)) (two_digits (n % 100) ∷ []) ∙ rw (numeric-digits count (n / 100), last) refl

numeric-length : (count n : ℕ) → length (numeric count n) ≡ count
unfolding numeric
numeric-length zero n = refl
numeric-length (suc count) n = length-append (numeric count (n / 100)) (two_digits (n % 100) ∷ []) ∙ rw (numeric-length count (n / 100)) (omega arith)

-- the sizes that the types of the fields give
pub record AreSized (outset : Outset) : Type 0 where
  pub id : length outset.settings.id ≡ 8
  pub country : length outset.settings.country ≡ 2
  pub currency : length outset.purchase.currency ≡ 2
  pub date : length outset.purchase.date ≡ 3
  pub number : length outset.purchase.number ≡ 4

lasting : (outset : Outset) → (row : AidRow) → (state_so_far : StateSoFarData) → AreSized outset → IsPurchase outset.purchase → length (tvr_bytes state_so_far.tvr) ≡ 5 → HasTerminalData (lasting_objects outset row state_so_far)
unfolding lasting_objects
lasting outset row state_so_far sized is results = record {
  identification = sized.id;
  amount = numeric-length 6 outset.purchase.amount;
  amount_digits = numeric-digits 6 outset.purchase.amount;
  other_amount = numeric-length 6 outset.purchase.other;
  other_amount_digits = numeric-digits 6 outset.purchase.other;
  country = sized.country;
  verification_results = results;
  currency = sized.currency;
  currency_code = is.currency_code;
  date = sized.date;
  date_digits = date_digits outset.purchase.date sized.date is.day;
  transaction_type = refl;
  transaction_digits = trade_digits outset.purchase.trade is.known_trade;
  unpredictable_number = sized.number;
}

-- an object before the others changes none of these
before : (code issuer : Option (List ℕ)) → (outset : Outset) → (row : AidRow) → (state_so_far : StateSoFarData) → HasTerminalData (lasting_objects outset row state_so_far) → HasTerminalData (object_if_there 0x8A code ++ object_if_there 0x91 issuer ++ lasting_objects outset row state_so_far)
before None None outset row state_so_far has = has
before None (Some value) outset row state_so_far has = record {
  identification = has.identification;
  amount = has.amount;
  amount_digits = has.amount_digits;
  other_amount = has.other_amount;
  other_amount_digits = has.other_amount_digits;
  country = has.country;
  verification_results = has.verification_results;
  currency = has.currency;
  currency_code = has.currency_code;
  date = has.date;
  date_digits = has.date_digits;
  transaction_type = has.transaction_type;
  transaction_digits = has.transaction_digits;
  unpredictable_number = has.unpredictable_number;
}
before (Some code) None outset row state_so_far has = record {
  identification = has.identification;
  amount = has.amount;
  amount_digits = has.amount_digits;
  other_amount = has.other_amount;
  other_amount_digits = has.other_amount_digits;
  country = has.country;
  verification_results = has.verification_results;
  currency = has.currency;
  currency_code = has.currency_code;
  date = has.date;
  date_digits = has.date_digits;
  transaction_type = has.transaction_type;
  transaction_digits = has.transaction_digits;
  unpredictable_number = has.unpredictable_number;
}
before (Some code) (Some value) outset row state_so_far has = record {
  identification = has.identification;
  amount = has.amount;
  amount_digits = has.amount_digits;
  other_amount = has.other_amount;
  other_amount_digits = has.other_amount_digits;
  country = has.country;
  verification_results = has.verification_results;
  currency = has.currency;
  currency_code = has.currency_code;
  date = has.date;
  date_digits = has.date_digits;
  transaction_type = has.transaction_type;
  transaction_digits = has.transaction_digits;
  unpredictable_number = has.unpredictable_number;
}

tvr_bytes-length : (tvr : ℕ) → length (tvr_bytes tvr) ≡ 5
tvr_bytes-length tvr = refl

pub requested : (outset : Outset) → (row : AidRow) → (state_so_far : StateSoFarData) → AreSized outset → IsPurchase outset.purchase → HasTerminalData (terminal_objects outset row state_so_far)
unfolding terminal_objects
requested outset row state_so_far sized is = before state_so_far.code state_so_far.issuer_data outset row state_so_far (lasting outset row state_so_far sized is (tvr_bytes-length state_so_far.tvr))
