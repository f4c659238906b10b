-- No bit stands outside those of risk management.
use Rattle.std.proofs.Common.{◌≡◌, ℕ, ◌≤◌, max, sym, arith, Bool, true, false, ◌==◌, not, ◌&&◌, is_some, if◌then◌else◌, List, [], ◌∷◌, bit_and, bit_or, slice_index, refl, ◌∙◌, ap, Option, Some, None, Result, Ok, Err}
use Rattle.std.specs.List.{AllByRecursion}
use Rattle.std.specs.Int.{bit_at}
use Rattle.std.proofs.lemmas.Nat.Bits.{bit_at_or}
use Rattle.emv_dict.specs.Flags.{bits_from, tvr_bit}
use Rattle.emv_dict.specs.Progress.{Progress}
use Rattle.emv_dict.specs.Views.{SettingsData, PurchaseData}
use Rattle.emv_dict.specs.declared.ending.Cause.{Cause}
use Rattle.emv_dict.specs.declared.judged.Judged.{Judged}
use Rattle.emv_dict.specs.declared.purchase.AidRow.{AidRow}
use Rattle.emv_dict.specs.declared.purchase.Logged.{Logged}
use Rattle.object_lists.specs.CardRead.{ReadCard}
use Rattle.risk_mgmt.specs.Counters.{counter_tag, last_online_tag, counter_in_answer, counter_bits, is_beyond, is_new_card}
use Rattle.risk_mgmt.specs.Laws.{risk_bits, AreRiskBits, FindsRiskBits, RiskBitsAreOwn}
use Rattle.risk_mgmt.specs.Risky.{always, terminal_bits, last_by, last_asked, first_by, first_asked, limit_in, by_limits, risk_checks, exceeds_floor, is_drawn, is_exception, may_decide, risky}

-- bits that add none to others are among them
among : (bits own : ℕ) → bit_or bits own ≡ own → (place : ℕ) → bit_at bits place ≤ bit_at own place
among bits own same place =
    let joined : max (bit_at bits place) (bit_at own place) ≡ bit_at own place = sym (bit_at_or bits own place) ∙ ap (λ n. bit_at n place) same in
    omega arith

at_either : (n a b most : ℕ) → n ≡ max a b → a ≤ most → b ≤ most → n ≤ most
at_either n a b most is first second = omega arith

both_own : (a b : ℕ) → AreRiskBits a → AreRiskBits b → AreRiskBits (bit_or a b)
both_own a b first second place = at_either _ _ _ _ (bit_at_or a b place) (first place) (second place)

rows_own : (set : ℕ) (rows : List (Bool × ℕ)) → AreRiskBits set → AllByRecursion (λ row. AreRiskBits row.1) rows → AreRiskBits (bits_from set rows)
rows_own set [] first each = first
rows_own set ((true, bits) ∷ rows) first each = rows_own (bit_or set bits) rows (both_own set bits first each.0) each.1
rows_own set ((false, bits) ∷ rows) first each = rows_own set rows first each.1

always_own : (pan : List ℕ) (settings : SettingsData) (purchase : PurchaseData) → AreRiskBits (always pan settings purchase)
unfolding always
always_own pan settings purchase =
    rows_own 0 ((is_exception pan settings.exceptions, tvr_bit 1 5) ∷ (purchase.forced, tvr_bit 4 4) ∷ []) (among 0 risk_bits refl)
    (among (tvr_bit 1 5) risk_bits refl, (among (tvr_bit 4 4) risk_bits refl, tt))

alone_own : (pan : List ℕ) (settings : SettingsData) (row : AidRow) (purchase : PurchaseData) (log : List Logged) → AreRiskBits (terminal_bits pan settings row purchase log)
unfolding terminal_bits
alone_own pan settings row purchase log =
    rows_own 0 (
    (true, always pan settings purchase) ∷ (exceeds_floor pan settings row purchase log, tvr_bit 4 8) ∷ (is_drawn settings row purchase, tvr_bit 4 5) ∷ [])
    (among 0 risk_bits refl)
    (always_own pan settings purchase, (among (tvr_bit 4 8) risk_bits refl, (among (tvr_bit 4 5) risk_bits refl, tt)))

counted_own : (bits lower upper : ℕ) (counter last : Option ℕ) → AreRiskBits bits → AreRiskBits (counter_bits bits lower upper counter last)
unfolding counter_bits
counted_own bits lower upper counter last own =
    rows_own 0 (
    (true, bits) ∷ (not (is_some counter && is_some last), tvr_bit 1 6) ∷ (is_beyond lower counter last, tvr_bit 4 7)
    ∷ (is_beyond upper counter last, tvr_bit 4 6) ∷ (is_new_card last, tvr_bit 2 4) ∷ [])
    (among 0 risk_bits refl) (
      own,
      (
        among (tvr_bit 1 6) risk_bits refl,
        (among (tvr_bit 4 7) risk_bits refl, (among (tvr_bit 4 6) risk_bits refl, (among (tvr_bit 2 4) risk_bits refl, tt))),
      ),
    )

last_own : (bits lower upper : ℕ) (counter : Option ℕ) (given : Result (Option ℕ) Cause) (rest : List (List ℕ)) → AreRiskBits bits → FindsRiskBits (last_by bits lower upper counter given rest)
last_own bits lower upper counter (Ok last) rest own = counted_own bits lower upper counter last own
last_own bits lower upper counter (Err cause) rest own = tt

second_own : (bits lower upper : ℕ) (counter : Option ℕ) (answers : List (List ℕ)) → AreRiskBits bits → FindsRiskBits (last_asked bits lower upper counter answers)
unfolding last_asked
second_own bits lower upper counter [] own = tt
second_own bits lower upper counter (reply ∷ rest) own = last_own bits lower upper counter (counter_in_answer last_online_tag reply) rest own

first_by_own : (bits lower upper : ℕ) (given : Result (Option ℕ) Cause) (rest : List (List ℕ)) → AreRiskBits bits → FindsRiskBits (first_by bits lower upper given rest)
first_by_own bits lower upper (Ok counter) rest own = second_own bits lower upper counter rest own
first_by_own bits lower upper (Err cause) rest own = tt

first_own : (bits lower upper : ℕ) (answers : List (List ℕ)) → AreRiskBits bits → FindsRiskBits (first_asked bits lower upper answers)
unfolding first_asked
first_own bits lower upper [] own = tt
first_own bits lower upper (reply ∷ rest) own = first_by_own bits lower upper (counter_in_answer counter_tag reply) rest own

limits_own : (bits : ℕ) (lower upper : Option ℕ) (answers : List (List ℕ)) → AreRiskBits bits → FindsRiskBits (by_limits bits lower upper answers)
limits_own bits (Some lower) (Some upper) answers own = first_own bits lower upper answers own
limits_own bits (Some lower) None answers own = own
limits_own bits None upper answers own = own

either_own : (test : Bool) (x y : Progress Judged) → FindsRiskBits x → FindsRiskBits y → FindsRiskBits (if test then x else y)
either_own true x y first second = first
either_own false x y first second = second

checked_own : (card : ReadCard) (settings : SettingsData) (row : AidRow) (purchase : PurchaseData) (log : List Logged) (answers : List (List ℕ)) → FindsRiskBits (risk_checks card settings row purchase log answers)
unfolding risk_checks
checked_own card settings row purchase log answers =
    let own = alone_own card.pan settings row purchase log in
    either_own (may_decide settings.kind) _ _
    (limits_own (terminal_bits card.pan settings row purchase log) (limit_in 0x9F14 card.entries) (limit_in 0x9F23 card.entries) answers own) own

pub bits_own : RiskBitsAreOwn
unfolding risky
bits_own card settings row purchase log answers =
    either_own (bit_and (slice_index card.aip 0) 0x08 == 0) _ _ (always_own card.pan settings purchase)
    (checked_own card settings row purchase log answers)
