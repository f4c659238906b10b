-- Terminal risk management (EMV 4.3 Book 3 section 10.6; sections 10.6.1, 10.6.2).
use Rattle.std.specs.Prelude.{ℕ, ◌+◌, ◌==◌, Bool, true, false, not, ◌&&◌, ◌||◌, nat_lt, nat_le, if◌then◌else◌, List, [], ◌∷◌, fold, bit_and, slice_index, option_map, Option, Some, None, Result, Ok, Err}
use Rattle.std.specs.List.{list_any}
use Rattle.std.specs.Str.{bytes_eq}
use Rattle.emv_dict.specs.Flags.{bits_where, tvr_bit}
use Rattle.emv_dict.specs.Progress.{Progress, Wants, Stopped, Done}
use Rattle.emv_dict.specs.Views.{SettingsData, PurchaseData}
use Rattle.emv_dict.specs.declared.ending.Cause.{Cause}
use Rattle.emv_dict.specs.declared.judged.Judged.{Judged}
use Rattle.emv_dict.specs.declared.purchase.AidRow.{AidRow}
use Rattle.emv_dict.specs.declared.purchase.Logged.{Logged}
use Rattle.env_map.specs.Entries.{Entries, value_of}
use Rattle.object_lists.specs.CardRead.{ReadCard}
use Rattle.risk_mgmt.specs.Counters.{counter_tag, last_online_tag, get_data, counter_in_answer, counter_bits}
use Rattle.risk_mgmt.specs.Selected.{is_selected}

-- terminal types 22, 23, 25 and 26: a merchant's terminal that may decide offline (EMV 4.3 Book 4 Annex A1)
abbrev pub may_decide : ℕ → Bool
may_decide kind = (kind == 22) || ((kind == 23) || ((kind == 25) || (kind == 26)))

-- terminal types 22 and 25: one that can also go online
abbrev pub may_choose : ℕ → Bool
may_choose kind = (kind == 22) || (kind == 25)

-- the account number is in the terminal exception file
abbrev pub is_exception : List ℕ → List (List ℕ) → Bool
is_exception pan exceptions = list_any (λ listed. bytes_eq listed pan) exceptions

-- the amount of the latest purchase of an account in the log, 0 where it has none
abbrev pub latest_amount : List ℕ → List Logged → ℕ
latest_amount pan log = fold (λ earlier row. if bytes_eq row.pan pan then row.amount else earlier) 0 log

-- the amount with that of the account's latest purchase reaches the floor limit
unfoldable pub exceeds_floor : List ℕ → SettingsData → AidRow → PurchaseData → List Logged → Bool
exceeds_floor pan settings row purchase log = may_decide settings.kind && nat_le row.floor (purchase.amount + latest_amount pan log)

-- selected at random among the purchases below the floor limit
unfoldable pub is_drawn : SettingsData → AidRow → PurchaseData → Bool
is_drawn settings row purchase =
    may_choose settings.kind && (nat_lt purchase.amount row.floor && is_selected row purchase.amount purchase.word)

-- the bits of every transaction
unfoldable pub always : List ℕ → SettingsData → PurchaseData → ℕ
always pan settings purchase = bits_where ((is_exception pan settings.exceptions, tvr_bit 1 5) ∷ (purchase.forced, tvr_bit 4 4) ∷ [])

-- those with the bits that the terminal finds alone
unfoldable pub terminal_bits : List ℕ → SettingsData → AidRow → PurchaseData → List Logged → ℕ
terminal_bits pan settings row purchase log = bits_where (
    (true, always pan settings purchase)
    ∷ (exceeds_floor pan settings row purchase log, tvr_bit 4 8)
    ∷ (is_drawn settings row purchase, tvr_bit 4 5) ∷ [])

-- what risk management finds
abbrev pub judged_with : ℕ → Bool → Judged
judged_with bits performed = record { tvr = record { 0 = bits }; performed = performed }

abbrev pub last_by : ℕ → ℕ → ℕ → Option ℕ → Result (Option ℕ) Cause → List (List ℕ) → Progress Judged
last_by bits lower upper counter (Ok last) rest = Done (judged_with (counter_bits bits lower upper counter last) true) rest
last_by bits lower upper counter (Err cause) rest = Stopped cause

-- the last online counter is asked for
unfoldable pub last_asked : ℕ → ℕ → ℕ → Option ℕ → List (List ℕ) → Progress Judged
last_asked bits lower upper counter [] = Wants (get_data last_online_tag)
last_asked bits lower upper counter (reply ∷ rest) = last_by bits lower upper counter (counter_in_answer last_online_tag reply) rest

abbrev pub first_by : ℕ → ℕ → ℕ → Result (Option ℕ) Cause → List (List ℕ) → Progress Judged
first_by bits lower upper (Ok counter) rest = last_asked bits lower upper counter rest
first_by bits lower upper (Err cause) rest = Stopped cause

-- the counter is asked for, then the last online one
unfoldable pub first_asked : ℕ → ℕ → ℕ → List (List ℕ) → Progress Judged
first_asked bits lower upper [] = Wants (get_data counter_tag)
first_asked bits lower upper (reply ∷ rest) = first_by bits lower upper (counter_in_answer counter_tag reply) rest

-- a limit of one byte, where the card gives it
abbrev pub limit_in : ℕ → Entries → Option ℕ
limit_in tag entries = option_map (λ value. slice_index value 0) (value_of tag entries)

-- velocity checking, where the card gives both limits (9F14 and 9F23)
abbrev pub by_limits : ℕ → Option ℕ → Option ℕ → List (List ℕ) → Progress Judged
by_limits bits (Some lower) (Some upper) answers = first_asked bits lower upper answers
by_limits bits (Some lower) None answers = Done (judged_with bits true) answers
by_limits bits None upper answers = Done (judged_with bits true) answers

-- the checks that a card asks for, b4 of its application interchange profile
unfoldable pub risk_checks : ReadCard → SettingsData → AidRow → PurchaseData → List Logged → List (List ℕ) → Progress Judged
risk_checks card settings row purchase log answers =
    if may_decide settings.kind
    then by_limits (terminal_bits card.pan settings row purchase log) (limit_in 0x9F14 card.entries) (limit_in 0x9F23 card.entries) answers
    else Done (judged_with (terminal_bits card.pan settings row purchase log) true) answers

-- the bits of risk management whose condition holds, over all answers of a card
unfoldable pub risky : ReadCard → SettingsData → AidRow → PurchaseData → List Logged → List (List ℕ) → Progress Judged
risky card settings row purchase log answers =
    if bit_and (slice_index card.aip 0) 0x08 == 0
    then Done (judged_with (always card.pan settings purchase) false) answers
    else risk_checks card settings row purchase log answers
