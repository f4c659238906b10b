-- The tests of an offline approval in words (docs/proof/profile.md, CARD-20).
use Rattle.std.specs.Prelude.{ℕ, ◌+◌, ◌/◌, ◌%◌, ◌==◌, Bool, not, ◌||◌, nat_lt, nat_le, if◌then◌else◌, List, [], ◌++◌, codes, Option, Some, None, unwrap_or}
use Rattle.report_lines.specs.Pieces.{Piece, text, number}
use Rattle.issuer_reasons.specs.Wanted.{currency_words}
use Rattle.message_words.specs.declared.cards.Counters.{Counters}
use Rattle.purchase_reasons.specs.declared.approval.Facts.{Facts}
use Rattle.issuer_reasons.specs.declared.wanted.Wanted.{Wanted}
use Rattle.purchase_reasons.specs.declared.limits.Limits.{Limits}

-- the sum of the offline approvals in a currency, and its limit; none of a currency that the application doesn't have
abbrev pub second_sum_and_limit : Counters → Limits → ℕ → Option ℕ → Option (ℕ × ℕ)
second_sum_and_limit counters limits currency None = None
second_sum_and_limit counters limits currency (Some second) =
    if second == currency then Some (unwrap_or counters.second 0, limits.second_sum) else None

abbrev pub sum_and_limit : Counters → Limits → ℕ → Option (ℕ × ℕ)
sum_and_limit counters limits currency =
    if currency == limits.currency then Some (counters.sum, limits.sum)
    else second_sum_and_limit counters limits currency limits.second_currency

-- whether something is within its limit, and the limit
abbrev pub within_or_above : Bool → List Piece
within_or_above is_within = (if is_within then text (codes "within the limit ") else text (codes "above the limit "))

abbrev pub within_words : Bool → ℕ → List Piece
within_words is_within limit = within_or_above is_within ++ number limit

-- one more approval is within the limit of their number
abbrev pub count_words : ℕ → ℕ → List Piece
count_words count limit = text (codes "; offline approvals ") ++ number count ++ text (codes " + 1 are ") ++ within_words (nat_lt count limit) limit

-- the amount is within the limit of their sum
abbrev pub sum_words : ℕ → ℕ → ℕ → List Piece
sum_words sum amount limit =
    text (codes "; their sum ") ++ number sum ++ text (codes " + ") ++ number amount ++ text (codes " is ") ++ within_words (nat_le (sum + amount) limit) limit

-- a test is told where it failed, or where all are
abbrev pub count_test : Bool → ℕ → ℕ → List Piece
count_test all count limit = (if all || not (nat_lt count limit) then count_words count limit else [])

abbrev pub known_sum_test : Bool → ℕ → ℕ → ℕ → List Piece
known_sum_test all sum amount limit = (if all || not (nat_le (sum + amount) limit) then sum_words sum amount limit else [])

-- a currency that is none of the application's
abbrev pub other_currency_words : ℕ → List Piece
other_currency_words currency =
    text (codes "; the currency ") ++ currency_words currency ++ text (codes " is none of its own")

abbrev pub sum_test : Bool → Option (ℕ × ℕ) → Wanted → List Piece
sum_test all None wanted = other_currency_words wanted.currency
sum_test all (Some found) wanted = known_sum_test all found.0 wanted.amount found.1

-- the last issuer authentication failed
abbrev pub has_failed_authentication : Counters → Bool
has_failed_authentication counters = counters.flags / 2 % 2 == 1

abbrev pub authentication_test : Counters → List Piece
authentication_test counters = (if has_failed_authentication counters then text (codes "; its last issuer authentication failed") else [])

-- the tests of an offline approval of this amount: all, or those that failed
abbrev pub tests_words : Bool → Counters → Limits → Wanted → List Piece
tests_words all counters limits wanted =
    authentication_test counters ++ count_test all counters.count limits.count ++ sum_test all (sum_and_limit counters limits wanted.currency) wanted

-- which tests are left, where no limit is known
abbrev pub left_words : Bool → List Piece
left_words failed = (if failed then text (codes ": its last issuer authentication failed") else text (codes ": one of its limits, or the currency"))

-- what the application had counted, where no limit is known
abbrev pub counted_words : Bool → Counters → List Piece
counted_words all counters =
    text (codes "; it had counted offline approvals ") ++ number counters.count ++ text (codes ", sum ") ++ number counters.sum
    ++ (if all then [] else left_words (has_failed_authentication counters))

abbrev pub by_wanted : Bool → Counters → Limits → Option Wanted → List Piece
by_wanted all counters limits None = counted_words all counters
by_wanted all counters limits (Some wanted) = tests_words all counters limits wanted

abbrev pub by_known_limits : Bool → Counters → Option Limits → Option Wanted → List Piece
by_known_limits all counters None wanted = counted_words all counters
by_known_limits all counters (Some limits) wanted = by_wanted all counters limits wanted

abbrev pub by_counters : Bool → Option Counters → Option Limits → Option Wanted → List Piece
by_counters all None limits wanted = []
by_counters all (Some counters) limits wanted = by_known_limits all counters limits wanted

-- the tests of an offline approval as far as they are known: all, or those that failed
abbrev pub offline_approval_words : Bool → Facts → List Piece
offline_approval_words all facts = by_counters all facts.counters facts.limits facts.wanted
