-- Why a terminal asked for what it asked: of each table the first row whose condition holds (EMV 4.3 Book 3
-- section 10.7).
use Rattle.std.specs.Prelude.{ℕ, ◌==◌, Bool, true, false, not, ◌&&◌, if◌then◌else◌, List, [], ◌∷◌, bit_and, bit_or, Option, Some, None, unwrap_or}
use Rattle.emv_dict.specs.declared.ending.Kind.{Kind}
use Rattle.emv_dict.specs.declared.ending.Kind.TheVariants.{Aac, Tc, Arqc}
use Rattle.value_words.specs.declared.asking.Asking.{Asking}
use Rattle.value_words.specs.declared.asking.Reach.{Reach}
use Rattle.value_words.specs.declared.asking.Reach.TheVariants as reach
use Rattle.value_words.specs.declared.asking.Row.{Row}
use Rattle.value_words.specs.declared.reason.Found.{Found}
use Rattle.value_words.specs.declared.reason.Reason.{Reason}
use Rattle.value_words.specs.declared.reason.Reason.TheVariants as reason

-- the terminal's codes and where it may decide; where that is not known, no bits
abbrev pub known_row : Option Row → ℕ × ℕ × ℕ × Option Reach
known_row None = (0, 0, 0, None)
known_row (Some row) = (row.denial, row.online, row.default, Some row.reach)

-- every bit
abbrev pub all_bits : ℕ
all_bits = 0xFFFFFFFFFF

-- the bits of the results that a code of card or terminal has: of a denial code that the card does not give no bit
-- counts, of the others all
abbrev pub bits_found : Asking → ℕ → Found
bits_found asking results = let row = known_row asking.row in record {
  denied = bit_and results (bit_or (unwrap_or asking.card.denial 0) row.0);
  online = bit_and results (bit_or (unwrap_or asking.card.online all_bits) row.1);
  default = bit_and results (bit_or (unwrap_or asking.card.default all_bits) row.2);
  reach = row.3;
}

-- some bit is there
abbrev pub some_bit : ℕ → Bool
some_bit bits = not (bits == 0)

abbrev pub is_unknown : Option Reach → Bool
is_unknown None = true
is_unknown (Some r) = false

abbrev pub reaches_online_only : Option Reach → Bool
reaches_online_only None = false
reaches_online_only (Some reach.OnlineOnly) = true
reaches_online_only (Some reach.Both) = false
reaches_online_only (Some reach.OfflineOnly) = false

abbrev pub reaches_offline_only : Option Reach → Bool
reaches_offline_only None = false
reaches_offline_only (Some reach.OnlineOnly) = false
reaches_offline_only (Some reach.Both) = false
reaches_offline_only (Some reach.OfflineOnly) = true

abbrev pub is_both : Option Reach → Bool
is_both None = false
is_both (Some reach.OnlineOnly) = false
is_both (Some reach.Both) = true
is_both (Some reach.OfflineOnly) = false

-- the reason of the first row whose condition holds
abbrev pub first_that_holds : List (Bool × Reason) → Reason
first_that_holds [] = reason.Unexplained
first_that_holds (row ∷ rows) = (if row.0 then row.1 else first_that_holds rows)

abbrev pub first_aac : Found → Reason
first_aac f = first_that_holds (
    (some_bit f.denied, reason.Denied f.denied)
    ∷ (reaches_offline_only f.reach && some_bit f.default, reason.OfflineDefault f.default)
    ∷ (is_unknown f.reach, reason.TerminalDenial f.default) ∷ [])

abbrev pub first_arqc : Found → Reason
first_arqc f = first_that_holds (
    (some_bit f.denied, reason.Unexplained)
    ∷ (reaches_online_only f.reach, reason.OnlineOnly)
    ∷ (is_both f.reach && some_bit f.online, reason.Online f.online)
    ∷ (is_unknown f.reach && some_bit f.online, reason.OnlinePerhaps f.online)
    ∷ (is_unknown f.reach, reason.TerminalOnline) ∷ [])

abbrev pub first_tc : Found → Reason
first_tc f = first_that_holds (
    (some_bit f.denied, reason.Unexplained)
    ∷ (reaches_offline_only f.reach && not (some_bit f.default), reason.OfflineNone)
    ∷ (is_both f.reach && not (some_bit f.online), reason.NoneSet)
    ∷ (is_unknown f.reach && some_bit f.online, reason.OfflinePerhaps f.online)
    ∷ (is_unknown f.reach, reason.NonePerhaps) ∷ [])

abbrev pub second_aac : Found → Reason
second_aac f = first_that_holds (
    (some_bit f.default, reason.UnableDefault f.default)
    ∷ (reaches_online_only f.reach, reason.UnableOnlineOnly)
    ∷ (is_unknown f.reach, reason.UnableTerminal) ∷ [])

abbrev pub first_reason : Kind → Found → Reason
first_reason Aac f = first_aac f
first_reason Arqc f = first_arqc f
first_reason Tc f = first_tc f

abbrev pub second_reason : Kind → Found → Reason
second_reason Aac f = second_aac f
second_reason Arqc f = reason.Unexplained
second_reason Tc f = reason.UnableNone

-- with these results
abbrev pub by_results : Asking → Option ℕ → Reason
by_results asking None = reason.NoResults
by_results asking (Some results) =
    (if asking.second then second_reason asking.asked (bits_found asking results) else first_reason asking.asked (bits_found asking results))

-- a second question behind the issuer's reply has the reply's code as its reason
abbrev pub reason_of : Asking → Reason
reason_of asking = (if asking.second && asking.replied then reason.Issuer else by_results asking asking.results)
