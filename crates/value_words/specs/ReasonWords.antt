-- A reason in words.
use Rattle.std.specs.Prelude.{ℕ, ◌+◌, ◌-◌, ◌/◌, ◌%◌, ◌==◌, Bool, true, false, if◌then◌else◌, List, [], ◌++◌, codes}
use Rattle.report_lines.specs.Pieces.{Piece, text, number}
use Rattle.report_lines.specs.Bits.{bits_between}
use Rattle.value_words.specs.declared.phrases.TheConstants.{ISSUER, NO_RESULTS, NO_RESULTS_AT_ALL, DENIED, OFFLINE_DEFAULT, TERMINAL_DENIAL, ONLINE_ONLY, ONLINE, OR_ONLINE_ONLY, TERMINAL_ONLINE, OFFLINE_NONE, NONE_SET, OFFLINE_PERHAPS, NO_DEFAULT, NONE_PERHAPS, UNABLE_DEFAULT, UNABLE_ONLINE_ONLY, UNABLE_TERMINAL, UNABLE_NONE, UNEXPLAINED}
use Rattle.value_words.specs.declared.reason.Reason.{Reason}
use Rattle.value_words.specs.declared.reason.Reason.TheVariants as reason

-- a bit of 40, by its place from 0 at the left: its byte from 1 at the left, and its place in it from 8 at the left to 1
abbrev pub bit_place_words : ℕ → List Piece
bit_place_words place = number (place / 8 + 1) ++ text (codes ".") ++ number (8 - place % 8)

-- the bits of a number of 40 bits, with blanks between
abbrev pub bit_places_words : ℕ → List Piece
bit_places_words bits = bits_between 40 (text (codes " ")) bit_place_words bits

-- the bits, or `one` where there is none
abbrev pub bits_or_one : ℕ → List Piece
bits_or_one bits = (if bits == 0 then text (codes "one") else bit_places_words bits)

-- a text, the bits, and the text behind them
abbrev pub around : List ℕ → ℕ → List ℕ → List Piece
around before bits behind = text before ++ bit_places_words bits ++ text behind

-- a second question without the issuer, and what the codes do not explain
abbrev pub unable_words : Reason → List Piece
unable_words (reason.UnableDefault bits) = around UNABLE_DEFAULT.now bits []
unable_words reason.UnableOnlineOnly = text UNABLE_ONLINE_ONLY.now
unable_words reason.UnableTerminal = text UNABLE_TERMINAL.now
unable_words reason.UnableNone = text UNABLE_NONE.now
unable_words _ = text UNEXPLAINED.now

-- a TC or an ARQC
abbrev pub asking_reason_words : Reason → List Piece
asking_reason_words reason.OnlineOnly = text ONLINE_ONLY.now
asking_reason_words (reason.Online bits) = around ONLINE.now bits []
asking_reason_words (reason.OnlinePerhaps bits) = around ONLINE.now bits OR_ONLINE_ONLY.now
asking_reason_words reason.TerminalOnline = text TERMINAL_ONLINE.now
asking_reason_words reason.OfflineNone = text OFFLINE_NONE.now
asking_reason_words reason.NoneSet = text NONE_SET.now
asking_reason_words (reason.OfflinePerhaps bits) =
    around OFFLINE_PERHAPS.now bits NO_DEFAULT.now
asking_reason_words reason.NonePerhaps = text NONE_PERHAPS.now
asking_reason_words other = unable_words other

-- no list had the results, at the first or the second question
abbrev pub no_results_words : Bool → List Piece
no_results_words true = text NO_RESULTS_AT_ALL.now
no_results_words false = text NO_RESULTS.now

-- a reason, at the first or the second question, with the issuer's response code
abbrev pub reason_words : Reason → Bool → List ℕ → List Piece
reason_words reason.Issuer second code = text ISSUER.now ++ text code
reason_words reason.NoResults second code = no_results_words second
reason_words (reason.Denied bits) second code = around DENIED.now bits []
reason_words (reason.OfflineDefault bits) second code = around OFFLINE_DEFAULT.now bits []
reason_words (reason.TerminalDenial bits) second code =
    text TERMINAL_DENIAL.now ++ bits_or_one bits
reason_words other second code = asking_reason_words other
