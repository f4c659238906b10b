-- The lines that an issuer's host answers (this project's own).
use Rattle.std.specs.Prelude.{ℕ, ℤ, Bool, true, false, List, [], ◌∷◌, ◌++◌, length, codes, decimal, Option, Some, None}
use Rattle.std.specs.List.{flat_map}
use Rattle.std.specs.Fmt.{signed_decimal}
use Rattle.host_link.specs.FaultWords.{iso_fault_words, message_fault_words}
use Rattle.issuer_host.specs.Account.{AccountData}
use Rattle.issuer_host.specs.Balance.{balance_in}
use Rattle.issuer_host.specs.Books.{Books}
use Rattle.issuer_host.specs.declared.reason.Reason.{Reason}
use Rattle.issuer_host.specs.declared.reason.Reason.TheVariants.{Unreadable, Repeat, OtherBytes, UnknownAccount, WrongCryptogram, Blocked, OtherCurrency, Reversed, Presented, Expired, WrongPin, AboveBalance, Approved, Settled, Released, NothingHeld}
use Rattle.iso_message.specs.declared.fault.IsoFault.{IsoFault}
use Rattle.report_text.specs.Pieces.{digits_text, hex_or_dash}
use Rattle.host_at_lines.specs.declared.because.Because.{Because}

-- the answer to what is no line
abbrev pub unasked_text : List ℕ
unasked_text = codes "?" ++ 10 ∷ []

abbrev pub reply_text : List ℕ → List ℕ
reply_text reply = codes "< " ++ (hex_or_dash reply ++ 10 ∷ [])

-- a balance as a report has it, where an account has the number
abbrev pub balance_text : List ℕ → Option ℤ → List ℕ
balance_text pan None = unasked_text
balance_text pan (Some balance) = codes "balance " ++ (digits_text pan ++ (codes " " ++ (signed_decimal balance ++ 10 ∷ [])))

abbrev pub count_text : ℕ → List ℕ
count_text count = codes "accounts " ++ (decimal count ++ 10 ∷ [])

-- how many accounts there are, and the balance of each behind these books
abbrev pub accounts_text : List AccountData → Books → List ℕ
accounts_text accounts books =
    count_text (length accounts) ++ flat_map (λ account. balance_text account.pan (balance_in accounts books account.pan)) accounts

-- why bytes can't be read in the style of ISO 8583
abbrev pub unread_text : IsoFault → List ℕ
unread_text fault = codes "? " ++ (iso_fault_words fault ++ 10 ∷ [])

-- a number behind a blank, where there is one
abbrev pub blank_number : Option ℕ → List ℕ
blank_number None = []
blank_number (Some number) = codes " " ++ decimal number

abbrev pub above_words : ℕ → ℤ → List ℕ
above_words amount balance = (codes "above-balance " ++ decimal amount) ++ (codes " " ++ signed_decimal balance)

abbrev pub settled_reason_words : ℕ → Option ℕ → List ℕ
settled_reason_words amount held = codes "settled " ++ (decimal amount ++ blank_number held)

-- a reason and its numbers, with the number of the earlier message that it speaks of
abbrev pub host_reason_words : Option ℕ → Reason → List ℕ
host_reason_words earlier (Unreadable fault) = codes "unreadable " ++ message_fault_words fault
host_reason_words earlier Repeat = codes "repeat" ++ blank_number earlier
host_reason_words earlier OtherBytes = codes "other-bytes" ++ blank_number earlier
host_reason_words earlier UnknownAccount = codes "unknown-account"
host_reason_words earlier WrongCryptogram = codes "cryptogram"
host_reason_words earlier Blocked = codes "blocked"
host_reason_words earlier (OtherCurrency message account) = codes "currency " ++ (hex_or_dash message ++ (codes " " ++ hex_or_dash account))
host_reason_words earlier Reversed = codes "reversed" ++ blank_number earlier
host_reason_words earlier Presented = codes "presented" ++ blank_number earlier
host_reason_words earlier (Expired expiry day) = codes "expired " ++ (hex_or_dash expiry ++ (codes " " ++ hex_or_dash day))
host_reason_words earlier WrongPin = codes "pin"
host_reason_words earlier (AboveBalance amount balance) = above_words amount balance
host_reason_words earlier (Approved amount) = codes "approved" ++ blank_number (Some amount)
host_reason_words earlier (Settled amount held) = settled_reason_words amount held
host_reason_words earlier (Released amount) = codes "released" ++ blank_number (Some amount)
host_reason_words earlier NothingHeld = codes "nothing-held"

abbrev pub with_scripts_words : Bool → List ℕ
with_scripts_words false = []
with_scripts_words true = codes " scripts"

abbrev pub because_line : Because → List ℕ
because_line because = codes "because " ++ (host_reason_words because.earlier because.reason ++ (with_scripts_words because.scripts ++ 10 ∷ []))

-- why the last reply is as it is, where there was one
abbrev pub because_text : Option Because → List ℕ
because_text None = unasked_text
because_text (Some because) = because_line because
