-- The sale that a cryptogram is for, as the card keeps it (EMV 4.3 Book 3 Annex D4).
use Rattle.std.specs.Prelude.{ℕ, List, if◌then◌else◌, Option, Some, None}
use Rattle.std.specs.Str.{bytes_eq}
use Rattle.card_state.specs.declared.decision.Sale.{Sale}
use Rattle.card_state.specs.declared.decision.Which.{Which}
use Rattle.card_state.specs.declared.decision.Which.TheVariants.{One, Two, Neither}
use Rattle.emv_dict.specs.Bcd.{number_in}
use Rattle.card_cryptogram.specs.declared.fields.TerminalFields.{TerminalFields}

-- in which of a card's currencies: the first, the second where it has one, or none of them
abbrev pub second_or_neither : Option (List ℕ) → List ℕ → Which
second_or_neither None currency = Neither
second_or_neither (Some second) currency = if bytes_eq currency second then Two else Neither

abbrev pub which_of : List ℕ → Option (List ℕ) → List ℕ → Which
which_of first second currency = if bytes_eq currency first then One else second_or_neither second currency

-- the amount, as a number and as it was given, the currency and the date
unfoldable pub sale_of : List ℕ → Option (List ℕ) → TerminalFields → Sale
sale_of first second given = record {
  amount = number_in given.amount;
  raw = given.amount;
  currency = given.currency;
  date = given.date;
  which = which_of first second given.currency;
}
