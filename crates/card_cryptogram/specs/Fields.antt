-- What the terminal gives for an application cryptogram: fields at their places in the data of an object list
-- (EMV 4.3 Book 2 section 8.1.1, Book 3 section 5.4).
use Rattle.std.specs.Prelude.{ℕ, List, [], ◌∷◌, take, drop, replicate, slice_index, Option, Some, None}
use Rattle.std.specs.Int.{to_be_bytes, w16}
use Rattle.app_cryptogram.specs.declared.fields.AcFields.{AcFields}
use Rattle.object_lists.specs.DolEntries.{DolEntry, data_place}
use Rattle.card_cryptogram.specs.declared.fields.TerminalFields.{TerminalFields}

-- the data at a place, where there is one, else other data
abbrev pub data_at_or : ℕ → List ℕ → List ℕ → Option ℕ → List ℕ
data_at_or count filled other None = other
data_at_or count filled other (Some place) = take count (drop place filled)

-- the data of the first entry of this tag and length, else other data
unfoldable pub data_or : ℕ → ℕ → List DolEntry → List ℕ → List ℕ → List ℕ
data_or tag count dol filled other = data_at_or count filled other (data_place tag count dol)

-- the fields that the list names, and the others as they were given before
unfoldable pub given_from : List DolEntry → List ℕ → TerminalFields → TerminalFields
given_from dol filled before = record {
  amount = data_or 0x9F02 6 dol filled before.amount;
  other = data_or 0x9F03 6 dol filled before.other;
  country = data_or 0x9F1A 2 dol filled before.country;
  tvr = data_or 0x95 5 dol filled before.tvr;
  currency = data_or 0x5F2A 2 dol filled before.currency;
  date = data_or 0x9A 3 dol filled before.date;
  trade = slice_index (data_or 0x9C 1 dol filled (before.trade ∷ [])) 0;
  number = data_or 0x9F37 4 dol filled before.number;
}

-- nothing is given before the first cryptogram: zeros
abbrev pub nothing_given : TerminalFields
nothing_given = record {
  amount = replicate 6 0;
  other = replicate 6 0;
  country = replicate 2 0;
  tvr = replicate 5 0;
  currency = replicate 2 0;
  date = replicate 3 0;
  trade = 0;
  number = replicate 4 0;
}

-- the fields of the first cryptogram
unfoldable pub first_given : List DolEntry → List ℕ → TerminalFields
first_given dol filled = given_from dol filled nothing_given

-- the authorisation response code
unfoldable pub code_given : List DolEntry → List ℕ → List ℕ
code_given dol filled = data_or 0x8A 2 dol filled (replicate 2 0)

-- what a cryptogram covers: what was given, and the card's interchange profile and transaction counter
unfoldable pub covered : TerminalFields → List ℕ → ℕ → AcFields
covered given aip counter = record {
  amount = given.amount;
  other = given.other;
  country = given.country;
  tvr = given.tvr;
  currency = given.currency;
  date = given.date;
  trade = given.trade;
  number = given.number;
  aip = aip;
  counter = to_be_bytes w16 counter;
}
