-- The master key of a card from its issuer's, EMV 4.3 Book 2 Annex A1.4: option A (A1.4.1) up to sixteen digits
-- of the account number, option B (A1.4.2) above.
use Rattle.std.specs.Prelude.{ℕ, ◌==◌, List, [], ◌∷◌, ◌++◌, ◌/◌, ◌%◌, length, map, drop, replicate, nat_le, if◌then◌else◌}
use Rattle.emv_dict.specs.Nibbles.{packed}
use Rattle.sha1.specs.Sha1.{sha1}
use Rattle.triple_des.specs.Bits.{xor_bytes}
use Rattle.triple_des.specs.TripleDes.{tdes}
use Rattle.card_keys.specs.Decimal.{decimalised}
use Rattle.card_keys.specs.Parity.{odd_parity}

-- the account number's digits, and behind them the two of the sequence number's byte
abbrev pub pan_and_sequence : List ℕ → ℕ → List ℕ
pan_and_sequence pan sequence = pan ++ sequence / 16 ∷ sequence % 16 ∷ []

-- the rightmost sixteen digits, with zeros on the left where there are fewer
abbrev pub rightmost_sixteen : List ℕ → List ℕ
rightmost_sixteen digits = drop (length digits) (replicate 16 0 ++ digits)

-- with a zero on the left where their number is odd
abbrev pub even_digits : List ℕ → List ℕ
even_digits digits = (if length digits % 2 == 1 then 0 ∷ digits else digits)

-- by option A: the rightmost sixteen digits
unfoldable pub short_diversifier : List ℕ → ℕ → List ℕ
short_diversifier pan sequence = packed (rightmost_sixteen (pan_and_sequence pan sequence))

-- by option B: sixteen decimal digits of the hash of the digits
unfoldable pub long_diversifier : List ℕ → ℕ → List ℕ
long_diversifier pan sequence = decimalised (sha1 (packed (even_digits (pan_and_sequence pan sequence))))

-- Y, the eight bytes that stand for the card
unfoldable pub diversifier_of : List ℕ → ℕ → List ℕ
diversifier_of pan sequence =
    (if nat_le (length pan) 16 then short_diversifier pan sequence else long_diversifier pan sequence)

-- Y enciphered, and its complement enciphered
abbrev pub two_halves : List ℕ → List ℕ → ℕ → List ℕ
two_halves issuer pan sequence =
    tdes issuer (diversifier_of pan sequence) ++ tdes issuer (xor_bytes (diversifier_of pan sequence) (replicate 8 255))

-- these bytes, each with odd parity
unfoldable pub master_key_of : List ℕ → List ℕ → ℕ → List ℕ
master_key_of issuer pan sequence = map odd_parity (two_halves issuer pan sequence)
