-- What holds of the bits that processing restrictions give, in other words.
use Rattle.std.specs.Prelude.{ℕ, ◌≤◌}
use Rattle.std.specs.Int.{bit_at}

-- the bits of this step (EMV 4.3 Book 3 Annex C5), the five bytes of the terminal verification results one behind
-- another: bits 8 to 5 of the second byte
abbrev pub restriction_bits : ℕ
restriction_bits = 0x00F0000000

-- no bit stands outside them, at whichever place, counted from 0 at the right
abbrev pub AreRestrictionBits : ℕ → Type 0
AreRestrictionBits bits = (place : ℕ) → bit_at bits place ≤ bit_at restriction_bits place
