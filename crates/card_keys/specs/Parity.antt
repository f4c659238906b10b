-- Odd parity: the lowest bit of a key's byte makes the number of its ones odd (EMV 4.3 Book 2 Annex A1.4.1, step 3).
use Rattle.std.specs.Prelude.{ℕ, ◌≡◌, ◌+◌, ◌*◌, ◌/◌, ◌%◌, ◌==◌, if◌then◌else◌, count_ones}

-- the byte has an odd number of ones
abbrev pub HasOddParity : ℕ → Type 0
HasOddParity byte = count_ones byte % 2 ≡ 1

-- of the two bytes with the upper seven bits of this one, that with an odd number of ones
abbrev pub odd_parity : ℕ → ℕ
odd_parity byte = (if count_ones (byte / 2 * 2) % 2 == 1 then byte / 2 * 2 else byte / 2 * 2 + 1)
