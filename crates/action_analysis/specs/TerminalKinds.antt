-- Terminal types as decimal numbers (EMV 4.3 Book 4 Annex A1): the second digit of an attended merchant's terminal
-- is 1 to 3, that of an unattended one 4 to 6.
use Rattle.std.specs.Prelude.{ℕ, ◌==◌, ◌≤◌, Bool, ◌||◌}

-- online only
abbrev pub is_online_only : ℕ → Bool
is_online_only kind = (kind == 21) || (kind == 24)

-- offline with online capability
abbrev pub can_go_online : ℕ → Bool
can_go_online kind = (kind == 22) || (kind == 25)

-- a merchant's terminal
abbrev pub IsMerchants : ℕ → Type 0
IsMerchants kind = (21 ≤ kind) × (kind ≤ 26)
