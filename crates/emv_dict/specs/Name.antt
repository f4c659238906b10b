-- The name of an application or of a directory: 1 to 16 bytes (EMV 4.3 Book 1 section 12.2.1).
use Rattle.std.specs.Prelude.{ℕ, ◌≤◌, List, length, codes}

-- a name has 1 to 16 bytes
abbrev pub IsName : List ℕ → Type 0
IsName bytes = (1 ≤ length bytes) × (length bytes ≤ 16)

-- the name of the payment system environment (EMV 4.3 Book 1 section 12.2.2)
abbrev pub directory_name : List ℕ
directory_name = codes "1PAY.SYS.DDF01"
