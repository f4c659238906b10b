-- A tag's bytes as one big-endian number (EMV 4.3 Book 3 Annex B1).
use Rattle.std.specs.Prelude.{ℕ, Bool, IsTrue, ◌/◌, ◌%◌, ◌==◌, ◌&&◌, not, nat_lt, nat_le, if◌then◌else◌}

-- the first of the tag's one to three bytes
abbrev pub first_byte_of : ℕ → ℕ
first_byte_of tag = (if nat_lt tag 256 then tag else (if nat_lt tag 65536 then tag / 256 else tag / 65536))

-- bit 6 of the first byte: a constructed object
abbrev pub names_template : ℕ → Bool
names_template tag = first_byte_of tag / 32 % 2 == 1

-- a tag that a reading can give: the five low bits of the first byte are all 1 exactly where more
-- bytes follow, and bit 8 of the second is 1 exactly where a third follows; no tag begins with 00
abbrev pub is_readable : ℕ → Bool
is_readable tag =
    if nat_lt tag 256 then nat_lt 0 tag && not (tag % 32 == 31)
    else if nat_lt tag 65536 then (tag / 256 % 32 == 31) && nat_lt (tag % 256) 128
    else nat_lt tag 16777216 && (tag / 65536 % 32 == 31) && nat_le 128 (tag / 256 % 256) && nat_lt (tag % 256) 128

-- the same as a fact, which proofs open only where they need it
unfoldable pub IsReadable : ℕ → Type 0
IsReadable tag = IsTrue (is_readable tag)
