-- The one shortest spelling of a data object (EMV 4.3 Book 3 Annex B1 and B2).
use Rattle.std.specs.Prelude.{ℕ, ◌+◌, ◌/◌, ◌%◌, nat_lt, if◌then◌else◌, List, [], ◌∷◌, ◌++◌, length}

-- the bytes of a tag of one to three bytes, the highest first
abbrev pub tag_bytes : ℕ → List ℕ
tag_bytes tag =
    if nat_lt tag 256 then tag ∷ []
    else if nat_lt tag 65536 then (tag / 256) ∷ (tag % 256) ∷ []
    else (tag / 65536 % 256) ∷ (tag / 256 % 256) ∷ (tag % 256) ∷ []

-- one byte below 80, else 81 and one byte, else 82 and two bytes
abbrev pub length_bytes : ℕ → List ℕ
length_bytes count =
    if nat_lt count 128 then count ∷ []
    else if nat_lt count 256 then 129 ∷ count ∷ []
    else 130 ∷ (count / 256) ∷ (count % 256) ∷ []

-- tag, length and value
unfoldable pub written : ℕ → List ℕ → List ℕ
written tag value = tag_bytes tag ++ length_bytes (length value) ++ value

-- how many bytes the spelling of an object takes whose value has so many bytes
abbrev pub written_length : ℕ → ℕ → ℕ
written_length tag count = length (tag_bytes tag) + length (length_bytes count) + count
