-- The table of names, and what tables of words hold.
use Rattle.std.specs.Prelude.{ℕ, ◌==◌, ◌+◌, ◌*◌, Bool, true, not, ◌&&◌, if◌then◌else◌, List, [], ◌∷◌, map, Option, Some, None, is_some}
use Rattle.std.specs.List.{list_any, list_all, flat_map}
use Rattle.std.specs.Str.{bytes_eq}
use Rattle.emv_dict.specs.Dictionary.{Listed}
use Rattle.value_words.specs.declared.names.Form.{Form}

-- the name of a tag, and how its value is told
unfoldable pub tag_name_in : List (ℕ × List ℕ × Form) → ℕ → Option (List ℕ × Form)
tag_name_in [] tag = None
tag_name_in (n ∷ ns) tag = (if n.0 == tag then Some (n.1, n.2) else tag_name_in ns tag)

-- each object has a name
abbrev pub have_names : List (ℕ × List ℕ × Form) → List Listed → Bool
have_names names objects = list_all (λ object. is_some (tag_name_in names object.tag)) objects

-- no number stands twice
abbrev pub are_distinct : List ℕ → Bool
are_distinct [] = true
are_distinct (n ∷ ns) = not (list_any (λ m. m == n) ns) && are_distinct ns

-- no text stands twice
abbrev pub are_distinct_texts : List (List ℕ) → Bool
are_distinct_texts [] = true
are_distinct_texts (t ∷ ts) = not (list_any (λ u. bytes_eq u t) ts) && are_distinct_texts ts

-- the bits of a byte, the leftmost first
abbrev pub numbered_bits : ℕ → List ℕ
numbered_bits byte = map (λ bit. 10 * byte + bit) (8 ∷ 7 ∷ 6 ∷ 5 ∷ 4 ∷ 3 ∷ 2 ∷ 1 ∷ [])

-- the bits of the terminal verification results (EMV 4.3 Book 3 Annex C5)
abbrev pub tvr_bit_numbers : List ℕ
tvr_bit_numbers = flat_map numbered_bits (1 ∷ 2 ∷ 3 ∷ 4 ∷ 5 ∷ [])
