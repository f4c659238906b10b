-- How the entries lie in one byte string: value behind value, by rising tag.
use Rattle.std.specs.Prelude.{ℕ, ◌+◌, ◌==◌, nat_lt, if◌then◌else◌, List, [], ◌∷◌, Option, Some, None, option_map, suc, take, drop}
use Rattle.env_map.specs.Entries.{Entries}
use Rattle.env_map.specs.declared.place.ObjectPlace.{ObjectPlace}

abbrev pub entries_of : List ℕ → List ObjectPlace → Entries
entries_of bytes [] = []
entries_of bytes (place ∷ places) = (place.tag.0, take place.count bytes) ∷ entries_of (drop place.count bytes) places

-- how many bytes the values have
abbrev pub count_of_bytes : List ObjectPlace → ℕ
count_of_bytes [] = 0
count_of_bytes (place ∷ places) = place.count + count_of_bytes places

-- how many entries, and how many bytes of values, stand before the first greater tag
abbrev pub index_for : ℕ → List ObjectPlace → ℕ
index_for tag [] = 0
index_for tag (place ∷ places) = (if nat_lt tag place.tag.0 then 0 else suc (index_for tag places))

abbrev pub start_for : ℕ → List ObjectPlace → ℕ
start_for tag [] = 0
start_for tag (place ∷ places) = (if nat_lt tag place.tag.0 then 0 else place.count + start_for tag places)

-- where the value of this tag begins
abbrev pub start_at : ℕ → List ObjectPlace → Option ℕ
start_at tag [] = None
start_at tag (place ∷ places) = (if place.tag.0 == tag then Some 0 else option_map (λ start. place.count + start) (start_at tag places))
