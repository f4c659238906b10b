-- Where the state lies, and what is recovered. Page 0 is the gate, pages 1 to 17 are the home, page 18 is the
-- header, pages 19 to 35 are the journal.
use Rattle.std.specs.Prelude.{ℕ, zero, suc, ◌+◌, ◌-◌, ◌*◌, ◌/◌, ◌%◌, Bool, true, not, ◌&&◌, ◌==◌, nat_lt, nat_le, List, [], ◌∷◌, ◌++◌, take, drop, length, replicate, slice_index_or, slice_set, Option, Some, None, if◌then◌else◌}
use Rattle.std.specs.List.{starts_with}
use Rattle.torn_store.specs.Recovery.{lowest}
use Rattle.torn_store.specs.declared.layout.Block.{Block}

-- the bytes of the pages, one page after another
abbrev pub bytes_of_pages : List (List ℕ) → List ℕ
bytes_of_pages [] = []
bytes_of_pages (page ∷ pages) = page ++ bytes_of_pages pages

-- the state behind its length in two bytes, big-endian; none where the length is above 1,024
abbrev pub state_in : List ℕ → Option (List ℕ)
state_in [] = None
state_in (high ∷ []) = None
state_in (high ∷ low ∷ text) =
    if nat_lt low 256 && nat_le (high * 256 + low) 1024 then Some (take (high * 256 + low) text) else None

-- numbers of home pages, each above the one before
abbrev pub is_rising : ℕ → List ℕ → Bool
is_rising above [] = true
is_rising above (number ∷ numbers) = nat_lt above number && (nat_le number 17 && is_rising number numbers)

-- the home pages that a header names: their count in its first byte, and then their numbers
abbrev pub numbers_in : List ℕ → Option (List ℕ)
numbers_in [] = None
numbers_in (count ∷ text) = if nat_le count 17 && is_rising 0 (take count text) then Some (take count text) else None

-- the first page of the journal is for the first number, and so on
abbrev pub paired : List ℕ → List (List ℕ) → List Block
paired [] journal = []
paired (number ∷ numbers) [] = []
paired (number ∷ numbers) (bytes ∷ journal) = record { page = number; bytes = bytes } ∷ paired numbers journal

-- the home with these blocks in place of the pages that they name
abbrev pub overlaid : List Block → List (List ℕ) → List (List ℕ)
overlaid [] home = home
overlaid (block ∷ blocks) home = overlaid blocks (slice_set home (block.page - 1) block.bytes)

-- the state of the home under the journal, for the numbers that the header gives
abbrev pub replayed : Option (List ℕ) → List (List ℕ) → Option (List ℕ)
replayed None pages = None
replayed (Some numbers) pages = state_in (bytes_of_pages (overlaid (paired numbers (drop 18 pages)) (take 17 pages)))

-- the state in the pages behind the gate: where it is closed (0) that of the home, where it is open that of the
-- home under the journal
abbrev pub recover_at : ℕ → List (List ℕ) → Option (List ℕ)
recover_at zero pages = state_in (bytes_of_pages (take 17 pages))
recover_at (suc bit) pages = replayed (numbers_in (slice_index_or pages 17 [])) pages

-- what is recovered from the pages: the gate is open where its lowest bit is 1
abbrev pub recover : List (List ℕ) → Option (List ℕ)
recover pages = recover_at (lowest pages) (drop 1 pages)

-- a state behind its length
abbrev pub framed : List ℕ → List ℕ
framed state = length state / 256 ∷ length state % 256 ∷ state

-- the part of a frame in the home page at this place, counted from 0
abbrev pub page_part : List ℕ → ℕ → List ℕ
page_part frame place = take 64 (drop (64 * place) frame)

-- a page that begins with this part, and 00 behind it
abbrev pub padded_page : List ℕ → List ℕ
padded_page part = part ++ replicate (64 - length part) 0

-- a home that begins with the known bytes doesn't have the frame's part at this place yet
abbrev pub changes : List ℕ → List ℕ → ℕ → Bool
changes known frame place = not (starts_with ◌==◌ (drop (64 * place) known) (page_part frame place))

-- of so many home pages from a place on those that change
abbrev pub changed_from : ℕ → ℕ → List ℕ → List ℕ → List Block
changed_from place zero known frame = []
changed_from place (suc left) known frame =
    if changes known frame place
    then record { page = place + 1; bytes = padded_page (page_part frame place) } ∷ changed_from (place + 1) left known frame
    else changed_from (place + 1) left known frame

-- of the home pages that hold a frame those that change, for a home that begins with the known bytes
abbrev pub changed_in : List ℕ → List ℕ → List Block
changed_in known frame = changed_from 0 ((length frame + 63) / 64) known frame

-- the home pages that change from a state to a new one
abbrev pub changed_pages : List ℕ → List ℕ → List Block
changed_pages old new = changed_in (framed old) (framed new)

-- how many writes a commit makes: each page that changes in the journal and at home, the header, and the gate twice
abbrev pub commit_writes : List ℕ → List ℕ → ℕ
commit_writes old new = 2 * length (changed_pages old new) + 3
