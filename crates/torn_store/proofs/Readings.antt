-- Readings of pages: of one page, of those behind the first, and with a page put in the place of another.
use Rattle.std.proofs.Common.{◌≡◌, ◌<◌, ℕ, zero, suc, List, [], ◌∷◌, length, get_or, drop, map, refl, ap, ◌∙◌, arith, Option, Some, None, lit<}
use Rattle.std.proofs.Math.ListN.{set}
use Rattle.std.specs.List.{AllZip}
use Rattle.emv_ports.specs.PageReading.{Agrees, Reading}

abbrev pub PageReading : List (Option ℕ) → List ℕ → Type 0
PageReading cells bytes = AllZip Agrees cells bytes

-- each page can be read
pub some_page : (cells : List (Option ℕ)) → (bytes : List ℕ) × PageReading cells bytes
some_page [] = ([], tt)
some_page (Some sure ∷ cells) = let rest = some_page cells in (sure ∷ rest.0, (refl, rest.1))
some_page (None ∷ cells) = let rest = some_page cells in (0 ∷ rest.0, (lit< tt, rest.1))

-- a page that is sure of its bytes gives them
pub sure_page : (bytes read : List ℕ) → PageReading (map Some bytes) read → read ≡ bytes
sure_page [] [] reading = refl
sure_page [] (r ∷ read) reading = absurd reading
sure_page (b ∷ bytes) [] reading = absurd reading
sure_page (b ∷ bytes) (r ∷ read) reading = ap (λ x. x ∷ read) reading.0 ∙ ap (λ (l : List ℕ). b ∷ l) (sure_page bytes read reading.1)

pub reading_length : (cells : List (List (Option ℕ))) (bytes : List (List ℕ)) → Reading cells bytes → length bytes ≡ length cells
reading_length [] [] reading = refl
reading_length [] (b ∷ bytes) reading = absurd reading
reading_length (c ∷ cells) [] reading = absurd reading
reading_length (c ∷ cells) (b ∷ bytes) reading = let rest = reading_length cells bytes reading.1 in grind arith

-- the page at a place
pub reading_at : (cells : List (List (Option ℕ))) (bytes : List (List ℕ)) (page : ℕ) → Reading cells bytes → page < length cells
    → PageReading (get_or cells page []) (get_or bytes page [])
reading_at [] bytes page reading inside = absurd (omega arith)
reading_at (c ∷ cells) [] page reading inside = absurd reading
reading_at (c ∷ cells) (b ∷ bytes) zero reading inside = reading.0
reading_at (c ∷ cells) (b ∷ bytes) (suc page) reading inside = reading_at cells bytes page reading.1 (omega arith)

-- the pages behind the first
pub reading_rest : (cells : List (List (Option ℕ))) (bytes : List (List ℕ)) → Reading cells bytes → Reading (drop 1 cells) (drop 1 bytes)
reading_rest [] [] reading = tt
reading_rest [] (b ∷ bytes) reading = absurd reading
reading_rest (c ∷ cells) [] reading = absurd reading
reading_rest (c ∷ cells) (b ∷ bytes) reading = reading.1

-- a page of the reading is changed back to one of the cells that stood there
pub reading_back : (cells : List (List (Option ℕ))) (bytes : List (List ℕ)) (place : ℕ) (page : List (Option ℕ)) (old : List ℕ)
    → Reading (set cells place page) bytes → PageReading (get_or cells place []) old → Reading cells (set bytes place old)
reading_back [] [] place page old reading there = tt
reading_back [] (b ∷ bytes) place page old reading there = absurd reading
reading_back (c ∷ cells) [] zero page old reading there = absurd reading
reading_back (c ∷ cells) [] (suc place) page old reading there = absurd reading
reading_back (c ∷ cells) (b ∷ bytes) zero page old reading there = (there, reading.1)
reading_back (c ∷ cells) (b ∷ bytes) (suc place) page old reading there = (reading.0, reading_back cells bytes place page old reading.1 there)
