-- A cell of pages that live in memory.
use Rattle.std.specs.Prelude.{◌≡◌, ℕ, ◌+◌, ◌%◌, Bool, true, false, ◌&&◌, List, [], ◌∷◌, length, map, IsTrue, Option, Some, None, ◌==◌, nat_lt, if◌then◌else◌}
use Rattle.std.specs.List.{list_all}
use Rattle.emv_ports.specs.declared.memory_pages.Cell.{Cell}
use Rattle.emv_ports.specs.declared.memory_pages.Cell.TheVariants.{Sure, Unsure}

-- the cells of pages: each is sure of a byte, or unsure
abbrev pub Cells : Type 0
Cells = List (List (Option ℕ))

abbrev pub sure_of : Cell → Option ℕ
sure_of (Sure byte) = Some byte
sure_of (Unsure torn kept given) = None

abbrev pub is_sure : Cell → Bool
is_sure (Sure byte) = true
is_sure (Unsure torn kept given) = false

-- the byte that the cell gives until the next power-up
abbrev pub given_of : Cell → ℕ
given_of (Sure byte) = byte
given_of (Unsure torn kept given) = given

-- the cell behind a torn write of this byte
abbrev pub torn_over : Cell → ℕ → Cell
torn_over (Sure sure) byte = if sure == byte then Sure sure else Unsure byte sure sure
torn_over (Unsure torn kept given) byte = Unsure byte given given

abbrev pub all_torn_over : List Cell → List ℕ → List Cell
all_torn_over [] bytes = []
all_torn_over (cell ∷ cells) [] = cell ∷ cells
all_torn_over (cell ∷ cells) (byte ∷ bytes) = torn_over cell byte ∷ all_torn_over cells bytes

-- The cell as it is turned on: an unsure one gives the torn write's byte in its turn, else the byte that it gave when it was
-- torn.
abbrev pub cell_turned_on : Bool → Cell → Cell
cell_turned_on in_turn (Sure byte) = Sure byte
cell_turned_on in_turn (Unsure torn kept given) = if in_turn then Unsure torn kept torn else Unsure torn kept kept

-- The cells from number n on: a cell is in turn where its number and the power-up's make an even sum.
abbrev pub settled_from : ℕ → ℕ → List Cell → List Cell
settled_from power_up n [] = []
settled_from power_up n (cell ∷ cells) = cell_turned_on ((n + power_up) % 2 == 0) cell ∷ settled_from power_up (n + 1) cells

abbrev pub gives_byte : Cell → Bool
gives_byte cell = nat_lt (given_of cell) 256

-- 64 cells that give bytes
abbrev pub is_page : List Cell → Bool
is_page cells = length cells == 64 && list_all gives_byte cells

-- 64 cells that are sure of bytes
abbrev pub is_sure_page : List Cell → Bool
is_sure_page cells = is_page cells && list_all is_sure cells

-- the pages as they are turned on, and whether one of their cells may be unsure
pub record SettlesPages (power_up : ℕ) (old new : List (List Cell)) (torn : Bool) : Type 0 where
  pub cells : new ≡ map (settled_from power_up 0) old
  pub long : length new ≡ 64
  pub pages : IsTrue (list_all is_page new)
  pub sure : torn ≡ false → IsTrue (list_all is_sure_page new)
