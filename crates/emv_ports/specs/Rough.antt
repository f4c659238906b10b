-- What the unsure cells of rough pages give.
use Rattle.std.specs.Prelude.{ℕ, ◌+◌, ◌*◌, ◌%◌, List, [], ◌∷◌, Option, unwrap_or}
use Rattle.emv_ports.specs.Memory.{Memory}

-- The byte that an unsure cell gives from this power-up to the next. Power-ups are counted from 1, and their number may
-- be taken modulo 256, which gives the same byte.
abbrev pub rough_byte : (word power_up page cell : ℕ) → ℕ
rough_byte word power_up page cell = (word + 31 * power_up + 7 * page + cell) % 256

-- what the cells of a page give, from number n on: a sure one its byte
abbrev pub rough_page : (word power_up page n : ℕ) → List (Option ℕ) → List ℕ
rough_page word power_up page n [] = []
rough_page word power_up page n (cell ∷ cells) = unwrap_or cell (rough_byte word power_up page n) ∷ rough_page word power_up page (n + 1) cells

-- what the pages give, from this one on
abbrev pub rough_pages : (word power_up page : ℕ) → List (List (Option ℕ)) → List (List ℕ)
rough_pages word power_up page [] = []
rough_pages word power_up page (cells ∷ rest) = rough_page word power_up page 0 cells ∷ rough_pages word power_up (page + 1) rest

-- what a contract sees of rough pages
pub record RoughBank : Type 0 where
  pub memory : Memory
  pub word : ℕ
  -- how often the pages were turned on since they were made, modulo 256
  pub power_ups : ℕ
