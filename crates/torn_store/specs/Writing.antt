-- Rows of writes, and what they leave of the memory.
use Rattle.std.specs.Prelude.{◌≡◌, ◌<◌, ◌≤◌, ◌⊎◌, All, ℕ, zero, suc, ◌+◌, List, [], ◌∷◌, ◌++◌, drop, map, length, replicate, slice_index_or, true, false, Option, Some, None}
use Rattle.emv_ports.specs.Cut.{names_commit, cuts_among}
use Rattle.emv_ports.specs.Memory.{Memory, page_written, next_write_cut, CutWrite}
use Rattle.emv_ports.specs.declared.tear.Cut.TheVariants.{Spared}
use Rattle.torn_store.specs.Layout.{padded_page, numbers_in, paired}
use Rattle.torn_store.specs.Recovery.{lowest}
use Rattle.torn_store.specs.Store.{HasLostPower}
use Rattle.torn_store.specs.declared.layout.Block.{Block}

-- the pages are on, and these are at most 17 blocks for pages that are there
pub record MayWrite (memory : Memory) (blocks : List Block) : Type 0 where
  pub on : memory.on ≡ true
  pub few : length blocks ≤ 17
  pub within : All (λ block. block.page < 64) blocks

-- all of these writes were made, one after another
abbrev pub WritesAll : Memory → List Block → Memory → Type 0
WritesAll old [] new = new ≡ old
WritesAll old (block ∷ blocks) new = (next_write_cut old ≡ Spared) × WritesAll (page_written old block.page block.bytes) blocks new

-- one of these writes was cut, and those before it were made
abbrev pub StopsIn : Memory → List Block → Memory → Type 0
StopsIn old [] new = ⊥
StopsIn old (block ∷ blocks) new =
    CutWrite old block.page block.bytes new
    ⊎ ((next_write_cut old ≡ Spared) × StopsIn (page_written old block.page block.bytes) blocks new)

-- a row of at most so many writes was made
pub record WroteFew (old new : Memory) (most : ℕ) : Type 0 where
  pub row : List Block
  pub few : length row ≤ most
  pub all : WritesAll old row new

-- one of at most so many writes was cut
pub record StoppedFew (old new : Memory) (most : ℕ) : Type 0 where
  pub row : List Block
  pub few : length row ≤ most
  pub stops : StopsIn old row new

-- n writes behind the start of a commit, none of which is cut
pub record Row (start now : Memory) (n : ℕ) : Type 0 where
  pub plan : now.plan ≡ start.plan
  pub commit : now.commit ≡ start.commit
  pub losses : now.losses ≡ start.losses
  pub writes : now.writes ≡ n
  pub spared : cuts_among start.plan start.commit n ≡ false

-- what is left where one of the writes is cut
pub record RowCut (start new : Memory) (number : ℕ) : Type 0 where
  pub cut : cuts_among start.plan start.commit number ≡ true
  pub gone : HasLostPower start new

-- the bytes of the blocks, on the pages from this one on
abbrev pub journaled : ℕ → List Block → List Block
journaled page [] = []
journaled page (block ∷ blocks) = record { page = page; bytes = block.bytes } ∷ journaled (page + 1) blocks

-- a header that names the pages of the blocks
abbrev pub header : List Block → List ℕ
header blocks = padded_page (length blocks ∷ map (λ block. block.page) blocks)

-- the gate's page, closed or open
abbrev pub gate : ℕ → Block
gate bit = record { page = 0; bytes = replicate 64 bit }

-- the home pages of an open journal, and the gate closed behind them
abbrev pub replay_row : List Block → List Block
replay_row blocks = blocks ++ gate 0 ∷ []

-- the row of a commit of these home pages
abbrev pub commit_row : List Block → List Block
commit_row blocks = journaled 19 blocks ++ record { page = 18; bytes = header blocks } ∷ gate 1 ∷ replay_row blocks

-- what a repair writes behind the gate's page
abbrev pub mending_row : ℕ → Option (List ℕ) → List (List ℕ) → List Block
mending_row zero numbers shown = []
mending_row (suc bit) None shown = []
mending_row (suc bit) (Some numbers) shown = replay_row (paired numbers (drop 19 shown))

-- the row of a repair: the gate as it was read, and where it is open the home pages of the header and a closed gate
abbrev pub repair_row : List (List ℕ) → List Block
repair_row shown = gate (lowest shown) ∷ mending_row (lowest shown) (numbers_in (slice_index_or shown 18 [])) shown

-- the pages were turned on and released, and some writes of commit 0 were made
pub record TurnedOn (old new : Memory) : Type 0 where
  pub spared : names_commit old.plan 0 ≡ false
  pub commit : new.commit ≡ 0
  pub wrote : 1 ≤ new.writes
  pub plan : new.plan ≡ old.plan
  pub losses : new.losses ≡ old.losses

-- the power was lost in commit 0, as the plan has it
pub record LostAt (old new : Memory) : Type 0 where
  pub cut : names_commit old.plan 0 ≡ true
  pub gone : HasLostPower old new
