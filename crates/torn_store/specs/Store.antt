-- A store as its callers see it.
use Rattle.std.specs.Prelude.{◌≡◌, ℕ, ◌<◌, ◌≤◌, List, [], length, map, drop, replicate, slice_index_or, true, false, Option, Some, None, IsTrue}
use Rattle.emv_ports.specs.Causes.{one_more}
use Rattle.emv_ports.specs.Cut.{is_plan}
use Rattle.emv_ports.specs.Memory.{Memory}
use Rattle.emv_ports.specs.PageReading.{Reading}
use Rattle.torn_store.specs.Layout.{recover_at}

-- the memory of its pages, and the state that it gives
pub record Stored : Type 0 where
  pub memory : Memory
  pub state : List ℕ

-- the first page is sure of one byte, 00 or 01, throughout
pub record IsGate (cells : List (List (Option ℕ))) : Type 0 where
  pub byte : ℕ
  pub bit : byte < 2
  pub throughout : slice_index_or cells 0 [] ≡ replicate 64 (Some byte)

-- under this bit, the pages behind the first stand for the state, whatever their unsure cells give
abbrev pub StandUnderBit : (cells : List (List (Option ℕ))) → ℕ → List ℕ → Type 0
StandUnderBit cells bit state = (pages : List (List ℕ)) → Reading (drop 1 cells) pages → recover_at bit pages ≡ Some state

-- pages that are on: 64 of 64 cells, which give what a reading of the cells may give
pub record IsOn (memory : Memory) : Type 0 where
  pub on : memory.on ≡ true
  pub sized : map length memory.cells ≡ replicate 64 64
  pub reading : Reading memory.cells memory.shown
  pub plan : IsTrue (is_plan memory.plan)

-- the pages are on, and behind a closed gate they stand for the state
pub record IsReady (memory : Memory) (state : List ℕ) : Type 0 where
  pub on : IsOn memory
  pub fits : length state ≤ 1024
  pub closed : slice_index_or memory.cells 0 [] ≡ replicate 64 (Some 0)
  pub stands : StandUnderBit memory.cells 0 state

-- the power was lost: the pages are off, the plan is spent, and the count of losses rose
pub record HasLostPower (old new : Memory) : Type 0 where
  pub off : new.on ≡ false
  pub plan : new.plan ≡ None
  pub losses : new.losses ≡ one_more old.losses
