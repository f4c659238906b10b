-- What pages that live in memory keep beside their meaning, and what each call makes of that.
use Rattle.std.specs.Prelude.{ℕ, ◌+◌, ◌%◌, ◌-◌, ◌^◌, min, List, [], map, slice_index_or, slice_set, replicate}
use Rattle.emv_ports.specs.Cell.{all_torn_over, settled_from}
use Rattle.emv_ports.specs.Memory.{Memory}
use Rattle.emv_ports.specs.declared.memory_pages.Cell.{Cell}
use Rattle.emv_ports.specs.declared.memory_pages.Cell.TheVariants.{Sure}

-- what no call of `Pages` shows at once
pub record Workings : Type 0 where
  -- each page's cells, with what a torn write left in them
  pub cells : List (List Cell)
  -- how often the pages were turned on since they were made, modulo 2
  pub turn : ℕ
  -- how often `mark` was called since they were made, up to 2 ^ 32 - 1
  pub marks : ℕ
  -- how often `write` was called since they were made, up to 2 ^ 32 - 1
  pub writes : ℕ

-- what a contract sees of pages in memory
pub record MemoryBank : Type 0 where
  pub memory : Memory
  pub workings : Workings

-- the call behind this many, up to 2 ^ 32 - 1
abbrev pub next_call : ℕ → ℕ
next_call calls = min (calls + 1) (2 ^ 32 - 1)

-- behind one more power-up: each page's cells take their turn
abbrev pub turned_on : Workings → Workings
turned_on w = let turn = (w.turn + 1) % 2 in
    record w { cells = map (settled_from turn 0) w.cells; turn = turn }

-- behind one more mark
abbrev pub marked_once : Workings → Workings
marked_once w = record w { marks = next_call w.marks }

-- behind a write that was spared
abbrev pub written_once : Workings → ℕ → List ℕ → Workings
written_once w page bytes = record w { cells = slice_set w.cells page (map Sure bytes); writes = next_call w.writes }

-- behind a write that changed nothing
abbrev pub called_once : Workings → Workings
called_once w = record w { writes = next_call w.writes }

-- with a page torn
abbrev pub torn_workings : Workings → ℕ → List ℕ → Workings
torn_workings w page bytes = record w { cells = slice_set w.cells page (all_torn_over (slice_index_or w.cells page []) bytes) }

-- behind a torn write
abbrev pub torn_once : Workings → ℕ → List ℕ → Workings
torn_once w page bytes = torn_workings (called_once w) page bytes

-- no call was made yet
abbrev pub blank_workings : Workings
blank_workings = record { cells = replicate 64 (replicate 64 (Sure 0)); turn = 0; marks = 0; writes = 0 }
