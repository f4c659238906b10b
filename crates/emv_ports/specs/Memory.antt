-- The memory of a card, 64 pages of 64 cells, and what each call of `Pages` makes of it.
use Rattle.std.specs.Prelude.{◌≡◌, ◌⊎◌, ℕ, ◌+◌, ◌<◌, min, Bool, true, false, List, [], ◌∷◌, map, length, slice_index_or, slice_set, replicate, Option, Some, None, IsTrue, OnOk, OnErr, Result, ◌==◌, if◌then◌else◌}
use Rattle.emv_ports.specs.Causes.{one_more}
use Rattle.emv_ports.specs.Cut.{is_plan, write_cut, release_cut}
use Rattle.emv_ports.specs.PageReading.{Reading}
use Rattle.emv_ports.specs.declared.tear.Cut.{Cut}
use Rattle.emv_ports.specs.declared.tear.Cut.TheVariants.{Spared, CutBefore, CutWithin}
use Rattle.emv_ports.specs.declared.tear.Tear.{Tear}

pub record Memory : Type 0 where
  -- each page's cells: sure of a byte, or unsure
  pub cells : List (List (Option ℕ))
  -- what a read of each page gives, until the next power-up
  pub shown : List (List ℕ)
  pub on : Bool
  pub plan : Option Tear
  -- marks since power-up, up to 255
  pub commit : ℕ
  -- writes since the last mark or power-up, up to 255
  pub writes : ℕ
  -- how often the power was lost, up to 2 ^ 64 - 1
  pub losses : ℕ
  -- how often it was turned on, up to 2 ^ 64 - 1
  pub power_ups : ℕ

-- the number behind this one, up to 255
abbrev pub next : ℕ → ℕ
next number = min (number + 1) 255

-- the pages with this tear planned, or none
abbrev pub planned : Memory → Option Tear → Memory
planned m tear = record m { plan = tear }

-- turned on: what unsure cells give is chosen anew
pub record PowersUp (old new : Memory) : Type 0 where
  pub turned_on : new ≡ record old { shown = new.shown; on = true; commit = 0; writes = 0; power_ups = one_more old.power_ups }
  pub pages : length new.cells ≡ 64
  pub page_cells : (page : ℕ) → page < 64 → length (slice_index_or new.cells page []) ≡ 64
  pub reading : Reading new.cells new.shown
  pub plan : IsTrue (is_plan new.plan)

-- turned off
abbrev pub powered_off : Memory → Memory
powered_off m = record m { on = false; plan = None }

-- a commit begins
abbrev pub commit_marked : Memory → Memory
commit_marked m = record m { commit = next m.commit; writes = 0 }

-- the page's cells are sure of the bytes
abbrev pub page_written : Memory → ℕ → List ℕ → Memory
page_written m page bytes =
    record m {
      cells = slice_set m.cells page (map Some bytes);
      shown = slice_set m.shown page bytes;
      writes = next m.writes;
    }

-- a cell behind a torn write: sure only where it was sure of this byte before
abbrev pub torn_cell : Option ℕ → ℕ → Option ℕ
torn_cell None byte = None
torn_cell (Some sure) byte = if sure == byte then Some sure else None

abbrev pub torn_page : List (Option ℕ) → List ℕ → List (Option ℕ)
torn_page [] bytes = []
torn_page (cell ∷ cells) [] = cell ∷ cells
torn_page (cell ∷ cells) (byte ∷ bytes) = torn_cell cell byte ∷ torn_page cells bytes

-- each cell of the page that isn't sure of its new byte already is unsure
abbrev pub page_torn : Memory → ℕ → List ℕ → Memory
page_torn m page bytes =
    record m { cells = slice_set m.cells page (torn_page (slice_index_or m.cells page []) bytes) }

-- the power is lost
abbrev pub gone : Memory → Memory
gone m = record m { on = false; plan = None; losses = one_more m.losses }

-- what the plan makes of the next write
abbrev pub next_write_cut : Memory → Cut
next_write_cut m = write_cut m.plan m.commit (next m.writes)

-- what the plan makes of a release now
abbrev pub next_release_cut : Memory → Cut
next_release_cut m = release_cut m.plan m.commit m.writes

-- what a write leaves that is cut
abbrev pub CutWrite : Memory → ℕ → List ℕ → Memory → Type 0
CutWrite old page bytes new =
    ((next_write_cut old ≡ CutBefore) × (new ≡ gone old)) ⊎ ((next_write_cut old ≡ CutWithin) × (new ≡ gone (page_torn old page bytes)))

-- a write of a page, which the plan spares or cuts
pub record WritesPage {T E : Type 0} (old : Memory) (page : ℕ) (bytes : List ℕ) (new : Memory) (result : Result T E) : Type 0 where
  pub spared : OnOk result (next_write_cut old ≡ Spared)
  pub written : OnOk result (new ≡ page_written old page bytes)
  pub cut : OnErr result (CutWrite old page bytes new)

-- a release, which the plan spares or cuts
pub record ReleasesPages {T E : Type 0} (old new : Memory) (result : Result T E) : Type 0 where
  pub spared : OnOk result (next_release_cut old ≡ Spared)
  pub same : OnOk result (new ≡ old)
  pub cut : OnErr result (next_release_cut old ≡ CutBefore)
  pub gone : OnErr result (new ≡ gone old)

-- off, each cell sure of 00, no tear planned and no loss: what blank pages are, whatever they gave or counted last
pub record IsBlank (m : Memory) : Type 0 where
  pub off : m.on ≡ false
  pub cells : m.cells ≡ replicate 64 (replicate 64 (Some 0))
  pub plan : m.plan ≡ None
  pub losses : m.losses ≡ 0

-- off, every cell sure of 00
abbrev pub blank_memory : Memory
blank_memory = record {
  cells = replicate 64 (replicate 64 (Some 0));
  shown = replicate 64 (replicate 64 0);
  on = false;
  plan = None;
  commit = 0;
  writes = 0;
  losses = 0;
  power_ups = 0;
}
