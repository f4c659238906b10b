-- A store in its place: what stands in it while its pages are on, and what a commit and its release make of it.
use Rattle.std.specs.Prelude.{◌≡◌, ℕ, ◌≤◌, List, length, None, true, false}
use Rattle.emv_ports.specs.Cut.{names_commit, write_cut, cuts_among}
use Rattle.emv_ports.specs.Memory.{Memory, PowersUp, next, next_release_cut}
use Rattle.emv_ports.specs.declared.tear.Cut.TheVariants.{Spared, CutBefore}
use Rattle.torn_store.specs.Layout.{recover, commit_writes}
use Rattle.torn_store.specs.Recovery.{Holds, Between}
use Rattle.torn_store.specs.Store.{Stored, IsGate, IsReady, HasLostPower}
use Rattle.torn_store.specs.Writing.{WritesAll}
use Rattle.torn_store.specs.declared.layout.Block.{Block}

-- while the pages are on, they stand for the state
abbrev pub IsPlaced : Memory → List ℕ → Type 0
IsPlaced memory state = memory.on ≡ true → IsReady memory state

-- the pages were turned on once, and some writes were made
pub record TurnedOnce (old new : Memory) : Type 0 where
  pub on : Memory
  pub up : PowersUp old on
  pub row : List Block
  pub all : WritesAll on row new

-- pages that are off and have no plan may take this first state
pub record MayFormat (memory : Memory) (first : List ℕ) : Type 0 where
  pub off : memory.on ≡ false
  pub plan : memory.plan ≡ None
  pub fits : length first ≤ 1024

-- pages that are on may take this new state
pub record MayCommit (old : Stored) (text : List ℕ) : Type 0 where
  pub on : old.memory.on ≡ true
  pub fits : length text ≤ 1024

-- a first state was written, and the pages stay on
pub record FormatsStore (old : Memory) (first : List ℕ) (new : Stored) : Type 0 where
  pub on : new.memory.on ≡ true
  pub state : new.state ≡ first
  pub holds : Holds recover new.memory.cells first
  pub gate : IsGate new.memory.cells
  pub commit : new.memory.commit ≡ 0
  pub plan : new.memory.plan ≡ None
  pub losses : new.memory.losses ≡ old.losses
  pub once : TurnedOnce old new.memory

-- the pages were turned on, and stand for the state that was found or made of it: the plan doesn't name commit 0
pub record OpensStore (old : Memory) (new : Stored) : Type 0 where
  pub on : new.memory.on ≡ true
  pub holds : Holds recover new.memory.cells new.state
  pub gate : IsGate new.memory.cells
  pub spared : names_commit old.plan 0 ≡ false
  pub wrote : 1 ≤ new.memory.writes
  pub commit : new.memory.commit ≡ 0
  pub plan : new.memory.plan ≡ old.plan
  pub losses : new.memory.losses ≡ old.losses

-- a new state was written
pub record Commits (old : Stored) (text : List ℕ) (new : Stored) : Type 0 where
  pub on : new.memory.on ≡ true
  pub state : new.state ≡ text
  pub holds : Holds recover new.memory.cells text
  pub gate : IsGate new.memory.cells
  pub spared : cuts_among old.memory.plan (next old.memory.commit) (commit_writes old.state text) ≡ false
  pub wrote : new.memory.writes ≡ commit_writes old.state text
  pub few : new.memory.writes ≤ 37
  pub commit : new.memory.commit ≡ next old.memory.commit
  pub plan : new.memory.plan ≡ old.memory.plan
  pub losses : new.memory.losses ≡ old.memory.losses

-- one of the writes of a new state was cut
pub record CommitTorn (old : Stored) (text : List ℕ) (new : Memory) : Type 0 where
  pub lost : Between recover new.cells old.state text
  pub before : write_cut old.memory.plan (next old.memory.commit) 1 ≡ CutBefore → Holds recover new.cells old.state
  pub cut : cuts_among old.memory.plan (next old.memory.commit) (commit_writes old.state text) ≡ true
  pub gone : HasLostPower old.memory new

-- a commit was released
pub record Releases (old new : Stored) : Type 0 where
  pub same : new ≡ old
  pub holds : Holds recover new.memory.cells old.state
  pub gate : IsGate new.memory.cells
  pub spared : next_release_cut old.memory ≡ Spared

-- its release was cut
pub record ReleaseTorn (old : Stored) (new : Memory) : Type 0 where
  pub lost : Holds recover new.cells old.state
  pub cut : next_release_cut old.memory ≡ CutBefore
  pub gone : HasLostPower old.memory new
