-- Pages with their list, as a contract sees them, and what a call makes of them.
use Rattle.std.specs.Prelude.{◌≡◌, ◌<◌, ℕ, List, length, true, false}
use Rattle.emv_ports.specs.Cut.{names_commit, cuts_among}
use Rattle.emv_ports.specs.Memory.{Memory, next}
use Rattle.torn_store.specs.Layout.{commit_writes}
use Rattle.torn_store.specs.Store.{HasLostPower}
use Rattle.capture_store.specs.Calls.{Call, called, call_left_by}
use Rattle.capture_store.specs.ListPages.{StandsForList, MayStandForList}
use Rattle.capture_store.specs.Spelling.{IsList, IsCaptureMessage, state_of_list}

-- the memory of the pages, and while they are on the list that they hold, oldest message first
pub record CaptureListSeen : Type 0 where
  pub memory : Memory
  pub list : List (List ℕ)

-- the pages were turned on, and hold a list: the plan doesn't name commit 0
pub record OpensList (old : Memory) (new : CaptureListSeen) : Type 0 where
  pub on : new.memory.on ≡ true
  pub fits : IsList new.list
  pub spared : names_commit old.plan 0 ≡ false
  pub commit : new.memory.commit ≡ 0
  pub plan : new.memory.plan ≡ old.plan
  pub losses : new.memory.losses ≡ old.losses

-- a list takes one message more
pub record MayAdd (list : List (List ℕ)) (bytes : List ℕ) : Type 0 where
  pub room : length list < 7
  pub message : IsCaptureMessage bytes

-- a call was made: one commit, which the plan doesn't name
pub record MakesCall (old : CaptureListSeen) (call : Call) (new : CaptureListSeen) : Type 0 where
  pub on : new.memory.on ≡ true
  pub list : new.list ≡ called old.list call
  pub fits : IsList new.list
  pub spared : names_commit old.memory.plan (next old.memory.commit) ≡ false
  pub commit : new.memory.commit ≡ next old.memory.commit
  pub plan : new.memory.plan ≡ old.memory.plan
  pub losses : new.memory.losses ≡ old.memory.losses

-- a call was cut: the plan names its commit
pub record CutsCall (old : CaptureListSeen) (call : Call) (new : Memory) : Type 0 where
  pub cut : names_commit old.memory.plan (next old.memory.commit) ≡ true
  -- what the place of the tear leaves
  pub stands : MayStandForList new.cells (call_left_by old.memory.plan old.list call).list (call_left_by old.memory.plan old.list call).lost
  -- where none of its writes was cut, the release was
  pub behind :
      cuts_among old.memory.plan (next old.memory.commit) (commit_writes (state_of_list old.list) (state_of_list (called old.list call))) ≡ false
      → StandsForList new.cells (called old.list call)
  pub gone : HasLostPower old.memory new
