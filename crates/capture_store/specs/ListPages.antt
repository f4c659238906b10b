-- The pages of a terminal and the list of messages that they stand for.
use Rattle.emv_ports.specs.Cell.{Cells}
use Rattle.std.specs.Prelude.{ℕ, List, Option, Some, None}
use Rattle.torn_store.specs.Layout.{recover}
use Rattle.torn_store.specs.Recovery.{Holds, Between}
use Rattle.capture_store.specs.Calls.{Call, called}
use Rattle.capture_store.specs.Spelling.{IsList, state_of_list}

-- whatever the unsure cells give, the pages hold the state of the list
pub record StandsForList (cells : Cells) (list : List (List ℕ)) : Type 0 where
  pub fits : IsList list
  pub holds : Holds recover cells (state_of_list list)

-- the pages hold the state of the list before this call, or that of the list behind it
pub record StandsBetweenLists (cells : Cells) (list : List (List ℕ)) (call : Call) : Type 0 where
  pub fits : IsList list
  pub fits_called : IsList (called list call)
  pub between : Between recover cells (state_of_list list) (state_of_list (called list call))

-- without a lost call the pages stand for the list, and with one they may stand for the list before it or behind it
abbrev pub MayStandForList : Cells → List (List ℕ) → Option Call → Type 0
MayStandForList cells list None = StandsForList cells list
MayStandForList cells list (Some call) = StandsBetweenLists cells list call

-- the pages hold the state of one of two lists
pub record StandForOneOf (cells : Cells) (before after : List (List ℕ)) : Type 0 where
  pub fits : IsList before
  pub fits_after : IsList after
  pub between : Between recover cells (state_of_list before) (state_of_list after)
