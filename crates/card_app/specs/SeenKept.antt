-- Pages that are on with a state, as a contract sees them, and what decisions make of them.
use Rattle.std.specs.Prelude.{◌≡◌, ℕ, ◌+◌, List, [], ◌∷◌, ◌++◌, length, true, Option, Some, None, slice_get}
use Rattle.std.specs.Option.{ForSome}
use Rattle.card_state.specs.Change.{MayDecide}
use Rattle.card_state.specs.Decisions.{Decided}
use Rattle.card_state.specs.Totals.{totals}
use Rattle.card_state.specs.declared.decision.Decision.{Decision}
use Rattle.card_state.specs.declared.state.CardState.{CardState}
use Rattle.emv_ports.specs.Memory.{Memory}
use Rattle.emv_ports.specs.declared.tear.Tear.{Tear}
use Rattle.torn_store.specs.Store.{HasLostPower}
use Rattle.card_app.specs.Cuts.{Cut, cut_of, fate_by, kept_by, pending_by}
use Rattle.emv_ports.specs.Cut.{commit_of}
use Rattle.card_app.specs.Pages.{HoldsTotals, MayStand}

-- pages that are on, and the state that they hold
pub record KeptState : Type 0 where
  pub memory : Memory
  pub state : CardState

-- the pages stand for these decisions, so many of which were made since power-up, under this plan
pub record KeptOn (seen : KeptState) (opening : CardState) (ds : List Decided) (plan : Option Tear) (made : ℕ) : Type 0 where
  pub state_is : seen.state ≡ totals opening ds
  pub stands : HoldsTotals seen.memory.cells opening ds
  pub plan_is : seen.memory.plan ≡ plan
  pub commit_is : seen.memory.commit ≡ commit_of made

-- the power is gone at a cut decision: what the pages may stand for, whatever the version in which the card was
-- personalised
pub record KeptLost (old new : Memory) (opening : CardState) (ds : List Decided) (plan : Option Tear) (at : Cut) : Type 0 where
  pub gone : HasLostPower old new
  pub stands : (version : ℕ) → MayStand new.cells version opening (kept_by (fate_by plan) ds at) (pending_by (fate_by plan) at)

-- New decisions are taken: the plan cuts none of them, and the pages stand for the longer list.
pub record Took (next : KeptState) (opening : CardState) (ds new : List Decided) (plan : Option Tear) (made : ℕ) : Type 0 where
  pub spared : cut_of plan made new ≡ None
  pub kept : KeptOn next opening (ds ++ new) plan (made + length new)

-- new decisions are all taken, whatever the pages stood for: the plan cuts none of them, and the pages stand for the
-- longer list
abbrev pub Takes : KeptState → KeptState → List Decided → Type 0
Takes old next new =
    (opening : CardState) (ds : List Decided) (plan : Option Tear) (made : ℕ) → KeptOn old opening ds plan made → Took next opening ds new plan made

-- The plan cuts one of the new decisions.
pub record CutAt (old lost : Memory) (opening : CardState) (ds new : List Decided) (plan : Option Tear) (made : ℕ) (at : Cut) : Type 0 where
  pub cut : cut_of plan made new ≡ Some at
  pub left : KeptLost old lost opening ds plan at

-- behind decisions that were kept: on, as often without power, and with a state for each application still
pub record StaysOn (old new : KeptState) : Type 0 where
  pub on : new.memory.on ≡ true
  pub losses : new.memory.losses ≡ old.memory.losses
  pub apps : length new.state.apps.items ≡ length old.state.apps.items

-- a single decision is cut
abbrev pub IsCutAlone : KeptState → Memory → Decided → Type 0
IsCutAlone old lost d =
    (opening : CardState) (ds : List Decided) (plan : Option Tear) (made : ℕ) → KeptOn old opening ds plan made
    → CutAt old.memory lost opening ds (d ∷ []) plan made (record { before = []; cut = d })

-- one of several
abbrev pub IsDecisionCut : KeptState → Memory → List Decided → Type 0
IsDecisionCut old lost new =
    (opening : CardState) (ds : List Decided) (plan : Option Tear) (made : ℕ) → KeptOn old opening ds plan made
    → (at : Cut) × CutAt old.memory lost opening ds new plan made at

-- an application's state allows the decision
abbrev pub MayTake : CardState → ℕ → Decision → Type 0
MayTake state app decision = ForSome (slice_get state.apps.items app) (λ s. MayDecide s decision)
