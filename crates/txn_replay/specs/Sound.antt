-- What holds of every world of a run, and when a lane waits (this project's own).
use Rattle.std.specs.Prelude.{◌≡◌, ◌⊎◌, ℕ, List, length, Some, None, ⊤}
use Rattle.kernel.specs.Reply.{Reply}
use Rattle.scenario_plan.specs.Plan.{ScenarioData}
use Rattle.txn_replay.specs.Payment.{Payment, next_of}
use Rattle.txn_replay.specs.Run.{RunPlace, Scheduled, Round, Settling, Auditing, Finished}
use Rattle.txn_replay.specs.World.{Holder, World, card_at, lane_at}

-- the purchase behind those of a lane that have ended
abbrev pub holder_in : World → ℕ → Holder
holder_in w l = record { lane = l; number = length (lane_at w l).ended }

-- the purchase that runs in a lane is one of the scenario's, and has its card
pub record RunsIn (s : ScenarioData) (w : World) (l : ℕ) : Type 0 where
  pub payment : Payment
  pub is : next_of s w l ≡ Some payment
  pub holds : (card_at w payment.planned.card).holder ≡ Some (holder_in w l)

-- the purchase that has a card runs, and the card is its own
pub record HeldBy (s : ScenarioData) (w : World) (i : ℕ) (h : Holder) : Type 0 where
  pub replies : List Reply
  pub payment : Payment
  pub runs : (lane_at w h.lane).running ≡ Some replies
  pub is : next_of s w h.lane ≡ Some payment
  pub card : payment.planned.card ≡ i

pub record IsWorldSound (s : ScenarioData) (w : World) : Type 0 where
  pub card_count : length w.cards ≡ length s.cards
  pub lane_count : length w.lanes ≡ length s.lanes
  pub runs : (l : ℕ) (replies : List Reply) → (lane_at w l).running ≡ Some replies → RunsIn s w l
  pub held : (i : ℕ) (h : Holder) → (card_at w i).holder ≡ Some h → HeldBy s w i h

-- another purchase has the card of this lane's next one
pub record IsCardInUse (s : ScenarioData) (w : World) (l : ℕ) : Type 0 where
  pub payment : Payment
  pub holder : Holder
  pub is : next_of s w l ≡ Some payment
  pub held : (card_at w payment.planned.card).holder ≡ Some holder

-- a lane that runs no purchase, and that has none left or waits for a card
pub record IsIdle (s : ScenarioData) (w : World) (l : ℕ) : Type 0 where
  pub rests : (lane_at w l).running ≡ None
  pub waits : (next_of s w l ≡ None) ⊎ IsCardInUse s w l

-- the turns are over
abbrev pub IsCalm : RunPlace → Type 0
IsCalm (Scheduled k) = ⊥
IsCalm (Round l) = ⊥
IsCalm (Settling k) = ⊤
IsCalm (Auditing k) = ⊤
IsCalm Finished = ⊤
