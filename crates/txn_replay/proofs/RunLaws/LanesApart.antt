-- An exchange of one lane leaves the other lanes and their cards.
-- So a lane's exchange never reaches into another lane: the law `LanesStayApart`.
use Rattle.std.proofs.Common.{◌≡◌, ℕ, Bool, List, Option, Some, None, refl}
use Rattle.std.proofs.lemmas.List.{get_or-set_other}
use Rattle.scenario_plan.specs.Plan.{ScenarioData}
use Rattle.txn_replay.specs.Laws.{LeavesOthers}
use Rattle.txn_replay.specs.Payment.{Payment, next_of}
use Rattle.txn_replay.specs.Steps.{part_of, choice_in, turned_by, happens}
use Rattle.txn_replay.specs.Storing.{lane_piece}
use Rattle.txn_replay.specs.World.{World, new_card, new_lane}
use Rattle.txn_replay.specs.declared.event.Event.TheVariants.{Turn}

pub lanes_apart : (s : ScenarioData) (w : World) (l : ℕ) (choices : List Bool) → LeavesOthers s w (happens s w (Turn l) choices).world l
lanes_apart s w l choices = by_next (next_of s w l) refl
  where
    by_next : (o : Option Payment) → next_of s w l ≡ o → LeavesOthers s w (turned_by w l choices o).world l
    by_next None is = record { lanes = λ k other. refl; cards = λ i other. refl }
    by_next (Some p) is = record {
      lanes = λ k other. get_or-set_other w.lanes l k (lane_piece p (part_of w l p.planned.card) (choice_in choices 0) (choice_in choices 1)).part.lane new_lane other;
      cards = λ i other.
          get_or-set_other w.cards p.planned.card i (lane_piece p (part_of w l p.planned.card) (choice_in choices 0) (choice_in choices 1)).part.card new_card (other p is);
    }
