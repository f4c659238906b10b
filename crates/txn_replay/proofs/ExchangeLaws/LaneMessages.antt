-- What a purchase makes of its lane beside going on and ending: it begins, and makes messages for the host; and lanes that
-- differ at most in those messages and in their stores, as settlement leaves them.
use Rattle.std.proofs.Common.{◌≡◌, ℕ, zero, suc, Bool, ◌&&◌, List, [], ◌∷◌, ◌++◌, length, set, Option, Some, None, refl, ap, ◌∙◌}
use Rattle.std.specs.Prelude.{is_none}
use Rattle.std.proofs.lemmas.List.{length-set}
use Rattle.capture_store.specs.StoreRow.{new_store, opened_to_settle}
use Rattle.card_state.specs.Decisions.{Decided}
use Rattle.scenario_plan.specs.Plan.{ScenarioData}
use Rattle.txn_replay.specs.Payment.{payment_in}
use Rattle.txn_replay.specs.Run.{lane_over, all_below, all_over}
use Rattle.txn_replay.specs.Steps.{Settlement, Opens, Sends, Check, PowersUp, Asks, lane_settled, choice_in, settles, audits}
use Rattle.txn_replay.specs.World.{LaneRow, World, new_lane, lane_at, with_sent, with_store}
use Rattle.txn_replay.proofs.Lists.{at_set}

-- a lane as it is, whose purchase begins, or with a message made for the host
pub data Later (before : LaneRow) : LaneRow → Type 0 where
  as_is : Later before before
  beginning : (found : Option (List Decided)) → Later before (record before { began = found })
  messaging : (message : List ℕ) → Later before (with_sent message before)

pub later_ended : (before lane : LaneRow) → Later before lane → lane.ended ≡ before.ended
later_ended before _ as_is = refl
later_ended before _ (beginning found) = refl
later_ended before _ (messaging message) = refl

-- a lane but for the messages that it made for the host and for its store
abbrev pub unsent : LaneRow → LaneRow
unsent lane = record lane { sent = []; store = new_store }

-- two worlds whose lanes are equal but for these
pub record LanesLike (v w : World) : Type 0 where
  pub count : length v.lanes ≡ length w.lanes
  pub each : (l : ℕ) → unsent (lane_at v l) ≡ unsent (lane_at w l)

-- where one lane is such a one
set_like : (w : World) (l : ℕ) (row : LaneRow) (messages : List (List ℕ)) → unsent row ≡ unsent (lane_at w l)
    → LanesLike (record { cards = w.cards; lanes = set w.lanes l row; messages = messages }) w
set_like w l row messages like = record {
  count = length-set w.lanes l row;
  each = λ m. at_set (λ (k : ℕ) (other : LaneRow). unsent other ≡ unsent (lane_at w k)) w.lanes l row new_lane like (λ k. refl) m;
}

pub settle_like : (s : ScenarioData) (w : World) (choices : List Bool) (o : Option Settlement) → LanesLike (settles s w choices o).world w
settle_like s w choices None = record { count = refl; each = λ l. refl }
settle_like s w choices (Some (Opens l)) =
    set_like w l (with_store (opened_to_settle (lane_at w l).store (choice_in choices 0)) (lane_at w l)) w.messages refl
settle_like s w choices (Some (Sends l message drops)) =
    set_like w l (lane_settled message drops (lane_at w l)) (w.messages ++ message ∷ []) refl

pub audit_like : (w : World) (choices : List Bool) (o : Option Check) → LanesLike (audits w choices o).world w
audit_like w choices None = record { count = refl; each = λ l. refl }
audit_like w choices (Some (PowersUp i card)) = record { count = refl; each = λ l. refl }
audit_like w choices (Some (Asks i card command)) = record { count = refl; each = λ l. refl }

-- they are over alike
pub over_like : (s : ScenarioData) (v w : World) → LanesLike v w → (l : ℕ) → lane_over s v l ≡ lane_over s w l
over_like s v w like l = ap (λ (row : LaneRow). is_none row.running && is_none (payment_in s l (length row.ended))) (like.each l)

below_like : (s : ScenarioData) (v w : World) → LanesLike v w → (n : ℕ) → all_below s v n ≡ all_below s w n
below_like s v w like zero = refl
below_like s v w like (suc n) =
    ap (λ b. b && all_below s v n) (over_like s v w like n) ∙ ap (λ b. lane_over s w n && b) (below_like s v w like n)

pub all_like : (s : ScenarioData) (v w : World) → LanesLike v w → all_over s v ≡ all_over s w
all_like s v w like = below_like s v w like (length s.lanes)
