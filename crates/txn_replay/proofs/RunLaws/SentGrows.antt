-- The messages that a lane has made for the host stay, and further ones come behind them.
-- So what holds of each at the end of a run holds of each at every event before.
use Rattle.std.proofs.Common.{◌≡◌, ℕ, Bool, List, [], ◌∷◌, ◌++◌, length, replicate, slice_get, Option, Some, None, refl, sym, ap, ◌∙◌, subst, append-nil}
use Rattle.std.proofs.Math.Seq.{take-append_seam, drop-append_seam}
use Rattle.std.proofs.lemmas.List.Elements.{All-take, All-drop}
use Rattle.std.specs.List.{All}
use Rattle.auth_message.specs.Whole.{IsMessage}
use Rattle.capture_store.specs.StoreRow.{opened_to_add, opened_to_settle}
use Rattle.kernel.specs.Reply.{Reply}
use Rattle.report_text.specs.declared.line.Line.{Line}
use Rattle.scenario_plan.specs.Plan.{ScenarioData}
use Rattle.txn_replay.specs.Part.{Part, Moved}
use Rattle.txn_replay.specs.Payment.{Payment, next_of}
use Rattle.txn_replay.specs.Respelled.{AreMessages}
use Rattle.txn_replay.specs.Steps.{Check, PowersUp, Asks, Settlement, Opens, Sends, lane_settled, settlements, settles, checks, audits, part_of, choice_in, turned_by, happens}
use Rattle.txn_replay.specs.Storing.{part_with, lane_piece}
use Rattle.txn_replay.specs.World.{LaneRow, CardRow, World, new_lane, lane_at, with_store}
use Rattle.txn_replay.specs.declared.event.Event.{Event}
use Rattle.txn_replay.specs.declared.event.Event.TheVariants.{Turn, Settle, Audit}
use Rattle.txn_replay.proofs.ExchangeLaws.ExchangeCases.{Tells, StoreTells, lane_tells}
use Rattle.txn_replay.proofs.Lists.{at_set}

pub record IsGrown (before after : List (List ℕ)) : Type 0 where
  pub more : List (List ℕ)
  pub is : after ≡ before ++ more

as_before : (before : List (List ℕ)) → IsGrown before before
as_before before = record { more = []; is = sym (append-nil before) }

module _ (p : Payment) (part : Part) where
  abbrev Came : LaneRow → List Reply → CardRow → List (List ℕ) → List Line → Type 0
  Came lane replies card messages lines = IsGrown part.lane.sent lane.sent

  abbrev Behind : Part → List Line → Type 0
  Behind after lines = IsGrown part.lane.sent after.lane.sent

  tells_grown : Tells p part Came Behind
  tells_grown = record {
    still = as_before part.lane.sent;
    goes = λ lane later replies card messages lines came. came;
    ends = λ lane later replies card messages lines came end is. came;
    powers = λ rests free apps choice. as_before part.lane.sent;
    power_cut = λ rests free apps is. as_before part.lane.sent;
    powers_canned = λ rests free answers canned. as_before part.lane.sent;
    answers = λ replies runs apps command asks. as_before part.lane.sent;
    cuts = λ replies runs command cut at. as_before part.lane.sent;
    tells = λ replies runs answers canned command answer. as_before part.lane.sent;
    gone = λ replies runs answers canned command. as_before part.lane.sent;
    hosts = λ replies runs message asks reply is. record { more = message ∷ []; is = refl };
  }

module _ (p : Payment) (part : Part) where
  store_grown : StoreTells p part (Came p part) (Behind p part)
  store_grown = record {
    own = tells_grown p part;
    again = λ one at off. tells_grown p (part_with (opened_to_add part.lane.store one) part);
    opened = λ one at off. as_before part.lane.sent;
    lost = λ at cut. as_before part.lane.sent;
    sent = λ at message. record { more = replicate p.copies message; is = refl };
    sent_lost = λ at message cut. record { more = replicate p.copies message; is = refl };
  }

-- an event of the world
module _ (s : ScenarioData) (w : World) (choices : List Bool) where
  abbrev Grows : World → Type 0
  Grows after = (l : ℕ) → IsGrown (lane_at w l).sent (lane_at after l).sent

  stays : Grows w
  stays l = as_before (lane_at w l).sent

  turn_grows : (l : ℕ) (o : Option Payment) → Grows (turned_by w l choices o).world
  turn_grows l None = stays
  turn_grows l (Some p) =
      at_set (λ (i : ℕ) (row : LaneRow). IsGrown (lane_at w i).sent row.sent) w.lanes l m.part.lane new_lane
      (lane_tells p part (Came p part) (Behind p part) (store_grown p part) (choice_in choices 0) (choice_in choices 1)) stays
    where
      part : Part
      part = part_of w l p.planned.card

      m : Moved
      m = lane_piece p part (choice_in choices 0) (choice_in choices 1)

  settle_grows : (o : Option Settlement) → Grows (settles s w choices o).world
  settle_grows None = stays
  settle_grows (Some (Opens l)) =
      at_set (λ (i : ℕ) (row : LaneRow). IsGrown (lane_at w i).sent row.sent) w.lanes l
      (with_store (opened_to_settle (lane_at w l).store (choice_in choices 0)) (lane_at w l)) new_lane (as_before (lane_at w l).sent) stays
  settle_grows (Some (Sends l message drops)) =
      at_set (λ (i : ℕ) (row : LaneRow). IsGrown (lane_at w i).sent row.sent) w.lanes l (lane_settled message drops (lane_at w l)) new_lane
      (record { more = message ∷ []; is = refl }) stays

  audit_grows : (o : Option Check) → Grows (audits w choices o).world
  audit_grows None = stays
  audit_grows (Some (PowersUp i card)) = stays
  audit_grows (Some (Asks i card command)) = stays

  event_grows : (e : Event) → Grows (happens s w e choices).world
  event_grows (Turn l) = turn_grows l (next_of s w l)
  event_grows (Settle k) = settle_grows (slice_get (settlements s w) k)
  event_grows (Audit k) = audit_grows (slice_get (checks s) k)

-- of messages and others behind them
pub all_first : (xs ys : List (List ℕ)) → All IsMessage (xs ++ ys) → All IsMessage xs
all_first xs ys all = subst (λ (zs : List (List ℕ)). All IsMessage zs) (take-append_seam xs ys) (All-take IsMessage (length xs) (xs ++ ys) all)

pub all_last : (xs ys : List (List ℕ)) → All IsMessage (xs ++ ys) → All IsMessage ys
all_last xs ys all = subst (λ (zs : List (List ℕ)). All IsMessage zs) (drop-append_seam xs ys) (All-drop IsMessage (length xs) (xs ++ ys) all)

-- what the host reads behind an event it reads before it
pub messages_before : (s : ScenarioData) (w : World) (e : Event) (choices : List Bool) → AreMessages (happens s w e choices).world → AreMessages w
messages_before s w e choices all l =
    let grown : IsGrown (lane_at w l).sent (lane_at (happens s w e choices).world l).sent = event_grows s w choices e l in
    all_first (lane_at w l).sent grown.more (subst (λ (ms : List (List ℕ)). All IsMessage ms) grown.is (all l))
