-- What an exchange of a lane tells and sends: its lines are the lane's, and its messages to the host stand in the lane's row.
-- So from the lines of a run those of one lane can be taken out.
use Rattle.std.proofs.Common.{◌≡◌, ℕ, zero, suc, ◌+◌, ◌==◌, Bool, true, false, List, [], ◌∷◌, ◌++◌, length, replicate, slice_get, Option, Some, None, refl, ap, ◌∙◌, append-nil}
use Rattle.std.specs.Prelude.{⊤, filter}
use Rattle.std.proofs.lemmas.List.Elements.{filter-append}
use Rattle.capture_store.specs.StoreRow.{opened_to_add}
use Rattle.host_histories.specs.Apart.{is_own_pan, pan_carried, own_messages}
use Rattle.host_link.specs.Delivery.{delivered}
use Rattle.kernel.specs.Ended.{EndData}
use Rattle.kernel.specs.Reply.{Reply}
use Rattle.report_text.specs.declared.line.Line.{Line}
use Rattle.report_text.specs.declared.line.Line.TheVariants.{EndLost}
use Rattle.scenario_plan.specs.Plan.{ScenarioData}
use Rattle.scenario_lanes.specs.declared.plan.Link.{Link}
use Rattle.scenario_lanes.specs.declared.plan.Link.TheVariants.{Sound, RequestLost, ReplyLost, Twice}
use Rattle.txn_replay.specs.Alone.{CarriesPan, is_own}
use Rattle.txn_replay.specs.Lines.{host_lines, outcome_line}
use Rattle.txn_replay.specs.Part.{Part}
use Rattle.txn_replay.specs.Payment.{Payment}
use Rattle.txn_replay.specs.Storing.{part_with, copy_lines, lane_piece}
use Rattle.txn_replay.specs.World.{CardRow, LaneRow}
use Rattle.txn_replay.proofs.ExchangeLaws.ExchangeCases.{Tells, StoreTells, lane_tells}
use Rattle.txn_replay.proofs.ExchangeLaws.LaneOutcomes.{lane_lane}
use Rattle.txn_replay.proofs.Lists.{append_first}
use Rattle.txn_replay.proofs.AloneLaws.OwnPieces.{next_there}
use Rattle.txn_replay.proofs.ExchangeLaws.LaneMessages.{Later, as_is, beginning, messaging}

-- the test says this of each element
module _ {A : Type 0} (test : A → Bool) (b : Bool) where
  abbrev pub AreOf : List A → Type 0
  AreOf [] = ⊤
  AreOf (x ∷ xs) = (test x ≡ b) × AreOf xs

  pub of_append : (xs ys : List A) → AreOf xs → AreOf ys → AreOf (xs ++ ys)
  of_append [] ys first second = second
  of_append (x ∷ xs) ys first second = (first.0, of_append xs ys first.1 second)

pub all_pass : {A : Type 0} (test : A → Bool) (xs : List A) → AreOf test true xs → filter test xs ≡ xs
all_pass test [] are = refl
all_pass {A} test (x ∷ xs) are = rw are.0 (ap (λ (ys : List A). x ∷ ys) (all_pass test xs are.1))

pub none_passes : {A : Type 0} (test : A → Bool) (xs : List A) → AreOf test false xs → filter test xs ≡ []
none_passes test [] are = refl
none_passes test (x ∷ xs) are = rw are.0 (none_passes test xs are.1)

-- the lines of an exchange are those of its lane
module _ (pans : List ℕ → Bool) (s : ScenarioData) (l : ℕ) (p : Payment) where
  abbrev Are : List Line → Type 0
  Are lines = AreOf (is_own pans s l) (p.lane == l) lines

  outcome_own : (lost : Bool) (number : ℕ) (end : EndData) → is_own pans s l (outcome_line lost p.lane number end) ≡ (p.lane == l)
  outcome_own true number end = refl
  outcome_own false number end = refl

  host_own : (message : List ℕ) (reply : Option (List ℕ)) → Are (host_lines p.iso p.lane message reply)
  host_own message None = (refl, (refl, tt))
  host_own message (Some reply) = (refl, (refl, tt))

  copies_own : (message : List ℕ) (messages : List (List ℕ)) (n : ℕ) → Are (copy_lines p message messages n)
  copies_own message messages zero = tt
  copies_own message messages (suc n) =
      of_append (is_own pans s l) (p.lane == l) (copy_lines p message messages n) _ (copies_own message messages n) (refl, (refl, tt))

  abbrev Came : LaneRow → List Reply → CardRow → List (List ℕ) → List Line → Type 0
  Came lane replies card messages lines = Are lines

  abbrev Behind : Part → List Line → Type 0
  Behind after lines = Are lines

  piece_lines : (part : Part) → Tells p part Came Behind
  piece_lines part = record {
    still = tt;
    goes = λ lane later replies card messages lines came. came;
    ends = λ lane later replies card messages lines came end is.
        of_append (is_own pans s l) (p.lane == l) lines _ came (outcome_own _ (length lane.ended + 1) end, tt);
    powers = λ rests free apps choice. (refl, tt);
    power_cut = λ rests free apps is. (refl, tt);
    powers_canned = λ rests free answers canned. (refl, tt);
    answers = λ replies runs apps command asks. (refl, (refl, tt));
    cuts = λ replies runs command cut at. (refl, (refl, tt));
    tells = λ replies runs answers canned command answer. (refl, (refl, tt));
    gone = λ replies runs answers canned command. (refl, (refl, tt));
    hosts = λ replies runs message asks reply is. host_own message reply;
  }

  store_lines : (part : Part) → StoreTells p part Came Behind
  store_lines part = record {
    own = piece_lines part;
    again = λ one at off. piece_lines (part_with (opened_to_add part.lane.store one) part);
    opened = λ one at off. tt;
    lost = λ at cut. (refl, tt);
    sent = λ at message. copies_own message part.messages p.copies;
    sent_lost = λ at message cut.
        of_append (is_own pans s l) (p.lane == l) (copy_lines p message part.messages p.copies) (EndLost p.lane (length part.lane.ended + 1) ∷ [])
        (copies_own message part.messages p.copies) (refl, tt);
  }

  pub lane_lines : (part : Part) (one other : Bool) → Are (lane_piece p part one other).lines
  lane_lines part one other = lane_tells p part Came Behind (store_lines part) one other

-- messages of a lane none of which carries one of these numbers
module _ (own : List ℕ → Bool) where
  abbrev pub is_message : List ℕ → Bool
  is_message message = is_own_pan own (pan_carried message)

  -- a message that carries none of these numbers isn't among theirs
  pub stranger : (message : List ℕ) → CarriesPan own false message → is_message message ≡ false
  stranger message carries = by (pan_carried message) carries
    where
      by : (o : Option (List ℕ)) → ((pan : List ℕ) → o ≡ Some pan → own pan ≡ false) → is_own_pan own o ≡ false
      by None none = refl
      by (Some pan) none = none pan refl

  pub same_own : (messages more : List (List ℕ)) → AreOf is_message false more → own_messages own (messages ++ more) ≡ own_messages own messages
  same_own messages more are =
      filter-append is_message messages more
      ∙ ap (λ (xs : List (List ℕ)). own_messages own messages ++ xs) (none_passes is_message more are)
      ∙ append-nil (own_messages own messages)

  -- none of those that the lane has made is
  abbrev pub Strangers : LaneRow → Type 0
  Strangers row = (i : ℕ) (message : List ℕ) → slice_get row.sent i ≡ Some message → CarriesPan own false message

  delivered_other : (link : Link) (message : List ℕ) → is_message message ≡ false → AreOf is_message false (delivered link message)
  delivered_other Sound message is = (is, tt)
  delivered_other RequestLost message is = tt
  delivered_other ReplyLost message is = (is, tt)
  delivered_other Twice message is = (is, (is, tt))

  copies_other : (n : ℕ) (message : List ℕ) → is_message message ≡ false → AreOf is_message false (replicate n message)
  copies_other zero message is = tt
  copies_other (suc n) message is = (is, copies_other n message is)

  module _ (p : Payment) (part : Part) where
    abbrev Arrived : LaneRow → List Reply → CardRow → List (List ℕ) → List Line → Type 0
    Arrived lane replies card messages lines = Strangers lane → own_messages own messages ≡ own_messages own part.messages

    abbrev Left : Part → List Line → Type 0
    Left after lines = Strangers after.lane → own_messages own after.messages ≡ own_messages own part.messages

    piece_messages : Tells p part Arrived Left
    piece_messages = record {
      still = λ strangers. refl;
      goes = λ lane later replies card messages lines came. came;
      ends = λ lane later replies card messages lines came end is. came;
      powers = λ rests free apps choice strangers. refl;
      power_cut = λ rests free apps is strangers. refl;
      powers_canned = λ rests free answers canned strangers. refl;
      answers = λ replies runs apps command asks strangers. refl;
      cuts = λ replies runs command cut at strangers. refl;
      tells = λ replies runs answers canned command answer strangers. refl;
      gone = λ replies runs answers canned command strangers. refl;
      hosts = λ replies runs message asks reply is strangers.
          same_own part.messages (delivered p.planned.link message)
          (delivered_other p.planned.link message
          (stranger message (strangers (length part.lane.sent) message (next_there part.lane.sent [] message))));
    }

    copied_messages : (message : List ℕ) (n : ℕ)
        → ((i : ℕ) (one : List ℕ) → slice_get (part.lane.sent ++ replicate n message) i ≡ Some one → CarriesPan own false one)
        → own_messages own (part.messages ++ replicate n message) ≡ own_messages own part.messages
    copied_messages message zero strangers = ap (λ (xs : List (List ℕ)). own_messages own xs) (append-nil part.messages)
    copied_messages message (suc n) strangers =
        same_own part.messages (replicate (suc n) message)
        (copies_other (suc n) message (stranger message (strangers (length part.lane.sent) message (next_there part.lane.sent (replicate n message) message))))

  module _ (p : Payment) (part : Part) where
    store_messages : StoreTells p part (Arrived p part) (Left p part)
    store_messages = record {
      own = piece_messages p part;
      again = λ one at off. piece_messages p (part_with (opened_to_add part.lane.store one) part);
      opened = λ one at off strangers. refl;
      lost = λ at cut strangers. refl;
      sent = λ at message strangers. copied_messages p part message p.copies strangers;
      sent_lost = λ at message cut strangers. copied_messages p part message p.copies strangers;
    }

    pub lane_messages : (one other : Bool) → Strangers (lane_piece p part one other).part.lane
        → own_messages own (lane_piece p part one other).part.messages ≡ own_messages own part.messages
    lane_messages one other = lane_tells p part (Arrived p part) (Left p part) store_messages one other

-- a message that a lane has made stays where it is in its row
module _ (row : LaneRow) where
  abbrev pub Keeps : LaneRow → Type 0
  Keeps after = (i : ℕ) (message : List ℕ) → slice_get row.sent i ≡ Some message → slice_get after.sent i ≡ Some message

  later_keeps : (before lane : LaneRow) → Keeps before → Later before lane → Keeps lane
  later_keeps before _ kept as_is = kept
  later_keeps before _ kept (beginning found) = kept
  later_keeps before _ kept (messaging message) = λ i one there. append_first before.sent (message ∷ []) i one (kept i one there)

pub lane_keeps_sent : (p : Payment) (part : Part) (one other : Bool) → Keeps part.lane (lane_piece p part one other).part.lane
lane_keeps_sent p part one other =
    lane_lane (Keeps part.lane) p part
    (λ i message there. there)
    (λ before lane replies kept same later. later_keeps part.lane before lane kept later)
    (λ before lane replies end kept same later. later_keeps part.lane before lane kept later)
    (λ choice at off i message there. there)
    (λ at i message there. there)
    (λ message at on i one there. append_first part.lane.sent (replicate p.copies message) i one there)
    (λ message at on i one there. append_first part.lane.sent (replicate p.copies message) i one there)
    one other
