-- The messages that a lane made for the host are those of its lines.
-- In the lane's dialect, and in the order in which they were made: the law `RunsTellMessages`.
use Rattle.std.proofs.Common.{◌≡◌, ◌≢◌, ℕ, zero, suc, ◌⊎◌, ◌+◌, ◌<◌, Bool, true, false, cond, List, [], ◌∷◌, ◌++◌, length, map, replicate, slice_get, Option, Some, None, refl, sym, ap, ◌∙◌, subst, inl, inr, append-nil}
use Rattle.std.specs.Prelude.{◌==◌}
use Rattle.std.specs.List.{flat_map}
use Rattle.std.proofs.lemmas.Bool.{eq-eqb, cases_eq}
use Rattle.std.proofs.lemmas.List.{map-append, get_or-set_same, get_or-set_other}
use Rattle.std.proofs.lemmas.List.Concat.{flat_map-append}
use Rattle.capture_store.specs.StoreRow.{opened_to_add, opened_to_settle}
use Rattle.host_link.specs.Dialect.{call_in}
use Rattle.issuer_host.specs.History.{host_reply}
use Rattle.kernel.specs.Ended.{EndData}
use Rattle.kernel.specs.Reply.{Reply}
use Rattle.report_text.specs.declared.line.Line.{Line}
use Rattle.report_text.specs.declared.line.Line.TheVariants.{EndLost}
use Rattle.scenario_plan.specs.Plan.{ScenarioData}
use Rattle.txn_replay.specs.Lines.{host_lines, settle_lines, end_line, outcome_line}
use Rattle.txn_replay.specs.Part.{Part, Moved, loses, lane_ended}
use Rattle.txn_replay.specs.Payment.{Payment, dialect_of, next_of}
use Rattle.txn_replay.specs.Sound.{IsWorldSound}
use Rattle.txn_replay.specs.Steps.{Check, PowersUp, Asks, Settlement, Opens, Sends, lane_settled, settlements, settles, checks, audits, part_of, choice_in, turned_by, happens}
use Rattle.txn_replay.specs.Storing.{part_with, lane_copied, copy_lines, lane_piece}
use Rattle.txn_replay.specs.ToldByLines.{message_told, messages_told, RunsTellMessages}
use Rattle.txn_replay.specs.World.{LaneRow, CardRow, World, new_lane, first_world, lane_at, with_store}
use Rattle.txn_replay.specs.declared.event.Event.{Event}
use Rattle.txn_replay.specs.declared.event.Event.TheVariants.{Turn, Settle, Audit}
use Rattle.txn_replay.proofs.ExchangeLaws.ExchangeCases.{Tells, StoreTells, lane_tells}
use Rattle.txn_replay.proofs.RunLaws.CardsReached.{event_sound}
use Rattle.txn_replay.proofs.RunLaws.LinesReached.{apart, reached_lines, lane_behind}
use Rattle.txn_replay.proofs.Lists.{at_set, get_or-map_const, replicate_push, map_replicate}
use Rattle.txn_replay.proofs.ExchangeLaws.PurchaseFacts.{payment_facts}
use Rattle.txn_replay.proofs.SettlementLaws.SettlementSteps.{settles_inside}
use Rattle.txn_replay.proofs.RunLaws.SoundWorlds.{first_sound}

pub messages-append : (l : ℕ) (xs ys : List Line) → messages_told l (xs ++ ys) ≡ messages_told l xs ++ messages_told l ys
unfolding messages_told
messages-append l xs ys = flat_map-append (message_told l) xs ys

-- the messages of a dialect
abbrev spelled : Bool → List (List ℕ) → List (List ℕ)
spelled iso messages = map (call_in iso) messages

module _ (p : Payment) (part : Part) where
  -- the lines tell what the lane has made since, and nothing of other lanes
  abbrev Told : LaneRow → List Line → Type 0
  Told lane lines =
      (spelled p.iso lane.sent ≡ spelled p.iso part.lane.sent ++ messages_told p.lane lines)
      × ((k : ℕ) → k ≢ p.lane → messages_told k lines ≡ [])

  abbrev Came : LaneRow → List Reply → CardRow → List (List ℕ) → List Line → Type 0
  Came lane replies card messages lines = Told lane lines

  abbrev Behind : Part → List Line → Type 0
  Behind after lines = Told after.lane lines

  end_untold : (k : ℕ) (lost : Bool) (lane number : ℕ) (end : EndData) (lines : List Line)
      → messages_told k (lines ++ outcome_line lost lane number end ∷ []) ≡ messages_told k lines
  unfolding messages_told
  end_untold k true lane number end lines =
      flat_map-append (message_told k) lines (EndLost lane number ∷ []) ∙ append-nil (flat_map (message_told k) lines)
  end_untold k false lane number end lines =
      flat_map-append (message_told k) lines (end_line lane number end ∷ []) ∙ append-nil (flat_map (message_told k) lines)

  ends_so : (lane after : LaneRow) (lines : List Line) (lost : Bool) (number : ℕ) (end : EndData) → after.sent ≡ lane.sent → Told lane lines
      → Told after (lines ++ outcome_line lost p.lane number end ∷ [])
  ends_so lane after lines lost number end same told = (
    ap (spelled p.iso) same ∙ told.0
        ∙ ap (λ (xs : List (List ℕ)). spelled p.iso part.lane.sent ++ xs) (sym (end_untold p.lane lost p.lane number end lines)),
    λ k other. end_untold k lost p.lane number end lines ∙ told.1 k other,
  )

  lost_untold : (k lane number : ℕ) (lines : List Line) → messages_told k (lines ++ EndLost lane number ∷ []) ≡ messages_told k lines
  unfolding messages_told
  lost_untold k lane number lines = flat_map-append (message_told k) lines (EndLost lane number ∷ []) ∙ append-nil (flat_map (message_told k) lines)

  -- so many copies of a settlement message
  settle_told : (k : ℕ) (message reply : List ℕ)
      → messages_told k (settle_lines p.iso p.lane message reply) ≡ cond (p.lane == k) (call_in p.iso message ∷ []) []
  unfolding messages_told
  settle_told k message reply = append-nil _

  copies_told : (message : List ℕ) (messages : List (List ℕ)) (n : ℕ)
      → messages_told p.lane (copy_lines p message messages n) ≡ replicate n (call_in p.iso message)
  unfolding messages_told
  copies_told message messages zero = refl
  copies_told message messages (suc n) =
      messages-append p.lane (copy_lines p message messages n) _
      ∙ ap (λ (xs : List (List ℕ)). xs ++ messages_told p.lane (settle_lines p.iso p.lane message
      (host_reply p.issuer p.accounts (messages ++ replicate n message) message))) (copies_told message messages n)
      ∙ ap (λ (xs : List (List ℕ)). replicate n (call_in p.iso message) ++ xs)
      (settle_told p.lane message (host_reply p.issuer p.accounts (messages ++ replicate n message) message)
      ∙ ap (λ b. cond b (call_in p.iso message ∷ []) []) (eq-eqb p.lane p.lane refl))
      ∙ replicate_push n (call_in p.iso message)

  copies_untold : (k : ℕ) → k ≢ p.lane → (message : List ℕ) (messages : List (List ℕ)) (n : ℕ) → messages_told k (copy_lines p message messages n) ≡ []
  unfolding messages_told
  copies_untold k other message messages zero = refl
  copies_untold k other message messages (suc n) =
      messages-append k (copy_lines p message messages n) _
      ∙ ap (λ (xs : List (List ℕ)). xs ++ messages_told k (settle_lines p.iso p.lane message
      (host_reply p.issuer p.accounts (messages ++ replicate n message) message))) (copies_untold k other message messages n)
      ∙ settle_told k message (host_reply p.issuer p.accounts (messages ++ replicate n message) message)
      ∙ ap (λ b. cond b (call_in p.iso message ∷ []) []) (apart k p.lane other)

  copied_told : (message : List ℕ) → Told (lane_copied p message part.lane) (copy_lines p message part.messages p.copies)
  copied_told message = (
    map-append (call_in p.iso) part.lane.sent (replicate p.copies message)
        ∙ ap (λ (xs : List (List ℕ)). spelled p.iso part.lane.sent ++ xs)
        (map_replicate (call_in p.iso) p.copies message ∙ sym (copies_told message part.messages p.copies)),
    λ k other. copies_untold k other message part.messages p.copies,
  )

  host_told : (k : ℕ) (message : List ℕ) (reply : Option (List ℕ))
      → messages_told k (host_lines p.iso p.lane message reply) ≡ cond (p.lane == k) (call_in p.iso message ∷ []) []
  unfolding messages_told
  host_told k message None = append-nil _
  host_told k message (Some reply) = append-nil _

  tells_messages : Tells p part Came Behind
  unfolding messages_told
  tells_messages = record {
    still = (sym (append-nil (spelled p.iso part.lane.sent)), λ k other. refl);
    goes = λ lane later replies card messages lines came. came;
    ends = λ lane later replies card messages lines came end is.
        ends_so lane (lane_ended p replies end lane) lines (loses p lane.store end.capture) (length lane.ended + 1) end refl came;
    powers = λ rests free apps choice. (sym (append-nil (spelled p.iso part.lane.sent)), λ k other. refl);
    power_cut = λ rests free apps is. (sym (append-nil (spelled p.iso part.lane.sent)), λ k other. refl);
    powers_canned = λ rests free answers canned. (sym (append-nil (spelled p.iso part.lane.sent)), λ k other. refl);
    answers = λ replies runs apps command asks. (sym (append-nil (spelled p.iso part.lane.sent)), λ k other. refl);
    cuts = λ replies runs command cut at. (sym (append-nil (spelled p.iso part.lane.sent)), λ k other. refl);
    tells = λ replies runs answers canned command answer. (sym (append-nil (spelled p.iso part.lane.sent)), λ k other. refl);
    gone = λ replies runs answers canned command. (sym (append-nil (spelled p.iso part.lane.sent)), λ k other. refl);
    hosts = λ replies runs message asks reply is. (
      map-append (call_in p.iso) part.lane.sent (message ∷ [])
          ∙ ap (λ (xs : List (List ℕ)). spelled p.iso part.lane.sent ++ xs)
          (sym (host_told p.lane message reply ∙ ap (λ b. cond b (call_in p.iso message ∷ []) []) (eq-eqb p.lane p.lane refl))),
      λ k other. host_told k message reply ∙ ap (λ b. cond b (call_in p.iso message ∷ []) []) (apart k p.lane other),
    );
  }

module _ (p : Payment) (part : Part) where
  store_messages : StoreTells p part (Came p part) (Behind p part)
  unfolding messages_told
  store_messages = record {
    own = tells_messages p part;
    again = λ one at off. tells_messages p (part_with (opened_to_add part.lane.store one) part);
    opened = λ one at off. (sym (append-nil (spelled p.iso part.lane.sent)), λ k other. refl);
    lost = λ at cut. (sym (append-nil (spelled p.iso part.lane.sent)), λ k other. refl);
    sent = λ at message. copied_told p part message;
    sent_lost = λ at message cut.
        (let told = copied_told p part message in (
          told.0 ∙ ap (λ (xs : List (List ℕ)). spelled p.iso part.lane.sent ++ xs)
              (sym (lost_untold p part p.lane p.lane (length part.lane.ended + 1) (copy_lines p message part.messages p.copies))),
          λ k other. lost_untold p part k p.lane (length part.lane.ended + 1) (copy_lines p message part.messages p.copies) ∙ told.1 k other,
        ));
  }

-- over the events of a run
pub record AreMade (s : ScenarioData) (w : World) (lines : List Line) : Type 0 where
  pub sound : IsWorldSound s w
  pub lanes : (l : ℕ) → messages_told l lines ≡ spelled (dialect_of s l) (lane_at w l).sent

module _ (s : ScenarioData) (w : World) (lines : List Line) (choices : List Bool) (made : AreMade s w lines) where
  abbrev Made : World → List Line → Type 0
  Made after new = (k : ℕ) → messages_told k (lines ++ new) ≡ spelled (dialect_of s k) (lane_at after k).sent

  -- an event that makes no message
  unmade : (after : World) (new : List Line) → ((k : ℕ) → (lane_at after k).sent ≡ (lane_at w k).sent) → ((k : ℕ) → messages_told k new ≡ []) → Made after new
  unmade after new same none k =
      messages-append k lines new ∙ ap (λ (xs : List (List ℕ)). messages_told k lines ++ xs) (none k) ∙ append-nil (messages_told k lines)
      ∙ made.lanes k ∙ ap (λ (sent : List (List ℕ)). spelled (dialect_of s k) sent) (sym (same k))

  turn_made : (l : ℕ) (o : Option Payment) → next_of s w l ≡ o → Made (turned_by w l choices o).world (turned_by w l choices o).lines
  unfolding messages_told
  turn_made l None is = unmade w [] (λ k. refl) (λ k. refl)
  turn_made l (Some p) is = λ k. by_lane k (cases_eq k l)
    where
      part : Part
      part = part_of w l p.planned.card

      m : Moved
      m = lane_piece p part (choice_in choices 0) (choice_in choices 1)

      lane : p.lane ≡ l
      lane = (payment_facts s l _ p is).lane

      iso : p.iso ≡ dialect_of s l
      iso = (payment_facts s l _ p is).iso

      behind : Behind p part m.part m.lines
      behind = lane_tells p part (Came p part) (Behind p part) (store_messages p part) (choice_in choices 0) (choice_in choices 1)

      own : messages_told l (lines ++ m.lines) ≡ spelled (dialect_of s l) m.part.lane.sent
      own =
          messages-append l lines m.lines
          ∙ ap (λ (xs : List (List ℕ)). xs ++ messages_told l m.lines) (made.lanes l)
          ∙ ap (λ b. spelled b (lane_at w l).sent ++ messages_told l m.lines) (sym iso)
          ∙ ap (λ j. spelled p.iso (lane_at w l).sent ++ messages_told j m.lines) (sym lane)
          ∙ sym behind.0
          ∙ ap (λ b. spelled b m.part.lane.sent) iso

      by_lane : (k : ℕ) → (k ≡ l) ⊎ (k ≢ l)
          → messages_told k (lines ++ m.lines) ≡ spelled (dialect_of s k) (lane_at (turned_by w l choices (Some p)).world k).sent
      by_lane k (inl this) =
          subst (λ j. messages_told j (lines ++ m.lines) ≡ spelled (dialect_of s j) (lane_at (turned_by w l choices (Some p)).world j).sent) (sym this)
          (own ∙ ap (λ (row : LaneRow). spelled (dialect_of s l) row.sent) (sym (lane_behind s w l p made.sound is m)))
      by_lane k (inr other) =
          messages-append k lines m.lines
          ∙ ap (λ (xs : List (List ℕ)). messages_told k lines ++ xs) (behind.1 k (λ same. other (same ∙ lane)))
          ∙ append-nil (messages_told k lines)
          ∙ made.lanes k
          ∙ ap (λ (row : LaneRow). spelled (dialect_of s k) row.sent) (sym (get_or-set_other w.lanes l k m.part.lane new_lane other))

  settle_made : (n : ℕ) (o : Option Settlement) → slice_get (settlements s w) n ≡ o → Made (settles s w choices o).world (settles s w choices o).lines
  unfolding messages_told
  settle_made n None is = unmade w [] (λ k. refl) (λ k. refl)
  settle_made n (Some (Opens l)) is =
      unmade (settles s w choices (Some (Opens l))).world []
      (λ k. at_set (λ (i : ℕ) (row : LaneRow). row.sent ≡ (lane_at w i).sent) w.lanes l
      (with_store (opened_to_settle (lane_at w l).store (choice_in choices 0)) (lane_at w l)) new_lane refl (λ i. refl) k)
      (λ k. refl)
  settle_made n (Some (Sends l message drops)) is = λ k. by_lane k (cases_eq k l)
    where
      row : LaneRow
      row = lane_settled message drops (lane_at w l)

      new : List Line
      new = (settles s w choices (Some (Sends l message drops))).lines

      inside : l < length w.lanes
      inside = settles_inside s w.lanes n (Sends l message drops) is

      told : (k : ℕ) → messages_told k new ≡ cond (l == k) (call_in (dialect_of s l) message ∷ []) []
      told k = append-nil _

      by_lane : (k : ℕ) → (k ≡ l) ⊎ (k ≢ l)
          → messages_told k (lines ++ new) ≡ spelled (dialect_of s k) (lane_at (settles s w choices (Some (Sends l message drops))).world k).sent
      by_lane k (inl this) =
          subst (λ j. messages_told j (lines ++ new) ≡ spelled (dialect_of s j) (lane_at (settles s w choices (Some (Sends l message drops))).world j).sent) (sym this)
          (messages-append l lines new
          ∙ ap (λ (xs : List (List ℕ)). xs ++ messages_told l new) (made.lanes l)
          ∙ ap (λ (xs : List (List ℕ)). spelled (dialect_of s l) (lane_at w l).sent ++ xs)
          (told l ∙ ap (λ b. cond b (call_in (dialect_of s l) message ∷ []) []) (eq-eqb l l refl))
          ∙ sym (map-append (call_in (dialect_of s l)) (lane_at w l).sent (message ∷ []))
          ∙ ap (λ (x : LaneRow). spelled (dialect_of s l) x.sent) (sym (get_or-set_same w.lanes l row new_lane inside)))
      by_lane k (inr other) =
          messages-append k lines new
          ∙ ap (λ (xs : List (List ℕ)). messages_told k lines ++ xs)
          (told k ∙ ap (λ b. cond b (call_in (dialect_of s l) message ∷ []) []) (apart k l other))
          ∙ append-nil (messages_told k lines)
          ∙ made.lanes k
          ∙ ap (λ (x : LaneRow). spelled (dialect_of s k) x.sent) (sym (get_or-set_other w.lanes l k row new_lane other))

  audit_made : (o : Option Check) → Made (audits w choices o).world (audits w choices o).lines
  unfolding messages_told
  audit_made None = unmade w [] (λ k. refl) (λ k. refl)
  audit_made (Some (PowersUp i card)) =
      unmade (audits w choices (Some (PowersUp i card))).world (audits w choices (Some (PowersUp i card))).lines (λ k. refl) (λ k. refl)
  audit_made (Some (Asks i card command)) =
      unmade (audits w choices (Some (Asks i card command))).world (audits w choices (Some (Asks i card command))).lines (λ k. refl) (λ k. refl)

  event_made : (e : Event) → Made (happens s w e choices).world (happens s w e choices).lines
  event_made (Turn l) = turn_made l (next_of s w l) refl
  event_made (Settle n) = settle_made n (slice_get (settlements s w) n) refl
  event_made (Audit n) = audit_made (slice_get (checks s) n)

next_made : (s : ScenarioData) (w : World) (lines : List Line) (e : Event) (choices : List Bool) → AreMade s w lines
    → AreMade s (happens s w e choices).world (lines ++ (happens s w e choices).lines)
next_made s w lines e choices made = record { sound = event_sound s w e choices made.sound; lanes = event_made s w lines choices made e }

first_made : (s : ScenarioData) → AreMade s (first_world s) []
unfolding messages_told
first_made s = record {
  sound = first_sound s;
  lanes = λ l. ap (λ (row : LaneRow). spelled (dialect_of s l) row.sent) (sym (get_or-map_const s.lanes l new_lane));
}

pub messages_are_told : RunsTellMessages
messages_are_told s place n choices lines w l reached =
    (reached_lines s (AreMade s) (first_made s) (next_made s) place n choices lines w reached).lanes l
