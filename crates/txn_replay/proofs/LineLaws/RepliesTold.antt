-- The lines between a power line and an end line are the replies of that purchase, and its end is that of its dialogue.
-- So a report tells the dialogue of each purchase whole: the laws `RunsTellReplies` and `PastsEnd`.
use Rattle.std.proofs.Common.{◌≡◌, ◌≢◌, ℕ, zero, suc, ◌⊎◌, ◌+◌, Bool, true, false, List, [], ◌∷◌, ◌++◌, length, replicate, slice_get, Option, Some, None, refl, sym, ap, ◌∙◌, subst, inl, inr, arith, append-nil}
use Rattle.std.specs.Prelude.{◌==◌, is_some}
use Rattle.std.specs.List.{fold}
use Rattle.std.proofs.lemmas.Bool.{eq-eqb, cases_eq}
use Rattle.std.proofs.lemmas.List.{append_assoc, get_or-set_other}
use Rattle.std.proofs.lemmas.List.Sums.{fold_push, fold-append}
use Rattle.std.proofs.lemmas.Option.{same_Some}
use Rattle.capture_store.specs.StoreRow.{StoreRow, opened_to_add}
use Rattle.card_app.specs.Answering.{card_answer}
use Rattle.host_link.specs.Delivery.{delivered}
use Rattle.issuer_host.specs.History.{host_reply}
use Rattle.kernel.specs.Dialogue.{dialogue}
use Rattle.kernel.specs.Ended.{EndData}
use Rattle.kernel.specs.Kernel.{deed_bytes, told_bytes}
use Rattle.kernel.specs.Reply.{Reply, CardSaid, CardGone, from_host}
use Rattle.report_text.specs.declared.line.Line.{Line}
use Rattle.report_text.specs.declared.line.Line.TheVariants.{EndLost}
use Rattle.scenario_plan.specs.Plan.{ScenarioData}
use Rattle.txn_replay.specs.Lines.{host_lines, settle_lines, audit_power_line, audit_lines, outcome_line}
use Rattle.txn_replay.specs.Changes.{freed}
use Rattle.txn_replay.specs.Part.{Part, Moved, loses, lane_ended}
use Rattle.txn_replay.specs.Payment.{Payment, payment_in, dialect_of, next_of, outset_for, end_at}
use Rattle.txn_replay.specs.Sound.{IsWorldSound}
use Rattle.txn_replay.specs.Steps.{Check, PowersUp, Asks, Settlement, Opens, Sends, settlements, settles, checks, audits, part_of, choice_in, turned_by, happens}
use Rattle.txn_replay.specs.Storing.{part_with, lane_lost, lane_copied, copied, copy_lines, lane_piece}
use Rattle.txn_replay.specs.ToldByLines.{Heard, heard_of, heard_behind, heard_in, EndTold, LaneTold, hears, finishes, told_by_line, lane_told, parts_told, pasts_told, IsLaneTold, RunsTellReplies, EndsSo, PastsEnd}
use Rattle.txn_replay.specs.World.{Past, LaneRow, CardRow, World, new_lane, first_world, lane_at, with_sent}
use Rattle.txn_replay.specs.declared.event.Event.{Event}
use Rattle.txn_replay.specs.declared.event.Event.TheVariants.{Turn, Settle, Audit}
use Rattle.txn_replay.proofs.ExchangeLaws.ExchangeCases.{Tells, StoreTells, lane_tells}
use Rattle.txn_replay.proofs.RunLaws.CardsReached.{event_sound, reached_keeps}
use Rattle.txn_replay.proofs.RunLaws.LinesReached.{apart, reached_lines, lane_behind}
use Rattle.txn_replay.proofs.Lists.{get_or-map_const}
use Rattle.txn_replay.proofs.ExchangeLaws.PurchaseFacts.{payment_facts}
use Rattle.txn_replay.proofs.ExchangeLaws.LaneMessages.{Later, later_ended, unsent, LanesLike, settle_like, audit_like}
use Rattle.txn_replay.proofs.RunLaws.SoundWorlds.{first_sound}

-- one reply more
heard-push : (p : Payment) (before replies : List Reply) (reply : Reply)
    → heard_behind p before (replies ++ reply ∷ [])
    ≡ heard_behind p before replies ++ heard_of p.iso (told_bytes (dialogue (outset_for p) (before ++ replies))) reply ∷ []
heard-push p before [] reply =
    ap (λ (rs : List Reply). heard_of p.iso (told_bytes (dialogue (outset_for p) rs)) reply ∷ []) (sym (append-nil before))
heard-push p before (first ∷ replies) reply =
    ap (λ (hs : List Heard). heard_of p.iso (told_bytes (dialogue (outset_for p) before)) first ∷ hs)
    (heard-push p (before ++ first ∷ []) replies reply
    ∙ ap (λ (rs : List Reply). heard_behind p (before ++ first ∷ []) replies ++ heard_of p.iso (told_bytes (dialogue (outset_for p) rs)) reply ∷ [])
    (append_assoc before (first ∷ []) replies))

-- the last of a list of ended purchases
pasts-push : (s : ScenarioData) (l n : ℕ) (pasts : List Past) (past : Past)
    → pasts_told s l n (pasts ++ past ∷ [])
    ≡ pasts_told s l n pasts
    ++ record { heard = heard_in (payment_in s l (n + length pasts)) past.replies; number = n + length pasts + 1; parts = parts_told past.lost past.end } ∷ []
pasts-push s l n [] past =
    let same : n ≡ n + 0 = omega arith in
    ap (λ k. record { heard = heard_in (payment_in s l k) past.replies; number = k + 1; parts = parts_told past.lost past.end } ∷ []) same
pasts-push s l n (first ∷ pasts) past =
    let same : n + 1 + length pasts ≡ n + suc (length pasts) = omega arith in
    ap (λ (xs : List EndTold). record { heard = heard_in (payment_in s l n) first.replies; number = n + 1; parts = parts_told first.lost first.end } ∷ xs)
    (pasts-push s l (n + 1) pasts past
    ∙ ap (λ k. pasts_told s l (n + 1) pasts
    ++ record { heard = heard_in (payment_in s l k) past.replies; number = k + 1; parts = parts_told past.lost past.end } ∷ []) same)

module _ (s : ScenarioData) (p : Payment) (part : Part) (t : LaneTold) (is : payment_in s p.lane (length part.lane.ended) ≡ Some p)
    (told : IsLaneTold s p.lane part.lane t) where
  abbrev Came : LaneRow → List Reply → CardRow → List (List ℕ) → List Line → Type 0
  Came lane replies card messages lines =
      (fold (told_by_line p.lane) t lines ≡ record { heard = heard_behind p [] replies; ended = t.ended })
      × ((k : ℕ) → k ≢ p.lane → (u : LaneTold) → fold (told_by_line k) u lines ≡ u)

  abbrev Behind : Part → List Line → Type 0
  Behind after lines =
      IsLaneTold s p.lane after.lane (fold (told_by_line p.lane) t lines)
      × ((k : ℕ) → k ≢ p.lane → (u : LaneTold) → fold (told_by_line k) u lines ≡ u)

  same : (p.lane == p.lane) ≡ true
  same = eq-eqb p.lane p.lane refl

  -- one reply more
  more : (replies : List Reply) → part.lane.running ≡ Some replies → (reply : Reply)
      → hears t (heard_of p.iso (told_bytes (dialogue (outset_for p) replies)) reply)
      ≡ record { heard = heard_behind p [] (replies ++ reply ∷ []); ended = t.ended }
  more replies runs reply =
      ap (λ (xs : List Heard). record { heard = xs; ended = t.ended })
      (ap (λ (xs : List Heard). xs ++ heard_of p.iso (told_bytes (dialogue (outset_for p) replies)) reply ∷ [])
      (told.heard replies runs ∙ ap (λ (o : Option Payment). heard_in o replies) is)
      ∙ sym (heard-push p [] replies reply))

  goes_on : (lane : LaneRow) → Later part.lane lane → (replies : List Reply) (card : CardRow) (messages : List (List ℕ)) (lines : List Line)
      → Came lane replies card messages lines
      → Behind (record { lane = record lane { running = Some replies }; card = card; messages = messages }) lines
  goes_on lane later replies card messages lines came = (
    subst (λ (u : LaneTold). IsLaneTold s p.lane (record lane { running = Some replies }) u) (sym came.0)
        (record {
          ended = told.ended ∙ ap (λ (pasts : List Past). pasts_told s p.lane 0 pasts) (sym (later_ended part.lane lane later));
          heard = λ others runs.
              ap (λ (rs : List Reply). heard_behind p [] rs) (same_Some replies others runs)
              ∙ ap (λ (o : Option Payment). heard_in o others)
              (sym is ∙ ap (λ (pasts : List Past). payment_in s p.lane (length pasts)) (sym (later_ended part.lane lane later)));
          rests = λ none. cc;
        }),
    came.1,
  )

  -- how an end line, of a lost purchase or of another one, is told, and that other lanes' lines don't hear it
  finished_by : (lost : Bool) (u : LaneTold) (number : ℕ) (end : EndData)
      → told_by_line p.lane u (outcome_line lost p.lane number end) ≡ finishes u number (parts_told lost (Some end))
  finished_by true u number end = rw same refl
  finished_by false u number end = rw same refl

  unfinished_by : (lost : Bool) (k : ℕ) → k ≢ p.lane → (u : LaneTold) (number : ℕ) (end : EndData) → told_by_line k u (outcome_line lost p.lane number end) ≡ u
  unfinished_by true k other u number end = rw (apart k p.lane other) refl
  unfinished_by false k other u number end = rw (apart k p.lane other) refl

  ends_so : (lane : LaneRow) → Later part.lane lane → (replies : List Reply) (card : CardRow) (messages : List (List ℕ)) (lines : List Line)
      → Came lane replies card messages lines → (end : EndData)
      → Behind (record { lane = lane_ended p replies end lane; card = freed card; messages = messages })
      (lines ++ outcome_line (loses p lane.store end.capture) p.lane (length lane.ended + 1) end ∷ [])
  ends_so lane later replies card messages lines came end = (
    subst (λ (u : LaneTold). IsLaneTold s p.lane (lane_ended p replies end lane) u) (sym closes)
        (record { ended = joined; heard = λ others runs. cc; rests = λ none. refl }),
    λ k other u.
        fold_push (told_by_line k) u lines line
        ∙ ap (λ (v : LaneTold). told_by_line k v line) (came.1 k other u)
        ∙ unfinished_by lost k other u (length lane.ended + 1) end,
  )
    where
      lost : Bool
      lost = loses p lane.store end.capture

      line : Line
      line = outcome_line lost p.lane (length lane.ended + 1) end

      now : EndTold
      now = record { heard = heard_behind p [] replies; number = length lane.ended + 1; parts = parts_told lost (Some end) }

      past : Past
      past = record { began = lane.began; replies = replies; end = Some end; lost = lost }

      closes : fold (told_by_line p.lane) t (lines ++ line ∷ []) ≡ record { heard = []; ended = t.ended ++ now ∷ [] }
      closes =
          fold_push (told_by_line p.lane) t lines line ∙ ap (λ (v : LaneTold). told_by_line p.lane v line) came.0
          ∙ finished_by lost (record { heard = heard_behind p [] replies; ended = t.ended }) (length lane.ended + 1) end

      before : t.ended ≡ pasts_told s p.lane 0 lane.ended
      before = told.ended ∙ ap (λ (pasts : List Past). pasts_told s p.lane 0 pasts) (sym (later_ended part.lane lane later))

      next : payment_in s p.lane (length lane.ended) ≡ Some p
      next = ap (λ (pasts : List Past). payment_in s p.lane (length pasts)) (later_ended part.lane lane later) ∙ is

      joined : t.ended ++ now ∷ [] ≡ pasts_told s p.lane 0 (lane.ended ++ past ∷ [])
      joined =
          let number : length lane.ended ≡ 0 + length lane.ended = omega arith in
          ap (λ (xs : List EndTold). xs ++ now ∷ []) before
          ∙ ap (λ (o : Option Payment). pasts_told s p.lane 0 lane.ended
          ++ record { heard = heard_in o replies; number = length lane.ended + 1; parts = parts_told lost (Some end) } ∷ []) (sym next)
          ∙ ap (λ n. pasts_told s p.lane 0 lane.ended
          ++ record { heard = heard_in (payment_in s p.lane n) replies; number = n + 1; parts = parts_told lost (Some end) } ∷ []) number
          ∙ sym (pasts-push s p.lane 0 lane.ended past)

  -- the bytes of a reply are spelled as an answer to the message that the dialogue asks for
  host_came : (replies : List Reply) → part.lane.running ≡ Some replies → (message : List ℕ)
      → told_bytes (dialogue (outset_for p) replies) ≡ message → (reply : Option (List ℕ)) (lane : LaneRow) (card : CardRow) (messages : List (List ℕ))
      → Came lane (replies ++ from_host reply ∷ []) card messages (host_lines p.iso p.lane message reply)
  host_came replies runs message asks None lane card messages =
      (rw same (more replies runs (from_host None)), λ k other u. rw (apart k p.lane other) refl)
  host_came replies runs message asks (Some reply) lane card messages = (
    rw same (ap (λ (m : List ℕ). hears t (heard_of p.iso m (from_host (Some reply)))) (sym asks) ∙ more replies runs (from_host (Some reply))),
    λ k other u. rw (apart k p.lane other) refl,
  )

  tells_heard : Tells p part Came Behind
  tells_heard = record {
    still = (told, λ k other u. refl);
    goes = goes_on;
    ends = λ lane later replies card messages lines came end over. ends_so lane later replies card messages lines came end;
    powers = λ rests free apps choice. (rw same refl, λ k other u. rw (apart k p.lane other) refl);
    power_cut = λ rests free apps cut. (rw same refl, λ k other u. rw (apart k p.lane other) refl);
    powers_canned = λ rests free answers canned. (rw same refl, λ k other u. rw (apart k p.lane other) refl);
    answers = λ replies runs apps command asks. (
      rw same (more replies runs (CardSaid (card_answer p.card.image part.card.kept part.card.session command).answer part.lane.log)),
      λ k other u. rw (apart k p.lane other) refl,
    );
    cuts = λ replies runs command cut at. (rw same (more replies runs CardGone), λ k other u. rw (apart k p.lane other) refl);
    tells = λ replies runs answers canned command answer.
        (rw same (more replies runs (CardSaid answer part.lane.log)), λ k other u. rw (apart k p.lane other) refl);
    gone = λ replies runs answers canned command. (rw same (more replies runs CardGone), λ k other u. rw (apart k p.lane other) refl);
    hosts = λ replies runs message asks reply heard.
        host_came replies runs message (ap deed_bytes asks) reply (with_sent message part.lane) part.card
        (part.messages ++ delivered p.planned.link message);
  }

-- what comes before a purchase tells no reply, and a lost purchase none of its own
module _ (s : ScenarioData) (p : Payment) (part : Part) (t : LaneTold) (is : payment_in s p.lane (length part.lane.ended) ≡ Some p)
    (told : IsLaneTold s p.lane part.lane t) where
  -- settlement lines are no replies
  copies_unheard : (k : ℕ) (u : LaneTold) (message : List ℕ) (messages : List (List ℕ)) (n : ℕ) → fold (told_by_line k) u (copy_lines p message messages n) ≡ u
  copies_unheard k u message messages zero = refl
  copies_unheard k u message messages (suc n) =
      fold-append (told_by_line k) u (copy_lines p message messages n)
      (settle_lines p.iso p.lane message (host_reply p.issuer p.accounts (messages ++ replicate n message) message))
      ∙ copies_unheard k u message messages n

  -- the lane with another store
  told_with : (store : StoreRow) (sent : List (List ℕ)) → IsLaneTold s p.lane (record part.lane { sent = sent; store = store }) t
  told_with store sent = record { ended = told.ended; heard = told.heard; rests = told.rests }

  -- a line that a purchase was lost, behind lines that tell nothing
  lost_told : part.lane.running ≡ None → (sent : List (List ℕ)) (store : StoreRow) (lines : List Line) → ((k : ℕ) (u : LaneTold) → fold (told_by_line k) u lines ≡ u)
      → IsLaneTold s p.lane (lane_lost (record part.lane { sent = sent; store = store }))
      (fold (told_by_line p.lane) t (lines ++ EndLost p.lane (length part.lane.ended + 1) ∷ []))
      × ((k : ℕ) → k ≢ p.lane → (u : LaneTold) → fold (told_by_line k) u (lines ++ EndLost p.lane (length part.lane.ended + 1) ∷ []) ≡ u)
  lost_told rests sent store lines unheard = (
    subst (λ (u : LaneTold). IsLaneTold s p.lane (lane_lost (record part.lane { sent = sent; store = store })) u) (sym closes)
        (record { ended = joined; heard = λ others runs. (let none : None ≡ Some others = sym rests ∙ runs in cc); rests = λ none. refl }),
    λ k other u.
        fold_push (told_by_line k) u lines line ∙ ap (λ (v : LaneTold). told_by_line k v line) (unheard k u) ∙ rw (apart k p.lane other) refl,
  )
    where
      line : Line
      line = EndLost p.lane (length part.lane.ended + 1)

      now : EndTold
      now = record { heard = []; number = length part.lane.ended + 1; parts = None }

      past : Past
      past = record { began = None; replies = []; end = None; lost = true }

      closes : fold (told_by_line p.lane) t (lines ++ line ∷ []) ≡ record { heard = []; ended = t.ended ++ now ∷ [] }
      closes =
          fold_push (told_by_line p.lane) t lines line
          ∙ ap (λ (v : LaneTold). told_by_line p.lane v line) (unheard p.lane t)
          ∙ rw (eq-eqb p.lane p.lane refl) refl
          ∙ ap (λ (heard : List Heard). record { heard = []; ended = t.ended ++ record { heard = heard; number = length part.lane.ended + 1; parts = None } ∷ [] })
          (told.rests rests)

      heard_none : (o : Option Payment) → [] ≡ heard_in o []
      heard_none None = refl
      heard_none (Some q) = refl

      joined : t.ended ++ now ∷ [] ≡ pasts_told s p.lane 0 (part.lane.ended ++ past ∷ [])
      joined =
          let number : length part.lane.ended ≡ 0 + length part.lane.ended = omega arith in
          ap (λ (xs : List EndTold). xs ++ now ∷ []) told.ended
          ∙ ap (λ (heard : List Heard). pasts_told s p.lane 0 part.lane.ended ++ record { heard = heard; number = length part.lane.ended + 1; parts = None } ∷ [])
          (heard_none (payment_in s p.lane (length part.lane.ended)))
          ∙ ap (λ n. pasts_told s p.lane 0 part.lane.ended
          ++ record { heard = heard_in (payment_in s p.lane n) []; number = n + 1; parts = None } ∷ []) number
          ∙ sym (pasts-push s p.lane 0 part.lane.ended past)

  store_heard : StoreTells p part (Came s p part t is told) (Behind s p part t is told)
  store_heard = record {
    own = tells_heard s p part t is told;
    again = λ one at off.
        tells_heard s p (part_with (opened_to_add part.lane.store one) part) t is (told_with (opened_to_add part.lane.store one) part.lane.sent);
    opened = λ one at off. (told_with (opened_to_add part.lane.store one) part.lane.sent, λ k other u. refl);
    lost = λ at cut. lost_told at.rests part.lane.sent part.lane.store [] (λ k u. refl);
    sent = λ at message. (
      subst (λ (u : LaneTold). IsLaneTold s p.lane (lane_copied p message part.lane) u) (sym (copies_unheard p.lane t message part.messages p.copies))
          (told_with (lane_copied p message part.lane).store (lane_copied p message part.lane).sent),
      λ k other u. copies_unheard k u message part.messages p.copies,
    );
    sent_lost = λ at message cut.
        lost_told at.rests (lane_copied p message part.lane).sent (lane_copied p message part.lane).store (copy_lines p message part.messages p.copies)
        (λ k u. copies_unheard k u message part.messages p.copies);
  }

-- lanes that differ in the messages that they made alone
told_like : (s : ScenarioData) (l : ℕ) (v w : LaneRow) (t : LaneTold) → unsent v ≡ unsent w → IsLaneTold s l w t → IsLaneTold s l v t
told_like s l v w t like told = record {
  ended = told.ended ∙ ap (λ (row : LaneRow). pasts_told s l 0 row.ended) (sym like);
  heard = λ replies runs.
      told.heard replies (ap (λ (row : LaneRow). row.running) (sym like) ∙ runs)
      ∙ ap (λ (row : LaneRow). heard_in (payment_in s l (length row.ended)) replies) (sym like);
  rests = λ none. told.rests (ap (λ (row : LaneRow). row.running) (sym like) ∙ none);
}

-- over the events of a run
pub record LinesTell (s : ScenarioData) (w : World) (lines : List Line) : Type 0 where
  pub sound : IsWorldSound s w
  pub lanes : (l : ℕ) → IsLaneTold s l (lane_at w l) (lane_told l lines)

module _ (s : ScenarioData) where
  none_told : (l : ℕ) → IsLaneTold s l (lane_at (first_world s) l) (record { heard = []; ended = [] })
  none_told l =
      subst (λ (row : LaneRow). IsLaneTold s l row (record { heard = []; ended = [] })) (sym (get_or-map_const s.lanes l new_lane))
      (record { ended = refl; heard = λ replies is. cc; rests = λ none. refl })

  module _ (w : World) (lines : List Line) (choices : List Bool) (tell : LinesTell s w lines) where
    turn_tells : (l : ℕ) (o : Option Payment) → next_of s w l ≡ o → (k : ℕ)
        → IsLaneTold s k (lane_at (turned_by w l choices o).world k) (lane_told k (lines ++ (turned_by w l choices o).lines))
    unfolding lane_told
    turn_tells l None is k = subst (λ (ls : List Line). IsLaneTold s k (lane_at w k) (lane_told k ls)) (sym (append-nil lines)) (tell.lanes k)
    turn_tells l (Some p) is k = by_lane (cases_eq k l)
      where
        part : Part
        part = part_of w l p.planned.card

        m : Moved
        m = lane_piece p part (choice_in choices 0) (choice_in choices 1)

        lane : p.lane ≡ l
        lane = (payment_facts s l (length (lane_at w l).ended) p is).lane

        here : IsLaneTold s p.lane (lane_at w l) (lane_told p.lane lines)
        here = subst (λ j. IsLaneTold s j (lane_at w l) (lane_told j lines)) (sym lane) (tell.lanes l)

        own : payment_in s p.lane (length (lane_at w l).ended) ≡ Some p
        own = ap (λ j. payment_in s j (length (lane_at w l).ended)) lane ∙ is

        behind : Behind s p part (lane_told p.lane lines) own here m.part m.lines
        behind =
            lane_tells p part (Came s p part (lane_told p.lane lines) own here) (Behind s p part (lane_told p.lane lines) own here)
            (store_heard s p part (lane_told p.lane lines) own here) (choice_in choices 0) (choice_in choices 1)

        by_lane : (k ≡ l) ⊎ (k ≢ l) → IsLaneTold s k (lane_at (turned_by w l choices (Some p)).world k) (lane_told k (lines ++ m.lines))
        by_lane (inl this) =
            subst (λ j. IsLaneTold s j (lane_at (turned_by w l choices (Some p)).world j) (lane_told j (lines ++ m.lines))) (sym this)
            (subst (λ (row : LaneRow). IsLaneTold s l row (lane_told l (lines ++ m.lines))) (sym (lane_behind s w l p tell.sound is m))
            (subst (λ j. IsLaneTold s j m.part.lane (lane_told j (lines ++ m.lines))) lane
            (subst (λ (u : LaneTold). IsLaneTold s p.lane m.part.lane u) (sym (fold-append (told_by_line p.lane) _ lines m.lines)) behind.0)))
        by_lane (inr other) =
            subst (λ (row : LaneRow). IsLaneTold s k row (lane_told k (lines ++ m.lines))) (sym (get_or-set_other w.lanes l k m.part.lane new_lane other))
            (subst (λ (u : LaneTold). IsLaneTold s k (lane_at w k) u)
            (sym (fold-append (told_by_line k) _ lines m.lines ∙ behind.1 k (λ same_lane. other (same_lane ∙ lane)) (lane_told k lines)))
            (tell.lanes k))

    -- lines that tell nothing, of an event that leaves the lanes but for their messages
    unsaid : (after : World) → LanesLike after w → (k : ℕ) (new : List Line) → ((u : LaneTold) → fold (told_by_line k) u new ≡ u)
        → IsLaneTold s k (lane_at after k) (lane_told k (lines ++ new))
    unfolding lane_told
    unsaid after like k new none =
        told_like s k (lane_at after k) (lane_at w k) (lane_told k (lines ++ new)) (like.each k)
        (subst (λ (u : LaneTold). IsLaneTold s k (lane_at w k) u) (sym (fold-append (told_by_line k) _ lines new ∙ none (lane_told k lines))) (tell.lanes k))

    settle_tells : (o : Option Settlement) (k : ℕ)
        → IsLaneTold s k (lane_at (settles s w choices o).world k) (lane_told k (lines ++ (settles s w choices o).lines))
    settle_tells None k = unsaid w (settle_like s w choices None) k [] (λ u. refl)
    settle_tells (Some (Opens l)) k = unsaid (settles s w choices (Some (Opens l))).world (settle_like s w choices (Some (Opens l))) k [] (λ u. refl)
    settle_tells (Some (Sends l message drops)) k =
        unsaid (settles s w choices (Some (Sends l message drops))).world (settle_like s w choices (Some (Sends l message drops))) k
        (settle_lines (dialect_of s l) l message _) (λ u. refl)

    audit_tells : (o : Option Check) (k : ℕ) → IsLaneTold s k (lane_at (audits w choices o).world k) (lane_told k (lines ++ (audits w choices o).lines))
    audit_tells None k = unsaid w (audit_like w choices None) k [] (λ u. refl)
    audit_tells (Some (PowersUp i card)) k =
        unsaid (audits w choices (Some (PowersUp i card))).world (audit_like w choices (Some (PowersUp i card))) k (audit_power_line card _ ∷ []) (λ u. refl)
    audit_tells (Some (Asks i card command)) k =
        unsaid (audits w choices (Some (Asks i card command))).world (audit_like w choices (Some (Asks i card command))) k (audit_lines card command _)
        (λ u. refl)

    event_tells : (e : Event) (k : ℕ) → IsLaneTold s k (lane_at (happens s w e choices).world k) (lane_told k (lines ++ (happens s w e choices).lines))
    event_tells (Turn l) k = turn_tells l (next_of s w l) refl k
    event_tells (Settle n) k = settle_tells (slice_get (settlements s w) n) k
    event_tells (Audit n) k = audit_tells (slice_get (checks s) n) k

  tells_next : (w : World) (lines : List Line) (e : Event) (choices : List Bool) → LinesTell s w lines
      → LinesTell s (happens s w e choices).world (lines ++ (happens s w e choices).lines)
  tells_next w lines e choices tell = record { sound = event_sound s w e choices tell.sound; lanes = event_tells w lines choices tell e }

  tells_first : LinesTell s (first_world s) []
  unfolding lane_told
  tells_first = record { sound = first_sound s; lanes = none_told }

pub replies_told : RunsTellReplies
replies_told s place n choices lines w l reached = (reached_lines s (LinesTell s) (tells_first s) (tells_next s) place n choices lines w reached).lanes l

-- the last of a longer list is the new one
pub last_at : {A : Type 0} (xs : List A) (e : A) (k : ℕ) (x : A) → slice_get (xs ++ e ∷ []) k ≡ Some x
    → (slice_get xs k ≡ Some x) ⊎ ((k ≡ length xs) × (e ≡ x))
last_at [] e zero x here = inr (refl, same_Some e x here)
last_at [] e (suc k) x here = cc
last_at (y ∷ ys) e zero x here = inl here
last_at (y ∷ ys) e (suc k) x here =
    elim (last_at ys e k x here) [
      | inl before ↦ inl before
      | inr last ↦ inr (ap (λ n. suc n) last.0, last.1)
    ]

-- an exchange adds to those that have ended at most one, which ends so
abbrev EndsBy : Payment → Past → Type 0
EndsBy p past = ((end : EndData) → past.end ≡ Some end → end_at p past.replies ≡ Some end) × (past.lost ≡ false → is_some past.end ≡ true)

module _ (p : Payment) (part : Part) where
  abbrev Replied : LaneRow → List Reply → CardRow → List (List ℕ) → List Line → Type 0
  Replied lane replies card messages lines = Unit {0}

  abbrev Ends : Part → List Line → Type 0
  Ends after lines =
      (number : ℕ) (past : Past) → slice_get after.lane.ended number ≡ Some past
      → (slice_get part.lane.ended number ≡ Some past) ⊎ ((number ≡ length part.lane.ended) × EndsBy p past)

  -- the purchases that had ended
  were : (lane : LaneRow) → Later part.lane lane → (number : ℕ) (past : Past) → slice_get lane.ended number ≡ Some past
      → slice_get part.lane.ended number ≡ Some past
  were lane later number past here = ap (λ (pasts : List Past). slice_get pasts number) (sym (later_ended part.lane lane later)) ∙ here

  tells_ends : Tells p part Replied Ends
  tells_ends = record {
    still = λ number past here. inl here;
    goes = λ lane later replies card messages lines came number past here. inl (were lane later number past here);
    ends = λ lane later replies card messages lines came end is number past here.
        elim (last_at lane.ended (record { began = lane.began; replies = replies; end = Some end; lost = loses p lane.store end.capture }) number past here) [
          | inl before ↦ inl (were lane later number past before)
          | inr last ↦
              inr (
                last.0 ∙ ap (λ (pasts : List Past). length pasts) (later_ended part.lane lane later),
                subst (λ (x : Past). EndsBy p x) last.1 (λ other same. is ∙ same, λ told. refl),
              )
        ];
    powers = λ rests free apps choice. tt;
    power_cut = λ rests free apps is. tt;
    powers_canned = λ rests free answers canned. tt;
    answers = λ replies runs apps command asks. tt;
    cuts = λ replies runs command cut at. tt;
    tells = λ replies runs answers canned command answer. tt;
    gone = λ replies runs answers canned command. tt;
    hosts = λ replies runs message asks reply is. tt;
  }

  -- one that is lost before it begins has no end record
  lost_ends : (lines : List Line) (after : Part) → after.lane.ended ≡ (lane_lost part.lane).ended → Ends after lines
  lost_ends lines after same number past here =
      elim (last_at part.lane.ended (record { began = None; replies = []; end = None; lost = true }) number past
      (ap (λ (pasts : List Past). slice_get pasts number) (sym same) ∙ here)) [
        | inl before ↦ inl before
        | inr last ↦ inr (last.0, subst (λ (x : Past). EndsBy p x) last.1 (λ other none. cc, λ told. cc))
      ]

module _ (p : Payment) (part : Part) where
  store_ends : StoreTells p part (Replied p part) (Ends p part)
  store_ends = record {
    own = tells_ends p part;
    again = λ one at off. tells_ends p (part_with (opened_to_add part.lane.store one) part);
    opened = λ one at off number past here. inl here;
    lost = λ at cut. lost_ends p part (EndLost p.lane (length part.lane.ended + 1) ∷ []) (record part { lane = lane_lost part.lane }) refl;
    sent = λ at message number past here. inl here;
    sent_lost = λ at message cut.
        lost_ends p part (copy_lines p message part.messages p.copies ++ EndLost p.lane (length part.lane.ended + 1) ∷ []) (record (copied p message part) { lane = lane_lost (lane_copied p message part.lane) }) refl;
  }

abbrev AllEnd : ScenarioData → World → Type 0
AllEnd s w = IsWorldSound s w × ((l number : ℕ) (past : Past) → slice_get (lane_at w l).ended number ≡ Some past → EndsSo s l number past)

module _ (s : ScenarioData) where
  turn_ends : (w : World) (l : ℕ) (choices : List Bool) → AllEnd s w → (o : Option Payment) → next_of s w l ≡ o
      → (k number : ℕ) (past : Past) → slice_get (lane_at (turned_by w l choices o).world k).ended number ≡ Some past → EndsSo s k number past
  turn_ends w l choices all None is k number past here = all.1 k number past here
  turn_ends w l choices all (Some p) is k number past here = by_lane (cases_eq k l)
    where
      part : Part
      part = part_of w l p.planned.card

      m : Moved
      m = lane_piece p part (choice_in choices 0) (choice_in choices 1)

      by_past : (slice_get (lane_at w l).ended number ≡ Some past) ⊎ ((number ≡ length (lane_at w l).ended) × EndsBy p past) → EndsSo s l number past
      by_past (inl before) = all.1 l number past before
      by_past (inr new) = record { payment = p; is = ap (λ n. payment_in s l n) new.0 ∙ is; ends = new.1.0; there = new.1.1 }

      by_lane : (k ≡ l) ⊎ (k ≢ l) → EndsSo s k number past
      by_lane (inl this) =
          subst (λ j. EndsSo s j number past) (sym this)
          (by_past
          (lane_tells p part (Replied p part) (Ends p part) (store_ends p part) (choice_in choices 0) (choice_in choices 1) number past
          (ap (λ (row : LaneRow). slice_get row.ended number) (sym (lane_behind s w l p all.0 is m))
          ∙ ap (λ j. slice_get (lane_at (turned_by w l choices (Some p)).world j).ended number) (sym this)
          ∙ here)))
      by_lane (inr other) =
          all.1 k number past
          (ap (λ (row : LaneRow). slice_get row.ended number) (sym (get_or-set_other w.lanes l k m.part.lane new_lane other)) ∙ here)

  -- lanes that differ in the messages that they made alone
  like_ends : (w after : World) → LanesLike after w → AllEnd s w → (l number : ℕ) (past : Past) → slice_get (lane_at after l).ended number ≡ Some past
      → EndsSo s l number past
  like_ends w after like all l number past here =
      all.1 l number past (ap (λ (row : LaneRow). slice_get row.ended number) (sym (like.each l)) ∙ here)

  event_ends : (w : World) (e : Event) (choices : List Bool) → AllEnd s w → AllEnd s (happens s w e choices).world
  event_ends w e choices all = (event_sound s w e choices all.0, by_event e)
    where
      by_event : (e : Event) (l number : ℕ) (past : Past) → slice_get (lane_at (happens s w e choices).world l).ended number ≡ Some past → EndsSo s l number past
      by_event (Turn k) = turn_ends w k choices all (next_of s w k) refl
      by_event (Settle n) =
          like_ends w (settles s w choices (slice_get (settlements s w) n)).world (settle_like s w choices (slice_get (settlements s w) n)) all
      by_event (Audit n) = like_ends w (audits w choices (slice_get (checks s) n)).world (audit_like w choices (slice_get (checks s) n)) all

  first_ends : AllEnd s (first_world s)
  first_ends = (first_sound s, λ l number past here. absurd (none l number past here))
    where
      none : (l number : ℕ) (past : Past) → slice_get (lane_at (first_world s) l).ended number ≡ Some past → ⊥
      none l number past here =
          let empty : None ≡ Some past = ap (λ (row : LaneRow). slice_get row.ended number) (sym (get_or-map_const s.lanes l new_lane)) ∙ here in cc

pub pasts_end : PastsEnd
pasts_end s place n choices lines w l number past reached here =
    (reached_keeps s (AllEnd s) (first_ends s) (event_ends s) place n choices lines w reached).1 l number past here
