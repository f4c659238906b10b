-- What a lane that keeps its captures durably sends for settlement: each capture of a purchase that wasn't lost, whole and in
-- order.
use Rattle.std.proofs.Common.{◌≡◌, ◌≢◌, ◌⊎◌, ℕ, zero, suc, ◌+◌, ◌-◌, ◌*◌, ◌/◌, ◌%◌, ◌≤◌, ◌<◌, ◌&&◌, cond, Bool, true, false, List, [], ◌∷◌, ◌++◌, length, map, drop, replicate, get_or, slice_get, Option, Some, None, refl, sym, ap, ◌∙◌, subst, inl, inr, arith, append-nil}
use Rattle.std.specs.Prelude.{◌==◌, if◌then◌else◌, is_some, unwrap_or, ℤ}
use Rattle.std.specs.List.{All, Contains, flat_map}
use Rattle.std.proofs.lemmas.Bool.{eq-eqb, cases_eq, cases_lt, cases_order}
use Rattle.std.proofs.lemmas.List.{map-append, append_assoc, get_or-set_same, get_or-set_other}
use Rattle.std.proofs.lemmas.List.Concat.{flat_map-append}
use Rattle.std.proofs.lemmas.List.Elements.{All-nil, All-cons, All-append, All-push, All-weaker, Contains-append_right, Contains-push}
use Rattle.std.proofs.lemmas.Option.{slice_get_within}
use Rattle.std.proofs.Math.Nat.{zero-mod}
use Rattle.capture_store.proofs.Sendings.{store_keeps}
use Rattle.capture_store.specs.Sending.{Caught}
use Rattle.capture_store.specs.StoreRow.{StoreRow, is_next_cut, opened_to_add, opened_to_settle, ended_by}
use Rattle.host_link.specs.Delivery.{delivered}
use Rattle.host_link.specs.Dialect.{call_in}
use Rattle.issuer_host.specs.Account.{AccountData}
use Rattle.issuer_host.specs.History.{host_reply, balance_after}
use Rattle.kernel.specs.Ended.{EndData}
use Rattle.kernel.specs.Reply.{Reply}
use Rattle.report_text.specs.declared.line.Line.{Line}
use Rattle.report_text.specs.declared.line.Line.TheVariants.{EndLost, Done}
use Rattle.scenario_plan.specs.Plan.{ScenarioData}
use Rattle.txn_replay.specs.Captured.{AreAmong, none_came, IsUntorn, captured_by, caught_of, caught_in, settled_told, all_settled_told, IsDelivered, CapturesAreSent}
use Rattle.txn_replay.specs.Lines.{host_lines, settle_lines, outcome_line}
use Rattle.txn_replay.specs.Part.{Part, Moved, loses_by, loses, lane_ended}
use Rattle.txn_replay.specs.Payment.{Payment, payment_in, dialect_of, durable_of, next_of}
use Rattle.txn_replay.specs.Run.{RunPlace, Scheduled, Round, Settling, Auditing, Finished, Reached, start, scheduled, rounds, round, again, settlement, settling, audit, auditing, finished, balance_line, account_lines, ended_count, closing}
use Rattle.txn_replay.specs.Sound.{IsWorldSound}
use Rattle.txn_replay.specs.Steps.{After, Settlement, Opens, Sends, Check, PowersUp, Asks, settlements, settlements_from, lane_settlements, settles, settled_store, lane_settled, checks, audits, part_of, choice_in, turned_by, happens}
use Rattle.txn_replay.specs.Stored.{IsStored, StoredBy, StoresStand, IsThrough, IsSettledTo, IsEmptied}
use Rattle.txn_replay.specs.Storing.{part_with, lane_lost, lane_copied, copied, copy_lines, dropped_by, delivers_first, lane_piece}
use Rattle.txn_replay.specs.World.{Past, LaneRow, CardRow, World, new_lane, first_world, lane_at, with_store}
use Rattle.txn_replay.specs.declared.event.Event.TheVariants.{Turn, Settle, Audit}
use Rattle.txn_replay.proofs.CaptureLaws.ApprovedBooked.{delivered_at}
use Rattle.txn_replay.proofs.CaptureLaws.Arriving.{Stays, nothing_came, all_came, among_both, among_more, contained}
use Rattle.txn_replay.proofs.CaptureLaws.Exactly.{Keeps, keeps_begun, keeps_opened, keeps_added, keeps_dropped}
use Rattle.txn_replay.proofs.ExchangeLaws.ExchangeCases.{Tells, piece_tells}
use Rattle.txn_replay.proofs.RunLaws.FairRuns.{reached_sound}
use Rattle.txn_replay.proofs.RunLaws.LinesReached.{apart, lane_behind}
use Rattle.txn_replay.proofs.Lists.{get_or-map_const, drop_at, found_at, replicate_push, map_replicate}
use Rattle.txn_replay.proofs.ExchangeLaws.PurchaseFacts.{payment_facts}
use Rattle.txn_replay.proofs.SettlementLaws.SettlementPlaces.{StepAt, StoreSends, SendsBy, before_lane, OpensAt, opens_at, sends_at, step_at, plain_step, store_step}
use Rattle.txn_replay.proofs.ExchangeLaws.LaneMessages.{Later, as_is, beginning, messaging}
use Rattle.txn_replay.proofs.SettlementLaws.SettlementSteps.{settles_inside}
use Rattle.txn_replay.proofs.StoreLaws.StoresKept.{stores_stand}
use Rattle.txn_replay.proofs.StoreLaws.StoresEmptied.{steps_in, store_steps, later_lane, through_all, inside_lanes, steps_within, take_set, like_set, of_lane, reached_untouched, comes, goes_through, audit_lanes}
use Rattle.txn_replay.proofs.ExchangeLaws.SixWays.{AtRest, IsOn, Goes, plain, runs, ready, lane_ways}

settled-append : (l : ℕ) (xs ys : List Line) → all_settled_told l (xs ++ ys) ≡ all_settled_told l xs ++ all_settled_told l ys
unfolding all_settled_told
settled-append l xs ys = flat_map-append (settled_told l) xs ys

caught-push : (pasts : List Past) (past : Past) → caught_in (pasts ++ past ∷ []) ≡ caught_in pasts ++ caught_of past
unfolding caught_in
caught-push pasts past =
    flat_map-append caught_of pasts (past ∷ []) ∙ ap (λ (xs : List Caught). flat_map caught_of pasts ++ xs) (append-nil (caught_of past))

settle_told : (iso : Bool) (k lane : ℕ) (message reply : List ℕ)
    → all_settled_told k (settle_lines iso lane message reply) ≡ cond (lane == k) (call_in iso message ∷ []) []
unfolding all_settled_told
settle_told iso k lane message reply = append-nil _

own_settle : (iso : Bool) (lane : ℕ) (message reply : List ℕ) → all_settled_told lane (settle_lines iso lane message reply) ≡ call_in iso message ∷ []
own_settle iso lane message reply =
    settle_told iso lane lane message reply ∙ ap (λ (b : Bool). cond b (call_in iso message ∷ []) []) (eq-eqb lane lane refl)

other_settle : (iso : Bool) (k lane : ℕ) → k ≢ lane → (message reply : List ℕ) → all_settled_told k (settle_lines iso lane message reply) ≡ []
other_settle iso k lane other message reply =
    settle_told iso k lane message reply ∙ ap (λ (b : Bool). cond b (call_in iso message ∷ []) []) (apart k lane other)

-- what is sent and what is kept, where nothing more is sent
abbrev sent_copies : Bool → ℕ → List (List ℕ) → List (List ℕ)
sent_copies iso copies sent = map (call_in iso) (flat_map (replicate copies) sent)

in_copies : (n : ℕ) (message : List ℕ) → 1 ≤ n → Contains (replicate n message) message
in_copies zero message some = absurd (omega arith)
in_copies (suc n) message some = (0, (omega arith), refl)

module _ (Calm : Type 0) (p : Payment) (part : Part) (uncut : Calm → p.planned.terminal_tear ≡ None) where
  -- what more an exchange sends, and what the store keeps behind it
  pub record Behind (after : Part) (lines : List Line) : Type 0 where
    pub more : List (List ℕ)
    pub keeps : p.durable ≡ true → (sent : List (List ℕ)) → Keeps Calm (caught_in part.lane.ended) sent part.lane.store
        → Keeps Calm (caught_in after.lane.ended) (sent ++ more) after.lane.store
    pub told : all_settled_told p.lane lines ≡ sent_copies p.iso p.copies more
    pub others : (k : ℕ) → k ≢ p.lane → all_settled_told k lines ≡ []
    pub stays : Stays part.messages after.messages
    pub came : All (Contains after.messages) more
    pub arrives : (sent : List (List ℕ)) → AreAmong sent part.messages → AreAmong (sent ++ flat_map (replicate p.copies) more) after.messages

  -- nothing more is sent
  none_more : (after : Part) (lines : List Line) → ((k : ℕ) → all_settled_told k lines ≡ []) → Stays part.messages after.messages
      → (p.durable ≡ true → (sent : List (List ℕ)) → Keeps Calm (caught_in part.lane.ended) sent part.lane.store
      → Keeps Calm (caught_in after.lane.ended) sent after.lane.store) → Behind after lines
  none_more after lines untold stays keeps = record {
    more = [];
    keeps = λ on sent kept.
        subst (λ (xs : List (List ℕ)). Keeps Calm (caught_in after.lane.ended) xs after.lane.store) (sym (append-nil sent)) (keeps on sent kept);
    told = untold p.lane;
    others = λ k other. untold k;
    stays = stays;
    came = All-nil (Contains after.messages);
    arrives = λ sent among.
        subst (λ (xs : List (List ℕ)). AreAmong xs after.messages) (sym (append-nil sent)) (among_more sent part.messages after.messages among stays);
  }

  -- lines that tell no settlement message, and what came to the host
  pub record Came (lane : LaneRow) (replies : List Reply) (card : CardRow) (messages : List (List ℕ)) (lines : List Line) : Type 0 where
    pub untold : (k : ℕ) → all_settled_told k lines ≡ []
    pub stays : Stays part.messages messages

  -- nothing came
  nothing_more : (lane : LaneRow) (replies : List Reply) (card : CardRow) (lines : List Line) → ((k : ℕ) → all_settled_told k lines ≡ [])
      → Came lane replies card part.messages lines
  nothing_more lane replies card lines untold = record { untold = untold; stays = nothing_came part.messages }

  later_keeps : (lane : LaneRow) → Later part.lane lane → (sent : List (List ℕ)) → Keeps Calm (caught_in part.lane.ended) sent part.lane.store
      → Keeps Calm (caught_in lane.ended) sent lane.store
  later_keeps _ as_is sent kept = kept
  later_keeps _ (beginning found) sent kept = kept
  later_keeps _ (messaging message) sent kept = kept

  later_lost : (lane : LaneRow) → Later part.lane lane → part.lane.store.lost ≡ None → lane.store.lost ≡ None
  later_lost _ as_is none = none
  later_lost _ (beginning found) none = none
  later_lost _ (messaging message) none = none

  -- a purchase ends, and what it has captured is added
  ended_keeps : (store : StoreRow) (capture : Option (List ℕ)) (caught : List Caught) (sent : List (List ℕ)) → store.lost ≡ None → Keeps Calm caught sent store
      → Keeps Calm (caught ++ captured_by (loses_by p.planned.terminal_tear store capture) capture) sent (ended_by p.planned.terminal_tear store capture)
  ended_keeps store None caught sent none kept = subst (λ (cs : List Caught). Keeps Calm cs sent store) (sym (append-nil caught)) kept
  ended_keeps store (Some message) caught sent none kept = keeps_added Calm caught sent store p.planned.terminal_tear message uncut none kept

  lane_keeps : (lane : LaneRow) (replies : List Reply) (end : EndData) → p.durable ≡ true → lane.store.lost ≡ None → (sent : List (List ℕ))
      → Keeps Calm (caught_in lane.ended) sent lane.store
      → Keeps Calm (caught_in (lane_ended p replies end lane).ended) sent (lane_ended p replies end lane).store
  lane_keeps lane replies end on none sent kept =
      subst (λ (cs : List Caught). Keeps Calm cs sent (lane_ended p replies end lane).store) (sym caught)
      (subst (λ (b : Bool). Keeps Calm (caught_in lane.ended ++ captured_by (b && loses_by p.planned.terminal_tear lane.store end.capture) end.capture) sent
      (if b then ended_by p.planned.terminal_tear lane.store end.capture else lane.store)) (sym on)
      (ended_keeps lane.store end.capture (caught_in lane.ended) sent none kept))
    where
      caught : caught_in (lane_ended p replies end lane).ended
          ≡ caught_in lane.ended ++ captured_by (p.durable && loses_by p.planned.terminal_tear lane.store end.capture) end.capture
      caught = caught-push lane.ended (record { began = lane.began; replies = replies; end = Some end; lost = loses p lane.store end.capture })

  end_untold : (lines : List Line) (lost : Bool) (number : ℕ) (end : EndData) (k : ℕ) → all_settled_told k lines ≡ []
      → all_settled_told k (lines ++ outcome_line lost p.lane number end ∷ []) ≡ []
  unfolding all_settled_told
  end_untold lines true number end k none =
      settled-append k lines (outcome_line true p.lane number end ∷ []) ∙ ap (λ (xs : List (List ℕ)). xs ++ []) none
  end_untold lines false number end k none =
      settled-append k lines (outcome_line false p.lane number end ∷ []) ∙ ap (λ (xs : List (List ℕ)). xs ++ []) none

  host_untold : (message : List ℕ) (reply : Option (List ℕ)) (k : ℕ) → all_settled_told k (host_lines p.iso p.lane message reply) ≡ []
  unfolding all_settled_told
  host_untold message None k = refl
  host_untold message (Some reply) k = refl

  tells_sent : (p.durable ≡ true → part.lane.store.lost ≡ None) → Tells p part Came Behind
  unfolding all_settled_told
  tells_sent none = record {
    still = none_more part [] (λ k. refl) (nothing_came part.messages) (λ on sent kept. kept);
    goes = λ lane later replies card messages lines came.
        none_more (record { lane = record lane { running = Some replies }; card = card; messages = messages }) lines came.untold came.stays
        (λ on sent kept. later_keeps lane later sent kept);
    ends = λ lane later replies card messages lines came end is.
        none_more _ _ (λ k. end_untold lines (loses p lane.store end.capture) (length lane.ended + 1) end k (came.untold k)) came.stays
        (λ on sent kept. lane_keeps lane replies end on (later_lost lane later (none on)) sent (later_keeps lane later sent kept));
    powers = λ rests free apps choice. nothing_more _ _ _ _ (λ k. refl);
    power_cut = λ rests free apps is. nothing_more _ _ _ _ (λ k. refl);
    powers_canned = λ rests free answers canned. nothing_more _ _ _ _ (λ k. refl);
    answers = λ replies runs apps command asks. nothing_more _ _ _ _ (λ k. refl);
    cuts = λ replies runs command cut at. nothing_more _ _ _ _ (λ k. refl);
    tells = λ replies runs answers canned command answer. nothing_more _ _ _ _ (λ k. refl);
    gone = λ replies runs answers canned command. nothing_more _ _ _ _ (λ k. refl);
    hosts = λ replies runs message asks reply is. record {
      untold = host_untold message reply;
      stays = (delivered p.planned.link message, refl);
    };
  }

  copies_told : (message : List ℕ) (messages : List (List ℕ)) (n : ℕ)
      → all_settled_told p.lane (copy_lines p message messages n) ≡ replicate n (call_in p.iso message)
  unfolding all_settled_told
  copies_told message messages zero = refl
  copies_told message messages (suc n) =
      let reply : List ℕ = host_reply p.issuer p.accounts (messages ++ replicate n message) message in
      settled-append p.lane (copy_lines p message messages n) (settle_lines p.iso p.lane message reply)
      ∙ ap (λ (xs : List (List ℕ)). xs ++ all_settled_told p.lane (settle_lines p.iso p.lane message reply)) (copies_told message messages n)
      ∙ ap (λ (xs : List (List ℕ)). replicate n (call_in p.iso message) ++ xs) (own_settle p.iso p.lane message reply)
      ∙ replicate_push n (call_in p.iso message)

  copies_untold : (k : ℕ) → k ≢ p.lane → (message : List ℕ) (messages : List (List ℕ)) (n : ℕ) → all_settled_told k (copy_lines p message messages n) ≡ []
  unfolding all_settled_told
  copies_untold k other message messages zero = refl
  copies_untold k other message messages (suc n) =
      let reply : List ℕ = host_reply p.issuer p.accounts (messages ++ replicate n message) message in
      settled-append k (copy_lines p message messages n) (settle_lines p.iso p.lane message reply)
      ∙ ap (λ (xs : List (List ℕ)). xs ++ all_settled_told k (settle_lines p.iso p.lane message reply)) (copies_untold k other message messages n)
      ∙ other_settle p.iso k p.lane other message reply

  -- the copies of one message
  one_told : (message : List ℕ) → replicate p.copies (call_in p.iso message) ≡ sent_copies p.iso p.copies (message ∷ [])
  one_told message =
      sym (map_replicate (call_in p.iso) p.copies message) ∙ ap (map (call_in p.iso)) (sym (append-nil (replicate p.copies message)))

  -- a lost purchase has caught nothing
  lost_caught : caught_in (lane_lost part.lane).ended ≡ caught_in part.lane.ended
  lost_caught =
      caught-push part.lane.ended (record { began = None; replies = []; end = None; lost = true }) ∙ append-nil (caught_in part.lane.ended)

  lost_untold : (lines : List Line) (k : ℕ) → all_settled_told k (lines ++ EndLost p.lane (length part.lane.ended + 1) ∷ []) ≡ all_settled_told k lines
  unfolding all_settled_told
  lost_untold lines k =
      settled-append k lines (EndLost p.lane (length part.lane.ended + 1) ∷ []) ∙ append-nil (all_settled_told k lines)

module _ (Calm : Type 0) (p : Payment) (part : Part) (uncut : Calm → p.planned.terminal_tear ≡ None) (some : 1 ≤ p.copies) (stored : p.durable ≡ true → IsStored part.lane) (first : part.lane.store.found ≡ None) where
  -- with what comes before a purchase
  opened_keeps : (one : Bool) (sent : List (List ℕ)) → Keeps Calm (caught_in part.lane.ended) sent part.lane.store
      → Keeps Calm (caught_in part.lane.ended) sent (opened_to_add part.lane.store one)
  opened_keeps one sent kept = keeps_opened Calm (caught_in part.lane.ended) sent part.lane.store one kept

  lane_sends : (one other : Bool) → Behind Calm p part uncut (lane_piece p part one other).part (lane_piece p part one other).lines
  unfolding all_settled_told
  lane_sends one other =
      lane_ways (λ m. Behind Calm p part uncut m.part m.lines) p part
      (none_more Calm p part uncut part [] (λ k. refl) (nothing_came part.messages) (λ on sent kept. kept))
      (λ choice so. piece_tells p part (Came Calm p part uncut) (Behind Calm p part uncut) (tells_sent Calm p part uncut (unlost so)) choice)
      (λ at off cut.
      none_more Calm p part uncut (record part { lane = lane_lost part.lane }) _ (λ k. lost_untold Calm p part uncut [] k) (nothing_came part.messages)
      (λ on sent kept. subst (λ (cs : List Caught). Keeps Calm cs sent part.lane.store) (sym (lost_caught Calm p part uncut)) kept))
      (λ choice at off full.
      none_more Calm p part uncut (part_with (opened_to_add part.lane.store choice) part) [] (λ k. refl) (nothing_came part.messages)
      (λ on sent kept. opened_keeps choice sent kept))
      (λ choice second at off room.
      (let behind = piece_tells p (part_with (opened_to_add part.lane.store choice) part) (Came Calm p (part_with (opened_to_add part.lane.store choice) part) uncut)
      (Behind Calm p (part_with (opened_to_add part.lane.store choice) part) uncut) (tells_sent Calm p (part_with (opened_to_add part.lane.store choice) part) uncut (λ on. refl)) second in
      record {
        more = behind.more;
        keeps = λ on sent kept. behind.keeps on sent (opened_keeps choice sent kept);
        told = behind.told;
        others = behind.others;
        stays = behind.stays;
        came = behind.came;
        arrives = behind.arrives;
      }))
      (λ at on. first_delivered at on part.lane.store.list refl)
      one other
    where
      unlost : Goes p part → p.durable ≡ true → part.lane.store.lost ≡ None
      unlost (plain none) on = (let never : true ≡ false = sym on ∙ none in cc)
      unlost (runs is replies ran) on = ((stored on).clean ((stored on).opens (ap is_some ran))).none
      unlost (ready at is_on) on = ((stored on).clean (ap is_some is_on.on)).none

      first_delivered : AtRest p part → IsOn part true → (list : List (List ℕ)) → part.lane.store.list ≡ list
          → Behind Calm p part uncut (delivers_first p part list).part (delivers_first p part list).lines
      first_delivered at on [] is = none_more Calm p part uncut part [] (λ k. refl) (nothing_came part.messages) (λ durable sent kept. kept)
      first_delivered at on (message ∷ others) is = by (is_next_cut p.planned.terminal_tear part.lane.store)
        where
          none : part.lane.store.lost ≡ None
          none = ((stored at.durable).clean (ap is_some on.on)).none

          dropped : (sent : List (List ℕ)) → Keeps Calm (caught_in part.lane.ended) sent part.lane.store
              → Keeps Calm (caught_in part.lane.ended) (sent ++ message ∷ []) (lane_copied p message part.lane).store
          dropped sent kept = keeps_dropped Calm (caught_in part.lane.ended) sent part.lane.store p.planned.terminal_tear message others uncut none is kept

          stays : Stays part.messages (part.messages ++ replicate p.copies message)
          stays = (replicate p.copies message, refl)

          in_messages : All (Contains (part.messages ++ replicate p.copies message)) (message ∷ [])
          in_messages =
              All-cons (Contains (part.messages ++ replicate p.copies message)) message []
              (Contains-append_right part.messages (replicate p.copies message) message (in_copies p.copies message some))
              (All-nil (Contains (part.messages ++ replicate p.copies message)))

          arrives : (sent : List (List ℕ)) → AreAmong sent part.messages → AreAmong (sent ++ flat_map (replicate p.copies) (message ∷ [])) (part.messages ++ replicate p.copies message)
          arrives sent among =
              subst (λ (xs : List (List ℕ)). AreAmong (sent ++ xs) (part.messages ++ replicate p.copies message)) (sym (append-nil (replicate p.copies message)))
              (among_both among (all_came (replicate p.copies message)))

          by : (cut : Bool) → Behind Calm p part uncut (dropped_by p (copied p message part) (copy_lines p message part.messages p.copies) cut).part
              (dropped_by p (copied p message part) (copy_lines p message part.messages p.copies) cut).lines
          by true = record {
            more = message ∷ [];
            keeps = λ durable sent kept.
                subst (λ (cs : List Caught). Keeps Calm cs (sent ++ message ∷ []) (lane_copied p message part.lane).store) (sym (lost_caught Calm p part uncut)) (dropped sent kept);
            told = lost_untold Calm p part uncut (copy_lines p message part.messages p.copies) p.lane ∙ copies_told Calm p part uncut message part.messages p.copies ∙ one_told Calm p part uncut message;
            others = λ k other.
                lost_untold Calm p part uncut (copy_lines p message part.messages p.copies) k ∙ copies_untold Calm p part uncut k other message part.messages p.copies;
            stays = stays;
            came = in_messages;
            arrives = arrives;
          }
          by false = record {
            more = message ∷ [];
            keeps = λ durable sent kept. dropped sent kept;
            told = copies_told Calm p part uncut message part.messages p.copies ∙ one_told Calm p part uncut message;
            others = λ k other. copies_untold Calm p part uncut k other message part.messages p.copies;
            stays = stays;
            came = in_messages;
            arrives = arrives;
          }

-- so many copies of the first message were sent before it is dropped
abbrev partial : ℕ → List (List ℕ) → List (List ℕ)
partial n [] = []
partial n (message ∷ others) = replicate n message

none_partial : (list : List (List ℕ)) → partial 0 list ≡ []
none_partial [] = refl
none_partial (message ∷ others) = refl

-- beside those that were sent whole
abbrev extra : ScenarioData → World → ℕ → RunPlace → List (List ℕ)
extra s w l (Scheduled k) = []
extra s w l (Round k) = []
extra s w l (Settling k) = partial ((k - before_lane s w l - 1) % s.copies) (lane_at w l).store.list
extra s w l (Auditing k) = []
extra s w l Finished = []

-- the store keeps what was caught and not sent yet, and the lines tell what was sent, which came to the host
pub record IsKept (s : ScenarioData) (w : World) (lines : List Line) (l : ℕ) (extras : List (List ℕ)) : Type 0 where
  pub sent : List (List ℕ)
  pub keeps : Keeps (IsUntorn s l) (caught_in (lane_at w l).ended) sent (lane_at w l).store
  pub told : all_settled_told l lines ≡ map (call_in (dialect_of s l)) (flat_map (replicate s.copies) sent ++ extras)
  pub came : All (Contains w.messages) sent
  pub arrived : AreAmong (flat_map (replicate s.copies) sent ++ extras) w.messages

module _ (s : ScenarioData) (l : ℕ) (on : durable_of s l ≡ true) where
  -- with lines that tell nothing more of it, and a row that keeps the same
  quiet : (w after : World) (lines new : List Line) (extras later : List (List ℕ)) → all_settled_told l new ≡ [] → extras ≡ later
      → Stays w.messages after.messages
      → ((sent : List (List ℕ)) → Keeps (IsUntorn s l) (caught_in (lane_at w l).ended) sent (lane_at w l).store
      → Keeps (IsUntorn s l) (caught_in (lane_at after l).ended) sent (lane_at after l).store)
      → IsKept s w lines l extras → IsKept s after (lines ++ new) l later
  quiet w after lines new extras later none same stays keeps kept = record {
    sent = kept.sent;
    keeps = keeps kept.sent kept.keeps;
    told =
        settled-append l lines new
        ∙ ap (λ (xs : List (List ℕ)). all_settled_told l lines ++ xs) none
        ∙ append-nil (all_settled_told l lines)
        ∙ kept.told
        ∙ ap (λ (xs : List (List ℕ)). map (call_in (dialect_of s l)) (flat_map (replicate s.copies) kept.sent ++ xs)) same;
    came = All-weaker (Contains w.messages) (Contains after.messages) (contained w.messages after.messages stays) kept.sent kept.came;
    arrived =
        subst (λ (xs : List (List ℕ)). AreAmong (flat_map (replicate s.copies) kept.sent ++ xs) after.messages) same
        (among_more (flat_map (replicate s.copies) kept.sent ++ extras) w.messages after.messages kept.arrived stays);
  }

  turn_keeps : 1 ≤ s.copies → (w : World) (lines : List Line) (k : ℕ) (choices : List Bool) → IsWorldSound s w → StoresStand s w → (o : Option Payment) → next_of s w k ≡ o
      → ((i : ℕ) → (lane_at w i).store.found ≡ None) → IsKept s w lines l []
      → IsKept s (turned_by w k choices o).world (lines ++ (turned_by w k choices o).lines) l []
  unfolding all_settled_told
  turn_keeps some w lines k choices sound stand None is first kept = quiet w w lines [] [] [] refl refl (nothing_came w.messages) (λ sent keeps. keeps) kept
  turn_keeps some w lines k choices sound stand (Some p) is first kept = by_lane (cases_eq l k)
    where
      part : Part
      part = part_of w k p.planned.card

      m : Moved
      m = lane_piece p part (choice_in choices 0) (choice_in choices 1)

      after : World
      after = (turned_by w k choices (Some p)).world

      lane : p.lane ≡ k
      lane = (payment_facts s k _ p is).lane

      stored : p.durable ≡ true → IsStored part.lane
      stored durable =
          subst (λ (b : Bool). StoredBy b (lane_at w k)) (sym (payment_facts s k _ p is).durable ∙ durable) (stand.lanes k)

      some_here : 1 ≤ p.copies
      some_here = let same : p.copies ≡ s.copies = (payment_facts s k _ p is).copies in omega arith

      behind_where : (Calm : Type 0) (uncut : Calm → p.planned.terminal_tear ≡ None) → Behind Calm p part uncut m.part m.lines
      behind_where Calm uncut = lane_sends Calm p part uncut some_here stored (first k) (choice_in choices 0) (choice_in choices 1)

      -- the lane's own exchange
      own : l ≡ k → IsKept s after (lines ++ m.lines) l []
      own same =
          let uncut : IsUntorn s l → p.planned.terminal_tear ≡ None = λ untorn. untorn (length (lane_at w k).ended) p (ap (λ n. payment_in s n (length (lane_at w k).ended)) same ∙ is) in
          let behind : Behind (IsUntorn s l) p part uncut m.part m.lines = behind_where (IsUntorn s l) uncut in
          let durable : p.durable ≡ true = (payment_facts s k _ p is).durable ∙ ap (λ n. durable_of s n) (sym same) ∙ on in
          let row : lane_at after l ≡ m.part.lane = ap (λ n. lane_at after n) same ∙ lane_behind s w k p sound is m in
          let was : lane_at w l ≡ lane_at w k = ap (λ n. lane_at w n) same in
          let iso : p.iso ≡ dialect_of s l = (payment_facts s k _ p is).iso ∙ ap (λ n. dialect_of s n) (sym same) in
          let copies : p.copies ≡ s.copies = (payment_facts s k _ p is).copies in
          let here : p.lane ≡ l = lane ∙ sym same in
          let more : all_settled_told l m.lines ≡ sent_copies (dialect_of s l) s.copies behind.more =
          ap (λ n. all_settled_told n m.lines) (sym here) ∙ behind.told ∙ (λ i. sent_copies (iso i) (copies i) behind.more) in
          record {
            sent = kept.sent ++ behind.more;
            keeps = subst (λ (x : LaneRow). Keeps (IsUntorn s l) (caught_in x.ended) (kept.sent ++ behind.more) x.store) (sym row)
                (behind.keeps durable kept.sent (subst (λ (x : LaneRow). Keeps (IsUntorn s l) (caught_in x.ended) kept.sent x.store) was kept.keeps));
            told =
                settled-append l lines m.lines
                ∙ (λ i. kept.told i ++ more i)
                ∙ sym (map-append (call_in (dialect_of s l)) (flat_map (replicate s.copies) kept.sent ++ []) (flat_map (replicate s.copies) behind.more))
                ∙ ap (map (call_in (dialect_of s l)))
                (ap (λ (xs : List (List ℕ)). xs ++ flat_map (replicate s.copies) behind.more) (append-nil (flat_map (replicate s.copies) kept.sent))
                ∙ sym (flat_map-append (replicate s.copies) kept.sent behind.more)
                ∙ sym (append-nil (flat_map (replicate s.copies) (kept.sent ++ behind.more))));
            came =
                All-append (Contains m.part.messages) kept.sent behind.more
                (All-weaker (Contains w.messages) (Contains m.part.messages) (contained w.messages m.part.messages behind.stays) kept.sent kept.came) behind.came;
            arrived =
                subst (λ (xs : List (List ℕ)). AreAmong xs m.part.messages)
                ((λ i. (flat_map (replicate s.copies) kept.sent ++ []) ++ flat_map (replicate (copies i)) behind.more)
                ∙ ap (λ (xs : List (List ℕ)). xs ++ flat_map (replicate s.copies) behind.more) (append-nil (flat_map (replicate s.copies) kept.sent))
                ∙ sym (flat_map-append (replicate s.copies) kept.sent behind.more)
                ∙ sym (append-nil (flat_map (replicate s.copies) (kept.sent ++ behind.more))))
                (behind.arrives (flat_map (replicate s.copies) kept.sent ++ []) kept.arrived);
          }

      by_lane : (l ≡ k) ⊎ (l ≢ k) → IsKept s after (lines ++ m.lines) l []
      by_lane (inl same) = own same
      by_lane (inr other) =
          let behind : Behind ⊥ p part (λ never. absurd never) m.part m.lines = behind_where ⊥ (λ never. absurd never) in
          quiet w after lines m.lines [] [] (behind.others l (λ same. other (same ∙ lane))) refl behind.stays
          (λ sent keeps.
          subst (λ (x : LaneRow). Keeps (IsUntorn s l) (caught_in x.ended) sent x.store) (sym (get_or-set_other w.lanes k l m.part.lane new_lane other)) keeps) kept

-- a step of an earlier lane comes before this one's
steps_before : (s : ScenarioData) (w : World) (m k : ℕ) (at : Settlement) → StepAt s w k m at → (l : ℕ) → m < l → m < length w.lanes → k < before_lane s w l
steps_before s w m k at step l behind within =
    let own : step.offset < steps_in s w m = steps_within s w m k at step in omega (arith, step.is, own, later_lane s w m l within behind)

-- lines that tell no settlement message
untold_none : (l : ℕ) → all_settled_told l [] ≡ []
unfolding all_settled_told
untold_none l = refl

untold_done : (l count : ℕ) → all_settled_told l (Done count ∷ []) ≡ []
unfolding all_settled_told
untold_done l count = refl

untold_balance : (l : ℕ) (pan : List ℕ) (o : Option ℤ) → all_settled_told l (balance_line pan o) ≡ []
unfolding all_settled_told
untold_balance l pan None = refl
untold_balance l pan (Some amount) = refl

module _ (s : ScenarioData) (l : ℕ) (on : durable_of s l ≡ true) (some : 1 ≤ s.copies) where
  abbrev call : List ℕ → List ℕ
  call message = call_in (dialect_of s l) message

  -- a step of another lane: this one's are all made, or none is
  other_step : (w after : World) (k : ℕ) (at : Settlement) (found : (m : ℕ) × StepAt s w k m at) → l ≢ found.0 → IsWorldSound s w → IsSettledTo s w k → IsSettledTo s after (k + 1)
      → lane_at after l ≡ lane_at w l → extra s w l (Settling k) ≡ extra s after l (Settling (k + 1))
  other_step w after k at found differs sound through next row =
      elim (cases_order l found.0) [
        | inl same ↦ absurd (differs same)
        | inr (inl below) ↦ done below
        | inr (inr behind) ↦ not_yet behind
      ]
    where
      inside : l < length w.lanes
      inside = inside_lanes s some w l sound on

      within : found.0 < length w.lanes
      within = slice_get_within w.lanes found.0 (lane_at w found.0) found.1.inside

      done : l < found.0 → extra s w l (Settling k) ≡ extra s after l (Settling (k + 1))
      done below =
          let made : before_lane s w l + steps_in s w l ≤ k = omega (arith, found.1.is, later_lane s w l found.0 inside below) in
          let count : steps_in s w l ≡ 1 + s.copies * length (unwrap_or (lane_at w l).store.found []) = store_steps s w l some on in
          let reached : IsThrough (lane_at w l).store s.copies (k - before_lane s w l - 1) = through.behind l on (omega (arith, made, count)) in
          let product : s.copies * length (unwrap_or (lane_at w l).store.found []) ≡ s.copies * length reached.found =
          ap (λ (o : Option (List (List ℕ))). s.copies * length (unwrap_or o [])) reached.is in
          let empty : (lane_at w l).store.list ≡ [] =
          through_all (lane_at w l).store s.copies (k - before_lane s w l - 1) some reached (omega (arith, made, count, product)) in
          ap (λ (list : List (List ℕ)). partial ((k - before_lane s w l - 1) % s.copies) list) empty
          ∙ sym (ap (λ (list : List (List ℕ)). partial ((k + 1 - before_lane s after l - 1) % s.copies) list) (ap (λ (x : LaneRow). x.store.list) row ∙ empty))

      before_it : k < before_lane s w l → found.0 < l → k + 1 ≤ before_lane s after l
      before_it early behind =
          elim (cases_lt (before_lane s after l) (k + 1)) [
            | inl started ↦
                (let none : (lane_at w l).store.found ≡ None = (through.before l on (omega (arith, early))).none in
                let reached : IsThrough (lane_at after l).store s.copies (k + 1 - before_lane s after l - 1) = next.behind l on started in
                let both : None ≡ Some reached.found = sym none ∙ ap (λ (x : LaneRow). x.store.found) (sym row) ∙ reached.is in cc)
            | inr later ↦ later
          ]

      not_yet : found.0 < l → extra s w l (Settling k) ≡ extra s after l (Settling (k + 1))
      not_yet behind =
          let early : k < before_lane s w l = early_so in
          let zero_now : k - before_lane s w l - 1 ≡ 0 = omega (arith, early) in
          let zero_next : k + 1 - before_lane s after l - 1 ≡ 0 = omega (arith, before_it early behind) in
          ap (λ n. partial (n % s.copies) (lane_at w l).store.list) zero_now
          ∙ ap (λ n. partial n (lane_at w l).store.list) (zero-mod s.copies)
          ∙ none_partial (lane_at w l).store.list
          ∙ sym (ap (λ n. partial (n % s.copies) (lane_at after l).store.list) zero_next
          ∙ ap (λ n. partial n (lane_at after l).store.list) (zero-mod s.copies)
          ∙ none_partial (lane_at after l).store.list)
        where
          early_so : k < before_lane s w l
          early_so = steps_before s w found.0 k at found.1 l behind within

  -- the lane of an opening
  opens_lane : (w : World) (k n m : ℕ) → StepAt s w k n (Opens m) → m ≡ n
  opens_lane w k n m step = by (durable_of s n) step.inner
    where
      by : (durable : Bool) → slice_get (lane_settlements s.copies n (lane_at w n) durable) step.offset ≡ Some (Opens m) → m ≡ n
      by false inner = absurd (plain_step s.copies n (lane_at w n) step.offset (Opens m) inner)
      by true inner = (store_step s.copies n (lane_at w n) step.offset (Opens m) some inner).0

  by_step : (ls new : List Line) (v' : World) (happened : After) → new ≡ happened.lines → v' ≡ happened.world → (extras : List (List ℕ))
      → IsKept s happened.world (ls ++ happened.lines) l extras → IsKept s v' (ls ++ new) l extras
  by_step ls new v' happened made leads extras kept =
      subst (λ (x : World). IsKept s x (ls ++ new) l extras) (sym leads)
      (subst (λ (xs : List Line). IsKept s happened.world (ls ++ xs) l extras) (sym made) kept)

  -- the opening of its store
  opens_kept : (w : World) (lines : List Line) (k : ℕ) (choices : List Bool) → slice_get (settlements s w) k ≡ Some (Opens l)
      → IsKept s w lines l (extra s w l (Settling k))
      → IsKept s (settles s w choices (Some (Opens l))).world (lines ++ []) l (extra s (settles s w choices (Some (Opens l))).world l (Settling (k + 1)))
  unfolding all_settled_told
  opens_kept w lines k choices here kept =
      quiet s l on w after lines [] (extra s w l (Settling k)) (extra s after l (Settling (k + 1))) refl (none_now ∙ sym none_next) (nothing_came w.messages)
      (λ sent keeps.
      subst (λ (x : LaneRow). Keeps (IsUntorn s l) (caught_in x.ended) sent x.store) (sym own)
      (keeps_opened (IsUntorn s l) (caught_in (lane_at w l).ended) sent (lane_at w l).store (choice_in choices 0) keeps)) kept
    where
      row : LaneRow
      row = with_store (opened_to_settle (lane_at w l).store (choice_in choices 0)) (lane_at w l)

      after : World
      after = (settles s w choices (Some (Opens l))).world

      at : OpensAt s w k l
      at = opens_at s w k l some here

      own : lane_at after l ≡ row
      own = get_or-set_same w.lanes l row new_lane (settles_inside s w.lanes k (Opens l) here)

      same_before : before_lane s after l ≡ before_lane s w l
      same_before = ap (λ rows. length (settlements_from s 0 rows)) (take_set w.lanes l l row (omega arith))

      none_now : extra s w l (Settling k) ≡ []
      none_now =
          let zero_is : k - before_lane s w l - 1 ≡ 0 = omega (arith, at.is) in
          ap (λ n. partial (n % s.copies) (lane_at w l).store.list) zero_is ∙ ap (λ n. partial n (lane_at w l).store.list) (zero-mod s.copies)
          ∙ none_partial (lane_at w l).store.list

      none_next : extra s after l (Settling (k + 1)) ≡ []
      none_next =
          let zero_is : k + 1 - before_lane s after l - 1 ≡ 0 = omega (arith, at.is, same_before) in
          ap (λ n. partial (n % s.copies) (lane_at after l).store.list) zero_is ∙ ap (λ n. partial n (lane_at after l).store.list) (zero-mod s.copies)
          ∙ none_partial (lane_at after l).store.list

  -- a copy of its first message
  sends_kept : (w : World) (lines : List Line) (k : ℕ) (message reply : List ℕ) (drops : Bool) → slice_get (settlements s w) k ≡ Some (Sends l message drops)
      → IsSettledTo s w k → IsKept s w lines l (extra s w l (Settling k))
      → IsKept s (settles s w [] (Some (Sends l message drops))).world (lines ++ settle_lines (dialect_of s l) l message reply) l
      (extra s (settles s w [] (Some (Sends l message drops))).world l (Settling (k + 1)))
  sends_kept w lines k message reply drops here through kept = by drops refl
    where
      after : World
      after = (settles s w [] (Some (Sends l message drops))).world

      sends : StoreSends s w k l message drops
      sends = subst (λ (b : Bool). SendsBy s w k l message drops b) on (sends_at s w k l message drops some here)

      reached : IsThrough (lane_at w l).store s.copies (k - before_lane s w l - 1)
      reached = through.behind l on (omega (arith, sends.is))

      place_is : k - before_lane s w l - 1 ≡ sends.place
      place_is = omega (arith, sends.is)

      list_is : (lane_at w l).store.list ≡ message ∷ drop (sends.place / s.copies + 1) reached.found
      list_is =
          reached.list ∙ ap (λ n. drop (n / s.copies) reached.found) place_is
          ∙ drop_at reached.found (sends.place / s.copies) message
          (ap (λ (o : Option (List (List ℕ))). slice_get (unwrap_or o []) (sends.place / s.copies)) (sym reached.is) ∙ sends.in_it.there)

      own : lane_at after l ≡ lane_settled message drops (lane_at w l)
      own = get_or-set_same w.lanes l (lane_settled message drops (lane_at w l)) new_lane (settles_inside s w.lanes k (Sends l message drops) here)

      found_stays : (b : Bool) → (settled_store b (lane_at w l).store).found ≡ (lane_at w l).store.found
      found_stays true = refl
      found_stays false = refl

      same_before : before_lane s after l ≡ before_lane s w l
      same_before = ap (λ xs. length xs) (like_set s 0 w.lanes l l (lane_settled message drops (lane_at w l)) refl (found_stays drops))

      next_place : k + 1 - before_lane s after l - 1 ≡ sends.place + 1
      next_place = omega (arith, sends.is, same_before)

      now : extra s w l (Settling k) ≡ replicate (sends.place % s.copies) message
      now =
          ap (λ n. partial (n % s.copies) (lane_at w l).store.list) place_is
          ∙ ap (λ (list : List (List ℕ)). partial (sends.place % s.copies) list) list_is

      -- one copy more is told
      one_more_told : all_settled_told l (lines ++ settle_lines (dialect_of s l) l message reply)
          ≡ map call (flat_map (replicate s.copies) kept.sent ++ replicate (suc (sends.place % s.copies)) message)
      one_more_told =
          settled-append l lines (settle_lines (dialect_of s l) l message reply)
          ∙ (λ i. kept.told i ++ own_settle (dialect_of s l) l message reply i)
          ∙ ap (λ (xs : List (List ℕ)). map call (flat_map (replicate s.copies) kept.sent ++ xs) ++ map call (message ∷ [])) now
          ∙ sym (map-append call (flat_map (replicate s.copies) kept.sent ++ replicate (sends.place % s.copies) message) (message ∷ []))
          ∙ ap (map call) (append_assoc (flat_map (replicate s.copies) kept.sent) (replicate (sends.place % s.copies) message) (message ∷ [])
          ∙ ap (λ (xs : List (List ℕ)). flat_map (replicate s.copies) kept.sent ++ xs) (replicate_push (sends.place % s.copies) message))

      in_messages : All (Contains after.messages) kept.sent
      in_messages =
          All-weaker (Contains w.messages) (Contains after.messages) (contained w.messages after.messages (message ∷ [], refl)) kept.sent
          kept.came

      -- and has come
      one_more_came : AreAmong (flat_map (replicate s.copies) kept.sent ++ replicate (suc (sends.place % s.copies)) message) after.messages
      one_more_came =
          subst (λ (xs : List (List ℕ)). AreAmong xs after.messages)
          (append_assoc (flat_map (replicate s.copies) kept.sent) (replicate (sends.place % s.copies) message) (message ∷ [])
          ∙ ap (λ (xs : List (List ℕ)). flat_map (replicate s.copies) kept.sent ++ xs) (replicate_push (sends.place % s.copies) message))
          (among_both (subst (λ (xs : List (List ℕ)). AreAmong (flat_map (replicate s.copies) kept.sent ++ xs) w.messages) now kept.arrived) (all_came (message ∷ [])))

      by : (b : Bool) → drops ≡ b → IsKept s after (lines ++ settle_lines (dialect_of s l) l message reply) l (extra s after l (Settling (k + 1)))
      by false is = record {
        sent = kept.sent;
        keeps = subst (λ (x : LaneRow). Keeps (IsUntorn s l) (caught_in x.ended) kept.sent x.store) (sym own)
            (subst (λ (c : Bool). Keeps (IsUntorn s l) (caught_in (lane_at w l).ended) kept.sent (settled_store c (lane_at w l).store)) (sym is) kept.keeps);
        told = one_more_told ∙ ap (λ (xs : List (List ℕ)). map call (flat_map (replicate s.copies) kept.sent ++ xs)) (sym next);
        came = in_messages;
        arrived = subst (λ (xs : List (List ℕ)). AreAmong (flat_map (replicate s.copies) kept.sent ++ xs) after.messages) (sym next) one_more_came;
      }
        where
          list_next : (lane_at after l).store.list ≡ message ∷ drop (sends.place / s.copies + 1) reached.found
          list_next = ap (λ (x : LaneRow). x.store.list) own ∙ ap (λ (c : Bool). (settled_store c (lane_at w l).store).list) is ∙ list_is

          count : (sends.place + 1) % s.copies ≡ suc (sends.place % s.copies)
          count =
              sends.in_it.rest ∙ ap (λ (c : Bool). if c then 0 else sends.place % s.copies + 1) is
              ∙ (let e : sends.place % s.copies + 1 ≡ suc (sends.place % s.copies) = omega arith in e)

          next : extra s after l (Settling (k + 1)) ≡ replicate (suc (sends.place % s.copies)) message
          next =
              ap (λ n. partial (n % s.copies) (lane_at after l).store.list) next_place
              ∙ ap (λ (list : List (List ℕ)). partial ((sends.place + 1) % s.copies) list) list_next
              ∙ ap (λ n. replicate n message) count
      by true is = record {
        sent = kept.sent ++ message ∷ [];
        keeps = subst (λ (x : LaneRow). Keeps (IsUntorn s l) (caught_in x.ended) (kept.sent ++ message ∷ []) x.store) (sym own)
            (subst (λ (c : Bool). Keeps (IsUntorn s l) (caught_in (lane_at w l).ended) (kept.sent ++ message ∷ []) (settled_store c (lane_at w l).store)) (sym is)
            (keeps_dropped (IsUntorn s l) (caught_in (lane_at w l).ended) kept.sent (lane_at w l).store None message (drop (sends.place / s.copies + 1) reached.found)
            (λ untorn. refl) reached.none list_is kept.keeps));
        told =
            one_more_told
            ∙ ap (λ n. map call (flat_map (replicate s.copies) kept.sent ++ replicate n message)) whole
            ∙ ap (map call) (sym sent_so ∙ sym (append-nil (flat_map (replicate s.copies) (kept.sent ++ message ∷ []))))
            ∙ ap (λ (xs : List (List ℕ)). map call (flat_map (replicate s.copies) (kept.sent ++ message ∷ []) ++ xs)) (sym next);
        came = All-push (Contains after.messages) kept.sent message in_messages (Contains-push w.messages message);
        arrived =
            subst (λ (xs : List (List ℕ)). AreAmong xs after.messages)
            (ap (λ n. flat_map (replicate s.copies) kept.sent ++ replicate n message) whole
            ∙ sym sent_so ∙ sym (append-nil (flat_map (replicate s.copies) (kept.sent ++ message ∷ [])))
            ∙ ap (λ (xs : List (List ℕ)). flat_map (replicate s.copies) (kept.sent ++ message ∷ []) ++ xs) (sym next)) one_more_came;
      }
        where
          whole : suc (sends.place % s.copies) ≡ s.copies
          whole = (let e : suc (sends.place % s.copies) ≡ sends.place % s.copies + 1 = omega arith in e) ∙ sends.in_it.whole is

          sent_so : flat_map (replicate s.copies) (kept.sent ++ message ∷ []) ≡ flat_map (replicate s.copies) kept.sent ++ replicate s.copies message
          sent_so =
              flat_map-append (replicate s.copies) kept.sent (message ∷ [])
              ∙ ap (λ (xs : List (List ℕ)). flat_map (replicate s.copies) kept.sent ++ xs) (append-nil (replicate s.copies message))

          next : extra s after l (Settling (k + 1)) ≡ []
          next =
              ap (λ n. partial (n % s.copies) (lane_at after l).store.list) next_place
              ∙ ap (λ n. partial n (lane_at after l).store.list) (sends.in_it.rest ∙ ap (λ (c : Bool). if c then 0 else sends.place % s.copies + 1) is)
              ∙ none_partial (lane_at after l).store.list

  -- a step of the settlement
  settle_kept : (w : World) (lines : List Line) (k : ℕ) (choices : List Bool) (at : Settlement) → slice_get (settlements s w) k ≡ Some at → IsWorldSound s w
      → IsSettledTo s w k → IsSettledTo s (settles s w choices (Some at)).world (k + 1) → IsKept s w lines l (extra s w l (Settling k))
      → IsKept s (settles s w choices (Some at)).world (lines ++ (settles s w choices (Some at)).lines) l
      (extra s (settles s w choices (Some at)).world l (Settling (k + 1)))
  unfolding all_settled_told
  settle_kept w lines k choices (Opens m) here sound through next kept =
      elim (cases_eq l m) [
        | inl same ↦
            subst (λ n. IsKept s (settles s w choices (Some (Opens n))).world (lines ++ []) l (extra s (settles s w choices (Some (Opens n))).world l (Settling (k + 1)))) same
            (opens_kept w lines k choices (here ∙ ap (λ n. Some (Opens n)) (sym same)) kept)
        | inr differs ↦
            (let found = step_at s w k (Opens m) here in
            let lane : m ≡ found.0 = opens_lane w k found.0 m found.1 in
            let row : lane_at (settles s w choices (Some (Opens m))).world l ≡ lane_at w l =
            get_or-set_other w.lanes m l (with_store (opened_to_settle (lane_at w m).store (choice_in choices 0)) (lane_at w m)) new_lane differs in
            quiet s l on w (settles s w choices (Some (Opens m))).world lines [] (extra s w l (Settling k))
            (extra s (settles s w choices (Some (Opens m))).world l (Settling (k + 1))) refl
            (other_step w (settles s w choices (Some (Opens m))).world k (Opens m) found (λ e. differs (e ∙ sym lane)) sound through next row)
            (nothing_came w.messages)
            (λ sent keeps. subst (λ (x : LaneRow). Keeps (IsUntorn s l) (caught_in x.ended) sent x.store) (sym row) keeps) kept)
      ]
  settle_kept w lines k choices (Sends m message drops) here sound through next kept =
      elim (cases_eq l m) [
        | inl same ↦
            subst (λ n. IsKept s (settles s w choices (Some (Sends n message drops))).world (lines ++ (settles s w choices (Some (Sends n message drops))).lines) l
            (extra s (settles s w choices (Some (Sends n message drops))).world l (Settling (k + 1)))) same
            (sends_kept w lines k message (host_reply s.issuer s.accounts w.messages message) drops
            (here ∙ ap (λ n. Some (Sends n message drops)) (sym same)) through kept)
        | inr differs ↦
            (let found = step_at s w k (Sends m message drops) here in
            let lane : m ≡ found.0 = of_lane s some w k found.0 m message drops found.1 in
            let row : lane_at (settles s w choices (Some (Sends m message drops))).world l ≡ lane_at w l =
            get_or-set_other w.lanes m l (lane_settled message drops (lane_at w m)) new_lane differs in
            quiet s l on w (settles s w choices (Some (Sends m message drops))).world lines (settles s w choices (Some (Sends m message drops))).lines
            (extra s w l (Settling k)) (extra s (settles s w choices (Some (Sends m message drops))).world l (Settling (k + 1)))
            (other_settle (dialect_of s m) l m differs message (host_reply s.issuer s.accounts w.messages message))
            (other_step w (settles s w choices (Some (Sends m message drops))).world k (Sends m message drops) found (λ e. differs (e ∙ sym lane)) sound through next row)
            (message ∷ [], refl)
            (λ sent keeps. subst (λ (x : LaneRow). Keeps (IsUntorn s l) (caught_in x.ended) sent x.store) (sym row) keeps) kept)
      ]

  -- a check of a card
  check_untold : (w : World) (choices : List Bool) (o : Option Check) → all_settled_told l (audits w choices o).lines ≡ []
  unfolding all_settled_told
  check_untold w choices None = refl
  check_untold w choices (Some (PowersUp i card)) = refl
  check_untold w choices (Some (Asks i card command)) = refl

  check_stays : (w : World) (choices : List Bool) (o : Option Check) → Stays w.messages (audits w choices o).world.messages
  check_stays w choices None = nothing_came w.messages
  check_stays w choices (Some (PowersUp i card)) = nothing_came w.messages
  check_stays w choices (Some (Asks i card command)) = nothing_came w.messages

  first_kept : IsKept s (first_world s) [] l []
  unfolding all_settled_told caught_in
  first_kept = record {
    sent = [];
    keeps = subst (λ (row : LaneRow). Keeps (IsUntorn s l) (caught_in row.ended) [] row.store) (sym (get_or-map_const s.lanes l new_lane)) (keeps_begun (IsUntorn s l));
    told = refl;
    came = All-nil (Contains (first_world s).messages);
    arrived = none_came;
  }

  again_kept : (w : World) (lines : List Line) (extras later : List (List ℕ)) → extras ≡ later → IsKept s w lines l extras → IsKept s w lines l later
  again_kept w lines extras later same kept = subst (λ (xs : List (List ℕ)). IsKept s w lines l xs) same kept

  run_kept : (place : RunPlace) (n : ℕ) (choices : List Bool) (lines : List Line) (w : World) → Reached s place n choices lines w
      → IsKept s w lines l (extra s w l place)
  run_kept _ _ _ _ _ start = first_kept
  run_kept _ _ _ _ _ (scheduled {l = k} {c = c} {ls = ls} {new = new} {w = v} {w' = v'} before at step) =
      by_step ls new v' (happens s v (Turn k) c) step.made step.leads []
      (turn_keeps s l on some v ls k c (reached_sound s _ _ _ _ v before) (stores_stand s _ _ _ _ v before) (next_of s v k) refl
      (reached_untouched s _ _ _ _ v before tt).found (run_kept _ _ _ ls v before))
  run_kept _ _ _ ls w (rounds before) = run_kept _ _ _ ls w before
  run_kept _ _ _ _ _ (round {l = k} {c = c} {ls = ls} {new = new} {w = v} {w' = v'} before inside busy step) =
      by_step ls new v' (happens s v (Turn k) c) step.made step.leads []
      (turn_keeps s l on some v ls k c (reached_sound s _ _ _ _ v before) (stores_stand s _ _ _ _ v before) (next_of s v k) refl
      (reached_untouched s _ _ _ _ v before tt).found (run_kept _ _ _ ls v before))
  run_kept _ _ _ ls w (again before) = run_kept _ _ _ ls w before
  run_kept _ _ _ ls w (settlement before over) =
      again_kept w ls [] (extra s w l (Settling 0))
      (sym (ap (λ n. partial (n % s.copies) (lane_at w l).store.list) (let e : 0 - before_lane s w l - 1 ≡ 0 = omega arith in e)
      ∙ ap (λ n. partial n (lane_at w l).store.list) (zero-mod s.copies)
      ∙ none_partial (lane_at w l).store.list))
      (run_kept _ _ _ ls w before)
  run_kept _ _ _ _ _ (settling {k} {n} {cs} {c} {ls} {new} {w = v} {w' = v'} {at = at} before here step) =
      let so : happens s v (Settle k) c ≡ settles s v c (Some at) = ap (λ (o : Option Settlement). settles s v c o) here in
      let world : v' ≡ (settles s v c (Some at)).world = step.leads ∙ ap (λ (x : After). x.world) so in
      let told : new ≡ (settles s v c (Some at)).lines = step.made ∙ ap (λ (x : After). x.lines) so in
      subst (λ (x : World). IsKept s x (ls ++ new) l (extra s x l (Settling (k + 1)))) (sym world)
      (subst (λ (xs : List Line). IsKept s (settles s v c (Some at)).world (ls ++ xs) l (extra s (settles s v c (Some at)).world l (Settling (k + 1)))) (sym told)
      (settle_kept v ls k c at here (reached_sound s _ _ _ _ v before) (goes_through s k n cs ls v some before)
      (subst (λ (x : World). IsSettledTo s x (k + 1)) world (goes_through s (k + 1) (n + 1) (cs ++ c) (ls ++ new) v' some (settling before here step)))
      (run_kept _ _ _ ls v before)))
  run_kept _ _ _ ls w (audit {k} {n} {cs} before past) =
      let emptied : IsEmptied (lane_at w l).store = comes s (Auditing 0) n cs ls w some (audit before past) l on in
      again_kept w ls (extra s w l (Settling k)) []
      (ap (λ (list : List (List ℕ)). partial ((k - before_lane s w l - 1) % s.copies) list) emptied.empty)
      (run_kept _ _ _ ls w before)
  run_kept _ _ _ _ _ (auditing {k} {n} {cs} {c} {ls} {new} {w = v} {w' = v'} before here step) =
      by_step ls new v' (happens s v (Audit k) c) step.made step.leads []
      (quiet s l on v (happens s v (Audit k) c).world ls (happens s v (Audit k) c).lines [] [] (check_untold v c (slice_get (checks s) k)) refl
      (check_stays v c (slice_get (checks s) k))
      (λ sent keeps.
      subst (λ (rows : List LaneRow). Keeps (IsUntorn s l) (caught_in (get_or rows l new_lane).ended) sent (get_or rows l new_lane).store)
      (sym (audit_lanes v c (slice_get (checks s) k))) keeps)
      (run_kept _ _ _ ls v before))
  run_kept _ _ _ ls w (finished before past) = run_kept _ _ _ ls w before

-- the lines at the end tell no message
none_at_end : (s : ScenarioData) (w : World) (l : ℕ) → all_settled_told l (closing s w) ≡ []
none_at_end s w l =
    settled-append l (flat_map (account_lines s w) s.accounts) (Done (ended_count w) ∷ []) ∙ ap (λ (xs : List (List ℕ)). xs ++ all_settled_told l (Done (ended_count w) ∷ [])) (accounts s.accounts)
    ∙ done_untold
  where
    done_untold : all_settled_told l (Done (ended_count w) ∷ []) ≡ []
    done_untold = untold_done l (ended_count w)

    accounts : (xs : List AccountData) → all_settled_told l (flat_map (account_lines s w) xs) ≡ []
    accounts [] = untold_none l
    accounts (account ∷ others) =
        settled-append l (account_lines s w account) (flat_map (account_lines s w) others)
        ∙ ap (λ (xs : List (List ℕ)). xs ++ all_settled_told l (flat_map (account_lines s w) others))
        (untold_balance l account.pan (balance_after s.issuer s.accounts w.messages account.pan))
        ∙ accounts others

pub captures_sent : CapturesAreSent
captures_sent s lines w l some on run =
    let kept : IsKept s w run.reported l [] = run_kept s l on some Finished run.count run.choices run.reported w run.reached in
    let emptied : IsEmptied (lane_at w l).store = comes s Finished run.count run.choices run.reported w some run.reached l on in
    record {
      sent = kept.sent;
      sends = store_keeps.ends (caught_in (lane_at w l).ended) kept.sent (lane_at w l).store emptied.none emptied.empty kept.keeps.0;
      told =
          ap (λ (xs : List Line). all_settled_told l xs) run.whole
          ∙ settled-append l run.reported (closing s w)
          ∙ ap (λ (xs : List (List ℕ)). all_settled_told l run.reported ++ xs) (none_at_end s w l)
          ∙ append-nil (all_settled_told l run.reported)
          ∙ kept.told
          ∙ ap (map (call_in (dialect_of s l))) (append-nil (flat_map (replicate s.copies) kept.sent));
      arrived =
          subst (λ (xs : List (List ℕ)). AreAmong xs w.messages) (append-nil (flat_map (replicate s.copies) kept.sent)) kept.arrived;
      exact = λ untorn.
          sym ((kept.keeps.1 untorn).1 ∙ ap (λ (xs : List (List ℕ)). kept.sent ++ xs) emptied.empty ∙ append-nil kept.sent);
      delivered =
          All-weaker (Contains w.messages) (IsDelivered s.issuer s.accounts w.messages)
          (λ message there. delivered_at s.issuer s.accounts w.messages message there.0 (found_at w.messages there.0 message there.1 (sym there.2))) kept.sent
          kept.came;
    }
