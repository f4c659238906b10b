-- A run with lanes in other dialects, event by event: the same world, and the lines of host and settlement spelled anew.
-- The same replies and decisions come of it: the laws `DialectsShow` and `WholeDialectsShow`.
use Rattle.std.proofs.Common.{◌≡◌, ℕ, zero, suc, ◌+◌, ◌<◌, Bool, true, false, ◌&&◌, List, [], ◌∷◌, ◌++◌, length, map, replicate, slice_get, Option, Some, None, option_map, refl, sym, ap, ◌∙◌, subst, arith}
use Rattle.std.specs.List.{All, flat_map}
use Rattle.std.specs.Prelude.{IfSome, is_none, option_and_then, ℤ}
use Rattle.std.proofs.lemmas.List.{get_or-set_same}
use Rattle.std.proofs.lemmas.List.Elements.{All-head, All-tail}
use Rattle.auth_message.specs.Whole.{IsMessage, IsReply}
use Rattle.capture_store.specs.StoreRow.{opened_to_add, is_next_cut}
use Rattle.card_app.specs.Answering.{card_answer}
use Rattle.card_app.specs.Cuts.{Cut, cut_of}
use Rattle.card_app.specs.Pages.{found_of}
use Rattle.card_app.specs.PageReplies.{CardAnswer}
use Rattle.card_state.specs.Decisions.{Decided}
use Rattle.emv_ports.specs.Cut.{names_commit}
use Rattle.host_link.specs.Delivery.{heard}
use Rattle.issuer_host.specs.Account.{AccountData, IsAccount}
use Rattle.issuer_host.proofs.Replies.{replies_written}
use Rattle.issuer_host.specs.History.{host_reply, balance_after}
use Rattle.kernel.specs.Dialogue.{dialogue}
use Rattle.kernel.specs.Ended.{EndData}
use Rattle.kernel.specs.Reply.{Reply, CardSaid, CardGone, from_host, Deed, ToCard, ToHost, Over}
use Rattle.report_text.specs.declared.line.Line.{Line}
use Rattle.report_text.specs.declared.line.Line.TheVariants.{EndLost, Done}
use Rattle.scenario_plan.specs.Cards.{CardData}
use Rattle.scenario_plan.specs.Plan.{ScenarioData, IsScenario}
use Rattle.scenario_lanes.specs.Plan.{LaneData}
use Rattle.scenario_lanes.specs.declared.plan.Link.{Link}
use Rattle.scenario_lanes.specs.declared.plan.Link.TheVariants.{Sound, RequestLost, ReplyLost, Twice}
use Rattle.scenario_lanes.specs.declared.plan.Planned.{Planned}
use Rattle.txn_replay.specs.Changes.{exchanged, told_once, row_torn, lost}
use Rattle.txn_replay.specs.Lines.{power_line, power_canned_line, power_torn_line, answer_lines, torn_lines, gone_lines, host_lines, outcome_line}
use Rattle.txn_replay.specs.Part.{Part, Moved, loses, ended_by_record, sending, on_for, cut_ends, lane_answered_by, canned_by, asked_of_card, asked, purchase_begun, begun_by, begun_with, piece_by, piece}
use Rattle.txn_replay.specs.Payment.{Payment, payment_with, payment_of, payment_on, payment_in, is_iso, dialect_of, is_durable, durable_of, next_of, outset_for, end_at}
use Rattle.txn_replay.specs.Respelled.{lanes_in, in_dialects, is_host, AreRespelled, no_lines, same_line, exchange, silence, settled, AreMessages, DialectsShow, WholeDialectsShow}
use Rattle.txn_replay.specs.Run.{RunPlace, Scheduled, Round, Finished, Reached, start, scheduled, rounds, round, again, settlement, settling, audit, auditing, finished, lane_over, all_below, all_over, balance_line, account_lines, ended_count, closing}
use Rattle.txn_replay.specs.Steps.{After, Settlement, Opens, Sends, lane_settlements, settlements_from, lane_settled, Check, PowersUp, Asks, part_of, lane_moved, choice_in, turned_by, settlements, settles, checks, audits, happens, Step}
use Rattle.txn_replay.specs.Storing.{part_with, copied, copy_lines, dropped_by, delivers_first, opened_for, opens_by, goes_through, stored_by, free_by, runs_by, before_by, moved_behind, lane_piece}
use Rattle.txn_replay.specs.World.{Holder, LaneRow, World, new_lane, first_world, lane_at}
use Rattle.txn_replay.specs.declared.event.Event.{Event}
use Rattle.txn_replay.specs.declared.event.Event.TheVariants.{Turn, Settle, Audit}
use Rattle.txn_replay.specs.Sound.{IsWorldSound}
use Rattle.txn_replay.proofs.ExchangeLaws.PurchaseFacts.{payment_facts}
use Rattle.txn_replay.proofs.RunLaws.FairRuns.{reached_sound}
use Rattle.txn_replay.proofs.RunLaws.LinesReached.{lane_behind}
use Rattle.txn_replay.proofs.RunLaws.SentGrows.{all_last, messages_before}
use Rattle.txn_replay.proofs.SettlementLaws.SettlementSteps.{settles_inside}

-- what comes back of a reply is that reply
heard_reply : (link : Link) (reply : List ℕ) → IsReply reply → IfSome (heard link reply) IsReply
heard_reply Sound reply is = is
heard_reply RequestLost reply is = tt
heard_reply ReplyLost reply is = tt
heard_reply Twice reply is = is

last_message : (messages : List (List ℕ)) (message : List ℕ) → All IsMessage (messages ++ message ∷ []) → IsMessage message
last_message messages message all = All-head IsMessage message [] (all_last messages (message ∷ []) all)

module _ (before after : ℕ → Bool) where
  respelled-append : (xs ys us vs : List Line) → AreRespelled before after xs ys → AreRespelled before after us vs
      → AreRespelled before after (xs ++ us) (ys ++ vs)
  respelled-append _ _ us vs no_lines second = second
  respelled-append _ _ us vs (same_line {xs} {ys} line no_host rest) second = same_line line no_host (respelled-append xs ys us vs rest second)
  respelled-append _ _ us vs (exchange {xs} {ys} lane message reply read said rest) second =
      exchange lane message reply read said (respelled-append xs ys us vs rest second)
  respelled-append _ _ us vs (silence {xs} {ys} lane message read rest) second =
      silence lane message read (respelled-append xs ys us vs rest second)
  respelled-append _ _ us vs (settled {xs} {ys} lane message reply read said rest) second =
      settled lane message reply read said (respelled-append xs ys us vs rest second)

  -- one exchange of a purchase, in both dialects
  record SameMoved (m n : Moved) : Type 0 where
    pub part : m.part ≡ n.part
    pub choices : m.choices ≡ n.choices
    pub lines : AreRespelled before after m.lines n.lines

  module _ (p : Payment) (known : All IsAccount p.accounts) where
    abbrev one : Payment
    one = record p { iso = before p.lane }

    abbrev two : Payment
    two = record p { iso = after p.lane }

    -- an end line is no message
    end_same : (lost_so : Bool) (number : ℕ) (end : EndData) → is_host (outcome_line lost_so p.lane number end) ≡ false
    end_same true number end = refl
    end_same false number end = refl

    settled_same : (replies : List Reply) (part : Part) (xs ys : List Line) (e : Option EndData) → AreRespelled before after xs ys
        → SameMoved (ended_by_record one replies part xs e) (ended_by_record two replies part ys e)
    settled_same replies part xs ys None lines = record { part = refl; choices = refl; lines = lines }
    settled_same replies part xs ys (Some end) lines = record {
      part = refl;
      choices = refl;
      lines = respelled-append xs ys (outcome_line (loses p part.lane.store end.capture) p.lane (length part.lane.ended + 1) end ∷ [])
          (outcome_line (loses p part.lane.store end.capture) p.lane (length part.lane.ended + 1) end ∷ []) lines
          (same_line _ (end_same (loses p part.lane.store end.capture) (length part.lane.ended + 1) end) no_lines);
    }

    cut_same : (replies : List Reply) (part cut : Part) (xs : List Line) (e : Option EndData) → AreRespelled before after xs xs
        → SameMoved (cut_ends one replies part cut xs e) (cut_ends two replies part cut xs e)
    cut_same replies part cut xs None lines = record { part = refl; choices = refl; lines = no_lines }
    cut_same replies part cut xs (Some end) lines = record {
      part = refl;
      choices = refl;
      lines = respelled-append xs xs (outcome_line (loses p cut.lane.store end.capture) p.lane (length cut.lane.ended + 1) end ∷ [])
          (outcome_line (loses p cut.lane.store end.capture) p.lane (length cut.lane.ended + 1) end ∷ []) lines
          (same_line _ (end_same (loses p cut.lane.store end.capture) (length cut.lane.ended + 1) end) no_lines);
    }

    answered_same : (replies : List Reply) (command : List ℕ) (part : Part) (said : CardAnswer) (cut : Option Cut)
        → SameMoved (lane_answered_by one replies command part said cut) (lane_answered_by two replies command part said cut)
    answered_same replies command part said None =
        settled_same (replies ++ CardSaid said.answer part.lane.log ∷ []) (record part { card = exchanged p.card.image part.card command said })
        (answer_lines p.lane command said.answer) (answer_lines p.lane command said.answer)
        (end_at p (replies ++ CardSaid said.answer part.lane.log ∷ [])) (same_line _ refl (same_line _ refl no_lines))
    answered_same replies command part said (Some cut) =
        cut_same (replies ++ CardGone ∷ []) part (record part { card = row_torn part.card p.planned.tear cut }) (torn_lines p.lane command)
        (end_at p (replies ++ CardGone ∷ [])) (same_line _ refl (same_line _ refl no_lines))

    canned_same : (replies : List Reply) (command : List ℕ) (part : Part) (o : Option (List ℕ))
        → SameMoved (canned_by one replies command part o) (canned_by two replies command part o)
    canned_same replies command part (Some answer) =
        settled_same (replies ++ CardSaid answer part.lane.log ∷ []) (record part { card = told_once part.card })
        (answer_lines p.lane command answer) (answer_lines p.lane command answer) (end_at p (replies ++ CardSaid answer part.lane.log ∷ []))
        (same_line _ refl (same_line _ refl no_lines))
    canned_same replies command part None =
        cut_same (replies ++ CardGone ∷ []) part (record part { card = part.card }) (gone_lines p.lane command) (end_at p (replies ++ CardGone ∷ []))
        (same_line _ refl (same_line _ refl no_lines))

    kind_same : (replies : List Reply) (command : List ℕ) (part : Part) (o : Option (List (List ℕ)))
        → SameMoved (asked_of_card one replies command part o) (asked_of_card two replies command part o)
    kind_same replies command part None =
        answered_same replies command part (card_answer p.card.image part.card.kept part.card.session command)
        (cut_of p.planned.tear part.card.made (card_answer p.card.image part.card.kept part.card.session command).new)
    kind_same replies command part (Some answers) = canned_same replies command part (slice_get answers part.card.told)

    host_same : (message : List ℕ) (o : Option (List ℕ)) → IsMessage message → IfSome o IsReply
        → AreRespelled before after (host_lines (before p.lane) p.lane message o) (host_lines (after p.lane) p.lane message o)
    host_same message None read said = silence p.lane message read no_lines
    host_same message (Some reply) read said = exchange p.lane message reply read said no_lines

    -- an end leaves what was made for the host
    sent_stays : (replies : List Reply) (part : Part) (lines : List Line) (e : Option EndData)
        → (ended_by_record one replies part lines e).part.lane.sent ≡ part.lane.sent
    sent_stays replies part lines None = refl
    sent_stays replies part lines (Some end) = refl

    -- the host reads what this has made for it
    abbrev AreRead : Moved → Type 0
    AreRead m = All IsMessage m.part.lane.sent

    asked_same : (replies : List Reply) (part : Part) (deed : Deed) → AreRead (asked one replies part deed)
        → SameMoved (asked one replies part deed) (asked two replies part deed)
    asked_same replies part (ToCard command) read = kind_same replies command part p.card.canned
    asked_same replies part (ToHost message) read =
        settled_same (replies ++ from_host answer ∷ []) (sending p message part) (host_lines (before p.lane) p.lane message answer)
        (host_lines (after p.lane) p.lane message answer) (end_at p (replies ++ from_host answer ∷ []))
        (host_same message answer is_read (heard_reply p.planned.link (host_reply p.issuer p.accounts part.messages message)
        (replies_written p.issuer p.accounts part.messages message known)))
      where
        answer : Option (List ℕ)
        answer = heard p.planned.link (host_reply p.issuer p.accounts part.messages message)

        is_read : IsMessage message
        is_read =
            last_message part.lane.sent message
            (subst (λ (ms : List (List ℕ)). All IsMessage ms)
            (sent_stays (replies ++ from_host answer ∷ []) (sending p message part) (host_lines (before p.lane) p.lane message answer)
            (end_at p (replies ++ from_host answer ∷ []))) read)
    asked_same replies part (Over ending) read = record { part = refl; choices = refl; lines = no_lines }

    tear_same : (part : Part) (choice is_cut : Bool) → SameMoved (begun_by one part choice is_cut) (begun_by two part choice is_cut)
    tear_same part choice true =
        cut_same (CardGone ∷ []) part (record part { card = lost part.card }) (power_torn_line p.lane p.card ∷ []) (end_at p (CardGone ∷ []))
        (same_line _ refl no_lines)
    tear_same part choice false =
        let found : List Decided = found_of part.card.kept part.card.pending choice in
        let on : SameMoved (ended_by_record one [] (on_for p (Some found) found part) (power_line p.lane p.card found ∷ []) (end_at p []))
        (ended_by_record two [] (on_for p (Some found) found part) (power_line p.lane p.card found ∷ []) (end_at p [])) =
        settled_same [] (on_for p (Some found) found part) (power_line p.lane p.card found ∷ []) (power_line p.lane p.card found ∷ []) (end_at p [])
        (same_line _ refl no_lines) in
        record { part = on.part; choices = refl; lines = on.lines }

    begun_same : (part : Part) (choice : Bool) (o : Option (List (List ℕ))) → SameMoved (begun_with one part choice o) (begun_with two part choice o)
    begun_same part choice None = tear_same part choice (names_commit p.planned.tear 0)
    begun_same part choice (Some answers) =
        settled_same [] (on_for p None (found_of part.card.kept part.card.pending false) part) (power_canned_line p.lane p.card ∷ [])
        (power_canned_line p.lane p.card ∷ []) (end_at p []) (same_line _ refl no_lines)

    holder_same : (part : Part) (choice : Bool) (o : Option Holder) → SameMoved (purchase_begun one part choice o) (purchase_begun two part choice o)
    holder_same part choice None = begun_same part choice p.card.canned
    holder_same part choice (Some holder) = record { part = refl; choices = refl; lines = no_lines }

    running_same : (part : Part) (choice : Bool) (o : Option (List Reply)) → AreRead (piece_by one part choice o)
        → SameMoved (piece_by one part choice o) (piece_by two part choice o)
    running_same part choice None read = holder_same part choice part.card.holder
    running_same part choice (Some replies) read = asked_same replies part (dialogue (outset_for p) replies).deed read

    piece_same : (part : Part) (choice : Bool) → AreRead (piece one part choice) → SameMoved (piece one part choice) (piece two part choice)
    piece_same part choice = running_same part choice part.lane.running

    -- what comes before a purchase, and the exchange with it
    copies_same : (message : List ℕ) (messages : List (List ℕ)) (n : ℕ) → All IsMessage (replicate n message)
        → AreRespelled before after (copy_lines one message messages n) (copy_lines two message messages n)
    copies_same message messages zero read = no_lines
    copies_same message messages (suc n) read =
        respelled-append (copy_lines one message messages n) (copy_lines two message messages n) _ _
        (copies_same message messages n (All-tail IsMessage message (replicate n message) read))
        (settled p.lane message (host_reply p.issuer p.accounts (messages ++ replicate n message) message)
        (All-head IsMessage message (replicate n message) read)
        (replies_written p.issuer p.accounts (messages ++ replicate n message) message known) no_lines)

    dropped_same : (part : Part) (message : List ℕ) (cut : Bool)
        → AreRead (dropped_by one (copied one message part) (copy_lines one message part.messages p.copies) cut)
        → SameMoved (dropped_by one (copied one message part) (copy_lines one message part.messages p.copies) cut)
        (dropped_by two (copied two message part) (copy_lines two message part.messages p.copies) cut)
    dropped_same part message true read = record {
      part = refl;
      choices = refl;
      lines = respelled-append (copy_lines one message part.messages p.copies) (copy_lines two message part.messages p.copies)
          (EndLost p.lane (length part.lane.ended + 1) ∷ []) (EndLost p.lane (length part.lane.ended + 1) ∷ [])
          (copies_same message part.messages p.copies (all_last part.lane.sent (replicate p.copies message) read))
          (same_line _ refl no_lines);
    }
    dropped_same part message false read = record {
      part = refl;
      choices = refl;
      lines = copies_same message part.messages p.copies (all_last part.lane.sent (replicate p.copies message) read);
    }

    delivered_same : (part : Part) (list : List (List ℕ)) → AreRead (delivers_first one part list) → SameMoved (delivers_first one part list) (delivers_first two part list)
    delivered_same part [] read = record { part = refl; choices = refl; lines = no_lines }
    delivered_same part (message ∷ others) read = dropped_same part message (is_next_cut p.planned.terminal_tear part.lane.store) read

    lane_same : (part : Part) (first second : Bool) → AreRead (lane_piece one part first second)
        → SameMoved (lane_piece one part first second) (lane_piece two part first second)
    lane_same part first second = by_durable p.durable
      where
        by_due : (due : Bool) → AreRead (moved_behind one first second (goes_through one part due)) → SameMoved (moved_behind one first second (goes_through one part due)) (moved_behind two first second (goes_through two part due))
        by_due true read = delivered_same part part.lane.store.list read
        by_due false read = piece_same part first read

        by_full : (full : Bool) → AreRead (moved_behind one first second (opened_for (part_with (opened_to_add part.lane.store first) part) full)) → SameMoved (moved_behind one first second (opened_for (part_with (opened_to_add part.lane.store first) part) full))
            (moved_behind two first second (opened_for (part_with (opened_to_add part.lane.store first) part) full))
        by_full true read = record { part = refl; choices = refl; lines = no_lines }
        by_full false read =
            let both = piece_same (part_with (opened_to_add part.lane.store first) part) second read in
            record { part = both.part; choices = ap (λ n. n + 1) both.choices; lines = both.lines }

        by_cut : (cut : Bool) → AreRead (moved_behind one first second (opens_by one part first cut)) → SameMoved (moved_behind one first second (opens_by one part first cut)) (moved_behind two first second (opens_by two part first cut))
        by_cut true read = record { part = refl; choices = refl; lines = (same_line _ refl no_lines) }
        by_cut false read = by_full (opened_to_add part.lane.store first).due read

        by_store : (o : Option ℕ) → AreRead (moved_behind one first second (stored_by one part first o)) → SameMoved (moved_behind one first second (stored_by one part first o)) (moved_behind two first second (stored_by two part first o))
        by_store None read = by_cut (names_commit p.planned.terminal_tear 0) read
        by_store (Some made) read = by_due part.lane.store.due read

        by_holder : (o : Option Holder) → AreRead (moved_behind one first second (free_by one part first o)) → SameMoved (moved_behind one first second (free_by one part first o)) (moved_behind two first second (free_by two part first o))
        by_holder None read = by_store part.lane.store.commits read
        by_holder (Some holder) read = record { part = refl; choices = refl; lines = no_lines }

        by_running : (o : Option (List Reply)) → AreRead (moved_behind one first second (runs_by one part first o)) → SameMoved (moved_behind one first second (runs_by one part first o)) (moved_behind two first second (runs_by two part first o))
        by_running None read = by_holder part.card.holder read
        by_running (Some replies) read = piece_same part first read

        by_durable : (durable : Bool) → AreRead (moved_behind one first second (before_by one part first durable))
            → SameMoved (moved_behind one first second (before_by one part first durable)) (moved_behind two first second (before_by two part first durable))
        by_durable false read = piece_same part first read
        by_durable true read = by_running part.lane.running read

module _ (s : ScenarioData) (iso : ℕ → Bool) (fits : IsScenario s) where
  abbrev other : ScenarioData
  other = in_dialects iso s

  abbrev before : ℕ → Bool
  before = dialect_of s

  abbrev after : ℕ → Bool
  after = dialect_of other

  -- the lanes
  lane_there : (n : ℕ) (lanes : List LaneData) (l : ℕ)
      → slice_get (lanes_in iso n lanes) l ≡ option_map (λ (lane : LaneData). record lane { iso = iso (n + l) }) (slice_get lanes l)
  lane_there n [] l = refl
  lane_there n (lane ∷ lanes) zero =
      let here : n ≡ n + 0 = omega arith in ap (λ k. Some (record lane { iso = iso k })) here
  lane_there n (lane ∷ lanes) (suc l) =
      let place : n + 1 + l ≡ n + suc l = omega arith in
      lane_there (n + 1) lanes l ∙ ap (λ k. option_map (λ (x : LaneData). record x { iso = iso k }) (slice_get lanes l)) place

  lane_count : (n : ℕ) (lanes : List LaneData) → length (lanes_in iso n lanes) ≡ length lanes
  lane_count n [] = refl
  lane_count n (lane ∷ lanes) = ap (λ k. suc k) (lane_count (n + 1) lanes)

  new_lanes : (n : ℕ) (lanes : List LaneData) → map (λ lane. new_lane) (lanes_in iso n lanes) ≡ map (λ lane. new_lane) lanes
  new_lanes n [] = refl
  new_lanes n (lane ∷ lanes) = ap (λ (rows : List LaneRow). new_lane ∷ rows) (new_lanes (n + 1) lanes)

  abbrev with_iso : Bool → Payment → Payment
  with_iso b p = record p { iso = b }

  -- a purchase, in its lane's other dialect
  payment_same : (l n : ℕ) → payment_in other l n ≡ option_map (with_iso (after l)) (payment_in s l n)
  unfolding payment_in
  payment_same l n = by (slice_get s.lanes l) (slice_get other.lanes l) (lane_there 0 s.lanes l)
    where
      by_card : (lane : LaneData) (planned : Planned) (b : Bool) (o : Option CardData)
          → option_map (payment_with other l (record lane { iso = b }) planned) o ≡ option_map (with_iso b) (option_map (payment_with s l lane planned) o)
      by_card lane planned b None = refl
      by_card lane planned b (Some card) = refl

      by_planned : (lane : LaneData) (b : Bool) (o : Option Planned)
          → option_and_then (payment_of other l (record lane { iso = b })) o ≡ option_map (with_iso b) (option_and_then (payment_of s l lane) o)
      by_planned lane b None = refl
      by_planned lane b (Some planned) = by_card lane planned b (slice_get s.cards planned.card)

      by : (o q : Option LaneData) → q ≡ option_map (λ (lane : LaneData). record lane { iso = iso (0 + l) }) o
          → option_and_then (payment_on other l n) q ≡ option_map (with_iso (is_iso q)) (option_and_then (payment_on s l n) o)
      by None q is = ap (λ (x : Option LaneData). option_and_then (payment_on other l n) x) is
      by (Some lane) q is =
          subst (λ (x : Option LaneData). option_and_then (payment_on other l n) x ≡ option_map (with_iso (is_iso x)) (payment_on s l n lane)) (sym is)
          (by_planned lane (iso (0 + l)) (slice_get lane.purchases n))

  next_same : (w : World) (l : ℕ) → next_of other w l ≡ option_map (with_iso (after l)) (next_of s w l)
  next_same w l = payment_same l (length (lane_at w l).ended)

  over_same : (w : World) (l : ℕ) → lane_over other w l ≡ lane_over s w l
  over_same w l = ap (λ b. is_none (lane_at w l).running && b) (ap is_none (next_same w l) ∙ by (next_of s w l))
    where
      by : (o : Option Payment) → is_none (option_map (with_iso (after l)) o) ≡ is_none o
      by None = refl
      by (Some p) = refl

  below_same : (w : World) (n : ℕ) → all_below other w n ≡ all_below s w n
  below_same w zero = refl
  below_same w (suc n) = ap (λ b. b && all_below other w n) (over_same w n) ∙ ap (λ b. lane_over s w n && b) (below_same w n)

  all_same : (w : World) → all_over other w ≡ all_over s w
  all_same w = ap (λ n. all_below other w n) (lane_count 0 s.lanes) ∙ below_same w (length s.lanes)

  -- an event in both
  record SameAfter (a b : After) : Type 0 where
    pub world : a.world ≡ b.world
    pub choices : a.choices ≡ b.choices
    pub lines : AreRespelled before after a.lines b.lines

  turn_same : (w : World) (l : ℕ) (choices : List Bool) → IsWorldSound s w → AreMessages (happens s w (Turn l) choices).world
      → SameAfter (happens s w (Turn l) choices) (happens other w (Turn l) choices)
  turn_same w l choices sound read =
      subst (λ (o : Option Payment). SameAfter (happens s w (Turn l) choices) (turned_by w l choices o)) (sym (next_same w l)) (by (next_of s w l) refl read)
    where
      by : (o : Option Payment) → next_of s w l ≡ o → AreMessages (turned_by w l choices o).world → SameAfter (turned_by w l choices o) (turned_by w l choices (option_map (with_iso (after l)) o))
      by None is messages = record { world = refl; choices = refl; lines = no_lines }
      by (Some p) is messages =
          let part : Part = part_of w l p.planned.card in
          let m : Moved = lane_piece p part (choice_in choices 0) (choice_in choices 1) in
          let n : Moved = lane_piece (with_iso (after l) p) part (choice_in choices 0) (choice_in choices 1) in
          let lane : p.lane ≡ l = (payment_facts s l _ p is).lane in
          let own : before p.lane ≡ p.iso = ap before lane ∙ sym (payment_facts s l _ p is).iso in
          let known : All IsAccount p.accounts =
          subst (λ (accounts : List AccountData). All IsAccount accounts) (sym (payment_facts s l _ p is).accounts) fits.tables.accounts in
          let made : All IsMessage m.part.lane.sent =
          subst (λ (row : LaneRow). All IsMessage row.sent) (lane_behind s w l p sound is m) (messages l) in
          let made_one : All IsMessage (lane_piece (with_iso (before p.lane) p) part (choice_in choices 0) (choice_in choices 1)).part.lane.sent =
          subst (λ b. All IsMessage (lane_piece (with_iso b p) part (choice_in choices 0) (choice_in choices 1)).part.lane.sent) (sym own) made in
          let both : SameMoved before after m n =
          subst (λ b. SameMoved before after m (lane_piece (with_iso b p) part (choice_in choices 0) (choice_in choices 1))) (ap after lane)
          (subst (λ b. SameMoved before after (lane_piece (with_iso b p) part (choice_in choices 0) (choice_in choices 1))
          (lane_piece (with_iso (after p.lane) p) part (choice_in choices 0) (choice_in choices 1))) own
          (lane_same before after p known part (choice_in choices 0) (choice_in choices 1) made_one)) in
          record {
            world = ap (λ (x : Part). (lane_moved w l p.planned.card (record { part = x; lines = []; choices = 0 })).world) both.part;
            choices = both.choices;
            lines = both.lines;
          }

  -- the settlement
  durable_same : (l : ℕ) → durable_of other l ≡ durable_of s l
  durable_same l = ap is_durable (lane_there 0 s.lanes l) ∙ by (slice_get s.lanes l)
    where
      by : (o : Option LaneData) → is_durable (option_map (λ (lane : LaneData). record lane { iso = iso (0 + l) }) o) ≡ is_durable o
      by None = refl
      by (Some lane) = refl

  steps_same : (l : ℕ) (rows : List LaneRow) → settlements_from other l rows ≡ settlements_from s l rows
  unfolding settlements_from
  steps_same l [] = refl
  steps_same l (row ∷ rows) =
      ap (λ b. lane_settlements s.copies l row b ++ settlements_from other (l + 1) rows) (durable_same l)
      ∙ ap (λ xs. lane_settlements s.copies l row (durable_of s l) ++ xs) (steps_same (l + 1) rows)

  settlements_same : (w : World) (k : ℕ) → slice_get (settlements other w) k ≡ slice_get (settlements s w) k
  settlements_same w k = ap (λ (xs : List Settlement). slice_get xs k) (steps_same 0 w.lanes)

  settle_same : (w : World) (k : ℕ) (choices : List Bool) (o : Option Settlement) → slice_get (settlements s w) k ≡ o → AreMessages (settles s w choices o).world
      → SameAfter (settles s w choices o) (settles other w choices o)
  settle_same w k choices None is read = record { world = refl; choices = refl; lines = no_lines }
  settle_same w k choices (Some (Opens l)) is read = record { world = refl; choices = refl; lines = no_lines }
  settle_same w k choices (Some (Sends l message drops)) is read = record {
    world = refl;
    choices = refl;
    lines = settled l message (host_reply s.issuer s.accounts w.messages message) is_read
        (replies_written s.issuer s.accounts w.messages message fits.tables.accounts) no_lines;
  }
    where
      row_is : lane_at (settles s w choices (Some (Sends l message drops))).world l ≡ lane_settled message drops (lane_at w l)
      row_is = get_or-set_same w.lanes l (lane_settled message drops (lane_at w l)) new_lane (settles_inside s w.lanes k (Sends l message drops) is)

      is_read : IsMessage message
      is_read = last_message (lane_at w l).sent message (subst (λ (row : LaneRow). All IsMessage row.sent) row_is (read l))

  audit_same : (w : World) (choices : List Bool) (o : Option Check) → SameAfter (audits w choices o) (audits w choices o)
  audit_same w choices None = record { world = refl; choices = refl; lines = no_lines }
  audit_same w choices (Some (PowersUp i card)) = record { world = refl; choices = refl; lines = (same_line _ refl no_lines) }
  audit_same w choices (Some (Asks i card command)) = record { world = refl; choices = refl; lines = (same_line _ refl (same_line _ refl no_lines)) }

  event_same : (w : World) (e : Event) (choices : List Bool) → IsWorldSound s w → AreMessages (happens s w e choices).world
      → SameAfter (happens s w e choices) (happens other w e choices)
  event_same w (Turn l) choices sound read = turn_same w l choices sound read
  event_same w (Settle k) choices sound read =
      subst (λ (o : Option Settlement). SameAfter (settles s w choices (slice_get (settlements s w) k)) (settles other w choices o)) (sym (settlements_same w k))
      (settle_same w k choices (slice_get (settlements s w) k) refl read)
  event_same w (Audit k) choices sound read = audit_same w choices (slice_get (checks s) k)

  -- and so each run
  record Other (place : RunPlace) (n : ℕ) (choices : List Bool) (lines : List Line) (w : World) : Type 0 where
    pub others : List Line
    pub reached : Reached other place n choices others w
    pub respelled : AreRespelled before after lines others

  goes : (here there : RunPlace) (n : ℕ) (cs c : List Bool) (ls new : List Line) (w w' : World) (e : Event) → IsWorldSound s w → AreMessages w' → (AreMessages w → Other here n cs ls w)
      → Step s w e c new w' → ((others made : List Line) → Reached other here n cs others w → Step other w e c made w' → Reached other there (n + 1) (cs ++ c) (others ++ made) w')
      → Other there (n + 1) (cs ++ c) (ls ++ new) w'
  goes here there n cs c ls new w w' e sound read earlier step grows =
      let led : AreMessages (happens s w e c).world = subst AreMessages step.leads read in
      let far : Other here n cs ls w = earlier (messages_before s w e c led) in
      let both : SameAfter (happens s w e c) (happens other w e c) = event_same w e c sound led in
      let made : List Line = (happens other w e c).lines in
      record {
        others = far.others ++ made;
        reached = grows far.others made far.reached (record { taken = step.taken ∙ both.choices; made = refl; leads = step.leads ∙ both.world });
        respelled = respelled-append before after ls far.others new made far.respelled
            (subst (λ (xs : List Line). AreRespelled before after xs made) (sym step.made) both.lines);
      }

  stands_at : (here there : RunPlace) (n : ℕ) (cs : List Bool) (ls : List Line) (w : World) → Other here n cs ls w
      → ((others : List Line) → Reached other here n cs others w → Reached other there n cs others w) → Other there n cs ls w
  stands_at here there n cs ls w far moves = record { others = far.others; reached = moves far.others far.reached; respelled = far.respelled }

  other_run : (place : RunPlace) (n : ℕ) (choices : List Bool) (lines : List Line) (w : World) → Reached s place n choices lines w → AreMessages w → Other place n choices lines w
  other_run _ _ _ _ _ start read = record {
    others = [];
    reached =
        subst (λ (rows : List LaneRow). Reached other (Scheduled 0) 0 [] [] (record { cards = (first_world s).cards; lanes = rows; messages = [] }))
        (new_lanes 0 s.lanes) start;
    respelled = no_lines;
  }
  other_run _ _ _ _ _ (scheduled {k} {l} {n} {cs} {c} {ls} {new} {w = v} {w' = v'} before_it at step) read =
      goes _ _ n cs c ls new v v' (Turn l) (reached_sound s _ n cs ls v before_it) read (other_run _ n cs ls v before_it) step (λ others made far next. scheduled far at next)
  other_run _ _ _ _ _ (rounds {n} {cs} {ls} {w = v} before_it) read = stands_at _ _ n cs ls v (other_run _ n cs ls v before_it read) (λ others far. rounds far)
  other_run _ _ _ _ _ (round {l} {n} {cs} {c} {ls} {new} {w = v} {w' = v'} before_it inside busy step) read =
      goes _ _ n cs c ls new v v' (Turn l) (reached_sound s _ n cs ls v before_it) read (other_run _ n cs ls v before_it) step
      (λ others made far next. round far (subst (λ m. l < m) (sym (lane_count 0 s.lanes)) inside) (λ first. all_same v ∙ busy first) next)
  other_run _ _ _ _ _ (again {n} {cs} {ls} {w = v} before_it) read =
      stands_at _ _ n cs ls v (other_run _ n cs ls v before_it read)
      (λ others far. again (subst (λ m. Reached other (Round m) n cs others v) (sym (lane_count 0 s.lanes)) far))
  other_run _ _ _ _ _ (settlement {n} {cs} {ls} {w = v} before_it over) read =
      stands_at _ _ n cs ls v (other_run _ n cs ls v before_it read) (λ others far. settlement far (all_same v ∙ over))
  other_run _ _ _ _ _ (settling {k} {n} {cs} {c} {ls} {new} {w = v} {w' = v'} before_it at step) read =
      goes _ _ n cs c ls new v v' (Settle k) (reached_sound s _ n cs ls v before_it) read (other_run _ n cs ls v before_it) step (λ others made far next. settling far (settlements_same v k ∙ at) next)
  other_run _ _ _ _ _ (audit {k} {n} {cs} {ls} {w = v} before_it past) read = stands_at _ _ n cs ls v (other_run _ n cs ls v before_it read) (λ others far. audit far (settlements_same v k ∙ past))
  other_run _ _ _ _ _ (auditing {k} {n} {cs} {c} {ls} {new} {w = v} {w' = v'} before_it at step) read =
      goes _ _ n cs c ls new v v' (Audit k) (reached_sound s _ n cs ls v before_it) read (other_run _ n cs ls v before_it) step (λ others made far next. auditing far at next)
  other_run _ _ _ _ _ (finished {k} {n} {cs} {ls} {w = v} before_it past) read =
      stands_at _ _ n cs ls v (other_run _ n cs ls v before_it read) (λ others far. finished far past)

  -- the lines at the end are no messages
  balance_same : (pan : List ℕ) (o : Option ℤ) → AreRespelled before after (balance_line pan o) (balance_line pan o)
  balance_same pan None = no_lines
  balance_same pan (Some amount) = (same_line _ refl no_lines)

  accounts_same : (w : World) (accounts : List AccountData)
      → AreRespelled before after (flat_map (account_lines s w) accounts) (flat_map (account_lines s w) accounts)
  accounts_same w [] = no_lines
  accounts_same w (account ∷ accounts) =
      respelled-append before after (account_lines s w account) (account_lines s w account) (flat_map (account_lines s w) accounts)
      (flat_map (account_lines s w) accounts) (balance_same account.pan (balance_after s.issuer s.accounts w.messages account.pan)) (accounts_same w accounts)

  closing_same : (w : World) → AreRespelled before after (closing s w) (closing s w)
  closing_same w =
      respelled-append before after (flat_map (account_lines s w) s.accounts) (flat_map (account_lines s w) s.accounts) (Done (ended_count w) ∷ [])
      (Done (ended_count w) ∷ []) (accounts_same w s.accounts) (same_line _ refl no_lines)

pub dialects_show : DialectsShow
dialects_show s iso place n choices lines w fits reached read =
    let one : Other s iso fits place n choices lines w = other_run s iso fits place n choices lines w reached read in (one.others, one.reached, one.respelled)

pub whole_dialects_show : WholeDialectsShow
whole_dialects_show s iso lines w fits run read =
    let one : Other s iso fits Finished run.count run.choices run.reported w = other_run s iso fits Finished run.count run.choices run.reported w run.reached read in (
      one.others ++ closing s w,
      record { count = run.count; choices = run.choices; reported = one.others; reached = one.reached; whole = refl },
      subst (λ (xs : List Line). AreRespelled (dialect_of s) (dialect_of (in_dialects iso s)) xs (one.others ++ closing s w)) (sym run.whole)
          (respelled-append (dialect_of s) (dialect_of (in_dialects iso s)) run.reported one.others (closing s w) (closing s w) one.respelled
          (closing_same s iso fits w)),
    )
