-- The session of a running purchase's card is what its lane's lines tell since the last power line: the law `RunsTellSessions`.
use Rattle.std.proofs.Common.{◌≡◌, ◌≢◌, ℕ, zero, suc, ◌⊎◌, ◌+◌, Bool, true, false, if◌then◌else◌, List, [], ◌∷◌, ◌++◌, length, replicate, slice_get, Option, Some, None, refl, sym, ap, ◌∙◌, subst, inl, inr, arith, length-append}
use Rattle.std.specs.Prelude.{◌==◌}
use Rattle.std.specs.List.{fold}
use Rattle.std.proofs.lemmas.Bool.{eq-eqb, cases_eq}
use Rattle.std.proofs.lemmas.List.{get_or-set_other}
use Rattle.std.proofs.lemmas.List.Sums.{fold_push, fold-append}
use Rattle.std.proofs.lemmas.Option.{same_Some}
use Rattle.capture_store.specs.StoreRow.{opened_to_add, is_next_cut}
use Rattle.card_app.specs.Answering.{card_answer}
use Rattle.card_app.specs.Session.{Exchange}
use Rattle.card_app.specs.Cuts.{Cut, cut_of}
use Rattle.card_app.specs.Pages.{found_of}
use Rattle.card_state.specs.Decisions.{Decided}
use Rattle.emv_ports.specs.Cut.{names_commit}
use Rattle.host_link.specs.Delivery.{heard}
use Rattle.issuer_host.specs.History.{host_reply}
use Rattle.kernel.specs.Dialogue.{dialogue}
use Rattle.kernel.specs.Ended.{EndData}
use Rattle.kernel.specs.Reply.{Reply, CardSaid, CardGone, from_host, Deed, ToCard, ToHost, Over}
use Rattle.report_text.specs.declared.line.Line.{Line}
use Rattle.report_text.specs.declared.line.Line.TheVariants.{EndLost}
use Rattle.scenario_plan.specs.Plan.{ScenarioData}
use Rattle.txn_replay.specs.Changes.{exchanged, told_once, row_torn, lost}
use Rattle.txn_replay.specs.Lines.{power_line, power_canned_line, power_torn_line, answer_lines, torn_lines, gone_lines, host_lines, settle_lines, outcome_line}
use Rattle.txn_replay.specs.Part.{Part, Moved, loses, ended_by_record, sending, on_for, cut_ends, lane_answered_by, canned_by, asked_of_card, asked, purchase_begun, begun_by, begun_with, piece_by, piece, still}
use Rattle.txn_replay.specs.Payment.{Payment, payment_in, next_of, outset_for, end_at}
use Rattle.txn_replay.specs.Run.{RunPlace, Settling, Auditing, Reached, start, scheduled, rounds, round, again, settlement, settling, audit, auditing, finished}
use Rattle.txn_replay.specs.Sessions.{SessionTold, untold_session, session_answered, session_by_line, session_told, IsSessionOf, RunsTellSessions}
use Rattle.txn_replay.specs.Sound.{IsWorldSound, RunsIn, holder_in}
use Rattle.txn_replay.specs.Steps.{part_of, lane_moved, choice_in, turned_by, happens, Step}
use Rattle.txn_replay.specs.Storing.{part_with, lost_with, copied, copy_lines, dropped_by, delivers_first, more_chosen, lane_piece}
use Rattle.txn_replay.specs.World.{Holder, CardRow, LaneRow, World, new_card, new_lane, card_at, lane_at}
use Rattle.txn_replay.specs.declared.event.Event.TheVariants.{Turn}
use Rattle.txn_replay.proofs.ExchangeLaws.LaneMoves.{Outcome, kept, moves, lane_outcome}
use Rattle.txn_replay.proofs.ExchangeLaws.PurchaseFacts.{payment_facts}
use Rattle.txn_replay.proofs.ExchangeLaws.SixWays.{lane_ways}
use Rattle.txn_replay.proofs.Lists.{get_or-map_const}
use Rattle.txn_replay.proofs.RunLaws.FairRuns.{reached_sound}
use Rattle.txn_replay.proofs.RunLaws.LinesReached.{apart, lane_behind, card_behind}
use Rattle.txn_replay.proofs.RunLaws.SoundWorlds.{moved_still, has_card}
use Rattle.txn_replay.proofs.RunLaws.TurnsEnd.{calm_over, not_over}

-- settlement lines tell nothing of a card
copies_untold : (p : Payment) (k : ℕ) (u : SessionTold) (message : List ℕ) (messages : List (List ℕ)) (n : ℕ)
    → fold (session_by_line k) u (copy_lines p message messages n) ≡ u
copies_untold p k u message messages zero = refl
copies_untold p k u message messages (suc n) =
    fold-append (session_by_line k) u (copy_lines p message messages n)
    (settle_lines p.iso p.lane message (host_reply p.issuer p.accounts (messages ++ replicate n message) message))
    ∙ copies_untold p k u message messages n

-- behind an exchange of a lane: its lines tell other lanes nothing, and where its purchase runs, its card's session
record Follows (p : Payment) (ended : ℕ) (t : SessionTold) (m : Moved) : Type 0 where
  pub others : (k : ℕ) → k ≢ p.lane → (u : SessionTold) → fold (session_by_line k) u m.lines ≡ u
  pub own : (replies : List Reply) → m.part.lane.running ≡ Some replies
      → IsSessionOf p.card.canned m.part.card (fold (session_by_line p.lane) t m.lines).exchanges × (length m.part.lane.ended ≡ ended)

module _ (p : Payment) (part : Part) (t : SessionTold) (known : (replies : List Reply) → part.lane.running ≡ Some replies → IsSessionOf p.card.canned part.card t.exchanges) where
  abbrev Goes : Moved → Type 0
  Goes m = Follows p (length part.lane.ended) t m

  abbrev Others : List Line → Type 0
  Others lines = (k : ℕ) → k ≢ p.lane → (u : SessionTold) → fold (session_by_line k) u lines ≡ u

  same : (p.lane == p.lane) ≡ true
  same = eq-eqb p.lane p.lane refl

  still_goes : Goes (still part)
  still_goes = record { others = λ k other u. refl; own = λ replies runs. (known replies runs, refl) }

  outcome_untold : (gone : Bool) (number : ℕ) (end : EndData) (k : ℕ) (u : SessionTold) → session_by_line k u (outcome_line gone p.lane number end) ≡ u
  outcome_untold true number end k u = refl
  outcome_untold false number end k u = refl

  ended_goes : (replies : List Reply) (at : Part) (lines : List Line) (e : Option EndData) → length at.lane.ended ≡ length part.lane.ended → Others lines
      → IsSessionOf p.card.canned at.card (fold (session_by_line p.lane) t lines).exchanges → Goes (ended_by_record p replies at lines e)
  ended_goes replies at lines None count others own = record { others = others; own = λ more runs. (own, count) }
  ended_goes replies at lines (Some end) count others own = record {
    others = λ k other u.
        fold_push (session_by_line k) u lines (outcome_line (loses p at.lane.store end.capture) p.lane (length at.lane.ended + 1) end)
        ∙ outcome_untold (loses p at.lane.store end.capture) (length at.lane.ended + 1) end k (fold (session_by_line k) u lines)
        ∙ others k other u;
    own = λ more runs. cc;
  }

  cut_goes : (replies : List Reply) (cut : Part) (lines : List Line) (e : Option EndData) → Others lines → Goes (cut_ends p replies part cut lines e)
  cut_goes replies cut lines None others = still_goes
  cut_goes replies cut lines (Some end) others = record {
    others = λ k other u.
        fold_push (session_by_line k) u lines (outcome_line (loses p cut.lane.store end.capture) p.lane (length cut.lane.ended + 1) end)
        ∙ outcome_untold (loses p cut.lane.store end.capture) (length cut.lane.ended + 1) end k (fold (session_by_line k) u lines)
        ∙ others k other u;
    own = λ more runs. cc;
  }

  -- a command and its answer
  answered_told : (command answer : List ℕ) → fold (session_by_line p.lane) t (answer_lines p.lane command answer) ≡ session_answered (record { command = command; exchanges = t.exchanges }) answer
  answered_told command answer =
      let asks : SessionTold = record { command = command; exchanges = t.exchanges } in
      ap (λ b. if b then session_answered (if b then asks else t) answer else (if b then asks else t)) same

  answered_others : (command answer : List ℕ) → Others (answer_lines p.lane command answer)
  answered_others command answer k other u =
      let asks : SessionTold = record { command = command; exchanges = u.exchanges } in
      ap (λ b. if b then session_answered (if b then asks else u) answer else (if b then asks else u)) (apart k p.lane other)

  asked_others : (command : List ℕ) (k : ℕ) → k ≢ p.lane → (u : SessionTold)
      → (if p.lane == k then record { command = command; exchanges = u.exchanges } else u) ≡ u
  asked_others command k other u =
      let asks : SessionTold = record { command = command; exchanges = u.exchanges } in ap (λ b. if b then asks else u) (apart k p.lane other)

  of_card : (o : Option (List (List ℕ))) → p.card.canned ≡ o → (card : CardRow) (u v : SessionTold) → u ≡ v → IsSessionOf o card v.exchanges → IsSessionOf p.card.canned card u.exchanges
  of_card o is card u v told own =
      subst (λ (x : Option (List (List ℕ))). IsSessionOf x card u.exchanges) (sym is)
      (subst (λ (x : SessionTold). IsSessionOf o card x.exchanges) (sym told) own)

  card_goes : (replies : List Reply) → part.lane.running ≡ Some replies → (command : List ℕ) → (o : Option (List (List ℕ))) → p.card.canned ≡ o
      → Goes (asked_of_card p replies command part o)
  card_goes replies runs command None is = by_cut (cut_of p.planned.tear part.card.made (card_answer p.card.image part.card.kept part.card.session command).new)
    where
      answer : List ℕ
      answer = (card_answer p.card.image part.card.kept part.card.session command).answer

      after : CardRow
      after = exchanged p.card.image part.card command (card_answer p.card.image part.card.kept part.card.session command)

      before : part.card.session ≡ t.exchanges
      before = subst (λ (x : Option (List (List ℕ))). IsSessionOf x part.card t.exchanges) is (known replies runs)

      by_cut : (o : Option Cut) → Goes (lane_answered_by p replies command part (card_answer p.card.image part.card.kept part.card.session command) o)
      by_cut None =
          ended_goes (replies ++ CardSaid answer part.lane.log ∷ []) (record part { card = after }) (answer_lines p.lane command answer)
          (end_at p (replies ++ CardSaid answer part.lane.log ∷ [])) refl (answered_others command answer)
          (of_card None is after _ _ (answered_told command answer)
          (ap (λ (xs : List Exchange). xs ++ record { command = command; answer = answer } ∷ []) before))
      by_cut (Some cut) =
          cut_goes (replies ++ CardGone ∷ []) (record part { card = row_torn part.card p.planned.tear cut }) (torn_lines p.lane command)
          (end_at p (replies ++ CardGone ∷ [])) (asked_others command)
  card_goes replies runs command (Some answers) is = by_next (slice_get answers part.card.told)
    where
      before : part.card.told ≡ length t.exchanges
      before = subst (λ (x : Option (List (List ℕ))). IsSessionOf x part.card t.exchanges) is (known replies runs)

      one_more : (xs : List Exchange) (x : Exchange) → length xs + 1 ≡ length (xs ++ x ∷ [])
      one_more xs x = let both : length (xs ++ x ∷ []) ≡ length xs + length (x ∷ []) = length-append xs (x ∷ []) in omega (arith, both)

      by_next : (o : Option (List ℕ)) → Goes (canned_by p replies command part o)
      by_next (Some answer) =
          ended_goes (replies ++ CardSaid answer part.lane.log ∷ []) (record part { card = told_once part.card }) (answer_lines p.lane command answer)
          (end_at p (replies ++ CardSaid answer part.lane.log ∷ [])) refl (answered_others command answer)
          (of_card (Some answers) is (told_once part.card) _ _ (answered_told command answer)
          (ap (λ n. n + 1) before ∙ one_more t.exchanges (record { command = command; answer = answer })))
      by_next None =
          cut_goes (replies ++ CardGone ∷ []) (record part { card = part.card }) (gone_lines p.lane command) (end_at p (replies ++ CardGone ∷ [])) (asked_others command)

  host_untold : (message : List ℕ) (reply : Option (List ℕ)) (k : ℕ) (u : SessionTold) → fold (session_by_line k) u (host_lines p.iso p.lane message reply) ≡ u
  host_untold message None k u = refl
  host_untold message (Some reply) k u = refl

  deed_goes : (replies : List Reply) → part.lane.running ≡ Some replies → (deed : Deed) → Goes (asked p replies part deed)
  deed_goes replies runs (ToCard command) = card_goes replies runs command p.card.canned refl
  deed_goes replies runs (ToHost message) = by (heard p.planned.link (host_reply p.issuer p.accounts part.messages message))
    where
      by : (reply : Option (List ℕ)) → Goes (ended_by_record p (replies ++ from_host reply ∷ []) (sending p message part) (host_lines p.iso p.lane message reply) (end_at p (replies ++ from_host reply ∷ [])))
      by reply =
          ended_goes (replies ++ from_host reply ∷ []) (sending p message part) (host_lines p.iso p.lane message reply) (end_at p (replies ++ from_host reply ∷ []))
          refl (λ k other u. host_untold message reply k u)
          (subst (λ (u : SessionTold). IsSessionOf p.card.canned part.card u.exchanges) (sym (host_untold message reply p.lane t)) (known replies runs))
  deed_goes replies runs (Over ending) = still_goes

  -- a power line
  begun_told : (line : Line) → session_by_line p.lane t line ≡ untold_session → (o : Option (List (List ℕ))) → p.card.canned ≡ o → (card : CardRow)
      → IsSessionOf o card [] → IsSessionOf p.card.canned card (fold (session_by_line p.lane) t (line ∷ [])).exchanges
  begun_told line told o is card own = of_card o is card (session_by_line p.lane t line) untold_session told own

  begun_others : (k : ℕ) → k ≢ p.lane → (u : SessionTold) → (if p.lane == k then untold_session else u) ≡ u
  begun_others k other u = ap (λ b. if b then untold_session else u) (apart k p.lane other)

  begins_goes : (choice : Bool) (o : Option (List (List ℕ))) → p.card.canned ≡ o → Goes (begun_with p part choice o)
  begins_goes choice None is = by (names_commit p.planned.tear 0)
    where
      found : List Decided
      found = found_of part.card.kept part.card.pending choice

      by : (cut : Bool) → Goes (begun_by p part choice cut)
      by true =
          cut_goes (CardGone ∷ []) (record part { card = lost part.card }) (power_torn_line p.lane p.card ∷ []) (end_at p (CardGone ∷ [])) begun_others
      by false =
          let own : Goes (ended_by_record p [] (on_for p (Some found) found part) (power_line p.lane p.card found ∷ []) (end_at p [])) =
          ended_goes [] (on_for p (Some found) found part) (power_line p.lane p.card found ∷ []) (end_at p []) refl begun_others
          (begun_told (power_line p.lane p.card found) (ap (λ b. if b then untold_session else t) same) None is (on_for p (Some found) found part).card refl) in
          record { others = own.others; own = own.own }
  begins_goes choice (Some answers) is =
      ended_goes [] (on_for p None (found_of part.card.kept part.card.pending false) part) (power_canned_line p.lane p.card ∷ []) (end_at p []) refl begun_others
      (begun_told (power_canned_line p.lane p.card) (ap (λ b. if b then untold_session else t) same) (Some answers) is
      (on_for p None (found_of part.card.kept part.card.pending false) part).card refl)

  piece_goes : (choice : Bool) → Goes (piece p part choice)
  piece_goes choice = by_lane part.lane.running refl
    where
      by_holder : (o : Option Holder) → Goes (purchase_begun p part choice o)
      by_holder None = begins_goes choice p.card.canned refl
      by_holder (Some holder) = still_goes

      by_lane : (o : Option (List Reply)) → part.lane.running ≡ o → Goes (piece_by p part choice o)
      by_lane None is = by_holder part.card.holder
      by_lane (Some replies) is = deed_goes replies is (dialogue (outset_for p) replies).deed

  -- while no purchase runs, and none begins
  rests_goes : (m : Moved) → m.part.lane.running ≡ None → ((k : ℕ) (u : SessionTold) → fold (session_by_line k) u m.lines ≡ u) → Goes m
  rests_goes m rests untold = record {
    others = λ k other u. untold k u;
    own = λ replies runs. (let none : None ≡ Some replies = sym rests ∙ runs in cc);
  }

  lost_untold : (lines : List Line) (number : ℕ) → ((k : ℕ) (u : SessionTold) → fold (session_by_line k) u lines ≡ u)
      → (k : ℕ) (u : SessionTold) → fold (session_by_line k) u (lines ++ EndLost p.lane number ∷ []) ≡ u
  lost_untold lines number untold k u = fold_push (session_by_line k) u lines (EndLost p.lane number) ∙ untold k u

  delivered_goes : part.lane.running ≡ None → (list : List (List ℕ)) → Goes (delivers_first p part list)
  delivered_goes rests [] = still_goes
  delivered_goes rests (message ∷ others) = by (is_next_cut p.planned.terminal_tear part.lane.store)
    where
      untold : (k : ℕ) (u : SessionTold) → fold (session_by_line k) u (copy_lines p message part.messages p.copies) ≡ u
      untold k u = copies_untold p k u message part.messages p.copies

      by : (cut : Bool) → Goes (dropped_by p (copied p message part) (copy_lines p message part.messages p.copies) cut)
      by true = rests_goes (lost_with p (copied p message part) (copy_lines p message part.messages p.copies)) rests
          (lost_untold (copy_lines p message part.messages p.copies) (length part.lane.ended + 1) untold)
      by false = rests_goes (record { part = copied p message part; lines = copy_lines p message part.messages p.copies; choices = 0 }) rests untold

lane_goes : (p : Payment) (part : Part) (t : SessionTold)
    → ((replies : List Reply) → part.lane.running ≡ Some replies → IsSessionOf p.card.canned part.card t.exchanges)
    → (one other : Bool) → Follows p (length part.lane.ended) t (lane_piece p part one other)
lane_goes p part t known one other =
    lane_ways (λ m. Follows p (length part.lane.ended) t m) p part
    (still_goes p part t known)
    (λ choice so. piece_goes p part t known choice)
    (λ at off cut. rests_goes p part t known (lost_with p part []) at.rests (λ k u. refl))
    (λ choice at off full.
    rests_goes p part t known (record { part = part_with (opened_to_add part.lane.store choice) part; lines = []; choices = 1 }) at.rests (λ k u. refl))
    (λ choice second at off room. opened choice second)
    (λ at on. delivered_goes p part t known at.rests part.lane.store.list)
    one other
  where
    opened : (choice second : Bool)
        → Follows p (length part.lane.ended) t (more_chosen (piece p (part_with (opened_to_add part.lane.store choice) part) second))
    opened choice second =
        let own = piece_goes p (part_with (opened_to_add part.lane.store choice) part) t known second in
        record { others = own.others; own = own.own }

-- what a run's lines tell of the sessions of the cards of running purchases
abbrev told_so_far : ℕ → List Line → SessionTold
told_so_far l lines = fold (session_by_line l) untold_session lines

module _ (s : ScenarioData) where
  abbrev AllTold : World → List Line → Type 0
  AllTold w lines = (l : ℕ) (replies : List Reply) (p : Payment) → (lane_at w l).running ≡ Some replies → next_of s w l ≡ Some p
      → IsSessionOf p.card.canned (card_at w p.planned.card) (told_so_far l lines).exchanges

  module _ (w : World) (lines : List Line) (choices : List Bool) (sound : IsWorldSound s w) (all : AllTold w lines) (l : ℕ) (p : Payment) (is : next_of s w l ≡ Some p) where
    abbrev part : Part
    part = part_of w l p.planned.card

    abbrev m : Moved
    m = lane_piece p part (choice_in choices 0) (choice_in choices 1)

    abbrev later : World
    later = (lane_moved w l p.planned.card m).world

    lane : p.lane ≡ l
    lane = (payment_facts s l (length (lane_at w l).ended) p is).lane

    follows : Follows p (length part.lane.ended) (told_so_far p.lane lines) m
    follows =
        lane_goes p part (told_so_far p.lane lines)
        (λ replies runs. subst (λ j. IsSessionOf p.card.canned part.card (told_so_far j lines).exchanges) (sym lane) (all l replies p runs is))
        (choice_in choices 0) (choice_in choices 1)

    here : (replies : List Reply) (q : Payment) → (lane_at later l).running ≡ Some replies → next_of s later l ≡ Some q
        → IsSessionOf q.card.canned (card_at later q.planned.card) (told_so_far l (lines ++ m.lines)).exchanges
    here replies q runs next =
        let row : lane_at later l ≡ m.part.lane = lane_behind s w l p sound is m in
        let now = follows.own replies (ap (λ (x : LaneRow). x.running) (sym row) ∙ runs) in
        let one : q ≡ p = same_Some q p (sym next ∙ ap (λ (x : LaneRow). payment_in s l (length x.ended)) row ∙ ap (λ n. payment_in s l n) now.1 ∙ is) in
        subst (λ (x : Payment). IsSessionOf x.card.canned (card_at later x.planned.card) (told_so_far l (lines ++ m.lines)).exchanges) (sym one)
        (subst (λ (card : CardRow). IsSessionOf p.card.canned card (told_so_far l (lines ++ m.lines)).exchanges) (sym (card_behind s w l p sound is m))
        (subst (λ j. IsSessionOf p.card.canned m.part.card (told_so_far j (lines ++ m.lines)).exchanges) lane
        (subst (λ (u : SessionTold). IsSessionOf p.card.canned m.part.card u.exchanges) (sym (fold-append (session_by_line p.lane) untold_session lines m.lines)) now.0)))

    -- the card of another lane's purchase is left
    left : (k : ℕ) (replies : List Reply) (q : Payment) → k ≢ l → (lane_at w k).running ≡ Some replies → next_of s w k ≡ Some q
        → card_at later q.planned.card ≡ card_at w q.planned.card
    left k replies q other runs next = by (lane_outcome p part (choice_in choices 0) (choice_in choices 1) (has_card s w l p sound is))
      where
        before : RunsIn s w k
        before = sound.runs k replies runs

        holds : (card_at w q.planned.card).holder ≡ Some (holder_in w k)
        holds = ap (λ (x : Payment). (card_at w x.planned.card).holder) (same_Some q before.payment (sym next ∙ before.is)) ∙ before.holds

        by : Outcome p part m.part → card_at later q.planned.card ≡ card_at w q.planned.card
        by (kept stays) = ap (λ (x : World). card_at x q.planned.card) (moved_still w l p.planned.card m.part stays)
        by (moves so) =
            get_or-set_other w.cards p.planned.card q.planned.card m.part.card new_card
            (λ shared. other (ap (λ (h : Holder). h.lane) (so.was (holder_in w k) (ap (λ i. (card_at w i).holder) (sym shared) ∙ holds)) ∙ lane))

    there : (k : ℕ) (replies : List Reply) (q : Payment) → k ≢ l → (lane_at later k).running ≡ Some replies → next_of s later k ≡ Some q
        → IsSessionOf q.card.canned (card_at later q.planned.card) (told_so_far k (lines ++ m.lines)).exchanges
    there k replies q other runs next =
        let row : lane_at later k ≡ lane_at w k = get_or-set_other w.lanes l k m.part.lane new_lane other in
        let ran : (lane_at w k).running ≡ Some replies = ap (λ (x : LaneRow). x.running) (sym row) ∙ runs in
        let was : next_of s w k ≡ Some q = ap (λ (x : LaneRow). payment_in s k (length x.ended)) (sym row) ∙ next in
        subst (λ (card : CardRow). IsSessionOf q.card.canned card (told_so_far k (lines ++ m.lines)).exchanges) (sym (left k replies q other ran was))
        (subst (λ (u : SessionTold). IsSessionOf q.card.canned (card_at w q.planned.card) u.exchanges)
        (sym (fold-append (session_by_line k) untold_session lines m.lines ∙ follows.others k (λ one. other (one ∙ lane)) (told_so_far k lines)))
        (all k replies q ran was))

    moved_told : AllTold later (lines ++ m.lines)
    moved_told k replies q runs next = by (cases_eq k l)
      where
        by : (k ≡ l) ⊎ (k ≢ l) → IsSessionOf q.card.canned (card_at later q.planned.card) (told_so_far k (lines ++ m.lines)).exchanges
        by (inl one) =
            subst (λ j. IsSessionOf q.card.canned (card_at later q.planned.card) (told_so_far j (lines ++ m.lines)).exchanges) (sym one)
            (here replies q (ap (λ j. (lane_at later j).running) (sym one) ∙ runs) (ap (λ j. next_of s later j) (sym one) ∙ next))
        by (inr other) = there k replies q other runs next

  turn_told : (w : World) (lines : List Line) (choices : List Bool) → IsWorldSound s w → AllTold w lines → (l : ℕ) (o : Option Payment) → next_of s w l ≡ o
      → AllTold (turned_by w l choices o).world (lines ++ (turned_by w l choices o).lines)
  turn_told w lines choices sound all l None is = λ k replies q runs next.
      subst (λ (u : SessionTold). IsSessionOf q.card.canned (card_at w q.planned.card) u.exchanges) (sym (fold-append (session_by_line k) untold_session lines []))
      (all k replies q runs next)
  turn_told w lines choices sound all l (Some p) is = moved_told w lines choices sound all l p is

  step_told : (w : World) (lines : List Line) (l : ℕ) (choices : List Bool) (new : List Line) (after : World)
      → Step s w (Turn l) choices new after → IsWorldSound s w → AllTold w lines → AllTold after (lines ++ new)
  step_told w lines l choices new after step sound all =
      subst (λ (x : World). AllTold x (lines ++ new)) (sym step.leads)
      (subst (λ (xs : List Line). AllTold (happens s w (Turn l) choices).world (lines ++ xs)) (sym step.made)
      (turn_told w lines choices sound all l (next_of s w l) refl))

  -- where the turns are over none runs
  calm_told : (w : World) (lines : List Line) → ((l : ℕ) (p : Payment) → next_of s w l ≡ Some p → ⊥) → AllTold w lines
  calm_told w lines none l replies p runs next = absurd (none l p next)

  all_told : (place : RunPlace) (n : ℕ) (choices : List Bool) (lines : List Line) (w : World) → Reached s place n choices lines w → AllTold w lines
  all_told _ _ _ _ _ start = λ l replies p runs next.
      absurd (let none : None ≡ Some replies = ap (λ (row : LaneRow). row.running) (sym (get_or-map_const s.lanes l new_lane)) ∙ runs in cc)
  all_told _ _ _ _ _ (scheduled {l = l} {n = n} {cs = cs} {c = c} {ls = ls} {new = new} {w = v} {w' = v'} before at step) =
      step_told v ls l c new v' step (reached_sound s _ n cs ls v before) (all_told _ n cs ls v before)
  all_told _ _ _ ls w (rounds before) = all_told _ _ _ ls w before
  all_told _ _ _ _ _ (round {l = l} {n = n} {cs = cs} {c = c} {ls = ls} {new = new} {w = v} {w' = v'} before inside on step) =
      step_told v ls l c new v' step (reached_sound s _ n cs ls v before) (all_told _ n cs ls v before)
  all_told _ _ _ ls w (again before) = all_told _ _ _ ls w before
  all_told _ _ _ ls w (settlement before over) = all_told _ _ _ ls w before
  all_told _ _ _ _ _ (settling {k = k} {n = n} {cs = cs} {c = c} {ls = ls} {new = new} {w' = v'} before at step) =
      calm_told v' (ls ++ new) (λ l p next. not_over s v' l p next (calm_over s (Settling (k + 1)) (n + 1) (cs ++ c) (ls ++ new) v' (settling before at step) tt))
  all_told _ _ _ ls w (audit before past) = all_told _ _ _ ls w before
  all_told _ _ _ _ _ (auditing {k = k} {n = n} {cs = cs} {c = c} {ls = ls} {new = new} {w' = v'} before at step) =
      calm_told v' (ls ++ new) (λ l p next. not_over s v' l p next (calm_over s (Auditing (k + 1)) (n + 1) (cs ++ c) (ls ++ new) v' (auditing before at step) tt))
  all_told _ _ _ ls w (finished before past) = all_told _ _ _ ls w before

pub sessions_are_told : RunsTellSessions
unfolding session_told
sessions_are_told s place n choices lines w l replies p reached runs next = all_told s place n choices lines w reached l replies p runs next
