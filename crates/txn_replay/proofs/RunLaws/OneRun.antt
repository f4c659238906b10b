-- Where no tear leaves a choice, a scenario has one run.
-- Without a choice a power-up finds what was decided: the laws `NoneIsOpen` and `RunIsOne`.
use Rattle.std.proofs.Common.{◌≡◌, ℕ, zero, suc, ◌⊎◌, ◌+◌, ◌≤◌, ◌<◌, ◌&&◌, Bool, true, false, List, [], ◌∷◌, ◌++◌, length, slice_get, Option, Some, None, refl, sym, ap, ◌∙◌, inl, inr, arith}
use Rattle.std.specs.Prelude.{◌==◌, not, if◌then◌else◌, option_map, option_and_then}
use Rattle.std.proofs.lemmas.Bool.{eqb-true, eq-eqb, cases_lt}
use Rattle.std.proofs.lemmas.Option.{same_Some}
use Rattle.capture_store.specs.Calls.{Call, Adds, Drops, list_found, call_left_at, call_left_by}
use Rattle.capture_store.specs.StoreRow.{StoreRow, commit_next, is_next_cut, store_opened, opened_to_add, opened_to_settle, made_call, cut_call, call_under_plan, ended_by}
use Rattle.card_app.specs.Cuts.{Cut, Dropped, Pending, behind_one, cut_of, fate_by, pending_by}
use Rattle.emv_ports.specs.Cut.{commit_of}
use Rattle.card_app.specs.Pages.{found_of}
use Rattle.card_state.specs.Decisions.{Decided}
use Rattle.emv_ports.specs.Cut.{names_commit}
use Rattle.emv_ports.specs.declared.tear.Tear.{Tear}
use Rattle.emv_ports.specs.declared.tear.TearAt.{TearAt}
use Rattle.emv_ports.specs.declared.tear.TearAt.TheVariants.{Before, Within, Release}
use Rattle.kernel.specs.Reply.{Reply}
use Rattle.report_text.specs.declared.line.Line.{Line}
use Rattle.scenario_plan.specs.Cards.{CardData}
use Rattle.scenario_plan.specs.Plan.{ScenarioData}
use Rattle.txn_replay.specs.Changes.{powered}
use Rattle.txn_replay.specs.Choices.{leaves_open, leaves_choice, HasNoChoice, LeavesNone, IsClosed, NoneIsOpen, IsSameRun, RunIsOne}
use Rattle.txn_replay.specs.Lines.{audit_power_line}
use Rattle.txn_replay.specs.Part.{Part, Moved, powered_up, purchase_begun, begun_by, begun_with, piece_by, piece}
use Rattle.txn_replay.specs.Payment.{Payment, next_of}
use Rattle.txn_replay.specs.Run.{RunPlace, Scheduled, Round, Settling, Auditing, Finished, Reached, start, scheduled, rounds, round, again, settlement, settling, audit, auditing, finished, all_over, closing}
use Rattle.txn_replay.specs.Steps.{After, Check, PowersUp, Asks, Settlement, Opens, Sends, with_lane, settled_store, lane_settled, settlements, settles, checks, audits, with_card, part_of, lane_moved, choice_in, turned_by, happens, Step}
use Rattle.txn_replay.specs.Storing.{part_with, copied, copy_lines, dropped_by, delivers_first, opened_for, opens_by, goes_through, stored_by, free_by, runs_by, before_by, more_chosen, moved_behind, lane_piece}
use Rattle.txn_replay.specs.World.{Holder, CardRow, LaneRow, World, new_card, new_lane, first_world, card_at, lane_at, with_store}
use Rattle.txn_replay.specs.declared.event.Event.{Event}
use Rattle.txn_replay.specs.declared.event.Event.TheVariants.{Turn, Settle, Audit}
use Rattle.txn_replay.proofs.ExchangeLaws.ExchangeCases.{Tells, StoreTells, lane_tells}
use Rattle.txn_replay.proofs.RunLaws.CardsReached.{reached_keeps}
use Rattle.txn_replay.proofs.ExchangeLaws.LaneOutcomes.{piece_lane}
use Rattle.txn_replay.proofs.Lists.{at_set, get_or-map_const}
use Rattle.txn_replay.proofs.ExchangeLaws.LaneMessages.{Later, as_is, beginning, messaging}
use Rattle.txn_replay.proofs.ExchangeLaws.SixWays.{lane_ways}

-- a tear of the power-up cuts no decision
never_cut : (tear : Tear) → tear.commit ≡ 0 → (made : ℕ) (ds : List Decided) → cut_of (Some tear) made ds ≡ None
unfolding cut_of
never_cut tear none made [] = refl
never_cut tear none made (d ∷ ds) = by (tear.commit == commit_of (made + 1)) refl (never_cut tear none (made + 1) ds)
  where
    by : (b : Bool) → (tear.commit == commit_of (made + 1)) ≡ b → cut_of (Some tear) (made + 1) ds ≡ None
        → (if b then Some (record { before = []; cut = d }) else option_map (behind_one d) (cut_of (Some tear) (made + 1) ds)) ≡ None
    by true is later = let same : tear.commit ≡ commit_of (made + 1) = eqb-true tear.commit (commit_of (made + 1)) is in absurd (omega (arith, same, none))
    by false is later = ap (option_map (behind_one d)) later

-- nor does none
unplanned_none : (made : ℕ) (ds : List Decided) → cut_of None made ds ≡ None
unfolding cut_of
unplanned_none made [] = refl
unplanned_none made (d ∷ ds) = ap (option_map (behind_one d)) (unplanned_none (made + 1) ds)

-- what a tear that leaves no choice leaves of a decision
closed_left : (tear : Option Tear) → leaves_choice tear ≡ false → (made : ℕ) (ds : List Decided) (cut : Cut) → cut_of tear made ds ≡ Some cut
    → pending_by (fate_by tear) cut ≡ None
closed_left None none made ds cut is = absurd (unplanned made ds is)
  where
    unplanned : (made : ℕ) (ds : List Decided) → cut_of None made ds ≡ Some cut → ⊥
    unplanned made ds is = let other : cut_of None made ds ≡ None = unplanned_none made ds in cc
closed_left (Some tear) none made ds cut is = by_commit (tear.commit == 0) refl none
  where
    by_place : (at : TearAt) → leaves_open at ≡ false → pending_by (fate_by (Some (record { commit = tear.commit; at = at }))) cut ≡ None
    by_place (Before number) closed = by (number == 1) refl closed
      where
        by : (b : Bool) → (number == 1) ≡ b → not b ≡ false → pending_by (if b then Dropped else Pending) cut ≡ None
        by true is closed = refl
        by false is closed = cc
    by_place (Within number) closed = cc
    by_place Release closed = refl

    by_commit : (b : Bool) → (tear.commit == 0) ≡ b → (not b && leaves_open tear.at) ≡ false → pending_by (fate_by (Some tear)) cut ≡ None
    by_commit true first closed = absurd (let nothing : cut_of (Some tear) made ds ≡ None = never_cut tear (eqb-true tear.commit 0 first) made ds in cc)
    by_commit false other closed = by_place tear.at closed

module _ (p : Payment) (part : Part) (none : leaves_choice p.planned.tear ≡ false) (closed : part.card.pending ≡ None) where
  abbrev Came : LaneRow → List Reply → CardRow → List (List ℕ) → List Line → Type 0
  Came lane replies card messages lines = card.pending ≡ None

  abbrev Behind : Part → List Line → Type 0
  Behind after lines = after.card.pending ≡ None

  tells_closed : Tells p part Came Behind
  tells_closed = record {
    still = closed;
    goes = λ lane later replies card messages lines came. came;
    ends = λ lane later replies card messages lines came end is. came;
    powers = λ rests free apps choice. refl;
    power_cut = λ rests free apps is. closed;
    powers_canned = λ rests free answers canned. refl;
    answers = λ replies runs apps command asks. closed;
    cuts = λ replies runs command cut at. closed_left p.planned.tear none part.card.made _ cut at;
    tells = λ replies runs answers canned command answer. closed;
    gone = λ replies runs answers canned command. closed;
    hosts = λ replies runs message asks reply is. closed;
  }

module _ (p : Payment) (part : Part) (none : leaves_choice p.planned.tear ≡ false) (closed : part.card.pending ≡ None) where
  store_closed : StoreTells p part (Came p part none closed) (Behind p part none closed)
  store_closed = record {
    own = tells_closed p part none closed;
    again = λ one at off. tells_closed p (part_with (opened_to_add part.lane.store one) part) none closed;
    opened = λ one at off. closed;
    lost = λ at cut. closed;
    sent = λ at message. closed;
    sent_lost = λ at message cut. closed;
  }

-- a call that a plan without a choice cuts is left undone, or done
closed_call : (plan : Option Tear) → leaves_choice plan ≡ false → (store : StoreRow) → is_next_cut plan store ≡ true → (list : List (List ℕ)) (call : Call)
    → (call_left_by plan list call).lost ≡ None
closed_call None none store cut list call = cc
closed_call (Some tear) none store cut list call = by_commit (tear.commit == 0) refl none
  where
    by_place : (at : TearAt) → leaves_open at ≡ false → (call_left_at at list call).lost ≡ None
    by_place (Before number) closed = by (number == 1) refl closed
      where
        by : (b : Bool) → (number == 1) ≡ b → not b ≡ false → (if b then None else Some call) ≡ None
        by true is closed = refl
        by false is closed = cc
    by_place (Within number) closed = cc
    by_place Release closed = refl

    by_commit : (b : Bool) → (tear.commit == 0) ≡ b → (not b && leaves_open tear.at) ≡ false → (call_left_at tear.at list call).lost ≡ None
    by_commit true first closed =
        let zero_is : tear.commit ≡ 0 = eqb-true tear.commit 0 first in
        let next : tear.commit ≡ commit_next store = eqb-true tear.commit (commit_next store) cut in
        absurd (omega (arith, zero_is, next))
    by_commit false other closed = by_place tear.at closed

-- behind a call under it no call is lost
call_closed : (plan : Option Tear) → leaves_choice plan ≡ false → (store : StoreRow) → store.lost ≡ None → (call : Call) → (call_under_plan plan store call).lost ≡ None
call_closed plan none store closed call = by (is_next_cut plan store) refl
  where
    by : (cut : Bool) → is_next_cut plan store ≡ cut → (if cut then cut_call plan store call else made_call store call).lost ≡ None
    by true is = closed_call plan none store is store.list call
    by false is = closed

ended_closed : (plan : Option Tear) → leaves_choice plan ≡ false → (store : StoreRow) → store.lost ≡ None → (capture : Option (List ℕ)) → (durable : Bool)
    → (if durable then ended_by plan store capture else store).lost ≡ None
ended_closed plan none store closed None true = closed
ended_closed plan none store closed (Some message) true = call_closed plan none store closed (Adds message)
ended_closed plan none store closed capture false = closed

later_closed : (before lane : LaneRow) → Later before lane → before.store.lost ≡ None → lane.store.lost ≡ None
later_closed before _ as_is closed = closed
later_closed before _ (beginning found) closed = closed
later_closed before _ (messaging message) closed = closed

lane_closed : (p : Payment) (part : Part) → leaves_choice p.planned.terminal_tear ≡ false → part.lane.store.lost ≡ None → (one other : Bool)
    → (lane_piece p part one other).part.lane.store.lost ≡ None
lane_closed p part none closed one other =
    lane_ways (λ m. m.part.lane.store.lost ≡ None) p part
    closed
    (λ choice so. piece_closed part choice closed)
    (λ at off cut. closed)
    (λ choice at off full. refl)
    (λ choice second at off room. piece_closed (part_with (opened_to_add part.lane.store choice) part) second refl)
    (λ at on. delivered part.lane.store.list)
    one other
  where
    piece_closed : (at : Part) (choice : Bool) → at.lane.store.lost ≡ None → (piece p at choice).part.lane.store.lost ≡ None
    piece_closed at choice is =
        piece_lane (λ row. row.store.lost ≡ None) p at is
        (λ lane replies later. later_closed at.lane lane later is)
        (λ lane replies end later. ended_closed p.planned.terminal_tear none lane.store (later_closed at.lane lane later is) end.capture p.durable) choice

    delivered : (list : List (List ℕ)) → (delivers_first p part list).part.lane.store.lost ≡ None
    delivered [] = closed
    delivered (message ∷ others) = by (is_next_cut p.planned.terminal_tear part.lane.store)
      where
        by : (cut : Bool) → (dropped_by p (copied p message part) (copy_lines p message part.messages p.copies) cut).part.lane.store.lost ≡ None
        by true = call_closed p.planned.terminal_tear none part.lane.store closed Drops
        by false = call_closed p.planned.terminal_tear none part.lane.store closed Drops

module _ (s : ScenarioData) (leaves : LeavesNone s) where
  turn_closed : (w : World) (l : ℕ) (choices : List Bool) → IsClosed w → (o : Option Payment) → next_of s w l ≡ o
      → IsClosed (turned_by w l choices o).world
  turn_closed w l choices none None is = none
  turn_closed w l choices none (Some p) is =
      let part : Part = part_of w l p.planned.card in
      let own : HasNoChoice p = leaves l _ p is in
      let m : Moved = lane_piece p part (choice_in choices 0) (choice_in choices 1) in
      record {
        cards = at_set (λ (i : ℕ) (card : CardRow). card.pending ≡ None) w.cards p.planned.card m.part.card new_card
            (lane_tells p part (Came p part own.card (none.cards p.planned.card)) (Behind p part own.card (none.cards p.planned.card))
            (store_closed p part own.card (none.cards p.planned.card)) (choice_in choices 0) (choice_in choices 1)) none.cards;
        stores = at_set (λ (i : ℕ) (row : LaneRow). row.store.lost ≡ None) w.lanes l m.part.lane new_lane
            (lane_closed p part own.terminal (none.stores l) (choice_in choices 0) (choice_in choices 1)) none.stores;
      }

  event_closed : (w : World) (e : Event) (choices : List Bool) → IsClosed w → IsClosed (happens s w e choices).world
  event_closed w (Turn l) choices none = turn_closed w l choices none (next_of s w l) refl
  event_closed w (Settle k) choices none = by (slice_get (settlements s w) k)
    where
      settled : (drops : Bool) (store : StoreRow) → store.lost ≡ None → (settled_store drops store).lost ≡ None
      settled true store closed = closed
      settled false store closed = closed

      by : (o : Option Settlement) → IsClosed (settles s w choices o).world
      by None = none
      by (Some (Opens l)) = record {
        cards = none.cards;
        stores = at_set (λ (i : ℕ) (row : LaneRow). row.store.lost ≡ None) w.lanes l
            (with_store (opened_to_settle (lane_at w l).store (choice_in choices 0)) (lane_at w l)) new_lane refl none.stores;
      }
      by (Some (Sends l message drops)) = record {
        cards = none.cards;
        stores = at_set (λ (i : ℕ) (row : LaneRow). row.store.lost ≡ None) w.lanes l (lane_settled message drops (lane_at w l)) new_lane
            (settled drops (lane_at w l).store (none.stores l)) none.stores;
      }
  event_closed w (Audit k) choices none = by (slice_get (checks s) k)
    where
      with_closed : (i : ℕ) (card : CardRow) → card.pending ≡ None → IsClosed (with_card w i card)
      with_closed i card closed =
          record { cards = at_set (λ (j : ℕ) (x : CardRow). x.pending ≡ None) w.cards i card new_card closed none.cards; stores = none.stores }

      by : (o : Option Check) → IsClosed (audits w choices o).world
      by None = none
      by (Some (PowersUp i card)) = with_closed i _ refl
      by (Some (Asks i card command)) = with_closed i _ (none.cards i)

  first_closed : IsClosed (first_world s)
  first_closed = record {
    cards = λ i. ap (λ (row : CardRow). row.pending) (get_or-map_const s.cards i new_card);
    stores = λ l. ap (λ (row : LaneRow). row.store.lost) (get_or-map_const s.lanes l new_lane);
  }

pub none_is_open : NoneIsOpen
none_is_open s place n choices lines w leaves reached =
    reached_keeps s IsClosed (first_closed s leaves) (event_closed s leaves) place n choices lines w reached

-- the truth value tells nothing then
found_same : (kept : List Decided) (pending : Option Decided) → pending ≡ None → found_of kept pending true ≡ found_of kept pending false
found_same kept None none = refl
found_same kept (Some d) none = cc

piece_same : (p : Payment) (part : Part) → part.card.pending ≡ None → piece p part true ≡ piece p part false
piece_same p part none = by_lane part.lane.running
  where
    by_tear : (cut : Bool) → begun_by p part true cut ≡ begun_by p part false cut
    by_tear true = refl
    by_tear false = ap (λ (found : List Decided). powered_up p part found) (found_same part.card.kept part.card.pending none)

    by_kind : (o : Option (List (List ℕ))) → begun_with p part true o ≡ begun_with p part false o
    by_kind None = by_tear (names_commit p.planned.tear 0)
    by_kind (Some answers) = refl

    by_holder : (o : Option Holder) → purchase_begun p part true o ≡ purchase_begun p part false o
    by_holder None = by_kind p.card.canned
    by_holder (Some holder) = refl

    by_lane : (o : Option (List Reply)) → piece_by p part true o ≡ piece_by p part false o
    by_lane None = by_holder part.card.holder
    by_lane (Some replies) = refl

abbrev audit_found : World → ℕ → CardData → List Decided → After
audit_found w i card found = record {
  world = with_card w i (powered (card_at w i) found (card_at w i).holder);
  lines = audit_power_line card found ∷ [];
  choices = 1;
}

-- nor does that of an opening
opened_any : (store : StoreRow) → store.lost ≡ None → (a b : Bool) → store_opened store a ≡ store_opened store b
opened_any store none a b = ap (λ (lost : Option Call). by lost a) none ∙ sym (ap (λ (lost : Option Call). by lost b) none)
  where
    by : Option Call → Bool → StoreRow
    by lost found = record store { list = list_found store.list lost found; lost = None; commits = Some 0 }

module _ (s : ScenarioData) (w : World) (none : IsClosed w) where
  -- whichever truth value is the first
  piece_any : (p : Payment) (part : Part) → part.card.pending ≡ None → (a b : Bool) → piece p part a ≡ piece p part b
  piece_any p part closed true true = refl
  piece_any p part closed true false = piece_same p part closed
  piece_any p part closed false true = sym (piece_same p part closed)
  piece_any p part closed false false = refl

  found_any : (kept : List Decided) (pending : Option Decided) → pending ≡ None → (a b : Bool) → found_of kept pending a ≡ found_of kept pending b
  found_any kept pending closed true true = refl
  found_any kept pending closed true false = found_same kept pending closed
  found_any kept pending closed false true = sym (found_same kept pending closed)
  found_any kept pending closed false false = refl

  -- with what comes before a purchase
  lane_any : (p : Payment) (part : Part) → part.card.pending ≡ None → part.lane.store.lost ≡ None → (a b c d : Bool)
      → lane_piece p part a c ≡ lane_piece p part b d
  lane_any p part closed unlost a b c d = by_durable p.durable
    where
      same : opened_to_add part.lane.store a ≡ opened_to_add part.lane.store b
      same = ap (λ (store : StoreRow). record store { due = length store.list == 7 }) (opened_any part.lane.store unlost a b)

      by_due : (due : Bool) → moved_behind p a c (goes_through p part due) ≡ moved_behind p b d (goes_through p part due)
      by_due true = refl
      by_due false = piece_any p part closed a b

      by_full : (full : Bool) → moved_behind p a c (opened_for (part_with (opened_to_add part.lane.store b) part) full)
          ≡ moved_behind p b d (opened_for (part_with (opened_to_add part.lane.store b) part) full)
      by_full true = refl
      by_full false = ap more_chosen (piece_any p (part_with (opened_to_add part.lane.store b) part) closed c d)

      by_cut : (cut : Bool) → moved_behind p a c (opens_by p part a cut) ≡ moved_behind p b d (opens_by p part b cut)
      by_cut true = refl
      by_cut false =
          ap (λ (store : StoreRow). moved_behind p a c (opened_for (part_with store part) store.due)) same ∙ by_full (opened_to_add part.lane.store b).due

      by_store : (o : Option ℕ) → moved_behind p a c (stored_by p part a o) ≡ moved_behind p b d (stored_by p part b o)
      by_store None = by_cut (names_commit p.planned.terminal_tear 0)
      by_store (Some made) = by_due part.lane.store.due

      by_holder : (o : Option Holder) → moved_behind p a c (free_by p part a o) ≡ moved_behind p b d (free_by p part b o)
      by_holder None = by_store part.lane.store.commits
      by_holder (Some holder) = refl

      by_running : (o : Option (List Reply)) → moved_behind p a c (runs_by p part a o) ≡ moved_behind p b d (runs_by p part b o)
      by_running None = by_holder part.card.holder
      by_running (Some replies) = piece_any p part closed a b

      by_durable : (durable : Bool) → moved_behind p a c (before_by p part a durable) ≡ moved_behind p b d (before_by p part b durable)
      by_durable false = piece_any p part closed a b
      by_durable true = by_running part.lane.running

  settled_any : (choices others : List Bool) (o : Option Settlement) → settles s w choices o ≡ settles s w others o
  settled_any choices others None = refl
  settled_any choices others (Some (Opens l)) =
      ap (λ (store : StoreRow). settled_with_store l (record store { found = Some store.list }))
      (opened_any (lane_at w l).store (none.stores l) (choice_in choices 0) (choice_in others 0))
    where
      settled_with_store : ℕ → StoreRow → After
      settled_with_store lane store =
          record { world = with_lane w lane (with_store store (lane_at w lane)); lines = []; choices = 1 }
  settled_any choices others (Some (Sends l message drops)) = refl

  happens_same : (e : Event) (choices others : List Bool) → happens s w e choices ≡ happens s w e others
  happens_same (Turn l) choices others = by (next_of s w l)
    where
      by : (o : Option Payment) → turned_by w l choices o ≡ turned_by w l others o
      by None = refl
      by (Some p) =
          ap (λ (m : Moved). lane_moved w l p.planned.card m)
          (lane_any p (part_of w l p.planned.card) (none.cards p.planned.card) (none.stores l) (choice_in choices 0) (choice_in others 0)
          (choice_in choices 1) (choice_in others 1))
  happens_same (Settle k) choices others = settled_any choices others (slice_get (settlements s w) k)
  happens_same (Audit k) choices others = by (slice_get (checks s) k)
    where
      by : (o : Option Check) → audits w choices o ≡ audits w others o
      by None = refl
      by (Some (PowersUp i card)) =
          ap (λ (found : List Decided). audit_found w i card found)
          (found_any (card_at w i).kept (card_at w i).pending (none.cards i) (choice_in choices 0) (choice_in others 0))
      by (Some (Asks i card command)) = refl

-- how far a run is, with its lines and its world
pub record At : Type 0 where
  pub place : RunPlace
  pub count : ℕ
  pub lines : List Line
  pub world : World

module _ (s : ScenarioData) where
  abbrev goes : At → RunPlace → Event → At
  goes at place e =
      record { place = place; count = at.count + 1; lines = at.lines ++ (happens s at.world e []).lines; world = (happens s at.world e []).world }

  abbrev moves : At → RunPlace → At
  moves at place = record { place = place; count = at.count; lines = at.lines; world = at.world }

  abbrev by_schedule : At → ℕ → Option ℕ → Option At
  by_schedule at k (Some l) = Some (goes at (Scheduled (k + 1)) (Turn l))
  by_schedule at k None = Some (moves at (Round 0))

  abbrev by_round : At → ℕ → Bool → Bool → Option At
  by_round at l true over = Some (moves at (Round 0))
  by_round at l false true = Some (moves at (Settling 0))
  by_round at l false false = Some (goes at (Round (l + 1)) (Turn l))

  abbrev by_settlement : At → ℕ → Option Settlement → Option At
  by_settlement at k (Some one) = Some (goes at (Settling (k + 1)) (Settle k))
  by_settlement at k None = Some (moves at (Auditing 0))

  abbrev by_check : At → ℕ → Option Check → Option At
  by_check at k (Some one) = Some (goes at (Auditing (k + 1)) (Audit k))
  by_check at k None = Some (moves at Finished)

  abbrev by_place : At → RunPlace → Option At
  by_place at (Scheduled k) = by_schedule at k (slice_get s.schedule k)
  by_place at (Round l) = by_round at l (l == length s.lanes) ((l == 0) && all_over s at.world)
  by_place at (Settling k) = by_settlement at k (slice_get (settlements s at.world) k)
  by_place at (Auditing k) = by_check at k (slice_get (checks s) k)
  by_place at Finished = None

  abbrev next : At → Option At
  next at = by_place at at.place

  abbrev first : At
  first = record { place = Scheduled 0; count = 0; lines = []; world = first_world s }

  steps : ℕ → Option At
  steps zero = Some first
  steps (suc m) = option_and_then next (steps m)

  -- so many moves lead there
  record Leads (at : At) : Type 0 where
    pub count : ℕ
    pub is : steps count ≡ Some at

  further : (at after : At) → Leads at → next at ≡ Some after → Leads after
  unfolding steps
  further at after leads is = record { count = suc leads.count; is = ap (option_and_then next) leads.is ∙ is }

  module _ (some : 1 ≤ length s.lanes) (leaves : LeavesNone s) where
    -- with whatever truth value an event is made
    made : (at : At) (place : RunPlace) (e : Event) (c : List Bool) (new : List Line) (after : World) → IsClosed at.world → Step s at.world e c new after
        → goes at place e ≡ record { place = place; count = at.count + 1; lines = at.lines ++ new; world = after }
    made at place e c new after none step =
        let same : happens s at.world e c ≡ happens s at.world e [] = happens_same s at.world none e c [] in
        let lines : (happens s at.world e []).lines ≡ new = ap (λ (x : After). x.lines) (sym same) ∙ sym step.made in
        let world : (happens s at.world e []).world ≡ after = ap (λ (x : After). x.world) (sym same) ∙ sym step.leads in
        λ j. record { place = place; count = at.count + 1; lines = at.lines ++ lines j; world = world j }

    past_end : {A : Type 0} (xs : List A) → slice_get xs (length xs) ≡ None
    past_end [] = refl
    past_end (x ∷ xs) = past_end xs

    unlike : (l n : ℕ) → l < n → (l == n) ≡ false
    unlike l n below = by (l == n) refl
      where
        by : (b : Bool) → (l == n) ≡ b → b ≡ false
        by true is = absurd (let same : l ≡ n = eqb-true l n is in omega arith)
        by false is = refl

    going : (at : At) (place : RunPlace) (e : Event) (c : List Bool) (new : List Line) (after : World) → IsClosed at.world → Step s at.world e c new after
        → Leads at → next at ≡ Some (goes at place e) → Leads (record { place = place; count = at.count + 1; lines = at.lines ++ new; world = after })
    going at place e c new after none step leads is = further at _ leads (is ∙ ap (λ (x : At). Some x) (made at place e c new after none step))

    run_leads : (place : RunPlace) (n : ℕ) (choices : List Bool) (lines : List Line) (w : World) → Reached s place n choices lines w
        → Leads (record { place = place; count = n; lines = lines; world = w })
    unfolding steps
    run_leads _ _ _ _ _ start = record { count = 0; is = refl }
    run_leads _ _ _ _ _ (scheduled {k} {l} {n} {cs} {c} {ls} {new} {w = v} {w' = v'} before at step) =
        going (record { place = Scheduled k; count = n; lines = ls; world = v }) (Scheduled (k + 1)) (Turn l) c new v'
        (none_is_open s _ n cs ls v leaves before) step (run_leads _ n cs ls v before)
        (ap (by_schedule (record { place = Scheduled k; count = n; lines = ls; world = v }) k) at)
    run_leads _ _ _ _ _ (rounds {n} {cs} {ls} {w = v} before) =
        let at : At = record { place = Scheduled (length s.schedule); count = n; lines = ls; world = v } in
        further at _ (run_leads _ n cs ls v before) (ap (by_schedule at (length s.schedule)) (past_end s.schedule))
    run_leads _ _ _ _ _ (round {l} {n} {cs} {c} {ls} {new} {w = v} {w' = v'} before inside busy step) =
        let at : At = record { place = Round l; count = n; lines = ls; world = v } in
        going at (Round (l + 1)) (Turn l) c new v' (none_is_open s _ n cs ls v leaves before) step (run_leads _ n cs ls v before)
        (ap (λ b. by_round at l b ((l == 0) && all_over s v)) (unlike l (length s.lanes) inside) ∙ ap (by_round at l false) (not_over (l == 0) refl))
      where
        not_over : (b : Bool) → (l == 0) ≡ b → (b && all_over s v) ≡ false
        not_over true zero_is = busy (eqb-true l 0 zero_is)
        not_over false other = refl
    run_leads _ _ _ _ _ (again {n} {cs} {ls} {w = v} before) =
        let at : At = record { place = Round (length s.lanes); count = n; lines = ls; world = v } in
        further at _ (run_leads _ n cs ls v before)
        (ap (λ b. by_round at (length s.lanes) b ((length s.lanes == 0) && all_over s v)) (eq-eqb (length s.lanes) (length s.lanes) refl))
    run_leads _ _ _ _ _ (settlement {n} {cs} {ls} {w = v} before over) =
        let at : At = record { place = Round 0; count = n; lines = ls; world = v } in
        further at _ (run_leads _ n cs ls v before)
        (ap (λ b. by_round at 0 b (true && all_over s v)) (unlike 0 (length s.lanes) (omega arith)) ∙ ap (by_round at 0 false) over)
    run_leads _ _ _ _ _ (settling {k} {n} {cs} {c} {ls} {new} {w = v} {w' = v'} before at step) =
        going (record { place = Settling k; count = n; lines = ls; world = v }) (Settling (k + 1)) (Settle k) c new v'
        (none_is_open s _ n cs ls v leaves before) step (run_leads _ n cs ls v before)
        (ap (by_settlement (record { place = Settling k; count = n; lines = ls; world = v }) k) at)
    run_leads _ _ _ _ _ (audit {k} {n} {cs} {ls} {w = v} before past) =
        let at : At = record { place = Settling k; count = n; lines = ls; world = v } in
        further at _ (run_leads _ n cs ls v before) (ap (by_settlement at k) past)
    run_leads _ _ _ _ _ (auditing {k} {n} {cs} {c} {ls} {new} {w = v} {w' = v'} before at step) =
        going (record { place = Auditing k; count = n; lines = ls; world = v }) (Auditing (k + 1)) (Audit k) c new v'
        (none_is_open s _ n cs ls v leaves before) step (run_leads _ n cs ls v before)
        (ap (by_check (record { place = Auditing k; count = n; lines = ls; world = v }) k) at)
    run_leads _ _ _ _ _ (finished {k} {n} {cs} {ls} {w = v} before past) =
        let at : At = record { place = Auditing k; count = n; lines = ls; world = v } in
        further at _ (run_leads _ n cs ls v before) (ap (by_check at k) past)

  -- nothing follows the end
  gone : (m n : ℕ) → m ≤ n → steps m ≡ None → steps n ≡ None
  unfolding steps
  gone m zero within none = absurd (let zero_is : m ≡ 0 = omega arith in let some : Some first ≡ None = ap steps (sym zero_is) ∙ none in cc)
  gone m (suc n) within none =
      elim (cases_lt m (suc n)) [
        | inl below ↦ ap (option_and_then next) (gone m n (omega arith) none)
        | inr same ↦ (let e : m ≡ suc n = omega arith in ap steps (sym e) ∙ none)
      ]

  ends : (m : ℕ) (at : At) → at.place ≡ Finished → steps m ≡ Some at → steps (suc m) ≡ None
  unfolding steps
  ends m at over is = ap (option_and_then next) is ∙ ap (by_place at) over

  only : (x y : At) → x.place ≡ Finished → y.place ≡ Finished → Leads x → Leads y → x ≡ y
  only x y one other here there = by (cases_lt here.count there.count) (cases_lt there.count here.count)
    where
      never : (a b : At) (m n : ℕ) → a.place ≡ Finished → steps m ≡ Some a → steps n ≡ Some b → m < n → ⊥
      never a b m n over first_is then_is below = let none : steps n ≡ None = gone (suc m) n (omega arith) (ends m a over first_is) in cc

      by : (here.count < there.count) ⊎ (there.count ≤ here.count) → (there.count < here.count) ⊎ (here.count ≤ there.count) → x ≡ y
      by (inl below) other_order = absurd (never x y here.count there.count one here.is there.is below)
      by (inr past) (inl above) = absurd (never y x there.count here.count other there.is here.is above)
      by (inr past) (inr most) = let same : here.count ≡ there.count = omega arith in same_Some x y (sym here.is ∙ ap steps same ∙ there.is)

-- two runs that have come to the end have the same lines and world
pub ends_are_one : (s : ScenarioData) → 1 ≤ length s.lanes → LeavesNone s → (n m : ℕ) (cs ds : List Bool) (ls ms : List Line) (w v : World)
    → Reached s Finished n cs ls w → Reached s Finished m ds ms v → IsSameRun ls ms w v
ends_are_one s some leaves n m cs ds ls ms w v one other =
    let x : At = record { place = Finished; count = n; lines = ls; world = w } in
    let y : At = record { place = Finished; count = m; lines = ms; world = v } in
    let same : x ≡ y =
    only s x y refl refl (run_leads s some leaves Finished n cs ls w one) (run_leads s some leaves Finished m ds ms v other) in
    record { told = ap (λ (at : At). at.lines) same; led = ap (λ (at : At). at.world) same }

pub run_is_one : RunIsOne
run_is_one s lines others w v fits leaves one other =
    let same : IsSameRun one.reported other.reported w v =
    ends_are_one s fits.tables.some_lane leaves one.count other.count one.choices other.choices one.reported other.reported w v one.reached other.reached in
    record { told = one.whole ∙ (λ i. same.told i ++ closing s (same.led i)) ∙ sym other.whole; led = same.led }
