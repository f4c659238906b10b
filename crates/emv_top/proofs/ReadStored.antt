-- In a reading nothing is captured and no terminal loses its purchase, so each store stays empty.
use Rattle.std.proofs.Common.{◌≡◌, ℕ, ◌+◌, ◌&&◌, cond, Bool, true, false, if◌then◌else◌, List, [], ◌∷◌, ◌++◌, drop, Option, Some, None, refl, sym, ap, ◌∙◌, subst, arith}
use Rattle.std.specs.Prelude.{option_and_then}
use Rattle.std.proofs.lemmas.List.Sums.{sum_by-append, sum_by-cons}
use Rattle.capture_store.specs.Calls.{Call, list_found}
use Rattle.capture_store.specs.StoreRow.{StoreRow, commit_next, opened_to_add, delivered_by, ended_by}
use Rattle.emv_dict.specs.declared.ending.Ending.{Ending}
use Rattle.emv_ports.specs.declared.tear.Tear.{Tear}
use Rattle.emv_top.proofs.Untorn.{IsUntorn, not_named, untorn_next}
use Rattle.kernel.specs.Ended.{EndData}
use Rattle.kernel.specs.Laws.{CapturesNothing, ReadingCapturesNothing}
use Rattle.kernel.specs.Reply.{Reply, CardGone}
use Rattle.object_lists.specs.CardRead.{ReadCard}
use Rattle.report_text.specs.declared.line.Line.{Line}
use Rattle.scenario_plan.specs.Plan.{ScenarioData}
use Rattle.txn_replay.specs.Counting.{lost_count}
use Rattle.txn_replay.specs.Part.{Part, loses, lane_ended}
use Rattle.txn_replay.specs.Payment.{Payment, outset_for, next_of}
use Rattle.txn_replay.specs.Reading.{ReadReached, start, turned, is_read, is_read_by, data_after, data_by, data_at, ending_at, to_read, lane_untorn}
use Rattle.txn_replay.specs.Steps.{part_of, choice_in, turned_by}
use Rattle.txn_replay.specs.Stored.{IsEmptied}
use Rattle.txn_replay.specs.Storing.{part_with}
use Rattle.txn_replay.specs.World.{Past, CardRow, LaneRow, World, new_lane, lane_at}
use Rattle.txn_replay.proofs.ExchangeLaws.ExchangeCases.{Tells, StoreTells, lane_tells}
use Rattle.txn_replay.proofs.Lists.{at_set, get_or-map_const}
use Rattle.txn_replay.proofs.ExchangeLaws.LaneMessages.{Later, as_is, beginning, messaging}

-- no purchase of the lane was lost, and its store is empty
pub record IsKept (row : LaneRow) : Type 0 where
  pub kept : lost_count row.ended ≡ 0
  pub emptied : IsEmptied row.store

kept_more : (ended : List Past) (past : Past) → past.lost ≡ false → lost_count ended ≡ 0 → lost_count (ended ++ past ∷ []) ≡ 0
kept_more ended past kept before =
    let more : lost_count (ended ++ past ∷ []) ≡ lost_count ended + lost_count (past ∷ []) = sum_by-append (λ (x : Past). cond x.lost 1 0) ended (past ∷ []) in
    let one : lost_count (past ∷ []) ≡ cond past.lost 1 0 + 0 = sum_by-cons (λ (x : Past). cond x.lost 1 0) past [] in
    let none : ◌≡◌ {A = ℕ} (cond past.lost 1 0) 0 = ap (λ (b : Bool). cond b 1 0) kept in omega (arith, more, one, none, before)

-- an opening finds an empty list where it was empty and no call was lost, and dropping leaves it empty
none_found : (list : List (List ℕ)) (lost : Option Call) (one : Bool) → list ≡ [] → lost ≡ None → list_found list lost one ≡ []
none_found list None one empty none = empty
none_found list (Some call) one empty none = absurd (cc none)

opened_emptied : (store : StoreRow) (one : Bool) → IsEmptied store → IsEmptied (opened_to_add store one)
opened_emptied store one is = record { empty = none_found store.list store.lost one is.empty is.none; none = refl }

delivered_emptied : (plan : Option Tear) (store : StoreRow) → plan ≡ None → IsEmptied store → IsEmptied (delivered_by plan store)
delivered_emptied None store spared is = record { empty = ap (λ (list : List (List ℕ)). drop 1 list) is.empty; none = is.none }
delivered_emptied (Some tear) store spared is = absurd (cc spared)

-- a purchase without a capture ends so
module _ (p : Payment) (replies : List Reply) (end : EndData) (none : end.capture ≡ None) (lane : LaneRow) (is : IsKept lane) where
  not_lost : loses p lane.store end.capture ≡ false
  not_lost = ap (λ (capture : Option (List ℕ)). loses p lane.store capture) none ∙ by p.durable
    where
      by : (durable : Bool) → (durable && false) ≡ false
      by true = refl
      by false = refl

  store_emptied : IsEmptied (if p.durable then ended_by p.planned.terminal_tear lane.store end.capture else lane.store)
  store_emptied =
      subst (λ (capture : Option (List ℕ)). IsEmptied (if p.durable then ended_by p.planned.terminal_tear lane.store capture else lane.store)) (sym none)
      (by p.durable)
    where
      by : (durable : Bool) → IsEmptied (if durable then ended_by p.planned.terminal_tear lane.store None else lane.store)
      by true = record { empty = is.emptied.empty; none = is.emptied.none }
      by false = is.emptied

  ended_kept : IsKept (lane_ended p replies end lane)
  ended_kept = record {
    kept =
        kept_more lane.ended (record { began = lane.began; replies = replies; end = Some end; lost = loses p lane.store end.capture }) not_lost is.kept;
    emptied = store_emptied;
  }

abbrev Came : Payment → LaneRow → List Reply → CardRow → List (List ℕ) → List Line → Type 0
Came p lane replies card messages lines = CapturesNothing (outset_for p) replies

abbrev Behind : Part → List Line → Type 0
Behind after lines = IsKept after.lane

-- with the next reply nothing is captured
abbrev Reads : Payment → Part → Type 0
Reads p part = (replies : List Reply) → part.lane.running ≡ Some replies → (reply : Reply) → CapturesNothing (outset_for p) (replies ++ reply ∷ [])

module _ (p : Payment) (spared : IsUntorn p) (first : CapturesNothing (outset_for p) []) where
  module _ (part : Part) (before : IsKept part.lane) (reads : Reads p part) where
    later_kept : (lane : LaneRow) → Later part.lane lane → IsKept lane
    later_kept _ as_is = before
    later_kept _ (beginning found) = record { kept = before.kept; emptied = before.emptied }
    later_kept _ (messaging message) = record { kept = before.kept; emptied = before.emptied }

    tells_kept : Tells p part (Came p) Behind
    tells_kept = record {
      still = before;
      goes = λ lane later replies card messages lines came.
          (let so : IsKept lane = later_kept lane later in record { kept = so.kept; emptied = so.emptied });
      ends = λ lane later replies card messages lines came end is. ended_kept p replies end (came end is) lane (later_kept lane later);
      powers = λ rests free apps choice. first;
      power_cut = λ rests free apps is. not_named p.planned.tear 0 spared.tear is;
      powers_canned = λ rests free answers canned. first;
      answers = λ replies runs apps command asks. reads replies runs _;
      cuts = λ replies runs command cut is. reads replies runs CardGone;
      tells = λ replies runs answers canned command answer. reads replies runs _;
      gone = λ replies runs answers canned command. reads replies runs CardGone;
      hosts = λ replies runs message asks reply is. reads replies runs _;
    }

  opened_kept : (part : Part) (one : Bool) → IsKept part.lane → IsKept (part_with (opened_to_add part.lane.store one) part).lane
  opened_kept part one before = record { kept = before.kept; emptied = opened_emptied part.lane.store one before.emptied }

  store_kept : (part : Part) → IsKept part.lane → Reads p part → StoreTells p part (Came p) Behind
  store_kept part before reads = record {
    own = tells_kept part before reads;
    again = λ one at off. tells_kept (part_with (opened_to_add part.lane.store one) part) (opened_kept part one before) reads;
    opened = λ one at off. opened_kept part one before;
    lost = λ at named. not_named p.planned.terminal_tear 0 spared.terminal named;
    sent = λ at message.
        record { kept = before.kept; emptied = delivered_emptied p.planned.terminal_tear part.lane.store spared.terminal before.emptied };
    sent_lost = λ at message named. not_named p.planned.terminal_tear (commit_next part.lane.store) spared.terminal named;
  }

abbrev AllKept : World → Type 0
AllKept w = (l : ℕ) → IsKept (lane_at w l)

first_kept : IsKept new_lane
first_kept = record { kept = refl; emptied = record { empty = refl; none = refl } }

none_read : (found : Option ReadCard) (ending : Option Ending) → is_read_by found ending ≡ false → found ≡ None
none_read None ending unread = refl
none_read (Some card) ending unread = absurd (cc unread)

module _ (whole : ScenarioData) (nothing : ReadingCapturesNothing) where
  -- while the card isn't read, nothing is captured with the next reply
  reads_on : (w : World) → is_read (to_read whole) w ≡ false → (p : Payment) → next_of (to_read whole) w 0 ≡ Some p → (i : ℕ) → Reads p (part_of w 0 i)
  reads_on w unread p is i replies runs reply =
      nothing.read (outset_for p) replies reply
      (sym (ap (λ (o : Option Payment). option_and_then (data_after replies) o) is) ∙ sym (ap (data_by (to_read whole) w 0) runs)
      ∙ none_read (data_at (to_read whole) w 0) (ending_at w 0) unread)

  turn_kept : (w : World) (choices : List Bool) (o : Option Payment) → ((p : Payment) → o ≡ Some p → IsUntorn p)
      → ((p : Payment) → o ≡ Some p → (i : ℕ) → Reads p (part_of w 0 i)) → AllKept w → AllKept (turned_by w 0 choices o).world
  turn_kept w choices None spared reads all = all
  turn_kept w choices (Some p) spared reads all =
      let part : Part = part_of w 0 p.planned.card in
      at_set (λ (l : ℕ) (row : LaneRow). IsKept row) w.lanes 0 _ new_lane
      (lane_tells p part (Came p) Behind
      (store_kept p (spared p refl) (nothing.first (outset_for p)) part (all 0) (reads p refl p.planned.card)) (choice_in choices 0) (choice_in choices 1)) all

  pub read_stored : (n : ℕ) (cs : List Bool) (ls : List Line) (w : World) → ReadReached (to_read whole) n cs ls w → AllKept w
  read_stored _ _ _ _ start l = subst (λ (row : LaneRow). IsKept row) (sym (get_or-map_const (lane_untorn whole.lanes) l new_lane)) first_kept
  read_stored _ _ _ _ (turned {n} {cs} {c} {ls} {new} {w} {w' = after} before unread step) l =
      subst (λ (v : World). IsKept (lane_at v l)) (sym step.leads)
      (turn_kept w c (next_of (to_read whole) w 0) (λ p is. untorn_next whole n cs ls w before unread p is) (λ p is i. reads_on w unread p is i)
      (read_stored n cs ls w before) l)
