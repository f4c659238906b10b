-- A reading takes the tears off its purchase: so it has ended only with an end record.
use Rattle.std.proofs.Common.{◌≡◌, ℕ, Bool, true, false, List, [], ◌∷◌, length, slice_get, Option, Some, None, refl, sym, ap, ◌∙◌, subst}
use Rattle.std.specs.Prelude.{is_some, option_and_then, option_map}
use Rattle.std.specs.List.{AllByRecursion}
use Rattle.emv_dict.specs.declared.ending.Ending.{Ending}
use Rattle.emv_ports.specs.Cut.{names_commit}
use Rattle.emv_ports.specs.declared.tear.Tear.{Tear}
use Rattle.emv_top.proofs.Pasts.{lane_pasts}
use Rattle.kernel.specs.Ended.{EndData}
use Rattle.object_lists.specs.CardRead.{ReadCard}
use Rattle.report_text.specs.declared.line.Line.{Line}
use Rattle.scenario_plan.specs.Cards.{CardData}
use Rattle.scenario_plan.specs.Plan.{ScenarioData}
use Rattle.scenario_lanes.specs.Plan.{LaneData}
use Rattle.scenario_lanes.specs.declared.plan.Planned.{Planned}
use Rattle.txn_replay.specs.Payment.{Payment, payment_with, payment_of, payment_on, payment_in, next_of}
use Rattle.txn_replay.specs.Reading.{ReadReached, start, turned, is_read, is_read_by, data_at, ending_at, latest_ending, to_read, untorn, first_untorn, lane_untorn}
use Rattle.txn_replay.specs.Steps.{part_of, choice_in, turned_by}
use Rattle.txn_replay.specs.Storing.{lane_piece}
use Rattle.txn_replay.specs.World.{Past, LaneRow, World, new_lane, lane_at}
use Rattle.txn_replay.proofs.Lists.{at_set, get_or-map_const}

-- no tear is planned for it or for its terminal
pub record IsUntorn (p : Payment) : Type 0 where
  pub tear : p.planned.tear ≡ None
  pub terminal : p.planned.terminal_tear ≡ None

-- so it is for the first purchase
first_is_untorn : (whole : ScenarioData) (p : Payment) → payment_in (to_read whole) 0 0 ≡ Some p → IsUntorn p
unfolding payment_in
first_is_untorn whole p is = by_lanes whole.lanes is
  where
    by_card : (lane : LaneData) (planned : Planned) (o : Option CardData)
        → option_map (payment_with (to_read whole) 0 lane (untorn planned)) o ≡ Some p → IsUntorn p
    by_card lane planned None is = cc
    by_card lane planned (Some card) is =
        let same : payment_with (to_read whole) 0 lane (untorn planned) card ≡ p = cc in
        record { tear = sym (ap (λ (q : Payment). q.planned.tear) same); terminal = sym (ap (λ (q : Payment). q.planned.terminal_tear) same) }

    by_purchases : (lane : LaneData) (purchases : List Planned)
        → option_and_then (payment_of (to_read whole) 0 lane) (slice_get (first_untorn purchases) 0) ≡ Some p → IsUntorn p
    by_purchases lane [] is = cc
    by_purchases lane (planned ∷ others) is = by_card lane planned (slice_get whole.cards (untorn planned).card) is

    by_lanes : (lanes : List LaneData) → option_and_then (payment_on (to_read whole) 0 0) (slice_get (lane_untorn lanes) 0) ≡ Some p → IsUntorn p
    by_lanes [] is = cc
    by_lanes (lane ∷ lanes) is = by_purchases (record lane { purchases = first_untorn lane.purchases }) lane.purchases is

abbrev HasEnd : Past → Type 0
HasEnd past = is_some past.end ≡ true

-- of purchases with end records none has ended where the latest has no ending
no_ending : (end : Option EndData) → is_some end ≡ true → option_map (λ (e : EndData). e.ending) end ≡ None → ⊥
no_ending None some none = cc
no_ending (Some end) some none = cc

some_past : (past : Past) (pasts : List Past) → AllByRecursion HasEnd (past ∷ pasts) → latest_ending (past ∷ pasts) ≡ None → ⊥
some_past past [] all none = no_ending past.end all.0 none
some_past past (other ∷ others) all none = some_past other others all.1 none

none_past : (pasts : List Past) → AllByRecursion HasEnd pasts → latest_ending pasts ≡ None → pasts ≡ []
none_past [] all none = refl
none_past (past ∷ pasts) all none = absurd (some_past past pasts all none)

none_ended : (found : Option ReadCard) (ending : Option Ending) → is_read_by found ending ≡ false → ending ≡ None
none_ended (Some card) ending unread = cc
none_ended None None unread = refl
none_ended None (Some ending) unread = cc

pub not_named : {A : Type 0} (tear : Option Tear) (n : ℕ) → tear ≡ None → names_commit tear n ≡ true → A
not_named None n none named = cc
not_named (Some tear) n none named = cc

abbrev AllEnded : World → Type 0
AllEnded w = (l : ℕ) → AllByRecursion HasEnd (lane_at w l).ended

turn_ends : (w : World) (choices : List Bool) (o : Option Payment) → ((p : Payment) → o ≡ Some p → IsUntorn p) → AllEnded w
    → AllEnded (turned_by w 0 choices o).world
turn_ends w choices None spared all = all
turn_ends w choices (Some p) spared all =
    let part = part_of w 0 p.planned.card in
    at_set (λ (l : ℕ) (row : LaneRow). AllByRecursion HasEnd row.ended) w.lanes 0 (lane_piece p part (choice_in choices 0) (choice_in choices 1)).part.lane new_lane
    (lane_pasts HasEnd p (λ began replies end lost is. refl) (λ n named. not_named p.planned.terminal_tear n (spared p refl).terminal named) part (all 0)
    (choice_in choices 0) (choice_in choices 1)) all

module _ (whole : ScenarioData) where
  none_yet : (w : World) → AllEnded w → is_read (to_read whole) w ≡ false → (lane_at w 0).ended ≡ []
  none_yet w all unread = none_past (lane_at w 0).ended (all 0) (none_ended (data_at (to_read whole) w 0) (ending_at w 0) unread)

  is_first : (w : World) → (lane_at w 0).ended ≡ [] → (p : Payment) → next_of (to_read whole) w 0 ≡ Some p → IsUntorn p
  is_first w ended p is =
      first_is_untorn whole p (sym (ap (λ (pasts : List Past). payment_in (to_read whole) 0 (length pasts)) ended) ∙ is)

  all_ended : (n : ℕ) (cs : List Bool) (ls : List Line) (w : World) → ReadReached (to_read whole) n cs ls w → AllEnded w
  all_ended _ _ _ _ start l =
      subst (λ (row : LaneRow). AllByRecursion HasEnd row.ended) (sym (get_or-map_const (lane_untorn whole.lanes) l new_lane)) tt
  all_ended _ _ _ _ (turned {n} {cs} {c} {ls} {new} {w} {w' = after} before unread step) l =
      let all : AllEnded w = all_ended n cs ls w before in
      subst (λ (v : World). AllByRecursion HasEnd (lane_at v l).ended) (sym step.leads)
      (turn_ends w c (next_of (to_read whole) w 0) (is_first w (none_yet w all unread)) all l)

  -- while the card isn't read, no purchase has ended, and the one that is next has no tear
  pub none_ended_yet : (n : ℕ) (cs : List Bool) (ls : List Line) (w : World) → ReadReached (to_read whole) n cs ls w → is_read (to_read whole) w ≡ false
      → (lane_at w 0).ended ≡ []
  none_ended_yet n cs ls w reached unread = none_yet w (all_ended n cs ls w reached) unread

  pub untorn_next : (n : ℕ) (cs : List Bool) (ls : List Line) (w : World) → ReadReached (to_read whole) n cs ls w → is_read (to_read whole) w ≡ false
      → (p : Payment) → next_of (to_read whole) w 0 ≡ Some p → IsUntorn p
  untorn_next n cs ls w reached unread p is = is_first w (none_ended_yet n cs ls w reached unread) p is
