-- A purchase begins: its card is powered up, or the tear cuts its power.
-- Either way the exchange has led to what the definitions say of its begin.
use Rattle.std.proofs.Common.{◌≡◌, ◌+◌, Bool, ℕ, List, [], ◌∷◌, length, Option, Some, None, refl, sym, subst}
use Rattle.std.specs.Global.{Box}
use Rattle.std.specs.Prelude.{IsSomeAnd}
use Rattle.capture_store.specs.SeenLaneStore.{LaneStoreSeen}
use Rattle.card_app.specs.Pages.{found_of}
use Rattle.card_state.specs.Decisions.{Decided}
use Rattle.kernel.specs.Ended.{EndData}
use Rattle.kernel.specs.Kernel.{KernelData}
use Rattle.kernel.specs.Reply.{Reply, CardGone}
use Rattle.kernel.specs.Tally.{Counts, raised}
use Rattle.report_text.specs.declared.line.Line.{Line}
use Rattle.txn_replay.specs.Called.{IsSpared, IsPowered, IsLost, powered_line}
use Rattle.txn_replay.specs.Changes.{lost}
use Rattle.txn_replay.specs.Lines.{power_torn_line, outcome_line}
use Rattle.txn_replay.specs.Part.{Part, loses, lane_ended, ended_if_over, on_for, cut_ends, begun_by, begun_with}
use Rattle.txn_replay.specs.Payment.{Payment, end_at}
use Rattle.txn_replay.specs.RunCard.{RunCardSeen, IsRunCardOf, HasLost}
use Rattle.txn_replay.specs.Standing.{RunStands, LaneKeeps, LaneStands, LaneStoreStands, PartRests, PartRuns, ExchangeHasLed, IsEndCounted, ExchangeIsCounted}
use Rattle.txn_replay.specs.World.{LaneRow}
use Rattle.txn_replay.specs.declared.lane.Lane.{Lane}
use Rattle.txn_replay.proofs.ExchangeLaws.LaneMoves.{this_one}
use Rattle.txn_replay.proofs.StoreLaws.StoreOpen.{lane_store_with}

-- what a purchase began with isn't kept
keeps_began : (lane : Lane) (row : LaneRow) (found : Option (List Decided)) → LaneKeeps lane row → LaneKeeps lane (record row { began = found })
keeps_began lane row found keeps = record {
  ended = keeps.ended;
  log = keeps.log;
  amounts = keeps.amounts;
  captures = keeps.captures;
  messages = keeps.messages;
  sent = keeps.sent;
  stored = keeps.stored;
  found = keeps.found;
  card = keeps.card;
  ending = keeps.ending;
}

-- a lane with another terminal in it
pub kept_on : (lane later : Lane) (row : LaneRow) → IsSomeAnd later.running (λ kernel. later ≡ record lane { running = Some kernel; place = later.place }) → LaneKeeps lane row
    → (replies : List Reply) → LaneKeeps later (record row { running = Some replies })
kept_on lane later row same keeps replies = by later.running same
  where
    with_it : (kernel : Box KernelData) → LaneKeeps (record lane { running = Some kernel; place = later.place }) (record row { running = Some replies })
    with_it kernel = record {
      ended = keeps.ended;
      log = keeps.log;
      amounts = keeps.amounts;
      captures = keeps.captures;
      messages = keeps.messages;
      sent = keeps.sent;
      stored = keeps.stored;
      found = keeps.found;
      card = λ none. cc;
      ending = keeps.ending;
    }

    by : (o : Option (Box KernelData)) → IsSomeAnd o (λ kernel. later ≡ record lane { running = Some kernel; place = later.place }) → LaneKeeps later (record row { running = Some replies })
    by None some = absurd some
    by (Some kernel) is = subst (λ (x : Lane). LaneKeeps x (record row { running = Some replies })) (sym is) (with_it kernel)

module _ (p : Payment) (lane : Lane) (lane_store : LaneStoreSeen) (run_card next : RunCardSeen) (part : Part) (rests : PartRests p lane lane_store run_card part) (is : IsRunCardOf next p.card) where
  -- a card of canned answers decides nothing
  abbrev pub began_in : Option (List (List ℕ)) → List Decided → Option (List Decided)
  began_in None found = Some found
  began_in (Some answers) found = None

  -- powered up
  abbrev pub begun_as : Option (List (List ℕ)) → Bool → Part
  begun_as canned choice =
      on_for p (began_in canned (found_of part.card.kept part.card.pending choice)) (found_of part.card.kept part.card.pending choice) part

  abbrev pub begun_part : Bool → Part
  begun_part choice = begun_as p.card.canned choice

  pub powered_runs : (later : Lane) (choice : Bool) → IsPowered next p.card part.card p.planned.tear choice → HasLost next part.card.losses
      → IsSomeAnd later.running (λ kernel. later ≡ record lane { running = Some kernel; place = later.place }) → RunStands later.running p (Some [])
      → PartRuns p later lane_store next [] (begun_part choice)
  powered_runs later choice up losses same told = record {
    lane_is = record {
      keeps = kept_on lane later (begun_part choice).lane same (keeps_began lane part.lane (begun_part choice).lane.began rests.keeps) [];
      running = told;
    };
    lane_store_is = lane_store_with lane_store p part.lane part.lane.running (begun_part choice).lane.began part.lane.sent rests.lane_store_is;
    holder = this_one p part;
    has = refl;
    on = up.on (Some (this_one p part));
    is = is;
    losses = losses;
  }

  abbrev pub begun_lines : Bool → Option (List (List ℕ)) → List Line
  begun_lines choice canned = powered_line p.lane p.card (found_of part.card.kept part.card.pending choice) canned ∷ []

  pub powered_led : (later : Lane) (behind : LaneStoreSeen) (after : RunCardSeen) (before tally : Counts) (lines : List Line) (choice : Bool) → IsSpared p.planned.tear choice p.card.canned
      → ExchangeHasLed p later behind after lines (ended_if_over p [] (begun_part choice) (begun_lines choice p.card.canned))
      → IsEndCounted before tally part.lane.ended (ended_if_over p [] (begun_part choice) (begun_lines choice p.card.canned)).part.lane.ended
      → ExchangeIsCounted p later behind after before tally lines part (begun_with p part choice p.card.canned)
  powered_led later behind after before tally lines choice spared = by p.card.canned spared
    where
      by : (canned : Option (List (List ℕ))) → IsSpared p.planned.tear choice canned
          → ExchangeHasLed p later behind after lines (ended_if_over p [] (begun_as canned choice) (begun_lines choice canned))
          → IsEndCounted before tally part.lane.ended (ended_if_over p [] (begun_as canned choice) (begun_lines choice canned)).part.lane.ended
          → ExchangeIsCounted p later behind after before tally lines part (begun_with p part choice canned)
      by None spared moved counted =
          subst (λ b. ExchangeIsCounted p later behind after before tally lines part (begun_by p part choice b)) (sym spared)
          (record { moved = record { lane_is = moved.lane_is; lane_store_is = moved.lane_store_is; card = moved.card; lines_are = moved.lines_are }; counted = counted })
      by (Some answers) none moved counted =
          record {
            moved = subst (λ b. ExchangeHasLed p later behind after lines (ended_if_over p [] (begun_as (Some answers) b) (begun_lines b (Some answers)))) none moved;
            counted = subst (λ b. IsEndCounted before tally part.lane.ended (ended_if_over p [] (begun_as (Some answers) b) (begun_lines b (Some answers))).part.lane.ended) none counted;
          }

  -- and cut off
  pub cut_led : (later : Lane) (behind : LaneStoreSeen) (before tally : Counts) (lines : List Line) (choice : Bool) (end : EndData) → IsLost next p.card part.card p.planned.tear
      → end_at p (CardGone ∷ []) ≡ Some end → LaneStands later p (lane_ended p (CardGone ∷ []) end part.lane)
      → LaneStoreStands behind p (lane_ended p (CardGone ∷ []) end part.lane)
      → lines ≡ power_torn_line p.lane p.card ∷ outcome_line (loses p part.lane.store end.capture) p.lane (length part.lane.ended + 1) end ∷ [] → tally ≡ raised before end.ending 1
      → ExchangeIsCounted p later behind next before tally lines part (begun_with p part choice p.card.canned)
  cut_led later behind before tally lines choice end cut over stands stored made counted =
      subst (λ (o : Option (List (List ℕ))). ExchangeIsCounted p later behind next before tally lines part (begun_with p part choice o)) (sym cut.none)
      (subst (λ b. ExchangeIsCounted p later behind next before tally lines part (begun_by p part choice b)) (sym cut.cut)
      (subst (λ (e : Option EndData). ExchangeIsCounted p later behind next before tally lines part
      (cut_ends p (CardGone ∷ []) part (record part { card = lost part.card }) (power_torn_line p.lane p.card ∷ []) e)) (sym over)
      (record {
        moved = record {
          lane_is = stands;
          lane_store_is = stored;
          card = record { is = is; losses = cut.losses; stands = cut.off };
          lines_are = made;
        };
        counted = (record { began = part.lane.began; replies = CardGone ∷ []; end = Some end; lost = loses p part.lane.store end.capture } ∷ [], refl, counted, (λ none. cc, tt));
      })))
