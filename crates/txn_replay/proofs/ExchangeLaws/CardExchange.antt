-- An exchange with the card: it answers, or is gone.
-- Either way the exchange has led to what the definitions say of it, with its lines.
use Rattle.std.proofs.Common.{◌≡◌, ℕ, ◌+◌, List, [], ◌∷◌, ◌++◌, length, Option, Some, None, refl, sym, ap, ◌∙◌, subst}
use Rattle.std.specs.Global.{Box}
use Rattle.capture_store.specs.SeenLaneStore.{LaneStoreSeen}
use Rattle.card_app.specs.Answering.{card_answer}
use Rattle.card_app.specs.Cuts.{Cut}
use Rattle.kernel.specs.Ended.{EndData}
use Rattle.kernel.specs.Kernel.{KernelData, KernelStands, outset_in}
use Rattle.kernel.specs.Reply.{Reply, CardSaid, CardGone}
use Rattle.kernel.specs.Tally.{Counts, raised}
use Rattle.report_text.specs.declared.line.Line.{Line}
use Rattle.scenario_plan.specs.Cards.{CardData}
use Rattle.txn_replay.specs.Called.{AnswerIs, answered_row, IsCommandAnswered, IsCardGone, no_answer_lines}
use Rattle.txn_replay.specs.Changes.{exchanged, row_torn}
use Rattle.txn_replay.specs.Lines.{answer_lines, torn_lines, gone_lines, outcome_line}
use Rattle.txn_replay.specs.Part.{Part, Moved, loses, lane_ended, ended_with, ended_if_over, cut_ends, cut_short, lane_answered_by as answered_by, canned_by, asked_of_card, asked_card}
use Rattle.txn_replay.specs.Payment.{Payment, outset_for, end_at}
use Rattle.txn_replay.specs.RunCard.{RunCardSeen, RunCardOff, IsRunCardOf, HasLost}
use Rattle.txn_replay.specs.Standing.{LaneStands, LaneStoreStands, PartRuns, ExchangeHasLed, IsEndCounted}
use Rattle.txn_replay.specs.World.{CardRow, LaneRow}
use Rattle.txn_replay.specs.declared.lane.Lane.{Lane}

-- the lane with a terminal that was told one reply more
pub lane_on : (p : Payment) (lane : Lane) (row : LaneRow) (replies more : List Reply) (kernel : Box KernelData)
    → LaneStands lane p (record row { running = Some replies }) → KernelStands kernel.value more → outset_in kernel.value ≡ outset_for p
    → LaneStands (record lane { running = Some kernel }) p (record row { running = Some more })
lane_on p lane row replies more kernel stands told outset = record {
  keeps = record {
    ended = stands.keeps.ended;
    log = stands.keeps.log;
    amounts = stands.keeps.amounts;
    captures = stands.keeps.captures;
    messages = stands.keeps.messages;
    sent = stands.keeps.sent;
    stored = stands.keeps.stored;
    found = stands.keeps.found;
    card = λ none. cc;
    ending = stands.keeps.ending;
  };
  running = (told, outset);
}

-- an answer changes neither who has the card nor how often its power was cut
answered_holder : (card : CardData) (row : CardRow) (command : List ℕ) (canned : Option (List (List ℕ)))
    → (answered_row card row command canned).holder ≡ row.holder
answered_holder card row command None = refl
answered_holder card row command (Some answers) = refl

answered_losses : (card : CardData) (row : CardRow) (command : List ℕ) (canned : Option (List (List ℕ)))
    → row.losses ≡ (answered_row card row command canned).losses
answered_losses card row command None = refl
answered_losses card row command (Some answers) = refl

module _ (p : Payment) (lane : Lane) (lane_store : LaneStoreSeen) (run_card next : RunCardSeen) (replies : List Reply) (part : Part) (command : List ℕ)
    (runs : PartRuns p lane lane_store run_card replies part) (is : IsRunCardOf next p.card) where
  -- the card answered
  abbrev pub answered_part : Part
  answered_part = record part { card = answered_row p.card part.card command p.card.canned }

  pub asked_answered : (answer : List ℕ) → IsCommandAnswered next p.card part.card p.planned.tear command answer
      → asked_card p replies command part ≡ ended_if_over p (replies ++ CardSaid answer part.lane.log ∷ []) answered_part (answer_lines p.lane command answer)
  asked_answered answer answered = by p.card.canned answered.said
    where
      by : (canned : Option (List (List ℕ))) → AnswerIs p.card part.card p.planned.tear command answer canned
          → asked_of_card p replies command part canned
          ≡ ended_if_over p (replies ++ CardSaid answer part.lane.log ∷ []) (record part { card = answered_row p.card part.card command canned })
          (answer_lines p.lane command answer)
      by None said =
          ap (λ (o : Option Cut). answered_by p replies command part (card_answer p.card.image part.card.kept part.card.session command) o) said.0
          ∙ ap (λ (a : List ℕ). ended_if_over p (replies ++ CardSaid a part.lane.log ∷ [])
          (record part { card = exchanged p.card.image part.card command (card_answer p.card.image part.card.kept part.card.session command) })
          (answer_lines p.lane command a)) (sym said.1)
      by (Some answers) said = ap (λ (o : Option (List ℕ)). canned_by p replies command part o) said

  -- and its purchase runs on
  pub runs_on : (answer : List ℕ) (kernel : Box KernelData) → IsCommandAnswered next p.card part.card p.planned.tear command answer
      → KernelStands kernel.value (replies ++ CardSaid answer part.lane.log ∷ []) → outset_in kernel.value ≡ outset_for p → HasLost next part.card.losses
      → PartRuns p (record lane { running = Some kernel }) lane_store next (replies ++ CardSaid answer part.lane.log ∷ []) answered_part
  runs_on answer kernel answered told outset losses = record {
    lane_is = lane_on p lane part.lane replies (replies ++ CardSaid answer part.lane.log ∷ []) kernel runs.lane_is told outset;
    lane_store_is = runs.lane_store_is;
    holder = runs.holder;
    has = answered_holder p.card part.card command p.card.canned ∙ runs.has;
    on = answered.on;
    is = is;
    losses = subst (λ n. HasLost next n) (answered_losses p.card part.card command p.card.canned) losses;
  }

  module _ (end : EndData) (gone : IsCardGone next p.card part.card p.planned.tear command p.card.canned)
      (over : end_at p (replies ++ CardGone ∷ []) ≡ Some end) where
    -- it is gone, and the purchase has ended
    record Ended : Type 0 where
      pub row : CardRow
      pub same :
          asked_card p replies command part
          ≡ ended_with p (replies ++ CardGone ∷ []) end (record part { card = row }) (no_answer_lines p.lane command p.card.canned)
      pub off : RunCardOff next row.kept row.pending
      pub losses : HasLost next row.losses

    ended : Ended
    ended = by p.card.canned refl gone
      where
        cut_so : (row : CardRow) (lines : List Line)
            → cut_short p replies part row lines ≡ ended_with p (replies ++ CardGone ∷ []) end (record part { card = row }) lines
        cut_so row lines = ap (λ (e : Option EndData). cut_ends p (replies ++ CardGone ∷ []) part (record part { card = row }) lines e) over

        with_lines : (row : CardRow) (canned : Option (List (List ℕ))) → p.card.canned ≡ canned
            → asked_of_card p replies command part canned
            ≡ ended_with p (replies ++ CardGone ∷ []) end (record part { card = row }) (no_answer_lines p.lane command canned)
            → asked_card p replies command part
            ≡ ended_with p (replies ++ CardGone ∷ []) end (record part { card = row }) (no_answer_lines p.lane command p.card.canned)
        with_lines row canned is_so so =
            subst (λ (o : Option (List (List ℕ))). asked_of_card p replies command part o
            ≡ ended_with p (replies ++ CardGone ∷ []) end (record part { card = row }) (no_answer_lines p.lane command o)) (sym is_so) so

        by : (canned : Option (List (List ℕ))) → p.card.canned ≡ canned → IsCardGone next p.card part.card p.planned.tear command canned → Ended
        by None is_so cut = record {
          row = row_torn part.card p.planned.tear cut.0;
          same = with_lines (row_torn part.card p.planned.tear cut.0) None is_so
              (ap (λ (o : Option Cut). answered_by p replies command part (card_answer p.card.image part.card.kept part.card.session command) o) cut.1.cut
              ∙ cut_so (row_torn part.card p.planned.tear cut.0) (torn_lines p.lane command));
          off = cut.1.off;
          losses = cut.1.losses;
        }
        by (Some answers) is_so empty = record {
          row = part.card;
          same = with_lines part.card (Some answers) is_so
              (ap (λ (o : Option (List ℕ)). canned_by p replies command part o) empty.none ∙ cut_so part.card (gone_lines p.lane command));
          off = empty.off;
          losses = empty.losses;
        }

    pub gone_moved : (after : Lane) (behind : LaneStoreSeen) (lines : List Line) → LaneStands after p (lane_ended p (replies ++ CardGone ∷ []) end part.lane)
        → LaneStoreStands behind p (lane_ended p (replies ++ CardGone ∷ []) end part.lane)
        → lines ≡ no_answer_lines p.lane command p.card.canned
        ++ outcome_line (loses p part.lane.store end.capture) p.lane (length part.lane.ended + 1) end ∷ []
        → ExchangeHasLed p after behind next lines (asked_card p replies command part)
    gone_moved after behind lines stands stored made =
        subst (λ (m : Moved). ExchangeHasLed p after behind next lines m) (sym ended.same)
        (record { lane_is = stands; lane_store_is = stored; card = record { is = is; losses = ended.losses; stands = ended.off }; lines_are = made })

    pub gone_counted : (before after : Counts) → after ≡ raised before end.ending (length (replies ++ CardGone ∷ []))
        → IsEndCounted before after part.lane.ended (asked_card p replies command part).part.lane.ended
    gone_counted before after one =
        subst (λ (m : Moved). IsEndCounted before after part.lane.ended m.part.lane.ended) (sym ended.same)
        (record { began = part.lane.began; replies = replies ++ CardGone ∷ []; end = Some end; lost = loses p part.lane.store end.capture } ∷ [], refl, one, (λ none. cc, tt))
