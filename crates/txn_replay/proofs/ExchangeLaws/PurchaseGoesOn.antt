-- A purchase that goes on behind a reply, or has ended: its card is off then.
-- Either way the exchange has led to what the definitions say behind these replies.
use Rattle.std.proofs.Common.{◌≡◌, ◌+◌, false, List, [], ◌∷◌, ◌++◌, length, Option, Some, None, refl, sym, subst, append-nil}
use Rattle.capture_store.specs.SeenLaneStore.{LaneStoreSeen}
use Rattle.kernel.specs.Dialogue.{dialogue}
use Rattle.kernel.specs.Ended.{EndData, end_by}
use Rattle.kernel.specs.Kernel.{deed_next, standing_next}
use Rattle.kernel.specs.Reply.{Reply, Deed, ToCard, ToHost, Over}
use Rattle.kernel.specs.Tally.{Counts, raised}
use Rattle.report_text.specs.declared.line.Line.{Line}
use Rattle.txn_replay.specs.Lines.{outcome_line}
use Rattle.txn_replay.specs.Part.{Part, loses, lane_ended, ended_if_over, ended_by_record}
use Rattle.txn_replay.specs.Payment.{Payment, outset_for, end_at}
use Rattle.txn_replay.specs.RunCard.{RunCardSeen, RunCardOff, IsRunCardOf, HasLost}
use Rattle.txn_replay.specs.Standing.{LaneStands, LaneStoreStands, PlaceStands, CardStands, PartRuns, ExchangeIsCounted, is_ended}
use Rattle.txn_replay.specs.World.{Holder}
use Rattle.txn_replay.specs.declared.lane.Lane.{Lane}
use Rattle.txn_replay.proofs.StoreLaws.StoreOpen.{lane_store_with}

module _ (p : Payment) (lane : Lane) (lane_store : LaneStoreSeen) (run_card : RunCardSeen) (replies : List Reply) (part : Part) (lines : List Line)
    (runs : PartRuns p lane lane_store run_card replies part) where
  unended : is_ended (standing_next (dialogue (outset_for p) replies)) ≡ false → end_at p replies ≡ None
  unended waits = by (dialogue (outset_for p) replies).deed waits
    where
      by : (deed : Deed) → is_ended (deed_next deed) ≡ false → end_by (outset_for p) (dialogue (outset_for p) replies).steps_done deed ≡ None
      by (ToCard command) waits = refl
      by (ToHost message) waits = refl
      by (Over ending) waits = cc

  card_on : CardStands run_card p.card p.planned.tear part.card
  card_on = record {
    is = runs.is;
    losses = runs.losses;
    stands = subst (λ (h : Option Holder). PlaceStands run_card p.planned.tear part.card h) (sym runs.has) runs.on;
  }

  pub stays_led : (tally : Counts) → is_ended (standing_next (dialogue (outset_for p) replies)) ≡ false
      → ExchangeIsCounted p lane lane_store run_card tally tally lines part (ended_if_over p replies part lines)
  stays_led tally waits =
      subst (λ (e : Option EndData). ExchangeIsCounted p lane lane_store run_card tally tally lines part (ended_by_record p replies part lines e)) (sym (unended waits))
      (record {
        moved = record {
          lane_is = runs.lane_is;
          lane_store_is = lane_store_with lane_store p part.lane (Some replies) part.lane.began part.lane.sent runs.lane_store_is;
          card = card_on;
          lines_are = refl;
        };
        counted = ([], sym (append-nil part.lane.ended), refl, tt);
      })

  pub over_led : (later : Lane) (behind : LaneStoreSeen) (next : RunCardSeen) (told : List Line) (before after : Counts) (end : EndData) → end_at p replies ≡ Some end
      → LaneStands later p (lane_ended p replies end part.lane) → LaneStoreStands behind p (lane_ended p replies end part.lane)
      → told ≡ lines ++ outcome_line (loses p part.lane.store end.capture) p.lane (length part.lane.ended + 1) end ∷ []
      → after ≡ raised before end.ending (length replies) → RunCardOff next part.card.kept part.card.pending → IsRunCardOf next p.card → HasLost next part.card.losses
      → ExchangeIsCounted p later behind next before after told part (ended_if_over p replies part lines)
  over_led later behind next told before after end over stands stored made counted off is losses =
      subst (λ (e : Option EndData). ExchangeIsCounted p later behind next before after told part (ended_by_record p replies part lines e)) (sym over)
      (record {
        moved = record {
          lane_is = stands;
          lane_store_is = stored;
          card = record { is = is; losses = losses; stands = off };
          lines_are = made;
        };
        counted = (record { began = part.lane.began; replies = replies; end = Some end; lost = loses p part.lane.store end.capture } ∷ [], refl, counted, (λ none. cc, tt));
      })
