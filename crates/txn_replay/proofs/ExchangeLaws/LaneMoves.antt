-- What one exchange of a lane makes of the lane and of its card: who runs, and who has the card.
-- A purchase has a card from its power-up to its end, and no two have one.
use Rattle.std.proofs.Common.{◌≡◌, ℕ, Bool, true, false, List, [], ◌∷◌, ◌++◌, length, slice_get, Option, Some, None, refl, sym, ap, ◌∙◌}
use Rattle.std.proofs.lemmas.Option.{same_Some}
use Rattle.capture_store.specs.StoreRow.{StoreRow, opened_to_add, is_next_cut}
use Rattle.card_app.specs.Answering.{card_answer}
use Rattle.card_app.specs.Cuts.{Cut, cut_of}
use Rattle.card_app.specs.Pages.{found_of}
use Rattle.card_app.specs.PageReplies.{CardAnswer}
use Rattle.emv_ports.specs.Cut.{names_commit}
use Rattle.kernel.specs.Dialogue.{dialogue}
use Rattle.kernel.specs.Ended.{EndData}
use Rattle.kernel.specs.Reply.{Reply, CardSaid, CardGone, Deed, ToCard, ToHost, Over}
use Rattle.report_text.specs.declared.line.Line.{Line}
use Rattle.txn_replay.specs.Changes.{powered, exchanged, told_once, row_torn, lost}
use Rattle.txn_replay.specs.Lines.{torn_lines, gone_lines, power_torn_line}
use Rattle.txn_replay.specs.Part.{Part, ended_by_record, cut_ends, lane_answered_by, canned_by, asked_of_card, asked, purchase_begun, begun_by, begun_with, piece_by, piece}
use Rattle.txn_replay.specs.Payment.{Payment, outset_for, end_at}
use Rattle.txn_replay.specs.Storing.{part_with, copied, copy_lines, dropped_by, delivers_first, lane_piece}
use Rattle.txn_replay.specs.World.{Holder, CardRow, LaneRow, with_sent}
use Rattle.txn_replay.proofs.ExchangeLaws.SixWays.{AtRest, lane_ways}

-- the purchase that goes on here
abbrev pub this_one : Payment → Part → Holder
this_one p part = record { lane = p.lane; number = length part.lane.ended }

-- what runs afterwards is this purchase and has the card; who has the card afterwards is this purchase; and no other
-- one had it before
pub record Moves (p : Payment) (before after : Part) : Type 0 where
  pub ran : (replies : List Reply) → after.lane.running ≡ Some replies
      → (after.card.holder ≡ Some (this_one p before)) × (length after.lane.ended ≡ length before.lane.ended)
  pub held : (h : Holder) → after.card.holder ≡ Some h → (h ≡ this_one p before) × ((replies : List Reply) × (after.lane.running ≡ Some replies))
  pub was : (h : Holder) → before.card.holder ≡ Some h → h ≡ this_one p before

pub data Outcome (p : Payment) (before after : Part) : Type 0 where
  kept : after ≡ before → Outcome p before after
  moves : Moves p before after → Outcome p before after

module _ (p : Payment) (before : Part) (was : (h : Holder) → before.card.holder ≡ Some h → h ≡ this_one p before) where
  after_settled : (replies : List Reply) (lane : LaneRow) (card : CardRow) (messages : List (List ℕ)) (lines : List Line) (e : Option EndData)
      → length lane.ended ≡ length before.lane.ended → card.holder ≡ Some (this_one p before)
      → Moves p before (ended_by_record p replies (record { lane = lane; card = card; messages = messages }) lines e).part
  after_settled replies lane card messages lines None count has = record {
    ran = λ other is. (has, count);
    held = λ h is. (same_Some h (this_one p before) (sym is ∙ has), (replies, refl));
    was = was;
  }
  after_settled replies lane card messages lines (Some end) count has = record { ran = λ other is. cc; held = λ h is. cc; was = was }

  after_cut : (replies : List Reply) (card : CardRow) (lines : List Line) (e : Option EndData)
      → Outcome p before (cut_ends p replies before (record before { card = card }) lines e).part
  after_cut replies card lines None = kept refl
  after_cut replies card lines (Some end) = moves (record { ran = λ other is. cc; held = λ h is. cc; was = was })

  after_answer : (replies : List Reply) (command : List ℕ) (said : CardAnswer) (cut : Option Cut) → before.card.holder ≡ Some (this_one p before)
      → Outcome p before (lane_answered_by p replies command before said cut).part
  after_answer replies command said None has =
      moves (after_settled (replies ++ CardSaid said.answer before.lane.log ∷ []) before.lane (exchanged p.card.image before.card command said)
      before.messages _ (end_at p (replies ++ CardSaid said.answer before.lane.log ∷ [])) refl has)
  after_answer replies command said (Some cut) has =
      after_cut (replies ++ CardGone ∷ []) (row_torn before.card p.planned.tear cut) (torn_lines p.lane command) (end_at p (replies ++ CardGone ∷ []))

  after_told : (replies : List Reply) (command : List ℕ) (o : Option (List ℕ)) → before.card.holder ≡ Some (this_one p before)
      → Outcome p before (canned_by p replies command before o).part
  after_told replies command (Some answer) has =
      moves (after_settled (replies ++ CardSaid answer before.lane.log ∷ []) before.lane (told_once before.card) before.messages _
      (end_at p (replies ++ CardSaid answer before.lane.log ∷ [])) refl has)
  after_told replies command None has = after_cut (replies ++ CardGone ∷ []) before.card (gone_lines p.lane command) (end_at p (replies ++ CardGone ∷ []))

  after_kind : (replies : List Reply) (command : List ℕ) (o : Option (List (List ℕ))) → before.card.holder ≡ Some (this_one p before)
      → Outcome p before (asked_of_card p replies command before o).part
  after_kind replies command None has =
      after_answer replies command (card_answer p.card.image before.card.kept before.card.session command)
      (cut_of p.planned.tear before.card.made (card_answer p.card.image before.card.kept before.card.session command).new) has
  after_kind replies command (Some answers) has = after_told replies command (slice_get answers before.card.told) has

  after_ask : (replies : List Reply) (deed : Deed) → before.card.holder ≡ Some (this_one p before) → Outcome p before (asked p replies before deed).part
  after_ask replies (ToCard command) has = after_kind replies command p.card.canned has
  after_ask replies (ToHost message) has = moves (after_settled _ (with_sent message before.lane) before.card _ _ _ refl has)
  after_ask replies (Over ending) has = kept refl

  after_begin : (choice torn_there : Bool) → Outcome p before (begun_by p before choice torn_there).part
  after_begin choice true = after_cut (CardGone ∷ []) (lost before.card) (power_torn_line p.lane p.card ∷ []) (end_at p (CardGone ∷ []))
  after_begin choice false =
      moves (after_settled [] (record before.lane { began = Some (found_of before.card.kept before.card.pending choice) })
      (powered before.card (found_of before.card.kept before.card.pending choice) (Some (this_one p before))) before.messages _ (end_at p []) refl refl)

  after_begun : (choice : Bool) (o : Option (List (List ℕ))) → Outcome p before (begun_with p before choice o).part
  after_begun choice None = after_begin choice (names_commit p.planned.tear 0)
  after_begun choice (Some answers) =
      moves (after_settled [] (record before.lane { began = None })
      (powered before.card (found_of before.card.kept before.card.pending false) (Some (this_one p before))) before.messages _ (end_at p []) refl refl)

-- a purchase that runs has its card
pub outcome : (p : Payment) (part : Part) (choice : Bool)
    → ((replies : List Reply) → part.lane.running ≡ Some replies → part.card.holder ≡ Some (this_one p part))
    → Outcome p part (piece p part choice).part
outcome p part choice has = by_lane part.lane.running refl
  where
    begins : (o : Option Holder) → part.card.holder ≡ o → Outcome p part (purchase_begun p part choice o).part
    begins None is = after_begun p part (λ h other. cc) choice p.card.canned
    begins (Some h) is = kept refl

    by_lane : (o : Option (List Reply)) → part.lane.running ≡ o → Outcome p part (piece_by p part choice o).part
    by_lane None is = begins part.card.holder refl
    by_lane (Some replies) is =
        after_ask p part (λ h other. same_Some h (this_one p part) (sym other ∙ has replies is)) replies (dialogue (outset_for p) replies).deed
        (has replies is)

-- where no purchase runs and none has the card, and so it stays
resting : (p : Payment) (part after : Part) → AtRest p part → after.lane.running ≡ part.lane.running → after.card ≡ part.card → Outcome p part after
resting p part after at lane card = moves (record {
  ran = λ replies is. (let no : None ≡ Some replies = sym at.rests ∙ sym lane ∙ is in cc);
  held = λ h is. (let no : None ≡ Some h = sym at.free ∙ sym (ap (λ (row : CardRow). row.holder) card) ∙ is in cc);
  was = λ h is. (let no : None ≡ Some h = sym at.free ∙ is in cc);
})

-- a store that is opened first makes no difference
opened_first : (p : Payment) (part after : Part) (store : StoreRow) → AtRest p part → Outcome p (part_with store part) after → Outcome p part after
opened_first p part after store at (kept same) =
    resting p part after at (ap (λ (x : Part). x.lane.running) same) (ap (λ (x : Part). x.card) same)
opened_first p part after store at (moves so) = moves (record { ran = so.ran; held = so.held; was = so.was })

delivery_outcome : (p : Payment) (part : Part) → AtRest p part → (list : List (List ℕ)) → Outcome p part (delivers_first p part list).part
delivery_outcome p part at [] = kept refl
delivery_outcome p part at (message ∷ others) = by (is_next_cut p.planned.terminal_tear part.lane.store)
  where
    by : (cut : Bool) → Outcome p part (dropped_by p (copied p message part) (copy_lines p message part.messages p.copies) cut).part
    by true = resting p part (dropped_by p (copied p message part) (copy_lines p message part.messages p.copies) true).part at refl refl
    by false = resting p part (copied p message part) at refl refl

-- so with its store
pub lane_outcome : (p : Payment) (part : Part) (one other : Bool)
    → ((replies : List Reply) → part.lane.running ≡ Some replies → part.card.holder ≡ Some (this_one p part))
    → Outcome p part (lane_piece p part one other).part
lane_outcome p part one other has =
    lane_ways (λ m. Outcome p part m.part) p part
    (kept refl)
    (λ choice so. outcome p part choice has)
    (λ at off cut. resting p part _ at refl refl)
    (λ first at off full. resting p part (part_with (opened_to_add part.lane.store first) part) at refl refl)
    (λ first second at off room.
    opened_first p part (piece p (part_with (opened_to_add part.lane.store first) part) second).part (opened_to_add part.lane.store first) at
    (outcome p (part_with (opened_to_add part.lane.store first) part) second has))
    (λ at on. delivery_outcome p part at part.lane.store.list)
    one other
