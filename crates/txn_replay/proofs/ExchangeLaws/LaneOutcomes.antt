-- What one exchange makes of its lane: it stays, runs, or has one purchase more that has ended.
-- So the purchases that have ended only grow, one by one, and in order.
use Rattle.std.proofs.Common.{◌≡◌, ℕ, Bool, true, false, List, [], ◌∷◌, ◌++◌, slice_get, Option, Some, None, refl}
use Rattle.capture_store.specs.StoreRow.{opened_to_add, is_next_cut}
use Rattle.card_app.specs.Answering.{card_answer}
use Rattle.card_app.specs.Cuts.{Cut, cut_of}
use Rattle.card_app.specs.Pages.{found_of}
use Rattle.card_app.specs.PageReplies.{CardAnswer}
use Rattle.emv_ports.specs.Cut.{names_commit}
use Rattle.kernel.specs.Dialogue.{dialogue}
use Rattle.kernel.specs.Ended.{EndData}
use Rattle.kernel.specs.Reply.{Reply, CardSaid, CardGone, Deed, ToCard, ToHost, Over}
use Rattle.report_text.specs.declared.line.Line.{Line}
use Rattle.txn_replay.specs.Changes.{powered, exchanged, told_once, row_torn, lost}
use Rattle.txn_replay.specs.Lines.{answer_lines, torn_lines, gone_lines, power_torn_line}
use Rattle.txn_replay.specs.Part.{Part, lane_ended, ended_by_record, cut_ends, lane_answered_by, canned_by, asked_of_card, asked, purchase_begun, begun_by, begun_with, piece_by, piece}
use Rattle.txn_replay.specs.Payment.{Payment, outset_for, end_at}
use Rattle.txn_replay.specs.Storing.{part_with, lane_lost, lane_copied, copied, copy_lines, dropped_by, delivers_first, lane_piece}
use Rattle.txn_replay.specs.World.{Holder, CardRow, LaneRow, with_sent, with_store}
use Rattle.txn_replay.proofs.ExchangeLaws.LaneMoves.{this_one}
use Rattle.txn_replay.proofs.ExchangeLaws.LaneMessages.{Later, as_is, beginning, messaging}
use Rattle.txn_replay.proofs.ExchangeLaws.SixWays.{AtRest, IsOn, lane_ways}

module _ (B : LaneRow → Type 0) (p : Payment) (part : Part) (stays : B part.lane)
    (runs : (lane : LaneRow) (replies : List Reply) → Later part.lane lane → B (record lane { running = Some replies }))
    (ends : (lane : LaneRow) (replies : List Reply) (end : EndData) → Later part.lane lane → B (lane_ended p replies end lane)) where
  settled_lane : (replies : List Reply) (lane : LaneRow) (card : CardRow) (messages : List (List ℕ)) (lines : List Line) (e : Option EndData)
      → Later part.lane lane → B (ended_by_record p replies (record { lane = lane; card = card; messages = messages }) lines e).part.lane
  settled_lane replies lane card messages lines None later = runs lane replies later
  settled_lane replies lane card messages lines (Some end) later = ends lane replies end later

  cut_lane : (replies : List Reply) (card : CardRow) (lines : List Line) (e : Option EndData)
      → B (cut_ends p replies part (record part { card = card }) lines e).part.lane
  cut_lane replies card lines None = stays
  cut_lane replies card lines (Some end) = ends part.lane replies end as_is

  answer_lane : (replies : List Reply) (command : List ℕ) (said : CardAnswer) (cut : Option Cut) → B (lane_answered_by p replies command part said cut).part.lane
  answer_lane replies command said None =
      settled_lane (replies ++ CardSaid said.answer part.lane.log ∷ []) part.lane (exchanged p.card.image part.card command said) part.messages
      (answer_lines p.lane command said.answer) (end_at p (replies ++ CardSaid said.answer part.lane.log ∷ [])) as_is
  answer_lane replies command said (Some cut) =
      cut_lane (replies ++ CardGone ∷ []) (row_torn part.card p.planned.tear cut) (torn_lines p.lane command) (end_at p (replies ++ CardGone ∷ []))

  tell_lane : (replies : List Reply) (command : List ℕ) (o : Option (List ℕ)) → B (canned_by p replies command part o).part.lane
  tell_lane replies command (Some answer) =
      settled_lane (replies ++ CardSaid answer part.lane.log ∷ []) part.lane (told_once part.card) part.messages (answer_lines p.lane command answer)
      (end_at p (replies ++ CardSaid answer part.lane.log ∷ [])) as_is
  tell_lane replies command None =
      cut_lane (replies ++ CardGone ∷ []) part.card (gone_lines p.lane command) (end_at p (replies ++ CardGone ∷ []))

  kind_lane : (replies : List Reply) (command : List ℕ) (o : Option (List (List ℕ))) → B (asked_of_card p replies command part o).part.lane
  kind_lane replies command None =
      answer_lane replies command (card_answer p.card.image part.card.kept part.card.session command)
      (cut_of p.planned.tear part.card.made (card_answer p.card.image part.card.kept part.card.session command).new)
  kind_lane replies command (Some answers) = tell_lane replies command (slice_get answers part.card.told)

  ask_lane : (replies : List Reply) (deed : Deed) → B (asked p replies part deed).part.lane
  ask_lane replies (ToCard command) = kind_lane replies command p.card.canned
  ask_lane replies (ToHost message) = settled_lane _ (with_sent message part.lane) part.card _ _ _ (messaging message)
  ask_lane replies (Over ending) = stays

  begin_lane : (choice torn_there : Bool) → B (begun_by p part choice torn_there).part.lane
  begin_lane choice true = cut_lane (CardGone ∷ []) (lost part.card) (power_torn_line p.lane p.card ∷ []) (end_at p (CardGone ∷ []))
  begin_lane choice false =
      settled_lane [] (record part.lane { began = Some (found_of part.card.kept part.card.pending choice) })
      (powered part.card (found_of part.card.kept part.card.pending choice) (Some (this_one p part))) part.messages _ (end_at p [])
      (beginning (Some (found_of part.card.kept part.card.pending choice)))

  kind_begins : (choice : Bool) (o : Option (List (List ℕ))) → B (begun_with p part choice o).part.lane
  kind_begins choice None = begin_lane choice (names_commit p.planned.tear 0)
  kind_begins choice (Some answers) =
      settled_lane [] (record part.lane { began = None })
      (powered part.card (found_of part.card.kept part.card.pending false) (Some (this_one p part))) part.messages _ (end_at p []) (beginning None)

  pub piece_lane : (choice : Bool) → B (piece p part choice).part.lane
  piece_lane choice = by_lane part.lane.running
    where
      by_holder : (o : Option Holder) → B (purchase_begun p part choice o).part.lane
      by_holder None = kind_begins choice p.card.canned
      by_holder (Some h) = stays

      by_lane : (o : Option (List Reply)) → B (piece_by p part choice o).part.lane
      by_lane None = by_holder part.card.holder
      by_lane (Some replies) = ask_lane replies (dialogue (outset_for p) replies).deed

-- So with its store: what opening it, losing the purchase, or delivering the first message makes of the lane has this too.
module _ (B : LaneRow → Type 0) (p : Payment) (part : Part) (stays : B part.lane)
    (runs : (before lane : LaneRow) (replies : List Reply) → B before → before.ended ≡ part.lane.ended → Later before lane → B (record lane { running = Some replies }))
    (ends : (before lane : LaneRow) (replies : List Reply) (end : EndData) → B before → before.ended ≡ part.lane.ended → Later before lane → B (lane_ended p replies end lane))
    (opened : (one : Bool) → AtRest p part → part.lane.store.commits ≡ None → B (with_store (opened_to_add part.lane.store one) part.lane))
    (lost : AtRest p part → B (lane_lost part.lane))
    (sent : (message : List ℕ) → AtRest p part → IsOn part true → B (lane_copied p message part.lane))
    (sent_lost : (message : List ℕ) → AtRest p part → IsOn part true → B (lane_lost (lane_copied p message part.lane))) where
  delivered_lane : AtRest p part → IsOn part true → (list : List (List ℕ)) → B (delivers_first p part list).part.lane
  delivered_lane at on [] = stays
  delivered_lane at on (message ∷ others) = by (is_next_cut p.planned.terminal_tear part.lane.store)
    where
      by : (cut : Bool) → B (dropped_by p (copied p message part) (copy_lines p message part.messages p.copies) cut).part.lane
      by true = sent_lost message at on
      by false = sent message at on

  pub lane_lane : (one other : Bool) → B (lane_piece p part one other).part.lane
  lane_lane one other =
      lane_ways (λ m. B m.part.lane) p part
      stays
      (λ choice so. piece_lane B p part stays (λ lane replies later. runs part.lane lane replies stays refl later)
      (λ lane replies end later. ends part.lane lane replies end stays refl later) choice)
      (λ at off cut. lost at)
      (λ first at off full. opened first at off)
      (λ first second at off room.
      piece_lane B p (part_with (opened_to_add part.lane.store first) part) (opened first at off)
      (λ lane replies later. runs (with_store (opened_to_add part.lane.store first) part.lane) lane replies (opened first at off) refl later)
      (λ lane replies end later. ends (with_store (opened_to_add part.lane.store first) part.lane) lane replies end (opened first at off) refl later) second)
      (λ at on. delivered_lane at on part.lane.store.list)
      one other
