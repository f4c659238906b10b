-- What one exchange makes of a lane's part, case by case: how the replies, the card, the messages and the lines came, and
-- whether the purchase goes on or ends.
use Rattle.std.proofs.Common.{◌≡◌, ℕ, ◌+◌, Bool, true, false, List, [], ◌∷◌, ◌++◌, length, slice_get, Option, Some, None, refl}
use Rattle.capture_store.specs.StoreRow.{opened_to_add, is_next_cut}
use Rattle.card_app.specs.Answering.{card_answer}
use Rattle.card_app.specs.Cuts.{Cut, cut_of}
use Rattle.card_app.specs.Pages.{found_of}
use Rattle.emv_ports.specs.Cut.{names_commit}
use Rattle.host_link.specs.Delivery.{delivered, heard}
use Rattle.issuer_host.specs.History.{host_reply}
use Rattle.kernel.specs.Dialogue.{dialogue}
use Rattle.kernel.specs.Ended.{EndData}
use Rattle.kernel.specs.Reply.{Reply, CardSaid, CardGone, from_host, Deed, ToCard, ToHost, Over}
use Rattle.report_text.specs.declared.line.Line.{Line}
use Rattle.report_text.specs.declared.line.Line.TheVariants.{EndLost}
use Rattle.txn_replay.specs.Changes.{powered, exchanged, told_once, row_torn, lost, freed}
use Rattle.txn_replay.specs.Lines.{power_line, power_canned_line, power_torn_line, answer_lines, torn_lines, gone_lines, host_lines, outcome_line}
use Rattle.txn_replay.specs.Part.{Part, Moved, loses, lane_ended, ended_by_record, cut_ends, lane_answered_by, canned_by, asked_of_card, asked, purchase_begun, begun_by, begun_with, piece_by, piece}
use Rattle.txn_replay.specs.Payment.{Payment, outset_for, end_at}
use Rattle.txn_replay.specs.Storing.{part_with, lane_lost, lane_copied, copied, copy_lines, dropped_by, delivers_first, lane_piece}
use Rattle.txn_replay.specs.World.{Holder, CardRow, LaneRow, with_sent}
use Rattle.txn_replay.proofs.ExchangeLaws.LaneMoves.{this_one}
use Rattle.txn_replay.proofs.ExchangeLaws.LaneMessages.{Later, as_is, beginning, messaging}
use Rattle.txn_replay.proofs.ExchangeLaws.SixWays.{AtRest, lane_ways}

-- what came of the replies, the card, the messages and the lines leads to what holds behind the exchange
pub record Tells (p : Payment) (part : Part) (Came : LaneRow → List Reply → CardRow → List (List ℕ) → List Line → Type 0) (R : Part → List Line → Type 0) : Type 0 where
  pub still : R part []
  pub goes : (lane : LaneRow) → Later part.lane lane → (replies : List Reply) (card : CardRow) (messages : List (List ℕ)) (lines : List Line)
      → Came lane replies card messages lines
      → R (record { lane = record lane { running = Some replies }; card = card; messages = messages }) lines
  pub ends : (lane : LaneRow) → Later part.lane lane → (replies : List Reply) (card : CardRow) (messages : List (List ℕ)) (lines : List Line)
      → Came lane replies card messages lines → (end : EndData) → end_at p replies ≡ Some end
      → R (record { lane = lane_ended p replies end lane; card = freed card; messages = messages })
      (lines ++ outcome_line (loses p lane.store end.capture) p.lane (length lane.ended + 1) end ∷ [])
  pub powers : part.lane.running ≡ None → part.card.holder ≡ None → p.card.canned ≡ None → (choice : Bool)
      → Came (record part.lane { began = Some (found_of part.card.kept part.card.pending choice) }) [] (powered part.card (found_of part.card.kept part.card.pending choice) (Some (this_one p part))) part.messages
      (power_line p.lane p.card (found_of part.card.kept part.card.pending choice) ∷ [])
  pub power_cut : part.lane.running ≡ None → part.card.holder ≡ None → p.card.canned ≡ None → names_commit p.planned.tear 0 ≡ true
      → Came part.lane (CardGone ∷ []) (lost part.card) part.messages (power_torn_line p.lane p.card ∷ [])
  pub powers_canned : part.lane.running ≡ None → part.card.holder ≡ None → (answers : List (List ℕ)) → p.card.canned ≡ Some answers
      → Came (record part.lane { began = None }) [] (powered part.card (found_of part.card.kept part.card.pending false) (Some (this_one p part))) part.messages
      (power_canned_line p.lane p.card ∷ [])
  pub answers : (replies : List Reply) → part.lane.running ≡ Some replies → p.card.canned ≡ None → (command : List ℕ)
      → (dialogue (outset_for p) replies).deed ≡ ToCard command
      → Came part.lane (replies ++ CardSaid (card_answer p.card.image part.card.kept part.card.session command).answer part.lane.log ∷ [])
      (exchanged p.card.image part.card command (card_answer p.card.image part.card.kept part.card.session command)) part.messages
      (answer_lines p.lane command (card_answer p.card.image part.card.kept part.card.session command).answer)
  pub cuts : (replies : List Reply) → part.lane.running ≡ Some replies → (command : List ℕ) (cut : Cut)
      → cut_of p.planned.tear part.card.made (card_answer p.card.image part.card.kept part.card.session command).new ≡ Some cut
      → Came part.lane (replies ++ CardGone ∷ []) (row_torn part.card p.planned.tear cut) part.messages (torn_lines p.lane command)
  pub tells : (replies : List Reply) → part.lane.running ≡ Some replies → (answers : List (List ℕ)) → p.card.canned ≡ Some answers
      → (command answer : List ℕ)
      → Came part.lane (replies ++ CardSaid answer part.lane.log ∷ []) (told_once part.card) part.messages (answer_lines p.lane command answer)
  pub gone : (replies : List Reply) → part.lane.running ≡ Some replies → (answers : List (List ℕ)) → p.card.canned ≡ Some answers
      → (command : List ℕ)
      → Came part.lane (replies ++ CardGone ∷ []) part.card part.messages (gone_lines p.lane command)
  pub hosts : (replies : List Reply) → part.lane.running ≡ Some replies → (message : List ℕ)
      → (dialogue (outset_for p) replies).deed ≡ ToHost message → (reply : Option (List ℕ))
      → reply ≡ heard p.planned.link (host_reply p.issuer p.accounts part.messages message)
      → Came (with_sent message part.lane) (replies ++ from_host reply ∷ []) part.card (part.messages ++ delivered p.planned.link message)
      (host_lines p.iso p.lane message reply)

module _ (p : Payment) (part : Part) (Came : LaneRow → List Reply → CardRow → List (List ℕ) → List Line → Type 0) (R : Part → List Line → Type 0)
    (tells : Tells p part Came R) where
  abbrev Holds : Moved → Type 0
  Holds m = R m.part m.lines

  settled_tells : (lane : LaneRow) → Later part.lane lane → (replies : List Reply) (card : CardRow) (messages : List (List ℕ)) (lines : List Line)
      → Came lane replies card messages lines → (e : Option EndData) → end_at p replies ≡ e
      → Holds (ended_by_record p replies (record { lane = lane; card = card; messages = messages }) lines e)
  settled_tells lane later replies card messages lines came None is = tells.goes lane later replies card messages lines came
  settled_tells lane later replies card messages lines came (Some end) is = tells.ends lane later replies card messages lines came end is

  cut_tells : (replies : List Reply) (card : CardRow) (lines : List Line) → Came part.lane replies card part.messages lines
      → (e : Option EndData) → end_at p replies ≡ e → Holds (cut_ends p replies part (record part { card = card }) lines e)
  cut_tells replies card lines came None is = tells.still
  cut_tells replies card lines came (Some end) is = tells.ends part.lane as_is replies card part.messages lines came end is

  answer_tells : (replies : List Reply) → part.lane.running ≡ Some replies → p.card.canned ≡ None → (command : List ℕ)
      → (dialogue (outset_for p) replies).deed ≡ ToCard command → (cut : Option Cut)
      → cut_of p.planned.tear part.card.made (card_answer p.card.image part.card.kept part.card.session command).new ≡ cut
      → Holds (lane_answered_by p replies command part (card_answer p.card.image part.card.kept part.card.session command) cut)
  answer_tells replies runs apps command asks None is =
      settled_tells part.lane as_is _ _ part.messages _ (tells.answers replies runs apps command asks) _ refl
  answer_tells replies runs apps command asks (Some cut) is = cut_tells _ _ _ (tells.cuts replies runs command cut is) _ refl

  canned_tells : (replies : List Reply) → part.lane.running ≡ Some replies → (answers : List (List ℕ)) → p.card.canned ≡ Some answers
      → (command : List ℕ) (o : Option (List ℕ)) → Holds (canned_by p replies command part o)
  canned_tells replies runs answers canned command (Some answer) =
      settled_tells part.lane as_is _ _ part.messages _ (tells.tells replies runs answers canned command answer) _ refl
  canned_tells replies runs answers canned command None = cut_tells _ _ _ (tells.gone replies runs answers canned command) _ refl

  kind_tells : (replies : List Reply) → part.lane.running ≡ Some replies → (command : List ℕ) → (dialogue (outset_for p) replies).deed ≡ ToCard command
      → (o : Option (List (List ℕ))) → p.card.canned ≡ o → Holds (asked_of_card p replies command part o)
  kind_tells replies runs command asks None is =
      answer_tells replies runs is command asks
      (cut_of p.planned.tear part.card.made (card_answer p.card.image part.card.kept part.card.session command).new) refl
  kind_tells replies runs command asks (Some answers) is = canned_tells replies runs answers is command (slice_get answers part.card.told)

  ask_tells : (replies : List Reply) → part.lane.running ≡ Some replies → (deed : Deed) → (dialogue (outset_for p) replies).deed ≡ deed
      → Holds (asked p replies part deed)
  ask_tells replies runs (ToCard command) asks = kind_tells replies runs command asks p.card.canned refl
  ask_tells replies runs (ToHost message) asks =
      settled_tells (with_sent message part.lane) (messaging message) _ part.card _ _
      (tells.hosts replies runs message asks (heard p.planned.link (host_reply p.issuer p.accounts part.messages message)) refl) _ refl
  ask_tells replies runs (Over ending) asks = tells.still

  begin_tells : part.lane.running ≡ None → part.card.holder ≡ None → p.card.canned ≡ None → (choice torn_there : Bool)
      → names_commit p.planned.tear 0 ≡ torn_there → Holds (begun_by p part choice torn_there)
  begin_tells rests free apps choice true is = cut_tells _ _ _ (tells.power_cut rests free apps is) _ refl
  begin_tells rests free apps choice false is =
      settled_tells (record part.lane { began = Some (found_of part.card.kept part.card.pending choice) })
      (beginning (Some (found_of part.card.kept part.card.pending choice))) [] _ part.messages _ (tells.powers rests free apps choice) _ refl

  kind_begins : part.lane.running ≡ None → part.card.holder ≡ None → (choice : Bool) (o : Option (List (List ℕ))) → p.card.canned ≡ o
      → Holds (begun_with p part choice o)
  kind_begins rests free choice None is = begin_tells rests free is choice (names_commit p.planned.tear 0) refl
  kind_begins rests free choice (Some answers) is =
      settled_tells (record part.lane { began = None }) (beginning None) [] _ part.messages _ (tells.powers_canned rests free answers is) _ refl

  pub piece_tells : (choice : Bool) → R (piece p part choice).part (piece p part choice).lines
  piece_tells choice = by_lane part.lane.running refl
    where
      by_holder : part.lane.running ≡ None → (o : Option Holder) → part.card.holder ≡ o → Holds (purchase_begun p part choice o)
      by_holder rests None is = kind_begins rests is choice p.card.canned refl
      by_holder rests (Some other) is = tells.still

      by_lane : (o : Option (List Reply)) → part.lane.running ≡ o → Holds (piece_by p part choice o)
      by_lane None is = by_holder is part.card.holder refl
      by_lane (Some replies) is = ask_tells replies is (dialogue (outset_for p) replies).deed refl

-- So with the lane's store: what comes before a purchase leads to it too. `again` is for the purchase that begins behind the
-- opening.
pub record StoreTells (p : Payment) (part : Part) (Came : LaneRow → List Reply → CardRow → List (List ℕ) → List Line → Type 0) (R : Part → List Line → Type 0) : Type 0 where
  pub own : Tells p part Came R
  pub again : (one : Bool) → AtRest p part → part.lane.store.commits ≡ None
      → Tells p (part_with (opened_to_add part.lane.store one) part) Came R
  pub opened : (one : Bool) → AtRest p part → part.lane.store.commits ≡ None → R (part_with (opened_to_add part.lane.store one) part) []
  pub lost : AtRest p part → names_commit p.planned.terminal_tear 0 ≡ true → R (record part { lane = lane_lost part.lane }) (EndLost p.lane (length part.lane.ended + 1) ∷ [])
  pub sent : AtRest p part → (message : List ℕ) → R (copied p message part) (copy_lines p message part.messages p.copies)
  pub sent_lost : AtRest p part → (message : List ℕ) → is_next_cut p.planned.terminal_tear part.lane.store ≡ true
      → R (record (copied p message part) { lane = lane_lost (lane_copied p message part.lane) })
      (copy_lines p message part.messages p.copies ++ EndLost p.lane (length part.lane.ended + 1) ∷ [])

pub lane_tells : (p : Payment) (part : Part) (Came : LaneRow → List Reply → CardRow → List (List ℕ) → List Line → Type 0) (R : Part → List Line → Type 0)
    → StoreTells p part Came R → (one other : Bool) → R (lane_piece p part one other).part (lane_piece p part one other).lines
lane_tells p part Came R tells one other =
    lane_ways (λ m. R m.part m.lines) p part
    tells.own.still
    (λ choice so. piece_tells p part Came R tells.own choice)
    (λ at off cut. tells.lost at cut)
    (λ choice at off full. tells.opened choice at off)
    (λ choice second at off room. piece_tells p (part_with (opened_to_add part.lane.store choice) part) Came R (tells.again choice at off) second)
    (λ at on. delivered at part.lane.store.list)
    one other
  where
    delivered : AtRest p part → (list : List (List ℕ)) → R (delivers_first p part list).part (delivers_first p part list).lines
    delivered at [] = tells.own.still
    delivered at (message ∷ others) = by (is_next_cut p.planned.terminal_tear part.lane.store) refl
      where
        by : (cut : Bool) → is_next_cut p.planned.terminal_tear part.lane.store ≡ cut → R (dropped_by p (copied p message part) (copy_lines p message part.messages p.copies) cut).part
            (dropped_by p (copied p message part) (copy_lines p message part.messages p.copies) cut).lines
        by true is = tells.sent_lost at message is
        by false is = tells.sent at message
