-- One exchange of a lane, on what it touches (this project's own).
use Rattle.std.specs.Prelude.{ℕ, ◌+◌, Bool, true, false, ◌&&◌, if◌then◌else◌, List, [], ◌∷◌, ◌++◌, length, slice_get, Option, Some, None, option_to_list}
use Rattle.capture_store.specs.StoreRow.{StoreRow, is_next_cut, ended_by}
use Rattle.card_app.specs.Answering.{card_answer}
use Rattle.card_app.specs.Cuts.{Cut, cut_of}
use Rattle.card_app.specs.Pages.{found_of}
use Rattle.card_app.specs.PageReplies.{CardAnswer}
use Rattle.card_state.specs.Decisions.{Decided}
use Rattle.emv_dict.specs.Views.{PurchaseData}
use Rattle.emv_dict.specs.declared.ending.Ending.{Ending}
use Rattle.emv_dict.specs.declared.ending.Ending.TheVariants.{Approved, Declined, Terminated, CutOff}
use Rattle.emv_dict.specs.declared.purchase.Logged.{Logged}
use Rattle.emv_ports.specs.Cut.{names_commit}
use Rattle.emv_ports.specs.declared.tear.Tear.{Tear}
use Rattle.host_link.specs.Delivery.{delivered, heard}
use Rattle.issuer_host.specs.History.{host_reply}
use Rattle.kernel.specs.Dialogue.{dialogue}
use Rattle.kernel.specs.Ended.{EndData}
use Rattle.kernel.specs.Reply.{Reply, CardSaid, CardGone, from_host, Deed, ToCard, ToHost, Over}
use Rattle.object_lists.specs.CardRead.{ReadCard}
use Rattle.report_text.specs.declared.line.Line.{Line}
use Rattle.txn_replay.specs.Changes.{powered, exchanged, told_once, row_torn, lost, freed}
use Rattle.txn_replay.specs.Lines.{power_line, power_canned_line, power_torn_line, answer_lines, torn_lines, gone_lines, host_lines, outcome_line}
use Rattle.txn_replay.specs.Payment.{Payment, outset_for, end_at}
use Rattle.txn_replay.specs.World.{Holder, CardRow, LaneRow, with_sent}

-- the lane, the card of its purchase, and the messages that came to the host
pub record Part : Type 0 where
  pub lane : LaneRow
  pub card : CardRow
  pub messages : List (List ℕ)

-- what becomes of them, the lines, and how many truth values were taken
pub record Moved : Type 0 where
  pub part : Part
  pub lines : List Line
  pub choices : ℕ

abbrev pub still : Part → Moved
still part = record { part = part; lines = []; choices = 0 }

-- one truth value was taken
abbrev pub with_one_choice : Moved → Moved
with_one_choice moved = record moved { choices = 1 }

-- an approval joins the terminal's log, under the number of the card's account
abbrev pub approval : PurchaseData → Ending → Option ReadCard → List Logged
approval purchase (Approved online) (Some card) = record { pan = card.pan; amount = purchase.amount } ∷ []
approval purchase (Approved online) None = []
approval purchase (Declined online) card = []
approval purchase (Terminated step cause) card = []
approval purchase (CutOff step) card = []

-- the power of a terminal is cut as its store adds this capture
abbrev pub loses_by : Option Tear → StoreRow → Option (List ℕ) → Bool
loses_by plan store None = false
loses_by plan store (Some message) = is_next_cut plan store

abbrev pub loses : Payment → StoreRow → Option (List ℕ) → Bool
loses p store capture = p.durable && loses_by p.planned.terminal_tear store capture

-- the purchase has ended: what it captures is in the store, or waits for settlement; one that is lost joins no log
abbrev pub lane_ended : Payment → List Reply → EndData → LaneRow → LaneRow
lane_ended p replies end lane = record {
  ended = lane.ended ++ record { began = lane.began; replies = replies; end = Some end; lost = loses p lane.store end.capture } ∷ [];
  running = None;
  began = None;
  log = lane.log ++ (if loses p lane.store end.capture then [] else approval p.planned.purchase end.ending end.card);
  captures = lane.captures ++ (if p.durable then [] else option_to_list end.capture);
  sent = lane.sent;
  store = (if p.durable then ended_by p.planned.terminal_tear lane.store end.capture else lane.store);
}

abbrev pub ended_with : Payment → List Reply → EndData → Part → List Line → Moved
ended_with p replies end part lines = record {
  part = record { lane = lane_ended p replies end part.lane; card = freed part.card; messages = part.messages };
  lines = lines ++ outcome_line (loses p part.lane.store end.capture) p.lane (length part.lane.ended + 1) end ∷ [];
  choices = 0;
}

-- it goes on with these replies
abbrev pub dialogue_goes_on : List Reply → Part → List Line → Moved
dialogue_goes_on replies part lines = record { part = record part { lane = record part.lane { running = Some replies } }; lines = lines; choices = 0 }

-- it ends where its dialogue is over
abbrev pub ended_by_record : Payment → List Reply → Part → List Line → Option EndData → Moved
ended_by_record p replies part lines None = dialogue_goes_on replies part lines
ended_by_record p replies part lines (Some end) = ended_with p replies end part lines

abbrev pub ended_if_over : Payment → List Reply → Part → List Line → Moved
ended_if_over p replies part lines = ended_by_record p replies part lines (end_at p replies)

-- the card is gone, with which every dialogue ends: `cut` is what the cut left
abbrev pub cut_ends : Payment → List Reply → Part → Part → List Line → Option EndData → Moved
cut_ends p replies part cut lines None = still part
cut_ends p replies part cut lines (Some end) = ended_with p replies end cut lines

abbrev pub cut_short : Payment → List Reply → Part → CardRow → List Line → Moved
cut_short p replies part card lines =
    cut_ends p (replies ++ CardGone ∷ []) part (record part { card = card }) lines (end_at p (replies ++ CardGone ∷ []))

-- the card answers, or the plan cuts one of its decisions
abbrev pub lane_answered_by : Payment → List Reply → List ℕ → Part → CardAnswer → Option Cut → Moved
lane_answered_by p replies command part said None =
    ended_if_over p (replies ++ CardSaid said.answer part.lane.log ∷ []) (record part { card = exchanged p.card.image part.card command said })
    (answer_lines p.lane command said.answer)
lane_answered_by p replies command part said (Some cut) = cut_short p replies part (row_torn part.card p.planned.tear cut) (torn_lines p.lane command)

abbrev pub card_by : Payment → List Reply → List ℕ → Part → CardAnswer → Moved
card_by p replies command part said = lane_answered_by p replies command part said (cut_of p.planned.tear part.card.made said.new)

-- a card of canned answers gives the next of them, and is gone where none is left
abbrev pub canned_by : Payment → List Reply → List ℕ → Part → Option (List ℕ) → Moved
canned_by p replies command part (Some answer) =
    ended_if_over p (replies ++ CardSaid answer part.lane.log ∷ []) (record part { card = told_once part.card }) (answer_lines p.lane command answer)
canned_by p replies command part None = cut_short p replies part part.card (gone_lines p.lane command)

abbrev pub asked_of_card : Payment → List Reply → List ℕ → Part → Option (List (List ℕ)) → Moved
asked_of_card p replies command part None = card_by p replies command part (card_answer p.card.image part.card.kept part.card.session command)
asked_of_card p replies command part (Some answers) = canned_by p replies command part (slice_get answers part.card.told)

abbrev pub asked_card : Payment → List Reply → List ℕ → Part → Moved
asked_card p replies command part = asked_of_card p replies command part p.card.canned

-- a message is made for the host, and comes to it or is lost
abbrev pub sending : Payment → List ℕ → Part → Part
sending p message part = record {
  lane = with_sent message part.lane;
  card = part.card;
  messages = part.messages ++ delivered p.planned.link message;
}

abbrev pub host_by : Payment → List Reply → List ℕ → Part → Option (List ℕ) → Moved
host_by p replies message part reply =
    ended_if_over p (replies ++ from_host reply ∷ []) (sending p message part) (host_lines p.iso p.lane message reply)

abbrev pub asked_host : Payment → List Reply → List ℕ → Part → Moved
asked_host p replies message part =
    host_by p replies message part (heard p.planned.link (host_reply p.issuer p.accounts part.messages message))

-- the dialogue's next ask
abbrev pub asked : Payment → List Reply → Part → Deed → Moved
asked p replies part (ToCard command) = asked_card p replies command part
asked p replies part (ToHost message) = asked_host p replies message part
asked p replies part (Over ending) = still part

-- a power-up that is completed, which finds these decisions
abbrev pub on_for : Payment → Option (List Decided) → List Decided → Part → Part
on_for p began found part = record {
  lane = record part.lane { began = began };
  card = powered part.card found (Some (record { lane = p.lane; number = length part.lane.ended }));
  messages = part.messages;
}

abbrev pub powered_up : Payment → Part → List Decided → Moved
powered_up p part found = with_one_choice (ended_if_over p [] (on_for p (Some found) found part) (power_line p.lane p.card found ∷ []))

-- a tear in commit 0 cuts it, and leaves the card's decisions as they were
abbrev pub begun_by : Payment → Part → Bool → Bool → Moved
begun_by p part choice true = cut_short p [] part (lost part.card) (power_torn_line p.lane p.card ∷ [])
begun_by p part choice false = powered_up p part (found_of part.card.kept part.card.pending choice)

-- a card of canned answers decides nothing: no tear cuts its power-up, and no truth value is taken
abbrev pub begun_canned : Payment → Part → Moved
begun_canned p part =
    ended_if_over p [] (on_for p None (found_of part.card.kept part.card.pending false) part) (power_canned_line p.lane p.card ∷ [])

abbrev pub begun_with : Payment → Part → Bool → Option (List (List ℕ)) → Moved
begun_with p part choice None = begun_by p part choice (names_commit p.planned.tear 0)
begun_with p part choice (Some answers) = begun_canned p part

-- a purchase begins where none has its card
abbrev pub purchase_begun : Payment → Part → Bool → Option Holder → Moved
purchase_begun p part choice None = begun_with p part choice p.card.canned
purchase_begun p part choice (Some holder) = still part

abbrev pub piece_by : Payment → Part → Bool → Option (List Reply) → Moved
piece_by p part choice None = purchase_begun p part choice part.card.holder
piece_by p part choice (Some replies) = asked p replies part (dialogue (outset_for p) replies).deed

-- one exchange of a lane whose store, where it has one, is open
abbrev pub piece : Payment → Part → Bool → Moved
piece p part choice = piece_by p part choice part.lane.running
