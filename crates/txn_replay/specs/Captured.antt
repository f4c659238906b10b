-- The law of captures: what a lane that keeps its captures durably sends for settlement, and which of its purchases were lost
-- (this project's own).
use Rattle.std.specs.Prelude.{◌≡◌, ◌≤◌, ℕ, ◌==◌, Bool, true, false, if◌then◌else◌, List, [], ◌∷◌, map, take, flat_map, count_by, replicate, slice_get, Option, Some, None, Result, Ok, Err}
use Rattle.std.specs.List.{All}
use Rattle.std.specs.Str.{bytes_eq}
use Rattle.auth_message.specs.Data.{PresentData}
use Rattle.auth_message.specs.Message.{message_of}
use Rattle.auth_message.specs.Reply.{ReplyData, reply_of}
use Rattle.auth_message.specs.declared.fault.MessageFault.{MessageFault}
use Rattle.auth_message.specs.declared.message.Incoming.TheVariants.{Present}
use Rattle.capture_store.specs.Sending.{Caught, Sends}
use Rattle.host_histories.specs.BookedOnce.{IsBooking}
use Rattle.host_ledger.specs.declared.key.Key.{Key}
use Rattle.host_link.specs.Dialect.{call_in}
use Rattle.issuer_host.specs.Account.{AccountData}
use Rattle.issuer_host.specs.Code.{code_bytes}
use Rattle.issuer_host.specs.History.{host_reply}
use Rattle.issuer_host.specs.Reply.{present_key}
use Rattle.issuer_host.specs.declared.code.Code.TheVariants.{Approved}
use Rattle.issuer_host.specs.declared.keys.HostKeys.{HostKeys}
use Rattle.kernel.specs.Ended.{EndData}
use Rattle.report_text.specs.declared.line.Line.{Line}
use Rattle.report_text.specs.declared.line.Line.TheVariants.{SettleCall, EndLost}
use Rattle.scenario_plan.specs.Plan.{ScenarioData}
use Rattle.txn_replay.specs.Counting.{lost_count}
use Rattle.txn_replay.specs.Payment.{Payment, payment_in, dialect_of, durable_of}
use Rattle.txn_replay.specs.Run.{RunPlace, Reached, Run}
use Rattle.txn_replay.specs.World.{Past, World, lane_at}

-- what purchases captured, and whether they were lost
abbrev pub captured_by : Bool → Option (List ℕ) → List Caught
captured_by lost None = []
captured_by lost (Some message) = record { message = message; lost = lost } ∷ []

abbrev pub caught_at : Bool → Option EndData → List Caught
caught_at lost None = []
caught_at lost (Some end) = captured_by lost end.capture

abbrev pub caught_of : Past → List Caught
caught_of past = caught_at past.lost past.end

unfoldable pub caught_in : List Past → List Caught
caught_in pasts = flat_map caught_of pasts

-- the settlement messages that the lines of a lane tell
abbrev pub settled_told : ℕ → Line → List (List ℕ)
settled_told l (SettleCall lane bytes) = if lane == l then bytes.items ∷ [] else []
settled_told l other = []

unfoldable pub all_settled_told : ℕ → List Line → List (List ℕ)
all_settled_told l lines = flat_map (settled_told l) lines

-- the reply of these bytes has code 00
abbrev pub is_reply_approved : Result ReplyData MessageFault → Bool
is_reply_approved (Err fault) = false
is_reply_approved (Ok reply) = bytes_eq reply.code (code_bytes Approved)

-- one of the messages up to this place books the transaction
pub record IsBookedBy (keys : HostKeys) (accounts : List AccountData) (messages : List (List ℕ)) (key : Key) (place : ℕ) : Type 0 where
  pub first : ℕ
  pub by_then : first ≤ place
  pub books : IsBooking keys accounts messages key first

-- the message came to the host; and where it is a presentment, its transaction is booked by the time that it is answered
-- with code 00
pub record IsDelivered (keys : HostKeys) (accounts : List AccountData) (messages : List (List ℕ)) (message : List ℕ) : Type 0 where
  pub place : ℕ
  pub there : slice_get messages place ≡ Some message
  pub booked : (at : ℕ) (fields : PresentData) → slice_get messages at ≡ Some message → message_of message ≡ Ok (Present fields)
      → is_reply_approved (reply_of (host_reply keys accounts (take at messages) message)) ≡ true → IsBookedBy keys accounts messages (present_key fields) at

-- these messages are among those that came, in their order, each as often as it stands here
pub data AreAmong : List (List ℕ) → List (List ℕ) → Type 0 where
  none_came : AreAmong [] []
  came : {sent messages : List (List ℕ)} (message : List ℕ) → AreAmong sent messages → AreAmong (message ∷ sent) (message ∷ messages)
  passed : {sent messages : List (List ℕ)} (message : List ℕ) → AreAmong sent messages → AreAmong sent (message ∷ messages)

-- no purchase of a lane has a tear of its terminal
abbrev pub IsUntorn : ScenarioData → ℕ → Type 0
IsUntorn s l = (number : ℕ) (p : Payment) → payment_in s l number ≡ Some p → p.planned.terminal_tear ≡ None

-- each capture of a purchase that wasn't lost was sent whole, in the order of the purchases, each copy; that of a
-- lost purchase whole or never; one may be sent again, as its drop may be lost. What was sent came to the host, all
-- its copies, in this order. A lane without a tear sends each capture once.
pub record AreSent (s : ScenarioData) (lines : List Line) (w : World) (l : ℕ) : Type 0 where
  pub sent : List (List ℕ)
  pub sends : Sends (caught_in (lane_at w l).ended) sent
  pub told : all_settled_told l lines ≡ map (call_in (dialect_of s l)) (flat_map (replicate s.copies) sent)
  pub arrived : AreAmong (flat_map (replicate s.copies) sent) w.messages
  pub exact : IsUntorn s l → sent ≡ map (λ caught. caught.message) (caught_in (lane_at w l).ended)
  pub delivered : All (IsDelivered s.issuer s.accounts w.messages) sent

-- so it is of each whole run and of each lane that keeps its captures durably
abbrev pub CapturesAreSent : Type 0
CapturesAreSent =
    (s : ScenarioData) (lines : List Line) (w : World) (l : ℕ) → 1 ≤ s.copies → durable_of s l ≡ true → Run s lines w → AreSent s lines w l

-- a line of a lane that tells that a purchase was lost
abbrev pub is_lost_line : ℕ → Line → Bool
is_lost_line l (EndLost lane number) = lane == l
is_lost_line l other = false

-- as many purchases of each lane were lost as its lines tell
abbrev pub AreLostAsTold : List Line → World → Type 0
AreLostAsTold lines w = (l : ℕ) → lost_count (lane_at w l).ended ≡ count_by (is_lost_line l) lines

-- in every run as many purchases of each lane were lost as its lines tell
abbrev pub LostAreTold : Type 0
LostAreTold =
    (s : ScenarioData) (place : RunPlace) (n : ℕ) (choices : List Bool) (lines : List Line) (w : World)
    → Reached s place n choices lines w → AreLostAsTold lines w

-- so it is of whole runs
abbrev pub WholeRunsTellLost : Type 0
WholeRunsTellLost = (s : ScenarioData) (lines : List Line) (w : World) → Run s lines w → AreLostAsTold lines w
