-- A run in which lanes speak other dialects with the host: its lines are the other dialects' spellings of the same messages
-- and replies, which the host and the terminal read (this project's own).
use Rattle.std.specs.Prelude.{◌≡◌, ℕ, ◌+◌, Bool, true, false, List, [], ◌∷◌}
use Rattle.std.specs.List.{All}
use Rattle.auth_message.specs.Whole.{IsMessage, IsReply}
use Rattle.host_link.specs.Dialect.{call_in, reply_in}
use Rattle.report_text.specs.declared.line.Line.{Line}
use Rattle.report_text.specs.declared.line.Line.TheVariants.{ToHost, FromHost, NoReply, SettleCall, SettleReply}
use Rattle.scenario_plan.specs.Plan.{ScenarioData, IsScenario}
use Rattle.scenario_lanes.specs.Plan.{LaneData}
use Rattle.txn_replay.specs.Payment.{dialect_of}
use Rattle.txn_replay.specs.Run.{RunPlace, Reached, Run}
use Rattle.txn_replay.specs.World.{World, lane_at}

-- the scenario with these dialects for its lanes, the first of which has this number
abbrev pub lanes_in : (ℕ → Bool) → ℕ → List LaneData → List LaneData
lanes_in iso l [] = []
lanes_in iso l (lane ∷ lanes) = record lane { iso = iso l } ∷ lanes_in iso (l + 1) lanes

abbrev pub in_dialects : (ℕ → Bool) → ScenarioData → ScenarioData
in_dialects iso s = record s { lanes = lanes_in iso 0 s.lanes }

-- a line with the bytes of a message or of a reply
abbrev pub is_host : Line → Bool
is_host (ToHost lane bytes) = true
is_host (FromHost lane bytes) = true
is_host (SettleCall lane bytes) = true
is_host (SettleReply lane bytes) = true
is_host other = false

-- a message that the host reads stands with a reply, or with none, and both are spelled anew in the lane's other dialect;
-- each other line stays
pub data AreRespelled (before after : ℕ → Bool) : List Line → List Line → Type 0 where
  no_lines : AreRespelled before after [] []
  same_line : {xs ys : List Line} (line : Line) → is_host line ≡ false → AreRespelled before after xs ys
      → AreRespelled before after (line ∷ xs) (line ∷ ys)
  exchange : {xs ys : List Line} (lane : ℕ) (message reply : List ℕ) → IsMessage message → IsReply reply → AreRespelled before after xs ys
      → AreRespelled before after
      (ToHost lane (record { items = call_in (before lane) message }) ∷ FromHost lane (record { items = reply_in (before lane) message reply }) ∷ xs)
      (ToHost lane (record { items = call_in (after lane) message }) ∷ FromHost lane (record { items = reply_in (after lane) message reply }) ∷ ys)
  silence : {xs ys : List Line} (lane : ℕ) (message : List ℕ) → IsMessage message → AreRespelled before after xs ys
      → AreRespelled before after (ToHost lane (record { items = call_in (before lane) message }) ∷ NoReply lane ∷ xs)
      (ToHost lane (record { items = call_in (after lane) message }) ∷ NoReply lane ∷ ys)
  settled : {xs ys : List Line} (lane : ℕ) (message reply : List ℕ) → IsMessage message → IsReply reply → AreRespelled before after xs ys
      → AreRespelled before after
      (SettleCall lane (record { items = call_in (before lane) message }) ∷ SettleReply lane (record { items = reply_in (before lane) message reply }) ∷ xs)
      (SettleCall lane (record { items = call_in (after lane) message }) ∷ SettleReply lane (record { items = reply_in (after lane) message reply }) ∷ ys)

-- what the lanes have made for the host are messages that it reads
abbrev pub AreMessages : World → Type 0
AreMessages w = (l : ℕ) → All IsMessage (lane_at w l).sent

-- with the same truth values the same world is reached in as many events, and with it each ending and each balance
abbrev pub DialectsShow : Type 0
DialectsShow =
    (s : ScenarioData) (iso : ℕ → Bool) (place : RunPlace) (n : ℕ) (choices : List Bool) (lines : List Line) (w : World)
    → IsScenario s → Reached s place n choices lines w → AreMessages w
    → (others : List Line) × Reached (in_dialects iso s) place n choices others w
    × AreRespelled (dialect_of s) (dialect_of (in_dialects iso s)) lines others

-- so it is of whole runs
abbrev pub WholeDialectsShow : Type 0
WholeDialectsShow =
    (s : ScenarioData) (iso : ℕ → Bool) (lines : List Line) (w : World) → IsScenario s → Run s lines w → AreMessages w
    → (others : List Line) × Run (in_dialects iso s) others w × AreRespelled (dialect_of s) (dialect_of (in_dialects iso s)) lines others
