-- The reading of a card: the first lane's first purchase, up to the end of reading (this project's own).
use Rattle.std.specs.Prelude.{◌≡◌, ℕ, ◌+◌, Bool, true, false, is_some, List, [], ◌∷◌, ◌++◌, map, flat_map, Option, Some, None, option_map, option_and_then}
use Rattle.emv_dict.specs.declared.ending.Ending.{Ending}
use Rattle.kernel.specs.Dialogue.{dialogue}
use Rattle.kernel.specs.Reply.{Reply}
use Rattle.object_lists.specs.CardRead.{ReadCard}
use Rattle.report_text.specs.declared.line.Line.{Line}
use Rattle.report_text.specs.declared.line.Line.TheVariants as line
use Rattle.scenario_plan.specs.Plan.{ScenarioData}
use Rattle.scenario_lanes.specs.Plan.{LaneData}
use Rattle.scenario_lanes.specs.declared.plan.Planned.{Planned}
use Rattle.terminal_state.specs.StepResults.{latest, sets_card}
use Rattle.txn_replay.specs.Payment.{Payment, outset_for, next_of}
use Rattle.txn_replay.specs.Steps.{Step}
use Rattle.txn_replay.specs.World.{Past, World, first_world, lane_at}
use Rattle.txn_replay.specs.declared.event.Event.TheVariants.{Turn}

-- the purchase is taken without its tears
abbrev pub untorn : Planned → Planned
untorn planned = record planned { tear = None; terminal_tear = None }

abbrev pub first_untorn : List Planned → List Planned
first_untorn [] = []
first_untorn (planned ∷ others) = untorn planned ∷ others

abbrev pub lane_untorn : List LaneData → List LaneData
lane_untorn [] = []
lane_untorn (lane ∷ lanes) = record lane { purchases = first_untorn lane.purchases } ∷ lanes

abbrev pub to_read : ScenarioData → ScenarioData
to_read s = record s { lanes = lane_untorn s.lanes }

-- what reading gave in this purchase, where it is finished
abbrev pub data_after : List Reply → Payment → Option ReadCard
data_after replies p = latest sets_card None (dialogue (outset_for p) replies).steps_done

abbrev pub last_past : List Past → Option Past
last_past [] = None
last_past (past ∷ []) = Some past
last_past (past ∷ other ∷ others) = last_past (other ∷ others)

abbrev pub past_card : Past → Option ReadCard
past_card past = option_and_then (λ end. end.card) past.end

-- what reading gave in the purchase that a lane began last
abbrev pub data_by : ScenarioData → World → ℕ → Option (List Reply) → Option ReadCard
data_by s w l (Some replies) = option_and_then (data_after replies) (next_of s w l)
data_by s w l None = option_and_then past_card (last_past (lane_at w l).ended)

-- what reading gave in the purchase that a lane began last
abbrev pub data_at : ScenarioData → World → ℕ → Option ReadCard
data_at s w l = data_by s w l (lane_at w l).running

-- how a lane's latest purchase ended, where it has an end record
abbrev pub latest_ending : List Past → Option Ending
latest_ending pasts = option_and_then (λ past. option_map (λ end. end.ending) past.end) (last_past pasts)

-- how a lane's latest purchase ended, where it has an end record
abbrev pub ending_at : World → ℕ → Option Ending
ending_at w l = latest_ending (lane_at w l).ended

-- reading is finished, or the purchase has ended
abbrev pub is_read_by : Option ReadCard → Option Ending → Bool
is_read_by (Some card) ending = true
is_read_by None ending = is_some ending

abbrev pub is_read : ScenarioData → World → Bool
is_read s w = is_read_by (data_at s w 0) (ending_at w 0)

-- an end line isn't shown
abbrev pub without_end : Line → List Line
without_end (line.End lane number parts) = []
without_end (line.EndLost lane number) = []
without_end other = other ∷ []

-- turns of the first lane, up to the one in which its card is read
pub data ReadReached (s : ScenarioData) : ℕ → List Bool → List Line → World → Type 0 where
  start : ReadReached s 0 [] [] (first_world s)
  turned : {n : ℕ} {cs c : List Bool} {ls new : List Line} {w w' : World} →
      ReadReached s n cs ls w → is_read s w ≡ false → Step s w (Turn 0) c new w' →
      ReadReached s (n + 1) (cs ++ c) (ls ++ flat_map without_end new) w'

abbrev pub object_line : ℕ × List ℕ → Line
object_line entry = line.Object (record { 0 = entry.0 }) (record { items = entry.1 })

-- the card's data objects, or how reading ended
abbrev pub ended_line : Option Ending → List Line
ended_line None = []
ended_line (Some ending) = line.ReadEnded ending ∷ []

abbrev pub read_lines : Option ReadCard → Option Ending → List Line
read_lines (Some card) ending = map object_line card.entries ++ line.ReadOk ∷ []
read_lines None ending = ended_line ending

-- a whole reading
pub record ReadRun (s : ScenarioData) (lines : List Line) (w : World) : Type 0 where
  pub count : ℕ
  pub choices : List Bool
  pub reported : List Line
  pub reached : ReadReached (to_read s) count choices reported w
  pub read : is_read (to_read s) w ≡ true
  pub whole : lines ≡ reported ++ read_lines (data_at (to_read s) w 0) (ending_at w 0)
