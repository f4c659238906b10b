-- What a reading gives has no value longer than an answer.
use Rattle.std.proofs.Common.{◌≡◌, ℕ, Bool, List, [], ◌∷◌, Option, Some, None, subst, sym}
use Rattle.std.specs.Prelude.{IfSome, option_and_then}
use Rattle.std.specs.List.{AllByRecursion}
use Rattle.emv_top.proofs.DialogueShort.{latest_short, dialogue_short}
use Rattle.emv_top.proofs.Pasts.{lane_pasts}
use Rattle.emv_top.specs.Short.{HasShortObjects}
use Rattle.kernel.specs.Dialogue.{dialogue}
use Rattle.kernel.specs.Ended.{EndData, end_by, end_with}
use Rattle.kernel.specs.Reply.{Reply, Deed, ToCard, ToHost, Over}
use Rattle.report_text.specs.declared.line.Line.{Line}
use Rattle.scenario_plan.specs.Plan.{ScenarioData}
use Rattle.terminal_state.specs.StepResults.{state_so_far, latest, sets_card}
use Rattle.txn_replay.proofs.Lists.{at_set, get_or-map_const}
use Rattle.txn_replay.specs.Part.{Part}
use Rattle.txn_replay.specs.Payment.{Payment, outset_for, end_at, next_of}
use Rattle.txn_replay.specs.Reading.{ReadReached, start, turned, data_at, data_by, last_past, past_card}
use Rattle.txn_replay.specs.Steps.{part_of, choice_in, turned_by}
use Rattle.txn_replay.specs.Storing.{lane_piece}
use Rattle.txn_replay.specs.World.{Past, LaneRow, World, new_lane, lane_at}

abbrev pub IsShortPast : Past → Type 0
IsShortPast past = IfSome (past_card past) HasShortObjects

abbrev pub LaneShort : LaneRow → Type 0
LaneShort row = AllByRecursion IsShortPast row.ended

last_short : (pasts : List Past) → AllByRecursion IsShortPast pasts → IfSome (option_and_then past_card (last_past pasts)) HasShortObjects
last_short [] all = tt
last_short (past ∷ []) all = all.0
last_short (past ∷ other ∷ others) all = last_short (other ∷ others) all.1

end_short : (p : Payment) (replies : List Reply) (end : EndData) → end_at p replies ≡ Some end → IfSome end.card HasShortObjects
end_short p replies end is = go (dialogue (outset_for p) replies).deed is
  where
    go : (deed : Deed) → end_by (outset_for p) (dialogue (outset_for p) replies).steps_done deed ≡ Some end → IfSome end.card HasShortObjects
    go (ToCard command) is = cc
    go (ToHost message) is = cc
    go (Over ending) is =
        let same : end_with (outset_for p) ending (latest sets_card None (dialogue (outset_for p) replies).steps_done) (state_so_far (dialogue (outset_for p) replies).steps_done) ≡ end = cc in
        subst (λ (e : EndData). IfSome e.card HasShortObjects) same (latest_short (dialogue (outset_for p) replies).steps_done (dialogue_short (outset_for p) replies))

abbrev pub AllLanesShort : World → Type 0
AllLanesShort w = (l : ℕ) → LaneShort (lane_at w l)

turn_short : (s : ScenarioData) (w : World) (choices : List Bool) (o : Option Payment) → AllLanesShort w → AllLanesShort (turned_by w 0 choices o).world
turn_short s w choices None all = all
turn_short s w choices (Some p) all =
    let part : Part = part_of w 0 p.planned.card in
    at_set (λ (l : ℕ) (row : LaneRow). LaneShort row) w.lanes 0 (lane_piece p part (choice_in choices 0) (choice_in choices 1)).part.lane new_lane
    (lane_pasts IsShortPast p (λ began replies end lost is. end_short p replies end is) (λ n cut. tt) part (all 0) (choice_in choices 0) (choice_in choices 1)) all

lanes_short : (s : ScenarioData) (n : ℕ) (cs : List Bool) (ls : List Line) (w : World) → ReadReached s n cs ls w → AllLanesShort w
lanes_short s _ _ _ _ start l = subst LaneShort (sym (get_or-map_const s.lanes l new_lane)) tt
lanes_short s _ _ _ _ (turned {n} {cs} {c} {ls} {new} {w} {w' = after} before unread step) l =
    subst (λ (v : World). LaneShort (lane_at v l)) (sym step.leads)
    (turn_short s w c (next_of s w 0) (lanes_short s n cs ls w before) l)

data_short : (s : ScenarioData) (w : World) (running : Option (List Reply)) → AllLanesShort w → IfSome (data_by s w 0 running) HasShortObjects
data_short s w None all = last_short (lane_at w 0).ended (all 0)
data_short s w (Some replies) all = by_next (next_of s w 0)
  where
    by_next : (o : Option Payment) → IfSome (option_and_then (λ p. latest sets_card None (dialogue (outset_for p) replies).steps_done) o) HasShortObjects
    by_next None = tt
    by_next (Some p) = latest_short (dialogue (outset_for p) replies).steps_done (dialogue_short (outset_for p) replies)

pub read_short : (s : ScenarioData) (n : ℕ) (cs : List Bool) (ls : List Line) (w : World) → ReadReached s n cs ls w → IfSome (data_at s w 0) HasShortObjects
read_short s n cs ls w reached = data_short s w (lane_at w 0).running (lanes_short s n cs ls w reached)
