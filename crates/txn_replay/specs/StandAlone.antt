-- A lane that shares no card and no account with others runs as if it were alone (this project's own).
use Rattle.std.specs.Prelude.{◌≡◌, ◌≢◌, ℕ, ◌-◌, ◌==◌, ◌<◌, Bool, true, false, List, [], ◌++◌, length, count_by, filter, take, slice_get, Option, Some, None}
use Rattle.std.specs.List.{list_any}
use Rattle.std.specs.Str.{bytes_eq}
use Rattle.host_histories.specs.Apart.{pan_carried, own_accounts}
use Rattle.report_text.specs.declared.line.Line.{Line}
use Rattle.scenario_plan.specs.Plan.{ScenarioData, IsScenario}
use Rattle.txn_replay.specs.Alone.{is_card_of, alone, LaneRun, HasOwnCards, HasOwnNumbers, PartsAgree, is_own, LaneHasNoChoice}
use Rattle.txn_replay.specs.Choices.{IsSameRun}
use Rattle.txn_replay.specs.Run.{RunPlace, Finished, Reached, start, scheduled, rounds, round, again, settlement, settling, audit, auditing, finished, Run}
use Rattle.txn_replay.specs.Steps.{Settlement, Opens, Sends, settlements_from, settlements, Check, PowersUp, Asks, checks, Step}
use Rattle.txn_replay.specs.World.{World, first_world, lane_at}
use Rattle.txn_replay.specs.declared.event.Event.{Event}
use Rattle.txn_replay.specs.declared.event.Event.TheVariants.{Turn, Settle, Audit}

-- one of these messages carries this account number
abbrev pub carries : List ℕ → Option (List ℕ) → Bool
carries pan None = false
carries pan (Some other) = bytes_eq other pan

unfoldable pub is_carried : List (List ℕ) → List ℕ → Bool
is_carried messages pan = list_any (λ message. carries pan (pan_carried message)) messages

-- no other lane's message carries an account number that a message of the lane carries
abbrev pub SharesNoNumber : ℕ → World → Type 0
SharesNoNumber l w = (k i : ℕ) (message pan : List ℕ) → k ≢ l → slice_get (lane_at w k).sent i ≡ Some message → pan_carried message ≡ Some pan
    → is_carried (lane_at w l).sent pan ≡ false

-- so the numbers that its messages carry are its own
abbrev pub CarriedAreOwn : Type 0
CarriedAreOwn = (l : ℕ) (w : World) → SharesNoNumber l w → HasOwnNumbers (is_carried (lane_at w l).sent) l w

-- no other lane has a card of the lane, and none has sent a message with one of these account numbers, which are those of the
-- lane's own messages
pub record IsApart (pans : List ℕ → Bool) (s : ScenarioData) (l : ℕ) (w : World) : Type 0 where
  pub inside : l < length s.lanes
  pub cards : HasOwnCards s l
  pub numbers : HasOwnNumbers pans l w

-- two scenarios have the same issuer, accounts of these numbers, cards of the lane, and lane
pub record HaveSame (pans : List ℕ → Bool) (s t : ScenarioData) (l : ℕ) : Type 0 where
  pub issuer : s.issuer ≡ t.issuer
  pub accounts : own_accounts pans s.accounts ≡ own_accounts pans t.accounts
  pub cards : (i : ℕ) → is_card_of s l i ≡ true → slice_get s.cards i ≡ slice_get t.cards i
  pub lane : slice_get s.lanes l ≡ slice_get t.lanes l
  pub copies : s.copies ≡ t.copies

-- nothing else of a scenario matters to the lane alone
abbrev pub AloneIsOwn : Type 0
AloneIsOwn = (pans : List ℕ → Bool) (s t : ScenarioData) (l : ℕ) → HaveSame pans s t l → alone pans s l ≡ alone pans t l

abbrev pub is_step_of : ℕ → Option Settlement → Bool
is_step_of l None = false
is_step_of l (Some (Opens lane)) = lane == l
is_step_of l (Some (Sends lane message drops)) = lane == l

abbrev pub is_check_of : (ℕ → Bool) → Option Check → Bool
is_check_of own None = false
is_check_of own (Some (PowersUp i card)) = own i
is_check_of own (Some (Asks i card command)) = own i

-- the truth values of an event, where it is one of the lane
abbrev pub own_values : Bool → List Bool → List Bool
own_values true choices = choices
own_values false choices = []

-- The truth values that a lane's own events took in a run: the openings of its store, and the power-ups of its cards.
unfoldable pub own_choices : (s : ScenarioData) (l : ℕ) (place : RunPlace) (n : ℕ) (choices : List Bool) (lines : List Line) (w : World)
    → Reached s place n choices lines w → List Bool
own_choices s l _ _ _ _ _ start = []
own_choices s l _ _ _ _ _ (scheduled {l = k} {n} {cs} {c} {ls} {w = v} before at step) = own_choices s l _ n cs ls v before ++ own_values (k == l) c
own_choices s l _ _ _ _ _ (rounds {n} {cs} {ls} {w = v} before) = own_choices s l _ n cs ls v before
own_choices s l _ _ _ _ _ (round {l = k} {n} {cs} {c} {ls} {w = v} before within busy step) = own_choices s l _ n cs ls v before ++ own_values (k == l) c
own_choices s l _ _ _ _ _ (again {n} {cs} {ls} {w = v} before) = own_choices s l _ n cs ls v before
own_choices s l _ _ _ _ _ (settlement {n} {cs} {ls} {w = v} before over) = own_choices s l _ n cs ls v before
own_choices s l _ _ _ _ _ (settling {n} {cs} {c} {ls} {w = v} {at} before here step) =
    own_choices s l _ n cs ls v before ++ own_values (is_step_of l (Some at)) c
own_choices s l _ _ _ _ _ (audit {n} {cs} {ls} {w = v} before past) = own_choices s l _ n cs ls v before
own_choices s l _ _ _ _ _ (auditing {n} {cs} {c} {ls} {w = v} {check} before here step) =
    own_choices s l _ n cs ls v before ++ own_values (is_check_of (is_card_of s l) (Some check)) c
own_choices s l _ _ _ _ _ (finished {n} {cs} {ls} {w = v} before past) = own_choices s l _ n cs ls v before

abbrev pub run_choices : (s : ScenarioData) (l : ℕ) (lines : List Line) (w : World) → Run s lines w → List Bool
run_choices s l lines w run = own_choices s l Finished run.count run.choices run.reported w run.reached

-- its own lines are those of a run of the lane alone with the truth values of its own events, and the parts of both worlds agree
pub record RunsAlone (pans : List ℕ → Bool) (s : ScenarioData) (l : ℕ) (lines : List Line) (w : World) (whole : Run s lines w) : Type 0 where
  pub own : List Line
  pub world : World
  pub run : LaneRun pans s l (run_choices s l lines w whole) own world
  pub told : own ≡ filter (is_own pans s l) lines
  pub parts : PartsAgree pans s l w world

-- in every run a lane that shares no card and no account with others runs as if it were alone
abbrev pub LanesStandAlone : Type 0
LanesStandAlone =
    (pans : List ℕ → Bool) (s : ScenarioData) (l : ℕ) (lines : List Line) (w : World) → IsScenario s → IsApart pans s l w → (run : Run s lines w)
    → RunsAlone pans s l lines w run

-- where no tear of the lane leaves a choice, all runs of it are one, whatever their truth values
abbrev pub LaneRunIsOne : Type 0
LaneRunIsOne =
    (pans : List ℕ → Bool) (s : ScenarioData) (l : ℕ) (choices values : List Bool) (lines others : List Line) (w v : World) → l < length s.lanes
    → LaneHasNoChoice s l → LaneRun pans s l choices lines w → LaneRun pans s l values others v → IsSameRun lines others w v

-- an exchange of the lane, a step of its settlement, or one of the audit of its cards
abbrev pub is_event_of : ScenarioData → World → ℕ → Event → Bool
is_event_of s w l (Turn lane) = lane == l
is_event_of s w l (Settle number) = is_step_of l (slice_get (settlements s w) number)
is_event_of s w l (Audit number) = is_check_of (is_card_of s l) (slice_get (checks s) number)

-- and which one it is in a run of the lane alone: an exchange, or the step or check of this number among the lane's own; these
-- steps stand behind those of the lanes before it
abbrev pub event_alone : ScenarioData → World → ℕ → Event → Event
event_alone s w l (Turn lane) = Turn l
event_alone s w l (Settle number) = Settle (number - length (settlements_from s 0 (take l w.lanes)))
event_alone s w l (Audit number) = Audit (count_by (λ check. is_check_of (is_card_of s l) (Some check)) (take number (checks s)))

-- the lane alone has this event, with the same truth values and lines, all of them its own, and then the parts agree
pub record Follows (pans : List ℕ → Bool) (s : ScenarioData) (l : ℕ) (v : World) (event : Event) (choices : List Bool) (lines : List Line)
    (after : World) : Type 0 where
  pub world : World
  pub step : Step (alone pans s l) v event choices lines world
  pub told : filter (is_own pans s l) lines ≡ lines
  pub parts : PartsAgree pans s l after world

-- none of the lines is the lane's own, and the parts agree as before
pub record LeavesLane (pans : List ℕ → Bool) (s : ScenarioData) (l : ℕ) (v : World) (lines : List Line) (after : World) : Type 0 where
  pub none : filter (is_own pans s l) lines ≡ []
  pub parts : PartsAgree pans s l after v

abbrev pub ComesBy : (List ℕ → Bool) → ScenarioData → ℕ → World → Event → List Bool → List Line → World → Bool → Type 0
ComesBy pans s l v event choices lines after true = Follows pans s l v event choices lines after
ComesBy pans s l v event choices lines after false = LeavesLane pans s l v lines after

-- both agree before their first events
abbrev pub FirstPartsAgree : Type 0
FirstPartsAgree =
    (pans : List ℕ → Bool) (s : ScenarioData) (l : ℕ) → l < length s.lanes → PartsAgree pans s l (first_world s) (first_world (alone pans s l))

-- whichever lane shares nothing with others: the event is one of the lane alone, or none of it
abbrev pub ComesApart : ScenarioData → World → Event → List Bool → List Line → World → Type 0
ComesApart s w e choices lines after =
    (pans : List ℕ → Bool) (l : ℕ) (v : World) → IsScenario s → IsApart pans s l after → PartsAgree pans s l w v
    → ComesBy pans s l v (event_alone s w l e) choices lines after (is_event_of s w l e)

-- and so it is of each event
abbrev pub StepsComeApart : Type 0
StepsComeApart =
    (s : ScenarioData) (w : World) (e : Event) (choices : List Bool) (lines : List Line) (after : World) → Step s w e choices lines after
    → ComesApart s w e choices lines after
