-- The laws over every run.
-- Each is what the events keep, folded over the run: `runs_are_fair` and the bounds of `runs_end`.
use Rattle.std.proofs.Common.{◌≡◌, ℕ, ◌<◌, ◌≤◌, Bool, List, length, slice_get, Some, subst, arith}
use Rattle.std.proofs.lemmas.Option.{slice_get_within, get_or_from_slice_get}
use Rattle.card_files.specs.Views.{ImageData}
use Rattle.host_histories.specs.BookedOnce.{BookedOnce}
use Rattle.report_text.specs.declared.line.Line.{Line}
use Rattle.scenario_plan.specs.Cards.{CardData}
use Rattle.scenario_plan.specs.Plan.{ScenarioData, IsScenario}
use Rattle.txn_replay.specs.Bounds.{IsFew}
use Rattle.txn_replay.specs.Laws.{IsFair}
use Rattle.txn_replay.specs.Run.{RunPlace, Finished, Reached, Run}
use Rattle.txn_replay.specs.Sound.{IsWorldSound}
use Rattle.txn_replay.specs.Steps.{settlements}
use Rattle.txn_replay.specs.World.{CardRow, World, new_card}
use Rattle.txn_replay.proofs.RunLaws.FewEvents.{lanes_few, few_of, settlements_few}
use Rattle.txn_replay.proofs.RunLaws.CardsReached.{AllHold, reached_holds}
use Rattle.txn_replay.proofs.Lists.{some_at}
use Rattle.txn_replay.proofs.CardLaws.FoundPrefixes.{IsKept, kept_closed}
use Rattle.txn_replay.proofs.StoreLaws.StoresKept.{reached_found}
use Rattle.txn_replay.proofs.CardLaws.CountersServeOnce.{IsCounted, counted_closed}

-- a card of the world is one of the scenario's
card_of_world : (P : ImageData → CardRow → Type 0) (s : ScenarioData) (w : World) → AllHold P s w → (i : ℕ) (row : CardRow)
    → slice_get w.cards i ≡ Some row → (card : CardData) × P card.image row
card_of_world P s w hold i row here =
    let within : i < length w.cards = slice_get_within w.cards i row here in
    let inside : i < length s.cards = (let e : length w.cards ≡ length s.cards = hold.sound.card_count in omega arith) in
    let one = some_at s.cards i inside in
    (one.0, subst (λ (x : CardRow). P one.0.image x) (get_or_from_slice_get w.cards i row new_card here) (hold.cards i one.0 one.1))

-- what holds of every list of messages holds of those that came to the host
pub reached_fair : BookedOnce → (s : ScenarioData) (place : RunPlace) (n : ℕ) (choices : List Bool) (lines : List Line) (w : World)
    → Reached s place n choices lines w → IsFair s w
reached_fair booked s place n choices lines w reached = record {
  one_use = λ i row here.
      (card_of_world IsCounted s w (reached_holds IsCounted counted_closed s place n choices lines w reached) i row here).1.once;
  prefix = λ i row here.
      (card_of_world IsKept s w (reached_holds IsKept kept_closed s place n choices lines w reached) i row here).1.prefix;
  booked_once = record {
    once = λ key i j first second. booked.once s.issuer s.accounts w.messages key i j first second;
    presented = λ key at books. booked.presented s.issuer s.accounts w.messages key at books;
  };
}

pub whole_fair : BookedOnce → (s : ScenarioData) (lines : List Line) (w : World) → Run s lines w → IsFair s w
whole_fair booked s lines w run = reached_fair booked s Finished run.count run.choices run.reported w run.reached

pub reached_sound : (s : ScenarioData) (place : RunPlace) (n : ℕ) (choices : List Bool) (lines : List Line) (w : World)
    → Reached s place n choices lines w → IsWorldSound s w
reached_sound s place n choices lines w reached = (reached_holds IsCounted counted_closed s place n choices lines w reached).sound

pub reached_few : (s : ScenarioData) (place : RunPlace) (n : ℕ) (choices : List Bool) (lines : List Line) (w : World)
    → Reached s place n choices lines w → IsFew s w
reached_few s place n choices lines w reached =
    few_of s w (reached_sound s place n choices lines w reached) (lanes_few s place n choices lines w reached)
    (reached_found s place n choices lines w reached)

pub reached_settlements : (s : ScenarioData) (place : RunPlace) (n : ℕ) (choices : List Bool) (lines : List Line) (w : World)
    → IsScenario s → Reached s place n choices lines w → length (settlements s w) ≤ 30352
reached_settlements s place n choices lines w is reached = settlements_few s w is (reached_few s place n choices lines w reached)
