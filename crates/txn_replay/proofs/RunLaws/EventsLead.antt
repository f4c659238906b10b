-- How an event leads on: a turn, a step of the settlement or one of the audit.
-- An event of the definitions is told with its lines, its truth values and the world behind it.
use Rattle.std.proofs.Common.{◌≡◌, Bool, List, length, sym, ap, ◌∙◌, inl, inr}
use Rattle.report_text.specs.declared.line.Line.{Line}
use Rattle.scenario_plan.specs.Cards.{CardData}
use Rattle.scenario_plan.specs.Plan.{ScenarioData}
use Rattle.txn_replay.specs.Seen.{WorldSeen, RunCardStands, WorldStands, EventHasLed}
use Rattle.txn_replay.specs.RunCard.{RunCardSeen}
use Rattle.txn_replay.specs.Steps.{After, happens, Step}
use Rattle.txn_replay.specs.World.{CardRow, World}
use Rattle.txn_replay.specs.declared.event.Event.{Event}
use Rattle.txn_replay.proofs.AloneLaws.OwnEvents.{step_apart}
use Rattle.txn_replay.proofs.ExchangeLaws.LaneMessages.{LanesLike}
use Rattle.txn_replay.proofs.RunLaws.TurnsEnd.{stays_over}

-- where the value stands for the world that it makes
pub leads_on : (v : WorldSeen) (w : World) (e : Event) (choices : List Bool) (lines : List Line) (a : After) → happens v.scenario w e choices ≡ a
    → length choices ≡ a.choices → lines ≡ a.lines → WorldStands v a.world → EventHasLed v w e lines
leads_on v w e choices lines a is taken made stands =
    let step : Step v.scenario w e choices lines a.world =
    record {
      taken = taken ∙ ap (λ (x : After). x.choices) (sym is);
      made = made ∙ ap (λ (x : After). x.lines) (sym is);
      leads = ap (λ (x : After). x.world) (sym is);
    } in
    record { choices = choices; after = a.world; step = step; apart = step_apart v.scenario w e choices lines a.world step; stands = stands }

-- a card stands as it did where no purchase has ended
pub run_card_stays : (s : ScenarioData) (w after : World) → LanesLike after w → (run_card : RunCardSeen) (card : CardData) (row : CardRow) → RunCardStands s w run_card card row
    → RunCardStands s after run_card card row
run_card_stays s w after like run_card card row stands =
    elim stands [
      | inl placed ↦ inl placed
      | inr audited ↦ inr (record {
        over = stays_over s w after like audited.over;
        is = audited.is;
        losses = audited.losses;
        free = audited.free;
        on = audited.on;
      })
    ]
