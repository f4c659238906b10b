use Rattle.std.proofs.Common.{◌≡◌, rules, subst, sym, inr}
use Rattle.emv_top.specs.Answers.{Plays}
use Rattle.emv_top.specs.StatusCode.{Concludes}
use Rattle.emv_top.specs.declared.status.Status.{Status}
use Rattle.emv_top.specs.declared.words.Task.TheVariants.{Read}
use Rattle.emv_top.proofs.Answering.{whole_reading, cut_reading}
use Rattle.scenario_plan.specs.Plan.{ScenarioData}
use Rattle.txn_replay.specs.Reading.{to_read}
use Rattle.emv_top.proofs.top.read_card.Goals as goal

pub returns-in-Ok-read_through : goal.returns-in-Ok-read_through
returns-in-Ok-read_through g c =
    subst (λ (st : Status). Concludes
    (λ status. (s : ScenarioData) → c.args.scenario.now ≡ to_read s
    → Plays Read s (g.K.Sink.held c.args.sink.now) (g.K.Sink.held c.read_through.new.sink) c.end_world.result.bank c.end_world.result.tally status)
    (g.K.Sink.faults c.args.sink.now) (g.K.Sink.faults c.read_through.new.sink) st) (sym c.end_world.ensures.status)
    (record {
      told = λ s same. whole_reading c.args.scenario.now c.read_through.new.world c.read_through.ensures.told _ _ _ _ c.end_world.ensures.leaves s same c.requires.rules c.runs_are_fair.ensures.reached c.reading_captures_nothing.ensures (c.in-Ok-read_through.ensures.ok s same);
      count = c.in-Ok-read_through.ensures.stop;
    })

pub returns-in-Err-Sink : goal.returns-in-Err-Sink
returns-in-Err-Sink g c =
    subst (λ (st : Status). Concludes
    (λ status. (s : ScenarioData) → c.args.scenario.now ≡ to_read s
    → Plays Read s (g.K.Sink.held c.args.sink.now) (g.K.Sink.held c.read_through.new.sink) c.end_world-in-Err-Sink.result.bank c.end_world-in-Err-Sink.result.tally status)
    (g.K.Sink.faults c.args.sink.now) (g.K.Sink.faults c.read_through.new.sink) st) (sym c.end_world-in-Err-Sink.ensures.status)
    (record {
      told = λ s same. cut_reading c.args.scenario.now c.read_through.new.world c.read_through.ensures.told _ _ _ _ c.end_world-in-Err-Sink.ensures.leaves s same c.requires.rules c.runs_are_fair.ensures.reached c.in-Err-Sink.ensures.err;
      count = search rules;
    })

pub returns-in-Err-OutOfMemory : goal.returns-in-Err-OutOfMemory
returns-in-Err-OutOfMemory g c =
    subst (λ (st : Status). Concludes
    (λ status. (s : ScenarioData) → c.args.scenario.now ≡ to_read s
    → Plays Read s (g.K.Sink.held c.args.sink.now) (g.K.Sink.held c.read_through.new.sink) c.end_world-in-Err-OutOfMemory.result.bank c.end_world-in-Err-OutOfMemory.result.tally status)
    (g.K.Sink.faults c.args.sink.now) (g.K.Sink.faults c.read_through.new.sink) st) (sym c.end_world-in-Err-OutOfMemory.ensures.status)
    (record {
      told = λ s same. inr (cut_reading c.args.scenario.now c.read_through.new.world c.read_through.ensures.told _ _ _ _ c.end_world-in-Err-OutOfMemory.ensures.leaves s same c.requires.rules c.runs_are_fair.ensures.reached c.in-Err-OutOfMemory.ensures.err);
      count = search rules;
    })
