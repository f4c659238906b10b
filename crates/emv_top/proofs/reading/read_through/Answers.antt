use Rattle.std.proofs.Common.{◌∙◌, refl}
use Rattle.std.proofs.lemmas.Result.{on_ok_weaker, on_err_weaker}
use Rattle.emv_top.proofs.Going.{begins}
use Rattle.emv_top.proofs.ReadGoing.{read_more, read_cut, read_nearer, short_now, read_whole, read_stops}
use Rattle.txn_replay.specs.Reading.{ReadReached, start}
use Rattle.txn_replay.specs.World.{first_world}
use Rattle.txn_replay.specs.Seen.{WorldStands}
use Rattle.emv_top.proofs.reading.read_through.Goals as goal

pub loop-world-init : goal.loop-world-init
loop-world-init g c = record {
  far = begins (ReadReached c.args.scenario.now) (WorldStands c.args.world.now) (first_world c.args.scenario.now) (g.K.Sink.held c.args.sink.now) start c.requires.start;
  told = c.requires.played.told;
  calm = refl;
}

pub loop-world-preserved : goal.loop-world-preserved
loop-world-preserved g c = record {
  far = read_more c.args.scenario.now c.loop-world.world c.read_turn.new.world c.loop-world.invariant.told c.in-Ok.ensures.happens.scenario _ _ _
      c.loop-world-test.ensures c.loop-world.invariant.far c.in-Ok.ensures.happens.ok;
  told = c.in-Ok.ensures.happens.scenario ∙ c.loop-world.invariant.told;
  calm = c.in-Ok.ensures.happens.stop ∙ c.loop-world.invariant.calm;
}

pub loop-world-smaller : goal.loop-world-smaller
loop-world-smaller g c =
    read_nearer c.args.scenario.now c.loop-world.world c.read_turn.new.world c.loop-world.invariant.told c.in-Ok.ensures.happens.scenario _ _
    (g.K.Sink.held c.read_turn.new.sink)
    c.loop-world-test.ensures c.loop-world.invariant.far c.requires.untorn.0 c.requires.untorn.1 c.requires.played.rules c.requires.some c.in-Ok.field-0 c.in-Ok.ensures.nearer c.in-Ok.ensures.idle

pub returns-in-Err-clause-err : goal.returns-in-Err-clause-err
returns-in-Err-clause-err g c =
    read_cut c.args.scenario.now c.loop-world.world c.read_turn.new.world c.loop-world.invariant.told c.in-Err.ensures.happens.scenario _ _ _
    c.loop-world-test.ensures c.loop-world.invariant.far c.in-Err.ensures.happens.err

pub write_reading-requires-clause-short : goal.write_reading-requires-clause-short
write_reading-requires-clause-short g c =
    short_now c.args.scenario.now c.loop-world.world c.loop-world.invariant.told _ _ (g.K.Sink.held c.loop-world.sink) c.loop-world.invariant.far

pub returns-clause-ok : goal.returns-clause-ok
returns-clause-ok g c =
    on_ok_weaker c.write_reading.result
    (λ behind. λ whole same.
    read_whole c.args.scenario.now c.loop-world.world c.loop-world.invariant.told _ _ _ c.loop-world.invariant.far c.loop-world-test.ensures whole same c.reading_fits.ensures behind)
    c.write_reading.ensures.all

pub returns-clause-err : goal.returns-clause-err
returns-clause-err g c =
    on_err_weaker c.write_reading.result
    (λ behind.
    read_stops c.args.scenario.now c.loop-world.world c.loop-world.invariant.told _ _ _ c.loop-world.invariant.far c.loop-world-test.ensures behind)
    c.write_reading.ensures.front
