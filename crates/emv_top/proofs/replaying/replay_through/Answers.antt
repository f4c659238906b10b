use Rattle.std.proofs.Common.{refl}
use Rattle.std.proofs.lemmas.Result.{on_ok_weaker, on_err_weaker}
use Rattle.emv_top.specs.RunsSoFar.{Replays, RunOfBytes, all_lines}
use Rattle.emv_top.proofs.LineBytes.{closing_bytes}
use Rattle.emv_top.proofs.Going.{begins, completes, stops_behind}
use Rattle.txn_replay.specs.Run.{Reached, Scheduled, Finished, closing, start}
use Rattle.txn_replay.specs.World.{first_world}
use Rattle.txn_replay.specs.Seen.{WorldStands}
use Rattle.emv_top.proofs.replaying.replay_through.Goals as goal

pub events-requires-clause-here : goal.events-requires-clause-here
events-requires-clause-here g c = (
  g.K.Sink.held c.args.sink.now,
  begins (Reached c.args.scenario.now (Scheduled 0)) (WorldStands c.args.world.now) (first_world c.args.scenario.now) (g.K.Sink.held c.args.sink.now) start c.requires.start,
)

pub returns-in-Ok-clause-ok : goal.returns-in-Ok-clause-ok
returns-in-Ok-clause-ok g c =
    let begun = begins (Reached c.args.scenario.now (Scheduled 0)) (WorldStands c.args.world.now) (first_world c.args.scenario.now) (g.K.Sink.held c.args.sink.now) start c.requires.start in
    on_ok_weaker c.close.result
    (λ behind.
    completes (Reached c.args.scenario.now Finished) (closing c.args.scenario.now) (WorldStands c.events.new.world) _ _ _ (c.in-Ok.ensures.ok (g.K.Sink.held c.args.sink.now) begun)
    (RunOfBytes c.args.scenario.now) (λ n cs ls w reached stands bytes. (
      record { count = n; choices = cs; reported = ls; reached = reached; whole = refl },
      closing_bytes c.args.scenario.now ls w bytes,
    )) behind)
    c.close.ensures.all

pub returns-in-Ok-clause-err : goal.returns-in-Ok-clause-err
returns-in-Ok-clause-err g c =
    let begun = begins (Reached c.args.scenario.now (Scheduled 0)) (WorldStands c.args.world.now) (first_world c.args.scenario.now) (g.K.Sink.held c.args.sink.now) start c.requires.start in
    on_err_weaker c.close.result
    (λ behind.
    stops_behind (Reached c.args.scenario.now Finished) (closing c.args.scenario.now) (WorldStands c.events.new.world) _ _ _ (c.in-Ok.ensures.ok (g.K.Sink.held c.args.sink.now) begun)
    c.args.scenario.now all_lines (Replays c.args.scenario.now) (λ n cs ls w reached stands. (Finished, reached, refl)) behind)
    c.close.ensures.front

pub returns-in-Err-clause-err : goal.returns-in-Err-clause-err
returns-in-Err-clause-err g c =
    c.in-Err.ensures.err (g.K.Sink.held c.args.sink.now)
    (begins (Reached c.args.scenario.now (Scheduled 0)) (WorldStands c.args.world.now) (first_world c.args.scenario.now) (g.K.Sink.held c.args.sink.now) start c.requires.start)
