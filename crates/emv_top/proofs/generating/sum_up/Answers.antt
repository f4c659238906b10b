use Rattle.std.proofs.Common.{rules, sym, ap, subst, ◌∙◌, SFits}
use Rattle.std.proofs.lemmas.Int.{to_z-of_z}
use Rattle.std.specs.Int.{w128}
use Rattle.std.specs.Io.KnownBytes.{Appends}
use Rattle.emv_ports.specs.Growth.{AppendsFront}
use Rattle.emv_top.specs.Generating.{Generates, summary_of}
use Rattle.emv_top.specs.StatusCode.{Concludes}
use Rattle.emv_top.specs.declared.status.Status.{Status}
use Rattle.emv_top.proofs.Summing.{summed}
use Rattle.emv_top.proofs.generating.sum_up.Goals as goal

pub returns-in-Ok : goal.returns-in-Ok
returns-in-Ok g c =
    let fits : SFits w128 c.booked-booked.result = search rules in
    subst (λ (st : Status). Concludes
    (Generates c.args.count (g.K.Sink.held c.args.sink.now) (g.K.Sink.held c.write_all.new.sink) c.end_world-ended.result.bank c.end_world-ended.result.tally)
    (g.K.Sink.faults c.args.sink.now) (g.K.Sink.faults c.write_all.new.sink) st) (sym c.end_world-ended.ensures.status)
    (record {
      told = summed c.args.count c.args.scenario.now c.requires.generated.is c.args.world c.requires.told _ c.end_world-ended.result.tally c.end_world-ended.ensures.leaves
          c.booked-booked.result c.booked-booked.ensures c.as_slice.result.now (c.as_slice.ensures.value ∙ c.write_summary.ensures
          ∙ ap (summary_of c.args.count c.end_world-ended.result.tally) (to_z-of_z w128 c.booked-booked.result fits))
          (Appends (g.K.Sink.held c.args.sink.now) (g.K.Sink.held c.write_all.new.sink)) c.requires.whole c.in-Ok.ensures.all;
      count = c.in-Ok.ensures.cause.stays;
    })

pub returns-in-Err : goal.returns-in-Err
returns-in-Err g c =
    let fits : SFits w128 c.booked-booked.result = search rules in
    record {
      told = summed c.args.count c.args.scenario.now c.requires.generated.is c.args.world c.requires.told _ c.end_world-ended.result.tally c.end_world-ended.ensures.leaves
          c.booked-booked.result c.booked-booked.ensures c.as_slice.result.now (c.as_slice.ensures.value ∙ c.write_summary.ensures
          ∙ ap (summary_of c.args.count c.end_world-ended.result.tally) (to_z-of_z w128 c.booked-booked.result fits))
          (AppendsFront (g.K.Sink.held c.args.sink.now) (g.K.Sink.held c.write_all.new.sink)) c.requires.whole c.in-Err.ensures.front;
      count = c.in-Err.ensures.cause.failed;
    }
