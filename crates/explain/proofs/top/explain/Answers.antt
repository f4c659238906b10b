use Rattle.std.proofs.Common.{ℕ, subst}
use Rattle.emv_ports.specs.Causes.{Rose}
use Rattle.explain.specs.ReportSoFar.{way_in, stand_of}
use Rattle.narrator.specs.State.{seen_state}
use Rattle.explain.specs.ToldLines.{Way, Explained, BrokenOff}
use Rattle.explain.proofs.Reading.{so_far_begin, explained, explained_front, broken_some}
use Rattle.explain.proofs.top.explain.Goals as goal

pub returns-in-Ok-end-clause-ok : goal.returns-in-Ok-end-clause-ok
returns-in-Ok-end-clause-ok g c =
    subst (λ (a : Way). Explained a (g.S.Source.left c.args.source.now) (g.S.Source.left c.read_through.new.source) (g.K.Sink.held c.args.sink.now) (g.K.Sink.held c.end.new.sink)) c.in-Ok.ensures.way
    (explained (way_in c.read_through.new.teller) (stand_of c.read_through.new.teller) c.read_through.new.teller.line.items (g.S.Source.left c.args.source.now) (g.S.Source.left c.read_through.new.source) (g.K.Sink.held c.args.sink.now) (g.K.Sink.held c.read_through.new.sink) (g.K.Sink.held c.end.new.sink) (c.in-Ok.ensures.ok (g.K.Sink.held c.args.sink.now) (so_far_begin (way_in c.args.teller.now) c.args.teller.now.long (seen_state c.args.teller.now.narrator) c.args.teller.now.line.items (g.K.Sink.held c.args.sink.now) c.requires.line c.requires.short c.requires.state)) c.in-Ok-end.ensures.ok)

pub returns-in-Err-Sink-clause-err : goal.returns-in-Err-Sink-clause-err
returns-in-Err-Sink-clause-err g c =
    subst (λ (a : Way). BrokenOff a (g.S.Source.left c.args.source.now) (g.S.Source.left c.read_through.new.source) (g.K.Sink.held c.args.sink.now) (g.K.Sink.held c.end.new.sink)) c.in-Ok.ensures.way
    (explained_front (way_in c.read_through.new.teller) (stand_of c.read_through.new.teller) c.read_through.new.teller.line.items (g.S.Source.left c.args.source.now) (g.S.Source.left c.read_through.new.source) (g.K.Sink.held c.args.sink.now) (g.K.Sink.held c.read_through.new.sink) (g.K.Sink.held c.end.new.sink) (c.in-Ok.ensures.ok (g.K.Sink.held c.args.sink.now) (so_far_begin (way_in c.args.teller.now) c.args.teller.now.long (seen_state c.args.teller.now.narrator) c.args.teller.now.line.items (g.K.Sink.held c.args.sink.now) c.requires.line c.requires.short c.requires.state)) c.in-Err-Sink.ensures.err)

pub returns-in-Err-OutOfMemory-clause-err : goal.returns-in-Err-OutOfMemory-clause-err
returns-in-Err-OutOfMemory-clause-err g c =
    subst (λ (a : Way). BrokenOff a (g.S.Source.left c.args.source.now) (g.S.Source.left c.read_through.new.source) (g.K.Sink.held c.args.sink.now) (g.K.Sink.held c.end.new.sink)) c.in-Ok.ensures.way
    (explained_front (way_in c.read_through.new.teller) (stand_of c.read_through.new.teller) c.read_through.new.teller.line.items (g.S.Source.left c.args.source.now) (g.S.Source.left c.read_through.new.source) (g.K.Sink.held c.args.sink.now) (g.K.Sink.held c.read_through.new.sink) (g.K.Sink.held c.end.new.sink) (c.in-Ok.ensures.ok (g.K.Sink.held c.args.sink.now) (so_far_begin (way_in c.args.teller.now) c.args.teller.now.long (seen_state c.args.teller.now.narrator) c.args.teller.now.line.items (g.K.Sink.held c.args.sink.now) c.requires.line c.requires.short c.requires.state)) c.in-Err-OutOfMemory.ensures.err)

pub returns-in-Err-Sink-clause-sink : goal.returns-in-Err-Sink-clause-sink
returns-in-Err-Sink-clause-sink g c = subst (λ (n : ℕ). Rose n (g.K.Sink.faults c.end.new.sink)) c.in-Ok.ensures.sink
    (rw c.in-Err-Sink.field-0-is at c.in-Err-Sink.ensures.stop)

pub returns-in-Err-clause-err : goal.returns-in-Err-clause-err
returns-in-Err-clause-err g c =
    broken_some (way_in c.args.teller.now) (g.S.Source.left c.args.source.now) (g.S.Source.left c.read_through.new.source) (g.K.Sink.held c.args.sink.now) (g.K.Sink.held c.read_through.new.sink) (c.in-Err.ensures.err (g.K.Sink.held c.args.sink.now) (so_far_begin (way_in c.args.teller.now) c.args.teller.now.long (seen_state c.args.teller.now.narrator) c.args.teller.now.line.items (g.K.Sink.held c.args.sink.now) c.requires.line c.requires.short c.requires.state))
