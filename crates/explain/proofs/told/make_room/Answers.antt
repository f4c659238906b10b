use Rattle.std.proofs.Common.{List, ℕ, ◌≤◌, length, arith, subst}
use Rattle.emv_ports.specs.Growth.{AppendsFront}
use Rattle.explain.specs.ReportSoFar.{way_in, stand_of}
use Rattle.explain.specs.ToldLines.{most_told, rest_behind_lines}
use Rattle.explain.proofs.Coming.{so_far_flush_at, so_far_push}
use Rattle.explain.proofs.told.make_room.Goals as goal

pub returns-then-len-lt-MOST-clause-ok : goal.returns-then-len-lt-MOST-clause-ok
returns-then-len-lt-MOST-clause-ok g c = λ seen first byte other s.
    so_far_push (way_in c.args.teller.now) (stand_of c.args.teller.now) c.args.teller.now.line.items seen byte first (g.K.Sink.held c.args.sink.now) other s

pub returns-in-Ok-clause-ok : goal.returns-in-Ok-clause-ok
returns-in-Ok-clause-ok g c = λ seen first byte other s.
    let enough : most_told ≤ length c.args.teller.now.line.items = omega (arith, c.len.ensures, c.if-len-lt-MOST.false) in
    so_far_flush_at (way_in c.args.teller.now) (stand_of c.args.teller.now) c.args.teller.now.line.items seen c.as_slice.result.now c.clear.new.self.items byte first
    (g.K.Sink.held c.args.sink.now) (g.K.Sink.held c.put_rest.new.sink) c.as_slice.ensures.value c.clear.ensures enough other s c.in-Ok.ensures.all

pub returns-in-Err-clause-front : goal.returns-in-Err-clause-front
returns-in-Err-clause-front g c =
    subst (λ (t : List ℕ). AppendsFront (g.K.Sink.held c.args.sink.now) (g.K.Sink.held c.put_rest.new.sink) (rest_behind_lines c.args.teller.now.all t)) c.as_slice.ensures.value c.in-Err.ensures.front
