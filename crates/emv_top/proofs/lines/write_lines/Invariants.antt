use Rattle.std.proofs.Common.{◌≡◌, length}
use Rattle.emv_ports.specs.Growth.{IsSoFar}
use Rattle.emv_top.specs.Texts.{text_of_lines}
use Rattle.emv_top.proofs.lines.write_lines.Given as goal

abbrev pub invariant-loop-line : goal.invariant-loop-line
invariant-loop-line g l = record {
  so_far : IsSoFar (g.K.Sink.held l.fn.sink) (g.K.Sink.held l.sink) (text_of_lines l.left) (text_of_lines l.lines.items);
  calm : g.K.Sink.faults l.sink ≡ g.K.Sink.faults l.fn.sink;
}

abbrev pub decreases-loop-line : goal.decreases-loop-line
decreases-loop-line g l = length l.left
