use Rattle.std.proofs.Common.{◌≡◌, length, map}
use Rattle.emv_ports.specs.Growth.{IsSoFar}
use Rattle.env_map.specs.Entries.{entries_after}
use Rattle.emv_top.specs.Short.{AllShort}
use Rattle.emv_top.specs.Texts.{text_of_lines}
use Rattle.txn_replay.specs.Reading.{object_line}
use Rattle.emv_top.proofs.reading.write_objects.Given as goal

abbrev pub invariant-loop-tag : goal.invariant-loop-tag
invariant-loop-tag g l = record {
  so_far : IsSoFar (g.K.Sink.held l.fn.sink) (g.K.Sink.held l.sink) (text_of_lines (map object_line (entries_after l.last l.env))) (text_of_lines (map object_line l.env));
  short : AllShort (entries_after l.last l.env);
  calm : g.K.Sink.faults l.sink ≡ g.K.Sink.faults l.fn.sink;
}

abbrev pub decreases-loop-tag : goal.decreases-loop-tag
decreases-loop-tag g l = length (entries_after l.last l.env)
