use Rattle.std.proofs.Common.{◌≡◌}
use Rattle.line_talk.specs.SoFar.{IsTalkSoFar}
use Rattle.line_talk.specs.Turns.{IsSameParty}
use Rattle.line_talk.proofs.talk.converse.Given as goal

abbrev pub invariant-loop-line : goal.invariant-loop-line
invariant-loop-line g l = record {
  far : IsTalkSoFar (g.T.Party.stands l.party) (g.T.Party.opening l.fn.party) l.onward l._line (g.S.Source.left l.fn.source) (g.S.Source.left l.source)
      (g.K.Sink.held l.fn.sink) (g.K.Sink.held l.sink);
  same : IsSameParty (g.T.Party.opening l.fn.party) (g.T.Party.opening l.party) (g.T.Party.talks l.fn.party) (g.T.Party.talks l.party);
  source_calm : g.S.Source.faults l.source ≡ g.S.Source.faults l.fn.source;
  sink_calm : g.K.Sink.faults l.sink ≡ g.K.Sink.faults l.fn.sink;
}
