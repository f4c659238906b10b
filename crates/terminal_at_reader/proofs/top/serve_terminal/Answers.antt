use Rattle.std.proofs.Common.{subst}
use Rattle.line_talk.specs.Talk.{TalkEnds}
use Rattle.scenario_lanes.specs.Plan.{LaneData}
use Rattle.terminal_at_reader.specs.Talk.{IsTerminalTalk, terminal_opening}
use Rattle.terminal_at_reader.proofs.top.serve_terminal.Goals as goal

pub returns-clause-ends : goal.returns-clause-ends
returns-clause-ends g c =
    subst (λ (lane : LaneData). TalkEnds (IsTerminalTalk lane) (terminal_opening lane)
    (record {
      first = g.S.Source.left c.args.source.now;
      left = g.S.Source.left c.converse.new.source;
      before = g.K.Sink.held c.args.sink.now;
      held = g.K.Sink.held c.converse.new.sink;
    }) c.converse.result) c.begin-terminal.ensures.lane c.converse.ensures.ends
