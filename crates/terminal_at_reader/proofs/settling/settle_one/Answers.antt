use Rattle.std.proofs.Common.{refl, sym}
use Rattle.terminal_at_reader.proofs.Turning.{sent_turn, settled_turn}
use Rattle.terminal_at_reader.proofs.settling.settle_one.Goals as goal

pub returns-in-Some : goal.returns-in-Some
returns-in-Some c = record {
  turn = sent_turn c.args.iso c.args.work.now.till c.args.answered c.in-Some.captured.now (sym c.in-Some.ensures) _ _ c.tell_settlement.ensures refl refl c.requires.log;
}

pub returns-in-None : goal.returns-in-None
returns-in-None c = record {
  turn = settled_turn c.args.iso c.args.work.now.till c.args.answered (sym c.in-None.ensures) _ _ c.tell_settled.ensures refl c.settle.ensures c.requires.log;
}
