use Rattle.std.proofs.Common.{sym}
use Rattle.script_run.proofs.Bounds.{same_first}
use Rattle.script_run.proofs.Stages.{wanted}
use Rattle.script_run.proofs.running.Running.ask.Goals as goal

pub returns : goal.returns
returns c = record {
  wants = λ whole answers leads. wanted whole answers _ _ _ _ _ _ c.in-Some.ensures.left
      (same_first _ _ _ _ _ c.self.invariant.stands c.in-Some.ensures.left c.self.invariant.sendable) c.write_bytes.ensures (rw (sym c.self.view_is) at leads);
}
