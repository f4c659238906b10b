use Rattle.std.proofs.Common.{subst, sym, Err}
use Rattle.emv_top.specs.Input.{first_purchases, IsInput}
use Rattle.emv_top.specs.declared.words.Task.{Task}
use Rattle.emv_top.proofs.Inputs.{unserved, none_of}
use Rattle.emv_top.proofs.input.read_input.Goals as goal

pub returns-then-first_count-eq0-clause-exact : goal.returns-then-first_count-eq0-clause-exact
returns-then-first_count-eq0-clause-exact c =
    subst (λ (o : Task). IsInput o c.args.bytes.now (Err c.no_purchase.result)) (sym c.in-Read.is)
    (unserved c.args.bytes.now c.in_ok-scenario.scenario c.in_ok-scenario.ensures.exact
    (none_of (first_purchases c.in_ok-scenario.scenario.lanes) c.first_count.result c.first_count.ensures c.if-first_count-eq0.true) c.no_purchase.result c.no_purchase.ensures)
