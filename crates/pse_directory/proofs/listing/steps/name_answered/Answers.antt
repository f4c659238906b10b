use Rattle.std.proofs.Common.{refl, sym, arith, rules}
use Rattle.pse_directory.proofs.Stepping.{name_nothing, file_small}
use Rattle.pse_directory.proofs.listing.steps.name_answered.Goals as goal

pub invariant_of-result : goal.invariant_of-result
invariant_of-result c = (
  c.requires,
  record {
    file = file_small c.args.reply.now c.in-Gives.sfi (sym c.in-Gives.ensures);
    number = omega arith;
    rows_there = rw c.new.ensures (search rules);
    few = rw c.new.ensures refl;
  },
)

pub returns-in-Nothing-clause-step : goal.returns-in-Nothing-clause-step
returns-in-Nothing-clause-step c = λ later.
    rw c.new-in-Nothing.ensures (name_nothing c.args.settings.now.aids c.args.confirm c.args.reply.now (sym c.in-Nothing.ensures) later)
