use Rattle.std.proofs.Common.{arith}
use Rattle.card_state.specs.declared.decoding.Version.TheVariants.{One}
use Rattle.card_state.proofs.Apps.{one_short, one_flagged, one_there, some_fits}
use Rattle.card_state.proofs.decoding.read_first.Goals as goal

pub returns-then-bytes-lt32-clause-exact : goal.returns-then-bytes-lt32-clause-exact
returns-then-bytes-lt32-clause-exact c = one_short c.args.bytes.now (omega arith)

pub returns-then-bytes-gt3-clause-exact : goal.returns-then-bytes-gt3-clause-exact
returns-then-bytes-gt3-clause-exact c = one_flagged c.args.bytes.now (omega arith)

pub returns-clause-exact : goal.returns-clause-exact
returns-clause-exact c = one_there c.args.bytes.now (omega arith) (omega arith) c.fields_one.result c.fields_one.ensures

pub returns-clause-fits : goal.returns-clause-fits
returns-clause-fits c =
    some_fits One c.args.bytes.now c.fields_one.result
    (one_there c.args.bytes.now (omega arith) (omega arith) c.fields_one.result c.fields_one.ensures)
