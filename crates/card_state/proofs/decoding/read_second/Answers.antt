use Rattle.std.proofs.Common.{refl, sym, arith}
use Rattle.card_state.specs.declared.decoding.Version.TheVariants.{Two}
use Rattle.card_state.proofs.Apps.{two_short, two_flagged, two_rowless, two_there, some_fits}
use Rattle.card_state.proofs.decoding.read_second.Goals as goal

pub returns-then-bytes-lt50-clause-exact : goal.returns-then-bytes-lt50-clause-exact
returns-then-bytes-lt50-clause-exact c = two_short c.args.bytes.now (omega arith)

pub returns-then-bytes-gt3-clause-exact : goal.returns-then-bytes-gt3-clause-exact
returns-then-bytes-gt3-clause-exact c = two_flagged c.args.bytes.now (omega arith)

pub returns-then-not-has_rows-clause-exact : goal.returns-then-not-has_rows-clause-exact
returns-then-not-has_rows-clause-exact c = two_rowless c.args.bytes.now _ refl (sym c.if-not-has_rows.ensures.exact)

pub returns-clause-exact : goal.returns-clause-exact
returns-clause-exact c =
    two_there c.args.bytes.now _ refl (omega arith) (omega arith) (sym c.if-not-has_rows.ensures.exact) c.fields_one.result c.with_more.result
    c.fields_one.ensures c.with_more.ensures

pub returns-clause-fits : goal.returns-clause-fits
returns-clause-fits c =
    some_fits Two c.args.bytes.now c.with_more.result
    (two_there c.args.bytes.now _ refl (omega arith) (omega arith) (sym c.if-not-has_rows.ensures.exact) c.fields_one.result c.with_more.result
    c.fields_one.ensures c.with_more.ensures)
