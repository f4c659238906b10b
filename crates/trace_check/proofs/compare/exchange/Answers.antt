use Rattle.std.proofs.Common.{◌≡◌, List, drop, sym, subst}
use Rattle.kernel.specs.Kernel.{outset_in}
use Rattle.trace_check.proofs.Left.{none_of, two_of}
use Rattle.trace_check.specs.Loop.{Exchanged}
use Rattle.trace_check.specs.declared.entry.Entry.{Entry}
use Rattle.trace_check.proofs.compare.exchange.Goals as goal

pub returns-in-empty-clause-exact : goal.returns-in-empty-clause-exact
returns-in-empty-clause-exact c replies stands =
    none_of (outset_in c.args.kernel.now) replies c.args.at c.args.rest.now c.in-empty.len_below

pub returns-in-len2-up-clause-exact : goal.returns-in-len2-up-clause-exact
returns-in-len2-up-clause-exact c replies stands =
    subst (λ (entries : List Entry). Exchanged (outset_in c.args.kernel.now) c.pair.new.kernel replies c.args.at entries c.pair.result)
    (sym (two_of c.args.rest.now c.ask-item.result c.entry-item-2.result c.in-len2-up.len_at_least c.ask-item.is c.entry-item-2.is))
    (c.pair.ensures.exact replies (drop 2 c.args.rest.now) stands)
