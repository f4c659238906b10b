use Rattle.std.proofs.Common.{◌≡◌, rules, sym, ◌∙◌}
use Rattle.kernel.proofs.Keeping.{none_few, few_scripts, few_from}
use Rattle.kernel.proofs.online.keep.Goals as goal

pub invariant_of-reply-else-are_few : goal.invariant_of-reply-else-are_few
invariant_of-reply-else-are_few c = rw c.clear.ensures none_few

pub returns-else-are_few-clause-few : goal.returns-else-are_few-clause-few
returns-else-are_few-clause-few c = rw c.clear.ensures (few_scripts _ none_few)

pub returns-then-are_few-clause-few : goal.returns-then-are_few-clause-few
returns-then-are_few-clause-few c =
    let same : c.append.new.out.items ≡ c.said.inside.scripts.now = search (rules, c.append.ensures.items, c.clear.ensures) in
    rw same (few_scripts c.said.inside.scripts.now (few_from c.said.inside.scripts.now (sym c.are_few.ensures ∙ c.if-are_few.true)))
