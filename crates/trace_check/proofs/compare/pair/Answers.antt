use Rattle.std.proofs.Common.{◌≡◌, Bool, ◌∷◌, true, false, sym, subst, ◌∙◌, rules}
use Rattle.kernel.specs.Dialogue.{dialogue}
use Rattle.kernel.specs.Kernel.{outset_in, deed_next, kernel_next}
use Rattle.kernel.specs.declared.kernel.Next.TheVariants as next
use Rattle.trace_check.proofs.Left.{more_behind_end, other_first, taken_goes, taken_not}
use Rattle.trace_check.specs.Dialogues.{entry_of_standing, is_awaited, reply_of_entry}
use Rattle.trace_check.specs.Loop.{ReplyIsTaken}
use Rattle.trace_check.specs.Verdicts.{same_entry}
use Rattle.trace_check.proofs.compare.pair.Goals as goal

pub returns-then-over-clause-exact : goal.returns-then-over-clause-exact
returns-then-over-clause-exact c replies more stands =
    let outset = outset_in c.args.kernel.now in
    let at = dialogue outset replies in
    let over : kernel_next c.args.kernel.now ≡ next.Ended = search rules in
    let ended : deed_next at.deed ≡ next.Ended = sym (c.next.ensures.told replies stands) ∙ c.next.ensures.exact ∙ over in
    let same : same_entry c.args.ask.now (entry_of_standing outset at) ≡ true = sym (c.is_end-over.ensures.exact replies stands) ∙ c.if-over.true in
    sym (more_behind_end outset replies c.args.at c.args.ask.now c.args.entry.now more ended same)

pub returns-else-over-clause-exact : goal.returns-else-over-clause-exact
returns-else-over-clause-exact c replies more stands =
    let outset = outset_in c.args.kernel.now in
    let other : same_entry c.args.ask.now (entry_of_standing outset (dialogue outset replies)) ≡ false = sym (c.is_end-over.ensures.exact replies stands) ∙ c.if-over.false in
    sym (other_first outset replies c.args.at c.args.ask.now (c.args.entry.now ∷ more) other)

pub returns-then-not-is_asked-clause-exact : goal.returns-then-not-is_asked-clause-exact
returns-then-not-is_asked-clause-exact c replies more stands =
    let outset = outset_in c.args.kernel.now in
    let no : c.is_asked.result ≡ false = search rules in
    let other : same_entry c.args.ask.now (entry_of_standing outset (dialogue outset replies)) ≡ false = sym (c.is_asked.ensures replies stands) ∙ no in
    sym (other_first outset replies c.args.at c.args.ask.now (c.args.entry.now ∷ more) other)

pub returns-then-not-take-clause-exact : goal.returns-then-not-take-clause-exact
returns-then-not-take-clause-exact c replies more stands =
    let outset = outset_in c.args.kernel.now in
    let yes : c.is_asked.result ≡ true = search rules in
    let no : c.take.result ≡ false = search rules in
    let same : same_entry c.args.ask.now (entry_of_standing outset (dialogue outset replies)) ≡ true = sym (c.is_asked.ensures replies stands) ∙ yes in
    taken_not outset c.take.new.kernel replies c.args.at c.args.ask.now c.args.entry.now more same
    (subst (λ (found : Bool). ReplyIsTaken (is_awaited (dialogue outset replies).deed) c.take.new.kernel replies (reply_of_entry c.args.entry.now) found) no
    (c.take.ensures.taken replies stands))

pub returns-clause-exact : goal.returns-clause-exact
returns-clause-exact c replies more stands =
    let outset = outset_in c.args.kernel.now in
    let yes : c.is_asked.result ≡ true = search rules in
    let taken : c.take.result ≡ true = search rules in
    let same : same_entry c.args.ask.now (entry_of_standing outset (dialogue outset replies)) ≡ true = sym (c.is_asked.ensures replies stands) ∙ yes in
    taken_goes outset c.take.new.kernel replies c.args.at c.args.ask.now c.args.entry.now more same
    (subst (λ (found : Bool). ReplyIsTaken (is_awaited (dialogue outset replies).deed) c.take.new.kernel replies (reply_of_entry c.args.entry.now) found) taken
    (c.take.ensures.taken replies stands))
