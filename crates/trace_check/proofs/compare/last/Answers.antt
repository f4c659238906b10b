use Rattle.std.proofs.Common.{◌≡◌, List, [], ◌∷◌, true, false, refl, sym, ◌∙◌, rules}
use Rattle.kernel.specs.Dialogue.{dialogue}
use Rattle.kernel.specs.Kernel.{outset_in, deed_next, kernel_next}
use Rattle.kernel.specs.declared.kernel.Next.TheVariants as next
use Rattle.trace_check.proofs.Left.{asked_no_end, last_same, other_first, over_is_end}
use Rattle.trace_check.specs.Dialogues.{entry_of_standing}
use Rattle.trace_check.specs.Verdicts.{same_entry}
use Rattle.trace_check.proofs.compare.last.Goals as goal

pub returns-then-is_end : goal.returns-then-is_end
returns-then-is_end c replies stands =
    let outset = outset_in c.args.kernel.now in
    let at = dialogue outset replies in
    let over : kernel_next c.args.kernel.now ≡ next.Ended = search rules in
    let ended : deed_next at.deed ≡ next.Ended = sym (c.next.ensures.told replies stands) ∙ c.next.ensures.exact ∙ over in
    let same : same_entry c.args.entry.now (entry_of_standing outset at) ≡ true = sym (c.is_end.ensures.exact replies stands) ∙ c.if-is_end.true in
    sym (last_same outset replies c.args.at c.args.entry.now same ∙ rw (over_is_end outset at.steps_done c.args.entry.now at.deed ended same) refl)

pub returns-else-is_end : goal.returns-else-is_end
returns-else-is_end c replies stands =
    let outset = outset_in c.args.kernel.now in
    let other : same_entry c.args.entry.now (entry_of_standing outset (dialogue outset replies)) ≡ false = sym (c.is_end.ensures.exact replies stands) ∙ c.if-is_end.false in
    sym (other_first outset replies c.args.at c.args.entry.now [] other)

pub returns-then-is_asked : goal.returns-then-is_asked
returns-then-is_asked c replies stands =
    let outset = outset_in c.args.kernel.now in
    let at = dialogue outset replies in
    let waiting : kernel_next c.args.kernel.now ≡ next.Ended → ⊥ = search rules in
    let waits : deed_next at.deed ≡ kernel_next c.args.kernel.now = sym (c.next.ensures.told replies stands) ∙ c.next.ensures.exact in
    let same : same_entry c.args.entry.now (entry_of_standing outset at) ≡ true = sym (c.is_asked.ensures replies stands) ∙ c.if-is_asked.true in
    sym (last_same outset replies c.args.at c.args.entry.now same
    ∙ rw (asked_no_end outset at.steps_done c.args.entry.now at.deed (kernel_next c.args.kernel.now) waits waiting same) refl)

pub returns-else-is_asked : goal.returns-else-is_asked
returns-else-is_asked c replies stands =
    let outset = outset_in c.args.kernel.now in
    let other : same_entry c.args.entry.now (entry_of_standing outset (dialogue outset replies)) ≡ false = sym (c.is_asked.ensures replies stands) ∙ c.if-is_asked.false in
    sym (other_first outset replies c.args.at c.args.entry.now [] other)
