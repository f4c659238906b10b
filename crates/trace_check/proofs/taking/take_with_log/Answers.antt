use Rattle.std.proofs.Common.{sym, ◌∙◌}
use Rattle.kernel.specs.Dialogue.{dialogue}
use Rattle.kernel.specs.Kernel.{outset_in}
use Rattle.trace_check.proofs.Left.{taken_of_card, taken_of_host}
use Rattle.trace_check.specs.Dialogues.{reply_with_log}
use Rattle.trace_check.proofs.taking.take_with_log.Goals as goal

pub returns-in-ToCard-clause-taken : goal.returns-in-ToCard-clause-taken
returns-in-ToCard-clause-taken c replies stands =
    taken_of_card (dialogue (outset_in c.args.kernel.now) replies).deed c.from_card.new.kernel replies (reply_with_log c.args.log.now c.args.entry.now) c.from_card.result
    (sym c.in-ToCard.is ∙ c.next.ensures.told replies stands) (c.from_card.ensures.taken replies stands)

pub returns-in-ToHost-clause-taken : goal.returns-in-ToHost-clause-taken
returns-in-ToHost-clause-taken c replies stands =
    taken_of_host (dialogue (outset_in c.args.kernel.now) replies).deed c.from_host.new.kernel replies (reply_with_log c.args.log.now c.args.entry.now) c.from_host.result
    (sym c.in-ToHost.is ∙ c.next.ensures.told replies stands) (c.from_host.ensures.taken c.args.log.now replies stands)
