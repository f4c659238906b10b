use Rattle.std.proofs.Common.{sym, ◌∙◌}
use Rattle.kernel.specs.Dialogue.{dialogue}
use Rattle.kernel.specs.Kernel.{outset_in}
use Rattle.terminal_at_reader.proofs.Entries.{told_card, told_host}
use Rattle.terminal_at_reader.proofs.asking.tell_ask.Goals as goal

pub returns-in-ToCard-clause-told : goal.returns-in-ToCard-clause-told
returns-in-ToCard-clause-told c replies stands =
    let at = dialogue (outset_in c.args.kernel.now) replies in
    c.write_bytes.ensures
    ∙ told_card c.args.iso (outset_in c.args.kernel.now) at.steps_done at.deed _ (sym c.in-ToCard.is ∙ c.next.ensures.told replies stands) (c.bytes.ensures.told replies stands)

pub returns-in-ToHost-clause-told : goal.returns-in-ToHost-clause-told
returns-in-ToHost-clause-told c replies stands =
    let at = dialogue (outset_in c.args.kernel.now) replies in
    c.write_message.ensures
    ∙ told_host c.args.iso (outset_in c.args.kernel.now) at.steps_done at.deed _ (sym c.in-ToHost.is ∙ c.next.ensures.told replies stands) (c.bytes-in-ToHost.ensures.told replies stands)
