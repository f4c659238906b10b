use Rattle.host_link.proofs.Again.{not_new}
use Rattle.host_link.proofs.link.carry.Goals as goal

pub repeat-requires-clause-kept : goal.repeat-requires-clause-kept
repeat-requires-clause-kept c =
    not_new c.answer-in-Twice.new.self c.requires.stands.0 c.args.message.now (c.in_ok-answer-in-Twice.ensures.stands c.requires.stands.0 c.requires.stands.1)
