use Rattle.terminal_at_reader.proofs.Turning.{answers_more, if_so}
use Rattle.terminal_at_reader.proofs.terminal.TerminalParty.answer.Goals as goal

pub answer_line-requires : goal.answer_line-requires
answer_line-requires c =
    let has = c.requires.stands.1 in
    record { rules = has.rules; few = has.few; works = (has.doing, has.till, has.works c.requires.stands.2) }

pub returns-clause-turn : goal.returns-clause-turn
returns-clause-turn c =
    if_so _ _ c.answer_line.result
    (λ onward all turns has may.
    answers_more c.args.self.now.lane.now c.args.self.now.work c.answer_line.new.work turns c.args.line.now c.answer_line.new.text.items onward all has may)
    c.answer_line.ensures.turn
