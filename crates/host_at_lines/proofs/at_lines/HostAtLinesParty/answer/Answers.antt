use Rattle.host_at_lines.proofs.Standing.{answers_more}
use Rattle.host_at_lines.proofs.at_lines.HostAtLinesParty.answer.Goals as goal

pub returns-clause-turn : goal.returns-clause-turn
returns-clause-turn c = λ turns has goes.
    answers_more c.args.self.now.host c.answer_line.new.at.host c.args.self.now.accounts.now c.answer_line.new.at.accounts.now c.args.self.now.calls.items
    c.answer_line.new.at.calls.items c.args.self.now.because c.answer_line.new.at.because c.args.line.now c.answer_line.new.text.items turns
    c.answer_line.ensures.keys c.answer_line.ensures.accounts c.in_ok-answer_line.ensures.turn has
