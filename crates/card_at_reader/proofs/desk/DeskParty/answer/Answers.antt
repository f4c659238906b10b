use Rattle.card_at_reader.proofs.Sides.{answers_more}
use Rattle.card_at_reader.proofs.desk.DeskParty.answer.Goals as goal

pub returns-clause-turn : goal.returns-clause-turn
returns-clause-turn g c = λ turns has goes.
    answers_more c.args.self.now.icc c.answer_line.new.desk.icc c.args.self.now.notes c.answer_line.new.desk.notes c.args.self.now.told.items c.answer_line.new.desk.told.items
    c.args.line.now c.answer_line.new.text.items turns c.answer_line.ensures.image c.in_ok-answer_line.ensures.turn has
