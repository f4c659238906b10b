use Rattle.std.proofs.lemmas.Result.{on_ok_weaker}
use Rattle.card_at_reader.proofs.Sides.{turn_at, word_turns}
use Rattle.card_at_reader.proofs.desk.answer_line.Goals as goal

pub returns-clause-turn : goal.returns-clause-turn
returns-clause-turn g c =
    on_ok_weaker c.answer_word.result
    (λ turns. turn_at c.args.desk.now.icc c.answer_word.new.desk.icc c.args.desk.now.icc.image c.args.desk.now.notes c.answer_word.new.desk.notes c.args.desk.now.told.items
    c.answer_word.new.desk.told.items c.answer_word.new.text.items c.args.line.now
    (word_turns c.args.desk.now.icc c.answer_word.new.desk.icc c.args.desk.now.icc.image c.args.desk.now.notes c.answer_word.new.desk.notes c.args.desk.now.told.items
    c.answer_word.new.desk.told.items c.answer_word.new.text.items c.args.line.now c.in_ok-word.word c.in_ok-word.ensures.exact turns))
    c.answer_word.ensures.turn
