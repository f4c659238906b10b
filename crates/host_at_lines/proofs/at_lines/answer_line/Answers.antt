use Rattle.host_at_lines.proofs.Standing.{word_turns}
use Rattle.host_at_lines.proofs.at_lines.answer_line.Goals as goal

pub returns-clause-turn : goal.returns-clause-turn
returns-clause-turn c =
    word_turns c.args.at.now.host c.answer_word.new.at.host c.args.at.now.accounts.now c.answer_word.new.at.accounts.now c.args.at.now.calls.items
    c.answer_word.new.at.calls.items c.args.at.now.because c.answer_word.new.at.because c.answer_word.new.text.items c.args.line.now c.in_ok-word.word
    c.in_ok-word.ensures.exact c.in_ok-answer_word.ensures.turn
