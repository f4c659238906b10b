use Rattle.message_words.proofs.Parts.{turned_told}
use Rattle.message_words.proofs.power.tell_turned.Goals as goal

pub returns : goal.returns
returns c = turned_told _ _ _ _ c.args.told c.args.name.now c.args.before c.tell_between.ensures c.tell_where.ensures c.text.ensures.told
