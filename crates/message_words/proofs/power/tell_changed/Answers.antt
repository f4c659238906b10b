use Rattle.message_words.proofs.Parts.{changed_told}
use Rattle.message_words.proofs.power.tell_changed.Goals as goal

pub returns-clause-words : goal.returns-clause-words
returns-clause-words c =
    changed_told _ _ _ _ c.args.before.now c.args.now.now _ _ _ _ c.tell_changes-told.ensures.told c.tell_flags-told.ensures.told c.second_sum.ensures c.second_sum-2.ensures
    c.tell_changes-told.ensures.words c.tell_flags-told.ensures.words c.tell_change.ensures.words
