use Rattle.std.specs.Prelude.{◌++◌, not, codes}
use Rattle.report_lines.specs.Pieces.{line, text}
use Rattle.report_lines.proofs.Telling.{tells_then}
use Rattle.message_words.specs.Powers.{since_last_words, changed_words, told_where, is_changed}
use Rattle.message_words.specs.declared.phrases.TheConstants.{SINCE_LAST}
use Rattle.message_words.proofs.power.tell_since.Goals as goal

pub returns : goal.returns
unfolding since_last_words
returns c =
    let before = c.args.before.now in
    let now = c.args.now.now in
    let unless = rw c.tell_changed-told.ensures.told at c.tell_where.ensures in
    tells_then _ _ _ (line 2 ++ text SINCE_LAST.now) (changed_words before now ++ told_where (not (is_changed before now)) (codes " no change"))
    (tells_then _ _ _ (line 2) (text SINCE_LAST.now) c.line.ensures c.text.ensures.told)
    (tells_then _ _ _ (changed_words before now) _ c.tell_changed-told.ensures.words unless)
