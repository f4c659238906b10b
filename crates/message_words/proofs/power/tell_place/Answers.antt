use Rattle.std.proofs.Common.{◌+◌, ◌++◌, codes}
use Rattle.report_lines.specs.Pieces.{text, number}
use Rattle.report_lines.proofs.Telling.{tells_then}
use Rattle.message_words.specs.Powers.{place_words}
use Rattle.message_words.proofs.power.tell_place.Goals as goal

pub returns-then-several : goal.returns-then-several
unfolding place_words
returns-then-several c =
    let first = text (codes "application ") in
    let place = number (c.args.place + 1) in
    rw c.if-several.true
    (tells_then _ _ _ (first ++ place) (text (codes ": ")) (tells_then _ _ _ first place c.text.ensures.told c.number.ensures) c.text-then-several.ensures.told)
