use Rattle.std.proofs.Common.{◌+◌, ◌-◌, ◌++◌, codes}
use Rattle.report_lines.proofs.Telling.{tells_then}
use Rattle.object_words.specs.Tracks.{part_words, discretionary_words}
use Rattle.object_words.proofs.track.tell_behind.Goals as goal

pub returns : goal.returns
returns c =
    let value = c.args.value.now in
    let pan = c.args.pan in
    let year = part_words (codes ", expires ") value (pan + 1) 2 in
    let month = part_words (codes "-") value (pan + 3) 2 in
    let service = part_words (codes ", service code ") value (pan + 5) 3 in
    let rest = discretionary_words value (pan + 8) (c.args.end - (pan + 8)) in
    tells_then _ _ _ (year ++ month ++ service) rest
    (tells_then _ _ _ (year ++ month) service (tells_then _ _ _ year month c.tell_part.ensures c.tell_part-2.ensures) c.tell_part-3.ensures)
    c.tell_discretionary.ensures
