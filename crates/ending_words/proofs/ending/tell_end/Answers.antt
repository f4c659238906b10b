use Rattle.report_lines.specs.Reading.{seen_ending, seen_fields}
use Rattle.report_lines.proofs.Telling.{tells_then}
use Rattle.ending_words.specs.Endings.{ending_words, end_fields, ends_declined}
use Rattle.ending_words.proofs.ending.tell_end.Goals as goal

pub returns : goal.returns
returns c =
    tells_then _ _ _ (ending_words c.args.lane.now (seen_ending c.args.ending.now)) (end_fields (ends_declined (seen_ending c.args.ending.now)) (seen_fields c.args.fields.now) c.args.brief)
    c.tell_ending.ensures (rw c.is_declined.ensures at c.tell_end_fields.ensures)
