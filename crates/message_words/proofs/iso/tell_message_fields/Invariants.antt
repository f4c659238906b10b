use Rattle.std.specs.List.{flat_map}
use Rattle.report_lines.proofs.Telling.{Left}
use Rattle.message_words.specs.Fields.{field_contents, named_from}
use Rattle.message_words.specs.Iso.{content_words, iso_fields_words}
use Rattle.message_words.specs.Objects.{sent_before}
use Rattle.message_words.proofs.iso.tell_message_fields.Given as goal

abbrev pub invariant-loop-number : goal.invariant-loop-number
invariant-loop-number l =
    let known = sent_before l.known in
    Left l.fn.out l.out (iso_fields_words l.style known l.bitmap l.fields) (flat_map (content_words l.style known) (field_contents (named_from l.bitmap l.number) l.rest))
