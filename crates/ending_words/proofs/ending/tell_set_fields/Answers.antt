use Rattle.report_lines.specs.Reading.{seen_fields}
use Rattle.ending_words.proofs.Ends.{fields_told}
use Rattle.ending_words.proofs.ending.tell_set_fields.Goals as goal

pub returns : goal.returns
returns c =
    fields_told _ _ _ _ _ c.args.declined (seen_fields c.args.fields.now) c.args.brief _ c.hex_number.ensures c.tell_end_bits.ensures c.tell_cvm.ensures c.tell_code.ensures c.tell_scripts.ensures
