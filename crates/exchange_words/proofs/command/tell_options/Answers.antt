use Rattle.std.proofs.Common.{◌++◌, codes}
use Rattle.ber_tlv.specs.Direct.{sole_value}
use Rattle.ber_tlv.specs.Left.{items_of}
use Rattle.report_lines.specs.Pieces.{line, text}
use Rattle.report_lines.proofs.Telling.{tells_then}
use Rattle.exchange_words.specs.Commands.{command_cited, options_data_words}
use Rattle.exchange_words.proofs.command.tell_options.Goals as goal

pub returns : goal.returns
returns c =
    let fields = options_data_words c.args.lane.now.pdol.items c.args.brief (sole_value 0x83 (items_of c.args.body.now)) in
    let first = text (codes "GET PROCESSING OPTIONS") in
    tells_then _ _ _ (line 1 ++ first ++ command_cited 0x80A8) fields
    (tells_then _ _ _ (line 1 ++ first) (command_cited 0x80A8) (tells_then _ _ _ (line 1) first c.line.ensures c.text.ensures.told) c.tell_command_reference.ensures)
    (rw (c.as_slice.ensures.value, c.sole_value.ensures.exact) at c.tell_options_data.ensures)
