use Rattle.std.proofs.Common.{refl}
use Rattle.report_lines.specs.Pieces.{with_piece}
use Rattle.report_lines.proofs.Growing.{grown_none, grown_pair, grown_end_pairs}
use Rattle.report_lines.proofs.lines.WordLines.hex.Goals as goal

pub loop-byte-init : goal.loop-byte-init
loop-byte-init c = grown_none _ _ c.text.ensures.told c.text.ensures.one

pub loop-byte-preserved : goal.loop-byte-preserved
loop-byte-preserved c =
    grown_pair _ c.loop-byte.self _ _ c.args.bytes.now c.loop-byte.byte-index _ _ _ c.loop-byte-test.true refl c.loop-byte.invariant
    c.digit.ensures c.digit-in-loop-byte.ensures c.text-in-loop-byte.ensures.told c.text-in-loop-byte.ensures.one

pub returns : goal.returns
unfolding with_piece
returns c = grown_end_pairs c.args.self.now c.loop-byte.self _ c.args.bytes.now c.loop-byte.byte-index c.loop-byte-test.false c.loop-byte.invariant
