use Rattle.std.proofs.Common.{refl}
use Rattle.report_lines.specs.Pieces.{with_piece}
use Rattle.report_lines.proofs.Growing.{grown_start, grown_more, grown_end}
use Rattle.report_lines.proofs.lines.WordLines.text.Goals as goal

pub loop-byte-init : goal.loop-byte-init
loop-byte-init c = grown_start _ _ _ c.begin.ensures.begun c.begin.ensures.books c.begin.ensures.one c.begin.ensures.failed

pub loop-byte-preserved : goal.loop-byte-preserved
loop-byte-preserved c =
    grown_more _ c.loop-byte.self _ _ c.args.text.now c.loop-byte.byte-index _ c.loop-byte-test.true refl c.loop-byte.invariant
    c.push.ensures.shown c.push.ensures.books c.push.ensures.one c.push.ensures.failed

pub returns-clause-told : goal.returns-clause-told
unfolding with_piece
returns-clause-told c = grown_end c.args.self.now c.loop-byte.self _ c.args.text.now c.loop-byte.byte-index c.loop-byte-test.false c.loop-byte.invariant

pub returns-clause-one : goal.returns-clause-one
returns-clause-one c = c.loop-byte.invariant.one
