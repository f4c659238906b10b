-- The bytes of the opening state in its version.
use Rattle.std.proofs.Common.{◌∙◌}
use Rattle.card_app.proofs.Formats.{formatted_one, formatted}
use Rattle.card_app.proofs.kept.format.Goals as goal

pub returns-then-version-eq1-clause-stands : goal.returns-then-version-eq1-clause-stands
returns-then-version-eq1-clause-stands g c =
    formatted_one (g.P.Pages.memory c.written.result).cells c.args.version c.args.opening.now c.as_slice.result.now c.requires.none c.encode.ensures.ranges
    c.requires.short c.written.ensures.holds c.if-version-eq1.true (c.as_slice.ensures.value ∙ c.encode_one.ensures)

pub returns-clause-stands : goal.returns-clause-stands
returns-clause-stands g c =
    formatted (g.P.Pages.memory c.written-2.result).cells c.args.version c.args.opening.now c.as_slice-2.result.now c.requires.none c.encode.ensures.ranges
    c.requires.short c.written-2.ensures.holds (c.as_slice-2.ensures.value ∙ c.encode.ensures.bytes)
