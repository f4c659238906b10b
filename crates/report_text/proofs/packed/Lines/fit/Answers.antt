use Rattle.std.proofs.Common.{[], ◌∷◌, ◌++◌, ◌∙◌, sym, ap, append_assoc}
use Rattle.std.proofs.lemmas.List.Elements.{All-push}
use Rattle.report_text.specs.Told.{HasLineBytes}
use Rattle.report_text.proofs.packed.Lines.fit.Goals as goal

pub loop-line-preserved : goal.loop-line-preserved
loop-line-preserved c = (
  c.loop-line.invariant.0 ++ c.in-Some.line ∷ [],
  append_assoc c.loop-line.invariant.0 (c.in-Some.line ∷ []) c.next.new.self ∙ ap (λ xs. c.loop-line.invariant.0 ++ xs) (sym c.in-Some.ensures) ∙ c.loop-line.invariant.1,
  All-push HasLineBytes c.loop-line.invariant.0 c.in-Some.line c.loop-line.invariant.2 c.fits.ensures,
)
