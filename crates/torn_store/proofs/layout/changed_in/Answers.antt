use Rattle.std.proofs.Common.{◌+◌, ◌/◌, ◌∷◌, [], ◌++◌, ℕ, List, length, refl, ap, sym, ◌∙◌, arith}
use Rattle.torn_store.specs.Layout.{padded_page}
use Rattle.torn_store.proofs.Changes.{left_same, left_more}
use Rattle.torn_store.proofs.layout.changed_in.Goals as goal

pub loop-place-preserved-then-has_part : goal.loop-place-preserved-then-has_part
loop-place-preserved-then-has_part c = record {
  few = omega arith;
  left = left_same ((length c.args.frame.now + 63) / 64) c.loop-place.place (c.args.front.now ++ c.args.behind.now) c.args.frame.now
      _ c.part_of-part.result.now c.loop-place.blocks.items _ (omega arith)
      refl c.part_of-part.ensures.part (sym c.if-has_part.true ∙ c.has_part.ensures) c.loop-place.invariant.left;
}

pub loop-place-preserved : goal.loop-place-preserved
loop-place-preserved c = record {
  few = omega arith;
  left = left_more ((length c.args.frame.now + 63) / 64) c.loop-place.place (c.args.front.now ++ c.args.behind.now) c.args.frame.now
      _ c.part_of-part.result.now c.loop-place.blocks.items c.push.new.self.items _ (omega arith)
      refl c.part_of-part.ensures.part (sym c.if-has_part.false ∙ c.has_part.ensures)
      (c.push.ensures.items
      ∙ ap (λ (bytes : List ℕ). c.loop-place.blocks.items ++ record { page = c.loop-place.place + 1; bytes = bytes } ∷ [])
      (c.filled.ensures ∙ ap padded_page c.part_of-part.ensures.part))
      c.loop-place.invariant.left;
}
