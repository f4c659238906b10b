use Rattle.std.proofs.Common.{◌≡◌, ◌∷◌, map, length, take}
use Rattle.torn_store.proofs.layout.header_of.Given as goal

abbrev pub invariant-loop-block : goal.invariant-loop-block
invariant-loop-block l = l.names.items ≡ length l.blocks ∷ map (λ block. block.page) (take l.block-index l.blocks)
