use Rattle.std.proofs.Common.{◌≡◌, ℕ, List, length, take, min, ap, ◌∙◌, arith}
use Rattle.std.proofs.lemmas.List.{take_min}
use Rattle.torn_store.proofs.layout.part_of.Goals as goal

pub returns-clause-part : goal.returns-clause-part
returns-clause-part c =
    let rest : List ℕ = c.from_byte-rest.result.now in
    let end : c.min.result ≡ min 64 (length rest) = omega (arith, c.min.ensures) in
    ap (λ (n : ℕ). take n rest) end ∙ take_min 64 rest ∙ ap (take 64) c.from_byte-rest.ensures
