use Rattle.std.proofs.Common.{List, ℕ, map, reverse, ap, ◌∙◌}
use Rattle.triple_des.specs.Bits.{bits}
use Rattle.triple_des.proofs.Undone.{map-reverse}
use Rattle.triple_des.proofs.single.Des.reversed.Goals as goal

pub returns : goal.returns
returns c =
    ap (λ (ks : List ℕ). map (bits 48) ks) c.reverse.ensures.after
    ∙ map-reverse (bits 48) c.self.inside.keys
    ∙ ap (λ (ks : List (List ℕ)). reverse ks) c.self.view_is
