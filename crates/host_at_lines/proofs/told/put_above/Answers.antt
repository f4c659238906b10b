use Rattle.std.proofs.Common.{List, ℕ, ℤ, ◌++◌, codes, decimal, ap, append_assoc, ◌∙◌}
use Rattle.std.specs.Int.{w128}
use Rattle.std.proofs.lemmas.Int.{to_z-of_z}
use Rattle.std.specs.Fmt.{signed_decimal}
use Rattle.host_at_lines.proofs.told.put_above.Goals as goal

pub returns-clause-text : goal.returns-clause-text
returns-clause-text c =
    c.put_blank_balance.ensures.text
    ∙ ap (λ (z : ℤ). c.put_place.new.out.items ++ (codes " " ++ signed_decimal z)) (to_z-of_z w128 c.args.balance c.ranges.balance)
    ∙ ap (λ (t : List ℕ). t ++ (codes " " ++ signed_decimal c.args.balance)) c.put_place.ensures.text
    ∙ append_assoc c.args.out.now.items (codes "above-balance " ++ decimal c.args.asked) (codes " " ++ signed_decimal c.args.balance)
