use Rattle.std.proofs.Common.{ℕ, ◌==◌, map, ap, ◌∙◌}
use Rattle.std.specs.Int.{bit_at}
use Rattle.emv_dict.proofs.Unions.{union_has}
use Rattle.emv_dict.proofs.tvr.Tvr.of_conditions.Goals as goal

pub returns-clause-bits : goal.returns-clause-bits
returns-clause-bits c place =
    ap (λ (n : ℕ). bit_at n place == 1) c.union_of.ensures ∙ union_has place (map (λ row. (row.0, row.1.0)) c.args.rows.now)
