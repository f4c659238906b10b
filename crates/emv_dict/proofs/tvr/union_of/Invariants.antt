use Rattle.std.proofs.Common.{◌≡◌, map, drop}
use Rattle.emv_dict.specs.Flags.{bits_from, bits_where}
use Rattle.emv_dict.proofs.tvr.union_of.Given as goal

-- what is left adds to the bits so far
abbrev pub invariant-loop-holds : goal.invariant-loop-holds
invariant-loop-holds l =
    bits_from l.results.0 (map (λ row. (row.0, row.1.0)) (drop l.holds-index l.rows)) ≡ bits_where (map (λ row. (row.0, row.1.0)) l.rows)
