use Rattle.std.proofs.Common.{◌≡◌, drop, not}
use Rattle.std.specs.List.{find}
use Rattle.emv_dict.specs.Nibbles.{nibbles}
use Rattle.emv_dict.specs.Pan.{is_filler}
use Rattle.emv_dict.proofs.pan.first_not_filler.Given as goal

-- the nibbles before this place are filler, so the search goes on in the others
abbrev pub invariant-loop-place : goal.invariant-loop-place
invariant-loop-place l =
    find (λ n. not (is_filler n)) (drop l.place (nibbles l.field)) ≡ find (λ n. not (is_filler n)) (drop l.from (nibbles l.field))
