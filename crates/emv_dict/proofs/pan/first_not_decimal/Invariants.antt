use Rattle.std.proofs.Common.{◌≡◌, take, drop, not}
use Rattle.std.specs.List.{find}
use Rattle.emv_dict.specs.Digits.{AllDecimal}
use Rattle.emv_dict.specs.Nibbles.{nibbles, is_decimal}
use Rattle.emv_dict.proofs.pan.first_not_decimal.Given as goal

-- the nibbles before this place are decimal, so the search goes on in the others
abbrev pub invariant-loop-place : goal.invariant-loop-place
invariant-loop-place l = record {
  so_far : AllDecimal (take l.place (nibbles l.field));
  rest : find (λ n. not (is_decimal n)) (drop l.place (take l.count (nibbles l.field)))
      ≡ find (λ n. not (is_decimal n)) (take l.count (nibbles l.field));
}
