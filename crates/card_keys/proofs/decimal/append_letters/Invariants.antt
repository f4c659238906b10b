use Rattle.std.proofs.Common.{◌≡◌, ◌++◌, take, map}
use Rattle.std.specs.List.{filter}
use Rattle.card_keys.specs.Decimal.{is_letter, less_ten}
use Rattle.card_keys.proofs.decimal.append_letters.Given as goal

abbrev pub invariant-loop-digit : goal.invariant-loop-digit
invariant-loop-digit l = l.list.items ≡ l.initial.list.items ++ map less_ten (filter is_letter (take l.digit-index l.digits))
