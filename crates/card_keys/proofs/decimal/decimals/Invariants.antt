use Rattle.std.proofs.Common.{◌≡◌, take}
use Rattle.std.specs.List.{filter}
use Rattle.emv_dict.specs.Nibbles.{is_decimal}
use Rattle.card_keys.proofs.decimal.decimals.Given as goal

abbrev pub invariant-loop-digit : goal.invariant-loop-digit
invariant-loop-digit l = l.list.items ≡ filter is_decimal (take l.digit-index l.digits)
