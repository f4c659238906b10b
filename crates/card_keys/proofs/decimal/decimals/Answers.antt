use Rattle.std.proofs.Common.{ℕ, List, ◌≡◌, length, take, ap, rules, arith}
use Rattle.std.specs.List.{filter}
use Rattle.emv_dict.specs.Nibbles.{is_decimal}
use Rattle.card_keys.proofs.DecimalLists.{few_decimals}
use Rattle.card_keys.proofs.decimal.decimals.Goals as goal

pub push-requires : goal.push-requires
push-requires c =
    let size : length c.loop-digit.list.items ≡ length (filter is_decimal (take c.loop-digit.digit-index c.args.digits.now)) =
    ap (λ (l : List ℕ). length l) c.loop-digit.invariant in
    let forty : length c.args.digits.now ≡ 40 = search rules in
    let few = few_decimals c.args.digits.now c.loop-digit.digit-index (omega (arith, forty, c.loop-digit-test.true)) in
    omega (arith, size, few, forty)
