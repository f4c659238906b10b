use Rattle.std.proofs.Common.{ℕ, List, ◌≡◌, ◌++◌, true, length, get_or, take, map, ap, rules, arith, ◌∙◌}
use Rattle.std.proofs.lemmas.Bool.Decides.{nat_tests}
use Rattle.std.specs.List.{filter}
use Rattle.card_keys.specs.Decimal.{is_letter, less_ten, decimals_of}
use Rattle.card_keys.proofs.DecimalLists.{letters_fit}
use Rattle.card_keys.proofs.decimal.append_letters.Goals as goal

pub push-requires : goal.push-requires
push-requires c =
    let letters = map less_ten (filter is_letter (take c.loop-digit.digit-index c.args.digits.now)) in
    let is : c.loop-digit.list.items ≡ decimals_of c.args.digits.now ++ letters =
    c.loop-digit.invariant ∙ ap (λ (l : List ℕ). l ++ letters) c.requires in
    let size : length c.loop-digit.list.items ≡ length (decimals_of c.args.digits.now ++ letters) = ap (λ (l : List ℕ). length l) is in
    let letter : is_letter (get_or c.args.digits.now c.loop-digit.digit-index 0) ≡ true = grind (arith, nat_tests, c.if-digit-gt9.true) in
    let forty : length c.args.digits.now ≡ 40 = search rules in
    let fit = letters_fit c.args.digits.now c.loop-digit.digit-index (omega (arith, forty, c.loop-digit-test.true)) letter in
    omega (arith, size, fit, forty)
