use Rattle.std.proofs.Common.{◌≡◌, length, arith, rules}
use Rattle.std.proofs.lemmas.List.{ext_get_or}
use Rattle.std.proofs.lemmas.Grind.{get_or_default_zero}
use Rattle.emv_dict.specs.Nibbles.{nibbles}
use Rattle.emv_dict.proofs.HexDigits.{length-nibbles}
use Rattle.card_keys.proofs.decimal.hexadecimal.Goals as goal

pub returns-clause-value : goal.returns-clause-value
returns-clause-value c =
    let twenty : length c.args.hash ≡ 20 = search rules in
    let forty : length c.loop-place.digits ≡ length (nibbles c.args.hash) = omega (arith, c.loop-place.invariant.sized, length-nibbles c.args.hash, twenty) in
    ext_get_or 0 c.loop-place.digits (nibbles c.args.hash) forty
    (λ i within. c.loop-place.invariant.same i (omega (arith, within, c.loop-place.invariant.sized, c.loop-place-test.false)))

pub returns-clause-small : goal.returns-clause-small
returns-clause-small c = λ k d within.
    rw (get_or_default_zero c.loop-place.digits k d within)
    (c.loop-place.invariant.small k (omega (arith, within, c.loop-place.invariant.sized, c.loop-place-test.false)))
