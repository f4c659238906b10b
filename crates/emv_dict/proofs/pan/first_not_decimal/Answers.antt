use Rattle.std.proofs.Common.{◌≡◌, ◌*◌, ◌≤◌, false, not, length, take, sym, arith, ◌∙◌}
use Rattle.std.proofs.lemmas.Bool.Decides.{nat_tests}
use Rattle.std.proofs.lemmas.List.{length-take-le}
use Rattle.emv_dict.specs.Nibbles.{nibbles, is_decimal}
use Rattle.emv_dict.proofs.HexDigits.{length-nibbles}
use Rattle.emv_dict.proofs.Searches.{find_on, decimal_more, taken}
use Rattle.emv_dict.proofs.pan.first_not_decimal.Goals as goal

pub loop-place-preserved : goal.loop-place-preserved
loop-place-preserved c =
    let two : length (nibbles c.args.field.now) ≡ 2 * length c.args.field.now = length-nibbles c.args.field.now in
    let within : c.args.count ≤ length (nibbles c.args.field.now) = omega arith in
    let size : length (take c.args.count (nibbles c.args.field.now)) ≡ c.args.count = length-take-le c.args.count (nibbles c.args.field.now) within in
    let fails : not (is_decimal c.nibble_at-nibble.result) ≡ false = grind (arith, nat_tests, c.if-nibble-gt9.false) in
    record {
      so_far = decimal_more (nibbles c.args.field.now) c.loop-place.place c.nibble_at-nibble.result (omega arith)
          c.nibble_at-nibble.ensures.value c.if-nibble-gt9.false c.loop-place.invariant.so_far;
      rest =
          sym (find_on (λ n. not (is_decimal n)) (take c.args.count (nibbles c.args.field.now)) c.loop-place.place c.nibble_at-nibble.result
          (omega arith)
          (taken (nibbles c.args.field.now) c.args.count c.loop-place.place c.nibble_at-nibble.result c.loop-place-test.true
          c.nibble_at-nibble.ensures.value)
          fails)
          ∙ c.loop-place.invariant.rest;
    }
