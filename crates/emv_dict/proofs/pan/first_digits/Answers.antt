use Rattle.std.proofs.Common.{◌≡◌, ◌*◌, ◌++◌, ◌∷◌, [], ℕ, List, length, sym, ap, arith, ◌∙◌}
use Rattle.emv_dict.specs.Nibbles.{nibbles}
use Rattle.emv_dict.proofs.HexDigits.{length-nibbles}
use Rattle.emv_dict.proofs.Searches.{decimal_at, take_next}
use Rattle.emv_dict.proofs.pan.first_digits.Goals as goal

pub push-requires-clause-decimal : goal.push-requires-clause-decimal
push-requires-clause-decimal c =
    let two : length (nibbles c.args.field.now) ≡ 2 * length c.args.field.now = length-nibbles c.args.field.now in
    decimal_at (nibbles c.args.field.now) c.args.count c.loop-place.place c.nibble_at.result c.loop-place-test.true (omega arith)
    c.nibble_at.ensures.value c.requires.decimal

pub loop-place-preserved : goal.loop-place-preserved
loop-place-preserved c =
    let two : length (nibbles c.args.field.now) ≡ 2 * length c.args.field.now = length-nibbles c.args.field.now in
    c.push.ensures
    ∙ ap (λ (ds : List ℕ). ds ++ c.nibble_at.result ∷ []) c.loop-place.invariant
    ∙ sym (take_next (nibbles c.args.field.now) c.loop-place.place c.nibble_at.result (omega arith) c.nibble_at.ensures.value)
