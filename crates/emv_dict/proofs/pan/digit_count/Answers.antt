use Rattle.std.proofs.Common.{◌≡◌, ◌*◌, ◌==◌, length, sym, ap, arith, ◌∙◌}
use Rattle.std.proofs.lemmas.List.Sums.{position_or_len_is}
use Rattle.emv_dict.specs.Nibbles.{nibbles}
use Rattle.emv_dict.specs.Pan.{is_filler}
use Rattle.emv_dict.proofs.HexDigits.{length-nibbles}
use Rattle.emv_dict.proofs.pan.digit_count.Goals as goal

pub returns-then-nibble_at-eq15-clause-place : goal.returns-then-nibble_at-eq15-clause-place
returns-then-nibble_at-eq15-clause-place c =
    let two : length (nibbles c.args.field.now) ≡ 2 * length c.args.field.now = length-nibbles c.args.field.now in
    sym (position_or_len_is is_filler (nibbles c.args.field.now) c.loop-place.place 0 (omega arith) c.loop-place.invariant
    (λ _. ap (λ n. n == 15) (sym c.nibble_at.ensures.value ∙ c.if-nibble_at-eq15.true)))

pub returns-clause-place : goal.returns-clause-place
returns-clause-place c =
    let two : length (nibbles c.args.field.now) ≡ 2 * length c.args.field.now = length-nibbles c.args.field.now in
    sym (position_or_len_is is_filler (nibbles c.args.field.now) _ 0 (omega arith)
    (λ k below. c.loop-place.invariant k (omega arith)) (λ inside. absurd (omega arith)))
