use Rattle.std.proofs.Common.{◌≡◌, ◌*◌, true, not, length, sym, arith, ◌∙◌}
use Rattle.std.proofs.lemmas.Bool.Decides.{nat_tests}
use Rattle.emv_dict.specs.Nibbles.{nibbles}
use Rattle.emv_dict.specs.Pan.{is_filler}
use Rattle.emv_dict.proofs.HexDigits.{length-nibbles}
use Rattle.emv_dict.proofs.Searches.{find_here, find_nothing}
use Rattle.emv_dict.proofs.pan.first_not_filler.Goals as goal

pub returns-then-nibble-ne15 : goal.returns-then-nibble-ne15
returns-then-nibble-ne15 c =
    let two : length (nibbles c.args.field.now) ≡ 2 * length c.args.field.now = length-nibbles c.args.field.now in
    let passes : not (is_filler c.nibble_at-nibble.result) ≡ true = grind (arith, nat_tests, c.if-nibble-ne15.true) in
    sym (find_here (λ n. not (is_filler n)) (nibbles c.args.field.now) c.loop-place.place c.nibble_at-nibble.result (omega arith)
    c.nibble_at-nibble.ensures.value passes)
    ∙ c.loop-place.invariant

pub returns : goal.returns
returns c =
    let two : length (nibbles c.args.field.now) ≡ 2 * length c.args.field.now = length-nibbles c.args.field.now in
    sym (find_nothing (λ n. not (is_filler n)) (nibbles c.args.field.now) c.loop-place.place (omega arith)) ∙ c.loop-place.invariant
