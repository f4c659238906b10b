use Rattle.std.proofs.Common.{◌≡◌, ◌*◌, true, false, nat_le, length, get_or, arith}
use Rattle.std.proofs.lemmas.Bool.Decides.{nat_tests}
use Rattle.emv_dict.specs.Nibbles.{nibbles}
use Rattle.emv_dict.proofs.HexDigits.{length-nibbles}
use Rattle.object_words.proofs.Halves.{leading-next, leading-none, leading-end}
use Rattle.object_words.proofs.track.digits_end.Goals as goal

pub returns-then-nibble_at-gt9-clause-place : goal.returns-then-nibble_at-gt9-clause-place
returns-then-nibble_at-gt9-clause-place c =
    let halves = nibbles c.args.value.now in
    let two : length halves ≡ 2 * length c.args.value.now = length-nibbles c.args.value.now in
    let other : nat_le (get_or halves c.loop-place.place 0) 9 ≡ false = grind (arith, nat_tests) in
    omega (arith, leading-none halves c.loop-place.place (omega arith) other, c.loop-place.invariant)

pub loop-place-preserved : goal.loop-place-preserved
loop-place-preserved c =
    let halves = nibbles c.args.value.now in
    let two : length halves ≡ 2 * length c.args.value.now = length-nibbles c.args.value.now in
    let digit : nat_le (get_or halves c.loop-place.place 0) 9 ≡ true = grind (arith, nat_tests) in
    omega (arith, leading-next halves c.loop-place.place (omega arith) digit, c.loop-place.invariant)

pub returns-clause-place : goal.returns-clause-place
returns-clause-place c =
    let halves = nibbles c.args.value.now in
    let two : length halves ≡ 2 * length c.args.value.now = length-nibbles c.args.value.now in
    omega (arith, leading-end halves c.loop-place.place (omega arith), c.loop-place.invariant)
