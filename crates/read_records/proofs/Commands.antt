-- The command's template has room in a command.
use Rattle.std.proofs.Common.{◌≡◌, ℕ, ◌≤◌, List, [], ◌∷◌, Bool, true, false, length, nat_lt, refl, arith, length-append, if◌then◌else◌}
use Rattle.std.proofs.lemmas.Bool.Decides.{nat_tests}
use Rattle.ber_tlv.specs.Written.{written, length_bytes}

length_bytes-short : (count : ℕ) (short fair : Bool) (long : List ℕ) → nat_lt count 256 ≡ true → nat_lt count 256 ≡ fair
    → length (if short then count ∷ [] else if fair then 129 ∷ count ∷ [] else long) ≤ 2
length_bytes-short count true fair long small is = omega arith
length_bytes-short count false true long small is = omega arith
length_bytes-short count false false long small is = cc

pub template_room : (given : List ℕ) → length given ≤ 252 → length (written 0x83 given) ≤ 255
unfolding written
template_room given few =
    let small : nat_lt (length given) 256 ≡ true = grind (arith, nat_tests) in
    let short : length (length_bytes (length given)) ≤ 2 = length_bytes-short (length given) (nat_lt (length given) 128) (nat_lt (length given) 256) _ small refl in
    simp length-append (omega arith)
