use Rattle.std.proofs.Common.{◌≡◌, ◌==◌, ℕ, List, Some, false, length, refl, sym, ap, ◌∙◌, arith}
use Rattle.std.proofs.lemmas.Bool.Decides.{nat_tests}
use Rattle.value_words.specs.Plain.{binary_number}
use Rattle.explain.proofs.Names.{code_read, code_other, no_code}
use Rattle.explain.proofs.options.read_number.Goals as goal

pub returns-in_err-bytes : goal.returns-in_err-bytes
returns-in_err-bytes c = rw c.from_residual.ensures (sym (no_code c.args.count c.args.text.now c.requires (c.in_err-bytes.ensures.none refl)))

pub returns-then-len-count : goal.returns-then-len-count
returns-then-len-count c =
    ap (λ (n : ℕ). Some n) (c.number_in.ensures ∙ ap (λ (bytes : List ℕ). binary_number bytes) c.as_slice.ensures.value)
    ∙ sym (code_read c.args.count c.args.text.now c.in_ok-bytes.bytes.items c.in_ok-bytes.ensures.some (omega arith))

pub returns-else-len-count : goal.returns-else-len-count
returns-else-len-count c =
    let other : (length c.in_ok-bytes.bytes.items == c.args.count) ≡ false = grind (arith, nat_tests) in
    sym (code_other c.args.count c.args.text.now c.in_ok-bytes.bytes.items c.in_ok-bytes.ensures.some other)
