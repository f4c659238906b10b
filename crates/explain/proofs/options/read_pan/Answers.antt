use Rattle.std.proofs.Common.{List, ℕ, [], nat_le, length, refl, sym, ap, ◌∙◌, arith}
use Rattle.std.specs.Prelude.{if◌then◌else◌}
use Rattle.explain.proofs.Names.{pan_read, pan_long, no_pan}
use Rattle.explain.proofs.options.read_pan.Goals as goal

pub returns-in_err-bytes : goal.returns-in_err-bytes
returns-in_err-bytes c = rw c.from_residual.ensures (sym (no_pan c.args.text.now (c.in_err-bytes.ensures.none refl)))

pub returns-then-len-gt10 : goal.returns-then-len-gt10
returns-then-len-gt10 c = sym (pan_long c.args.text.now c.in_ok-bytes.bytes.items c.in_ok-bytes.ensures.some (omega arith))

pub returns : goal.returns
returns c =
    let kept = c.keep.ensures ∙ ap (λ (b : List ℕ). if nat_le (length b) 10 then b else []) c.as_slice.ensures.value in
    sym (pan_read c.args.text.now c.in_ok-bytes.bytes.items c.keep.new.kept.items c.in_ok-bytes.ensures.some (omega arith) kept)
