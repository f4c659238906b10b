use Rattle.std.proofs.Common.{◌≡◌, ℕ, List, Err, length, refl, ap, arith}
use Rattle.hex.specs.Hex.{decode_sized}
use Rattle.explain.proofs.Names.{is_refused, none_read}
use Rattle.explain.proofs.options.read_bytes.Goals as goal

pub returns-in-Err-clause-none : goal.returns-in-Err-clause-none
returns-in-Err-clause-none c = λ none.
    let room = length c.as_mut_slice.result.now in
    let refused = is_refused (decode_sized c.args.text.now room) (Err c.in-Err.field-0) c.in-Err.field-0 c.decode_to_slice.new.out refl c.in-Err.ensures.value in
    let whole : room ≡ length c.truncate.new.self.items = ap (λ (bytes : List ℕ). length bytes) c.as_mut_slice.ensures.value in
    none_read c.args.text.now room refused.0 (λ few. omega (arith, few, whole, c.truncate.ensures.len, c.from-bytes.ensures.1)) refused.1
