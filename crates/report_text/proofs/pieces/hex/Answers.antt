-- Each byte adds its two digits.
use Rattle.std.proofs.Common.{ℕ, ◌/◌, ◌%◌, List, [], ◌∷◌, slice_index, take, arith, append_assoc, append-nil, sym}
use Rattle.hex.specs.Hex.{encode_lower, encode_with, lower_digits}
use Rattle.report_text.proofs.Digits.{encode_with-more}
use Rattle.report_text.proofs.pieces.hex.Goals as goal

pub loop-byte-init : goal.loop-byte-init
unfolding encode_with
loop-byte-init c = record { text = sym (append-nil c.args.out.now.items); len = omega arith }

pub loop-byte-preserved : goal.loop-byte-preserved
loop-byte-preserved c =
    let i = c.loop-byte.byte-index in
    let bytes = c.args.bytes.now in
    let byte = slice_index bytes i in
    let more = encode_with-more lower_digits bytes i (omega arith) in
    let pair : List ℕ = slice_index lower_digits (byte / 16) ∷ slice_index lower_digits (byte % 16) ∷ [] in
    let joined = append_assoc c.args.out.now.items (encode_lower (take i bytes)) pair in
    record { text = cc (more, joined); len = omega arith }
