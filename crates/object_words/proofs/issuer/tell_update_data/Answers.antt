use Rattle.std.proofs.Common.{◌≡◌, List, [], ◌∷◌, ◌++◌, length, slice_index, arith, refl, sym, subst}
use Rattle.report_lines.specs.Pieces.{Piece, Tells, hex}
use Rattle.report_lines.proofs.Telling.{tells_then}
use Rattle.object_words.specs.Issuer.{update_data_words, update_words}
use Rattle.object_words.proofs.issuer.tell_update_data.Goals as goal

pub returns-in-len8 : goal.returns-in-len8
returns-in-len8 c =
    let front = c.args.front.now in
    let eight : length front ≡ 8 = omega arith in
    let first = hex (slice_index front 0 ∷ slice_index front 1 ∷ slice_index front 2 ∷ slice_index front 3 ∷ []) in
    let second = update_words (slice_index front 4 ∷ slice_index front 5 ∷ slice_index front 6 ∷ slice_index front 7 ∷ []) in
    let whole : update_data_words front ≡ first ++ second = rw eight refl in
    subst (λ (words : List Piece). Tells c.args.out.now c.tell_update.new.out words) (sym whole)
    (tells_then _ _ _ first second c.hex.ensures c.tell_update.ensures)
