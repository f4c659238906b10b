use Rattle.std.proofs.Common.{◌≡◌, ℕ, ◌+◌, ◌-◌, ◌≤◌, List, [], ◌++◌, length, take, drop, arith, length-drop, append-nil, refl}
use Rattle.std.proofs.lemmas.List.{drop-drop, drop-take}
use Rattle.std.proofs.Math.ListN.{drop_of_length-le}
use Rattle.std.proofs.Math.Seq.{take-length}
use borrow.Rule.Slice.PartMut.{put_mid}
use Rattle.env_map.proofs.place.rotate_behind.Goals as goal

-- a part that reaches to the end is all that is left
to_end : (bytes : List ℕ) (start : ℕ) → take (length bytes - start) (drop start bytes) ≡ drop start bytes
to_end bytes start = rw (← length-drop start bytes) (take-length (drop start bytes))

rotated : (bytes ys : List ℕ) (start count : ℕ) → start + count ≤ length bytes
    → ys ≡ drop (length (drop start bytes) - count) (drop start bytes) ++ take (length (drop start bytes) - count) (drop start bytes)
    → put_mid start (length bytes - start) bytes ys ≡ take start bytes ++ (drop (length bytes - count) bytes ++ drop start (take (length bytes - count) bytes))
rotated bytes ys start count within is_rotated =
    let behind = length bytes - start - count in
    let kept : length bytes - count ≡ start + behind = omega arith in
    let part : length (drop start bytes) - count ≡ behind = omega (arith, length-drop start bytes) in
    let past : drop (length bytes - start) (drop start bytes) ≡ [] = drop_of_length-le (drop start bytes) (omega (arith, length-drop start bytes)) in
    rw (is_rotated, part, kept, drop-drop behind start bytes, drop-take start behind bytes, past, append-nil) refl

pub returns : goal.returns
returns c =
    rotated c.args.bytes.now c.bring_to_front.new.bytes c.args.start c.args.count c.requires
    (rw (to_end c.args.bytes.now c.args.start) at c.bring_to_front.ensures)
