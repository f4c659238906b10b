use Rattle.std.proofs.Common.{◌≡◌, false, map, take, length}
use Rattle.card_files.proofs.image.Image.opening.Given as goal

abbrev pub invariant-loop-image : goal.invariant-loop-image
invariant-loop-image l = record {
  free : l.out.blocked ≡ false;
  few : length l.out.apps.items ≡ l.image-index;
  opened : l.out.apps.items ≡ map (λ a. a.opening) (take l.image-index l.image-items);
}
