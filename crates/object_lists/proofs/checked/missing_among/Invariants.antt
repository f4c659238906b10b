use Rattle.std.proofs.Common.{◌≡◌, map, drop}
use Rattle.object_lists.specs.Checked.{missing_from}
use Rattle.object_lists.proofs.checked.missing_among.Given as goal

abbrev pub invariant-loop-tag : goal.invariant-loop-tag
invariant-loop-tag l = missing_from (map (λ tag. tag.0) (drop l.tag-index l.tags)) l.env ≡ missing_from (map (λ tag. tag.0) l.tags) l.env
