use Rattle.std.proofs.Common.{◌≡◌, length, map}
use Rattle.value_words.specs.Words.{tag_name_in}
use Rattle.value_words.proofs.look_up.name_among.Given as goal

abbrev pub invariant-loop-names : goal.invariant-loop-names
invariant-loop-names l = tag_name_in (map (λ n. (n.0, n.1.now, n.2)) l.names) l.tag.0 ≡ tag_name_in (map (λ n. (n.0, n.1.now, n.2)) l.initial.names) l.tag.0

abbrev pub decreases-loop-names : goal.decreases-loop-names
decreases-loop-names l = length l.names
