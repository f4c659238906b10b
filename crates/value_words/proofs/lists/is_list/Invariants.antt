use Rattle.std.proofs.Common.{◌≡◌, length}
use Rattle.value_words.specs.Fields.{is_whole_list}
use Rattle.value_words.proofs.lists.is_list.Given as goal

abbrev pub invariant-loop-rest : goal.invariant-loop-rest
invariant-loop-rest l = is_whole_list l.left ≡ is_whole_list l.list

abbrev pub decreases-loop-rest : goal.decreases-loop-rest
decreases-loop-rest l = length l.left
