use Rattle.std.proofs.Common.{◌≤◌}
use Rattle.std.specs.List.{All}
use Rattle.emv_dict.specs.Settings.{most_amount}
use Rattle.kernel_dialogues.proofs.outset.log_of.Given as goal

abbrev pub invariant-loop-word : goal.invariant-loop-word
invariant-loop-word l =
    (goal.iterator-loop-word).can_next l.word-iterator ×
    (goal.iterator-loop-word).is_finite l.word-iterator ×
    All (λ logged. logged.amount ≤ most_amount) l.log.items
