use Rattle.std.specs.List.{All}
use Rattle.emv_dict.specs.Pan.{HasPanLength}
use Rattle.kernel_dialogues.proofs.outset.account_numbers.Given as goal

abbrev pub invariant-loop-word : goal.invariant-loop-word
invariant-loop-word l =
    (goal.iterator-loop-word).can_next l.word-iterator ×
    (goal.iterator-loop-word).is_finite l.word-iterator ×
    All HasPanLength l.numbers.items
