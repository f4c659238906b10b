use Rattle.std.proofs.Common.{drop}
use Rattle.std.specs.List.{flat_map}
use Rattle.report_lines.proofs.Telling.{Left}
use Rattle.value_words.specs.Digits.{pair_words}
use Rattle.value_words.proofs.plain.tell_halves.Given as goal

abbrev pub invariant-loop-byte : goal.invariant-loop-byte
invariant-loop-byte l = Left l.fn.out l.out (flat_map pair_words l.value) (flat_map pair_words (drop l.byte-index l.value))
