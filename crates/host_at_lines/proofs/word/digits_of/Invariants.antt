use Rattle.std.proofs.Common.{◌≡◌, length, take}
use Rattle.host_at_lines.specs.Words.{numeral_values}
use Rattle.host_at_lines.proofs.word.digits_of.Given as goal

abbrev pub invariant-loop-character : goal.invariant-loop-character
invariant-loop-character l = record {
  count : length l.digits ≡ l.character-index;
  so_far : l.digits ≡ numeral_values (take l.character-index l.text);
}
