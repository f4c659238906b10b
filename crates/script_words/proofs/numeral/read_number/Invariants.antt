use Rattle.std.proofs.Common.{◌≡◌, ◌≤◌, drop}
use Rattle.script_words.specs.Numeral.{number_up_to}
use Rattle.script_words.proofs.Numerals.{read_on}
use Rattle.script_words.proofs.numeral.read_number.Given as goal

-- the rest of the text goes on with the number so far
abbrev pub invariant-loop-c : goal.invariant-loop-c
invariant-loop-c l = record {
  below : l.number ≤ l.most;
  rest : read_on l.most l.number (drop l.c-index l.text) ≡ number_up_to l.most l.text;
}
