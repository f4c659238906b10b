use Rattle.std.proofs.Common.{◌≡◌, ◌++◌, length, drop}
use Rattle.std.specs.Option.{option_map}
use Rattle.script_words.specs.Numeral.{digit_values}
use Rattle.script_words.proofs.numeral.read_pin.Given as goal

abbrev pub invariant-loop-c : goal.invariant-loop-c
invariant-loop-c l = record {
  count : length l.digits ≡ l.c-index;
  rest : option_map (λ ds. l.digits ++ ds) (digit_values (drop l.c-index l.text)) ≡ digit_values l.text;
}
