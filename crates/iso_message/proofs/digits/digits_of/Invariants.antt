use Rattle.std.proofs.Common.{◌≡◌, length, take}
use Rattle.iso_message.specs.Text.{values}
use Rattle.iso_message.proofs.digits.digits_of.Given as goal

abbrev pub invariant-loop-character : goal.invariant-loop-character
invariant-loop-character l = record {
  count : length l.digits ≡ l.character-index;
  digits : l.digits ≡ values (take l.character-index l.characters);
}
