use Rattle.std.proofs.Common.{◌≡◌, ◌+◌, ◌++◌, length, take}
use Rattle.iso_message.specs.Text.{digit_characters}
use Rattle.iso_message.proofs.write.put_text.Given as goal

abbrev pub invariant-loop-digit : goal.invariant-loop-digit
invariant-loop-digit l = record {
  long : length l.out.items ≡ length l.initial.out.items + l.digit-index;
  field : l.out.items ≡ l.initial.out.items ++ digit_characters (take l.digit-index l.digits);
}
