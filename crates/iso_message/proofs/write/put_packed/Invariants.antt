use Rattle.std.proofs.Common.{◌≡◌, ◌+◌, ◌*◌, ◌++◌, length, take}
use Rattle.emv_dict.specs.Nibbles.{nibbles}
use Rattle.iso_message.specs.Text.{digit_characters}
use Rattle.iso_message.proofs.write.put_packed.Given as goal

abbrev pub invariant-loop-byte : goal.invariant-loop-byte
invariant-loop-byte l = record {
  long : length l.out.items ≡ length l.initial.out.items + 2 * l.byte-index;
  field : l.out.items ≡ l.initial.out.items ++ digit_characters (nibbles (take l.byte-index l.bytes));
}
