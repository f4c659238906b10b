use Rattle.std.proofs.Common.{sym}
use Rattle.iso_message.proofs.Numerals.{six_packed}
use Rattle.iso_message.proofs.digits.six_bytes.Goals as goal

pub returns : goal.returns
returns c =
    rw (
      c.pair.ensures,
      c.pair-in-len12.ensures,
      c.pair-in-len12-2.ensures,
      c.pair-in-len12-3.ensures,
      c.pair-in-len12-4.ensures,
      c.pair-in-len12-5.ensures,
    ) (sym (six_packed c.args.characters.now c.requires))
