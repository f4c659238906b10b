use Rattle.std.proofs.Common.{ℕ, List, length, ap, sym, ◌∙◌}
use Rattle.emv_dict.proofs.HexDigits.{length-packed}
use Rattle.card_keys.proofs.packing.pack_block.Goals as goal

pub copy_from_slice-requires : goal.copy_from_slice-requires
copy_from_slice-requires c =
    sym (ap (λ (l : List ℕ). length l) (c.deref.ensures.0 ∙ c.pack.ensures) ∙ length-packed c.args.digits.now 8 c.requires.sixteen)
