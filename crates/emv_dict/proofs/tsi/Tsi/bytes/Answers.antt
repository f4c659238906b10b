use Rattle.std.proofs.Common.{ℕ, ◌↔◌, ◌≢◌, bit_and, subst, sym, List}
use Rattle.emv_dict.specs.Flags.{StandsIn, tsi_bit}
use Rattle.emv_dict.proofs.FlagBits.{tsi_stands}
use Rattle.emv_dict.proofs.tsi.Tsi.bytes.Goals as goal

pub returns-clause-bits : goal.returns-clause-bits
returns-clause-bits c byte bit within small =
    let P : List ℕ → Type 0 = λ bytes. StandsIn bytes byte bit ↔ (bit_and c.args.self.now.0 (tsi_bit byte bit) ≢ 0) in
    subst P (sym c.to_be_bytes.ensures) (tsi_stands c.args.self.now.0 byte bit within small)
