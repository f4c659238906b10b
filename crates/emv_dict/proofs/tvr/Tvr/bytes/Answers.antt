use Rattle.emv_dict.proofs.FlagBits.{tvr_stands}
use Rattle.emv_dict.proofs.tvr.Tvr.bytes.Goals as goal

pub returns-clause-bits : goal.returns-clause-bits
returns-clause-bits c byte bit within small =
    rw c.to_be_bytes-all.ensures (tvr_stands c.args.self.now.0 byte bit within small)
