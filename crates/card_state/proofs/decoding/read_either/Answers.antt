use Rattle.std.proofs.Common.{sym, arith}
use Rattle.card_state.proofs.Decoded.{short_bytes}
use Rattle.card_state.proofs.decoding.read_either.Goals as goal

pub returns-in_default : goal.returns-in_default
returns-in_default c = sym (short_bytes c.args.bytes.now (omega arith))
