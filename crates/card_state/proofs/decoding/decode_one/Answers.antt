use Rattle.std.proofs.Common.{sym, arith}
use Rattle.card_state.proofs.Decoded.{short_bytes_one}
use Rattle.card_state.proofs.decoding.decode_one.Goals as goal

pub returns-in_default : goal.returns-in_default
returns-in_default c = record { exact = sym (short_bytes_one c.args.bytes.now (omega arith)) }
