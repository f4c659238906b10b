use Rattle.std.proofs.Common.{rules}
use Rattle.card_state.proofs.Bytes.{are_bytes}
use Rattle.card_state.proofs.encoding.append_pin.Goals as goal

pub returns-clause-bytes : goal.returns-clause-bytes
returns-clause-bytes c = are_bytes c.args.pin 8 (search rules) (search rules)
