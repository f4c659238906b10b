use Rattle.iso_message.proofs.Calls.{read_exact, read_accepted, read_codes}
use Rattle.iso_message.proofs.read.read_iso_call.Goals as goal

pub returns-clause-spelled : goal.returns-clause-spelled
returns-clause-spelled c = read_exact c.args.bytes.now c.read_call.result (rw c.new.ensures at c.read_call.ensures)

pub returns-clause-accepted : goal.returns-clause-accepted
returns-clause-accepted c = read_accepted c.args.bytes.now c.read_call.result (rw c.new.ensures at c.read_call.ensures)

pub returns-clause-codes : goal.returns-clause-codes
returns-clause-codes c = read_codes c.args.bytes.now c.read_call.result (rw c.new.ensures at c.read_call.ensures)
