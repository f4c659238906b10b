use Rattle.iso_message.proofs.Replies.{read_exact, read_auth, read_scripts}
use Rattle.iso_message.proofs.read.read_iso_reply.Goals as goal

pub returns-clause-spelled : goal.returns-clause-spelled
returns-clause-spelled c = read_exact c.args.bytes.now c.read_reply.result (rw c.new.ensures at c.read_reply.ensures)

pub returns-clause-auth : goal.returns-clause-auth
returns-clause-auth c = read_auth c.args.bytes.now c.read_reply.result (rw c.new.ensures at c.read_reply.ensures)

pub returns-clause-scripts : goal.returns-clause-scripts
returns-clause-scripts c = read_scripts c.args.bytes.now c.read_reply.result (rw c.new.ensures at c.read_reply.ensures)
