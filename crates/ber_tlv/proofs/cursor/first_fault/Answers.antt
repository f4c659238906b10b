use Rattle.ber_tlv.proofs.Reading.{reads_list, reads_fault}
use Rattle.ber_tlv.proofs.cursor.first_fault.Goals as goal

pub returns-in-Ok-None-clause-list : goal.returns-in-Ok-None-clause-list
returns-in-Ok-None-clause-list c = reads_list c.args.bytes.now

pub returns-in-Ok-None-clause-fault : goal.returns-in-Ok-None-clause-fault
returns-in-Ok-None-clause-fault c = reads_fault c.args.bytes.now

pub returns-in-Err-clause-list : goal.returns-in-Err-clause-list
returns-in-Err-clause-list c = reads_list c.args.bytes.now

pub returns-in-Err-clause-fault : goal.returns-in-Err-clause-fault
returns-in-Err-clause-fault c = reads_fault c.args.bytes.now
