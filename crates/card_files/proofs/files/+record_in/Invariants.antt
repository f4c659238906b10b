use Rattle.std.proofs.Common.{length}
use Rattle.card_files.proofs.files.+record_in.Given as goal

abbrev pub decreases-record_in : goal.decreases-record_in
decreases-record_in l = length l.records.now
