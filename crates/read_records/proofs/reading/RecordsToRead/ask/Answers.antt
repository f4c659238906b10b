use Rattle.std.proofs.Common.{sym}
use Rattle.read_records.proofs.Stages.{record_wanted}
use Rattle.read_records.proofs.reading.RecordsToRead.ask.Goals as goal

pub returns : goal.returns
returns c = record { wants = λ entries whole answers leads. record_wanted whole answers entries _ _ _ c.ask_record.ensures (rw (sym c.self.view_is) at leads) }
