use Rattle.std.proofs.Common.{sym}
use Rattle.read_records.proofs.Stages.{record_taken, record_refused}
use Rattle.read_records.proofs.reading.RecordsToRead.go_on.Goals as goal

pub returns-in-Ok-clause-leads : goal.returns-in-Ok-clause-leads
returns-in-Ok-clause-leads c whole answers leads =
    c.advance.ensures.leads whole _ (record_taken whole answers c.args.env.now _ _ _ c.args.reply.now (rw (sym c.self.view_is) at leads) c.in-Ok.ensures.exact)

pub returns-in-Err-clause-leads : goal.returns-in-Err-clause-leads
returns-in-Err-clause-leads c whole answers leads =
    record_refused whole answers c.args.env.now _ _ _ c.args.reply.now (rw (sym c.self.view_is) at leads) c.in-Err.ensures.exact
