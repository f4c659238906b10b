use Rattle.emv_top.proofs.Answering.{accepted, refused}
use Rattle.emv_top.proofs.top.answer.Goals as goal

pub returns-in-Ok : goal.returns-in-Ok
returns-in-Ok g c = record {
  told = accepted _ _ _ _ _ _ c.in-Ok.scenario c.play.result.status c.in-Ok.ensures.exact c.play.ensures.told;
  count = c.play.ensures.count;
}

pub returns-in-Err : goal.returns-in-Err
returns-in-Err g c = record {
  told = refused c.args.task c.args.bytes.now _ _ _ _ c.in-Err.fault c.refuse.result.status c.in-Err.ensures.exact c.refuse.ensures.refuses.told;
  count = c.refuse.ensures.refuses.count;
}
