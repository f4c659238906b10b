use Rattle.std.proofs.Common.{rules}
use Rattle.std.proofs.lemmas.Result.{on_ok_weaker, on_err_weaker}
use Rattle.emv_top.proofs.Objects.{card_end, card_end_front, card_front}
use Rattle.emv_top.proofs.reading.write_card.Goals as goal

pub returns-in-Ok : goal.returns-in-Ok
returns-in-Ok g c = record {
  all = on_ok_weaker c.emit.result (λ last. card_end c.args.card.now.entries c.env.result.now c.env.ensures.entries _ _ _ c.in-Ok.ensures.all last) c.emit.ensures.all;
  front = on_err_weaker c.emit.result
      (λ stopped. card_end_front c.args.card.now.entries c.env.result.now c.env.ensures.entries _ _ _ c.in-Ok.ensures.all stopped) c.emit.ensures.front;
  stop = search rules;
}

pub returns-in-Err : goal.returns-in-Err
returns-in-Err g c = record {
  all = search rules;
  front = card_front c.args.card.now.entries c.env.result.now c.env.ensures.entries _ (g.K.Sink.held c.write_objects.new.sink) _ c.in-Err.ensures.front;
  stop = search rules;
}
