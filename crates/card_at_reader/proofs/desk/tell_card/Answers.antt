use Rattle.std.proofs.Common.{true, sym, ◌∙◌}
use Rattle.std.proofs.lemmas.Result.{on_ok_weaker}
use Rattle.card_at_reader.proofs.Sides.{state_off, state_on}
use Rattle.card_at_reader.proofs.desk.tell_card.Goals as goal

pub returns-then-is_on-clause-turn : goal.returns-then-is_on-clause-turn
returns-then-is_on-clause-turn g c =
    on_ok_weaker c.tell_state.result
    (λ told side holds. (
      true,
      state_on c.args.desk.now.icc c.args.desk.now.icc.image c.args.desk.now.notes c.args.desk.now.told.items c.totals.result.now c.tell_state.new.text.items
          (sym c.is_on.ensures.exact ∙ c.if-is_on.true) told c.totals.ensures.totals side holds,
    ))
    c.tell_state.ensures

pub returns-clause-turn : goal.returns-clause-turn
returns-clause-turn g c =
    on_ok_weaker c.tell_found.result
    (λ turns. state_off c.args.desk.now.icc c.tell_found.new.desk.icc c.args.desk.now.icc.image c.args.desk.now.notes c.tell_found.new.desk.notes c.args.desk.now.told.items
    c.tell_found.new.desk.told.items c.tell_found.new.text.items (sym c.is_on.ensures.exact ∙ c.if-is_on.false) turns)
    c.tell_found.ensures.turn
