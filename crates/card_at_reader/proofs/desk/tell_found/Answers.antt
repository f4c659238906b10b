use Rattle.std.proofs.Common.{◌∙◌}
use Rattle.card_at_reader.proofs.Sides.{state_found}
use Rattle.card_at_reader.proofs.desk.tell_found.Goals as goal

pub returns-clause-turn : goal.returns-clause-turn
returns-clause-turn g c = λ kept pending since holds.
    let found = c.in-Ok.ensures.found kept pending holds.stands in (
      found.0,
      state_found c.args.desk.now.icc c.power_up.new.self c.power_off.new.self found.0 c.args.desk.now.notes c.args.desk.now.told.items kept pending since c.totals.result.now
          c.tell_state.new.text.items c.in_ok-tell_state-in-Ok.ensures c.power_up.ensures.image (c.power_off.ensures.image ∙ c.power_up.ensures.image) (c.totals.ensures.totals _ _ _ _ found.1)
          (c.power_off.ensures.stands _ _ _ _ found.1) holds.told_is,
    )
