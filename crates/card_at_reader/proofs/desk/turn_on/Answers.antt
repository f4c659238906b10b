use Rattle.std.proofs.Common.{◌≡◌, [], true, false, Option, subst}
use Rattle.card_app.specs.SeenIcc.{IccOn}
use Rattle.card_app.specs.Pages.{found_of}
use Rattle.emv_ports.specs.Cut.{names_commit}
use Rattle.emv_ports.specs.declared.tear.Tear.{Tear}
use Rattle.card_at_reader.proofs.Sides.{power_told, powered_on, powered_torn}
use Rattle.card_at_reader.proofs.desk.turn_on.Goals as goal

pub returns-in-Ok-clause-turn : goal.returns-in-Ok-clause-turn
returns-in-Ok-clause-turn g c kept pending off =
    let found = c.in-Ok.ensures.found kept pending off in (
      found.0,
      powered_on c.power_up.new.self c.args.desk.now.icc.image found.0 c.args.desk.now.notes c.take_plan.new.self c.clear.new.self.items kept pending c.tell_power.new.out.items
          c.take_plan.ensures c.clear.ensures.items (subst (λ (plan : Option Tear). names_commit plan 0 ≡ false) c.plan.ensures.exact c.in-Ok.ensures.spared)
          (power_told c.args.desk.now.icc.image c.power_up.new.self.image c.image.result.now c.totals.result.now _ c.tell_power.new.out.items c.tell_power.ensures c.image.ensures
          c.power_up.ensures.image (c.totals.ensures.totals _ _ _ _ found.1))
          (subst (λ (plan : Option Tear). IccOn c.power_up.new.self [] (found_of kept pending found.0) plan 0) c.plan.ensures.exact found.1),
    )

pub returns-in-Err-clause-turn : goal.returns-in-Err-clause-turn
returns-in-Err-clause-turn g c kept pending off = (
  true,
  powered_torn c.power_up.new.self c.args.desk.now.icc.image c.args.desk.now.notes c.take_plan.new.self c.note_torn.new.self c.clear.new.self.items kept pending c.tell.new.out.items
      c.take_plan.ensures c.note_torn.ensures c.clear.ensures.items (subst (λ (plan : Option Tear). names_commit plan 0 ≡ true) c.plan.ensures.exact c.in-Err.ensures.cut) c.tell.ensures (c.in-Err.ensures.lost kept pending off),
)
