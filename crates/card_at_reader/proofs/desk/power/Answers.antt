use Rattle.card_at_reader.proofs.Sides.{power_here}
use Rattle.card_at_reader.proofs.desk.power.Goals as goal

pub returns-clause-turn : goal.returns-clause-turn
returns-clause-turn g c =
    power_here c.args.desk.now.icc c.turn_off.new.desk.icc c.turn_on.new.desk.icc c.args.desk.now.notes c.turn_off.new.desk.notes c.turn_on.new.desk.notes
    c.args.desk.now.told.items c.turn_off.new.desk.told.items c.turn_on.new.desk.told.items c.turn_on.new.out.items
    c.turn_off.ensures.image c.turn_off.ensures.notes c.turn_off.ensures.holds c.turn_on.ensures.turn
