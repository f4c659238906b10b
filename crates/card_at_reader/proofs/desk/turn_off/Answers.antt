use Rattle.std.proofs.Common.{sym, ◌∙◌}
use Rattle.card_at_reader.proofs.Sides.{kept_off, off_by, off_of, turned_off}
use Rattle.card_at_reader.proofs.desk.turn_off.Goals as goal

pub returns-clause-off : goal.returns-clause-off
returns-clause-off g c =
    off_by c.args.desk.now.icc c.power_off.new.self c.args.desk.now.notes.plan c.requires.stands.0 (sym c.is_on.ensures.exact ∙ c.if-not-is_on.false) c.power_off.ensures.stands
    c.requires.stands.1

pub returns-clause-holds : goal.returns-clause-holds
returns-clause-holds g c side holds =
    turned_off c.args.desk.now.icc c.power_off.new.self c.args.desk.now.notes.plan c.args.desk.now.told.items side (sym c.is_on.ensures.exact ∙ c.if-not-is_on.false)
    c.power_off.ensures.image c.power_off.ensures.stands holds

pub returns-then-not-is_on-clause-off : goal.returns-then-not-is_on-clause-off
returns-then-not-is_on-clause-off g c =
    off_of c.args.desk.now.icc c.args.desk.now.notes.plan c.requires.stands.0 c.requires.stands.1 (sym c.is_on.ensures.exact ∙ c.if-not-is_on.true)

pub returns-then-not-is_on-clause-holds : goal.returns-then-not-is_on-clause-holds
returns-then-not-is_on-clause-holds g c side holds =
    kept_off c.args.desk.now.icc c.args.desk.now.notes.plan c.args.desk.now.told.items side (sym c.is_on.ensures.exact ∙ c.if-not-is_on.true) holds
