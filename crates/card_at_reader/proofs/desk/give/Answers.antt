use Rattle.std.proofs.Common.{sym, ◌∙◌}
use Rattle.std.proofs.lemmas.Result.{on_ok_weaker}
use Rattle.card_at_reader.proofs.Sides.{given_on}
use Rattle.card_at_reader.proofs.desk.give.Goals as goal

pub returns-clause-turn : goal.returns-clause-turn
returns-clause-turn g c =
    on_ok_weaker c.command_on.result
    (λ turns side holds. given_on c.args.desk.now.icc c.command_on.new.desk.icc c.args.desk.now.icc.image c.args.desk.now.notes c.command_on.new.desk.notes
    c.args.desk.now.told.items c.command_on.new.desk.told.items c.args.command.now c.command_on.new.out.items (sym c.is_on.ensures.exact ∙ c.if-not-is_on.false) turns side holds)
    c.command_on.ensures.turn
