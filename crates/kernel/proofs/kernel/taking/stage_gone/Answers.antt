use Rattle.kernel.proofs.kernel.taking.stage_gone.Goals as goal
use Rattle.kernel.specs.Kernel.{TradingGoes}

pub returns-in-Opening-clause-stands : goal.returns-in-Opening-clause-stands
returns-in-Opening-clause-stands c = λ held before rest goes. c.cut_off.ensures.stands c.args.table.now before rest (rw c.in-Opening.is at goes)

pub returns-in-Trading-clause-stands : goal.returns-in-Trading-clause-stands
returns-in-Trading-clause-stands c = λ held before rest goes.
    let at : TradingGoes c.args.table.now held c.in-Trading.at before rest = rw c.in-Trading.is at goes in
    record {
      card = at.card;
      card_is = at.card_is;
      stands = rw c.on_gone-trading.ensures.step.same (c.on_gone-trading.ensures.stands _ before rest at.stands);
    }
