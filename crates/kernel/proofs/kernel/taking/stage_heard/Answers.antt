use Rattle.kernel.proofs.kernel.taking.stage_heard.Goals as goal

pub trading_heard-requires-clause-fits : goal.trading_heard-requires-clause-fits
trading_heard-requires-clause-fits c = rw c.in-Trading.is at c.requires.fits
