use Rattle.emv_top.proofs.top.play.Goals as goal

pub read_card-requires-clause-untorn : goal.read_card-requires-clause-untorn
read_card-requires-clause-untorn g c = (c.args.scenario, c.take_tear.ensures.taken)
