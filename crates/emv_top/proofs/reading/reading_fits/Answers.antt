use Rattle.emv_top.proofs.ReadTold.{card_bytes}
use Rattle.txn_replay.specs.Reading.{data_at, ending_at}
use Rattle.emv_top.proofs.reading.reading_fits.Goals as goal

pub returns-in-Some : goal.returns-in-Some
returns-in-Some g c = λ w stands.
    card_bytes c.in-Some.card.now c.env.result.now c.env.ensures.entries c.values_fit.ensures (data_at c.args.world.now.scenario w 0) (c.in-Some.ensures w stands)
    (ending_at w 0)
