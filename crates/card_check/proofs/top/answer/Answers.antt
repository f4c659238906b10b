use Rattle.std.proofs.Common.{◌∙◌}
use Rattle.card_check.proofs.Endings.{verdicts_told}
use Rattle.card_check.proofs.top.answer.Goals as goal

pub returns-in-Ok-verdicts-clause-judges : goal.returns-in-Ok-verdicts-clause-judges
returns-in-Ok-verdicts-clause-judges g c = λ first left document.
    verdicts_told c.args.bytes.now _ document c.write_last.result c.as_slice.result.now
    (record { scenario = c.in-Ok.scenario; reading = c.in-Ok.ensures.exact; text_is = c.as_slice.ensures.value ∙ c.in-Ok-verdicts.ensures })
    c.write_last.ensures.told
