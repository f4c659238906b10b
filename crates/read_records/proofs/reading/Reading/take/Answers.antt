use Rattle.std.proofs.Common.{sym, ap, ◌∙◌}
use Rattle.emv_dict.specs.Progress.{Progress, Done}
use Rattle.object_lists.specs.CardRead.{ReadCard}
use Rattle.read_records.proofs.reading.Reading.take.Goals as goal

pub returns-in-Done : goal.returns-in-Done
returns-in-Done c = record { leads = λ whole answers leads later. c.in-Done.ensures.leads whole answers (rw (sym c.self.view_is) at leads) later ∙ ap (λ (card : ReadCard). let p : Progress ReadCard = Done card later in p) (sym c.new.ensures.card) }
