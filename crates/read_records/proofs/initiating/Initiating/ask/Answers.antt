use Rattle.std.proofs.Common.{List, ℕ, sym, ap, ◌∙◌}
use Rattle.read_records.proofs.Stages.{options_wanted}
use Rattle.read_records.specs.Options.{options_command}
use Rattle.read_records.proofs.initiating.Initiating.ask.Goals as goal

pub returns : goal.returns
returns c = record { wants = λ whole answers leads. options_wanted whole answers c.self.inside.data.items _ (c.write_options.ensures ∙ ap (λ (given : List ℕ). options_command given) c.deref.ensures.0) (rw (sym c.self.view_is) at leads) }
