use Rattle.std.proofs.Common.{◌∙◌}
use Rattle.card_files.proofs.PinLemmas.{told, of_some_pin}
use Rattle.card_files.proofs.rules.is_plain_block.Goals as goal

pub returns-clause-value : goal.returns-clause-value
returns-clause-value c = c.is_some.ensures ∙ told c.args.block c.read_plain.result c.read_plain.ensures.found c.read_plain.ensures.reads

pub returns-clause-pin : goal.returns-clause-pin
returns-clause-pin c = of_some_pin c.args.block c.read_plain.result c.is_some.result c.is_some.ensures c.read_plain.ensures.found c.read_plain.ensures.reads
