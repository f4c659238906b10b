use Rattle.std.proofs.Common.{replicate}
use Rattle.std.specs.Str.{bytes_eq}
use Rattle.std.proofs.lemmas.Bool.{or_right}
use Rattle.card_files.proofs.PinLemmas.{block_passes}
use Rattle.card_files.specs.AppRules.{is_plain_block}
use Rattle.card_files.proofs.rules.reference_pin.Goals as goal

pub returns-in-Some-clause-rule : goal.returns-in-Some-clause-rule
returns-in-Some-clause-rule c =
    or_right (bytes_eq c.plain_block.result (replicate 8 0)) (is_plain_block c.plain_block.result)
    (block_passes c.in-Some.pin c.plain_block.result c.plain_block.ensures.pin c.plain_block.ensures.value)
