use Rattle.std.specs.List.{All}
use Rattle.emv_dict.specs.Settings.{IsAidRow}
use Rattle.kernel_dialogues.proofs.outset.Outset.rows.Given as goal

abbrev pub invariant-loop-word : goal.invariant-loop-word
invariant-loop-word l = All IsAidRow l.rows.items
