use Rattle.read_records.proofs.Bounds.{found_within}
use Rattle.read_records.proofs.options.read_format_two.Goals as goal

pub of_objects-requires : goal.of_objects-requires
of_objects-requires c = found_within c.args.template.now 0x94 _ c.requires c.in-Ok-first_value.ensures
