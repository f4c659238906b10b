use Rattle.card_at_reader.specs.Canned.{begins}
use Rattle.card_at_reader.proofs.top.serve_canned.Goals as goal

pub converse-requires : goal.converse-requires
converse-requires g c = record { begun = begins }
