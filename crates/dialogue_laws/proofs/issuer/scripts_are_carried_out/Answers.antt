use Rattle.dialogue_laws.proofs.Carrying.{carried, code_refused, commands_read}
use Rattle.dialogue_laws.proofs.issuer.scripts_are_carried_out.Goals as goal

pub returns : goal.returns
returns c = record {
  carried = carried;
  refused_code = code_refused;
  read = commands_read c.scripts_are_read_back.ensures.named c.scripts_are_read_back.ensures.unnamed;
}
