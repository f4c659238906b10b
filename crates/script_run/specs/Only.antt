-- A reading of commands alone.
use Rattle.std.specs.Prelude.{Bool, false, List, Result, Ok, Err}
use Rattle.std.specs.List.{list_all}
use Rattle.ber_tlv.specs.Item.{ItemData}
use Rattle.ber_tlv.specs.declared.item.TlvFault.{TlvFault}
use Rattle.script_run.specs.Script.{is_command}

-- each object is a command, and no fault stands behind them
abbrev pub only_commands : Result (List ItemData) TlvFault → Bool
only_commands (Ok items) = list_all is_command items
only_commands (Err fault) = false
