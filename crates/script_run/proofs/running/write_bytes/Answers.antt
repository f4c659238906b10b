use Rattle.std.proofs.Common.{arith, rules}
use Rattle.std.proofs.Math.Facts.{Fits-lt-pow}
use Rattle.script_run.proofs.Bounds.{command_short}
use Rattle.script_run.proofs.running.write_bytes.Goals as goal

pub append-requires : goal.append-requires
append-requires c = let short = command_short c.args.command.now (Fits-lt-pow (c.type_inv.command 4)) c.requires in (omega arith, search (rules, short))
