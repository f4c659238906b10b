use Rattle.std.proofs.Common.{refl, sym, arith}
use Rattle.explain.proofs.Names.{name_read, name_short, no_name}
use Rattle.explain.proofs.options.read_name.Goals as goal

pub returns-in_err-name : goal.returns-in_err-name
returns-in_err-name c = rw c.from_residual.ensures (sym (no_name c.args.text.now (c.in_err-name.ensures.none refl)))

pub returns-then-len-ge5 : goal.returns-then-len-ge5
returns-then-len-ge5 c = sym (name_read c.args.text.now c.in_ok-name.name.items c.in_ok-name.ensures.some (omega arith) c.in_ok-name.ensures.few)

pub returns-else-len-ge5 : goal.returns-else-len-ge5
returns-else-len-ge5 c = sym (name_short c.args.text.now c.in_ok-name.name.items c.in_ok-name.ensures.some (omega arith))
