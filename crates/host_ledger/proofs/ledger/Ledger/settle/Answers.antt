use Rattle.std.proofs.Common.{None, Some, refl, sym, ap}
use Rattle.std.specs.Prelude.{option_map}
use Rattle.host_ledger.specs.declared.fault.LedgerFault.TheVariants.{AlreadyBooked}
use Rattle.host_ledger.proofs.Balances.{from_account, from_entry, keeps, answers_memory}
use Rattle.host_ledger.proofs.ledger.Ledger.settle.Goals as goal

pub returns-in_default-clause-refused : goal.returns-in_default-clause-refused
returns-in_default-clause-refused c =
    rw (from_account c.self.inside.accounts c.self.inside.rows c.args.self.now c.args.entry.key.pan None c.self.invariant c.self.view_is c.in_default.ensures) refl

pub returns-in-Some-settled-clause-refused : goal.returns-in-Some-settled-clause-refused
returns-in-Some-settled-clause-refused c =
    let balance = from_account c.self.inside.accounts c.self.inside.rows c.args.self.now c.args.entry.key.pan (Some c.in-Some.account) c.self.invariant c.self.view_is c.in-Some.ensures in
    let kept = from_entry c.self.inside.accounts c.self.inside.rows c.args.self.now c.args.entry.key c.get-2.result c.self.view_is c.get-2.ensures in
    rw (balance, kept) (ap (option_map AlreadyBooked) (sym c.in-Some-settled.ensures))

pub returns-in_err-keep-clause-refused : goal.returns-in_err-keep-clause-refused
returns-in_err-keep-clause-refused c =
    let balance = from_account c.self.inside.accounts c.self.inside.rows c.args.self.now c.args.entry.key.pan (Some c.in-Some.account) c.self.invariant c.self.view_is c.in-Some.ensures in
    let kept = from_entry c.self.inside.accounts c.self.inside.rows c.args.self.now c.args.entry.key c.get-2.result c.self.view_is c.get-2.ensures in
    answers_memory _ _ c.from_residual.ensures.1 (rw (balance, kept) (ap (option_map AlreadyBooked) (sym c.in_default-settled.ensures)))

pub returns-clause-refused : goal.returns-clause-refused
returns-clause-refused c =
    let balance = from_account c.self.inside.accounts c.self.inside.rows c.args.self.now c.args.entry.key.pan (Some c.in-Some.account) c.self.invariant c.self.view_is c.in-Some.ensures in
    let kept = from_entry c.self.inside.accounts c.self.inside.rows c.args.self.now c.args.entry.key c.get-2.result c.self.view_is c.get-2.ensures in
    rw (balance, kept) (ap (option_map AlreadyBooked) (sym c.in_default-settled.ensures))

pub returns-clause-ok : goal.returns-clause-ok
returns-clause-ok c = keeps _ c.self.inside.accounts c.keep.new.accounts c.self.inside.rows c.keep.new.rows c.args.self.now c.self.view_is c.in_ok-keep.ensures.opened c.in_ok-keep.ensures.ok
