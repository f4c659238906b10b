use Rattle.std.proofs.Common.{rules, ◌≡◌, None, Some, true, false, refl, sym, ap, arith, pos, to_z, of_z}
use Rattle.std.specs.Prelude.{int_lt}
use mir.Syntax.{w128}
use mir.Val.{SFits}
use Rattle.std.proofs.lemmas.Int.{ints}
use Rattle.host_ledger.specs.declared.fault.LedgerFault.TheVariants.{NoFunds}
use Rattle.host_ledger.proofs.Balances.{from_account, from_entry, keeps, answers_memory}
use Rattle.host_ledger.proofs.ledger.Ledger.hold.Goals as goal

pub returns-in_default-clause-refused : goal.returns-in_default-clause-refused
returns-in_default-clause-refused c =
    let balance = from_account c.self.inside.accounts c.self.inside.rows c.args.self.now c.args.key.now.pan None c.self.invariant c.self.view_is c.in_default.ensures in
    rw balance refl

pub returns-in-Some-get-clause-refused : goal.returns-in-Some-get-clause-refused
returns-in-Some-get-clause-refused c =
    let balance = from_account c.self.inside.accounts c.self.inside.rows c.args.self.now c.args.key.now.pan (Some c.in-Some.account) c.self.invariant c.self.view_is c.in-Some.ensures in
    let kept = from_entry c.self.inside.accounts c.self.inside.rows c.args.self.now c.args.key.now (Some c.in-Some-get.entry) c.self.view_is c.in-Some-get.ensures in
    rw (balance, kept) refl

pub returns-then-account-from-clause-refused : goal.returns-then-account-from-clause-refused
returns-then-account-from-clause-refused c =
    let balance = from_account c.self.inside.accounts c.self.inside.rows c.args.self.now c.args.key.now.pan (Some c.in-Some.account) c.self.invariant c.self.view_is c.in-Some.ensures in
    let kept = from_entry c.self.inside.accounts c.self.inside.rows c.args.self.now c.args.key.now None c.self.view_is c.in_default-get.ensures in
    let fits : SFits w128 c.in-Some.account.balance = search rules in
    let same : to_z w128 (of_z w128 c.in-Some.account.balance) ≡ c.in-Some.account.balance = omega (arith, ints) in
    let test : int_lt c.in-Some.account.balance (pos c.args.amount) ≡ true = grind (arith, ints, c.if-account-from.true, c.from.ensures) in
    rw (balance, kept, test) (ap (λ b. Some (NoFunds b)) (sym same))

pub returns-in_err-keep-clause-refused : goal.returns-in_err-keep-clause-refused
returns-in_err-keep-clause-refused c =
    let balance = from_account c.self.inside.accounts c.self.inside.rows c.args.self.now c.args.key.now.pan (Some c.in-Some.account) c.self.invariant c.self.view_is c.in-Some.ensures in
    let kept = from_entry c.self.inside.accounts c.self.inside.rows c.args.self.now c.args.key.now None c.self.view_is c.in_default-get.ensures in
    let fits : SFits w128 c.in-Some.account.balance = search rules in
    let test : int_lt c.in-Some.account.balance (pos c.args.amount) ≡ false = grind (arith, ints, c.if-account-from.false, c.from.ensures) in
    answers_memory _ _ c.from_residual.ensures.1 (rw (balance, kept, test) refl)

pub returns-clause-refused : goal.returns-clause-refused
returns-clause-refused c =
    let balance = from_account c.self.inside.accounts c.self.inside.rows c.args.self.now c.args.key.now.pan (Some c.in-Some.account) c.self.invariant c.self.view_is c.in-Some.ensures in
    let kept = from_entry c.self.inside.accounts c.self.inside.rows c.args.self.now c.args.key.now None c.self.view_is c.in_default-get.ensures in
    let fits : SFits w128 c.in-Some.account.balance = search rules in
    let test : int_lt c.in-Some.account.balance (pos c.args.amount) ≡ false = grind (arith, ints, c.if-account-from.false, c.from.ensures) in
    rw (balance, kept, test) refl

pub returns-clause-ok : goal.returns-clause-ok
returns-clause-ok c =
    rw (← c.copy.ensures)
    (keeps _ c.self.inside.accounts c.keep.new.accounts c.self.inside.rows c.keep.new.rows c.args.self.now c.self.view_is c.in_ok-keep.ensures.opened c.in_ok-keep.ensures.ok)
