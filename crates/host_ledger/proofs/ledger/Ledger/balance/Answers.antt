use Rattle.std.proofs.Common.{rules, ◌≡◌, None, Some, sym, ap, ◌∙◌, arith, to_z, of_z}
use Rattle.std.proofs.lemmas.Int.{ints}
use mir.Syntax.{w128}
use mir.Val.{SFits}
use Rattle.host_ledger.proofs.Balances.{from_account}
use Rattle.host_ledger.proofs.ledger.Ledger.balance.Goals as goal

pub returns-in_err-account : goal.returns-in_err-account
returns-in_err-account c = c.from_residual.ensures ∙ sym (from_account c.self.inside.accounts c.self.inside.rows c.args.self.now c.args.pan.now None c.self.invariant c.self.view_is c.in_err-account.ensures)

pub returns : goal.returns
returns c =
    let fits : SFits w128 c.in_ok-account.account.balance = search rules in
    let same : to_z w128 (of_z w128 c.in_ok-account.account.balance) ≡ c.in_ok-account.account.balance = omega (arith, ints) in
    ap Some same ∙ sym (from_account c.self.inside.accounts c.self.inside.rows c.args.self.now c.args.pan.now (Some c.in_ok-account.account) c.self.invariant c.self.view_is c.in_ok-account.ensures)
