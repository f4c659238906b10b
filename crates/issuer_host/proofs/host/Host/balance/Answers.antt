use Rattle.std.proofs.Common.{ap, ◌∙◌}
use Rattle.issuer_host.specs.Balance.{balance_in}
use Rattle.issuer_host.specs.History.{HostData}
use Rattle.issuer_host.proofs.Hosting.{balance_is}
use Rattle.issuer_host.proofs.host.Host.balance.Goals as goal

pub returns-clause-exact : goal.returns-clause-exact
returns-clause-exact c =
    let i = c.self.inside in
    c.balance.ensures ∙ balance_is i.accounts.now i.records i.served.items c.args.pan.now c.self.invariant ∙ ap (λ (h : HostData). balance_in h.accounts h.books c.args.pan.now) c.self.view_is

pub returns-clause-history : goal.returns-clause-history
returns-clause-history c = λ messages stands.
    let i = c.self.inside in
    c.balance.ensures ∙ balance_is i.accounts.now i.records i.served.items c.args.pan.now c.self.invariant ∙ ap (λ (h : HostData). balance_in h.accounts h.books c.args.pan.now) c.self.view_is
    ∙ ap (λ b. balance_in c.args.self.now.accounts b c.args.pan.now) stands.books
