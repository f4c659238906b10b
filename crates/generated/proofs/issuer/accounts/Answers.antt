use Rattle.generated.proofs.Numbered.{numbered_push}
use Rattle.generated.specs.Issuer.{generated_account}
use Rattle.generated.proofs.issuer.accounts.Goals as goal

pub loop-card-preserved : goal.loop-card-preserved
loop-card-preserved c =
    numbered_push generated_account c.loop-card.accounts.items c.push.new.self.items c.loop-card.card c.account.result
    c.in_ok-push.ensures.items c.account.ensures c.loop-card.invariant
