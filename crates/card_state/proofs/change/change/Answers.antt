use Rattle.card_state.proofs.Applied.{changed_at}
use Rattle.card_state.proofs.change.change.Goals as goal

pub returns-clause-app : goal.returns-clause-app
returns-clause-app c = λ s found.
    changed_at c.args.state.now.apps.items c.deref.result.now c.deref_mut.result.now c.args.app c.from-index.result c.args.decision.now s
    c.changed.result c.index-deref-index.result c.from-index.ensures c.deref.ensures.0 c.deref_mut.ensures.value c.index-deref-index.is
    c.changed.ensures.changed found
