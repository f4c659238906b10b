use Rattle.std.proofs.Common.{[], ◌∷◌}
use Rattle.std.proofs.lemmas.Result.{IfOk-weaker, IfErr-weaker}
use Rattle.torn_store.proofs.Stored.{one_of_two, two_twice}
use Rattle.torn_store.proofs.Outcomes.{among_within}
use Rattle.torn_store.specs.Layout.{recover}
use Rattle.torn_store.proofs.by_value.Store.open.Goals as goal

pub returns-clause-found : goal.returns-clause-found
returns-clause-found g c =
    IfOk-weaker c.open_with.result _ _
    (λ store found before after between. one_of_two before after store.state (found (before ∷ after ∷ []) between)) c.open_with.ensures.found

pub returns-clause-lost : goal.returns-clause-lost
returns-clause-lost g c =
    IfErr-weaker c.open_with.result _ _
    (λ lost among before after between. among_within recover (g.P.Pages.memory lost.pages).cells (before ∷ after ∷ before ∷ after ∷ []) (before ∷ after ∷ []) (two_twice before after) (among (before ∷ after ∷ []) between))
    c.open_with.ensures.lost
