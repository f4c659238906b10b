use Rattle.std.proofs.Common.{ℕ, List, [], ◌∷◌, subst}
use Rattle.std.proofs.lemmas.Result.{IfErr-weaker}
use Rattle.torn_store.specs.Layout.{recover}
use Rattle.torn_store.specs.Recovery.{Holds}
use Rattle.torn_store.proofs.Outcomes.{has_second}
use Rattle.torn_store.proofs.Stored.{holds_among}
use Rattle.terminal_tests.proofs.tears.settled.Goals as goal

pub returns-clause-lost : goal.returns-clause-lost
returns-clause-lost g c =
    let old = c.args.store.state in
    let new = c.args.new.now in
    IfErr-weaker c.release.result _ _
    (λ lost torn.
    holds_among (g.P.Pages.memory lost.pages).cells new (old ∷ new ∷ [])
    (subst (λ (s : List ℕ). Holds recover (g.P.Pages.memory lost.pages).cells s) c.in_ok-commit.ensures.commits.state torn.lost) (has_second old new))
    c.release.ensures.torn
