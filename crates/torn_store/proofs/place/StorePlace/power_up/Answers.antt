use Rattle.std.proofs.Common.{[], ◌∷◌}
use Rattle.std.proofs.lemmas.Result.{on_ok_weaker, on_err_weaker}
use Rattle.torn_store.specs.Layout.{recover}
use Rattle.torn_store.proofs.Outcomes.{among_within}
use Rattle.torn_store.proofs.Stored.{one_of_two, two_twice}
use Rattle.torn_store.proofs.place.StorePlace.power_up.Goals as goal

pub returns-clause-found : goal.returns-clause-found
returns-clause-found g c =
    on_ok_weaker c.power_up_with.result
    (λ found before after between. one_of_two before after c.power_up_with.new.self.state (found (before ∷ after ∷ []) between))
    c.power_up_with.ensures.found

pub returns-clause-lost : goal.returns-clause-lost
returns-clause-lost g c =
    on_err_weaker c.power_up_with.result
    (λ among before after between.
    among_within recover c.power_up_with.new.self.memory.cells (before ∷ after ∷ before ∷ after ∷ []) (before ∷ after ∷ []) (two_twice before after)
    (among (before ∷ after ∷ []) between))
    c.power_up_with.ensures.lost
