use Rattle.std.proofs.Common.{refl}
use Rattle.scenario.specs.Cards.{counters_of}
use Rattle.scenario.proofs.app.read_counters.Goals as goal

pub returns-clause-exact : goal.returns-clause-exact
unfolding counters_of
returns-clause-exact c = rw (c.in_ok-counter.ensures, c.in_ok-last_online.ensures, c.in_ok-count_limit.ensures.exact, c.in_ok-sum_limit.ensures.exact) refl
