use Rattle.std.proofs.Common.{◌≡◌, ◌++◌, ◌-◌}
use Rattle.app_select.specs.Candidates.{by_rank, in_priority_order, confirmable}
use Rattle.app_select.specs.SeenCandidate.{seen_all}
use Rattle.app_select.proofs.candidates.push_all.Given as goal

abbrev pub invariant-loop-rank : goal.invariant-loop-rank
invariant-loop-rank l =
    let among = confirmable l.confirm (seen_all l.found) in seen_all l.list.items ++ by_rank l.rank (17 - l.rank) among ≡ in_priority_order among
