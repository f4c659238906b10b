use Rattle.std.proofs.Common.{◌≡◌, ◌++◌}
use Rattle.app_select.specs.SeenCandidate.{seen_all}
use Rattle.app_select.proofs.Ranks.{ranked_from}
use Rattle.app_select.proofs.candidates.push_ranked.Given as goal

abbrev pub invariant-loop-place : goal.invariant-loop-place
invariant-loop-place l =
    seen_all l.list.items ++ ranked_from l.confirm l.rank l.found l.place ≡ seen_all l.initial.list.items ++ ranked_from l.confirm l.rank l.found 0
