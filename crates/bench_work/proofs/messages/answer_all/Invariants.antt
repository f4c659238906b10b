use Rattle.std.proofs.Common.{ℕ, List, ◌++◌, map, take}
use Rattle.issuer_host.specs.History.{HostStands}
use Rattle.bench_work.proofs.messages.answer_all.Given as goal

abbrev pub invariant-loop-message : goal.invariant-loop-message
invariant-loop-message l = (before : List (List ℕ)) → HostStands l.fn.host before → HostStands l.host (before ++ map (λ m. m.items) (take l.message-index l.messages))
