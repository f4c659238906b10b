use Rattle.std.proofs.Common.{◌≡◌, ◌+◌, drop}
use Rattle.std.specs.List.{position_from}
use Rattle.host_at_lines.specs.Calls.{is_of, call_number}
use Rattle.host_at_lines.proofs.call.number_of.Given as goal

abbrev pub invariant-loop-place : goal.invariant-loop-place
invariant-loop-place l = position_from (λ call. is_of l.kind l.key call) (l.place + 1) (drop l.place l.calls) ≡ call_number l.kind l.key l.calls
