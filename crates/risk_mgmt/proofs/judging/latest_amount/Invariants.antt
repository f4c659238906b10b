use Rattle.std.proofs.Common.{◌≡◌, ◌≤◌, length}
use Rattle.std.specs.List.{All}
use Rattle.emv_dict.specs.Settings.{most_amount}
use Rattle.risk_mgmt.specs.Risky.{latest_amount}
use Rattle.risk_mgmt.proofs.judging.latest_amount.Given as goal

abbrev pub invariant-loop-last : goal.invariant-loop-last
invariant-loop-last l = (latest_amount l.pan l.rest ≡ latest_amount l.pan l.log) × All (λ logged. logged.amount ≤ most_amount) l.rest

abbrev pub decreases-loop-last : goal.decreases-loop-last
decreases-loop-last l = length l.rest
