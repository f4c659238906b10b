use Rattle.std.proofs.Common.{◌≡◌, ◌≤◌, ◌*◌, ℕ, List, [], ◌++◌, length, replicate}
use Rattle.issuer_host.specs.History.{HostStands}
use Rattle.txn_replay.specs.Standing.{KeepsIssuer, seen_payment}
use Rattle.txn_replay.specs.Storing.{copy_lines}
use Rattle.txn_replay.proofs.storing.send_copies.Given as goal

abbrev pub invariant-loop-copy : goal.invariant-loop-copy
invariant-loop-copy l = record {
  lines : (messages : List (List ℕ)) → HostStands l.fn.host messages
      → l.lines.items ≡ copy_lines (seen_payment l.fn.host.keys l.fn.host.accounts l.fn.at) l.message messages l._copy;
  count : length l.lines.items ≤ 2 * l._copy;
  within : l._copy ≤ l._copy-end;
  end : l._copy-end ≡ l.at.copies;
  few : l._copy-end ≤ 3;
  stands : (messages : List (List ℕ)) → HostStands l.fn.host messages → HostStands l.host (messages ++ replicate l._copy l.message);
  issuer : KeepsIssuer l.fn.host l.host;
  first : l._copy ≡ 0 → (l.host ≡ l.fn.host) × (l.lines.items ≡ []);
}
