use Rattle.std.proofs.Common.{sym, ◌∙◌}
use Rattle.app_select.proofs.Ranks.{none_found, none_left, one_left}
use Rattle.app_select.proofs.candidates.leave_allowed.Goals as goal
use Rattle.app_select.proofs.candidates.leave_allowed.Goals.{in-Some, in-None}

pub returns-then-not-stays-clause-candidates : goal.returns-then-not-stays-clause-candidates
returns-then-not-stays-clause-candidates c =
    elim c.match-first.branch [
      | in-Some w ↦
          let first = rw c.deref.ensures.0 at (sym (rw w.in-Some.is at c.first.ensures.value)) in
          let left = one_left c.args.confirm c.args.list.now.items w.in-Some.only.now c.match-first.stays c.requires first (w.stays-is ∙ w.is_allowed-stays.ensures) in
          rw c.clear.ensures (sym (rw c.if-not-stays.true at left))
      | in-None w ↦ cc
    ]

pub returns-else-not-stays-clause-candidates : goal.returns-else-not-stays-clause-candidates
returns-else-not-stays-clause-candidates c =
    elim c.match-first.branch [
      | in-Some w ↦
          let first = rw c.deref.ensures.0 at (sym (rw w.in-Some.is at c.first.ensures.value)) in
          let left = one_left c.args.confirm c.args.list.now.items w.in-Some.only.now c.match-first.stays c.requires first (w.stays-is ∙ w.is_allowed-stays.ensures) in
          sym (rw c.if-not-stays.false at left)
      | in-None w ↦
          let first = rw c.deref.ensures.0 at (sym (rw w.in-None.is at c.first.ensures.value)) in
          rw (none_left c.args.list.now.items first) (sym (none_found c.args.confirm))
    ]
