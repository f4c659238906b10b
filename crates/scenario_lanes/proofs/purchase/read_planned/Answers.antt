use Rattle.std.proofs.Common.{◌≡◌, Err, refl}
use Rattle.std.proofs.lemmas.Result.{err_from_is_err_and}
use Rattle.scenario_fields.proofs.Loops.{Fails-then}
use Rattle.scenario_lanes.specs.Purchases.{planned_of}
use Rattle.scenario_lanes.proofs.purchase.read_planned.Goals as goal

pub returns-in_err-terminal_tear-clause-exact : goal.returns-in_err-terminal_tear-clause-exact
unfolding planned_of
returns-in_err-terminal_tear-clause-exact c =
    let failed = err_from_is_err_and c.from_residual-in_err-terminal_tear.result c.from_residual-in_err-terminal_tear.ensures.1 in
    rw (failed.1, failed.2)
    (Fails-then c.in_err-terminal_tear.field-0.0 _ _
    (λ e is. rw (c.in_ok-card.ensures, c.in_ok-purchase.ensures.exact, c.in_ok-link.ensures, c.in_ok-tear.ensures.exact, is) refl)
    c.in_err-terminal_tear.ensures.exact)

pub returns-in_err-only_planned_keys-clause-exact : goal.returns-in_err-only_planned_keys-clause-exact
unfolding planned_of
returns-in_err-only_planned_keys-clause-exact c =
    let failed = err_from_is_err_and c.from_residual-in_err-only_planned_keys.result c.from_residual-in_err-only_planned_keys.ensures.1 in
    rw (failed.1, failed.2)
    (Fails-then c.in_err-only_planned_keys.field-0.0 _ _
    (λ e is. rw (c.in_ok-card.ensures, c.in_ok-purchase.ensures.exact, c.in_ok-link.ensures, c.in_ok-tear.ensures.exact, c.in_ok-terminal_tear.ensures.exact, is) refl)
    c.in_err-only_planned_keys.ensures)

pub returns-clause-exact : goal.returns-clause-exact
unfolding planned_of
returns-clause-exact c =
    rw (
      c.in_ok-card.ensures,
      c.in_ok-purchase.ensures.exact,
      c.in_ok-link.ensures,
      c.in_ok-tear.ensures.exact,
      c.in_ok-terminal_tear.ensures.exact,
      c.in_ok-only_planned_keys.ensures,
    ) refl
