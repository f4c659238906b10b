use Rattle.std.proofs.Common.{ap, sym, subst}
use Rattle.emv_ports.specs.Memory.{Memory}
use Rattle.torn_store.specs.Layout.{recover}
use Rattle.torn_store.specs.Recovery.{Between}
use Rattle.torn_store.proofs.Rows.{Cells}
use Rattle.terminal_tests.proofs.tears.opened.Goals as goal

pub open-requires-in-Err-clause-between : goal.open-requires-in-Err-clause-between
open-requires-in-Err-clause-between g c =
    let planned = sym (ap (λ (m : Memory). m.cells) c.plan.ensures) in
    let b = c.requires.between in
    (b.0, b.1, c.in-Err.ensures.lost b.0 b.1 (subst (λ (cells : Cells). Between recover cells b.0 b.1) planned b.2))

pub returns-in-Ok : goal.returns-in-Ok
returns-in-Ok g c before after between =
    let planned = sym (ap (λ (m : Memory). m.cells) c.plan.ensures) in
    c.in-Ok.ensures.found before after (subst (λ (cells : Cells). Between recover cells before after) planned between)

pub returns-in-Ok-open : goal.returns-in-Ok-open
returns-in-Ok-open g c before after between =
    let planned = sym (ap (λ (m : Memory). m.cells) c.plan.ensures) in
    c.in-Ok-open.ensures.found before after
    (c.in-Err.ensures.lost before after (subst (λ (cells : Cells). Between recover cells before after) planned between))
