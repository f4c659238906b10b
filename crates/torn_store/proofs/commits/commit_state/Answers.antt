use Rattle.std.proofs.Common.{subst, refl, ◌∷◌, []}
use Rattle.std.proofs.lemmas.Result.{on_ok_weaker, on_err_weaker}
use Rattle.emv_ports.specs.Memory.{Memory, commit_marked}
use Rattle.torn_store.specs.Layout.{changed_pages}
use Rattle.torn_store.specs.Writing.{WritesAll, StopsIn, commit_row}
use Rattle.torn_store.proofs.Committing.{commit_all, commit_stops, commit_counted, commit_cut, ready_marked}
use Rattle.torn_store.proofs.Outcomes.{has_first, has_second}
use Rattle.torn_store.proofs.Rows.{stops_before}
use Rattle.torn_store.proofs.commits.commit_state.Goals as goal

pub returns-clause-ready : goal.returns-clause-ready
returns-clause-ready g c =
    let old = g.P.Pages.memory c.args.pages.now in
    let new = g.P.Pages.memory c.write_state.new.pages in
    on_ok_weaker c.write_state.result
    (λ all. commit_all (commit_marked old) new c.args.old.now c.args.new.now (ready_marked old c.args.old.now c.requires.ready) c.requires.fits
    (subst (λ (m : Memory). WritesAll m (commit_row (changed_pages c.args.old.now c.args.new.now)) new) c.mark.ensures all))
    c.write_state.ensures.all

pub returns-clause-row : goal.returns-clause-row
returns-clause-row g c =
    let old = g.P.Pages.memory c.args.pages.now in
    let new = g.P.Pages.memory c.write_state.new.pages in
    on_ok_weaker c.write_state.result
    (λ all. commit_counted (commit_marked old) new c.args.old.now c.args.new.now c.requires.ready.on.plan refl c.requires.fits
    (subst (λ (m : Memory). WritesAll m (commit_row (changed_pages c.args.old.now c.args.new.now)) new) c.mark.ensures all))
    c.write_state.ensures.all

pub returns-clause-lost : goal.returns-clause-lost
returns-clause-lost g c =
    let old = g.P.Pages.memory c.args.pages.now in
    let new = g.P.Pages.memory c.write_state.new.pages in
    on_err_weaker c.write_state.result
    (λ stops. commit_stops (commit_marked old) new c.args.old.now c.args.new.now (c.args.old.now ∷ c.args.new.now ∷ [])
    (ready_marked old c.args.old.now c.requires.ready) c.requires.fits
    (has_first c.args.old.now c.args.new.now) (has_second c.args.old.now c.args.new.now)
    (subst (λ (m : Memory). StopsIn m (commit_row (changed_pages c.args.old.now c.args.new.now)) new) c.mark.ensures stops))
    c.write_state.ensures.stops

pub returns-clause-before : goal.returns-clause-before
returns-clause-before g c =
    let old = g.P.Pages.memory c.args.pages.now in
    let new = g.P.Pages.memory c.write_state.new.pages in
    on_err_weaker c.write_state.result
    (λ stops before. stops_before (commit_row (changed_pages c.args.old.now c.args.new.now)) (commit_marked old) new before
    (subst (λ (m : Memory). StopsIn m (commit_row (changed_pages c.args.old.now c.args.new.now)) new) c.mark.ensures stops))
    c.write_state.ensures.stops

pub returns-clause-cut : goal.returns-clause-cut
returns-clause-cut g c =
    let old = g.P.Pages.memory c.args.pages.now in
    let new = g.P.Pages.memory c.write_state.new.pages in
    on_err_weaker c.write_state.result
    (λ stops. commit_cut (commit_marked old) new c.args.old.now c.args.new.now c.requires.ready.on.plan refl c.requires.fits
    (subst (λ (m : Memory). StopsIn m (commit_row (changed_pages c.args.old.now c.args.new.now)) new) c.mark.ensures stops))
    c.write_state.ensures.stops
