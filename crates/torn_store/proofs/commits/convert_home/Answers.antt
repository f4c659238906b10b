use Rattle.std.proofs.Common.{refl, ap, sym, ◌∙◌}
use Rattle.torn_store.proofs.Opening.{convert_all, convert_stops, convert_wrote, convert_stopped}
use Rattle.torn_store.proofs.Outcomes.{on_err}
use Rattle.torn_store.proofs.commits.convert_home.Goals as goal

pub returns-in_err-write_state-clause-lost : goal.returns-in_err-write_state-clause-lost
returns-in_err-write_state-clause-lost g c = on_err c.from_residual.result (λ states has_old has_new.
    convert_stops (g.P.Pages.memory c.args.pages.now) (g.P.Pages.memory c.write_state.new.pages) c.as_slice-2.result.now c.args.state.items
    c.as_slice-3.result.now c.convert.new.out.items (g.C.Convert.means c.args.convert.now) states c.as_slice-2.ensures.value c.as_slice-3.ensures.value
    c.as_slice-3.ensures.fits c.requires.ready
    (ap (g.C.Convert.means c.args.convert.now) (c.as_slice-2.ensures.value ∙ sym c.as_slice.ensures.value) ∙ c.if-not-convert.ensures.changes refl)
    has_old has_new c.in_err-write_state.ensures.stops)

pub returns-in_err-write_state-clause-stopped : goal.returns-in_err-write_state-clause-stopped
returns-in_err-write_state-clause-stopped g c = on_err c.from_residual.result
    (convert_stopped (g.P.Pages.memory c.args.pages.now) (g.P.Pages.memory c.write_state.new.pages) c.as_slice-2.result.now c.as_slice-3.result.now
    c.as_slice-3.ensures.fits c.in_err-write_state.ensures.stops)

pub returns-clause-ready : goal.returns-clause-ready
returns-clause-ready g c =
    convert_all (g.P.Pages.memory c.args.pages.now) (g.P.Pages.memory c.write_state.new.pages) c.as_slice-2.result.now c.args.state.items
    c.as_slice-3.result.now c.convert.new.out.items c.as_slice-2.ensures.value c.as_slice-3.ensures.value c.as_slice-3.ensures.fits c.requires.ready
    c.in_ok-write_state.ensures.all

pub returns-clause-wrote : goal.returns-clause-wrote
returns-clause-wrote g c =
    convert_wrote (g.P.Pages.memory c.args.pages.now) (g.P.Pages.memory c.write_state.new.pages) c.as_slice-2.result.now c.as_slice-3.result.now
    c.as_slice-3.ensures.fits c.in_ok-write_state.ensures.all
