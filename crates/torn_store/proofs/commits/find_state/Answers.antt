use Rattle.std.proofs.Common.{drop, ap, ◌∙◌, subst, ℕ, List, Some}
use Rattle.torn_store.specs.Layout.{recover_at}
use Rattle.torn_store.specs.Store.{IsReady}
use Rattle.torn_store.proofs.Opening.{header_found, mends, mends_is, home_found, some_is}
use Rattle.torn_store.proofs.commits.find_state.Goals as goal

pub close_gate-requires-clause-header : goal.close_gate-requires-clause-header
close_gate-requires-clause-header g c =
    header_found (g.P.Pages.memory c.args.pages.now) c.requires.among.0 c.requires.on c.requires.among.1

pub read_home-requires-clause-on : goal.read_home-requires-clause-on
read_home-requires-clause-on g c =
    (mends (g.P.Pages.memory c.args.pages.now) (g.P.Pages.memory c.close_gate.new.pages) c.requires.among.0 c.requires.on c.requires.among.1
    c.in_ok-close_gate.ensures.all).ready.on

pub read_home-requires-clause-state : goal.read_home-requires-clause-state
read_home-requires-clause-state g c =
    let done = mends (g.P.Pages.memory c.args.pages.now) (g.P.Pages.memory c.close_gate.new.pages) c.requires.among.0 c.requires.on c.requires.among.1
    c.in_ok-close_gate.ensures.all in
    some_is (recover_at 0 (drop 1 (g.P.Pages.memory c.close_gate.new.pages).shown)) done.state
    (home_found (g.P.Pages.memory c.close_gate.new.pages) done.state done.ready)

pub returns-clause-found : goal.returns-clause-found
returns-clause-found g c =
    let done = mends (g.P.Pages.memory c.args.pages.now) (g.P.Pages.memory c.close_gate.new.pages) c.requires.among.0 c.requires.on c.requires.among.1
    c.in_ok-close_gate.ensures.all in
    done.found
    ∙ ap (λ (s : List ℕ). Some s)
    (mends_is (g.P.Pages.memory c.args.pages.now) (g.P.Pages.memory c.close_gate.new.pages) c.read_home.result.items done c.read_home.ensures)

pub returns-clause-ready : goal.returns-clause-ready
returns-clause-ready g c =
    let done = mends (g.P.Pages.memory c.args.pages.now) (g.P.Pages.memory c.close_gate.new.pages) c.requires.among.0 c.requires.on c.requires.among.1
    c.in_ok-close_gate.ensures.all in
    subst (λ (s : List ℕ). IsReady (g.P.Pages.memory c.close_gate.new.pages) s)
    (mends_is (g.P.Pages.memory c.args.pages.now) (g.P.Pages.memory c.close_gate.new.pages) c.read_home.result.items done c.read_home.ensures) done.ready
