use Rattle.std.proofs.Common.{ap, map, ◌++◌}
use Rattle.std.proofs.lemmas.List.Elements.{Contains-append_left, Contains-append_right}
use Rattle.emv_ports.specs.Memory.{Memory}
use Rattle.torn_store.specs.Conversion.{converted}
use Rattle.torn_store.specs.Layout.{recover}
use Rattle.torn_store.proofs.Mending.{repair_stops}
use Rattle.torn_store.proofs.Opening.{up_on, up_among, ready_among, has_both, shown_has, opened_found, opened_on, lost_in_repair, lost_in_conversion, lost_in_release}
use Rattle.torn_store.proofs.Outcomes.{on_err, among_within}
use Rattle.torn_store.proofs.commits.repair_with.Goals as goal

pub find_state-requires-clause-on : goal.find_state-requires-clause-on
find_state-requires-clause-on g c = up_on (g.P.Pages.memory c.args.pages.now) (g.P.Pages.memory c.power_up.new.self) c.power_up.ensures

pub find_state-requires-clause-among : goal.find_state-requires-clause-among
find_state-requires-clause-among g c =
    (c.requires.among.0, up_among (g.P.Pages.memory c.args.pages.now) (g.P.Pages.memory c.power_up.new.self) c.requires.among.0 c.power_up.ensures c.requires.among.1)

pub returns-in_err-found-clause-lost : goal.returns-in_err-found-clause-lost
returns-in_err-found-clause-lost g c =
    let old = g.P.Pages.memory c.args.pages.now in
    let on = g.P.Pages.memory c.power_up.new.self in
    on_err c.from_residual.result (λ states among.
    let new = map (converted (g.C.Convert.means c.args.convert.now)) states in
    among_within recover (g.P.Pages.memory c.find_state.new.pages).cells states (states ++ new) (λ state. Contains-append_left states new state)
    (repair_stops on (g.P.Pages.memory c.find_state.new.pages) states (up_on old on c.power_up.ensures) (up_among old on states c.power_up.ensures among)
    c.in_err-found.ensures.stops))

pub returns-in_err-found-clause-gone : goal.returns-in_err-found-clause-gone
returns-in_err-found-clause-gone g c =
    let old = g.P.Pages.memory c.args.pages.now in
    let on = g.P.Pages.memory c.power_up.new.self in
    on_err c.from_residual.result (lost_in_repair old on (g.P.Pages.memory c.find_state.new.pages) c.power_up.ensures c.in_err-found.ensures.stops)

pub returns-in_err-state-clause-lost : goal.returns-in_err-state-clause-lost
returns-in_err-state-clause-lost g c =
    let old = g.P.Pages.memory c.args.pages.now in
    let on = g.P.Pages.memory c.power_up.new.self in
    let means = g.C.Convert.means c.args.convert.now in
    on_err c.from_residual-in_err-state.result (λ states among.
    let has = shown_has on c.in_ok-found.found.items states (up_on old on c.power_up.ensures) (up_among old on states c.power_up.ensures among)
    c.in_ok-found.ensures.found in
    let both = has_both means c.in_ok-found.found.items states has in
    c.in_err-state.ensures.lost (states ++ map (converted means) states) both.0 both.1)

pub returns-in_err-state-clause-gone : goal.returns-in_err-state-clause-gone
returns-in_err-state-clause-gone g c =
    let old = g.P.Pages.memory c.args.pages.now in
    let on = g.P.Pages.memory c.power_up.new.self in
    on_err c.from_residual-in_err-state.result
    (lost_in_conversion old on (g.P.Pages.memory c.find_state.new.pages) (g.P.Pages.memory c.convert_home.new.pages) c.power_up.ensures c.in_ok-found.ensures.all
    c.in_err-state.ensures.stopped)

pub returns-in_err-release-clause-lost : goal.returns-in_err-release-clause-lost
returns-in_err-release-clause-lost g c =
    let old = g.P.Pages.memory c.args.pages.now in
    let on = g.P.Pages.memory c.power_up.new.self in
    let means = g.C.Convert.means c.args.convert.now in
    on_err c.from_residual-in_err-release.result (λ states among.
    ready_among (g.P.Pages.memory c.convert_home.new.pages) (g.P.Pages.memory c.release.new.self).cells c.in_ok-state.state.items
    (states ++ map (converted means) states) c.in_ok-state.ensures.ready (ap (λ (m : Memory). m.cells) c.in_err-release.ensures.gone)
    (Contains-append_right states (map (converted means) states) c.in_ok-state.state.items
    (opened_found on means c.in_ok-found.found.items c.in_ok-state.state.items states (up_on old on c.power_up.ensures)
    (up_among old on states c.power_up.ensures among) c.in_ok-found.ensures.found c.in_ok-state.ensures.found)))

pub returns-in_err-release-clause-gone : goal.returns-in_err-release-clause-gone
returns-in_err-release-clause-gone g c =
    let old = g.P.Pages.memory c.args.pages.now in
    let on = g.P.Pages.memory c.power_up.new.self in
    on_err c.from_residual-in_err-release.result
    (lost_in_release old on (g.P.Pages.memory c.find_state.new.pages) (g.P.Pages.memory c.convert_home.new.pages) (g.P.Pages.memory c.release.new.self)
    c.power_up.ensures c.in_ok-found.ensures.all c.in_ok-state.ensures.wrote c.in_err-release.ensures.cut c.in_err-release.ensures.gone)

pub returns-clause-found : goal.returns-clause-found
returns-clause-found g c states among =
    let old = g.P.Pages.memory c.args.pages.now in
    let on = g.P.Pages.memory c.power_up.new.self in
    opened_found on (g.C.Convert.means c.args.convert.now) c.in_ok-found.found.items c.in_ok-state.state.items states (up_on old on c.power_up.ensures)
    (up_among old on states c.power_up.ensures among) c.in_ok-found.ensures.found c.in_ok-state.ensures.found

pub returns-clause-turned_on : goal.returns-clause-turned_on
returns-clause-turned_on g c =
    let old = g.P.Pages.memory c.args.pages.now in
    let on = g.P.Pages.memory c.power_up.new.self in
    opened_on old on (g.P.Pages.memory c.find_state.new.pages) (g.P.Pages.memory c.convert_home.new.pages) (g.P.Pages.memory c.release.new.self)
    c.power_up.ensures c.in_ok-found.ensures.all c.in_ok-state.ensures.wrote c.in_ok-release.ensures.spared c.in_ok-release.ensures.same
