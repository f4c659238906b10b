use Rattle.std.proofs.Common.{get_or, ◌%◌, sym, subst, replicate}
use Rattle.std.proofs.lemmas.List.{length-replicate}
use Rattle.std.proofs.lemmas.Result.{on_ok_weaker, on_err_weaker}
use Rattle.torn_store.specs.Store.{IsOn}
use Rattle.torn_store.proofs.Mending.{lowest_read, closes_all, closes_stops}
use Rattle.torn_store.proofs.Rows.{on_written}
use Rattle.torn_store.proofs.commits.close_gate.Goals as goal

pub replay_shown-requires-clause-on : goal.replay_shown-requires-clause-on
replay_shown-requires-clause-on g c =
    let bit = get_or c.read.result 0 0 % 2 in
    subst IsOn (sym c.in_ok-write.ensures.written)
    (on_written (g.P.Pages.memory c.args.pages.now) 0 (replicate 64 bit) c.requires.on (length-replicate 64 bit))

pub returns-clause-all : goal.returns-clause-all
returns-clause-all g c =
    let old = g.P.Pages.memory c.args.pages.now in
    on_ok_weaker c.replay_shown.result
    (λ all. closes_all old (g.P.Pages.memory c.write.new.self) (g.P.Pages.memory c.replay_shown.new.pages) (get_or c.read.result 0 0 % 2)
    (lowest_read old.shown c.read.result c.read.ensures) c.if-bit-eq0.false c.in_ok-write.ensures.spared c.in_ok-write.ensures.written all)
    c.replay_shown.ensures.all

pub returns-clause-stops : goal.returns-clause-stops
returns-clause-stops g c =
    let old = g.P.Pages.memory c.args.pages.now in
    on_err_weaker c.replay_shown.result
    (λ stops. closes_stops old (g.P.Pages.memory c.write.new.self) (g.P.Pages.memory c.replay_shown.new.pages) (get_or c.read.result 0 0 % 2)
    (lowest_read old.shown c.read.result c.read.ensures) c.if-bit-eq0.false c.in_ok-write.ensures.spared c.in_ok-write.ensures.written stops)
    c.replay_shown.ensures.stops
