use Rattle.std.proofs.Common.{[], ◌∷◌, refl}
use Rattle.std.proofs.lemmas.Result.{on_err_weaker}
use Rattle.torn_store.specs.Writing.{gate, replay_row}
use Rattle.torn_store.proofs.Outcomes.{on_err, on_ok_two}
use Rattle.torn_store.proofs.Turns.{rest_none, rest_row, rest_row_stops, rest_more, rest_stops, rest_all}
use Rattle.torn_store.proofs.commits.replay.Goals as goal

pub returns-in_err-write_home-clause-stops : goal.returns-in_err-write_home-clause-stops
returns-in_err-write_home-clause-stops g c =
    let start = g.P.Pages.memory c.args.pages.now in
    let whole = replay_row c.args.blocks.now in
    on_err c.from_residual.result
    (rest_row_stops start start (g.P.Pages.memory c.write_home.new.pages) whole c.args.blocks.now (gate 0 ∷ []) (rest_none start whole) c.in_err-write_home.ensures.stops)

pub returns-clause-all : goal.returns-clause-all
returns-clause-all g c =
    let start = g.P.Pages.memory c.args.pages.now in
    let mid = g.P.Pages.memory c.write_home.new.pages in
    let whole = replay_row c.args.blocks.now in
    let home = rest_row start start mid whole c.args.blocks.now (gate 0 ∷ []) (rest_none start whole) c.in_ok-write_home.ensures.all in
    on_ok_two c.write.result
    (λ spared written. rest_all start (g.P.Pages.memory c.write.new.self) whole []
    (rest_more start mid (g.P.Pages.memory c.write.new.self) whole (gate 0 ∷ []) [] 0 (gate 0).bytes home refl spared written) refl)
    c.write.ensures.spared c.write.ensures.written

pub returns-clause-stops : goal.returns-clause-stops
returns-clause-stops g c =
    let start = g.P.Pages.memory c.args.pages.now in
    let mid = g.P.Pages.memory c.write_home.new.pages in
    let whole = replay_row c.args.blocks.now in
    let home = rest_row start start mid whole c.args.blocks.now (gate 0 ∷ []) (rest_none start whole) c.in_ok-write_home.ensures.all in
    on_err_weaker c.write.result
    (λ cut. rest_stops start mid (g.P.Pages.memory c.write.new.self) whole (gate 0 ∷ []) [] 0 (gate 0).bytes home refl cut)
    c.write.ensures.cut
