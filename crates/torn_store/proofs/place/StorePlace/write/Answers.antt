use Rattle.torn_store.proofs.Stored.{placed_ready, commits, commit_torn}
use Rattle.torn_store.proofs.place.StorePlace.write.Goals as goal

pub commit_state-requires-clause-ready : goal.commit_state-requires-clause-ready
commit_state-requires-clause-ready g c =
    placed_ready c.args.self.now (g.P.Pages.memory c.self.inside.pages) c.self.inside.state.items c.self.view_is c.self.invariant.1 c.requires.may.on
    c.as_slice.result.now c.as_slice.ensures.value

pub returns-in-Ok-clause-commits : goal.returns-in-Ok-clause-commits
returns-in-Ok-clause-commits g c =
    rw c.fill.ensures
    (commits c.args.self.now (g.P.Pages.memory c.self.inside.pages) c.self.inside.state.items c.self.view_is c.self.invariant.1 c.requires.may.on
    c.as_slice.result.now c.args.new.now c.as_slice.ensures.value (g.P.Pages.memory c.commit_state.new.pages) c.requires.may.fits
    c.in-Ok.ensures.ready c.in-Ok.ensures.row)

pub returns-in-Err-clause-torn : goal.returns-in-Err-clause-torn
returns-in-Err-clause-torn g c =
    commit_torn c.args.self.now (g.P.Pages.memory c.self.inside.pages) c.self.inside.state.items c.self.view_is c.self.invariant.1 c.requires.may.on
    c.as_slice.result.now c.args.new.now c.as_slice.ensures.value (g.P.Pages.memory c.commit_state.new.pages)
    c.in-Err.ensures.lost c.in-Err.ensures.before c.in-Err.ensures.cut
