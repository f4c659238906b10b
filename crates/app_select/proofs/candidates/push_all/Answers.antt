use Rattle.std.proofs.Common.{arith}
use Rattle.app_select.proofs.Ranks.{ranks_room, all_ranked, all_few}
use Rattle.app_select.proofs.candidates.push_all.Goals as goal

pub push_ranked-requires : goal.push_ranked-requires
push_ranked-requires c = ranks_room c.args.confirm c.loop-rank.rank c.loop-rank.list.items c.args.found.now c.loop-rank.invariant (omega arith) c.requires.few

pub returns : goal.returns
returns c =
    let whole = all_ranked c.args.confirm c.loop-rank.rank c.loop-rank.list.items c.args.found.now c.loop-rank.invariant c.loop-rank-test.false in
    record { candidates = whole; few = all_few c.args.confirm c.loop-rank.list.items c.args.found.now whole }
