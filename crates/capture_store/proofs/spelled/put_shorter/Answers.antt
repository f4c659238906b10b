-- The bytes are those of the shorter list.
use Rattle.capture_store.proofs.Entries.{shorter_put, shorter_state, same_list}
use Rattle.capture_store.proofs.spelled.put_shorter.Goals as goal

pub returns-clause-state : goal.returns-clause-state
returns-clause-state c =
    let out =
    shorter_put c.args.state.now c.requires.first.state c.requires.first.some c.count_in.result c.first_size-end.result c.clear.new.self.items c.append.new.out.items
    c.append-2.new.out.items c.count_in.ensures c.first_size-end.ensures c.clear.ensures c.append.ensures.items c.append-2.ensures.items in
    shorter_state c.args.state.now c.append-2.new.out.items c.requires.first.state out

pub returns-clause-list : goal.returns-clause-list
returns-clause-list c =
    let out =
    shorter_put c.args.state.now c.requires.first.state c.requires.first.some c.count_in.result c.first_size-end.result c.clear.new.self.items c.append.new.out.items
    c.append-2.new.out.items c.count_in.ensures c.first_size-end.ensures c.clear.ensures c.append.ensures.items c.append-2.ensures.items in
    same_list c.append-2.new.out.items _ out
