use Rattle.std.proofs.Common.{◌≤◌, length, arith}
use Rattle.env_map.proofs.EntryLemmas.{length-entries_of, size_of_values-entries_of, Follows-returned}
use Rattle.env_map.proofs.env.Env.after.Goals as goal

pub returns-clause-next : goal.returns-clause-next
returns-clause-next c =
    let found = rw (c.deref.ensures.0, c.deref-2.ensures.0) at c.first_above.ensures in
    rw (← c.self.view_is) (Follows-returned (λ entry. (entry.0.0, entry.1.now)) c.first_above.result c.args.tag _ c.self.invariant.rising found)

pub returns-clause-few : goal.returns-clause-few
returns-clause-few c =
    let count = length-entries_of c.self.inside.bytes.items c.self.inside.places.items in
    let few : length c.self.inside.places.items ≤ 512 = rw c.deref-2.ensures.0 at c.deref-2.ensures.1 in
    rw (← c.self.view_is) (omega arith)

pub returns-clause-short : goal.returns-clause-short
returns-clause-short c =
    let filled = c.self.invariant.filled in
    let size = size_of_values-entries_of c.self.inside.bytes.items c.self.inside.places.items (omega arith) in
    let short = c.self.invariant.short in
    rw (← c.self.view_is) (omega arith)
