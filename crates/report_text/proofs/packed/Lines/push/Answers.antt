use Rattle.std.proofs.Common.{◌≡◌, ◌<◌, ◌≤◌, ◌*◌, length, sym, arith, rules}
use Rattle.report_text.proofs.Packing.{length-lines_at, lines_at-push, IsFilled-push, count-few}
use Rattle.report_text.proofs.packed.Lines.push.Goals as goal

pub append-requires : goal.append-requires
append-requires c =
    let count = length-lines_at c.self.inside.places.items c.self.inside.bytes.items in
    let room = rw (← c.self.view_is) at c.requires.room in
    let all = count-few c.self.inside.places.items c.self.invariant.short in
    let filled = c.self.invariant.filled in
    let few = c.requires.few in
    (search rules, omega arith)

pub push-requires : goal.push-requires
push-requires c =
    let count = length-lines_at c.self.inside.places.items c.self.inside.bytes.items in
    let room = rw (← c.self.view_is) at c.requires.room in
    (search rules, omega arith)

pub invariant_of-self : goal.invariant_of-self
invariant_of-self c =
    rw (c.append.ensures.items, c.push.ensures.items)
    (IsFilled-push c.self.inside.bytes.items c.args.bytes.now c.self.inside.places.items (record { head = c.args.head; count = length c.args.bytes.now }) c.self.invariant (search rules) c.requires.few)

pub returns : goal.returns
returns c =
    rw (c.append.ensures.items, c.push.ensures.items, ← c.self.view_is)
    (lines_at-push c.self.inside.bytes.items c.args.bytes.now c.self.inside.places.items (record { head = c.args.head; count = length c.args.bytes.now }) c.self.invariant.filled (search rules))
