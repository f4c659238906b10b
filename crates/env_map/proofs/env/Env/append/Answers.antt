use Rattle.std.proofs.Common.{◌≡◌, ◌<◌, ◌∙◌, sym, length, arith, None, Ok, ap}
use Rattle.std.specs.List.{AllByRecursion}
use Rattle.env_map.specs.Entries.{value_of, with_object}
use Rattle.env_map.specs.Inside.{entries}
use Rattle.env_map.proofs.EntryLemmas.{length-entries_of, size_of_values-entries_of, value_of-below, put_of-many, put_of-long, put_of-fits, IsRising-with, entries_of-behind, filled-behind, put_of-puts}
use Rattle.env_map.proofs.env.Env.append.Goals as goal

pub returns-then-is_full-clause-exact : goal.returns-then-is_full-clause-exact
returns-then-is_full-clause-exact c =
    let count = length-entries_of c.self.inside.bytes.items c.self.inside.places.items in
    let full : length c.self.inside.places.items ≡ 512 = grind (arith, c.is_full.ensures.value, c.if-is_full.true) in
    let none = value_of-below c.args.tag.0 c.args.self.now c.requires.above in
    rw (← c.self.view_is) (put_of-many c.args.tag c.args.value.now (entries c.self.inside) (rw (← c.self.view_is) at none) (omega arith))

pub returns-then-remaining_capacity-value-clause-exact : goal.returns-then-remaining_capacity-value-clause-exact
returns-then-remaining_capacity-value-clause-exact c =
    let count = length-entries_of c.self.inside.bytes.items c.self.inside.places.items in
    let few : length c.self.inside.places.items < 512 = grind (arith, c.is_full.ensures.value, c.is_full.ensures.fits, c.if-is_full.false) in
    let filled = c.self.invariant.filled in
    let size = size_of_values-entries_of c.self.inside.bytes.items c.self.inside.places.items (omega arith) in
    let none = value_of-below c.args.tag.0 c.args.self.now c.requires.above in
    rw (← c.self.view_is) (put_of-long c.args.tag c.args.value.now (entries c.self.inside) (rw (← c.self.view_is) at none) (omega arith) (omega arith))

-- the tags are below this one, and none is the same
below : (c : goal.After-push) → AllByRecursion (λ entry. entry.0 < c.args.tag.0) (entries c.self.inside)
below c = rw c.self.view_is c.requires.above

is_absent : (c : goal.After-push) → value_of c.args.tag.0 (entries c.self.inside) ≡ None
is_absent c = value_of-below c.args.tag.0 (entries c.self.inside) (below c)

-- the entries as the call leaves them
is_with_entry : (c : goal.After-push) → entries (record { bytes = c.append.new.out; places = c.push.new.self }) ≡ with_object c.args.tag.0 c.args.value.now (entries c.self.inside)
is_with_entry c =
    entries_of-behind c.self.inside.bytes.items c.args.value.now c.append.new.out.items c.self.inside.places.items c.push.new.self.items c.args.tag
    c.self.invariant.filled (below c) c.append.ensures.items c.push.ensures.items

pub invariant_of-self : goal.invariant_of-self
invariant_of-self c = record {
  filled = filled-behind c.self.inside.bytes.items c.args.value.now c.append.new.out.items c.self.inside.places.items c.push.new.self.items c.args.tag
      c.self.invariant.filled c.append.ensures.items c.push.ensures.items;
  short = omega arith;
  rising = rw (is_with_entry c) (IsRising-with c.args.tag.0 c.args.value.now (entries c.self.inside) (is_absent c) c.self.invariant.rising);
}

pub returns-clause-exact : goal.returns-clause-exact
returns-clause-exact c =
    let count = length-entries_of c.self.inside.bytes.items c.self.inside.places.items in
    let few : length c.self.inside.places.items < 512 = grind (arith, c.is_full.ensures.value, c.is_full.ensures.fits, c.if-is_full.false) in
    let filled = c.self.invariant.filled in
    let size = size_of_values-entries_of c.self.inside.bytes.items c.self.inside.places.items (omega arith) in
    rw (← c.self.view_is) (put_of-fits c.args.tag c.args.value.now (entries c.self.inside) (is_absent c) (omega arith) (omega arith) ∙ ap Ok (sym (is_with_entry c)))

pub returns-clause-there : goal.returns-clause-there
returns-clause-there c = (put_of-puts c.args.tag c.args.value.now c.args.self.now _ (returns-clause-exact c)).there

pub returns-clause-others : goal.returns-clause-others
returns-clause-others c = (put_of-puts c.args.tag c.args.value.now c.args.self.now _ (returns-clause-exact c)).others
