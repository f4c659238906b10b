use Rattle.std.proofs.Common.{◌≡◌, ◌<◌, ◌∙◌, sym, length, arith, None, Ok, ap}
use Rattle.env_map.specs.Entries.{value_of, with_object}
use Rattle.env_map.specs.Inside.{entries}
use Rattle.env_map.proofs.EntryLemmas.{length-entries_of, size_of_values-entries_of, absent, put_of-many, put_of-long, put_of-fits, IsRising-with, entries_of-put, filled-put, length-bytes_with, put_of-puts}
use Rattle.env_map.proofs.env.Env.insert.Goals as goal

pub returns-then-is_full-clause-exact : goal.returns-then-is_full-clause-exact
returns-then-is_full-clause-exact c =
    let none : value_of c.args.tag.0 (entries c.self.inside) ≡ None =
    absent (λ value. value.now) c.found.result _ (rw (c.deref.ensures.0, c.deref-2.ensures.0) at c.found.ensures) (sym c.is_some.ensures ∙ c.if-is_some.false) in
    let count = length-entries_of c.self.inside.bytes.items c.self.inside.places.items in
    let full : length c.self.inside.places.items ≡ 512 = grind (arith, c.is_full.ensures.value, c.if-is_full.true) in
    rw (← c.self.view_is) (put_of-many c.args.tag c.args.value.now (entries c.self.inside) none (omega arith))

pub returns-then-remaining_capacity-value-clause-exact : goal.returns-then-remaining_capacity-value-clause-exact
returns-then-remaining_capacity-value-clause-exact c =
    let none : value_of c.args.tag.0 (entries c.self.inside) ≡ None =
    absent (λ value. value.now) c.found.result _ (rw (c.deref.ensures.0, c.deref-2.ensures.0) at c.found.ensures) (sym c.is_some.ensures ∙ c.if-is_some.false) in
    let count = length-entries_of c.self.inside.bytes.items c.self.inside.places.items in
    let few : length c.self.inside.places.items < 512 = grind (arith, c.is_full.ensures.value, c.is_full.ensures.fits, c.if-is_full.false) in
    let filled = c.self.invariant.filled in
    let size = size_of_values-entries_of c.self.inside.bytes.items c.self.inside.places.items (omega arith) in
    rw (← c.self.view_is) (put_of-long c.args.tag c.args.value.now (entries c.self.inside) none (omega arith) (omega arith))

-- the entries as the call leaves them
is_with_entry : (c : goal.After-insert) → entries (record { bytes = c.insert_bytes.new.bytes; places = c.insert.new.self }) ≡ with_object c.args.tag.0 c.args.value.now (entries c.self.inside)
is_with_entry c =
    let filled = c.self.invariant.filled in
    let is_index = rw c.deref-3.ensures.0 at c.slot_for-slot.ensures.index in
    let is_start = rw c.deref-3.ensures.0 at c.slot_for-slot.ensures.start in
    entries_of-put c.self.inside.bytes.items c.args.value.now c.insert_bytes.new.bytes.items c.self.inside.places.items c.insert.new.self.items c.args.tag _ _
    (omega arith) is_index is_start c.insert_bytes.ensures c.insert.ensures.items

is_absent : (c : goal.After-insert) → value_of c.args.tag.0 (entries c.self.inside) ≡ None
is_absent c = absent (λ value. value.now) c.found.result _ (rw (c.deref.ensures.0, c.deref-2.ensures.0) at c.found.ensures) (sym c.is_some.ensures ∙ c.if-is_some.false)

pub invariant_of-self : goal.invariant_of-self
invariant_of-self c = record {
  filled = filled-put c.self.inside.bytes.items c.args.value.now c.insert_bytes.new.bytes.items c.self.inside.places.items c.insert.new.self.items c.args.tag _ _
      c.self.invariant.filled c.insert_bytes.ensures c.insert.ensures.items;
  short = rw (c.insert_bytes.ensures, length-bytes_with c.slot_for-slot.result.start c.self.inside.bytes.items c.args.value.now) (omega arith);
  rising = rw (is_with_entry c) (IsRising-with c.args.tag.0 c.args.value.now (entries c.self.inside) (is_absent c) c.self.invariant.rising);
}

pub returns-clause-exact : goal.returns-clause-exact
returns-clause-exact c =
    let count = length-entries_of c.self.inside.bytes.items c.self.inside.places.items in
    let few : length c.self.inside.places.items < 512 = grind (arith, c.is_full.ensures.value, c.is_full.ensures.fits, c.if-is_full.false) in
    let filled = c.self.invariant.filled in
    let size = size_of_values-entries_of c.self.inside.bytes.items c.self.inside.places.items (omega arith) in
    rw (← c.self.view_is) (put_of-fits c.args.tag c.args.value.now (entries c.self.inside) (is_absent c) (omega arith) (omega arith) ∙ ap Ok (sym (is_with_entry c)))

pub returns-clause-there : goal.returns-clause-there
returns-clause-there c = (put_of-puts c.args.tag c.args.value.now c.args.self.now _ (returns-clause-exact c)).there

pub returns-clause-others : goal.returns-clause-others
returns-clause-others c = (put_of-puts c.args.tag c.args.value.now c.args.self.now _ (returns-clause-exact c)).others
