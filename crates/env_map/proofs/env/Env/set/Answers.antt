use Rattle.std.proofs.Common.{◌≡◌, ◌≤◌, ◌+◌, ◌∙◌, sym, length, arith, Some, None, Ok, is_some, ap, List, ℕ}
use Rattle.std.specs.List.{refill}
use Rattle.env_map.specs.Entries.{value_of, with_value}
use Rattle.env_map.specs.Inside.{entries}
use Rattle.env_map.specs.Places.{start_at}
use Rattle.env_map.proofs.EntryLemmas.{start_at-value_of, over_within, refilled, bytes_over, entries_of-set, IsRising-value, length-bytes_over, set_of-present, set_of-absent, set_of-puts}
use Rattle.env_map.proofs.env.Env.set.Goals as goal

pub start_of-requires : goal.start_of-requires
start_of-requires c =
    let filled = c.self.invariant.filled in
    let short = c.self.invariant.short in
    rw c.deref.ensures.0 (omega arith)

pub overwrite-requires : goal.overwrite-requires
overwrite-requires c =
    let is_start = sym (sym c.in-Some.is ∙ c.start_of.ensures ∙ ap (start_at c.args.tag.0) c.deref.ensures.0) in
    rw c.deref_mut.ensures.value (over_within c.self.inside.bytes.items c.args.value.now c.self.inside.places.items c.args.tag.0 c.in-Some.start c.self.invariant.filled is_start
    (rw (← c.self.view_is) at c.requires))

-- the tag's place, and what stands there after the write
is_start : (c : goal.After-self-1) → start_at c.args.tag.0 c.self.inside.places.items ≡ Some c.in-Some.start
is_start c = sym (sym c.in-Some.is ∙ c.start_of.ensures ∙ ap (start_at c.args.tag.0) c.deref.ensures.0)

same_length : (c : goal.After-self-1) (old : List ℕ) → value_of c.args.tag.0 (entries c.self.inside) ≡ Some old → length old ≡ length c.args.value.now
same_length c = rw (← c.self.view_is) at c.requires

within : (c : goal.After-self-1) → c.in-Some.start + length c.args.value.now ≤ length c.self.inside.bytes.items
within c = over_within c.self.inside.bytes.items c.args.value.now c.self.inside.places.items c.args.tag.0 c.in-Some.start c.self.invariant.filled (is_start c) (same_length c)

is_over : (c : goal.After-self-1) → refill (length c.self.inside.bytes.items) c.self.inside.bytes.items c.overwrite.new.bytes ≡ bytes_over c.in-Some.start c.args.value.now c.self.inside.bytes.items
is_over c = refilled c.self.inside.bytes.items c.args.value.now c.overwrite.new.bytes c.in-Some.start (within c) (rw c.deref_mut.ensures.value at c.overwrite.ensures)

is_with_value : (c : goal.After-self-1) → entries (record { bytes = record { items = refill (length c.self.inside.bytes.items) c.self.inside.bytes.items c.overwrite.new.bytes }; places = c.self.inside.places })
    ≡ with_value c.args.tag.0 c.args.value.now (entries c.self.inside)
is_with_value c =
    rw (is_over c) (entries_of-set c.self.inside.bytes.items c.args.value.now c.self.inside.places.items c.args.tag.0 c.in-Some.start c.self.invariant.filled (is_start c) (same_length c))

pub invariant_of-self : goal.invariant_of-self
invariant_of-self c =
    let kept = length-bytes_over c.in-Some.start c.args.value.now c.self.inside.bytes.items (within c) in
    let short = c.self.invariant.short in
    record {
      filled = rw (is_over c) (c.self.invariant.filled ∙ sym kept);
      short = rw (is_over c) (omega arith);
      rising = rw (is_with_value c) (IsRising-value c.args.tag.0 c.args.value.now (entries c.self.inside) c.self.invariant.rising);
    }

pub returns-in-Some-clause-exact : goal.returns-in-Some-clause-exact
returns-in-Some-clause-exact c =
    let there = sym (start_at-value_of c.self.inside.bytes.items c.self.inside.places.items c.args.tag.0) ∙ ap is_some (is_start c) in
    rw (← c.self.view_is) (set_of-present c.args.tag c.args.value.now (entries c.self.inside) there ∙ ap Ok (sym (is_with_value c)))

pub returns-in-None-clause-exact : goal.returns-in-None-clause-exact
returns-in-None-clause-exact c =
    let is_none : start_at c.args.tag.0 c.self.inside.places.items ≡ None = sym (sym c.in-None.is ∙ c.start_of.ensures ∙ ap (start_at c.args.tag.0) c.deref.ensures.0) in
    let missing = sym (start_at-value_of c.self.inside.bytes.items c.self.inside.places.items c.args.tag.0) ∙ ap is_some is_none in
    let same = rw c.self.view_is at (set_of-absent c.args.tag c.args.value.now (entries c.self.inside) missing) in
    rw same c.put.ensures.exact

pub returns-in-Some-clause-there : goal.returns-in-Some-clause-there
returns-in-Some-clause-there c = (set_of-puts c.args.tag c.args.value.now c.args.self.now _ (returns-in-Some-clause-exact c)).there

pub returns-in-Some-clause-others : goal.returns-in-Some-clause-others
returns-in-Some-clause-others c = (set_of-puts c.args.tag c.args.value.now c.args.self.now _ (returns-in-Some-clause-exact c)).others
