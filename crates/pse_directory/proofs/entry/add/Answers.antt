use Rattle.std.proofs.Common.{sym, ◌∙◌}
use Rattle.pse_directory.specs.Entries.{EntryData}
use Rattle.pse_directory.proofs.Rows.{not_listed, left_out, taken}
use Rattle.pse_directory.proofs.entry.add.Goals as goal

pub returns-in_default-clause-added : goal.returns-in_default-clause-added
returns-in_default-clause-added c =
    let entry : EntryData = record { name = c.args.name; priority = c.args.priority } in
    sym (not_listed c.args.rows.now entry c.args.found.now.items (sym c.in_default.is ∙ c.row_of.ensures))

pub returns-then-is_left_out-clause-added : goal.returns-then-is_left_out-clause-added
returns-then-is_left_out-clause-added c =
    let entry : EntryData = record { name = c.args.name; priority = c.args.priority } in
    let out = rw c.as_slice.ensures.value at (sym c.is_left_out.ensures.exact ∙ c.if-is_left_out.true) in
    sym (left_out c.args.rows.now entry c.args.found.now.items c.in-Some.aid (sym c.in-Some.is ∙ c.row_of.ensures) out)

pub returns-clause-added : goal.returns-clause-added
returns-clause-added c =
    let entry : EntryData = record { name = c.args.name; priority = c.args.priority } in
    let out = rw c.as_slice.ensures.value at (sym c.is_left_out.ensures.exact ∙ c.if-is_left_out.false) in
    taken c.args.rows.now entry c.args.found.now.items c.in-Some.aid c.push.new.self.items (sym c.in-Some.is ∙ c.row_of.ensures) out c.push.ensures.items
