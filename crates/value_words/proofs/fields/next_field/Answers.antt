use Rattle.std.proofs.Common.{sym}
use Rattle.value_words.proofs.Entries.{fields-next, fields-short, fields-none, fitting-next, fitting-short, fitting-none}
use Rattle.value_words.proofs.fields.next_field.Goals as goal

pub returns-in_err-tag-clause-fields : goal.returns-in_err-tag-clause-fields
returns-in_err-tag-clause-fields c =
    rw c.from_residual.ensures (sym (fields-none c.args.fields.list.now c.args.fields.data.now (sym c.in_err-tag.ensures.exact)))

pub returns-in_err-tag-clause-fitting : goal.returns-in_err-tag-clause-fitting
returns-in_err-tag-clause-fitting c =
    rw c.from_residual.ensures (sym (fitting-none c.args.fields.list.now c.args.fields.data.now (sym c.in_err-tag.ensures.exact)))

pub returns-in_err-value-clause-fields : goal.returns-in_err-value-clause-fields
returns-in_err-value-clause-fields c =
    rw c.from_residual-in_err-value.ensures
    (sym (fields-short c.args.fields.list.now c.args.fields.data.now _ (sym c.in_ok-tag.ensures.exact) c.in_err-value.ensures.cases))

pub returns-in_err-value-clause-fitting : goal.returns-in_err-value-clause-fitting
returns-in_err-value-clause-fitting c =
    rw c.from_residual-in_err-value.ensures
    (sym (fitting-short c.args.fields.list.now c.args.fields.data.now _ (sym c.in_ok-tag.ensures.exact) c.in_err-value.ensures.cases))

pub returns-clause-fields : goal.returns-clause-fields
returns-clause-fields c =
    let parts = c.in_ok-value.ensures.cases in
    let next = fields-next c.args.fields.list.now c.args.fields.data.now _ (sym c.in_ok-tag.ensures.exact) parts.0 in
    cc (next, parts.1, parts.2)

pub returns-clause-fitting : goal.returns-clause-fitting
returns-clause-fitting c =
    let parts = c.in_ok-value.ensures.cases in
    let next = fitting-next c.args.fields.list.now c.args.fields.data.now _ (sym c.in_ok-tag.ensures.exact) parts.0 in
    cc (next, parts.2)
