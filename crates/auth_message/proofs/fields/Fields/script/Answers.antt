use Rattle.std.proofs.Common.{Ok, sym, ap, ◌∙◌, subst, ◌≤◌, length}
use Rattle.ber_tlv.specs.Left.{items_behind}
use Rattle.ber_tlv.specs.Seen.{seen, then_rest}
use Rattle.auth_message.specs.Left.{FieldsData, items_or_none}
use Rattle.auth_message.specs.Script.{next_script}
use Rattle.auth_message.proofs.Scripts.{script_value, ends_within}
use Rattle.auth_message.proofs.fields.Fields.script.Goals as goal

pub returns-in-Some-clause-value : goal.returns-in-Some-clause-value
returns-in-Some-clause-value c =
    let i = c.self.inside in
    let kept = rw c.in-Some.is at c.self.invariant in
    script_value i.message.now i.cursor.bytes (seen c.in-Some.item) i.cursor.place c.place-end.result (items_behind i.cursor.bytes i.cursor.place)
    kept.0 kept.1 kept.2 c.place-end.ensures (sym c.is_template.ensures ∙ c.if-is_template.true)
    ∙ ap (λ a. next_script i.message.now (items_or_none (then_rest (Ok a) (items_behind i.cursor.bytes i.cursor.place)))) (sym c.in-Some.is)
    ∙ ap (λ (v : FieldsData). next_script v.bytes v.left) c.self.view_is

pub returns-in-Some-clause-within : goal.returns-in-Some-clause-within
returns-in-Some-clause-within c =
    let i = c.self.inside in
    let kept = rw c.in-Some.is at c.self.invariant in
    let within = ends_within i.message.now i.cursor.bytes (seen c.in-Some.item) i.cursor.place kept.1 kept.2 in
    rw c.place-end.ensures (subst (λ (v : FieldsData). i.cursor.place ≤ length v.bytes) c.self.view_is within)
