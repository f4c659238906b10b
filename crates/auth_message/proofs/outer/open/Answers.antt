use Rattle.std.proofs.Common.{sym, ap, ◌∙◌, length}
use Rattle.ber_tlv.specs.Left.{fault_of, items_behind}
use Rattle.ber_tlv.specs.Seen.{seen}
use Rattle.auth_message.proofs.Opened.{First, first_is, inside_is, value_fault, fault_after, unknown_tag, second_item, alone_item, front_of}
use Rattle.auth_message.proofs.outer.open.Goals as goal

pub returns-in-Some-clause-value : goal.returns-in-Some-clause-value
returns-in-Some-clause-value c =
    let first : First c.args.bytes.now (seen c.in-Ok-Some.item) c.next.new.self.place = first_is c.new-cursor.result.bytes c.next.new.self.bytes c.args.bytes.now c.new-cursor.result.place (seen c.in-Ok-Some.item) c.next.new.self.place c.new-cursor.ensures.bytes c.new-cursor.ensures.place c.in-Ok-Some.ensures.same_bytes
    (rw c.in-Ok-Some.field-0-is at c.in-Ok-Some.ensures.item) (rw c.in-Ok-Some.field-0-is at c.in-Ok-Some.ensures.left) in
    value_fault c.args.known.now c.args.bytes.now (seen c.in-Ok-Some.item) c.next.new.self.place _ c.in-Some.fault first
    (c.in-Some.ensures ∙ ap fault_of (inside_is c.next.new.self.bytes c.args.bytes.now c.inside.result.bytes c.inside.result.place c.next.new.self.place (length c.in-Ok-Some.item.value.now) (c.in-Ok-Some.ensures.same_bytes ∙ c.new-cursor.ensures.bytes) c.inside.ensures.bytes c.inside.ensures.place)) c.place-in-Some.ensures

pub returns-in-Some-first_fault-clause-value : goal.returns-in-Some-first_fault-clause-value
returns-in-Some-first_fault-clause-value c =
    let first : First c.args.bytes.now (seen c.in-Ok-Some.item) c.next.new.self.place = first_is c.new-cursor.result.bytes c.next.new.self.bytes c.args.bytes.now c.new-cursor.result.place (seen c.in-Ok-Some.item) c.next.new.self.place c.new-cursor.ensures.bytes c.new-cursor.ensures.place c.in-Ok-Some.ensures.same_bytes
    (rw c.in-Ok-Some.field-0-is at c.in-Ok-Some.ensures.item) (rw c.in-Ok-Some.field-0-is at c.in-Ok-Some.ensures.left) in
    fault_after c.args.known.now c.args.bytes.now (seen c.in-Ok-Some.item) c.next.new.self.place _ c.in-Some-first_fault.fault first c.in-Some-first_fault.ensures.result
    (c.in_default.ensures ∙ ap fault_of (inside_is c.next.new.self.bytes c.args.bytes.now c.inside.result.bytes c.inside.result.place c.next.new.self.place (length c.in-Ok-Some.item.value.now) (c.in-Ok-Some.ensures.same_bytes ∙ c.new-cursor.ensures.bytes) c.inside.ensures.bytes c.inside.ensures.place)) c.place-in-Some-first_fault.ensures

pub returns-then-not-is_known-clause-value : goal.returns-then-not-is_known-clause-value
returns-then-not-is_known-clause-value c =
    let first : First c.args.bytes.now (seen c.in-Ok-Some.item) c.next.new.self.place = first_is c.new-cursor.result.bytes c.next.new.self.bytes c.args.bytes.now c.new-cursor.result.place (seen c.in-Ok-Some.item) c.next.new.self.place c.new-cursor.ensures.bytes c.new-cursor.ensures.place c.in-Ok-Some.ensures.same_bytes
    (rw c.in-Ok-Some.field-0-is at c.in-Ok-Some.ensures.item) (rw c.in-Ok-Some.field-0-is at c.in-Ok-Some.ensures.left) in
    unknown_tag c.args.known.now c.args.bytes.now (seen c.in-Ok-Some.item) c.next.new.self.place first c.in_default-first_fault.ensures.result
    (c.in_default.ensures ∙ ap fault_of (inside_is c.next.new.self.bytes c.args.bytes.now c.inside.result.bytes c.inside.result.place c.next.new.self.place (length c.in-Ok-Some.item.value.now) (c.in-Ok-Some.ensures.same_bytes ∙ c.new-cursor.ensures.bytes) c.inside.ensures.bytes c.inside.ensures.place)) (sym c.if-not-is_known.ensures)

pub returns-in-Ok-Some-next-clause-value : goal.returns-in-Ok-Some-next-clause-value
returns-in-Ok-Some-next-clause-value c =
    let first : First c.args.bytes.now (seen c.in-Ok-Some.item) c.next.new.self.place = first_is c.new-cursor.result.bytes c.next.new.self.bytes c.args.bytes.now c.new-cursor.result.place (seen c.in-Ok-Some.item) c.next.new.self.place c.new-cursor.ensures.bytes c.new-cursor.ensures.place c.in-Ok-Some.ensures.same_bytes
    (rw c.in-Ok-Some.field-0-is at c.in-Ok-Some.ensures.item) (rw c.in-Ok-Some.field-0-is at c.in-Ok-Some.ensures.left) in
    second_item c.args.known.now c.args.bytes.now (seen c.in-Ok-Some.item) (seen c.in-Ok-Some-next.other) c.next.new.self.place _ first c.in_default-first_fault.ensures.result
    ((rw c.in-Ok-Some-next.field-0-is at c.in-Ok-Some-next.ensures.left) ∙ ap (λ b. items_behind b c.next.new.self.place) (c.in-Ok-Some.ensures.same_bytes ∙ c.new-cursor.ensures.bytes))
    (c.in_default.ensures ∙ ap fault_of (inside_is c.next.new.self.bytes c.args.bytes.now c.inside.result.bytes c.inside.result.place c.next.new.self.place (length c.in-Ok-Some.item.value.now) (c.in-Ok-Some.ensures.same_bytes ∙ c.new-cursor.ensures.bytes) c.inside.ensures.bytes c.inside.ensures.place)) (sym c.if-not-is_known.ensures)

pub returns-in-Ok-None-next-clause-value : goal.returns-in-Ok-None-next-clause-value
returns-in-Ok-None-next-clause-value c =
    let first : First c.args.bytes.now (seen c.in-Ok-Some.item) c.next.new.self.place = first_is c.new-cursor.result.bytes c.next.new.self.bytes c.args.bytes.now c.new-cursor.result.place (seen c.in-Ok-Some.item) c.next.new.self.place c.new-cursor.ensures.bytes c.new-cursor.ensures.place c.in-Ok-Some.ensures.same_bytes
    (rw c.in-Ok-Some.field-0-is at c.in-Ok-Some.ensures.item) (rw c.in-Ok-Some.field-0-is at c.in-Ok-Some.ensures.left) in
    alone_item c.args.known.now c.args.bytes.now (seen c.in-Ok-Some.item) c.next.new.self.place c.new.result.left first
    ((rw c.in-Ok-None-next.field-0-is at c.in-Ok-None-next.ensures.left) ∙ ap (λ b. items_behind b c.next.new.self.place) (c.in-Ok-Some.ensures.same_bytes ∙ c.new-cursor.ensures.bytes))
    (sym (inside_is c.next.new.self.bytes c.args.bytes.now c.inside-inside.result.bytes c.inside-inside.result.place c.next.new.self.place (length c.in-Ok-Some.item.value.now) (c.in-Ok-Some.ensures.same_bytes ∙ c.new-cursor.ensures.bytes) c.inside-inside.ensures.bytes c.inside-inside.ensures.place) ∙ c.new.ensures.items) (sym c.if-not-is_known.ensures)

pub new-requires-clause-front : goal.new-requires-clause-front
new-requires-clause-front c = front_of c.args.bytes.now c.inside-inside.result.bytes c.next.new.self.bytes c.next.new.self.place c.inside-inside.ensures.bytes (c.in-Ok-Some.ensures.same_bytes ∙ c.new-cursor.ensures.bytes)
