use Rattle.std.proofs.Common.{◌≡◌, ◌+◌, [], ◌∷◌, ◌++◌, length, ap, ◌∙◌, rules}
use Rattle.capture_store.specs.Waits.{WaitingData, messages_at}
use Rattle.capture_store.specs.declared.waiting.MessagePlace.{MessagePlace}
use Rattle.capture_store.proofs.Waits.{messages_at-push, places-push}
use Rattle.capture_store.proofs.waiting.Waiting.push.Goals as goal

pub invariant_of-self : goal.invariant_of-self
invariant_of-self c =
    let place : MessagePlace = record { start = c.len-start.result; end = c.len-end.result } in
    let bytes : c.extend_from_slice.new.self.items ≡ c.self.inside.bytes.items ++ c.args.message.now = search rules in
    let places : c.push.new.self.items ≡ c.self.inside.places.items ++ place ∷ [] = search rules in
    let start : c.len-start.result ≡ length c.self.inside.bytes.items = search rules in
    let end : c.len-end.result ≡ length c.self.inside.bytes.items + length c.args.message.now = search rules in
    rw (bytes, places)
    (places-push c.self.inside.bytes.items c.args.message.now c.self.inside.places.items place c.self.invariant start end c.requires.short)

pub returns : goal.returns
returns c =
    let place : MessagePlace = record { start = c.len-start.result; end = c.len-end.result } in
    let bytes : c.extend_from_slice.new.self.items ≡ c.self.inside.bytes.items ++ c.args.message.now = search rules in
    let places : c.push.new.self.items ≡ c.self.inside.places.items ++ place ∷ [] = search rules in
    let start : c.len-start.result ≡ length c.self.inside.bytes.items = search rules in
    let end : c.len-end.result ≡ length c.self.inside.bytes.items + length c.args.message.now = search rules in
    (λ i. messages_at (places i) (bytes i))
    ∙ messages_at-push c.self.inside.bytes.items c.args.message.now c.self.inside.places.items place c.self.invariant start end
    ∙ ap (λ (w : WaitingData). w.messages ++ c.args.message.now ∷ []) c.self.view_is
