use Rattle.std.proofs.Common.{◌++◌, ◌∙◌, List, ℕ, ap, refl}
use Rattle.auth_message.specs.Spelling.{reply_bytes}
use Rattle.iso_message.specs.declared.kind.CallKind.TheVariants as kind
use Rattle.terminal_at_reader.proofs.hearing.plain_reply.Goals as goal

pub returns : goal.returns
returns c found is =
    let carried = c.take_reply.ensures (reply_bytes found.code found.auth found.scripts) (record { kind = kind.Request; found = found; read = is; same = refl }) in
    c.new.ensures ∙ c.in_ok-extend_from_slice.ensures.items ∙ ap (λ (t : List ℕ). t ++ c.as_slice.result.now) c.new-held.ensures.items ∙ c.as_slice.ensures.value ∙ carried
