use Rattle.std.proofs.Common.{List, ℕ, sym, subst, ◌∙◌}
use Rattle.host_link.specs.Carried.{CarriesCall}
use Rattle.host_link.proofs.Apart.{one_message, no_reply}
use Rattle.host_link.proofs.laws.messages_differ.Goals as goal

pub returns-clause-apart : goal.returns-clause-apart
returns-clause-apart c = λ same.
    one_message c.args.iso c.write_call.new.out.items c.args.one.now c.args.other.now c.write_call.ensures.carries
    (subst (λ (bytes : List ℕ). CarriesCall c.args.iso bytes c.args.other.now) (c.write_call-2.ensures.bytes ∙ sym same ∙ sym c.write_call.ensures.bytes) c.write_call-2.ensures.carries)

pub returns-clause-no_reply : goal.returns-clause-no_reply
returns-clause-no_reply c = λ message reply. no_reply c.args.iso c.args.one.now message reply c.requires.one
