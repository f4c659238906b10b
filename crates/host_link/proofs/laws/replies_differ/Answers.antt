use Rattle.std.proofs.Common.{List, ℕ, sym, subst, ◌∙◌}
use Rattle.host_link.specs.Carried.{CarriesReply}
use Rattle.host_link.proofs.Apart.{one_reply}
use Rattle.host_link.proofs.laws.replies_differ.Goals as goal

pub returns : goal.returns
returns c = λ same.
    one_reply c.args.iso c.write_reply.new.out.items c.args.one.now c.args.other.now c.write_reply.ensures.carries
    (subst (λ (bytes : List ℕ). CarriesReply c.args.iso bytes c.args.other.now) (c.write_reply-2.ensures.bytes ∙ sym same ∙ sym c.write_reply.ensures.bytes) c.write_reply-2.ensures.carries)
