use Rattle.std.proofs.Common.{List, ℕ, [], codes, Option, subst}
use Rattle.ber_tlv.specs.Direct.{sole_value}
use Rattle.ber_tlv.specs.Left.{items_of}
use Rattle.report_lines.specs.Pieces.{Tells}
use Rattle.message_words.specs.Messages.{named_or}
use Rattle.message_words.proofs.host.tell_settlement.Goals as goal

pub returns-in-Some : goal.returns-in-Some
returns-in-Some c =
    let reversal = named_or (codes "reversal") (sole_value 0xE4 (items_of c.args.message.now)) [] c.args.brief in
    subst (λ (found : Option (List ℕ)). Tells c.args.out.now c.tell_named.new.out (named_or (codes "presentment") found reversal c.args.brief))
    c.in-Some.ensures.exact c.tell_named.ensures
