use Rattle.std.proofs.Common.{List, ℕ, ◌++◌, codes, ap, append_assoc, ◌∙◌}
use Rattle.host_link.specs.FaultWords.{message_fault_words}
use Rattle.host_at_lines.proofs.told.put_fault.Goals as goal

pub returns-clause-text : goal.returns-clause-text
returns-clause-text c =
    c.put_message_fault.ensures.text
    ∙ ap (λ (t : List ℕ). t ++ message_fault_words c.args.fault) c.append.ensures.text
    ∙ append_assoc c.args.out.now.items (codes "unreadable ") (message_fault_words c.args.fault)
