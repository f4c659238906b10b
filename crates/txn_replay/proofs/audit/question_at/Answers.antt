use Rattle.std.proofs.Common.{◌/◌, ◌%◌, Some, Option, sym, ap, ◌∙◌}
use Rattle.std.specs.Prelude.{option_map}
use Rattle.std.proofs.lemmas.Option.{slice_get_past}
use Rattle.card_files.specs.Views.{AppData}
use Rattle.txn_replay.specs.Audited.{audit_question}
use Rattle.txn_replay.specs.Steps.{Check}
use Rattle.txn_replay.proofs.AuditLaws.AuditNumbers.{question_at}
use Rattle.txn_replay.proofs.Lists.{found_at, is_within, is_past}
use Rattle.txn_replay.proofs.audit.question_at.Goals as goal

pub returns-in-Some-clause-asked : goal.returns-in-Some-clause-asked
returns-in-Some-clause-asked c = λ i card.
    ap (λ (q : Check). Some q) (c.question_of.ensures i card)
    ∙ sym (question_at i card c.args.apps.now c.args.number
    ∙ ap (λ (o : Option AppData). option_map (λ app. audit_question i card app (c.args.number % 3)) o)
    (found_at c.args.apps.now (c.args.number / 3) c.in-Some.app.now (is_within _ _ c.in-Some.ensures.lookup.0) c.in-Some.ensures.lookup.1))

pub returns-in-None-clause-asked : goal.returns-in-None-clause-asked
returns-in-None-clause-asked c = λ i card.
    sym (question_at i card c.args.apps.now c.args.number
    ∙ ap (λ (o : Option AppData). option_map (λ app. audit_question i card app (c.args.number % 3)) o)
    (slice_get_past c.args.apps.now (c.args.number / 3) (is_past _ _ c.in-None.ensures.lookup.0)))
