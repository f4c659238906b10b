use Rattle.std.proofs.Common.{refl, sym, ap, ◌∙◌}
use Rattle.kernel.proofs.Deciding.{offline_only, asked_online}
use Rattle.kernel.proofs.online.go_online.Goals as goal
use Rattle.kernel.specs.Transactions.{transaction_of}
use Rattle.terminal_state.specs.StepResults.{StateSoFarData}

pub returns-then-is_offline_only-clause-stands : goal.returns-then-is_offline_only-clause-stands
returns-then-is_offline_only-clause-stands c = λ steps_done log ac last rest begins.
    let transaction = transaction_of c.args.transaction.now in
    c.be_unable.ensures.stands steps_done log rest (offline_only c.args.table.now transaction steps_done log rest ac begins (sym c.is_offline_only.ensures ∙ c.if-is_offline_only.true))

pub returns-clause-stands : goal.returns-clause-stands
returns-clause-stands c = λ steps_done log ac last rest begins.
    let transaction = transaction_of c.args.transaction.now in
    let there = ap (λ (m : StateSoFarData). m.last) begins.tied ∙ last in
    asked_online c.args.table.now _ transaction steps_done log rest ac begins (sym c.is_offline_only.ensures ∙ c.if-is_offline_only.false)
    (c.write_online.ensures.exact ac there ∙ rw (c.put_objects.ensures.objects, begins.tied) refl) refl
