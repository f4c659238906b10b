use Rattle.std.proofs.Common.{◌≡◌, refl, sym, ◌∷◌, ap, ◌∙◌, false}
use Rattle.emv_dict.specs.Views.{AcData}
use Rattle.emv_dict.specs.declared.ending.Ending.TheVariants.{Approved, Declined}
use Rattle.emv_dict.specs.declared.ending.Kind.{Kind}
use Rattle.emv_dict.specs.declared.ending.Kind.TheVariants.{Aac, Tc, Arqc}
use Rattle.kernel.proofs.Deciding.{decided, asks_issuer}
use Rattle.kernel.proofs.analysis.decide.Goals as goal
use Rattle.kernel.specs.Dialogue.{first_answered}
use Rattle.kernel.specs.Transactions.{transaction_of}
use Rattle.terminal_state.specs.StepResults.{HasFirst}

pub returns-in-Tc-clause-stands : goal.returns-in-Tc-clause-stands
returns-in-Tc-clause-stands c = λ steps_done log rest begins.
    let kind : c.args.ac.kind ≡ Tc = ap (λ (a : AcData). a.kind) (sym c.ac.view_is) ∙ c.in-Tc.is in
    decided c.args.table.now _ (transaction_of c.args.transaction.now) steps_done log rest c.args.ac Tc (Approved false) begins kind (λ later. refl)
    (c.has_first.ensures.steps_done steps_done begins.tied)

pub returns-in-Aac-clause-stands : goal.returns-in-Aac-clause-stands
returns-in-Aac-clause-stands c = λ steps_done log rest begins.
    let kind : c.args.ac.kind ≡ Aac = ap (λ (a : AcData). a.kind) (sym c.ac.view_is) ∙ c.in-Aac.is in
    decided c.args.table.now _ (transaction_of c.args.transaction.now) steps_done log rest c.args.ac Aac (Declined false) begins kind (λ later. refl)
    (c.has_first.ensures.steps_done steps_done begins.tied)

pub returns-in-Arqc-clause-stands : goal.returns-in-Arqc-clause-stands
returns-in-Arqc-clause-stands c = λ steps_done log rest begins.
    let kind : c.args.ac.kind ≡ Arqc = ap (λ (a : AcData). a.kind) (sym c.ac.view_is) ∙ c.in-Arqc.is in
    let transaction = transaction_of c.args.transaction.now in
    c.go_online.ensures.stands (HasFirst c.args.ac ∷ steps_done) log c.args.ac refl rest
    (asks_issuer c.args.table.now _ transaction steps_done log rest c.args.ac begins
    (λ later. ap (λ (k : Kind). first_answered transaction c.args.ac (HasFirst c.args.ac ∷ steps_done) k log later) kind) (c.has_first.ensures.steps_done steps_done begins.tied))
