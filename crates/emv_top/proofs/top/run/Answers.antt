use Rattle.std.proofs.Common.{◌⊎◌, ◌≡◌, ℕ, ap, subst, sym, ◌∙◌}
use Rattle.emv_top.specs.Words.{asks_source}
use Rattle.emv_top.specs.declared.status.Status.TheVariants.{ReadFault}
use Rattle.emv_top.proofs.Answering.{by_code}
use Rattle.emv_top.proofs.Fulfilling.{fulfils_as, serves}
use Rattle.emv_top.proofs.top.run.Goals as goal

pub returns-clause-fulfils : goal.returns-clause-fulfils
returns-clause-fulfils g c = record {
  status = c.answer_subcommand-ended.result.status;
  is = c.code.ensures;
  so = fulfils_as _ _ _ _ _ c.answer_subcommand-ended.result.status _ _ _ _ c.read_subcommand-subcommand.ensures.exact c.into_pages.ensures
      c.answer_subcommand-ended.ensures.fulfils;
}

pub returns-clause-unread : goal.returns-clause-unread
returns-clause-unread g c = λ unasked. c.answer_subcommand-ended.ensures.unread (ap asks_source c.read_subcommand-subcommand.ensures.exact ∙ unasked)

pub returns-clause-unwritten : goal.returns-clause-unwritten
returns-clause-unwritten g c = λ code.
    c.answer_subcommand-ended.ensures.unwritten (by_code c.answer_subcommand-ended.result.status ReadFault (sym c.code.ensures ∙ code))

pub returns-clause-counts : goal.returns-clause-counts
returns-clause-counts g c = record { status = c.answer_subcommand-ended.result.status; is = c.code.ensures; so = c.answer_subcommand-ended.ensures.counts }

pub returns-clause-served : goal.returns-clause-served
returns-clause-served g c = λ subcommand is gave calm still.
    subst (λ (n : ℕ). (n ≡ 0) ⊎ (n ≡ 5)) (sym c.code.ensures)
    (serves _ _ _ _ _ c.answer_subcommand-ended.result.status c.read_subcommand-subcommand.result subcommand _ _ _ _ _
    (c.read_subcommand-subcommand.ensures.exact ∙ is) c.answer_subcommand-ended.ensures.fulfils c.answer_subcommand-ended.ensures.counts gave calm still)
