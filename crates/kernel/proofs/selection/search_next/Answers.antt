use Rattle.app_select.specs.Leading.{selected_with}
use Rattle.emv_dict.specs.declared.ending.Step.TheVariants as step
use Rattle.kernel.proofs.Opened.{done_on, stopped_on}
use Rattle.kernel.proofs.selection.search_next.Goals as goal
use Rattle.kernel.specs.Dialogue.{selected_then}
use Rattle.terminal_state.specs.Table.{outset_of}

pub returns-in-Ask-clause-stands : goal.returns-in-Ask-clause-stands
returns-in-Ask-clause-stands c = λ log course rest passed leads. c.ask_search.ensures.stands log course rest passed (rw c.in-Ask.is at leads)

pub returns-in-Chosen-clause-stands : goal.returns-in-Chosen-clause-stands
returns-in-Chosen-clause-stands c = λ log course rest passed leads.
    c.initiate.ensures.stands log rest
    (done_on step.Select step.Select course (selected_then (outset_of c.args.table.now)) log rest passed (selected_with c.in-Chosen.choice c.args.table.now.candidates) (rw c.in-Chosen.is at leads))

pub returns-in-Ended-clause-stands : goal.returns-in-Ended-clause-stands
returns-in-Ended-clause-stands c = λ log course rest passed leads. record {
  passed = stopped_on step.Select step.Select course (selected_then (outset_of c.args.table.now)) log rest passed c.in-Ended.cause (rw c.in-Ended.is at leads);
  tied = c.requires.fits.fresh;
  shows = tt;
}
