use Rattle.emv_dict.specs.declared.ending.Step.TheVariants as step
use Rattle.kernel.proofs.Opened.{asks_on, stopped_on}
use Rattle.kernel.proofs.selection.directory_next.Goals as goal
use Rattle.kernel.specs.Dialogue.{selected_then}
use Rattle.pse_directory.proofs.Going.{rest_wants}
use Rattle.pse_directory.specs.Left.{directory_rest}
use Rattle.terminal_state.specs.Table.{outset_of}

pub returns-in-Ask-clause-stands : goal.returns-in-Ask-clause-stands
returns-in-Ask-clause-stands c = λ log course rest passed leads. record {
  passed = asks_on step.Select step.Select course (selected_then (outset_of c.args.table.now)) log rest passed (directory_rest c.in-Ask.listing) (rw c.in-Ask.is at leads);
  tied = c.requires.fits.fresh;
  shows = rest_wants c.in-Ask.listing _ c.ask.ensures.wants;
}

pub returns-in-Found-clause-stands : goal.returns-in-Found-clause-stands
returns-in-Found-clause-stands c = λ log course rest passed leads. c.ask_search.ensures.stands log course rest passed (rw c.in-Found.is at leads)

pub returns-in-List-clause-stands : goal.returns-in-List-clause-stands
returns-in-List-clause-stands c = λ log course rest passed leads. c.ask_search-in-List.ensures.stands log course rest passed (rw c.in-List.is at leads)

pub returns-in-Ended-clause-stands : goal.returns-in-Ended-clause-stands
returns-in-Ended-clause-stands c = λ log course rest passed leads. record {
  passed = stopped_on step.Select step.Select course (selected_then (outset_of c.args.table.now)) log rest passed c.in-Ended.cause (rw c.in-Ended.is at leads);
  tied = c.requires.fits.fresh;
  shows = tt;
}
