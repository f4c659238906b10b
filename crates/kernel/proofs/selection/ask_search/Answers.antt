use Rattle.std.proofs.Common.{refl, []}
use Rattle.app_select.specs.Leading.{rest_with}
use Rattle.emv_dict.specs.declared.ending.Step.TheVariants as step
use Rattle.kernel.proofs.Opened.{asks_on}
use Rattle.kernel.proofs.selection.ask_search.Goals as goal
use Rattle.kernel.specs.Dialogue.{selected_then}
use Rattle.terminal_state.specs.Table.{outset_of}

pub returns-clause-stands : goal.returns-clause-stands
returns-clause-stands c = λ log course rest passed equal.
    let candidates = c.args.table.now.candidates in record {
      passed = asks_on step.Select step.Select course (selected_then (outset_of c.args.table.now)) log rest passed (rest_with c.args.search candidates) equal;
      tied = c.requires.fits.fresh;
      shows = c.ask.ensures.wants candidates (rest_with c.args.search candidates) [] (λ later. refl);
    }
