use Rattle.std.proofs.Common.{[]}
use Rattle.emv_dict.specs.declared.ending.Step.TheVariants as step
use Rattle.kernel.proofs.Opened.{stopped_on}
use Rattle.kernel.proofs.initiation.initiate.Goals as goal
use Rattle.kernel.specs.Dialogue.{initiation, granted, candidates_left}
use Rattle.read_records.specs.Options.{initiating}
use Rattle.terminal_state.specs.StepResults.{state_so_far}
use Rattle.terminal_state.specs.Table.{outset_of}
use Rattle.terminal_state.specs.Terminal.{terminal_objects}

pub returns-in-Err-clause-stands : goal.returns-in-Err-clause-stands
unfolding initiation
returns-in-Err-clause-stands c = λ log rest passed.
    let outset = outset_of c.args.table.now in record {
      passed = stopped_on step.Initiate step.Initiate (initiating c.args.choice.pdol (terminal_objects outset c.args.choice.row (state_so_far []))) (granted outset c.args.choice.row (candidates_left outset c.args.table.now.candidates)) log rest passed c.in-Err.cause
          (rw (c.put_terminal.ensures, c.row.ensures.row, c.requires.fits.fresh, c.pdol.ensures) at c.in-Err.ensures);
      tied = c.requires.fits.fresh;
      shows = tt;
    }
