use Rattle.std.proofs.Common.{refl, sym, ◌∙◌, [], arith, rules}
use Rattle.std.proofs.Common.{Some, None}
use Rattle.app_select.specs.Selecting.{first_selected}
use Rattle.emv_dict.specs.declared.ending.Step.TheVariants as step
use Rattle.kernel.proofs.Falling.{refused_falls}
use Rattle.kernel.proofs.Left.{left_is_opening}
use Rattle.kernel.proofs.Opened.{done_on, stopped_on}
use Rattle.kernel.proofs.initiation.initiate_next.Goals as goal
use Rattle.kernel.specs.Dialogue.{read, granted, candidates_left}
use Rattle.read_records.specs.DataRead.{reading}
use Rattle.read_records.specs.Options.{Opened}
use Rattle.terminal_state.specs.Table.{outset_of}

pub returns-in-Refused-clause-stands : goal.returns-in-Refused-clause-stands
returns-in-Refused-clause-stands c = λ log course rest passed leads.
    let outset = outset_of c.args.table.now in
    let candidates = c.args.table.now.candidates in
    c.search_next.ensures.stands log (first_selected candidates) rest
    (λ later. done_on step.Initiate step.Initiate course (granted outset c.args.choice.row (candidates_left outset candidates)) log rest passed None (rw c.in-Refused.is at leads) later
    ∙ sym (left_is_opening outset candidates log later))
    (c.refuse-next.ensures.leads (first_selected candidates) [] (λ later. refl))

pub returns-in-Read-clause-stands : goal.returns-in-Read-clause-stands
unfolding read
returns-in-Read-clause-stands c = λ log course rest passed leads.
    let outset = outset_of c.args.table.now in
    let candidates = c.args.table.now.candidates in
    let start : Opened = record { entries = c.args.table.now.objects; left = c.in-Read.course } in
    c.ask_record.ensures.stands log (reading start) rest
    (rw c.row.ensures.row
    (done_on step.Initiate step.Initiate course (granted outset c.args.choice.row (candidates_left outset candidates)) log rest passed (Some start) (rw c.in-Read.is at leads)))
    (λ later. refl)

pub returns-in-Ended-clause-stands : goal.returns-in-Ended-clause-stands
returns-in-Ended-clause-stands c = λ log course rest passed leads.
    let outset = outset_of c.args.table.now in record {
      passed = stopped_on step.Initiate step.Initiate course (granted outset c.args.choice.row (candidates_left outset c.args.table.now.candidates)) log rest passed c.in-Ended.cause (rw c.in-Ended.is at leads);
      tied = c.requires.fits.fresh;
      shows = tt;
    }

pub returns-in-Refused-clause-step : goal.returns-in-Refused-clause-step
returns-in-Refused-clause-step c =
    let old = c.args.table.now.candidates in
    let fall = refused_falls c.refuse-next.result old c.refuse-next.new.candidates (c.refuse-next.ensures.leads (first_selected old) [] (λ later. refl)) c.refuse-next.ensures.nearer in
    let few = c.search_next.ensures.step.nearer in
    record { same = search rules; nearer = omega arith; fits = search rules }
