use Rattle.app_select.specs.Candidates.{candidates as candidates_among}
use Rattle.app_select.specs.Named.{all_named}
use Rattle.app_select.specs.Selecting.{selecting}
use Rattle.pse_directory.proofs.Going.{found_leads}
use Rattle.pse_directory.proofs.listing.steps.select.Goals as goal

pub returns-in-Ask-clause-leads : goal.returns-in-Ask-clause-leads
returns-in-Ask-clause-leads c whole answers leads =
    let rows = c.args.settings.now.aids in
    found_leads whole (selecting rows c.args.confirm) answers (candidates_among c.args.confirm (all_named rows c.args.found.now.items)) c.in-Ask.search c.from_names.new.candidates
    (rw c.as_slice.ensures.value at c.in-Ask.ensures.begins) leads
