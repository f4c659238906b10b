use Rattle.std.proofs.Common.{[], ◌∷◌, ◌++◌, sym}
use Rattle.app_select.specs.Candidates.{candidates as candidates_among}
use Rattle.app_select.specs.Named.{all_named}
use Rattle.pse_directory.proofs.Going.{told_leads}
use Rattle.pse_directory.proofs.Stepping.{wants_more}
use Rattle.pse_directory.specs.Directory.{done}
use Rattle.pse_directory.proofs.listing.Listing.take.Goals as goal

pub returns-in-Ask-clause-exact : goal.returns-in-Ask-clause-exact
returns-in-Ask-clause-exact c = rw (c.in-Ask.ensures.step [], (wants_more c.in-Ask.listing).1) tt

pub returns-in-Found-clause-leads : goal.returns-in-Found-clause-leads
returns-in-Found-clause-leads c whole answers leads =
    let told = told_leads whole answers c.args.self c.args.reply.now (done (candidates_among c.args.self.confirm (all_named c.args.self.rows c.in-Found.found.items))) leads c.in-Found.ensures.step in
    c.select_alone.ensures.leads whole (answers ++ c.args.reply.now ∷ []) (rw (sym c.self.view_is) at told)
