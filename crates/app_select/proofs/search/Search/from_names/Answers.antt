use Rattle.std.proofs.Common.{◌≡◌, rules}
use Rattle.app_select.specs.Candidates.{candidates as candidates_among}
use Rattle.app_select.specs.Named.{all_named}
use Rattle.app_select.proofs.search.Search.from_names.Goals as goal

pub returns-clause-leads : goal.returns-clause-leads
returns-clause-leads c whole answers leads =
    let same : c.arrange.new.self ≡ candidates_among c.args.confirm (all_named c.args.settings.now.aids c.args.found.now) = search rules in
    c.choose.ensures.leads whole answers (rw same leads)
