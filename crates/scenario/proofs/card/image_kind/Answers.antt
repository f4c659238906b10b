use Rattle.std.proofs.Common.{List, subst}
use Rattle.card_files.specs.ImageRules.{AreInSight}
use Rattle.card_files.specs.Views.{AppData}
use Rattle.toml.specs.View.{table_view}
use Rattle.scenario.proofs.Behind.{image_read}
use Rattle.scenario.proofs.card.image_kind.Goals as goal

pub unreachable-requires : goal.unreachable-requires
unreachable-requires c =
    let sight = subst (λ (apps : List AppData). AreInSight c.in_ok-directory.directory apps) c.as_slice.ensures.value c.in_ok-directory.ensures.sight in
    let is_ok = c.in-Err.ensures.all c.in_ok-apps.ensures.image sight in
    cc

pub returns-clause-exact : goal.returns-clause-exact
returns-clause-exact c =
    image_read c.args.index c.args.keys.now (table_view c.args.table.now) c.in_ok-apps.apps.items c.as_slice.result.now c.in_ok-version.version
    c.in_ok-directory.directory c.in-Ok.image c.in_ok-apps.ensures.exact c.in_ok-absent.ensures c.in_ok-version.ensures.exact c.as_slice.ensures.value
    c.in_ok-directory.ensures.exact c.in-Ok.ensures.exact.0
