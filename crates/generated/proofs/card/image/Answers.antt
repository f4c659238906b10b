use Rattle.generated.proofs.Cards.{pushed_app, none_hidden}
use Rattle.generated.proofs.card.image.Goals as goal

pub unreachable-requires : goal.unreachable-requires
unreachable-requires c =
    let keeps = pushed_app c.args.card c.in_ok-apps.apps.items c.push.new.self.items c.in_ok-app.field-0 c.in_ok-apps.ensures.items c.in_ok-push.ensures.items c.in_ok-app.ensures in
    let is_ok = c.in-Err.ensures.all keeps (none_hidden c.push.new.self.items) in
    cc
