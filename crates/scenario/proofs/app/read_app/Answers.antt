use Rattle.scenario.proofs.CardParts.{is_new}
use Rattle.scenario.proofs.app.read_app.Goals as goal

pub returns-clause-new : goal.returns-clause-new
returns-clause-new c =
    is_new c.args.keys.now c.in_ok-files.files c.in_ok-holder.holder c.in_ok-counters.counters c.in_ok-access.access c.in_ok-extras.extras
    c.args.earlier.now c.app_with.result c.app_with.ensures
    c.in_ok-files.ensures.rules c.in_ok-holder.ensures.rules c.in_ok-counters.ensures.rule c.in_ok-access.ensures.rules c.in_ok-extras.ensures.rules c.in_ok-files.ensures.first
