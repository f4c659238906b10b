-- The reason by the image, the state and the phase within is that by the decisions and the session.
use Rattle.std.proofs.Common.{ap, sym, subst, ◌∙◌}
use Rattle.card_files.specs.Files.{opening_of}
use Rattle.card_cryptogram.specs.declared.phase.Phase.{Phase}
use Rattle.card_state.specs.Totals.{totals}
use Rattle.card_state.specs.declared.state.CardState.{CardState}
use Rattle.card_app.specs.Reasons.{reason_in_phase, why_of}
use Rattle.card_app.specs.SeenCard.{CardSeen, CardOn}
use Rattle.card_app.proofs.icc.Icc.reason.Goals as goal

pub returns : goal.returns
unfolding why_of
returns g c session ds plan made on =
    let shown : CardSeen = record { image = c.self.inside.image.now; kept = c.self.inside.kept; phase = c.self.inside.phase } in
    let here : CardOn shown session ds plan made = subst (λ (s : CardSeen). CardOn s session ds plan made) (sym c.self.view_is) on.card in
    c.reason_of.ensures
    ∙ ap (λ (s : CardState). reason_in_phase shown.image s shown.phase c.args.command.now) (c.state.ensures.value ∙ here.kept.state_is)
    ∙ ap (λ (p : Phase). reason_in_phase shown.image (totals (opening_of shown.image) ds) p c.args.command.now) here.phase_is
    ∙ ap (λ (s : CardSeen). why_of s.image ds session c.args.command.now) c.self.view_is
