-- The reply of the image, the state and the phase within is that of the decisions and the session.
use Rattle.std.proofs.Common.{◌≡◌, ap, sym, subst, ◌∙◌}
use Rattle.card_app.specs.PageReplies.{CardReplyData}
use Rattle.card_state.specs.declared.state.CardState.{CardState}
use Rattle.card_app.specs.Answering.{answer_in_phase, card_reply}
use Rattle.card_app.specs.SeenCard.{CardSeen, CardOn}
use Rattle.card_app.specs.SeenReply.{reply_data}
use Rattle.card_app.proofs.Continuing.{reply_is}
use Rattle.card_app.proofs.icc.Icc.foretell.Goals as goal

pub returns : goal.returns
returns g c session ds plan made on =
    let shown : CardSeen = record { image = c.self.inside.image.now; kept = c.self.inside.kept; phase = c.self.inside.phase } in
    let here : CardOn shown session ds plan made = subst (λ (s : CardSeen). CardOn s session ds plan made) (sym c.self.view_is) on.card in
    let body = c.answer.new.out.items in
    let reply = c.answer.result in
    let is : reply_data body reply ≡ answer_in_phase shown.image shown.kept.state shown.phase c.args.command.now =
    c.answer.ensures.said ∙ ap (λ (s : CardState). answer_in_phase shown.image s shown.phase c.args.command.now) c.state.ensures.value in
    c.decided_by.ensures body
    ∙ ap (λ (r : CardReplyData). r.new) (reply_is shown session ds plan made here c.args.command.now body reply is)
    ∙ ap (λ (s : CardSeen). (card_reply s.image ds session c.args.command.now).new) c.self.view_is
