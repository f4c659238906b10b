-- The reply of the image, the state and the phase within is that of the decisions and the session.
use Rattle.std.proofs.Common.{◌≡◌, ◌++◌, ap, sym, subst, ◌∙◌}
use Rattle.card_files.specs.Files.{opening_of}
use Rattle.card_state.specs.Allowed.{Allowed}
use Rattle.card_state.specs.Totals.{totals}
use Rattle.card_state.specs.declared.state.CardState.{CardState}
use Rattle.card_app.specs.Answering.{answer_in_phase, card_reply}
use Rattle.card_app.specs.PageReplies.{CardReplyData}
use Rattle.card_app.specs.SeenCard.{CardSeen, CardOn, Answered, CutOff}
use Rattle.card_app.specs.SeenReply.{reply_data, MayReply}
use Rattle.card_app.proofs.Allowing.{card_allowed}
use Rattle.card_app.proofs.Continuing.{reply_is, cut_off, answered}
use Rattle.card_app.proofs.icc.Icc.carry_on.Goals as goal

pub returns-in-Ok-clause-answered : goal.returns-in-Ok-clause-answered
returns-in-Ok-clause-answered g c session ds plan made on =
    let shown : CardSeen = record { image = c.self.inside.image.now; kept = c.self.inside.kept; phase = c.self.inside.phase } in
    let here : CardOn shown session ds plan made = subst (λ (s : CardSeen). CardOn s session ds plan made) (sym c.self.view_is) on in
    let body = c.answer-reply.new.out.items in
    let reply = c.answer-reply.result in
    let is : reply_data body reply ≡ answer_in_phase shown.image shown.kept.state shown.phase c.args.command.now =
    c.answer-reply.ensures.said ∙ ap (λ (s : CardState). answer_in_phase shown.image s shown.phase c.args.command.now) c.state.ensures.value in
    let next : CardSeen = record { image = c.self.inside.image.now; kept = c.carry_out.new.kept; phase = c.phase_behind-phase.result } in
    subst (λ (s : CardSeen). Answered s next session ds plan made c.args.command.now c.carry_out.new.out.items) c.self.view_is
    (answered shown session ds plan made here c.args.command.now body reply is c.carry_out.new.kept c.phase_behind-phase.result c.carry_out.new.out.items
    c.in-Ok.ensures.takes c.phase_behind-phase.ensures.phase c.answer-reply.ensures.leads c.in-Ok.ensures.says.written c.in-Ok.ensures.says.read_again)

pub returns-in-Ok-clause-allowed : goal.returns-in-Ok-clause-allowed
returns-in-Ok-clause-allowed g c session ds plan made on allowed =
    let shown : CardSeen = record { image = c.self.inside.image.now; kept = c.self.inside.kept; phase = c.self.inside.phase } in
    let here : CardOn shown session ds plan made = subst (λ (s : CardSeen). CardOn s session ds plan made) (sym c.self.view_is) on in
    let body = c.answer-reply.new.out.items in
    let reply = c.answer-reply.result in
    let is : reply_data body reply ≡ answer_in_phase shown.image shown.kept.state shown.phase c.args.command.now =
    c.answer-reply.ensures.said ∙ ap (λ (s : CardState). answer_in_phase shown.image s shown.phase c.args.command.now) c.state.ensures.value in
    let state : c.state.result.now ≡ totals (opening_of shown.image) ds = c.state.ensures.value ∙ here.kept.state_is in
    let may = subst (λ (s : CardState). MayReply s reply) state c.answer-reply.ensures.may in
    let start = subst (λ (s : CardSeen). Allowed (opening_of s.image) ds) (sym c.self.view_is) allowed in
    let longer =
    subst (λ (r : CardReplyData). Allowed (opening_of shown.image) (ds ++ r.new)) (reply_is shown session ds plan made here c.args.command.now body reply is)
    (card_allowed (opening_of shown.image) ds start body reply may) in
    subst (λ (s : CardSeen). Allowed (opening_of s.image) (ds ++ (card_reply s.image ds session c.args.command.now).new)) c.self.view_is longer

pub returns-in-Err-clause-cut : goal.returns-in-Err-clause-cut
returns-in-Err-clause-cut g c session ds plan made on =
    let shown : CardSeen = record { image = c.self.inside.image.now; kept = c.self.inside.kept; phase = c.self.inside.phase } in
    let here : CardOn shown session ds plan made = subst (λ (s : CardSeen). CardOn s session ds plan made) (sym c.self.view_is) on in
    let body = c.answer-reply.new.out.items in
    let reply = c.answer-reply.result in
    let is : reply_data body reply ≡ answer_in_phase shown.image shown.kept.state shown.phase c.args.command.now =
    c.answer-reply.ensures.said ∙ ap (λ (s : CardState). answer_in_phase shown.image s shown.phase c.args.command.now) c.state.ensures.value in
    let lost = c.carry_out.new.kept.memory in
    subst (λ (s : CardSeen). CutOff s lost session ds plan made c.args.command.now) c.self.view_is
    (cut_off shown session ds plan made here c.args.command.now body reply is lost c.in-Err.ensures.cut)

pub returns-in-Err-clause-allowed : goal.returns-in-Err-clause-allowed
returns-in-Err-clause-allowed g c session ds plan made on allowed =
    let shown : CardSeen = record { image = c.self.inside.image.now; kept = c.self.inside.kept; phase = c.self.inside.phase } in
    let here : CardOn shown session ds plan made = subst (λ (s : CardSeen). CardOn s session ds plan made) (sym c.self.view_is) on in
    let body = c.answer-reply.new.out.items in
    let reply = c.answer-reply.result in
    let is : reply_data body reply ≡ answer_in_phase shown.image shown.kept.state shown.phase c.args.command.now =
    c.answer-reply.ensures.said ∙ ap (λ (s : CardState). answer_in_phase shown.image s shown.phase c.args.command.now) c.state.ensures.value in
    let state : c.state.result.now ≡ totals (opening_of shown.image) ds = c.state.ensures.value ∙ here.kept.state_is in
    let may = subst (λ (s : CardState). MayReply s reply) state c.answer-reply.ensures.may in
    let start = subst (λ (s : CardSeen). Allowed (opening_of s.image) ds) (sym c.self.view_is) allowed in
    let longer =
    subst (λ (r : CardReplyData). Allowed (opening_of shown.image) (ds ++ r.new)) (reply_is shown session ds plan made here c.args.command.now body reply is)
    (card_allowed (opening_of shown.image) ds start body reply may) in
    subst (λ (s : CardSeen). Allowed (opening_of s.image) (ds ++ (card_reply s.image ds session c.args.command.now).new)) c.self.view_is longer
