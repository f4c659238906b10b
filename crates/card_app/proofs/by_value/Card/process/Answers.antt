-- What is said of the place of the card holds of the card.
use Rattle.std.proofs.Common.{◌++◌, sym, subst}
use Rattle.card_files.specs.Files.{opening_of}
use Rattle.card_state.specs.Allowed.{Allowed}
use Rattle.emv_ports.specs.Memory.{Memory}
use Rattle.card_app.specs.Answering.{card_answer}
use Rattle.card_app.specs.SeenCard.{CardSeen, CardOn, Answered, CutOff}
use Rattle.card_app.proofs.by_value.Card.process.Goals as goal

pub returns-in-Ok-clause-answered : goal.returns-in-Ok-clause-answered
returns-in-Ok-clause-answered g c session ds plan made on =
    let here = subst (λ (s : CardSeen). CardOn s session ds plan made) (sym c.self.view_is) on in
    subst (λ (s : CardSeen). Answered s c.carry_on.new.self session ds plan made c.args.command.now c.carry_on.new.out.items) c.self.view_is
    (c.in-Ok.ensures.answered session ds plan made here)

pub returns-in-Ok-clause-allowed : goal.returns-in-Ok-clause-allowed
returns-in-Ok-clause-allowed g c session ds plan made on allowed =
    let here = subst (λ (s : CardSeen). CardOn s session ds plan made) (sym c.self.view_is) on in
    let start = subst (λ (s : CardSeen). Allowed (opening_of s.image) ds) (sym c.self.view_is) allowed in
    subst (λ (s : CardSeen). Allowed (opening_of s.image) (ds ++ (card_answer s.image ds session c.args.command.now).new)) c.self.view_is
    (c.in-Ok.ensures.allowed session ds plan made here start)

pub returns-in-Err-clause-cut : goal.returns-in-Err-clause-cut
returns-in-Err-clause-cut g c session ds plan made on =
    let here = subst (λ (s : CardSeen). CardOn s session ds plan made) (sym c.self.view_is) on in
    subst (λ (s : CardSeen). CutOff s (g.P.Pages.memory c.cut_off.result.pages) session ds plan made c.args.command.now) c.self.view_is
    (subst (λ (m : Memory). CutOff c.self.inside.icc m session ds plan made c.args.command.now) (sym c.cut_off.ensures)
    (c.in-Err.ensures.cut session ds plan made here))

pub returns-in-Err-clause-allowed : goal.returns-in-Err-clause-allowed
returns-in-Err-clause-allowed g c session ds plan made on allowed =
    let here = subst (λ (s : CardSeen). CardOn s session ds plan made) (sym c.self.view_is) on in
    let start = subst (λ (s : CardSeen). Allowed (opening_of s.image) ds) (sym c.self.view_is) allowed in
    subst (λ (s : CardSeen). Allowed (opening_of s.image) (ds ++ (card_answer s.image ds session c.args.command.now).new)) c.self.view_is
    (c.in-Err.ensures.allowed session ds plan made here start)
