-- Each kind of reply takes its decisions, or one of them is cut.
use Rattle.std.proofs.Common.{[], sym, subst}
use Rattle.std.proofs.lemmas.Result.{on_ok_weaker, on_err_weaker}
use Rattle.card_app.specs.Cuts.{Cut}
use Rattle.card_app.specs.SeenKept.{Took, CutAt}
use Rattle.card_app.specs.SeenReply.{reply_data}
use Rattle.card_app.specs.declared.reply.Reply.{Reply}
use Rattle.card_app.proofs.Steps.{takes_none}
use Rattle.card_app.proofs.icc.carry_out.Goals as goal

pub returns-in-Plain-clause-takes : goal.returns-in-Plain-clause-takes
returns-in-Plain-clause-takes g c opening ds plan made on =
    subst (λ (r : Reply). Took c.args.kept.now opening ds (reply_data c.args.body.now.items r).new plan made) (sym c.in-Plain.is)
    (takes_none c.args.kept.now opening ds plan made on)

pub returns-in-Ok-clause-takes : goal.returns-in-Ok-clause-takes
returns-in-Ok-clause-takes g c opening ds plan made on =
    subst (λ (r : Reply). Took c.decide.new.self opening ds (reply_data c.args.body.now.items r).new plan made) (sym c.in-Decides.is)
    (c.in-Ok.ensures.takes opening ds plan made on)

pub returns-in-Err-clause-cut : goal.returns-in-Err-clause-cut
returns-in-Err-clause-cut g c opening ds plan made on =
    let lost = c.decide.new.self.memory in
    let at : Cut = record { before = []; cut = record { app = c.in-Decides.app; decision = c.in-Decides.decision } } in (
      at,
      subst (λ (r : Reply). CutAt c.args.kept.now.memory lost opening ds (reply_data c.args.body.now.items r).new plan made at) (sym c.in-Decides.is)
          (c.in-Err.ensures.cut opening ds plan made on),
    )

pub returns-in-Compares-clause-takes : goal.returns-in-Compares-clause-takes
returns-in-Compares-clause-takes g c =
    on_ok_weaker c.compare.result
    (λ takes opening ds plan made on.
    subst (λ (r : Reply). Took c.compare.new.kept opening ds (reply_data c.args.body.now.items r).new plan made) (sym c.in-Compares.is) (takes opening ds plan made on))
    c.compare.ensures.takes

pub returns-in-Compares-clause-cut : goal.returns-in-Compares-clause-cut
returns-in-Compares-clause-cut g c =
    on_err_weaker c.compare.result
    (λ cut opening ds plan made on.
    let lost = c.compare.new.kept.memory in
    let one = cut opening ds plan made on in (
      one.0,
      subst (λ (r : Reply). CutAt c.args.kept.now.memory lost opening ds (reply_data c.args.body.now.items r).new plan made one.0) (sym c.in-Compares.is) one.1,
    ))
    c.compare.ensures.cut
