-- A card with applications, or one of canned answers, has answered or is gone.
use Rattle.std.proofs.Common.{◌≡◌, ap, sym, ◌∙◌}
use Rattle.std.proofs.lemmas.Result.{on_err_weaker}
use Rattle.txn_replay.specs.SeenRunCard.{seen_run_card}
use Rattle.txn_replay.specs.RunCard.{OfApps, OfCanned}
use Rattle.txn_replay.proofs.CardLaws.CardCalls.{app_answered, app_gone, canned_answered, canned_gone}
use Rattle.txn_replay.proofs.run_card.RunCard.process.Goals as goal
use Rattle.txn_replay.proofs.run_card.RunCard.process.Goals.{in-App, in-Canned}

pub returns-clause-answered : goal.returns-clause-answered
returns-clause-answered g c = elim c.match-self.branch [
  | in-App w ↦
      let old : OfApps w.in-App.icc ≡ c.args.self.now = ap seen_run_card (sym w.in-App.is) ∙ c.self.view_is in
      rw (w.result-is, w.out-is, w.self-inside-is, ← old)
      (app_answered w.process.result c.args.command.now w.in-App.icc w.process.new.self w.process.new.out.items w.process.ensures.answered)
  | in-Canned w ↦
      let old : OfCanned w.in-Canned.canned ≡ c.args.self.now = ap seen_run_card (sym w.in-Canned.is) ∙ c.self.view_is in
      rw (w.result-is, w.out-is, w.self-inside-is, ← old)
      (canned_answered w.answer.result c.args.command.now w.in-Canned.canned w.answer.new.self w.answer.new.out.items w.answer.ensures.said w.answer.ensures.told)
]

pub returns-clause-gone : goal.returns-clause-gone
returns-clause-gone g c = elim c.match-self.branch [
  | in-App w ↦
      let old : OfApps w.in-App.icc ≡ c.args.self.now = ap seen_run_card (sym w.in-App.is) ∙ c.self.view_is in
      rw (w.result-is, w.self-inside-is, ← old)
      (app_gone w.process.result c.args.command.now w.in-App.icc w.process.new.self w.process.ensures.cut
      (on_err_weaker w.process.result (λ loses. loses.losses) w.process.ensures.loses))
  | in-Canned w ↦
      let old : OfCanned w.in-Canned.canned ≡ c.args.self.now = ap seen_run_card (sym w.in-Canned.is) ∙ c.self.view_is in
      rw (w.result-is, w.self-inside-is, ← old)
      (canned_gone w.answer.result c.args.command.now w.in-Canned.canned w.answer.new.self w.answer.ensures.none w.answer.ensures.off)
]
