use Rattle.std.proofs.Common.{◌≡◌, Some, None, false, refl, sym, ap, ◌∙◌, subst}
use Rattle.scenario_plan.specs.SeenCards.{image_of, seen_card}
use Rattle.txn_replay.specs.Audited.{RowRests}
use Rattle.txn_replay.specs.SeenRunCard.{seen_run_card}
use Rattle.txn_replay.specs.RunCard.{RunCardSeen, OfApps, OfCanned, IsRunCardOf}
use Rattle.txn_replay.specs.declared.run_card.RunCardKind.{RunCardKind}
use Rattle.txn_replay.proofs.AuditLaws.AuditedCards.{checked_as}
use Rattle.txn_replay.proofs.AuditLaws.AuditNumbers.{seen_image, seen_canned}
use Rattle.txn_replay.proofs.audit.carry_out.Goals.{in-None, in-Some}
use Rattle.txn_replay.proofs.audit.carry_out.Goals as goal

pub unreachable-requires : goal.unreachable-requires
unreachable-requires g c =
    let same : c.args.run_card.now ≡ OfCanned c.in_default.field-0 = sym c.run_card.view_is ∙ ap (λ (k : RunCardKind g.row.P.Denot). seen_run_card k) c.in_default.is in
    let is : IsRunCardOf (OfCanned c.in_default.field-0) (seen_card c.args.step.card.now) =
    subst (λ (s : RunCardSeen). IsRunCardOf s (seen_card c.args.step.card.now)) same c.requires.is in
    let none : None ≡ Some c.in_default.field-0.answers = sym (seen_canned c.args.step.card.now ∙ c.requires.apps) ∙ is.0 in cc

pub returns-clause-checked : goal.returns-clause-checked
returns-clause-checked g c = λ row rests.
    let same : c.args.run_card.now ≡ OfApps c.in-App.icc = sym c.run_card.view_is ∙ ap (λ (k : RunCardKind g.row.P.Denot). seen_run_card k) c.in-App.is in
    let is : IsRunCardOf (OfApps c.in-App.icc) (seen_card c.args.step.card.now) =
    subst (λ (s : RunCardSeen). IsRunCardOf s (seen_card c.args.step.card.now)) same c.requires.is in
    let own : RowRests (OfApps c.in-App.icc) row = subst (λ (s : RunCardSeen). RowRests s row) same rests in
    let image : c.in-App.icc.image ≡ image_of c.args.step.card.now.kind = is.1 ∙ seen_image c.args.step.card.now in
    elim c.match-step.branch [
      | in-None w ↦
          let up = w.power.ensures.powered row own image in (
            up.0,
            checked_as (seen_run_card c.match-step.run_card-inside.0) w.power.new.icc (seen_card c.args.step.card.now) row c.args.step.question None up.0
                c.match-step.lines.items w.power.new.lines.items (λ i. seen_run_card (w.run_card-inside-is i).0) w.in-None.is
                (λ i. (w.lines-is i).items) (record { on = (up.1, refl); lines_are = up.2 }),
          )
      | in-Some w ↦
          let asked = w.ask.ensures.asked row own image in (
            false,
            checked_as (seen_run_card c.match-step.run_card-inside.0) w.ask.new.icc (seen_card c.args.step.card.now) row c.args.step.question (Some w.in-Some.question) false
                c.match-step.lines.items w.ask.new.lines.items (λ i. seen_run_card (w.run_card-inside-is i).0) w.in-Some.is
                (λ i. (w.lines-is i).items) (record { on = (asked.on, asked.none); lines_are = asked.lines_are }),
          )
    ]
