use Rattle.std.proofs.Common.{List, map, Vec, Global, ℕ, sym, subst}
use Rattle.line_talk.specs.Talk.{Sides, TalkEnds}
use Rattle.scenario_plan.specs.declared.plan.CardKind.{CardKind}
use Rattle.card_at_reader.specs.Canned.{IsCannedTalk}
use Rattle.card_at_reader.specs.Desk.{card_opening}
use Rattle.card_at_reader.specs.Top.{IsTalkOf}
use Rattle.card_at_reader.proofs.top.serve_kind.Goals as goal

pub returns-in-App-clause-ends : goal.returns-in-App-clause-ends
returns-in-App-clause-ends g c =
    let sides : Sides = record {
      first = g.S.Source.left c.args.source.now;
      left = g.S.Source.left c.serve_card.new.source;
      before = g.K.Sink.held c.args.sink.now;
      held = g.K.Sink.held c.serve_card.new.sink;
    } in
    subst (λ (kind : CardKind). TalkEnds (IsTalkOf kind) card_opening sides c.serve_card.result) (sym c.in-App.is) c.serve_card.ensures.ends

pub returns-in-Canned-clause-ends : goal.returns-in-Canned-clause-ends
returns-in-Canned-clause-ends g c =
    let sides : Sides = record {
      first = g.S.Source.left c.args.source.now;
      left = g.S.Source.left c.serve_canned.new.source;
      before = g.K.Sink.held c.args.sink.now;
      held = g.K.Sink.held c.serve_canned.new.sink;
    } in
    subst (λ (kind : CardKind). TalkEnds (IsTalkOf kind) card_opening sides c.serve_canned.result) (sym c.in-Canned.is)
    (subst (λ (answers : List (Vec ℕ Global)). TalkEnds (IsCannedTalk (map (λ answer. answer.items) answers)) card_opening sides c.serve_canned.result) c.as_slice.ensures.value
    c.serve_canned.ensures.ends)
