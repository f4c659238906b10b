use Rattle.std.proofs.Common.{subst}
use Rattle.card_files.specs.Views.{ImageData}
use Rattle.line_talk.specs.Talk.{TalkEnds}
use Rattle.card_at_reader.specs.Desk.{IsCardTalk, card_opening}
use Rattle.card_at_reader.proofs.Sides.{none_answered}
use Rattle.card_at_reader.proofs.top.serve_card.Goals as goal

pub converse-requires : goal.converse-requires
converse-requires g c = record {
  begun = none_answered c.put_in-desk.result.icc c.put_in-desk.result.notes c.put_in-desk.result.told.items c.put_in-desk.ensures.stands;
}

pub returns-clause-ends : goal.returns-clause-ends
returns-clause-ends g c =
    subst (λ (i : ImageData). TalkEnds (IsCardTalk i) card_opening
    (record {
      first = g.S.Source.left c.args.source.now;
      left = g.S.Source.left c.converse.new.source;
      before = g.K.Sink.held c.args.sink.now;
      held = g.K.Sink.held c.converse.new.sink;
    }) c.converse.result) c.put_in-desk.ensures.image c.converse.ensures.ends
