use Rattle.std.proofs.Common.{List, ℕ, Option, arith, map, refl, string_bytes, subst}
use Rattle.std.proofs.lemmas.List.{length-map}
use Rattle.line_talk.specs.Talk.{Served, Sides}
use Rattle.card_at_reader.specs.Top.{card_programme}
use Rattle.card_at_reader.proofs.Serving.{none_asked, served_by}
use Rattle.card_at_reader.proofs.top.run.Goals as goal

pub returns-clause-served : goal.returns-clause-served
returns-clause-served g c =
    let sides : Sides = record {
      first = g.S.Source.left c.args.source.now;
      left = g.S.Source.left c.serve.new.source;
      before = g.K.Sink.held c.args.sink.now;
      held = g.K.Sink.held c.serve.new.sink;
    } in
    served_by (map string_bytes c.args.words.now) sides c.serve.result (let same = length-map c.args.words.now string_bytes in omega (arith, same, c.if-words-gt1.false))
    (subst (λ (name : Option (List ℕ)). Served (card_programme name) sides c.serve.result) c.name_in.ensures c.serve.ensures.served)

pub returns-then-words-gt1-clause-served : goal.returns-then-words-gt1-clause-served
returns-then-words-gt1-clause-served g c =
    none_asked (map string_bytes c.args.words.now) _ c.answer_other.result (let same = length-map c.args.words.now string_bytes in omega (arith, same, c.if-words-gt1.true))
    refl c.answer_other.ensures.told
