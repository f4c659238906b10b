use Rattle.std.proofs.Common.{option_map, refl}
use Rattle.line_talk.specs.Talk.{IsRefused}
use Rattle.card_at_reader.proofs.Serving.{card_lacking, card_served}
use Rattle.card_at_reader.proofs.top.serve_document.Goals as goal

pub returns-in-Some-clause-ends : goal.returns-in-Some-clause-ends
returns-in-Some-clause-ends g c =
    card_served (option_map (λ name. name.now) c.args.name) c.args.bytes.now c.in-Ok.cards.items c.as_slice.result.now c.in-Ok.ensures c.as_slice.ensures.value
    c.in-Some.kind.now c.in-Some.ensures _ c.serve_kind.result c.serve_kind.ensures.ends

pub returns-in-None-clause-ends : goal.returns-in-None-clause-ends
returns-in-None-clause-ends g c =
    card_lacking (option_map (λ name. name.now) c.args.name) c.args.bytes.now c.in-Ok.cards.items c.as_slice.result.now c.in-Ok.ensures c.as_slice.ensures.value
    c.in-None.ensures _ c.answer_other.result refl c.answer_other.ensures.told

pub returns-in-Err-clause-ends : goal.returns-in-Err-clause-ends
returns-in-Err-clause-ends g c = IsRefused _ (c.in-Err.fault, c.in-Err.ensures, refl) refl c.refuse.ensures.told
