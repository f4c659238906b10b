use Rattle.std.proofs.Common.{List, ℕ, ◌+◌, arith, eqb-true, length, map, refl, string_bytes, subst, sym, ◌∙◌}
use Rattle.std.proofs.lemmas.Bool.{eqb-false}
use Rattle.std.proofs.lemmas.List.{length-map}
use Rattle.card_check.proofs.Endings.{unworded, worded}
use Rattle.card_check.proofs.top.run.Goals as goal
use Rattle.card_check.specs.Top.{card_check_usage}
use Rattle.emv_ports.specs.Reading.{ReadsUpTo}
use Rattle.line_talk.specs.Talk.{Sides, TalkSourceCount}
use Rattle.line_talk.specs.declared.status.Status.TheVariants.{SourceFailed, OutOfMemory}
use Rattle.scenario.specs.declared.read.TheConstants.{MOST_BYTES}

pub returns-then-not-is_empty-clause-ends : goal.returns-then-not-is_empty-clause-ends
unfolding card_check_usage
returns-then-not-is_empty-clause-ends g c =
    let sides : Sides = record {
      first = g.S.Source.left c.args.source.now;
      left = g.S.Source.left c.args.source.now;
      before = g.K.Sink.held c.args.sink.now;
      held = g.K.Sink.held c.write_last.new.sink;
    } in
    let some = eqb-false (length c.args.words.now) 0 (sym c.is_empty.ensures ∙ c.if-not-is_empty.true) in
    let same = length-map c.args.words.now string_bytes in
    worded (map string_bytes c.args.words.now) sides c.write_last.result (omega (arith, same, some)) c.write_last.ensures.told

pub returns-in-Ok-clause-ends : goal.returns-in-Ok-clause-ends
returns-in-Ok-clause-ends g c =
    let sides : Sides = record {
      first = g.S.Source.left c.args.source.now;
      left = g.S.Source.left c.read_up_to.new.source;
      before = g.K.Sink.held c.args.sink.now;
      held = g.K.Sink.held c.answer.new.sink;
    } in
    let none = eqb-true (length c.args.words.now) 0 (sym c.is_empty.ensures ∙ c.if-not-is_empty.false) in
    let same = length-map c.args.words.now string_bytes in
    unworded (map string_bytes c.args.words.now) sides c.answer.result (omega (arith, same, none))
    (c.answer.ensures.judges sides.first sides.left
    (subst (λ (bytes : List ℕ). ReadsUpTo (MOST_BYTES + 1) sides.first sides.left bytes) (sym c.as_slice.ensures.value) c.in-Ok.ensures.whole))

pub returns-in-Ok-clause-source : goal.returns-in-Ok-clause-source
returns-in-Ok-clause-source g c =
    subst (λ (n : ℕ). TalkSourceCount (g.S.Source.faults c.args.source.now) n c.answer.result) (sym c.in-Ok.ensures.calm)
    (c.answer.ensures.source (g.S.Source.faults c.args.source.now))

pub returns-in-Err-Failed-clause-ends : goal.returns-in-Err-Failed-clause-ends
returns-in-Err-Failed-clause-ends g c =
    let sides : Sides = record {
      first = g.S.Source.left c.args.source.now;
      left = g.S.Source.left c.read_up_to.new.source;
      before = g.K.Sink.held c.args.sink.now;
      held = g.K.Sink.held c.args.sink.now;
    } in
    let none = eqb-true (length c.args.words.now) 0 (sym c.is_empty.ensures ∙ c.if-not-is_empty.false) in
    let same = length-map c.args.words.now string_bytes in
    unworded (map string_bytes c.args.words.now) sides SourceFailed (omega (arith, same, none)) refl

pub returns-in-Err-OutOfMemory-clause-ends : goal.returns-in-Err-OutOfMemory-clause-ends
returns-in-Err-OutOfMemory-clause-ends g c =
    let sides : Sides = record {
      first = g.S.Source.left c.args.source.now;
      left = g.S.Source.left c.read_up_to.new.source;
      before = g.K.Sink.held c.args.sink.now;
      held = g.K.Sink.held c.args.sink.now;
    } in
    let none = eqb-true (length c.args.words.now) 0 (sym c.is_empty.ensures ∙ c.if-not-is_empty.false) in
    let same = length-map c.args.words.now string_bytes in
    unworded (map string_bytes c.args.words.now) sides OutOfMemory (omega (arith, same, none)) refl
