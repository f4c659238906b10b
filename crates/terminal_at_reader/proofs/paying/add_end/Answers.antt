use Rattle.std.proofs.Common.{ap, refl, sym, ◌∙◌, ◌++◌, List, ℕ}
use Rattle.terminal_at_reader.proofs.Turning.{ends_turn}
use Rattle.terminal_at_reader.proofs.paying.add_end.Goals as goal

pub returns : goal.returns
returns c = record {
  turn = λ outset replies paying.
      ends_turn c.args.iso c.args.work.now _ outset replies c.args.text.now.items _ c.end-end.result c.last_question-question.result paying
      (c.end-end.ensures.ends.end replies paying.live.stands)
      (c.in_ok-extend_from_slice.ensures.items ∙ ap (λ (l : List ℕ). c.args.text.now.items ++ l) (c.as_slice.ensures.value ∙ c.tell_end-outcome.ensures.told)) refl
      (c.last_question-question.ensures replies paying.live.stands)
      (c.in_ok-keep.ensures.kept c.end-end.result (sym c.tell_end-outcome.ensures.ending) (sym c.tell_end-outcome.ensures.pan) (sym c.tell_end-outcome.ensures.captured))
      (c.in_ok-keep.ensures.amounts paying.amount_fits c.requires.log);
}
