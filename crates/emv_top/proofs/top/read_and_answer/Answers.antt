use Rattle.std.proofs.Common.{ℕ, List, subst}
use Rattle.emv_top.specs.Answers.{Answers}
use Rattle.emv_top.proofs.Answering.{source_stays, was_read}
use Rattle.emv_top.proofs.top.read_and_answer.Goals as goal

pub returns-in-Ok-clause-answers : goal.returns-in-Ok-clause-answers
returns-in-Ok-clause-answers g c =
    was_read c.args.task c.in-Ok.bytes.items _ _ _ _ c.answer.result.status _ _ c.in-Ok.ensures.whole
    (subst (λ (b : List ℕ). Answers c.args.task b (g.K.Sink.held c.args.sink.now) (g.K.Sink.held c.answer.new.sink)
    c.answer.result.bank c.answer.result.tally c.answer.result.status) c.as_slice.ensures.value c.answer.ensures.told)

pub returns-in-Ok-clause-counts : goal.returns-in-Ok-clause-counts
returns-in-Ok-clause-counts g c = record {
  source = source_stays _ _ _ _ _ _ _ _ c.answer.result.status c.answer.ensures.told c.in-Ok.ensures.calm;
  sink = c.answer.ensures.count;
}
