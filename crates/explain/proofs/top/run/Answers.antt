use Rattle.std.proofs.Common.{map, string_bytes, inr}
use Rattle.explain.specs.ToldLines.{manner_in}
use Rattle.explain.proofs.Taking.{asks_whole}
use Rattle.explain.proofs.top.run.Goals as goal

pub returns-in-Ok-explain_by-clause-answers : goal.returns-in-Ok-explain_by-clause-answers
returns-in-Ok-explain_by-clause-answers g c = (
  manner_in c.in-Ok.options,
  c.in-Ok.ensures.ok,
  λ none. asks_whole (map string_bytes c.args.words.now) (manner_in c.in-Ok.options) none c.in-Ok.ensures.ok,
  c.in-Ok-explain_by.ensures.ok,
)

pub returns-in-Err-Source-clause-answers : goal.returns-in-Err-Source-clause-answers
returns-in-Err-Source-clause-answers g c = (manner_in c.in-Ok.options, c.in-Ok.ensures.ok, c.in-Err-Source.ensures.err)

pub returns-in-Err-Sink-clause-answers : goal.returns-in-Err-Sink-clause-answers
returns-in-Err-Sink-clause-answers g c = inr (manner_in c.in-Ok.options, c.in-Ok.ensures.ok, c.in-Err-Sink.ensures.err)

pub returns-in-Err-OutOfMemory-explain_by-clause-answers : goal.returns-in-Err-OutOfMemory-explain_by-clause-answers
returns-in-Err-OutOfMemory-explain_by-clause-answers g c = inr (manner_in c.in-Ok.options, c.in-Ok.ensures.ok, c.in-Err-OutOfMemory-explain_by.ensures.err)
