use Rattle.std.proofs.Common.{List, ℕ, subst}
use Rattle.line_talk.specs.Talk.{EndsDocument, HasDocument}
use Rattle.terminal_at_reader.specs.Top.{terminal_programme}
use Rattle.terminal_at_reader.proofs.Tracing.{had_dialogues}
use Rattle.terminal_at_reader.proofs.top.run.Goals as goal

pub returns-in-Ok-Document-clause-served : goal.returns-in-Ok-Document-clause-served
returns-in-Ok-Document-clause-served g c =
    let given = rw c.in-Ok-Document.field-0-is at c.in-Ok-Document.ensures.given in
    HasDocument c.in-Ok-Document.bytes.items (g.S.Source.left c.read_preamble.new.source) given
    (subst (λ (bytes : List ℕ). EndsDocument terminal_programme bytes
    (record {
      first = g.S.Source.left c.read_preamble.new.source;
      left = g.S.Source.left c.serve_document.new.source;
      before = g.K.Sink.held c.args.sink.now;
      held = g.K.Sink.held c.serve_document.new.sink;
    }) c.serve_document.result) c.as_slice.ensures.value c.serve_document.ensures.ends)

pub returns-in-Ok-Document-clause-traced : goal.returns-in-Ok-Document-clause-traced
returns-in-Ok-Document-clause-traced g c = had_dialogues _ c.serve_document.result (returns-in-Ok-Document-clause-served g c)
