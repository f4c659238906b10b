use Rattle.std.proofs.Common.{List, ℕ, subst}
use Rattle.line_talk.specs.Talk.{EndsDocument, HasDocument}
use Rattle.host_at_lines.specs.Top.{host_programme}
use Rattle.host_at_lines.proofs.top.serve.Goals as goal

pub returns-in-Ok-Document-clause-served : goal.returns-in-Ok-Document-clause-served
returns-in-Ok-Document-clause-served g c =
    let given = rw c.in-Ok-Document.field-0-is at c.in-Ok-Document.ensures.given in
    HasDocument c.in-Ok-Document.bytes.items (g.S.Source.left c.read_preamble.new.source) given
    (subst (λ (bytes : List ℕ). EndsDocument host_programme bytes
    (record {
      first = g.S.Source.left c.read_preamble.new.source;
      left = g.S.Source.left c.serve_document.new.source;
      before = g.K.Sink.held c.args.sink.now;
      held = g.K.Sink.held c.serve_document.new.sink;
    }) c.serve_document.result) c.as_slice.ensures.value c.serve_document.ensures.ends)
