-- What was written is read back.
use Rattle.std.proofs.Common.{List, ℕ, ap, ◌∙◌, arith}
use Rattle.card_cryptogram.specs.Bodies.{kind_in, cryptogram_in}
use Rattle.card_cryptogram.proofs.ReadBack.{one_kind, one_cryptogram, two_kind, two_cryptogram}
use Rattle.card_cryptogram.proofs.bodies.write_body.Goals as goal

pub returns-then-format-eq1-clause-kind : goal.returns-then-format-eq1-clause-kind
returns-then-format-eq1-clause-kind c =
    ap (λ (body : List ℕ). kind_in c.args.format body) c.write_one.ensures
    ∙ one_kind c.args.format c.args.kind c.args.state.now.counter c.args.cryptogram c.issuer_data-iad.result (omega arith) (omega arith) c.if-format-eq1.true

pub returns-then-format-eq1-clause-cryptogram : goal.returns-then-format-eq1-clause-cryptogram
returns-then-format-eq1-clause-cryptogram c =
    ap (λ (body : List ℕ). cryptogram_in c.args.format body) c.write_one.ensures
    ∙ one_cryptogram c.args.format c.args.kind c.args.state.now.counter c.args.cryptogram c.issuer_data-iad.result (omega arith) (omega arith) c.if-format-eq1.true

pub returns-else-format-eq1-clause-kind : goal.returns-else-format-eq1-clause-kind
returns-else-format-eq1-clause-kind c =
    ap (λ (body : List ℕ). kind_in c.args.format body) c.write_two.ensures
    ∙ two_kind c.args.format c.args.kind c.args.state.now.counter c.args.cryptogram c.issuer_data-iad.result (omega arith) (omega arith) c.if-format-eq1.false

pub returns-else-format-eq1-clause-cryptogram : goal.returns-else-format-eq1-clause-cryptogram
returns-else-format-eq1-clause-cryptogram c =
    ap (λ (body : List ℕ). cryptogram_in c.args.format body) c.write_two.ensures
    ∙ two_cryptogram c.args.format c.args.kind c.args.state.now.counter c.args.cryptogram c.issuer_data-iad.result (omega arith) (omega arith) c.if-format-eq1.false
