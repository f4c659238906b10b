use Rattle.std.proofs.Common.{refl, sym, ◌∙◌}
use Rattle.kernel.specs.Transactions.{transaction_of}
use Rattle.kernel.proofs.Hearing.{asks_authentication}
use Rattle.kernel.proofs.online.authenticate.Goals as goal

pub returns-then-has_authentication-clause-stands : goal.returns-then-has_authentication-clause-stands
returns-then-has_authentication-clause-stands c = λ steps_done log auth rest begins.
    asks_authentication c.args.table.now _ (transaction_of c.args.transaction.now) steps_done log rest c.in-Some.value.now begins (rw c.in-Some.is at auth)
    (sym c.has_authentication.ensures ∙ c.if-has_authentication.true) c.authenticate_command.ensures refl refl
