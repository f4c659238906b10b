use Rattle.std.proofs.Common.{sym}
use Rattle.kernel.proofs.Requested.{requested}
use Rattle.kernel.proofs.online.put_objects.Goals as goal
use Rattle.kernel.specs.Transactions.{transaction_of}

pub returns-clause-request : goal.returns-clause-request
returns-clause-request c =
    rw c.put_terminal.ensures
    (requested (transaction_of c.args.transaction.now).outset c.args.transaction.now.row.now c.args.state_so_far.now
    (record {
      id = rw (sym c.settings.view_is) c.has_length.ensures;
      country = rw (sym c.settings.view_is) c.has_length-2.ensures;
      currency = rw (sym c.purchase.view_is) c.has_length-3.ensures;
      date = rw (sym c.purchase.view_is) c.has_length-4.ensures;
      number = rw (sym c.purchase.view_is) c.has_length-5.ensures;
    }) c.args.transaction.now.sound.purchase)
