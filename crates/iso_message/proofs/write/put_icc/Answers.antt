use Rattle.std.proofs.Common.{append_assoc, append-nil}
use Rattle.iso_message.proofs.write.put_icc.Goals as goal

pub returns-clause-fields : goal.returns-clause-fields
returns-clause-fields c =
    rw (
      c.put-8.ensures.field,
      c.put-7.ensures.field,
      c.put-6.ensures.field,
      c.put-5.ensures.field,
      c.put-4.ensures.field,
      c.put-3.ensures.field,
      c.put-2.ensures.field,
      c.put.ensures.field,
    ) (simp (append_assoc, append-nil))
