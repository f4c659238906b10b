use Rattle.std.proofs.Common.{refl, arith, []}
use Rattle.ber_tlv.specs.Left.{items_behind, items_from}
use Rattle.terminal_state.proofs.table.HostReply.none.Goals as goal

pub invariant_of-result : goal.invariant_of-result
unfolding items_behind items_from
invariant_of-result c = record { items = []; listed = rw c.new.ensures refl; few = omega arith }
