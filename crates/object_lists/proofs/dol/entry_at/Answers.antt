use Rattle.std.proofs.Common.{◌≡◌, ℕ, ◌≤◌, nat_lt, false, arith}
use Rattle.std.proofs.lemmas.Bool.Decides.{nat_tests}
use Rattle.std.proofs.lemmas.Option.{slice_get_past}
use Rattle.object_lists.proofs.DolSpelling.{entry_without_count, entry_stopped}
use Rattle.object_lists.proofs.dol.entry_at.Goals as goal

not_below : (m n : ℕ) → false ≡ nat_lt m n → n ≤ m
not_below m n e = grind (arith, nat_tests)

pub returns-in-None-clause-stops : goal.returns-in-None-clause-stops
returns-in-None-clause-stops c =
    entry_without_count c.args.bytes.now c.args.start c.in-Ok.tag.0 c.in-Ok.next c.in-Ok.ensures.spelled
    (slice_get_past c.args.bytes.now c.in-Ok.next (not_below _ _ c.in-None.ensures.lookup.0))

pub returns-in-Err-clause-stops : goal.returns-in-Err-clause-stops
returns-in-Err-clause-stops c =
    rw c.fault_of_tag.ensures (entry_stopped c.in-Err.fault c.args.start _ c.in-Err.ensures.stops)
