use Rattle.std.proofs.Common.{arith, [], ◌∷◌}
use Rattle.std.proofs.lemmas.List.{map-append}
use Rattle.object_lists.specs.DolSeen.{seen_dol_entry, all_seen}
use Rattle.object_lists.proofs.DolReading.{one_more, at_fault, at_end}
use Rattle.object_lists.proofs.DolSpelling.{spelled-push, spelled-end, spelled-fault}
use Rattle.object_lists.proofs.dol.read_dol.Goals as goal

pub loop-place-preserved : goal.loop-place-preserved
loop-place-preserved c =
    let more = c.push.ensures.len in
    let onward = c.in-Ok.ensures.onward in
    let few = c.loop-place.invariant.few in
    let exact = c.in-Ok.ensures.exact in
    record {
      few = omega arith;
      within = onward.1;
      spelled = rw (c.push.ensures.items, map-append seen_dol_entry c.loop-place.entries.items (c.in-Ok.entry ∷ []))
          (spelled-push c.args.bytes.now (all_seen c.loop-place.entries.items) c.loop-place.place (seen_dol_entry c.in-Ok.entry) c.in-Ok.next c.loop-place.invariant.spelled c.in-Ok.ensures.spelled);
      same = rw (c.push.ensures.items, map-append seen_dol_entry c.loop-place.entries.items (c.in-Ok.entry ∷ []))
          (one_more c.args.bytes.now (all_seen c.loop-place.entries.items) c.loop-place.place (seen_dol_entry c.in-Ok.entry) c.in-Ok.next c.loop-place-test.true exact c.loop-place.invariant.same);
    }

pub returns-in-Err-clause-behind : goal.returns-in-Err-clause-behind
returns-in-Err-clause-behind c = spelled-fault c.args.bytes.now (all_seen c.loop-place.entries.items) c.loop-place.place c.in-Err.fault c.loop-place.invariant.spelled c.loop-place-test.true c.in-Err.ensures.stops

pub returns-in-Err-clause-exact : goal.returns-in-Err-clause-exact
returns-in-Err-clause-exact c = at_fault c.args.bytes.now (all_seen c.loop-place.entries.items) c.loop-place.place c.in-Err.fault c.loop-place-test.true c.in-Err.ensures.exact c.loop-place.invariant.same

pub returns-clause-spelled : goal.returns-clause-spelled
returns-clause-spelled c = spelled-end c.args.bytes.now (all_seen c.loop-place.entries.items) c.loop-place.place c.loop-place.invariant.spelled (omega arith)

pub returns-clause-exact : goal.returns-clause-exact
returns-clause-exact c = at_end c.args.bytes.now (all_seen c.loop-place.entries.items) c.loop-place.place (omega arith) c.loop-place.invariant.same
