use Rattle.std.proofs.Common.{rules, arith}
use Rattle.std.proofs.lemmas.Grind.{common_steps}
use Rattle.read_records.proofs.Groups.{places_more}
use Rattle.read_records.proofs.afl.groups_in.Goals as goal

pub loop-rest-preserved : goal.loop-rest-preserved
loop-rest-preserved c = record {
  count = first_of (search rules, grind (arith, common_steps));
  few = rw c.push.ensures.items (places_more c.loop-rest.groups.items c.group_of.result c.group_of.ensures.small c.loop-rest.invariant.few);
  split = first_of (search rules, grind (arith, common_steps));
}
