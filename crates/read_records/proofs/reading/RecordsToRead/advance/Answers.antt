use Rattle.std.proofs.Common.{◌≡◌, ◌/◌, length, arith}
use Rattle.std.proofs.lemmas.Bool.Decides.{nat_tests}
use Rattle.read_records.proofs.Groups.{next_place, last_place}
use Rattle.read_records.proofs.Stages.{leads_left}
use Rattle.read_records.proofs.reading.RecordsToRead.advance.Goals as goal

pub returns-then-current-clause-leads : goal.returns-then-current-clause-leads
returns-then-current-clause-leads c whole answers leads =
    leads_left whole answers c.args.env.now _ _ (next_place (c.args.current.now.file / 8) c.args.current.now.first c.args.current.now.last c.args.later.now.items c.if-current.true) leads

pub returns-then-is_empty-clause-leads : goal.returns-then-is_empty-clause-leads
returns-then-is_empty-clause-leads c whole answers leads =
    let none : length c.args.later.now.items ≡ 0 = grind (arith, nat_tests, c.is_empty.ensures, c.if-is_empty.true) in
    c.finish.ensures.leads whole answers _
    (leads_left whole answers c.args.env.now _ _ (last_place (c.args.current.now.file / 8) c.args.current.now.first c.args.current.now.last c.args.later.now.items c.if-current.false none) leads)
