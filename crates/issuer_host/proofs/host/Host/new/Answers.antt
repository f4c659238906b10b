use Rattle.std.proofs.Common.{◌≡◌, map, ap, ◌∙◌}
use Rattle.issuer_host.specs.Books.{no_books}
use Rattle.issuer_host.specs.Holds.{opening_balance}
use Rattle.issuer_host.specs.Records.{RecordsData}
use Rattle.issuer_host.proofs.Hosting.{holds_new, distinct_openings}
use Rattle.issuer_host.proofs.host.Host.new.Goals as goal

pub invariant_of-result : goal.invariant_of-result
invariant_of-result c =
    let is : c.in_ok-records.records ≡ record { accounts = map opening_balance c.args.accounts.now; books = no_books } =
    c.in_ok-records.ensures.ok ∙ ap (λ l. let r : RecordsData = record { accounts = l; books = no_books } in r) c.in-Ok.ensures.value in
    holds_new c.args.accounts.now c.in_ok-records.records c.in-Ok-none_served.served.items c.requires is c.in-Ok-none_served.ensures

pub returns-clause-distinct : goal.returns-clause-distinct
returns-clause-distinct c = distinct_openings c.args.accounts.now c.in-Ok.openings.items c.in-Ok.ensures.value c.in_ok-records.ensures.distinct
