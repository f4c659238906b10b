use Rattle.std.proofs.Common.{◌≡◌, true, false, [], ◌∷◌, ◌++◌, None, sym, ap, subst, ◌∙◌}
use Rattle.issuer_host.specs.Balance.{is_released}
use Rattle.issuer_host.specs.Books.{KeptCall, Books, kept_at}
use Rattle.issuer_host.specs.Code.{is_approved}
use Rattle.issuer_host.specs.Keeping.{kept_message}
use Rattle.issuer_host.specs.Records.{RecordsData, LedgerAgrees}
use Rattle.issuer_host.proofs.Agreement.{presentment_agrees, presentment_declined}
use Rattle.issuer_host.proofs.records.Records.keep_presentment.Goals as goal

pub invariant_of-self-then-not-approved : goal.invariant_of-self-then-not-approved
invariant_of-self-then-not-approved c =
    let i = c.self.inside in
    let books : Books = record { requests = i.requests; presentments = i.presentments; reversals = i.reversals } in
    let new : KeptCall = kept_message c.args.key.now c.args.kept in
    let put : c.put.new.self ≡ i.presentments ++ new ∷ [] = c.in_ok-put.ensures.ok ∙ ap (λ k. i.presentments ++ kept_message k c.args.kept ∷ []) c.copy.ensures in
    let none : kept_at c.args.key.now i.presentments ≡ None = ap (λ (r : RecordsData). kept_at c.args.key.now r.books.presentments) c.self.view_is ∙ c.requires.new in
    let declined : is_approved c.args.kept.code ≡ false = sym c.is_approved-approved.ensures ∙ c.if-not-approved.true in
    subst (λ l. LedgerAgrees (record { requests = i.requests; presentments = l; reversals = i.reversals }) i.ledger.entries) (sym put) (presentment_declined books new i.ledger.entries declined c.self.invariant)

pub invariant_of-self-in-Ok : goal.invariant_of-self-in-Ok
invariant_of-self-in-Ok c =
    let i = c.self.inside in
    let books : Books = record { requests = i.requests; presentments = i.presentments; reversals = i.reversals } in
    let new : KeptCall = kept_message c.args.key.now c.args.kept in
    let put : c.put.new.self ≡ i.presentments ++ new ∷ [] = c.in_ok-put.ensures.ok ∙ ap (λ k. i.presentments ++ kept_message k c.args.kept ∷ []) c.copy.ensures in
    let none : kept_at c.args.key.now i.presentments ≡ None = ap (λ (r : RecordsData). kept_at c.args.key.now r.books.presentments) c.self.view_is ∙ c.requires.new in
    let approved : is_approved c.args.kept.code ≡ true = sym c.is_approved-approved.ensures ∙ c.if-not-approved.false in
    let free : is_released books c.args.key.now ≡ false = ap (λ (r : RecordsData). is_released r.books c.args.key.now) c.self.view_is ∙ c.requires.booked approved in
    subst (λ l. LedgerAgrees (record { requests = i.requests; presentments = l; reversals = i.reversals }) c.book.new.ledger.entries) (sym put) (presentment_agrees books new i.ledger c.book.new.ledger approved none free c.self.invariant c.in-Ok.ensures.ok)
