use Rattle.std.proofs.Common.{◌≡◌, true, false, [], ◌∷◌, ◌++◌, None, sym, ap, subst, ◌∙◌}
use Rattle.issuer_host.specs.Balance.{is_booked}
use Rattle.issuer_host.specs.Books.{KeptCall, Books, kept_at}
use Rattle.issuer_host.specs.Code.{is_approved}
use Rattle.issuer_host.specs.Keeping.{kept_message}
use Rattle.issuer_host.specs.Records.{RecordsData, LedgerAgrees}
use Rattle.issuer_host.proofs.Agreement.{reversal_agrees, reversal_declined}
use Rattle.issuer_host.proofs.records.Records.keep_reversal.Goals as goal

pub invariant_of-self-then-not-approved : goal.invariant_of-self-then-not-approved
invariant_of-self-then-not-approved c =
    let i = c.self.inside in
    let books : Books = record { requests = i.requests; presentments = i.presentments; reversals = i.reversals } in
    let new : KeptCall = kept_message c.args.key.now c.args.kept in
    let put : c.put.new.self ≡ i.reversals ++ new ∷ [] = c.in_ok-put.ensures.ok ∙ ap (λ k. i.reversals ++ kept_message k c.args.kept ∷ []) c.copy.ensures in
    let none : kept_at c.args.key.now i.reversals ≡ None = ap (λ (r : RecordsData). kept_at c.args.key.now r.books.reversals) c.self.view_is ∙ c.requires.new in
    let declined : is_approved c.args.kept.code ≡ false = sym c.is_approved-approved.ensures ∙ c.if-not-approved.true in
    subst (λ l. LedgerAgrees (record { requests = i.requests; presentments = i.presentments; reversals = l }) i.ledger.entries) (sym put) (reversal_declined books new i.ledger.entries declined c.self.invariant)

pub invariant_of-self-in-Ok : goal.invariant_of-self-in-Ok
invariant_of-self-in-Ok c =
    let i = c.self.inside in
    let books : Books = record { requests = i.requests; presentments = i.presentments; reversals = i.reversals } in
    let new : KeptCall = kept_message c.args.key.now c.args.kept in
    let put : c.put.new.self ≡ i.reversals ++ new ∷ [] = c.in_ok-put.ensures.ok ∙ ap (λ k. i.reversals ++ kept_message k c.args.kept ∷ []) c.copy.ensures in
    let none : kept_at c.args.key.now i.reversals ≡ None = ap (λ (r : RecordsData). kept_at c.args.key.now r.books.reversals) c.self.view_is ∙ c.requires.new in
    let approved : is_approved c.args.kept.code ≡ true = sym c.is_approved-approved.ensures ∙ c.if-not-approved.false in
    let free : is_booked books c.args.key.now ≡ false = ap (λ (r : RecordsData). is_booked r.books c.args.key.now) c.self.view_is ∙ c.requires.released approved in
    subst (λ l. LedgerAgrees (record { requests = i.requests; presentments = i.presentments; reversals = l }) c.release.new.ledger.entries) (sym put) (reversal_agrees books new i.ledger c.release.new.ledger approved none free c.self.invariant c.in-Ok.ensures.ok)
