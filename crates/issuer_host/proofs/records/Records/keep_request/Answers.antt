use Rattle.std.proofs.Common.{◌≡◌, true, false, ◌&&◌, [], ◌∷◌, ◌++◌, None, sym, ap, subst, ◌∙◌}
use Rattle.issuer_host.specs.Books.{KeptCall, Books, kept_at}
use Rattle.issuer_host.specs.Code.{is_approved}
use Rattle.issuer_host.specs.Keeping.{kept_message}
use Rattle.issuer_host.specs.Records.{RecordsData, LedgerAgrees, is_only_requested, covers, balance_left}
use Rattle.issuer_host.proofs.Agreement.{request_agrees, request_declined, open_untouched}
use Rattle.issuer_host.proofs.records.Records.keep_request.Goals as goal

pub invariant_of-self-then-not-approved : goal.invariant_of-self-then-not-approved
invariant_of-self-then-not-approved c =
    let i = c.self.inside in
    let books : Books = record { requests = i.requests; presentments = i.presentments; reversals = i.reversals } in
    let new : KeptCall = kept_message c.args.key.now c.args.kept in
    let put : c.put.new.self ≡ i.requests ++ new ∷ [] = c.in_ok-put.ensures.ok ∙ ap (λ k. i.requests ++ kept_message k c.args.kept ∷ []) c.copy.ensures in
    let none : kept_at c.args.key.now i.requests ≡ None = ap (λ (r : RecordsData). kept_at c.args.key.now r.books.requests) c.self.view_is ∙ c.requires.new in
    let declined : is_approved c.args.kept.code ≡ false = sym c.is_approved-approved.ensures ∙ c.if-not-approved.true in
    subst (λ l. LedgerAgrees (record { requests = l; presentments = i.presentments; reversals = i.reversals }) i.ledger.entries) (sym put) (request_declined books new i.ledger.entries declined none c.self.invariant)

pub invariant_of-self-in-Ok : goal.invariant_of-self-in-Ok
invariant_of-self-in-Ok c =
    let i = c.self.inside in
    let books : Books = record { requests = i.requests; presentments = i.presentments; reversals = i.reversals } in
    let new : KeptCall = kept_message c.args.key.now c.args.kept in
    let put : c.put.new.self ≡ i.requests ++ new ∷ [] = c.in_ok-put.ensures.ok ∙ ap (λ k. i.requests ++ kept_message k c.args.kept ∷ []) c.copy.ensures in
    let none : kept_at c.args.key.now i.requests ≡ None = ap (λ (r : RecordsData). kept_at c.args.key.now r.books.requests) c.self.view_is ∙ c.requires.new in
    let approved : is_approved c.args.kept.code ≡ true = sym c.is_approved-approved.ensures ∙ c.if-not-approved.false in
    let free = open_untouched books c.args.key.now (covers (balance_left c.args.self.now c.args.key.now.pan) c.args.kept.amount)
    (ap (λ (r : RecordsData). is_only_requested r.books c.args.key.now && covers (balance_left c.args.self.now c.args.key.now.pan) c.args.kept.amount) c.self.view_is ∙ c.requires.held approved) in
    subst (λ l. LedgerAgrees (record { requests = l; presentments = i.presentments; reversals = i.reversals }) c.hold.new.ledger.entries) (sym put) (request_agrees books new i.ledger c.hold.new.ledger approved none free.0 free.1 c.self.invariant c.in-Ok.ensures.ok)
