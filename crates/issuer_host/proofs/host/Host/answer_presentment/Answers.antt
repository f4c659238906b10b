use Rattle.std.proofs.Common.{◌≡◌, [], ◌∷◌, ◌++◌, sym, ap, subst, ◌∙◌}
use Rattle.std.specs.Prelude.{option_map}
use Rattle.emv_dict.specs.Bcd.{number_in}
use Rattle.auth_message.specs.Accepted.{AreDigitBytes}
use Rattle.auth_message.specs.Data.{PresentData}
use Rattle.host_ledger.specs.declared.key.Key.{Key}
use Rattle.issuer_host.specs.Balance.{account_with_pan, is_released}
use Rattle.issuer_host.specs.Books.{Books, kept_at}
use Rattle.issuer_host.specs.Code.{is_approved}
use Rattle.issuer_host.specs.History.{HostData, with_first}
use Rattle.issuer_host.specs.Keeping.{kept_message}
use Rattle.issuer_host.specs.Records.{RecordsData, balance_left}
use Rattle.issuer_host.specs.Reply.{present_key, present_reply, new_present, kept_with, again_or, said_bytes}
use Rattle.issuer_host.proofs.Approved.{present_open, some_where}
use Rattle.issuer_host.proofs.Hosting.{known_balance}
use Rattle.issuer_host.proofs.Places.{has_pan}
use Rattle.issuer_host.proofs.Steps.{got_some, got_none, kept_made, on_ok_map, holds_after, holds_others, on_err}
use Rattle.issuer_host.proofs.host.Host.answer_presentment.Goals as goal

pub returns-in-Some-clause-reply : goal.returns-in-Some-clause-reply
returns-in-Some-clause-reply c =
    let s = c.args.self.now in
    let i = c.self.inside in
    let f = c.args.fields.now in
    let there : option_map (λ k. kept_message c.present_key-key.result k.now) c.presentment.result ≡ kept_at (present_key f) s.books.presentments =
    c.presentment.ensures ∙ ap (λ k. kept_at k i.records.books.presentments) c.present_key-key.ensures ∙ ap (λ (h : HostData). kept_at (present_key f) h.books.presentments) c.self.view_is in
    let kept_is = got_some c.present_key-key.result c.presentment.result c.in-Some.kept (kept_at (present_key f) s.books.presentments) there c.in-Some.is in
    c.again.ensures ∙ ap (λ r. again_or r c.args.message.now (said_bytes (present_reply s.keys (account_with_pan f.named.pan s.accounts) s.books f))) (sym kept_is)

pub returns-in-Some-clause-books : goal.returns-in-Some-clause-books
returns-in-Some-clause-books c =
    let s = c.args.self.now in
    let i = c.self.inside in
    let f = c.args.fields.now in
    let there : option_map (λ k. kept_message c.present_key-key.result k.now) c.presentment.result ≡ kept_at (present_key f) s.books.presentments =
    c.presentment.ensures ∙ ap (λ k. kept_at k i.records.books.presentments) c.present_key-key.ensures ∙ ap (λ (h : HostData). kept_at (present_key f) h.books.presentments) c.self.view_is in
    let kept_is = got_some c.present_key-key.result c.presentment.result c.in-Some.kept (kept_at (present_key f) s.books.presentments) there c.in-Some.is in
    ap (λ r. let b : Books = record { requests = s.books.requests; presentments = with_first r (new_present s.keys s.accounts s.books c.args.message.now f) s.books.presentments; reversals = s.books.reversals } in b) (sym kept_is)

pub keep_presentment-requires-clause-new : goal.keep_presentment-requires-clause-new
keep_presentment-requires-clause-new c = got_none c.present_key-key.result c.presentment.result (kept_at c.present_key-key.result c.self.inside.records.books.presentments) c.presentment.ensures c.in_default.is

pub keep_presentment-requires-clause-small : goal.keep_presentment-requires-clause-small
keep_presentment-requires-clause-small c = rw c.in_ok-kept.ensures.amount c.amount.ensures.small

pub amount-requires : goal.amount-requires
amount-requires c = subst (λ (d : PresentData). AreDigitBytes d.paid.t9f02) (sym c.fields.view_is) c.requires

pub keep_presentment-requires-clause-known : goal.keep_presentment-requires-clause-known
keep_presentment-requires-clause-known c = λ approved.
    let i = c.self.inside in
    let f = c.args.fields.now in
    let code = c.in_ok-kept.ensures.code ∙ c.reply_to_presentment-answered.ensures.code in
    let facts = present_open i.keys (account_with_pan f.named.pan i.accounts.now) i.records.books f (ap is_approved (sym code) ∙ approved) in
    let same_pan : c.present_key-key.result.pan ≡ facts.own.pan = ap (λ (k : Key). k.pan) c.present_key-key.ensures ∙ sym (has_pan f.named.pan i.accounts.now facts.own facts.known) in
    some_where _ _ (ap (balance_left i.records) same_pan ∙ known_balance i.accounts.now i.records i.served.items f.named.pan facts.own c.self.invariant facts.known)

pub keep_presentment-requires-clause-booked : goal.keep_presentment-requires-clause-booked
keep_presentment-requires-clause-booked c = λ approved.
    let i = c.self.inside in
    let f = c.args.fields.now in
    let code = c.in_ok-kept.ensures.code ∙ c.reply_to_presentment-answered.ensures.code in
    let facts = present_open i.keys (account_with_pan f.named.pan i.accounts.now) i.records.books f (ap is_approved (sym code) ∙ approved) in
    ap (is_released i.records.books) c.present_key-key.ensures ∙ facts.unreleased

pub invariant_of-self : goal.invariant_of-self
invariant_of-self c =
    let i = c.self.inside in
    let kept : RecordsData = record { accounts = i.records.accounts; books = record { requests = i.records.books.requests; presentments = i.records.books.presentments ++ kept_message c.present_key-key.result c.in_ok-kept.kept ∷ []; reversals = i.records.books.reversals } } in
    holds_after c.keep_presentment.result i.accounts.now i.records c.keep_presentment.new.self kept i.served.items c.keep_presentment.ensures.ok c.keep_presentment.ensures.err c.self.invariant
    (holds_others i.accounts.now i.records i.served.items kept.books.presentments kept.books.reversals c.self.invariant)

pub returns-clause-reply : goal.returns-clause-reply
returns-clause-reply c =
    let s = c.args.self.now in
    let i = c.self.inside in
    let f = c.args.fields.now in
    let there : option_map (λ k. kept_message c.present_key-key.result k.now) c.presentment.result ≡ kept_at (present_key f) s.books.presentments =
    c.presentment.ensures ∙ ap (λ k. kept_at k i.records.books.presentments) c.present_key-key.ensures ∙ ap (λ (h : HostData). kept_at (present_key f) h.books.presentments) c.self.view_is in
    let none_is = got_none c.present_key-key.result c.presentment.result (kept_at (present_key f) s.books.presentments) there c.in_default.is in
    c.reply_to_presentment-answered.ensures.bytes ∙ ap (λ (h : HostData). said_bytes (present_reply h.keys (account_with_pan f.named.pan h.accounts) h.books f)) c.self.view_is
    ∙ ap (λ r. again_or r c.args.message.now (said_bytes (present_reply s.keys (account_with_pan f.named.pan s.accounts) s.books f))) (sym none_is)

pub returns-in_err-kept-clause-reply : goal.returns-in_err-kept-clause-reply
returns-in_err-kept-clause-reply c =
    let s = c.args.self.now in
    let i = c.self.inside in
    let f = c.args.fields.now in
    let there : option_map (λ k. kept_message c.present_key-key.result k.now) c.presentment.result ≡ kept_at (present_key f) s.books.presentments =
    c.presentment.ensures ∙ ap (λ k. kept_at k i.records.books.presentments) c.present_key-key.ensures ∙ ap (λ (h : HostData). kept_at (present_key f) h.books.presentments) c.self.view_is in
    let none_is = got_none c.present_key-key.result c.presentment.result (kept_at (present_key f) s.books.presentments) there c.in_default.is in
    c.reply_to_presentment-answered.ensures.bytes ∙ ap (λ (h : HostData). said_bytes (present_reply h.keys (account_with_pan f.named.pan h.accounts) h.books f)) c.self.view_is
    ∙ ap (λ r. again_or r c.args.message.now (said_bytes (present_reply s.keys (account_with_pan f.named.pan s.accounts) s.books f))) (sym none_is)

pub returns-clause-books : goal.returns-clause-books
returns-clause-books c =
    let s = c.args.self.now in
    let i = c.self.inside in
    let f = c.args.fields.now in
    let there : option_map (λ k. kept_message c.present_key-key.result k.now) c.presentment.result ≡ kept_at (present_key f) s.books.presentments =
    c.presentment.ensures ∙ ap (λ k. kept_at k i.records.books.presentments) c.present_key-key.ensures ∙ ap (λ (h : HostData). kept_at (present_key f) h.books.presentments) c.self.view_is in
    let none_is = got_none c.present_key-key.result c.presentment.result (kept_at (present_key f) s.books.presentments) there c.in_default.is in
    let made : kept_message c.present_key-key.result c.in_ok-kept.kept ≡ kept_with (present_key f) (number_in f.paid.t9f02) c.args.message.now (present_reply i.keys (account_with_pan f.named.pan i.accounts.now) i.records.books f) =
    kept_made c.present_key-key.result (present_key f) c.in_ok-kept.kept (number_in f.paid.t9f02) c.args.message.now (present_reply i.keys (account_with_pan f.named.pan i.accounts.now) i.records.books f) c.present_key-key.ensures
    (c.in_ok-kept.ensures.amount ∙ c.amount.ensures.value ∙ ap (λ (d : PresentData). number_in d.paid.t9f02) c.fields.view_is) c.in_ok-kept.ensures.message (c.in_ok-kept.ensures.code ∙ c.reply_to_presentment-answered.ensures.code) (c.in_ok-kept.ensures.online ∙ c.reply_to_presentment-answered.ensures.online)
    (c.in_ok-kept.ensures.reply ∙ c.reply_to_presentment-answered.ensures.bytes) in
    on_ok_map c.keep_presentment.result (λ is. ap (λ (x : RecordsData). x.books) is ∙ ap (λ n. let b : Books = record { requests = i.records.books.requests; presentments = i.records.books.presentments ++ n ∷ []; reversals = i.records.books.reversals } in b) made
    ∙ ap (λ (h : HostData). let b : Books = record { requests = h.books.requests; presentments = h.books.presentments ++ (new_present h.keys h.accounts h.books c.args.message.now f) ∷ []; reversals = h.books.reversals } in b) c.self.view_is
    ∙ ap (λ r. let b : Books = record { requests = s.books.requests; presentments = with_first r (new_present s.keys s.accounts s.books c.args.message.now f) s.books.presentments; reversals = s.books.reversals } in b) (sym none_is)) c.keep_presentment.ensures.ok

pub returns-in_err-kept-clause-memory : goal.returns-in_err-kept-clause-memory
returns-in_err-kept-clause-memory c =
    let s = c.args.self.now in
    let i = c.self.inside in
    let f = c.args.fields.now in
    let there : option_map (λ k. kept_message c.present_key-key.result k.now) c.presentment.result ≡ kept_at (present_key f) s.books.presentments =
    c.presentment.ensures ∙ ap (λ k. kept_at k i.records.books.presentments) c.present_key-key.ensures ∙ ap (λ (h : HostData). kept_at (present_key f) h.books.presentments) c.self.view_is in
    let none_is = got_none c.present_key-key.result c.presentment.result (kept_at (present_key f) s.books.presentments) there c.in_default.is in
    on_err c.from_residual.result none_is

pub returns-clause-memory : goal.returns-clause-memory
returns-clause-memory c =
    let s = c.args.self.now in
    let i = c.self.inside in
    let f = c.args.fields.now in
    let there : option_map (λ k. kept_message c.present_key-key.result k.now) c.presentment.result ≡ kept_at (present_key f) s.books.presentments =
    c.presentment.ensures ∙ ap (λ k. kept_at k i.records.books.presentments) c.present_key-key.ensures ∙ ap (λ (h : HostData). kept_at (present_key f) h.books.presentments) c.self.view_is in
    let none_is = got_none c.present_key-key.result c.presentment.result (kept_at (present_key f) s.books.presentments) there c.in_default.is in
    on_err c.keep_presentment.result none_is
