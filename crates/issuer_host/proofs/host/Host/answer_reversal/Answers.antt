use Rattle.std.proofs.Common.{◌≡◌, [], ◌∷◌, ◌++◌, sym, ap, ◌∙◌}
use Rattle.std.specs.Prelude.{option_map}
use Rattle.emv_dict.specs.Bcd.{number_in}
use Rattle.host_ledger.specs.declared.key.Key.{Key}
use Rattle.issuer_host.specs.Balance.{account_with_pan, is_booked}
use Rattle.issuer_host.specs.Books.{Books, kept_at}
use Rattle.issuer_host.specs.Code.{is_approved}
use Rattle.issuer_host.specs.History.{HostData, with_first}
use Rattle.issuer_host.specs.Keeping.{kept_message}
use Rattle.issuer_host.specs.Records.{RecordsData, balance_left}
use Rattle.issuer_host.specs.Reply.{reversal_key, reversal_reply, new_reversal, kept_with, again_or, said_bytes}
use Rattle.issuer_host.proofs.Approved.{reversal_open, some_where}
use Rattle.issuer_host.proofs.Hosting.{known_balance}
use Rattle.issuer_host.proofs.Places.{has_pan}
use Rattle.issuer_host.proofs.Steps.{got_some, got_none, kept_made, on_ok_map, holds_after, holds_others, on_err}
use Rattle.issuer_host.proofs.host.Host.answer_reversal.Goals as goal

pub returns-in-Some-clause-reply : goal.returns-in-Some-clause-reply
returns-in-Some-clause-reply c =
    let s = c.args.self.now in
    let i = c.self.inside in
    let f = c.args.fields.now in
    let there : option_map (λ k. kept_message c.reversal_key-key.result k.now) c.reversal.result ≡ kept_at (reversal_key f) s.books.reversals =
    c.reversal.ensures ∙ ap (λ k. kept_at k i.records.books.reversals) c.reversal_key-key.ensures ∙ ap (λ (h : HostData). kept_at (reversal_key f) h.books.reversals) c.self.view_is in
    let kept_is = got_some c.reversal_key-key.result c.reversal.result c.in-Some.kept (kept_at (reversal_key f) s.books.reversals) there c.in-Some.is in
    c.again.ensures ∙ ap (λ r. again_or r c.args.message.now (said_bytes (reversal_reply (account_with_pan f.pan s.accounts) s.books f))) (sym kept_is)

pub returns-in-Some-clause-books : goal.returns-in-Some-clause-books
returns-in-Some-clause-books c =
    let s = c.args.self.now in
    let i = c.self.inside in
    let f = c.args.fields.now in
    let there : option_map (λ k. kept_message c.reversal_key-key.result k.now) c.reversal.result ≡ kept_at (reversal_key f) s.books.reversals =
    c.reversal.ensures ∙ ap (λ k. kept_at k i.records.books.reversals) c.reversal_key-key.ensures ∙ ap (λ (h : HostData). kept_at (reversal_key f) h.books.reversals) c.self.view_is in
    let kept_is = got_some c.reversal_key-key.result c.reversal.result c.in-Some.kept (kept_at (reversal_key f) s.books.reversals) there c.in-Some.is in
    ap (λ r. let b : Books = record { requests = s.books.requests; presentments = s.books.presentments; reversals = with_first r (new_reversal s.accounts s.books c.args.message.now f) s.books.reversals } in b) (sym kept_is)

pub keep_reversal-requires-clause-new : goal.keep_reversal-requires-clause-new
keep_reversal-requires-clause-new c = got_none c.reversal_key-key.result c.reversal.result (kept_at c.reversal_key-key.result c.self.inside.records.books.reversals) c.reversal.ensures c.in_default.is

pub keep_reversal-requires-clause-small : goal.keep_reversal-requires-clause-small
keep_reversal-requires-clause-small c = rw c.in_ok-kept.ensures.amount c.amount.ensures.small

pub keep_reversal-requires-clause-known : goal.keep_reversal-requires-clause-known
keep_reversal-requires-clause-known c = λ approved.
    let i = c.self.inside in
    let f = c.args.fields.now in
    let code = c.in_ok-kept.ensures.code ∙ c.reply_to_reversal-answered.ensures.code in
    let facts = reversal_open (account_with_pan f.pan i.accounts.now) i.records.books f (ap is_approved (sym code) ∙ approved) in
    let same_pan : c.reversal_key-key.result.pan ≡ facts.own.pan = ap (λ (k : Key). k.pan) c.reversal_key-key.ensures ∙ sym (has_pan f.pan i.accounts.now facts.own facts.known) in
    some_where _ _ (ap (balance_left i.records) same_pan ∙ known_balance i.accounts.now i.records i.served.items f.pan facts.own c.self.invariant facts.known)

pub keep_reversal-requires-clause-released : goal.keep_reversal-requires-clause-released
keep_reversal-requires-clause-released c = λ approved.
    let i = c.self.inside in
    let f = c.args.fields.now in
    let code = c.in_ok-kept.ensures.code ∙ c.reply_to_reversal-answered.ensures.code in
    let facts = reversal_open (account_with_pan f.pan i.accounts.now) i.records.books f (ap is_approved (sym code) ∙ approved) in
    ap (is_booked i.records.books) c.reversal_key-key.ensures ∙ facts.unbooked

pub invariant_of-self : goal.invariant_of-self
invariant_of-self c =
    let i = c.self.inside in
    let kept : RecordsData = record { accounts = i.records.accounts; books = record { requests = i.records.books.requests; presentments = i.records.books.presentments; reversals = i.records.books.reversals ++ kept_message c.reversal_key-key.result c.in_ok-kept.kept ∷ [] } } in
    holds_after c.keep_reversal.result i.accounts.now i.records c.keep_reversal.new.self kept i.served.items c.keep_reversal.ensures.ok c.keep_reversal.ensures.err c.self.invariant
    (holds_others i.accounts.now i.records i.served.items kept.books.presentments kept.books.reversals c.self.invariant)

pub returns-clause-reply : goal.returns-clause-reply
returns-clause-reply c =
    let s = c.args.self.now in
    let i = c.self.inside in
    let f = c.args.fields.now in
    let there : option_map (λ k. kept_message c.reversal_key-key.result k.now) c.reversal.result ≡ kept_at (reversal_key f) s.books.reversals =
    c.reversal.ensures ∙ ap (λ k. kept_at k i.records.books.reversals) c.reversal_key-key.ensures ∙ ap (λ (h : HostData). kept_at (reversal_key f) h.books.reversals) c.self.view_is in
    let none_is = got_none c.reversal_key-key.result c.reversal.result (kept_at (reversal_key f) s.books.reversals) there c.in_default.is in
    c.reply_to_reversal-answered.ensures.bytes ∙ ap (λ (h : HostData). said_bytes (reversal_reply (account_with_pan f.pan h.accounts) h.books f)) c.self.view_is
    ∙ ap (λ r. again_or r c.args.message.now (said_bytes (reversal_reply (account_with_pan f.pan s.accounts) s.books f))) (sym none_is)

pub returns-in_err-kept-clause-reply : goal.returns-in_err-kept-clause-reply
returns-in_err-kept-clause-reply c =
    let s = c.args.self.now in
    let i = c.self.inside in
    let f = c.args.fields.now in
    let there : option_map (λ k. kept_message c.reversal_key-key.result k.now) c.reversal.result ≡ kept_at (reversal_key f) s.books.reversals =
    c.reversal.ensures ∙ ap (λ k. kept_at k i.records.books.reversals) c.reversal_key-key.ensures ∙ ap (λ (h : HostData). kept_at (reversal_key f) h.books.reversals) c.self.view_is in
    let none_is = got_none c.reversal_key-key.result c.reversal.result (kept_at (reversal_key f) s.books.reversals) there c.in_default.is in
    c.reply_to_reversal-answered.ensures.bytes ∙ ap (λ (h : HostData). said_bytes (reversal_reply (account_with_pan f.pan h.accounts) h.books f)) c.self.view_is
    ∙ ap (λ r. again_or r c.args.message.now (said_bytes (reversal_reply (account_with_pan f.pan s.accounts) s.books f))) (sym none_is)

pub returns-clause-books : goal.returns-clause-books
returns-clause-books c =
    let s = c.args.self.now in
    let i = c.self.inside in
    let f = c.args.fields.now in
    let there : option_map (λ k. kept_message c.reversal_key-key.result k.now) c.reversal.result ≡ kept_at (reversal_key f) s.books.reversals =
    c.reversal.ensures ∙ ap (λ k. kept_at k i.records.books.reversals) c.reversal_key-key.ensures ∙ ap (λ (h : HostData). kept_at (reversal_key f) h.books.reversals) c.self.view_is in
    let none_is = got_none c.reversal_key-key.result c.reversal.result (kept_at (reversal_key f) s.books.reversals) there c.in_default.is in
    let made : kept_message c.reversal_key-key.result c.in_ok-kept.kept ≡ kept_with (reversal_key f) (number_in f.t9f02) c.args.message.now (reversal_reply (account_with_pan f.pan i.accounts.now) i.records.books f) =
    kept_made c.reversal_key-key.result (reversal_key f) c.in_ok-kept.kept (number_in f.t9f02) c.args.message.now (reversal_reply (account_with_pan f.pan i.accounts.now) i.records.books f) c.reversal_key-key.ensures
    (c.in_ok-kept.ensures.amount ∙ c.amount.ensures.value) c.in_ok-kept.ensures.message (c.in_ok-kept.ensures.code ∙ c.reply_to_reversal-answered.ensures.code) (c.in_ok-kept.ensures.online ∙ c.reply_to_reversal-answered.ensures.online)
    (c.in_ok-kept.ensures.reply ∙ c.reply_to_reversal-answered.ensures.bytes) in
    on_ok_map c.keep_reversal.result (λ is. ap (λ (x : RecordsData). x.books) is ∙ ap (λ n. let b : Books = record { requests = i.records.books.requests; presentments = i.records.books.presentments; reversals = i.records.books.reversals ++ n ∷ [] } in b) made
    ∙ ap (λ (h : HostData). let b : Books = record { requests = h.books.requests; presentments = h.books.presentments; reversals = h.books.reversals ++ (new_reversal h.accounts h.books c.args.message.now f) ∷ [] } in b) c.self.view_is
    ∙ ap (λ r. let b : Books = record { requests = s.books.requests; presentments = s.books.presentments; reversals = with_first r (new_reversal s.accounts s.books c.args.message.now f) s.books.reversals } in b) (sym none_is)) c.keep_reversal.ensures.ok

pub returns-in_err-kept-clause-memory : goal.returns-in_err-kept-clause-memory
returns-in_err-kept-clause-memory c =
    let s = c.args.self.now in
    let i = c.self.inside in
    let f = c.args.fields.now in
    let there : option_map (λ k. kept_message c.reversal_key-key.result k.now) c.reversal.result ≡ kept_at (reversal_key f) s.books.reversals =
    c.reversal.ensures ∙ ap (λ k. kept_at k i.records.books.reversals) c.reversal_key-key.ensures ∙ ap (λ (h : HostData). kept_at (reversal_key f) h.books.reversals) c.self.view_is in
    let none_is = got_none c.reversal_key-key.result c.reversal.result (kept_at (reversal_key f) s.books.reversals) there c.in_default.is in
    on_err c.from_residual.result none_is

pub returns-clause-memory : goal.returns-clause-memory
returns-clause-memory c =
    let s = c.args.self.now in
    let i = c.self.inside in
    let f = c.args.fields.now in
    let there : option_map (λ k. kept_message c.reversal_key-key.result k.now) c.reversal.result ≡ kept_at (reversal_key f) s.books.reversals =
    c.reversal.ensures ∙ ap (λ k. kept_at k i.records.books.reversals) c.reversal_key-key.ensures ∙ ap (λ (h : HostData). kept_at (reversal_key f) h.books.reversals) c.self.view_is in
    let none_is = got_none c.reversal_key-key.result c.reversal.result (kept_at (reversal_key f) s.books.reversals) there c.in_default.is in
    on_err c.keep_reversal.result none_is
