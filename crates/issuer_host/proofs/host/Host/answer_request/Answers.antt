use Rattle.std.proofs.Common.{◌≡◌, [], ◌∷◌, ◌++◌, Some, sym, ap, subst, ◌∙◌}
use Rattle.std.specs.Prelude.{option_map}
use Rattle.emv_dict.specs.Bcd.{number_in}
use Rattle.auth_message.specs.Accepted.{AreDigitBytes}
use Rattle.auth_message.specs.Data.{RequestData}
use Rattle.host_ledger.specs.declared.key.Key.{Key}
use Rattle.issuer_host.specs.Balance.{account_with_pan}
use Rattle.issuer_host.specs.Books.{KeptCall, Books, kept_at}
use Rattle.issuer_host.specs.Code.{is_approved}
use Rattle.issuer_host.specs.History.{HostData, with_first}
use Rattle.issuer_host.specs.Holds.{Holds, account_place, with_flag}
use Rattle.issuer_host.specs.Keeping.{kept_message}
use Rattle.issuer_host.specs.Records.{RecordsData}
use Rattle.issuer_host.specs.Reply.{request_key, request_reply, new_request, kept_with, again_or, said_bytes}
use Rattle.issuer_host.proofs.Hosting.{holds_plain, holds_online}
use Rattle.issuer_host.proofs.Steps.{got_some, got_none, kept_made, online_known, on_err}
use Rattle.issuer_host.proofs.host.Host.answer_request.Goals as goal

pub returns-in-Some-clause-reply : goal.returns-in-Some-clause-reply
returns-in-Some-clause-reply c =
    let s = c.args.self.now in
    let i = c.self.inside in
    let f = c.args.fields.now in
    let there : option_map (λ k. kept_message c.request_key-key.result k.now) c.request.result ≡ kept_at (request_key f) s.books.requests =
    c.request.ensures ∙ ap (λ k. kept_at k i.records.books.requests) c.request_key-key.ensures ∙ ap (λ (h : HostData). kept_at (request_key f) h.books.requests) c.self.view_is in
    let kept_is = got_some c.request_key-key.result c.request.result c.in-Some.kept (kept_at (request_key f) s.books.requests) there c.in-Some.is in
    c.again.ensures ∙ ap (λ r. again_or r c.args.message.now (said_bytes (request_reply s.keys (account_with_pan f.named.pan s.accounts) s.books f))) (sym kept_is)

pub returns-in-Some-clause-books : goal.returns-in-Some-clause-books
returns-in-Some-clause-books c =
    let s = c.args.self.now in
    let i = c.self.inside in
    let f = c.args.fields.now in
    let there : option_map (λ k. kept_message c.request_key-key.result k.now) c.request.result ≡ kept_at (request_key f) s.books.requests =
    c.request.ensures ∙ ap (λ k. kept_at k i.records.books.requests) c.request_key-key.ensures ∙ ap (λ (h : HostData). kept_at (request_key f) h.books.requests) c.self.view_is in
    let kept_is = got_some c.request_key-key.result c.request.result c.in-Some.kept (kept_at (request_key f) s.books.requests) there c.in-Some.is in
    ap (λ r. let b : Books = record { requests = with_first r (new_request s.keys s.accounts s.books c.args.message.now f) s.books.requests; presentments = s.books.presentments; reversals = s.books.reversals } in b) (sym kept_is)

pub keep_request-requires-clause-new : goal.keep_request-requires-clause-new
keep_request-requires-clause-new c = got_none c.request_key-key.result c.request.result (kept_at c.request_key-key.result c.self.inside.records.books.requests) c.request.ensures c.in_default.is

pub keep_request-requires-clause-small : goal.keep_request-requires-clause-small
keep_request-requires-clause-small c = rw c.in_ok-kept.ensures.amount c.amount.ensures.small

pub amount-requires : goal.amount-requires
amount-requires c = subst (λ (d : RequestData). AreDigitBytes d.paid.t9f02) (sym c.fields.view_is) c.requires

pub returns-then-answered-clause-reply : goal.returns-then-answered-clause-reply
returns-then-answered-clause-reply c =
    let s = c.args.self.now in
    let i = c.self.inside in
    let f = c.args.fields.now in
    let there : option_map (λ k. kept_message c.request_key-key.result k.now) c.request.result ≡ kept_at (request_key f) s.books.requests =
    c.request.ensures ∙ ap (λ k. kept_at k i.records.books.requests) c.request_key-key.ensures ∙ ap (λ (h : HostData). kept_at (request_key f) h.books.requests) c.self.view_is in
    let none_is = got_none c.request_key-key.result c.request.result (kept_at (request_key f) s.books.requests) there c.in_default.is in
    c.reply_to_request-answered.ensures.bytes ∙ ap (λ (h : HostData). said_bytes (request_reply h.keys (account_with_pan f.named.pan h.accounts) h.books f)) c.self.view_is
    ∙ ap (λ r. again_or r c.args.message.now (said_bytes (request_reply s.keys (account_with_pan f.named.pan s.accounts) s.books f))) (sym none_is)

pub returns-in_err-kept-clause-reply : goal.returns-in_err-kept-clause-reply
returns-in_err-kept-clause-reply c =
    let s = c.args.self.now in
    let i = c.self.inside in
    let f = c.args.fields.now in
    let there : option_map (λ k. kept_message c.request_key-key.result k.now) c.request.result ≡ kept_at (request_key f) s.books.requests =
    c.request.ensures ∙ ap (λ k. kept_at k i.records.books.requests) c.request_key-key.ensures ∙ ap (λ (h : HostData). kept_at (request_key f) h.books.requests) c.self.view_is in
    let none_is = got_none c.request_key-key.result c.request.result (kept_at (request_key f) s.books.requests) there c.in_default.is in
    c.reply_to_request-answered.ensures.bytes ∙ ap (λ (h : HostData). said_bytes (request_reply h.keys (account_with_pan f.named.pan h.accounts) h.books f)) c.self.view_is
    ∙ ap (λ r. again_or r c.args.message.now (said_bytes (request_reply s.keys (account_with_pan f.named.pan s.accounts) s.books f))) (sym none_is)

pub returns-in_err-keep_request-clause-reply : goal.returns-in_err-keep_request-clause-reply
returns-in_err-keep_request-clause-reply c =
    let s = c.args.self.now in
    let i = c.self.inside in
    let f = c.args.fields.now in
    let there : option_map (λ k. kept_message c.request_key-key.result k.now) c.request.result ≡ kept_at (request_key f) s.books.requests =
    c.request.ensures ∙ ap (λ k. kept_at k i.records.books.requests) c.request_key-key.ensures ∙ ap (λ (h : HostData). kept_at (request_key f) h.books.requests) c.self.view_is in
    let none_is = got_none c.request_key-key.result c.request.result (kept_at (request_key f) s.books.requests) there c.in_default.is in
    c.reply_to_request-answered.ensures.bytes ∙ ap (λ (h : HostData). said_bytes (request_reply h.keys (account_with_pan f.named.pan h.accounts) h.books f)) c.self.view_is
    ∙ ap (λ r. again_or r c.args.message.now (said_bytes (request_reply s.keys (account_with_pan f.named.pan s.accounts) s.books f))) (sym none_is)

pub returns-then-answered-clause-books : goal.returns-then-answered-clause-books
returns-then-answered-clause-books c =
    let s = c.args.self.now in
    let i = c.self.inside in
    let f = c.args.fields.now in
    let there : option_map (λ k. kept_message c.request_key-key.result k.now) c.request.result ≡ kept_at (request_key f) s.books.requests =
    c.request.ensures ∙ ap (λ k. kept_at k i.records.books.requests) c.request_key-key.ensures ∙ ap (λ (h : HostData). kept_at (request_key f) h.books.requests) c.self.view_is in
    let none_is = got_none c.request_key-key.result c.request.result (kept_at (request_key f) s.books.requests) there c.in_default.is in
    let made : kept_message c.request_key-key.result c.in_ok-kept.kept ≡ kept_with (request_key f) (number_in f.paid.t9f02) c.args.message.now (request_reply i.keys (account_with_pan f.named.pan i.accounts.now) i.records.books f) =
    kept_made c.request_key-key.result (request_key f) c.in_ok-kept.kept (number_in f.paid.t9f02) c.args.message.now (request_reply i.keys (account_with_pan f.named.pan i.accounts.now) i.records.books f) c.request_key-key.ensures
    (c.in_ok-kept.ensures.amount ∙ c.amount.ensures.value ∙ ap (λ (d : RequestData). number_in d.paid.t9f02) c.fields.view_is) c.in_ok-kept.ensures.message (c.in_ok-kept.ensures.code ∙ c.reply_to_request-answered.ensures.code) (c.in_ok-kept.ensures.online ∙ c.reply_to_request-answered.ensures.online)
    (c.in_ok-kept.ensures.reply ∙ c.reply_to_request-answered.ensures.bytes) in
    ap (λ (x : RecordsData). x.books) c.in_ok-keep_request.ensures.ok ∙ ap (λ n. let b : Books = record { requests = i.records.books.requests ++ n ∷ []; presentments = i.records.books.presentments; reversals = i.records.books.reversals } in b) made
    ∙ ap (λ (h : HostData). let b : Books = record { requests = h.books.requests ++ (new_request h.keys h.accounts h.books c.args.message.now f) ∷ []; presentments = h.books.presentments; reversals = h.books.reversals } in b) c.self.view_is
    ∙ ap (λ r. let b : Books = record { requests = with_first r (new_request s.keys s.accounts s.books c.args.message.now f) s.books.requests; presentments = s.books.presentments; reversals = s.books.reversals } in b) (sym none_is)

pub returns-else-answered-clause-reply : goal.returns-else-answered-clause-reply
returns-else-answered-clause-reply c =
    let s = c.args.self.now in
    let i = c.self.inside in
    let f = c.args.fields.now in
    let there : option_map (λ k. kept_message c.request_key-key.result k.now) c.request.result ≡ kept_at (request_key f) s.books.requests =
    c.request.ensures ∙ ap (λ k. kept_at k i.records.books.requests) c.request_key-key.ensures ∙ ap (λ (h : HostData). kept_at (request_key f) h.books.requests) c.self.view_is in
    let none_is = got_none c.request_key-key.result c.request.result (kept_at (request_key f) s.books.requests) there c.in_default.is in
    c.reply_to_request-answered.ensures.bytes ∙ ap (λ (h : HostData). said_bytes (request_reply h.keys (account_with_pan f.named.pan h.accounts) h.books f)) c.self.view_is
    ∙ ap (λ r. again_or r c.args.message.now (said_bytes (request_reply s.keys (account_with_pan f.named.pan s.accounts) s.books f))) (sym none_is)

pub returns-else-answered-clause-books : goal.returns-else-answered-clause-books
returns-else-answered-clause-books c =
    let s = c.args.self.now in
    let i = c.self.inside in
    let f = c.args.fields.now in
    let there : option_map (λ k. kept_message c.request_key-key.result k.now) c.request.result ≡ kept_at (request_key f) s.books.requests =
    c.request.ensures ∙ ap (λ k. kept_at k i.records.books.requests) c.request_key-key.ensures ∙ ap (λ (h : HostData). kept_at (request_key f) h.books.requests) c.self.view_is in
    let none_is = got_none c.request_key-key.result c.request.result (kept_at (request_key f) s.books.requests) there c.in_default.is in
    let made : kept_message c.request_key-key.result c.in_ok-kept.kept ≡ kept_with (request_key f) (number_in f.paid.t9f02) c.args.message.now (request_reply i.keys (account_with_pan f.named.pan i.accounts.now) i.records.books f) =
    kept_made c.request_key-key.result (request_key f) c.in_ok-kept.kept (number_in f.paid.t9f02) c.args.message.now (request_reply i.keys (account_with_pan f.named.pan i.accounts.now) i.records.books f) c.request_key-key.ensures
    (c.in_ok-kept.ensures.amount ∙ c.amount.ensures.value ∙ ap (λ (d : RequestData). number_in d.paid.t9f02) c.fields.view_is) c.in_ok-kept.ensures.message (c.in_ok-kept.ensures.code ∙ c.reply_to_request-answered.ensures.code) (c.in_ok-kept.ensures.online ∙ c.reply_to_request-answered.ensures.online)
    (c.in_ok-kept.ensures.reply ∙ c.reply_to_request-answered.ensures.bytes) in
    ap (λ (x : RecordsData). x.books) c.in_ok-keep_request.ensures.ok ∙ ap (λ n. let b : Books = record { requests = i.records.books.requests ++ n ∷ []; presentments = i.records.books.presentments; reversals = i.records.books.reversals } in b) made
    ∙ ap (λ (h : HostData). let b : Books = record { requests = h.books.requests ++ (new_request h.keys h.accounts h.books c.args.message.now f) ∷ []; presentments = h.books.presentments; reversals = h.books.reversals } in b) c.self.view_is
    ∙ ap (λ r. let b : Books = record { requests = with_first r (new_request s.keys s.accounts s.books c.args.message.now f) s.books.requests; presentments = s.books.presentments; reversals = s.books.reversals } in b) (sym none_is)

pub keep_request-requires-clause-held : goal.keep_request-requires-clause-held
keep_request-requires-clause-held c = λ approved.
    let amount : c.in_ok-kept.kept.amount ≡ number_in c.args.fields.now.paid.t9f02 = c.in_ok-kept.ensures.amount ∙ c.amount.ensures.value ∙ ap (λ (d : RequestData). number_in d.paid.t9f02) c.fields.view_is in
    rw amount (rw c.request_key-key.ensures (c.reply_to_request-answered.ensures.held (ap is_approved (sym c.in_ok-kept.ensures.code) ∙ approved)))

pub reply_to_request-answered-requires : goal.reply_to_request-answered-requires
reply_to_request-answered-requires c = record { holds = subst (Holds c.self.inside.accounts.now c.self.inside.records) (sym c.deref.ensures.value) c.self.invariant }

pub invariant_of-self : goal.invariant_of-self
invariant_of-self c = subst (λ r. Holds c.self.inside.accounts.now r c.self.inside.served.items) (sym c.in_err-keep_request.ensures.err) c.self.invariant

pub invariant_of-self-else-answered : goal.invariant_of-self-else-answered
invariant_of-self-else-answered c =
    let i = c.self.inside in
    let new : KeptCall = kept_message c.request_key-key.result c.in_ok-kept.kept in
    subst (λ r. Holds i.accounts.now r i.served.items) (sym c.in_ok-keep_request.ensures.ok)
    (holds_plain i.accounts.now i.records i.served.items new c.self.invariant (c.in_ok-kept.ensures.online ∙ c.if-answered.false))

pub invariant_of-self-then-answered : goal.invariant_of-self-then-answered
invariant_of-self-then-answered c =
    let i = c.self.inside in
    let f = c.args.fields.now in
    let new : KeptCall = kept_message c.request_key-key.result c.in_ok-kept.kept in
    let known = online_known i.keys (account_with_pan f.named.pan i.accounts.now) i.records.books f (sym c.reply_to_request-answered.ensures.online ∙ c.if-answered.true) in
    let account : account_with_pan new.key.pan i.accounts.now ≡ Some known.0 = ap (λ (k : Key). account_with_pan k.pan i.accounts.now) c.request_key-key.ensures ∙ known.1 in
    let flags : c.set_flag.new.flags.items ≡ with_flag i.served.items (account_place new.key.pan i.accounts.now) = c.set_flag.ensures ∙ ap (with_flag i.served.items) c.place_of-place.ensures in
    subst (Holds i.accounts.now c.keep_request.new.self) (sym flags)
    (subst (λ r. Holds i.accounts.now r (with_flag i.served.items (account_place new.key.pan i.accounts.now))) (sym c.in_ok-keep_request.ensures.ok)
    (holds_online i.accounts.now i.records i.served.items new known.0 c.self.invariant (c.in_ok-kept.ensures.online ∙ c.if-answered.true) account))

pub returns-in_err-kept-clause-memory : goal.returns-in_err-kept-clause-memory
returns-in_err-kept-clause-memory c =
    let s = c.args.self.now in
    let i = c.self.inside in
    let f = c.args.fields.now in
    let there : option_map (λ k. kept_message c.request_key-key.result k.now) c.request.result ≡ kept_at (request_key f) s.books.requests =
    c.request.ensures ∙ ap (λ k. kept_at k i.records.books.requests) c.request_key-key.ensures ∙ ap (λ (h : HostData). kept_at (request_key f) h.books.requests) c.self.view_is in
    let none_is = got_none c.request_key-key.result c.request.result (kept_at (request_key f) s.books.requests) there c.in_default.is in
    on_err c.from_residual.result none_is

pub returns-in_err-keep_request-clause-memory : goal.returns-in_err-keep_request-clause-memory
returns-in_err-keep_request-clause-memory c =
    let s = c.args.self.now in
    let i = c.self.inside in
    let f = c.args.fields.now in
    let there : option_map (λ k. kept_message c.request_key-key.result k.now) c.request.result ≡ kept_at (request_key f) s.books.requests =
    c.request.ensures ∙ ap (λ k. kept_at k i.records.books.requests) c.request_key-key.ensures ∙ ap (λ (h : HostData). kept_at (request_key f) h.books.requests) c.self.view_is in
    let none_is = got_none c.request_key-key.result c.request.result (kept_at (request_key f) s.books.requests) there c.in_default.is in
    on_err c.from_residual-in_err-keep_request.result none_is
