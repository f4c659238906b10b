use Rattle.std.proofs.Common.{◌≡◌, Some, sym, ap, ◌∙◌, pos, ◌-ℤ◌}
use Rattle.std.specs.Prelude.{option_map}
use Rattle.std.specs.Option.{is_some}
use Rattle.emv_dict.specs.Bcd.{number_in}
use Rattle.auth_message.specs.Data.{RequestData}
use Rattle.issuer_host.specs.Balance.{account_with_pan, taken_in_all}
use Rattle.issuer_host.specs.Code.{is_approved}
use Rattle.issuer_host.specs.Holds.{account_place, account_in, flag_at}
use Rattle.issuer_host.specs.Records.{balance_left}
use Rattle.issuer_host.specs.Reply.{request_key, request_reply, said_bytes, is_served}
use Rattle.issuer_host.proofs.Approved.{request_open, open_where}
use Rattle.issuer_host.proofs.Hosting.{known_balance, flag_known, seen_some}
use Rattle.issuer_host.proofs.Places.{account_found, has_pan}
use Rattle.issuer_host.proofs.answering.reply_to_request.Goals as goal

pub returns-clause-bytes : goal.returns-clause-bytes
returns-clause-bytes c =
    let f = c.args.fields.now in
    let pan : c.fields.inside.pan ≡ c.args.fields.now.named.pan = ap (λ (d : RequestData). d.named.pan) c.fields.view_is in
    let place : c.place_of-place.result ≡ account_place c.args.fields.now.named.pan c.args.accounts.now = c.place_of-place.ensures ∙ ap (λ p. account_place p c.args.accounts.now) pan in
    let found : option_map (λ a. a.now) c.account_at-account.result ≡ account_with_pan c.args.fields.now.named.pan c.args.accounts.now =
    c.account_at-account.ensures ∙ ap (account_in c.args.accounts.now) place ∙ account_found c.args.fields.now.named.pan c.args.accounts.now in
    c.request_reply.ensures.bytes ∙ ap (λ a. said_bytes (request_reply c.args.keys.now a c.args.records.now.books f)) found

pub returns-clause-code : goal.returns-clause-code
returns-clause-code c =
    let f = c.args.fields.now in
    let pan : c.fields.inside.pan ≡ c.args.fields.now.named.pan = ap (λ (d : RequestData). d.named.pan) c.fields.view_is in
    let place : c.place_of-place.result ≡ account_place c.args.fields.now.named.pan c.args.accounts.now = c.place_of-place.ensures ∙ ap (λ p. account_place p c.args.accounts.now) pan in
    let found : option_map (λ a. a.now) c.account_at-account.result ≡ account_with_pan c.args.fields.now.named.pan c.args.accounts.now =
    c.account_at-account.ensures ∙ ap (account_in c.args.accounts.now) place ∙ account_found c.args.fields.now.named.pan c.args.accounts.now in
    c.request_reply.ensures.code ∙ ap (λ a. (request_reply c.args.keys.now a c.args.records.now.books f).code) found

pub returns-clause-online : goal.returns-clause-online
returns-clause-online c =
    let f = c.args.fields.now in
    let pan : c.fields.inside.pan ≡ c.args.fields.now.named.pan = ap (λ (d : RequestData). d.named.pan) c.fields.view_is in
    let place : c.place_of-place.result ≡ account_place c.args.fields.now.named.pan c.args.accounts.now = c.place_of-place.ensures ∙ ap (λ p. account_place p c.args.accounts.now) pan in
    let found : option_map (λ a. a.now) c.account_at-account.result ≡ account_with_pan c.args.fields.now.named.pan c.args.accounts.now =
    c.account_at-account.ensures ∙ ap (account_in c.args.accounts.now) place ∙ account_found c.args.fields.now.named.pan c.args.accounts.now in
    c.request_reply.ensures.online ∙ ap (λ a. is_some (request_reply c.args.keys.now a c.args.records.now.books f).auth) found

pub request_reply-requires-clause-known : goal.request_reply-requires-clause-known
request_reply-requires-clause-known c =
    let f = c.args.fields.now in
    let pan : c.fields.inside.pan ≡ c.args.fields.now.named.pan = ap (λ (d : RequestData). d.named.pan) c.fields.view_is in
    let place : c.place_of-place.result ≡ account_place c.args.fields.now.named.pan c.args.accounts.now = c.place_of-place.ensures ∙ ap (λ p. account_place p c.args.accounts.now) pan in
    let found : option_map (λ a. a.now) c.account_at-account.result ≡ account_with_pan c.args.fields.now.named.pan c.args.accounts.now =
    c.account_at-account.ensures ∙ ap (account_in c.args.accounts.now) place ∙ account_found c.args.fields.now.named.pan c.args.accounts.now in
    seen_some c.account_at-account.result (λ a. balance_left c.args.records.now a.pan ≡ Some (pos a.balance -ℤ pos (taken_in_all a.pan c.args.records.now.books))) (account_with_pan f.named.pan c.args.accounts.now) found
    (λ a is. known_balance c.args.accounts.now c.args.records.now c.args.served.now f.named.pan a c.requires.holds is)

pub request_reply-requires-clause-served : goal.request_reply-requires-clause-served
request_reply-requires-clause-served c =
    let f = c.args.fields.now in
    let pan : c.fields.inside.pan ≡ c.args.fields.now.named.pan = ap (λ (d : RequestData). d.named.pan) c.fields.view_is in
    let place : c.place_of-place.result ≡ account_place c.args.fields.now.named.pan c.args.accounts.now = c.place_of-place.ensures ∙ ap (λ p. account_place p c.args.accounts.now) pan in
    let found : option_map (λ a. a.now) c.account_at-account.result ≡ account_with_pan c.args.fields.now.named.pan c.args.accounts.now =
    c.account_at-account.ensures ∙ ap (account_in c.args.accounts.now) place ∙ account_found c.args.fields.now.named.pan c.args.accounts.now in
    seen_some c.account_at-account.result (λ a. c.flag_at-flag.result ≡ is_served a.pan c.args.records.now.books) (account_with_pan f.named.pan c.args.accounts.now) found
    (λ a is. c.flag_at-flag.ensures ∙ ap (flag_at c.args.served.now) place ∙ flag_known c.args.accounts.now c.args.records.now c.args.served.now f.named.pan a c.requires.holds is)

pub returns-clause-held : goal.returns-clause-held
returns-clause-held c = λ approved.
    let f = c.args.fields.now in
    let pan : c.fields.inside.pan ≡ c.args.fields.now.named.pan = ap (λ (d : RequestData). d.named.pan) c.fields.view_is in
    let place : c.place_of-place.result ≡ account_place c.args.fields.now.named.pan c.args.accounts.now = c.place_of-place.ensures ∙ ap (λ p. account_place p c.args.accounts.now) pan in
    let found : option_map (λ a. a.now) c.account_at-account.result ≡ account_with_pan c.args.fields.now.named.pan c.args.accounts.now =
    c.account_at-account.ensures ∙ ap (account_in c.args.accounts.now) place ∙ account_found c.args.fields.now.named.pan c.args.accounts.now in
    let code = c.request_reply.ensures.code ∙ ap (λ a. (request_reply c.args.keys.now a c.args.records.now.books f).code) found in
    let facts = request_open c.args.keys.now (account_with_pan f.named.pan c.args.accounts.now) c.args.records.now.books f (ap is_approved (sym code) ∙ approved) in
    let number = has_pan f.named.pan c.args.accounts.now facts.own facts.known in
    let key = request_key f in
    let same_pan : key.pan ≡ facts.own.pan = sym number in
    open_where c.args.records.now key (number_in f.paid.t9f02) (pos facts.own.balance -ℤ pos (taken_in_all facts.own.pan c.args.records.now.books))
    facts.closed
    (ap (balance_left c.args.records.now) same_pan ∙ known_balance c.args.accounts.now c.args.records.now c.args.served.now f.named.pan facts.own c.requires.holds facts.known)
    facts.covered
