use Rattle.std.proofs.Common.{◌≡◌, ap, ◌∙◌}
use Rattle.std.specs.Prelude.{option_map}
use Rattle.auth_message.specs.Data.{PresentData}
use Rattle.issuer_host.specs.Balance.{account_with_pan}
use Rattle.issuer_host.specs.Holds.{account_place, account_in}
use Rattle.issuer_host.specs.Reply.{present_reply, said_bytes}
use Rattle.issuer_host.proofs.Places.{account_found}
use Rattle.issuer_host.proofs.answering.reply_to_presentment.Goals as goal

pub returns-clause-bytes : goal.returns-clause-bytes
returns-clause-bytes c =
    let f = c.args.fields.now in
    let pan : c.fields.inside.pan ≡ c.args.fields.now.named.pan = ap (λ (d : PresentData). d.named.pan) c.fields.view_is in
    let place : c.place_of-place.result ≡ account_place c.args.fields.now.named.pan c.args.accounts.now = c.place_of-place.ensures ∙ ap (λ p. account_place p c.args.accounts.now) pan in
    let found : option_map (λ a. a.now) c.account_at-account.result ≡ account_with_pan c.args.fields.now.named.pan c.args.accounts.now =
    c.account_at-account.ensures ∙ ap (account_in c.args.accounts.now) place ∙ account_found c.args.fields.now.named.pan c.args.accounts.now in
    c.present_reply.ensures.bytes ∙ ap (λ a. said_bytes (present_reply c.args.keys.now a c.args.records.now.books f)) found

pub returns-clause-code : goal.returns-clause-code
returns-clause-code c =
    let f = c.args.fields.now in
    let pan : c.fields.inside.pan ≡ c.args.fields.now.named.pan = ap (λ (d : PresentData). d.named.pan) c.fields.view_is in
    let place : c.place_of-place.result ≡ account_place c.args.fields.now.named.pan c.args.accounts.now = c.place_of-place.ensures ∙ ap (λ p. account_place p c.args.accounts.now) pan in
    let found : option_map (λ a. a.now) c.account_at-account.result ≡ account_with_pan c.args.fields.now.named.pan c.args.accounts.now =
    c.account_at-account.ensures ∙ ap (account_in c.args.accounts.now) place ∙ account_found c.args.fields.now.named.pan c.args.accounts.now in
    c.present_reply.ensures.code ∙ ap (λ a. (present_reply c.args.keys.now a c.args.records.now.books f).code) found
