use Rattle.std.proofs.Common.{◌≡◌, Some, sym, ap, ◌∙◌}
use Rattle.std.specs.Prelude.{option_map}
use Rattle.std.proofs.lemmas.List.Elements.{recursion_from_All}
use Rattle.issuer_host.specs.Account.{IsAccount}
use Rattle.issuer_host.specs.Balance.{account_with_pan}
use Rattle.issuer_host.proofs.Hosting.{left_known}
use Rattle.issuer_host.proofs.Places.{valid_found}
use Rattle.issuer_host.proofs.reasoning.request_reason.Goals as goal

pub genuine_reason-requires-clause-account : goal.genuine_reason-requires-clause-account
genuine_reason-requires-clause-account c =
    let pan = c.fields.inside.pan in
    let accounts = c.args.accounts.now in
    let found : account_with_pan c.fields.inside.pan c.args.accounts.now ≡ Some c.in-Some-find_account.account.now = sym c.find_account.ensures ∙ ap (option_map (λ a. a.now)) c.in-Some-find_account.is in
    valid_found pan accounts c.in-Some-find_account.account.now (recursion_from_All IsAccount accounts c.requires.valid) found

pub genuine_reason-requires-clause-known : goal.genuine_reason-requires-clause-known
genuine_reason-requires-clause-known c =
    let pan = c.fields.inside.pan in
    let found : account_with_pan c.fields.inside.pan c.args.accounts.now ≡ Some c.in-Some-find_account.account.now = sym c.find_account.ensures ∙ ap (option_map (λ a. a.now)) c.in-Some-find_account.is in
    left_known c.args.accounts.now c.args.records.now pan c.in-Some-find_account.account.now c.requires.openings found
