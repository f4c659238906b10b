use Rattle.std.proofs.Common.{◌≡◌, ◌≤◌, Bool, take, length, map, Some, sym, ap, refl, ◌∙◌, arith}
use Rattle.std.specs.Prelude.{slice_get}
use Rattle.std.specs.List.{list_any}
use Rattle.std.specs.Str.{bytes_eq}
use Rattle.std.proofs.lemmas.List.{length-map}
use Rattle.std.proofs.lemmas.Option.{slice_get_read}
use Rattle.issuer_host.specs.Account.{AccountData}
use Rattle.issuer_host.specs.Holds.{opening_balance}
use Rattle.issuer_host.proofs.Hosting.{account_repeats, account_passed}
use Rattle.issuer_host.proofs.accounts.without_memory.Goals as goal

pub returns-then-has_pan : goal.returns-then-has_pan
returns-then-has_pan c =
    let found : AccountData → Bool = λ item. list_any (λ account. bytes_eq item.pan account.pan) (take c.loop-place.place c.args.accounts.now) in
    let there : slice_get c.args.accounts.now c.loop-place.place ≡ Some c.index-accounts-place.result = slice_get_read c.args.accounts.now _ c.loop-place.place c.index-accounts-place.result refl c.loop-place-test.true c.index-accounts-place.is in
    let looked = ap found (sym c.account.view_is) ∙ sym c.has_pan.ensures ∙ c.if-has_pan.true in
    (account_repeats c.args.accounts.now c.loop-place.place c.index-accounts-place.result there looked, c.loop-place.invariant)

pub loop-place-preserved : goal.loop-place-preserved
loop-place-preserved c =
    let found : AccountData → Bool = λ item. list_any (λ account. bytes_eq item.pan account.pan) (take c.loop-place.place c.args.accounts.now) in
    let there : slice_get c.args.accounts.now c.loop-place.place ≡ Some c.index-accounts-place.result = slice_get_read c.args.accounts.now _ c.loop-place.place c.index-accounts-place.result refl c.loop-place-test.true c.index-accounts-place.is in
    let looked = ap found (sym c.account.view_is) ∙ sym c.has_pan.ensures ∙ c.if-has_pan.false in
    account_passed c.args.accounts.now c.loop-place.place c.index-accounts-place.result there looked c.loop-place.invariant

pub returns : goal.returns
returns c =
    let count : length (map opening_balance c.args.accounts.now) ≡ length c.args.accounts.now = length-map c.args.accounts.now opening_balance in
    let end : length c.args.accounts.now ≤ c.loop-place.place = omega (arith, c.loop-place-test.false) in
    λ k lt. c.loop-place.invariant k (omega arith)
