use Rattle.std.proofs.Common.{◌≡◌, List, ℕ, Bool, take, Some, sym, ap, refl, ◌∙◌}
use Rattle.std.specs.Prelude.{slice_get}
use Rattle.std.specs.List.{list_any}
use Rattle.std.specs.Str.{bytes_eq}
use Rattle.std.proofs.lemmas.Option.{slice_get_read}
use Rattle.host_ledger.proofs.Opening.{repeats, passed}
use Rattle.host_ledger.proofs.ledger.without_memory.Goals as goal

pub returns-then-has_pan : goal.returns-then-has_pan
returns-then-has_pan c =
    let found : List ℕ × ℕ → Bool = λ item. list_any (λ account. bytes_eq item.0 account.0) (take c.loop-place.place c.args.accounts.now) in
    let there : slice_get c.args.accounts.now c.loop-place.place ≡ Some c.index-accounts-place.result = slice_get_read c.args.accounts.now _ c.loop-place.place c.index-accounts-place.result refl c.loop-place-test.true c.index-accounts-place.is in
    let looked = ap found c.index-accounts-place.is ∙ sym c.has_pan.ensures ∙ c.if-has_pan.true in
    (repeats c.args.accounts.now c.loop-place.place c.index-accounts-place.result there looked, c.loop-place.invariant)

pub loop-place-preserved : goal.loop-place-preserved
loop-place-preserved c =
    let found : List ℕ × ℕ → Bool = λ item. list_any (λ account. bytes_eq item.0 account.0) (take c.loop-place.place c.args.accounts.now) in
    let there : slice_get c.args.accounts.now c.loop-place.place ≡ Some c.index-accounts-place.result = slice_get_read c.args.accounts.now _ c.loop-place.place c.index-accounts-place.result refl c.loop-place-test.true c.index-accounts-place.is in
    let looked = ap found c.index-accounts-place.is ∙ sym c.has_pan.ensures ∙ c.if-has_pan.false in
    passed c.args.accounts.now c.loop-place.place c.index-accounts-place.result there looked c.loop-place.invariant
