use Rattle.std.proofs.Common.{◌≡◌, ◌≤◌, is_some, length, get_or, subst, List, ℕ, refl, sym, ap, ◌∙◌, arith, Some, None}
use Rattle.std.specs.Prelude.{slice_get}
use Rattle.std.proofs.lemmas.Int.{ints}
use Rattle.std.proofs.lemmas.Option.{slice_get_read, get_or_from_slice_get}
use Rattle.emv_dict.specs.Settings.{most_amount}
use Rattle.host_ledger.specs.Account.{account_at}
use Rattle.host_ledger.proofs.Opening.{none_of, is_repeat, distinct_more, seen_more, balanced_more}
use Rattle.host_ledger.proofs.ledger.Ledger.new.Goals as goal

pub returns-then-is_some-clause-refused : goal.returns-then-is_some-clause-refused
returns-then-is_some-clause-refused c =
    let there : slice_get c.args.accounts.items c.loop-place.place ≡ Some c.account-item.result = slice_get_read c.args.accounts.items _ c.loop-place.place c.account-item.result refl (omega (arith, c.loop-place-test.true)) (rw c.deref-account-items.ensures.value at c.account-item.is) in
    (is_repeat c.args.accounts.items c.loop-place.place c.account-item.result c.loop-place.opened c.loop-place.invariant.seen there (ap is_some (sym c.get.ensures) ∙ sym c.is_some.ensures ∙ c.if-is_some.true), c.loop-place.invariant.distinct)

pub loop-place-preserved : goal.loop-place-preserved
loop-place-preserved c =
    let there : slice_get c.args.accounts.items c.loop-place.place ≡ Some c.account-item.result = slice_get_read c.args.accounts.items _ c.loop-place.place c.account-item.result refl (omega (arith, c.loop-place-test.true)) (rw c.deref-account-items.ensures.value at c.account-item.is) in
    let none : account_at c.account-item.result.0 c.loop-place.opened ≡ None = none_of _ (ap is_some (sym c.get.ensures) ∙ sym c.is_some.ensures ∙ c.if-is_some.false) in
    let small : c.account-item.result.1 ≤ most_amount = let at = c.requires c.loop-place.place c.account-item.result (omega (arith, c.loop-place-test.true)) in let same : get_or c.args.accounts.items c.loop-place.place c.account-item.result ≡ c.account-item.result = get_or_from_slice_get c.args.accounts.items c.loop-place.place c.account-item.result c.account-item.result there in subst (λ (account : List ℕ × ℕ). account.1 ≤ most_amount) same at in
    record {
      seen = rw (c.in-Ok.ensures.ok, c.copy.ensures) (seen_more c.args.accounts.items c.loop-place.place c.account-item.result c.loop-place.opened _ c.loop-place.invariant.seen there none refl);
      balanced = rw (c.in-Ok.ensures.ok, c.copy.ensures) (balanced_more c.account-item.result.0 _ c.loop-place.opened c.loop-place.invariant.balanced small (omega (arith, ints, c.from.ensures)));
      distinct = distinct_more c.args.accounts.items c.loop-place.place c.account-item.result c.loop-place.opened c.loop-place.invariant.seen there none c.loop-place.invariant.distinct;
    }

pub returns-clause-distinct : goal.returns-clause-distinct
returns-clause-distinct c = let end : length c.args.accounts.items ≤ c.loop-place.place = omega (arith, c.loop-place-test.false) in λ k lt. c.loop-place.invariant.distinct k (omega arith)
