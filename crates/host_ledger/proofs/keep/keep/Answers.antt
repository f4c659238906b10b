use Rattle.std.proofs.Common.{arith, ap, ◌∙◌, ◌≡◌, ◌≤◌, ◌*◌, map, refl, length}
use Rattle.std.proofs.lemmas.Int.{ints}
use Rattle.std.proofs.lemmas.List.Elements.{recursion_from_All}
use Rattle.emv_dict.specs.Settings.{most_amount}
use Rattle.host_ledger.specs.Account.{with_opening_balance}
use Rattle.host_ledger.specs.Entries.{entry_at, taken_at, taken_from}
use Rattle.host_ledger.proofs.Balances.{opened_same, balanced_again}
use Rattle.host_ledger.proofs.Sums.{taken_small, found_small, sum_small}
use Rattle.host_ledger.proofs.keep.keep.Goals as goal

pub moved-balance-requires-clause-small_before : goal.moved-balance-requires-clause-small_before
moved-balance-requires-clause-small_before c =
    let h : taken_at (entry_at c.args.entry.key c.args.rows.now) ≤ most_amount = found_small c.args.entry.key c.args.rows.now (recursion_from_All _ _ c.requires.balanced.amounts) in
    rw (c.taken_by-before.ensures, c.get.ensures) h

pub moved-balance-requires-clause-small_after : goal.moved-balance-requires-clause-small_after
moved-balance-requires-clause-small_after c = omega (arith, c.taken.ensures, taken_small c.args.entry.state c.args.entry.amount, c.requires.small)

pub moved-balance-requires-clause-high : goal.moved-balance-requires-clause-high
moved-balance-requires-clause-high c =
    let own = c.requires.balanced.each c.args.entry.key.pan c.args.account c.requires.known in
    omega (arith, ints, own.small, own.balance)

pub moved-balance-requires-clause-low : goal.moved-balance-requires-clause-low
moved-balance-requires-clause-low c =
    let own = c.requires.balanced.each c.args.entry.key.pan c.args.account c.requires.known in
    let all : taken_from c.args.entry.key.pan c.args.rows.now ≤ most_amount * length c.args.rows.now = sum_small c.args.entry.key.pan c.args.rows.now (recursion_from_All _ _ c.requires.balanced.amounts) in
    omega (arith, ints, own.small, own.balance, all, c.len-count.ensures.count, c.len-count.ensures.small)

pub returns-clause-opened : goal.returns-clause-opened
returns-clause-opened c =
    let known = rw (← c.copy-pan.ensures) at c.requires.known in
    ap (map with_opening_balance) c.in-Ok.ensures.ok ∙ opened_same c.copy-pan.result _ c.args.account c.args.accounts.now known refl

pub returns-clause-balanced : goal.returns-clause-balanced
returns-clause-balanced c =
    let before : c.taken_by-before.result ≡ taken_at (entry_at c.args.entry.key c.args.rows.now) = c.taken_by-before.ensures ∙ ap taken_at c.get.ensures in
    rw (c.in-Ok.ensures.ok, c.in_ok-put.ensures.ok, c.copy-pan.ensures)
    (balanced_again c.args.accounts.now c.args.rows.now c.args.account c.args.entry _ c.requires.known c.requires.balanced c.requires.small
    (omega (arith, ints, c.moved-balance.ensures, before, c.taken.ensures)))
