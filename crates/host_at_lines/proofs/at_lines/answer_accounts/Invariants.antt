use Rattle.std.proofs.Common.{◌≡◌, ◌++◌, take, length}
use Rattle.std.specs.List.{flat_map}
use Rattle.issuer_host.specs.Balance.{balance_in}
use Rattle.host_at_lines.specs.Told.{balance_text, count_text}
use Rattle.host_at_lines.proofs.at_lines.answer_accounts.Given as goal

abbrev pub invariant-loop-account : goal.invariant-loop-account
invariant-loop-account l =
    l.text.items
    ≡ count_text (length l.accounts) ++ flat_map (λ account. balance_text account.pan (balance_in l.host.accounts l.host.books account.pan)) (take l.account-index l.accounts)
