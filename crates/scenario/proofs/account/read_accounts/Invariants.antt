use Rattle.std.proofs.Common.{◌≡◌, [], drop, length}
use Rattle.std.specs.List.{All}
use Rattle.issuer_host.specs.Account.{IsAccount}
use Rattle.toml.specs.View.{items_view}
use Rattle.scenario_fields.specs.Fields.{with_front}
use Rattle.scenario_fields.specs.TablePaths.{path}
use Rattle.scenario.specs.Accounts.{accounts_from}
use Rattle.scenario.proofs.account.read_accounts.Given as goal

abbrev pub invariant-loop-value : goal.invariant-loop-value
invariant-loop-value l = record {
  count : length l.accounts.items ≡ l.value-index;
  rules : All IsAccount l.accounts.items;
  read :
      with_front l.accounts.items (accounts_from (path l.document.place) l.value-index l.accounts.items (items_view (drop l.value-index l.values)))
      ≡ accounts_from (path l.document.place) 0 [] (items_view l.values);
}
