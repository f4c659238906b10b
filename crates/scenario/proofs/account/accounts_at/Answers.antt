use Rattle.std.proofs.Common.{[]}
use Rattle.scenario_fields.proofs.Steps.{if_found}
use Rattle.scenario_fields.specs.TablePaths.{path}
use Rattle.toml.specs.View.{items_view}
use Rattle.scenario.proofs.Apart.{accounts_own_pans}
use Rattle.scenario.specs.Accounts.{accounts_from}
use Rattle.scenario_plan.specs.Plan.{HaveOwnPans}
use Rattle.scenario.proofs.account.accounts_at.Goals as goal

pub returns-clause-own_pans : goal.returns-clause-own_pans
returns-clause-own_pans c =
    if_found (λ accounts. accounts.items) (λ accounts. HaveOwnPans accounts.items) c.read_accounts.result
    (accounts_from (path c.args.document.now.place) 0 [] (items_view c.in_ok-array.field-0.now)) c.read_accounts.ensures.exact
    (λ accounts is. accounts_own_pans _ _ accounts.items is)
