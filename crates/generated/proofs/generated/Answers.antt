use Rattle.scenario_plan.specs.SeenCards.{seen_cards}
use Rattle.generated.proofs.Kept.{made_rules, made_no_choices}
use Rattle.generated.proofs.generated.Goals as goal

pub returns-clause-rules : goal.returns-clause-rules
returns-clause-rules c =
    made_rules c.args.count c.issuer_keys-issuer.result c.in_ok-accounts.accounts.items (seen_cards c.in_ok-cards.cards.items) c.in_ok-lanes.lanes.items
    c.new.result.items c.requires.few c.issuer_keys-issuer.ensures c.in_ok-accounts.ensures c.in_ok-cards.ensures c.in_ok-lanes.ensures c.new.ensures.items

pub returns-clause-no_choice : goal.returns-clause-no_choice
returns-clause-no_choice c = made_no_choices c.args.count c.in_ok-lanes.lanes.items c.in_ok-lanes.ensures
