use Rattle.std.proofs.Common.{◌≡◌, Ok, refl, rules}
use Rattle.scenario_fields.specs.TablePaths.{at_top}
use Rattle.scenario_lanes.specs.Lanes.{lanes_at}
use Rattle.scenario.specs.Cards.{card_names}
use Rattle.scenario.specs.Scenario.{tables_of}
use Rattle.scenario_plan.specs.SeenCards.{seen_cards}
use Rattle.toml.specs.View.{table_view}
use Rattle.scenario.proofs.Apart.{plain_names}
use Rattle.scenario.proofs.CardNames.{cards_count}
use Rattle.scenario.proofs.read.read_tables.Goals as goal

pub returns-clause-exact : goal.returns-clause-exact
unfolding tables_of
returns-clause-exact c =
    let lanes : lanes_at at_top (card_names (seen_cards c.in_ok-cards.cards.items)) c.in_ok-issuer.issuer.pin (table_view c.args.document.now) ≡ Ok c.in_ok-lanes.lanes.items =
    rw (← c.as_slice.ensures.value, ← c.bytes.ensures) c.in_ok-lanes.ensures.exact in
    rw (c.in_ok-issuer.ensures, c.in_ok-accounts.ensures.exact, c.in_ok-cards.ensures.exact, lanes, c.in_ok-schedule.ensures.exact, c.in_ok-copies.ensures.exact, c.in_ok-only_top_keys.ensures) refl

pub returns-clause-rules : goal.returns-clause-rules
returns-clause-rules c = record {
  few_accounts = search rules;
  accounts = c.in_ok-accounts.ensures.rules;
  own_pans = c.in_ok-accounts.ensures.own_pans;
  cards = c.in_ok-cards.ensures.rules;
  plain_names = plain_names _ _ _ c.in_ok-cards.ensures.exact;
  some_lane = search rules;
  few_lanes = search rules;
  lanes = c.in_ok-lanes.ensures.rules;
  rooms =
      let count = cards_count c.in_ok-cards.cards.items in
      rw (count, ← c.as_slice.ensures.value) c.in_ok-lanes.ensures.rooms;
  few_purchases = c.in_ok-lanes.ensures.few_purchases;
  pin_keys = rw (← c.bytes.ensures) c.in_ok-lanes.ensures.pins;
  few_turns = search rules;
  one_copy = c.in_ok-copies.ensures.within.0;
  few_copies = c.in_ok-copies.ensures.within.1;
}
