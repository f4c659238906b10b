use Rattle.txn_replay.proofs.LineLaws.NamesTold.{runs_name_cards, whole_runs_name_cards}
use Rattle.txn_replay.proofs.laws.cards_are_named.Goals as goal

pub returns-clause-reached : goal.returns-clause-reached
returns-clause-reached c = runs_name_cards

pub returns-clause-whole : goal.returns-clause-whole
returns-clause-whole c = whole_runs_name_cards
