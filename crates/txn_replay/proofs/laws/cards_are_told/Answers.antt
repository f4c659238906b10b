use Rattle.txn_replay.proofs.CardLaws.GivenRows.{given_told, given_left}
use Rattle.txn_replay.proofs.CardLaws.AnswersAreSure.{held_sure, answered_sure}
use Rattle.txn_replay.proofs.laws.cards_are_told.Goals as goal

pub returns-clause-given : goal.returns-clause-given
returns-clause-given c = given_told

pub returns-clause-left : goal.returns-clause-left
returns-clause-left c = given_left

pub returns-clause-held : goal.returns-clause-held
returns-clause-held c = held_sure

pub returns-clause-answered : goal.returns-clause-answered
returns-clause-answered c = answered_sure
