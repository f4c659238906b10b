use Rattle.txn_replay.proofs.StoreLaws.StoresKept.{stores_stand}
use Rattle.txn_replay.proofs.StoreLaws.StoresEmptied.{goes_through, stores_emptied}
use Rattle.txn_replay.proofs.laws.stores_are_emptied.Goals as goal

pub returns-clause-kept : goal.returns-clause-kept
returns-clause-kept c = stores_stand

pub returns-clause-through : goal.returns-clause-through
returns-clause-through c = goes_through

pub returns-clause-emptied : goal.returns-clause-emptied
returns-clause-emptied c = stores_emptied
