use Rattle.txn_replay.proofs.RunLaws.LanesApart.{lanes_apart}
use Rattle.txn_replay.proofs.RunLaws.FairRuns.{reached_sound}
use Rattle.txn_replay.proofs.CardLaws.ExchangeLosses.{losses_told}
use Rattle.txn_replay.proofs.RunLaws.TurnsEnd.{idle_stays}
use Rattle.txn_replay.proofs.laws.lanes_are_sound.Goals as goal

pub returns-clause-sound : goal.returns-clause-sound
returns-clause-sound c = reached_sound

pub returns-clause-apart : goal.returns-clause-apart
returns-clause-apart c = lanes_apart

pub returns-clause-idle : goal.returns-clause-idle
returns-clause-idle c = idle_stays

pub returns-clause-losses : goal.returns-clause-losses
returns-clause-losses c = losses_told
