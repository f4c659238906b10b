-- By the turns behind the last SELECT.
use Rattle.card_sessions.proofs.Telling.{begins_idle, in_directory, is_told}
use Rattle.card_sessions.proofs.law.phases_are_told.Goals as goal

pub returns-clause-idle : goal.returns-clause-idle
returns-clause-idle c image = begins_idle image

pub returns-clause-told : goal.returns-clause-told
returns-clause-told c image = is_told image

pub returns-clause-directory : goal.returns-clause-directory
returns-clause-directory c image = in_directory image
