use Rattle.dialogue_laws.proofs.Authenticating.{authenticates_issuer, status_is_heeded}
use Rattle.dialogue_laws.proofs.issuer.issuers_are_authenticated.Goals as goal

pub returns-clause-answers : goal.returns-clause-answers
returns-clause-answers c = authenticates_issuer

pub returns-clause-status : goal.returns-clause-status
returns-clause-status c = status_is_heeded
