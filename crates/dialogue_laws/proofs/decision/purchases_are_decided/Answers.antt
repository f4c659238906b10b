use Rattle.dialogue_laws.proofs.Deciding.{analysis_ends}
use Rattle.dialogue_laws.proofs.Ends.{every, decided_at}
use Rattle.dialogue_laws.proofs.Generating.{AnswersAreReadBack}
use Rattle.dialogue_laws.proofs.Initiating.{initiation_runs}
use Rattle.dialogue_laws.proofs.ReadOn.{read_ends}
use Rattle.dialogue_laws.proofs.Selecting.{dialogue_ends}
use Rattle.dialogue_laws.proofs.decision.purchases_are_decided.Goals as goal

pub returns : goal.returns
returns c image outset found now replies ending is_image settings well told ended =
    let reads : AnswersAreReadBack = record { one = c.answers_are_read_back.ensures.one; two = c.answers_are_read_back.ensures.two } in
    let whole = dialogue_ends image (read_ends image is_image.apps.rules (analysis_ends image reads)) (initiation_runs image) outset found is_image settings well in
    decided_at outset replies ending (every outset whole told) ended
