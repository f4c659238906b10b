use Rattle.object_lists.proofs.FormLemmas.{formed, unformed}
use Rattle.object_lists.proofs.checked.forms_are_tried.Goals as goal

pub returns : goal.returns
returns c entries options = (formed entries options, unformed entries)
