use Rattle.pse_directory.proofs.Kept.{kept_candidates-few, kept_candidates-distinct}
use Rattle.pse_directory.proofs.laws.first_names_are_kept.Goals as goal

pub returns-clause-few : goal.returns-clause-few
returns-clause-few c found = kept_candidates-few found

pub returns-clause-distinct : goal.returns-clause-distinct
returns-clause-distinct c found = kept_candidates-distinct found
