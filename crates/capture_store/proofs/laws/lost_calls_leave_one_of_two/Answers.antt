use Rattle.capture_store.proofs.Sendings.{leaves_one}
use Rattle.capture_store.proofs.laws.lost_calls_leave_one_of_two.Goals as goal

pub returns : goal.returns
returns c = leaves_one
