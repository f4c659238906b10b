use Rattle.std.proofs.Common.{◌≡◌, List, [], ap}
use Rattle.arrayvec.specs.ArrayVec.{ArrayVec}
use Rattle.scenario.proofs.extras.no_log.Goals as goal

abbrev holding : {T : Type 0} → List T → ArrayVec T
holding items = record { items = items }

no_items : {T : Type 0} (log : ArrayVec T) → log.items ≡ [] → log ≡ holding []
no_items {T} log none = ap (λ (items : List T). holding items) none

pub returns : goal.returns
returns c = no_items c.new.result c.new.ensures
