use Rattle.capture_store.proofs.Sendings.{store_keeps}
use Rattle.capture_store.proofs.laws.stores_keep_what_is_sent.Goals as goal

pub returns : goal.returns
returns c = store_keeps
