use Rattle.capture_store.proofs.Fits.{store_fits}
use Rattle.capture_store.proofs.laws.stores_have_room.Goals as goal

pub returns : goal.returns
returns c = store_fits
