use Rattle.std.proofs.Common.{◌≢◌, ℕ, List, get_or, sym, subst}
use Rattle.capture_store.specs.Spelling.{IsCaptureMessage}
use Rattle.host_link.proofs.Short.{short_message}
use Rattle.txn_replay.specs.Stocking.{IsNoRequest}
use Rattle.txn_replay.proofs.lane.store_capture.Goals as goal

pub add-requires-clause-message : goal.add-requires-clause-message
add-requires-clause-message g c =
    let none : get_or c.in-Some.capture 0 0 ≢ 0xE1 = subst IsNoRequest c.in-Some.is c.requires.settles in
    let first : get_or c.into_message.new.out.items 0 0 ≢ 0xE1 = subst (λ (m : List ℕ). get_or m 0 0 ≢ 0xE1) (sym c.into_message.ensures.bytes) none in
    let sizes = short_message c.into_message.new.out.items c.into_message.ensures.read first in
    subst IsCaptureMessage (sym c.as_slice.ensures.value) (record { some = sizes.0; short = sizes.1 })
