use Rattle.std.proofs.Common.{◌≤◌, List, length, sym, subst, arith}
use Rattle.txn_replay.specs.declared.lane.Lane.{Lane}
use Rattle.std.specs.List.{All}
use Rattle.txn_replay.specs.declared.settlement.Settling.TheVariants as settling
use Rattle.txn_replay.proofs.SettlementLaws.SettlementAtHand.{past_it, past_goes, step_there, step_few, lane_inside, lane_fits, opens_off, opens_so, opens_done, opens_whole, sends_message, sends_short, sends_so, sends_whole, drains_from, drains_so, drains_whole}
use Rattle.txn_replay.proofs.SettlementLaws.SettlementWorlds.{captured_few}
use Rattle.txn_replay.proofs.world.World.settle.Goals as goal

pub settlement-requires-clause-captures : goal.settlement-requires-clause-captures
settlement-requires-clause-captures g c =
    subst (λ (lanes : List Lane). All (λ lane. length lane.captures.messages ≤ 10000) lanes) (sym c.as_slice.ensures.value)
    (captured_few _ c.self.invariant.0.standing.0 c.self.invariant.0.standing.1 c.self.invariant.0.scenario)

pub returns-in_default-clause-past : goal.returns-in_default-clause-past
returns-in_default-clause-past g c = λ one. past_it _ _ c.self.invariant.0 c.self.view_is _ c.as_slice.ensures.value c.args.number (λ rows are. c.in_default.ensures rows are)

pub returns-in_default-clause-ok : goal.returns-in_default-clause-ok
returns-in_default-clause-ok g c = λ w stands through. past_goes _ _ c.self.invariant.0 c.self.view_is _ c.as_slice.ensures.value c.args.number (λ rows are. c.in_default.ensures rows are) w stands _ c.clear.ensures

pub returns-in-Opens-clause-there : goal.returns-in-Opens-clause-there
returns-in-Opens-clause-there g c = λ one. (step_few _ _ c.self.invariant.0 c.self.view_is _ c.as_slice.ensures.value c.args.number c.in-Some.step (λ rows are. c.in-Some.ensures rows are), step_there _ _ c.self.invariant.0 c.self.view_is _ c.as_slice.ensures.value c.args.number c.in-Some.step (λ rows are. c.in-Some.ensures rows are))

pub returns-in_ok-send-in-Sends-clause-there : goal.returns-in_ok-send-in-Sends-clause-there
returns-in_ok-send-in-Sends-clause-there g c = λ one. (step_few _ _ c.self.invariant.0 c.self.view_is _ c.as_slice.ensures.value c.args.number c.in-Some.step (λ rows are. c.in-Some.ensures rows are), step_there _ _ c.self.invariant.0 c.self.view_is _ c.as_slice.ensures.value c.args.number c.in-Some.step (λ rows are. c.in-Some.ensures rows are))

pub returns-in_ok-drain-in-Drains-clause-there : goal.returns-in_ok-drain-in-Drains-clause-there
returns-in_ok-drain-in-Drains-clause-there g c = λ one. (step_few _ _ c.self.invariant.0 c.self.view_is _ c.as_slice.ensures.value c.args.number c.in-Some.step (λ rows are. c.in-Some.ensures rows are), step_there _ _ c.self.invariant.0 c.self.view_is _ c.as_slice.ensures.value c.args.number c.in-Some.step (λ rows are. c.in-Some.ensures rows are))

-- a store is opened
pub index_mut-requires : goal.index_mut-requires
index_mut-requires g c = omega (arith, lane_inside _ _ c.self.invariant.0 c.self.view_is _ c.as_slice.ensures.value c.args.number c.in-Some.step (λ rows are. c.in-Some.ensures rows are) (settling.Opens c.in-Opens.lane) c.in-Opens.is, c.self.invariant.0.lane_count, c.self.inside.lanes.ok.0)

pub index_mut-requires-in-Opens : goal.index_mut-requires-in-Opens
index_mut-requires-in-Opens g c = omega (arith, lane_inside _ _ c.self.invariant.0 c.self.view_is _ c.as_slice.ensures.value c.args.number c.in-Some.step (λ rows are. c.in-Some.ensures rows are) (settling.Opens c.in-Opens.lane) c.in-Opens.is, c.self.invariant.0.lane_store_count, c.self.inside.lane_stores.ok.0)

pub open_to_settle-requires : goal.open_to_settle-requires
open_to_settle-requires g c = record { off = opens_off _ _ c.self.invariant.0 c.self.view_is _ c.as_slice.ensures.value c.args.number c.in-Some.step (λ rows are. c.in-Some.ensures rows are) c.requires.done c.in-Opens.lane c.in-Opens.is _ _ c.index_mut.ensures.value c.index_mut-in-Opens.ensures.value c.requires.next }

pub returns-in-Opens-clause-ok : goal.returns-in-Opens-clause-ok
returns-in-Opens-clause-ok g c = λ w stands through. opens_so _ _ c.self.invariant.0 c.self.view_is _ c.as_slice.ensures.value c.args.number c.in-Some.step (λ rows are. c.in-Some.ensures rows are) c.requires.done c.in-Opens.lane c.in-Opens.is _ _ c.index_mut.ensures.value c.index_mut-in-Opens.ensures.value c.open_to_settle.new.lane c.open_to_settle.new.lane_store c.open_to_settle.ensures.opened c.open_to_settle.ensures.losses c.open_to_settle.ensures.same w stands through _ c.clear.ensures

pub returns-in-Opens-clause-done : goal.returns-in-Opens-clause-done
returns-in-Opens-clause-done g c = opens_done _ _ c.self.invariant.0 c.self.view_is _ c.as_slice.ensures.value c.args.number c.in-Some.step (λ rows are. c.in-Some.ensures rows are) c.requires.done c.in-Opens.lane c.in-Opens.is _ _ c.index_mut.ensures.value c.index_mut-in-Opens.ensures.value c.open_to_settle.new.lane c.open_to_settle.new.lane_store c.open_to_settle.ensures.opened c.open_to_settle.ensures.losses c.open_to_settle.ensures.same

pub invariant_of-self : goal.invariant_of-self
invariant_of-self g c = (opens_whole _ _ c.self.invariant.0 c.self.view_is _ c.as_slice.ensures.value c.args.number c.in-Some.step (λ rows are. c.in-Some.ensures rows are) c.requires.done c.in-Opens.lane c.in-Opens.is _ _ c.index_mut.ensures.value c.index_mut-in-Opens.ensures.value c.open_to_settle.new.lane c.open_to_settle.new.lane_store c.open_to_settle.ensures.opened c.open_to_settle.ensures.losses c.open_to_settle.ensures.same c.requires.next, c.self.invariant.1)

-- a message that a lane has captured is sent
pub overflow_cast-lane : goal.overflow_cast-lane
overflow_cast-lane g c = omega (arith, lane_fits _ _ c.self.invariant.0 c.self.view_is _ c.as_slice.ensures.value c.args.number c.in-Some.step (λ rows are. c.in-Some.ensures rows are) (settling.Sends c.in-Sends.lane c.in-Sends.message) c.in-Sends.is)

pub send-requires-clause-message : goal.send-requires-clause-message
send-requires-clause-message g c = λ iso. sends_message _ _ c.self.invariant.0 c.self.view_is _ c.as_slice.ensures.value c.args.number c.in-Some.step (λ rows are. c.in-Some.ensures rows are) c.requires.done c.in-Sends.lane c.in-Sends.message c.in-Sends.is

pub send-requires-clause-short : goal.send-requires-clause-short
send-requires-clause-short g c = sends_short _ _ c.self.invariant.0 c.self.view_is _ c.as_slice.ensures.value c.args.number c.in-Some.step (λ rows are. c.in-Some.ensures rows are) c.requires.done c.in-Sends.lane c.in-Sends.message c.in-Sends.is

pub send-requires-clause-stands : goal.send-requires-clause-stands
send-requires-clause-stands g c = (c.self.invariant.0.standing.0.messages, c.self.invariant.0.standing.1.messages)

pub returns-in_ok-send-in-Sends-clause-ok : goal.returns-in_ok-send-in-Sends-clause-ok
returns-in_ok-send-in-Sends-clause-ok g c = λ w stands through. sends_so _ _ c.self.invariant.0 c.self.view_is _ c.as_slice.ensures.value c.args.number c.in-Some.step (λ rows are. c.in-Some.ensures rows are) c.requires.done c.in-Sends.lane c.in-Sends.message c.in-Sends.is _ c.speaks_iso-iso.ensures _ c.send.new.lines.items c.clear.ensures c.send.new.host (λ messages stands. (c.in_ok-send-in-Sends.ensures.sent messages stands).1) (λ messages stands. (c.in_ok-send-in-Sends.ensures.sent messages stands).0) w stands

pub invariant_of-self-in-Sends : goal.invariant_of-self-in-Sends
invariant_of-self-in-Sends g c = (sends_whole _ _ c.self.invariant.0 c.self.view_is _ c.as_slice.ensures.value c.args.number c.in-Some.step (λ rows are. c.in-Some.ensures rows are) c.requires.done c.in-Sends.lane c.in-Sends.message c.in-Sends.is _ c.speaks_iso-iso.ensures _ c.send.new.lines.items c.clear.ensures c.send.new.host (λ messages stands. (c.in_ok-send-in-Sends.ensures.sent messages stands).1) (λ messages stands. (c.in_ok-send-in-Sends.ensures.sent messages stands).0) c.send.ensures.issuer.keys c.send.ensures.issuer.accounts, c.self.invariant.1)

-- a message of a store is sent
pub overflow_cast-lane-in-Drains : goal.overflow_cast-lane-in-Drains
overflow_cast-lane-in-Drains g c = omega (arith, lane_fits _ _ c.self.invariant.0 c.self.view_is _ c.as_slice.ensures.value c.args.number c.in-Some.step (λ rows are. c.in-Some.ensures rows are) (settling.Drains c.in-Drains.lane c.in-Drains.drops) c.in-Drains.is)

pub index_mut-lane_store-requires : goal.index_mut-lane_store-requires
index_mut-lane_store-requires g c = omega (arith, lane_inside _ _ c.self.invariant.0 c.self.view_is _ c.as_slice.ensures.value c.args.number c.in-Some.step (λ rows are. c.in-Some.ensures rows are) (settling.Drains c.in-Drains.lane c.in-Drains.drops) c.in-Drains.is, c.self.invariant.0.lane_store_count, c.self.inside.lane_stores.ok.0)

pub drain-requires-clause-on : goal.drain-requires-clause-on
drain-requires-clause-on g c = drains_from _ _ c.self.invariant.0 c.self.view_is _ c.as_slice.ensures.value c.args.number c.in-Some.step (λ rows are. c.in-Some.ensures rows are) c.requires.done c.in-Drains.lane c.in-Drains.drops c.in-Drains.is _ c.index_mut-lane_store.ensures.value c.requires.next

pub drain-requires-clause-stands : goal.drain-requires-clause-stands
drain-requires-clause-stands g c = (c.self.invariant.0.standing.0.messages, c.self.invariant.0.standing.1.messages)

pub returns-in_ok-drain-in-Drains-clause-ok : goal.returns-in_ok-drain-in-Drains-clause-ok
returns-in_ok-drain-in-Drains-clause-ok g c = λ w stands through. drains_so _ _ c.self.invariant.0 c.self.view_is _ c.as_slice.ensures.value c.args.number c.in-Some.step (λ rows are. c.in-Some.ensures rows are) c.requires.done c.in-Drains.lane c.in-Drains.drops c.in-Drains.is _ c.index_mut-lane_store.ensures.value c.drain.new.lane_store c.drain.new.host _ c.speaks_iso-iso-in-Drains.ensures c.drain.new.lines.items (λ row on. c.in_ok-drain-in-Drains.ensures.drained row on) (λ row message messages on first stands. c.in_ok-drain-in-Drains.ensures.lines row message messages on first stands) c.drain.ensures.losses w stands through

pub invariant_of-self-in-Drains : goal.invariant_of-self-in-Drains
invariant_of-self-in-Drains g c = (drains_whole _ _ c.self.invariant.0 c.self.view_is _ c.as_slice.ensures.value c.args.number c.in-Some.step (λ rows are. c.in-Some.ensures rows are) c.requires.done c.in-Drains.lane c.in-Drains.drops c.in-Drains.is _ c.index_mut-lane_store.ensures.value c.drain.new.lane_store c.drain.new.host _ c.speaks_iso-iso-in-Drains.ensures c.drain.new.lines.items (λ row on. c.in_ok-drain-in-Drains.ensures.drained row on) (λ row message messages on first stands. c.in_ok-drain-in-Drains.ensures.lines row message messages on first stands) c.drain.ensures.losses c.requires.next c.drain.ensures.issuer.keys c.drain.ensures.issuer.accounts, c.self.invariant.1)
