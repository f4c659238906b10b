-- An exchange of a lane goes one of six ways: nothing happens, it goes on without its store, or its store comes first.
-- Each law of exchanges is proved way by way.
use Rattle.std.proofs.Common.{◌≡◌, ℕ, Bool, true, false, List, [], Option, Some, None, refl}
use Rattle.emv_ports.specs.Cut.{names_commit}
use Rattle.capture_store.specs.StoreRow.{opened_to_add}
use Rattle.kernel.specs.Reply.{Reply}
use Rattle.txn_replay.specs.Part.{Part, Moved, still, piece}
use Rattle.txn_replay.specs.Payment.{Payment}
use Rattle.txn_replay.specs.Storing.{part_with, lost_with, delivers, opened_for, opens_by, goes_through, stored_by, free_by, runs_by, before_by, more_chosen, moved_behind, lane_piece}
use Rattle.txn_replay.specs.World.{Holder}

-- a lane that keeps its captures durably runs no purchase, and no other lane's has the card of its next one
pub record AtRest (p : Payment) (part : Part) : Type 0 where
  pub durable : p.durable ≡ true
  pub rests : part.lane.running ≡ None
  pub free : part.card.holder ≡ None

-- its store is open, and its delivery is due or not
pub record IsOn (part : Part) (due : Bool) : Type 0 where
  pub made : ℕ
  pub on : part.lane.store.commits ≡ Some made
  pub due_is : part.lane.store.due ≡ due

-- it has no store, a purchase runs in it, or its store is open and has room
pub data Goes (p : Payment) (part : Part) : Type 0 where
  plain : p.durable ≡ false → Goes p part
  runs : p.durable ≡ true → (replies : List Reply) → part.lane.running ≡ Some replies → Goes p part
  ready : AtRest p part → IsOn part false → Goes p part

module _ (Q : Moved → Type 0) (p : Payment) (part : Part)
    (stays : Q (still part))
    (goes : (choice : Bool) → Goes p part → Q (piece p part choice))
    (loses : AtRest p part → part.lane.store.commits ≡ None → names_commit p.planned.terminal_tear 0 ≡ true → Q (lost_with p part []))
    (finds : (one : Bool) → AtRest p part → part.lane.store.commits ≡ None → (opened_to_add part.lane.store one).due ≡ true
    → Q (record { part = part_with (opened_to_add part.lane.store one) part; lines = []; choices = 1 }))
    (opens : (one other : Bool) → AtRest p part → part.lane.store.commits ≡ None → (opened_to_add part.lane.store one).due ≡ false
    → Q (more_chosen (piece p (part_with (opened_to_add part.lane.store one) part) other)))
    (sends : AtRest p part → IsOn part true → Q (delivers p part)) where
  by_due : (one other due : Bool) → (opened_to_add part.lane.store one).due ≡ due → AtRest p part → part.lane.store.commits ≡ None
      → Q (moved_behind p one other (opened_for (part_with (opened_to_add part.lane.store one) part) due))
  by_due one other true is at off = finds one at off is
  by_due one other false is at off = opens one other at off is

  by_cut : (one other cut : Bool) → names_commit p.planned.terminal_tear 0 ≡ cut → AtRest p part → part.lane.store.commits ≡ None
      → Q (moved_behind p one other (opens_by p part one cut))
  by_cut one other true is at off = loses at off is
  by_cut one other false is at off = by_due one other (opened_to_add part.lane.store one).due refl at off

  by_delivery : (one other due : Bool) (made : ℕ) → AtRest p part → part.lane.store.commits ≡ Some made → part.lane.store.due ≡ due
      → Q (moved_behind p one other (goes_through p part due))
  by_delivery one other true made at on is = sends at (record { made = made; on = on; due_is = is })
  by_delivery one other false made at on is = goes one (ready at (record { made = made; on = on; due_is = is }))

  by_store : (one other : Bool) (commits : Option ℕ) → AtRest p part → part.lane.store.commits ≡ commits
      → Q (moved_behind p one other (stored_by p part one commits))
  by_store one other None at is = by_cut one other (names_commit p.planned.terminal_tear 0) refl at is
  by_store one other (Some made) at is = by_delivery one other part.lane.store.due made at is refl

  by_holder : (one other : Bool) (holder : Option Holder) → p.durable ≡ true → part.lane.running ≡ None → part.card.holder ≡ holder
      → Q (moved_behind p one other (free_by p part one holder))
  by_holder one other None durable rests is = by_store one other part.lane.store.commits (record { durable = durable; rests = rests; free = is }) refl
  by_holder one other (Some holder) durable rests is = stays

  by_running : (one other : Bool) (o : Option (List Reply)) → p.durable ≡ true → part.lane.running ≡ o → Q (moved_behind p one other (runs_by p part one o))
  by_running one other None durable is = by_holder one other part.card.holder durable is refl
  by_running one other (Some replies) durable is = goes one (runs durable replies is)

  by_durable : (one other durable : Bool) → p.durable ≡ durable → Q (moved_behind p one other (before_by p part one durable))
  by_durable one other false is = goes one (plain is)
  by_durable one other true is = by_running one other part.lane.running is refl

  pub lane_ways : (one other : Bool) → Q (lane_piece p part one other)
  lane_ways one other = by_durable one other p.durable refl
