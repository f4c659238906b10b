-- What a value stands for of a run.
use Rattle.std.specs.Prelude.{◌≡◌, ⊤, ℕ, ◌+◌, ◌*◌, ◌-◌, ◌≤◌, ◌<◌, ◌==◌, Bool, true, false, List, [], ◌∷◌, ◌++◌, length, fold, Option, Some, None, is_none, option_map, option_and_then, IsSome, IsSomeAnd}
use Rattle.std.specs.Global.{Box}
use Rattle.std.specs.List.{All}
use Rattle.std.specs.Vec.{vec_len, vec_capacity}
use Rattle.auth_message.specs.Whole.{IsMessage}
use Rattle.capture_store.specs.Calls.{list_found}
use Rattle.capture_store.specs.SeenLaneStore.{LaneStoreSeen, LaneStoreOn, LaneStoreOff, has_power, count_of, store_losses}
use Rattle.capture_store.specs.StoreRow.{StoreRow}
use Rattle.capture_store.specs.Waits.{HasSpace}
use Rattle.emv_dict.specs.Settings.{most_amount}
use Rattle.emv_ports.specs.declared.tear.Tear.{Tear}
use Rattle.issuer_host.specs.Account.{AccountData}
use Rattle.issuer_host.specs.History.{HostData}
use Rattle.issuer_host.specs.declared.keys.HostKeys.{HostKeys}
use Rattle.kernel.specs.Ended.{EndData}
use Rattle.kernel.specs.Kernel.{KernelData, KernelStands, outset_in, kernel_next}
use Rattle.kernel.specs.Rank.{kernel_rank}
use Rattle.kernel.specs.Reply.{Reply}
use Rattle.kernel.specs.Tally.{Counts, raised}
use Rattle.kernel.specs.declared.kernel.Next.{Next}
use Rattle.kernel.specs.declared.kernel.Next.TheVariants as next
use Rattle.object_lists.specs.CardRead.{ReadCard}
use Rattle.report_text.specs.declared.line.Line.{Line}
use Rattle.scenario_plan.specs.Cards.{CardData}
use Rattle.scenario_plan.specs.SeenCards.{seen_card}
use Rattle.txn_replay.specs.Counting.{capped_at_64, lost_count}
use Rattle.txn_replay.specs.Part.{Part, Moved}
use Rattle.txn_replay.specs.Payment.{Payment, outset_for}
use Rattle.txn_replay.specs.Reading.{last_past, past_card, latest_ending}
use Rattle.txn_replay.specs.RunCard.{RunCardSeen, RunCardOn, RunCardOff, IsRunCardOf, HasLost, run_card_is_powered}
use Rattle.txn_replay.specs.Stored.{StoredBy}
use Rattle.txn_replay.specs.World.{Holder, CardRow, LaneRow, Past}
use Rattle.txn_replay.specs.declared.lane.Lane.{Lane}
use Rattle.txn_replay.specs.declared.payment.Payment.{Payment as Paying}

-- a purchase with its issuer
abbrev pub seen_payment : HostKeys → List AccountData → Paying → Payment
seen_payment issuer accounts at = record {
  issuer = issuer;
  accounts = accounts;
  copies = at.copies;
  lane = at.lane;
  iso = at.iso;
  durable = at.durable;
  settings = at.settings.now;
  planned = at.planned.now;
  card = seen_card at.card.now;
}

-- a terminal that has taken these replies, or none that runs
abbrev pub RunStands : Option (Box KernelData) → Payment → Option (List Reply) → Type 0
RunStands None p None = ⊤
RunStands (Some kernel) p (Some replies) = KernelStands kernel.value replies × (outset_in kernel.value ≡ outset_for p)
RunStands None p (Some replies) = ⊥
RunStands (Some kernel) p None = ⊥

-- a terminal that runs, and has taken some replies
abbrev pub HasTaken : Option (Box KernelData) → Type 0
HasTaken None = ⊥
HasTaken (Some kernel) = (replies : List Reply) × KernelStands kernel.value replies

-- what reading gave in the dialogue that ended last
abbrev pub card_last_read : Option (Box KernelData) → Option ReadCard
card_last_read None = None
card_last_read (Some place) = place.value.card

-- what a lane keeps of the purchases that have ended; where one runs, it is read itself
pub record LaneKeeps (lane : Lane) (row : LaneRow) : Type 0 where
  pub ended : lane.ended ≡ length row.ended
  pub log : lane.log.items ≡ row.log
  pub amounts : All (λ logged. logged.amount ≤ most_amount) row.log
  pub captures : lane.captures.messages ≡ row.captures
  pub messages : All IsMessage row.captures
  -- those that were made for the host
  pub sent : All IsMessage row.sent
  -- whatever the next opening of its store finds
  pub stored : (found : Bool) → All IsMessage (list_found row.store.list row.store.lost found)
  pub found : lane.found ≡ option_map length row.store.found
  pub card : lane.running ≡ None → card_last_read lane.place ≡ option_and_then past_card (last_past row.ended)
  pub ending : lane.ending ≡ latest_ending row.ended

pub record LaneStands (lane : Lane) (p : Payment) (row : LaneRow) : Type 0 where
  pub keeps : LaneKeeps lane row
  pub running : RunStands lane.running p row.running

-- on for the purchase that has it, under its plan; off for none
abbrev pub PlaceStands : RunCardSeen → Option Tear → CardRow → Option Holder → Type 0
PlaceStands run_card plan row None = RunCardOff run_card row.kept row.pending
PlaceStands run_card plan row (Some holder) = RunCardOn run_card row plan

pub record CardStands (run_card : RunCardSeen) (card : CardData) (plan : Option Tear) (row : CardRow) : Type 0 where
  pub is : IsRunCardOf run_card card
  pub losses : HasLost run_card row.losses
  pub stands : PlaceStands run_card plan row row.holder

-- on under the plan of the purchase that is next or runs, or off, as the store's row is
abbrev pub StorePlace : LaneStoreSeen → StoreRow → Option Tear → Option ℕ → Type 0
StorePlace lane_store store plan None = LaneStoreOff lane_store store
StorePlace lane_store store plan (Some made) = LaneStoreOn lane_store store plan

-- a lane's store, whose losses are the lost purchases
pub record StoreStands (lane_store : LaneStoreSeen) (row : LaneRow) (plan : Option Tear) : Type 0 where
  pub place : StorePlace lane_store row.store plan row.store.commits
  pub losses : store_losses lane_store ≡ capped_at_64 (lost_count row.ended)

-- a lane has a store exactly where it keeps its captures durably
abbrev pub LaneStoreFor : LaneStoreSeen → LaneRow → Option Tear → Bool → Type 0
LaneStoreFor lane_store row plan false = lane_store ≡ None
LaneStoreFor lane_store row plan true = StoreStands lane_store row plan

-- so it is for a purchase of the lane
abbrev pub LaneStoreStands : LaneStoreSeen → Payment → LaneRow → Type 0
LaneStoreStands lane_store p row = LaneStoreFor lane_store row p.planned.terminal_tear p.durable

-- while a purchase runs its store is on and has room
abbrev pub HasRoomForCapture : LaneStoreSeen → Bool → Type 0
HasRoomForCapture lane_store durable = durable ≡ true → (has_power lane_store ≡ true) × (count_of lane_store < 7)

-- the purchase that runs: its terminal has taken these replies, and its card is on for it
pub record PartRuns (p : Payment) (lane : Lane) (lane_store : LaneStoreSeen) (run_card : RunCardSeen) (replies : List Reply) (part : Part) : Type 0 where
  pub lane_is : LaneStands lane p (record part.lane { running = Some replies })
  pub lane_store_is : LaneStoreStands lane_store p part.lane
  pub holder : Holder
  pub has : part.card.holder ≡ Some holder
  pub on : RunCardOn run_card part.card p.planned.tear
  pub is : IsRunCardOf run_card p.card
  pub losses : HasLost run_card part.card.losses

-- a terminal whose dialogue is over
abbrev pub is_ended : Next → Bool
is_ended next.ToCard = false
is_ended next.ToHost = false
is_ended next.Ended = true

abbrev pub is_over : Option (Box KernelData) → Bool
is_over None = false
is_over (Some kernel) = is_ended (kernel_next kernel.value)

-- purchases that have ended are counted
abbrev pub count_end : Counts → ℕ → Option EndData → Counts
count_end counts replies None = counts
count_end counts replies (Some end) = raised counts end.ending replies

abbrev pub count_past : Counts → Past → Counts
count_past counts past = count_end counts (length past.replies) past.end

abbrev pub counted_ends : Counts → List Past → Counts
counted_ends counts pasts = fold count_past counts pasts

-- one that has no end record was told nothing
abbrev pub IsPast : Past → Type 0
IsPast past = is_none past.end ≡ true → past.replies ≡ []

abbrev pub ArePasts : List Past → Type 0
ArePasts [] = ⊤
ArePasts (past ∷ pasts) = IsPast past × ArePasts pasts

-- an exchange has led to this
pub record ExchangeHasLed (p : Payment) (lane : Lane) (lane_store : LaneStoreSeen) (run_card : RunCardSeen) (lines : List Line) (m : Moved) : Type 0 where
  pub lane_is : LaneStands lane p m.part.lane
  pub lane_store_is : LaneStoreStands lane_store p m.part.lane
  pub card : CardStands run_card p.card p.planned.tear m.part.card
  pub lines_are : lines ≡ m.lines

-- and the purchase that ended in it, if one did, is counted
abbrev pub IsEndCounted : Counts → Counts → List Past → List Past → Type 0
IsEndCounted before after earlier pasts = (ended : List Past) × (pasts ≡ earlier ++ ended) × (after ≡ counted_ends before ended) × ArePasts ended

-- an exchange has led to this, and the purchase that ended in it, if one did, is counted
pub record ExchangeIsCounted (p : Payment) (lane : Lane) (lane_store : LaneStoreSeen) (run_card : RunCardSeen) (before after : Counts) (lines : List Line) (part : Part) (m : Moved) : Type 0 where
  pub moved : ExchangeHasLed p lane lane_store run_card lines m
  pub counted : IsEndCounted before after part.lane.ended m.part.lane.ended

-- the purchase that is next: none runs, and its card is off for none
pub record PartRests (p : Payment) (lane : Lane) (lane_store : LaneStoreSeen) (run_card : RunCardSeen) (part : Part) : Type 0 where
  pub keeps : LaneKeeps lane part.lane
  pub lane_store_is : LaneStoreStands lane_store p part.lane
  pub rests : part.lane.running ≡ None
  pub free : part.card.holder ≡ None
  pub off : RunCardOff run_card part.card.kept part.card.pending
  pub is : IsRunCardOf run_card p.card
  pub losses : HasLost run_card part.card.losses

-- a purchase may be next: none runs, and fewer than the most have ended
pub record MayBegin (lane : Lane) : Type 0 where
  pub few : lane.ended < 10000
  pub rests : lane.running ≡ None

-- the purchase that is next with its store, which isn't opened for settlement
pub record NextRests (p : Payment) (lane : Lane) (lane_store : LaneStoreSeen) (run_card : RunCardSeen) (part : Part) : Type 0 where
  pub part_rests : PartRests p lane lane_store run_card part
  pub begins : MayBegin lane
  pub stored : StoredBy p.durable part.lane
  pub before : part.lane.store.found ≡ None

-- the card of a lane's purchase: off where none has it, on where another one has it, and on under the plan of the one
-- that runs
abbrev pub PlaceFor : Payment → RunCardSeen → CardRow → Option Holder → Option (List Reply) → Type 0
PlaceFor p run_card row None None = RunCardOff run_card row.kept row.pending
PlaceFor p run_card row (Some holder) None = run_card_is_powered run_card ≡ true
PlaceFor p run_card row None (Some replies) = ⊥
PlaceFor p run_card row (Some holder) (Some replies) = RunCardOn run_card row p.planned.tear

-- what an exchange of a lane touches
pub record PartStands (p : Payment) (lane : Lane) (lane_store : LaneStoreSeen) (run_card : RunCardSeen) (part : Part) : Type 0 where
  pub lane_is : LaneStands lane p part.lane
  pub lane_store_is : LaneStoreStands lane_store p part.lane
  pub stored : StoredBy p.durable part.lane
  pub before : part.lane.store.found ≡ None
  pub place : PlaceFor p run_card part.card part.card.holder part.lane.running
  pub is : IsRunCardOf run_card p.card
  pub losses : HasLost run_card part.card.losses

-- a lane that may only have more room: in its vectors, or for a dialogue
pub record SameLane (old new : Lane) : Type 0 where
  pub ended : new.ended ≡ old.ended
  pub running : new.running ≡ old.running
  pub log : new.log.items ≡ old.log.items
  pub captures : new.captures.messages ≡ old.captures.messages
  pub card : card_last_read new.place ≡ card_last_read old.place
  pub ending : new.ending ≡ old.ending
  pub found : new.found ≡ old.found

-- how many exchanges a lane has left at most: those of the purchase that runs, or that is next, and of those behind it
abbrev pub rank_in : Option (Box KernelData) → ℕ
rank_in None = 20099
rank_in (Some kernel) = kernel_rank kernel.value

abbrev pub lane_left : Lane → ℕ
lane_left lane = 20103 * (10000 - lane.ended) + rank_in lane.running

-- and those before the next purchase: a store that is off is opened, and a full one delivers
abbrev pub capture_list_left : Bool → Bool → ℕ
capture_list_left false full = 2
capture_list_left true true = 1
capture_list_left true false = 0

abbrev pub lane_store_left : LaneStoreSeen → ℕ
lane_store_left None = 0
lane_store_left (Some seen) = capture_list_left seen.memory.on (length seen.list == 7)

-- what a lane keeps to, whatever was said: its log has amounts within their limit, and a purchase that runs isn't over
pub record LaneFits (lane : Lane) : Type 0 where
  pub amounts : All (λ logged. logged.amount ≤ most_amount) lane.log.items
  pub waits : is_over lane.running ≡ false

-- a purchase can end: fewer than the most have ended, and the log and the captures have room for one more
pub record HasPlace (lane : Lane) : Type 0 where
  pub few : lane.ended < 10000
  pub log : vec_len lane.log < vec_capacity lane.log
  pub captures : HasSpace lane.captures
  pub amounts : All (λ logged. logged.amount ≤ most_amount) lane.log.items

-- and so can the one that runs, with its store
pub record MayEnd (lane : Lane) (lane_store : LaneStoreSeen) (durable : Bool) : Type 0 where
  pub place : HasPlace lane
  pub room : HasRoomForCapture lane_store durable
  pub taken : HasTaken lane.running

-- and its card is on
pub record MayAsk (lane : Lane) (lane_store : LaneStoreSeen) (run_card : RunCardSeen) (durable : Bool) : Type 0 where
  pub ends : MayEnd lane lane_store durable
  pub on : run_card_is_powered run_card ≡ true

-- the dialogue that runs may be ended, with a line behind these
pub record MayFinish (lane : Lane) (lane_store : LaneStoreSeen) (durable : Bool) (lines : List Line) : Type 0 where
  pub ends : MayEnd lane lane_store durable
  pub fresh : IsSomeAnd lane.running (λ kernel. kernel.value.is_spent ≡ false)
  pub room : length lines < 8

-- a purchase may be next, and its dialogue has a place to begin in
pub record MayStart (lane : Lane) : Type 0 where
  pub place : HasPlace lane
  pub rests : lane.running ≡ None
  pub dialogue : IsSome lane.place

-- an exchange has led the lane onward
pub record GoesOnward (before lane : Lane) (earlier lane_store : LaneStoreSeen) : Type 0 where
  pub fits : LaneFits lane
  pub nearer : lane_left lane + lane_store_left lane_store < lane_left before + lane_store_left earlier

-- the lane runs no purchase, has logged nothing, and has fewer exchanges left than so many
pub record StillWaits (before lane : Lane) (lane_store : LaneStoreSeen) (limit : ℕ) : Type 0 where
  pub rests : lane.running ≡ None
  pub log : lane.log ≡ before.log
  pub nearer : lane_left lane + lane_store_left lane_store < limit

-- the host has the same keys and accounts
pub record KeepsIssuer (before host : HostData) : Type 0 where
  pub keys : host.keys ≡ before.keys
  pub accounts : host.accounts ≡ before.accounts
