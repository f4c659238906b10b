-- The value of a whole run, and the world that it stands for.
use Rattle.std.specs.Prelude.{◌≡◌, ◌⊎◌, ℕ, zero, suc, ◌+◌, ◌-◌, ◌≤◌, Bool, true, false, ◌&&◌, ◌==◌, nat_le, is_none, List, [], length, sum_by, count_by, slice_get, Option, Some, None}
use Rattle.std.specs.List.{All}
use Rattle.capture_store.specs.ListPages.{MayStandForList}
use Rattle.capture_store.specs.SeenLaneStore.{LaneStoreSeen}
use Rattle.card_files.specs.Files.{opening_of}
use Rattle.card_app.specs.Pages.{MayStand}
use Rattle.emv_ports.specs.Memory.{Memory, IsBlank}
use Rattle.emv_ports.specs.declared.tear.Tear.{Tear}
use Rattle.issuer_host.specs.History.{HostData, HostStands}
use Rattle.kernel.specs.Tally.{Counts}
use Rattle.report_text.specs.declared.line.Line.{Line}
use Rattle.scenario_plan.specs.Cards.{CardData}
use Rattle.scenario_plan.specs.Plan.{ScenarioData, IsScenario}
use Rattle.scenario_lanes.specs.Plan.{LaneData, last_pages}
use Rattle.txn_replay.specs.Bounds.{IsFewIn}
use Rattle.txn_replay.specs.Counting.{capped_at_64, counts, lost_count}
use Rattle.txn_replay.specs.Payment.{Payment, payment_in, durable_of}
use Rattle.txn_replay.specs.Run.{all_over}
use Rattle.txn_replay.specs.RunCard.{RunCardSeen, RunCardOn, IsRunCardOf, HasLost, run_card_is_powered}
use Rattle.txn_replay.specs.Sound.{IsWorldSound}
use Rattle.txn_replay.specs.StandAlone.{ComesApart}
use Rattle.txn_replay.specs.Standing.{RunStands, LaneKeeps, CardStands, LaneStoreFor, LaneFits, SameLane, lane_left, lane_store_left}
use Rattle.txn_replay.specs.Steps.{Asks, checks, Step}
use Rattle.txn_replay.specs.Stored.{StoresStand, IsSettledTo}
use Rattle.txn_replay.specs.World.{Holder, CardRow, LaneRow, World, card_at, lane_at}
use Rattle.txn_replay.specs.declared.event.Event.{Event}
use Rattle.txn_replay.specs.declared.lane.Lane.{Lane}

pub record WorldSeen : Type 0 where
  pub scenario : ScenarioData
  pub run_cards : List RunCardSeen
  pub lanes : List Lane
  -- the store of each lane, where it has one
  pub lane_stores : List LaneStoreSeen
  pub host : HostData
  pub tally : Counts
  -- the pages that no card and no store has
  pub spare : List Memory

-- nothing is another, but that a lane may have more room than before
pub record IsUnmoved (old new : WorldSeen) : Type 0 where
  pub scenario : new.scenario ≡ old.scenario
  pub run_cards : new.run_cards ≡ old.run_cards
  pub lane_count : length new.lanes ≡ length old.lanes
  pub lanes : (l : ℕ) (later : Lane) → slice_get new.lanes l ≡ Some later → (lane : Lane) × (slice_get old.lanes l ≡ Some lane) × SameLane lane later
  pub lane_stores : new.lane_stores ≡ old.lane_stores
  pub host : new.host ≡ old.host
  pub tally : new.tally ≡ old.tally
  pub spare : new.spare ≡ old.spare

-- the plan of the purchase that has a card
abbrev pub plan_in : Option Payment → Option Tear
plan_in None = None
plan_in (Some p) = p.planned.tear

abbrev pub plan_for : ScenarioData → Option Holder → Option Tear
plan_for s None = None
plan_for s (Some holder) = plan_in (payment_in s holder.lane holder.number)

-- a card that the audit has turned on: no purchase has it, and there is no plan
pub record IsAudited (s : ScenarioData) (w : World) (run_card : RunCardSeen) (card : CardData) (row : CardRow) : Type 0 where
  pub over : all_over s w ≡ true
  pub is : IsRunCardOf run_card card
  pub losses : HasLost run_card row.losses
  pub free : row.holder ≡ None
  pub on : RunCardOn run_card row None

abbrev pub RunCardStands : ScenarioData → World → RunCardSeen → CardData → CardRow → Type 0
RunCardStands s w run_card card row = CardStands run_card card (plan_for s row.holder) row ⊎ IsAudited s w run_card card row

-- the plan under which a lane's store is opened: that of the purchase behind those that have ended
abbrev pub terminal_plan : Option Payment → Option Tear
terminal_plan None = None
terminal_plan (Some p) = p.planned.terminal_tear

abbrev pub LaneStoreAt : ScenarioData → ℕ → LaneStoreSeen → LaneRow → Type 0
LaneStoreAt s l lane_store row = LaneStoreFor lane_store row (terminal_plan (payment_in s l (length row.ended))) (durable_of s l)

-- a terminal that runs the purchase behind those that have ended, or none
abbrev pub RunFor : Lane → LaneRow → Option Payment → Type 0
RunFor lane row None = lane.running ≡ None
RunFor lane row (Some p) = RunStands lane.running p row.running

pub record LaneAt (s : ScenarioData) (l : ℕ) (lane : Lane) (row : LaneRow) : Type 0 where
  pub keeps : LaneKeeps lane row
  pub runs : RunFor lane row (payment_in s l (length row.ended))

-- a value of the code stands for this world of a run
pub record WorldStands (v : WorldSeen) (w : World) : Type 0 where
  pub sound : IsWorldSound v.scenario w
  pub few : (l : ℕ) → IsFewIn v.scenario l (lane_at w l)
  pub run_cards : (i : ℕ) (run_card : RunCardSeen) (card : CardData) → slice_get v.run_cards i ≡ Some run_card → slice_get v.scenario.cards i ≡ Some card
      → RunCardStands v.scenario w run_card card (card_at w i)
  pub lanes : (l : ℕ) (lane : Lane) → slice_get v.lanes l ≡ Some lane → LaneAt v.scenario l lane (lane_at w l)
  pub lane_stores : (l : ℕ) (lane_store : LaneStoreSeen) → slice_get v.lane_stores l ≡ Some lane_store → LaneStoreAt v.scenario l lane_store (lane_at w l)
  pub stored : StoresStand v.scenario w
  pub messages : HostStands v.host w.messages
  pub tally : v.tally ≡ counts w

-- how many lanes keep their captures durably
abbrev pub durable_count : List LaneData → ℕ
durable_count lanes = count_by (λ lane. lane.durable) lanes

-- a value stands for some world
abbrev pub IsStanding : WorldSeen → Type 0
IsStanding v = (w : World) × WorldStands v w

-- what a value keeps to, whatever it stands for
pub record IsWorldWhole (v : WorldSeen) : Type 0 where
  pub scenario : IsScenario v.scenario
  pub run_card_count : length v.run_cards ≡ length v.scenario.cards
  pub lane_count : length v.lanes ≡ length v.scenario.lanes
  pub lane_store_count : length v.lane_stores ≡ length v.scenario.lanes
  pub fits : All LaneFits v.lanes
  pub keys : v.host.keys ≡ v.scenario.issuer
  pub accounts : v.host.accounts ≡ v.scenario.accounts
  pub blank : All IsBlank v.spare
  -- each of the 64 pages is a card's, a store's or spare
  pub pages : length v.spare + length v.scenario.cards + durable_count v.scenario.lanes ≡ 64
  pub standing : IsStanding v

-- an event has led to what the value stands for, and is one of a lane alone, or none of it, for each that shares nothing
pub record EventHasLed (v : WorldSeen) (w : World) (e : Event) (lines : List Line) : Type 0 where
  pub choices : List Bool
  pub after : World
  pub step : Step v.scenario w e choices lines after
  pub apart : ComesApart v.scenario w e choices lines after
  pub stands : WorldStands v after

-- no purchase runs, and each of its lane has ended
abbrev pub is_lane_done : Option LaneData → Option Lane → Bool
is_lane_done (Some terminal) (Some lane) = is_none lane.running && lane.ended == length terminal.purchases
is_lane_done (Some terminal) None = false
is_lane_done None lane = false

-- so in each of the first lanes
abbrev pub done_below : List LaneData → List Lane → ℕ → Bool
done_below terminals lanes zero = true
done_below terminals lanes (suc l) = is_lane_done (slice_get terminals l) (slice_get lanes l) && done_below terminals lanes l

-- whether every purchase is over, read off the value
abbrev pub is_done : WorldSeen → Bool
is_done v = done_below v.scenario.lanes v.lanes (length v.scenario.lanes)

-- how many exchanges are left at most
abbrev pub turns_left : WorldSeen → ℕ
turns_left v = sum_by lane_left v.lanes + sum_by lane_store_left v.lane_stores

-- the settlement has come to this step in some world that the value stands for
pub record IsSettling (v : WorldSeen) (k : ℕ) : Type 0 where
  pub world : World
  pub stands : WorldStands v world
  pub through : IsSettledTo v.scenario world k

-- the card that a check asks is on
abbrev pub IsNext : WorldSeen → ℕ → Type 0
IsNext v k =
    (i : ℕ) (card : CardData) (command : List ℕ) (run_card : RunCardSeen) → slice_get (checks v.scenario) k ≡ Some (Asks i card command)
    → slice_get v.run_cards i ≡ Some run_card → run_card_is_powered run_card ≡ true

-- pages that are off, and may stand for what a card has decided
pub record PagesStand (memory : Memory) (card : CardData) (row : CardRow) : Type 0 where
  pub off : memory.on ≡ false
  pub may : MayStand memory.cells card.image.version (opening_of card.image) row.kept row.pending
  pub losses : memory.losses ≡ capped_at_64 row.losses

-- those of a card of canned answers are blank
abbrev pub PagesAre : Memory → CardData → CardRow → Option (List (List ℕ)) → Type 0
PagesAre memory card row None = PagesStand memory card row
PagesAre memory card row (Some answers) = IsBlank memory

-- pages that are off, and may stand for the list of a lane's store; their losses are the lost purchases
pub record StorePages (memory : Memory) (row : LaneRow) : Type 0 where
  pub off : memory.on ≡ false
  pub may : MayStandForList memory.cells row.store.list row.store.lost
  pub losses : memory.losses ≡ capped_at_64 (lost_count row.ended)

-- the pages of this number are those of a lane's store
abbrev pub is_store_of : ScenarioData → ℕ → Bool
is_store_of s i = nat_le i last_pages && durable_of s (last_pages - i)

-- the cards' pages stand first, the store of lane `l` has those that are `l` before the last ones, and all others are blank
pub record BankStands (s : ScenarioData) (w : World) (bank : List Memory) : Type 0 where
  pub cards : (i : ℕ) (card : CardData) → slice_get s.cards i ≡ Some card
      → (memory : Memory) × (slice_get bank i ≡ Some memory) × PagesAre memory card (card_at w i) card.canned
  pub stores : (l : ℕ) → durable_of s l ≡ true → (memory : Memory) × (slice_get bank (last_pages - l) ≡ Some memory) × StorePages memory (lane_at w l)
  pub others : (i : ℕ) (memory : Memory) → slice_get bank i ≡ Some memory → length s.cards ≤ i → is_store_of s i ≡ false → IsBlank memory

-- a lane before its first purchase
pub record IsNewLane (lane : Lane) : Type 0 where
  pub ended : lane.ended ≡ 0
  pub running : lane.running ≡ None
  pub log : lane.log.items ≡ []
  pub captures : lane.captures.messages ≡ []
  pub place : lane.place ≡ None
  pub ending : lane.ending ≡ None
  pub found : lane.found ≡ None

-- the host of a scenario before its first message
pub record HasOpened (scenario : ScenarioData) (host : HostData) : Type 0 where
  pub stands : HostStands host []
  pub keys : host.keys ≡ scenario.issuer
  pub accounts : host.accounts ≡ scenario.accounts
