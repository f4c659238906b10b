-- The cards and the stores of a run, and the pages that they take and give back.
use Rattle.std.specs.Prelude.{◌≡◌, ⊤, ℕ, ◌+◌, ◌≤◌, ◌-◌, Bool, true, false, is_some, List, [], ◌∷◌, count_by, insert, slice_get, Option, Some, None}
use Rattle.std.specs.List.{All}
use Rattle.capture_store.specs.ListPages.{StandsForList, MayStandForList}
use Rattle.capture_store.specs.SeenLaneStore.{LaneStoreSeen, LaneStoreOn, LaneStoreOff, store_losses as lane_store_losses}
use Rattle.capture_store.specs.StoreRow.{StoreRow, new_store}
use Rattle.card_app.specs.SeenIcc.{IccSeen, IccOn, IccOff, icc_losses}
use Rattle.card_app.specs.Session.{Exchange}
use Rattle.card_files.specs.Files.{opening_of}
use Rattle.card_app.specs.Pages.{MayStand, StandsFor}
use Rattle.card_state.specs.Decisions.{Decided}
use Rattle.emv_ports.specs.Memory.{Memory, IsBlank}
use Rattle.emv_ports.specs.declared.tear.Tear.{Tear}
use Rattle.scenario_plan.specs.Cards.{CardData}
use Rattle.scenario_lanes.specs.Plan.{LaneData, last_pages}
use Rattle.txn_replay.specs.RunCard.{RunCardSeen, OfApps, OfCanned, RunCardOff, IsRunCardOf, HasLost}

-- nothing stands there yet, and so much has room
pub record HasRoomFor {A : Type 0} (count : ℕ) (items : List A) (capacity : ℕ) : Type 0 where
  pub none : items ≡ []
  pub room : count ≤ capacity

-- pages that are all blank, in a bank of the capacity of before
pub record StaysBlank (bank : List Memory) (before capacity : ℕ) : Type 0 where
  pub blank : All IsBlank bank
  pub same : capacity ≡ before

-- a card before its first power-up
pub record IsNew (card : CardData) (run_card : RunCardSeen) : Type 0 where
  pub off : RunCardOff run_card [] None
  pub is : IsRunCardOf run_card card
  pub losses : HasLost run_card 0

-- so is each of them
abbrev pub AreNew : List CardData → List RunCardSeen → Type 0
AreNew cards run_cards =
    (i : ℕ) (card : CardData) (run_card : RunCardSeen) → slice_get cards i ≡ Some card → slice_get run_cards i ≡ Some run_card → IsNew card run_card

-- what a card with applications leaves
pub record IsIccLeft (icc : IccSeen) (memory : Memory) : Type 0 where
  pub off : memory.on ≡ false
  pub may : (kept : List Decided) (pending : Option Decided) → IccOff icc kept pending → MayStand memory.cells icc.image.version (opening_of icc.image) kept pending
  pub stands : (session : List Exchange) (ds : List Decided) (plan : Option Tear) (made : ℕ) → IccOn icc session ds plan made
      → StandsFor memory.cells icc.image.version (opening_of icc.image) ds
  pub losses : memory.losses ≡ icc_losses icc

-- and a card, of whichever kind
abbrev pub IsRunCardLeft : RunCardSeen → Memory → Type 0
IsRunCardLeft (OfApps icc) memory = IsIccLeft icc memory
IsRunCardLeft (OfCanned canned) memory = memory ≡ canned.pages

-- the cards from this number on have left their pages
abbrev pub AreGiven : List RunCardSeen → ℕ → List Memory → Type 0
AreGiven run_cards n bank =
    (i : ℕ) (run_card : RunCardSeen) → n ≤ i → slice_get run_cards i ≡ Some run_card → (memory : Memory) × (slice_get bank (i - n) ≡ Some memory) × IsRunCardLeft run_card memory

-- a store before its first opening, or none
abbrev pub IsNewStore : LaneStoreSeen → Bool → Type 0
IsNewStore lane_store true = LaneStoreOff lane_store new_store × (lane_store_losses lane_store ≡ 0)
IsNewStore lane_store false = lane_store ≡ None

abbrev pub AreNewStores : List LaneData → List LaneStoreSeen → Type 0
AreNewStores lanes lane_stores =
    (l : ℕ) (lane : LaneData) (lane_store : LaneStoreSeen) → slice_get lanes l ≡ Some lane → slice_get lane_stores l ≡ Some lane_store → IsNewStore lane_store lane.durable

-- how many of them are stores
abbrev pub stores_in : List LaneStoreSeen → ℕ
stores_in lane_stores = count_by is_some lane_stores

-- what a store leaves
pub record IsStoreLeft (lane_store : LaneStoreSeen) (memory : Memory) : Type 0 where
  pub off : memory.on ≡ false
  pub may : (row : StoreRow) → LaneStoreOff lane_store row → MayStandForList memory.cells row.list row.lost
  pub stands : (row : StoreRow) (plan : Option Tear) → LaneStoreOn lane_store row plan → StandsForList memory.cells row.list
  pub losses : memory.losses ≡ lane_store_losses lane_store

abbrev pub IsStoreGiven : LaneStoreSeen → Option Memory → Type 0
IsStoreGiven None None = ⊤
IsStoreGiven (Some seen) (Some memory) = IsStoreLeft (Some seen) memory
IsStoreGiven None (Some memory) = ⊥
IsStoreGiven (Some seen) None = ⊥

abbrev pub StoresAreGiven : List LaneStoreSeen → List (Option Memory) → Type 0
StoresAreGiven [] [] = ⊤
StoresAreGiven (lane_store ∷ lane_stores) (pages ∷ others) = IsStoreGiven lane_store pages × StoresAreGiven lane_stores others
StoresAreGiven [] (pages ∷ others) = ⊥
StoresAreGiven (lane_store ∷ lane_stores) [] = ⊥

-- pages put back at their place
abbrev pub with_pages : ℕ → Option Memory → List Memory → List Memory
with_pages place None bank = bank
with_pages place (Some memory) bank = insert bank place memory

-- those of lanes, the first of which has this number, the last lane's first
abbrev pub with_stores : ℕ → List (Option Memory) → List Memory → List Memory
with_stores l [] bank = bank
with_stores l (pages ∷ others) bank = with_pages (last_pages - l) pages (with_stores (l + 1) others bank)
