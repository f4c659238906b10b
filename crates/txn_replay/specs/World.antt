-- The world of a run: each card with what it decided, each lane with its purchases, and the messages that came to the
-- issuer's host (this project's own).
use Rattle.std.specs.Prelude.{ℕ, Bool, List, [], ◌∷◌, ◌++◌, map, slice_index_or, Option, None}
use Rattle.capture_store.specs.StoreRow.{StoreRow, new_store}
use Rattle.card_app.specs.Session.{Exchange}
use Rattle.card_state.specs.Decisions.{Decided}
use Rattle.emv_dict.specs.declared.purchase.Logged.{Logged}
use Rattle.kernel.specs.Ended.{EndData}
use Rattle.kernel.specs.Reply.{Reply}
use Rattle.scenario_plan.specs.Plan.{ScenarioData}

-- a purchase by its lane and its number in the lane, both from 0
pub record Holder : Type 0 where
  pub lane : ℕ
  pub number : ℕ

-- a cryptogram that a card gave: its application, that one's transaction counter, and the purchase
pub record CryptogramGiven : Type 0 where
  pub app : ℕ
  pub counter : ℕ
  pub holder : Holder

-- what a card did: a power-up was completed and found these decisions; these were taken for a command, and its
-- answer came; or the power was cut at the last of these
pub data Act : Type 0 where
  Found : (ds : List Decided) → Act
  Answering : (ds : List Decided) → Act
  Breaking : (ds : List Decided) → Act

pub record CardRow : Type 0 where
  -- the decisions that are kept, and one that may be kept too
  pub kept : List Decided
  pub pending : Option Decided
  -- the commands and answers since power-up, and how many decisions were taken since then
  pub session : List Exchange
  pub made : ℕ
  -- how many canned answers were given since power-up
  pub told : ℕ
  -- the running purchase that has the card
  pub holder : Option Holder
  pub given : List CryptogramGiven
  pub acts : List Act
  -- how often its power was cut
  pub losses : ℕ

-- a purchase that has ended: what its card's power-up found, what the terminal was told, its end record where its dialogue
-- has ended, and whether it was lost: the power of its terminal was cut before the outcome was stored
pub record Past : Type 0 where
  pub began : Option (List Decided)
  pub replies : List Reply
  pub end : Option EndData
  pub lost : Bool

pub record LaneRow : Type 0 where
  pub ended : List Past
  -- what the terminal was told in the purchase behind these, where it runs
  pub running : Option (List Reply)
  -- and the decisions that the power-up of its card found, where that has applications
  pub began : Option (List Decided)
  pub log : List Logged
  -- the messages for settlement
  pub captures : List (List ℕ)
  -- those that were made for the host, one a delivery at settlement, whether they came to it or were lost
  pub sent : List (List ℕ)
  -- where a lane that keeps its captures durably has them
  pub store : StoreRow

-- what has happened: a row of each card, a row of each lane, and the messages that came to the issuer's host
pub record World : Type 0 where
  pub cards : List CardRow
  pub lanes : List LaneRow
  -- those that came to the issuer's host
  pub messages : List (List ℕ)

abbrev pub new_card : CardRow
new_card = record { kept = []; pending = None; session = []; made = 0; told = 0; holder = None; given = []; acts = []; losses = 0 }

abbrev pub new_lane : LaneRow
new_lane = record { ended = []; running = None; began = None; log = []; captures = []; sent = []; store = new_store }

-- the world before anything has happened
abbrev pub first_world : ScenarioData → World
first_world s = record { cards = map (λ card. new_card) s.cards; lanes = map (λ lane. new_lane) s.lanes; messages = [] }

abbrev pub card_at : World → ℕ → CardRow
card_at w i = slice_index_or w.cards i new_card

abbrev pub lane_at : World → ℕ → LaneRow
lane_at w l = slice_index_or w.lanes l new_lane

-- a message is made for the host
abbrev pub with_sent : List ℕ → LaneRow → LaneRow
with_sent message lane = record lane { sent = lane.sent ++ message ∷ [] }

abbrev pub with_store : StoreRow → LaneRow → LaneRow
with_store store lane = record lane { store = store }
