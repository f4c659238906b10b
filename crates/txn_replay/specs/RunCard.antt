-- A card of a run in its place: one with applications, or one of canned answers.
use Rattle.std.specs.Prelude.{◌≡◌, ⊤, ℕ, Bool, is_some, List, Option, Some, None}
use Rattle.card_app.specs.SeenIcc.{IccSeen, IccOn, IccOff, icc_is_powered as icc_on, icc_losses}
use Rattle.card_state.specs.Decisions.{Decided}
use Rattle.emv_ports.specs.Memory.{Memory, IsBlank}
use Rattle.emv_ports.specs.declared.tear.Tear.{Tear}
use Rattle.scenario_plan.specs.Cards.{CardData}
use Rattle.txn_replay.specs.Counting.{capped_at_64}
use Rattle.txn_replay.specs.World.{CardRow}

-- its answers, how many it gave since power-up where it is on, and its pages, which are never used
pub record CannedSeen : Type 0 where
  pub answers : List (List ℕ)
  pub told : Option ℕ
  pub pages : Memory

pub data RunCardSeen : Type 0 where
  OfApps : (icc : IccSeen) → RunCardSeen
  OfCanned : (canned : CannedSeen) → RunCardSeen

abbrev pub run_card_is_powered : RunCardSeen → Bool
run_card_is_powered (OfApps icc) = icc_on icc
run_card_is_powered (OfCanned canned) = is_some canned.told

-- on under this plan, with no decision pending
abbrev pub RunCardOn : RunCardSeen → CardRow → Option Tear → Type 0
RunCardOn (OfApps icc) row plan = IccOn icc row.session row.kept plan row.made × (row.pending ≡ None)
RunCardOn (OfCanned canned) row plan = canned.told ≡ Some row.told

-- off, and its pages may stand for these decisions
abbrev pub RunCardOff : RunCardSeen → List Decided → Option Decided → Type 0
RunCardOff (OfApps icc) kept pending = IccOff icc kept pending
RunCardOff (OfCanned canned) kept pending = canned.told ≡ None

-- it has the card's applications, or its answers and blank pages
abbrev pub IsRunCardOf : RunCardSeen → CardData → Type 0
IsRunCardOf (OfApps icc) card = (card.canned ≡ None) × (icc.image ≡ card.image)
IsRunCardOf (OfCanned canned) card = (card.canned ≡ Some canned.answers) × IsBlank canned.pages

-- its pages have counted so many losses of power
abbrev pub HasLost : RunCardSeen → ℕ → Type 0
HasLost (OfApps icc) losses = icc_losses icc ≡ capped_at_64 losses
HasLost (OfCanned canned) losses = ⊤
