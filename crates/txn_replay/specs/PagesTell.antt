-- What the pages that a run leaves tell of its cards (this project's own).
use Rattle.std.specs.Prelude.{◌≡◌, ℕ, List, slice_get, Some, None}
use Rattle.card_files.specs.Files.{opening_of}
use Rattle.card_state.specs.Totals.{totals}
use Rattle.emv_ports.specs.Memory.{Memory}
use Rattle.scenario_plan.specs.Cards.{CardData}
use Rattle.scenario_plan.specs.Plan.{ScenarioData}
use Rattle.txn_replay.specs.Seen.{BankStands}
use Rattle.txn_replay.specs.World.{World, card_at}

-- two worlds of a scenario for whose cards the same pages stand have the same totals of every card with applications that
-- has no open decision in either
abbrev pub PagesTellTotals : Type 0
PagesTellTotals =
    (s : ScenarioData) (w v : World) (bank : List Memory) → BankStands s w bank → BankStands s v bank
    → (i : ℕ) (card : CardData) → slice_get s.cards i ≡ Some card → card.canned ≡ None → (card_at w i).pending ≡ None → (card_at v i).pending ≡ None
    → totals (opening_of card.image) (card_at w i).kept ≡ totals (opening_of card.image) (card_at v i).kept
