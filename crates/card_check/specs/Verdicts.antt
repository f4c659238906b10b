-- The lines of a scenario's purchases: whether each one's card, as it was made, is well-formed for it.
use Rattle.std.specs.Prelude.{ℕ, ◌+◌, List, [], ◌∷◌, ◌++◌, codes, decimal, is_some, if◌then◌else◌, slice_get, Option, Some, None}
use Rattle.card_files.specs.Files.{opening_of}
use Rattle.card_check.specs.Judged.{card_fault, judged_outset}
use Rattle.card_check.specs.declared.fault.AppFault.{AppFault}
use Rattle.card_check.specs.declared.fault.AppFault.TheVariants.{Reading, FirstList, SecondList, Locator}
use Rattle.card_check.specs.declared.fault.CardFault.{CardFault}
use Rattle.card_check.specs.declared.fault.CardFault.TheVariants.{Blocked, Clash, Unserved, App}
use Rattle.emv_dict.specs.Views.{SettingsData}
use Rattle.emv_dict.specs.declared.ending.Cause.{Cause}
use Rattle.report_text.specs.Pieces.{newline}
use Rattle.report_text.specs.Words.{cause_text}
use Rattle.scenario_plan.specs.Cards.{CardData}
use Rattle.scenario_plan.specs.Plan.{ScenarioData}
use Rattle.scenario_lanes.specs.Plan.{LaneData}
use Rattle.scenario_lanes.specs.declared.plan.Planned.{Planned}
use Rattle.terminal_state.specs.Terminal.{Outset}

-- why reading an application's data stops
abbrev pub reading_text : Cause → List ℕ
reading_text cause = codes "read " ++ (cause_text cause ++ newline)

-- the first part of a whole application that this one breaks
abbrev pub part_text : AppFault → List ℕ
part_text (Reading cause) = reading_text cause
part_text FirstList = codes "first-list" ++ newline
part_text SecondList = codes "second-list" ++ newline
part_text Locator = codes "long-locator" ++ newline

abbrev pub app_fault_text : ℕ → AppFault → List ℕ
app_fault_text app fault = (codes "app " ++ (decimal app ++ codes " ")) ++ part_text fault

-- the first part that a card breaks
abbrev pub fault_text : CardFault → List ℕ
fault_text Blocked = codes "card-blocked" ++ newline
fault_text (Clash first second) = codes "names-clash app " ++ (decimal first ++ (codes " app " ++ (decimal second ++ newline)))
fault_text Unserved = codes "none-serves" ++ newline
fault_text (App app fault) = app_fault_text app fault

abbrev pub judged_text : Option CardFault → List ℕ
judged_text None = codes "well-formed" ++ newline
judged_text (Some fault) = fault_text fault

-- the verdict on a card as it was made; a card of canned answers has no applications to judge
abbrev pub verdict_text : Outset → CardData → List ℕ
verdict_text outset card = if is_some card.canned then codes "canned" ++ newline else judged_text (card_fault card.image outset (opening_of card.image))

-- the line of a purchase: the card's name, the lane, counted from 0, the purchase's number there, from 1, and the verdict
abbrev pub verdict_line_text : SettingsData → ℕ → ℕ → Planned → CardData → List ℕ
verdict_line_text settings lane number planned card =
    card.name ++ ((codes " lane " ++ (decimal lane ++ (codes " purchase " ++ (decimal number ++ codes " "))))
    ++ verdict_text (judged_outset settings planned.purchase) card)

-- with the card that the purchase names
abbrev pub verdict_line_with : SettingsData → ℕ → ℕ → Planned → Option CardData → List ℕ
verdict_line_with settings lane number planned None = []
verdict_line_with settings lane number planned (Some card) = verdict_line_text settings lane number planned card

abbrev pub lines_text : List CardData → SettingsData → ℕ → ℕ → List Planned → List ℕ
lines_text cards settings lane number [] = []
lines_text cards settings lane number (planned ∷ later) =
    verdict_line_with settings lane number planned (slice_get cards planned.card) ++ lines_text cards settings lane (number + 1) later

-- the lines of a lane's purchases
abbrev pub lane_text : List CardData → ℕ → LaneData → List ℕ
lane_text cards number lane = lines_text cards lane.settings number 1 lane.purchases

abbrev pub lanes_text : List CardData → ℕ → List LaneData → List ℕ
lanes_text cards number [] = []
lanes_text cards number (lane ∷ later) = lane_text cards number lane ++ lanes_text cards (number + 1) later

-- those of all purchases, lane by lane
abbrev pub verdicts_text : ScenarioData → List ℕ
verdicts_text scenario = lanes_text scenario.cards 0 scenario.lanes
