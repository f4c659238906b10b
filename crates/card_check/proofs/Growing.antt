-- One purchase's line more, and one lane's lines more.
use Rattle.std.proofs.Common.{◌≡◌, ℕ, ◌+◌, ◌<◌, List, ◌∷◌, ◌++◌, length, drop, get_or, slice_get, Option, Some, option_map, refl, ap, sym, ◌∙◌, append_assoc, subst, arith}
use Rattle.std.proofs.lemmas.List.{drop_more}
use Rattle.std.proofs.lemmas.Option.{slice_get-map, slice_get_read}
use Rattle.card_check.specs.Verdicts.{verdict_line_text, verdict_line_with, lines_text, lane_text, lanes_text}
use Rattle.emv_dict.specs.Views.{SettingsData}
use Rattle.scenario_plan.specs.Cards.{CardData}
use Rattle.scenario_plan.specs.SeenCards.{seen_card, seen_cards}
use Rattle.scenario_plan.specs.declared.plan.NamedCard.{NamedCard}
use Rattle.scenario_lanes.specs.Plan.{LaneData, HasCards}
use Rattle.scenario_lanes.specs.declared.plan.Planned.{Planned}

-- the card of a place, as it is seen
card_seen : (cards : List NamedCard) (place : ℕ) (card : NamedCard) → place < length cards → card ≡ get_or cards place card
    → slice_get (seen_cards cards) place ≡ Some (seen_card card)
card_seen cards place card below is =
    slice_get-map seen_card cards place
    ∙ ap (option_map seen_card) (slice_get_read cards (length cards) place card refl below is)

-- the text behind what stands and what comes
moved : (before line later whole out : List ℕ) → before ++ (line ++ later) ≡ whole → out ≡ before ++ line → out ++ later ≡ whole
moved before line later whole out all is = ap (λ (text : List ℕ). text ++ later) is ∙ append_assoc before line later ∙ all

more_lines : (cards : List CardData) (settings : SettingsData) (lane : ℕ) (purchases : List Planned) (i : ℕ) (planned : Planned) (card : CardData) (before out whole : List ℕ)
    → i < length purchases → planned ≡ get_or purchases i planned → slice_get cards planned.card ≡ Some card
    → before ++ lines_text cards settings lane (i + 1) (drop i purchases) ≡ whole → out ≡ before ++ verdict_line_text settings lane (i + 1) planned card
    → out ++ lines_text cards settings lane ((i + 1) + 1) (drop (i + 1) purchases) ≡ whole
more_lines cards settings lane purchases i planned card before out whole below is there all grown =
    let later : List Planned = drop (i + 1) purchases in
    let first : drop i purchases ≡ planned ∷ later =
    drop_more purchases i planned below ∙ ap (λ (p : Planned). p ∷ drop (i + 1) purchases) (sym is) in
    let text : lines_text cards settings lane (i + 1) (drop i purchases) ≡ verdict_line_text settings lane (i + 1) planned card ++ lines_text cards settings lane ((i + 1) + 1) later =
    ap (lines_text cards settings lane (i + 1)) first
    ∙ ap (λ (c : Option CardData). verdict_line_with settings lane (i + 1) planned c ++ lines_text cards settings lane ((i + 1) + 1) (drop (i + 1) purchases)) there in
    moved before (verdict_line_text settings lane (i + 1) planned card) (lines_text cards settings lane ((i + 1) + 1) later) whole out
    (ap (λ (t : List ℕ). before ++ t) (sym text) ∙ all) grown

-- in a lane, whose cards are there
pub lane_more : (cards : List NamedCard) (lane : LaneData) (number : ℕ) (purchases : List Planned) (settings : SettingsData) (i : ℕ) (planned : Planned) (card : NamedCard)
    (before out whole : List ℕ) → HasCards (length cards) lane → purchases ≡ lane.purchases → settings ≡ lane.settings → i < length purchases
    → planned ≡ get_or purchases i planned → card ≡ get_or cards planned.card card
    → before ++ lines_text (seen_cards cards) lane.settings number (i + 1) (drop i lane.purchases) ≡ whole
    → out ≡ before ++ verdict_line_text settings number (i + 1) planned (seen_card card)
    → out ++ lines_text (seen_cards cards) lane.settings number ((i + 1) + 1) (drop (i + 1) lane.purchases) ≡ whole
lane_more cards lane number purchases settings i planned card before out whole has purchases_is settings_is below is card_is all grown =
    let below_too : i < length lane.purchases = omega (arith, below, ap length purchases_is) in
    let is_too : planned ≡ get_or lane.purchases i planned = is ∙ ap (λ (xs : List Planned). get_or xs i planned) purchases_is in
    let room : planned.card < length cards = subst (λ (p : Planned). p.card < length cards) (sym is_too) (has i planned below_too) in
    more_lines (seen_cards cards) lane.settings number lane.purchases i planned (seen_card card) before out whole below_too is_too
    (card_seen cards planned.card card room card_is) all
    (grown ∙ ap (λ (s : SettingsData). before ++ verdict_line_text s number (i + 1) planned (seen_card card)) settings_is)

pub more_lanes : (cards : List CardData) (lanes : List LaneData) (i : ℕ) (lane : LaneData) (before out whole : List ℕ)
    → i < length lanes → lane ≡ get_or lanes i lane → before ++ lanes_text cards i (drop i lanes) ≡ whole → out ≡ before ++ lane_text cards i lane
    → out ++ lanes_text cards (i + 1) (drop (i + 1) lanes) ≡ whole
more_lanes cards lanes i lane before out whole below is all grown =
    let first : drop i lanes ≡ lane ∷ drop (i + 1) lanes =
    drop_more lanes i lane below ∙ ap (λ (l : LaneData). l ∷ drop (i + 1) lanes) (sym is) in
    moved before (lane_text cards i lane) (lanes_text cards (i + 1) (drop (i + 1) lanes)) whole out
    (ap (λ (l : List LaneData). before ++ lanes_text cards i l) (sym first) ∙ all) grown
