-- What is left of limits, one application and one card after the other.
use Rattle.std.proofs.Common.{◌≡◌, ℕ, suc, ◌+◌, ◌<◌, ◌≤◌, Bool, true, false, ◌||◌, List, [], ◌∷◌, ◌++◌, Option, Some, None, is_some, length, get_or, drop, refl, sym, ap, ◌∙◌, add-one, drop-cons}
use Rattle.std.specs.List.{flat_map}
use Rattle.std.proofs.lemmas.List.{drop_all}
use Rattle.report_lines.specs.Pieces.{Piece}
use Rattle.message_words.specs.declared.cards.CardSeen.{CardSeen}
use Rattle.message_words.specs.declared.cards.Counters.{Counters}
use Rattle.purchase_reasons.specs.Left.{app_told, apps_told, app_known, part_left, left_in_line, card_left}
use Rattle.purchase_reasons.specs.declared.limits.CardApp.{CardApp}
use Rattle.purchase_reasons.specs.declared.limits.ChangedLimits.{ChangedLimits}
use Rattle.purchase_reasons.specs.declared.limits.Limits.{Limits}

-- those from a place on: the first, and those behind it
from_one : {A : Type 0} (xs : List A) (i : ℕ) (one : A) → i < length xs → one ≡ get_or xs i one → drop i xs ≡ one ∷ drop (i + 1) xs
from_one {A} xs i one within is = rw (add-one, drop-cons xs i one) (ap (λ (x : A). x ∷ drop (suc i) xs) (sym is))

part-next : (told : Bool) (card : List ℕ) (count place : ℕ) (known : Option (Counters × Limits)) (more : List (List Piece))
    → left_in_line told card (app_told count place known ++ more) ≡ part_left told card count place known ++ left_in_line (told || is_some known) card more
part-next true card count place None more = refl
part-next true card count place (Some both) more = refl
part-next false card count place None more = refl
part-next false card count place (Some both) more = refl

-- the first application, and those behind it
pub apps-next : (told : Bool) (card : List ℕ) (changed : List ChangedLimits) (counters : List Counters) (apps : List CardApp) (i : ℕ) (one : CardApp)
    → i < length apps → one ≡ get_or apps i one
    → left_in_line told card (apps_told card changed counters (drop i apps))
    ≡ part_left told card (length counters) one.place (app_known card changed counters one)
    ++ left_in_line (told || is_some (app_known card changed counters one)) card (apps_told card changed counters (drop (i + 1) apps))
apps-next told card changed counters apps i one within is =
    ap (λ (others : List CardApp). left_in_line told card (apps_told card changed counters others)) (from_one apps i one within is)
    ∙ part-next told card (length counters) one.place (app_known card changed counters one) (apps_told card changed counters (drop (i + 1) apps))

none-left : (told : Bool) (card : List ℕ) → left_in_line told card [] ≡ []
none-left true card = refl
none-left false card = refl

pub apps-end : (told : Bool) (card : List ℕ) (changed : List ChangedLimits) (counters : List Counters) (apps : List CardApp) (i : ℕ) → length apps ≤ i
    → left_in_line told card (apps_told card changed counters (drop i apps)) ≡ []
apps-end told card changed counters apps i past =
    ap (λ (others : List CardApp). left_in_line told card (apps_told card changed counters others)) (drop_all i apps past) ∙ none-left told card

-- the first card, and those behind it
pub cards-next : (apps : List CardApp) (changed : List ChangedLimits) (seen : List CardSeen) (i : ℕ) (one : CardSeen) → i < length seen → one ≡ get_or seen i one
    → flat_map (card_left apps changed) (drop i seen) ≡ card_left apps changed one ++ flat_map (card_left apps changed) (drop (i + 1) seen)
cards-next apps changed seen i one within is = ap (flat_map (card_left apps changed)) (from_one seen i one within is)

pub cards-end : (apps : List CardApp) (changed : List ChangedLimits) (seen : List CardSeen) (i : ℕ) → length seen ≤ i
    → flat_map (card_left apps changed) (drop i seen) ≡ []
cards-end apps changed seen i past = ap (flat_map (card_left apps changed)) (drop_all i seen past)
