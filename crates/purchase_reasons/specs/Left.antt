-- What is left of a card's limits at the end of a report (docs/proof/profile.md, CARD-20).
use Rattle.std.specs.Prelude.{ℕ, ◌-◌, Bool, true, false, nat_lt, if◌then◌else◌, List, [], ◌∷◌, ◌++◌, length, codes, Option, Some, None, unwrap_or}
use Rattle.std.specs.List.{flat_map}
use Rattle.std.specs.Str.{bytes_eq}
use Rattle.report_lines.specs.Pieces.{Piece, line, text, number, each_behind}
use Rattle.issuer_reasons.specs.Wanted.{currency_words}
use Rattle.message_words.specs.Powers.{place_words}
use Rattle.message_words.specs.declared.cards.CardSeen.{CardSeen}
use Rattle.message_words.specs.declared.cards.Counters.{Counters}
use Rattle.purchase_reasons.specs.Kept.{CardsData, counters_at, limits_now}
use Rattle.purchase_reasons.specs.declared.limits.CardApp.{CardApp}
use Rattle.purchase_reasons.specs.declared.limits.ChangedLimits.{ChangedLimits}
use Rattle.purchase_reasons.specs.declared.limits.Limits.{Limits}

-- what is left of a limit
abbrev pub left_of_limit : ℕ → ℕ → List Piece
left_of_limit counted limit = number (limit - counted) ++ text (codes " of ") ++ number limit

-- the sum in the second currency, where the application has one
abbrev pub second_left : Counters → Limits → Option ℕ → List Piece
second_left counters limits None = []
second_left counters limits (Some currency) =
    text (codes ", sum in ") ++ currency_words currency ++ text (codes " ") ++ left_of_limit (unwrap_or counters.second 0) limits.second_sum

-- what is left of each limit of an application
abbrev pub limits_left : Counters → Limits → List Piece
limits_left counters limits =
    text (codes "offline approvals ") ++ left_of_limit counters.count limits.count
    ++ text (codes ", sum ") ++ left_of_limit counters.sum limits.sum
    ++ second_left counters limits limits.second_currency

-- the counters and the limits, where both are known
abbrev pub known_both : Option Counters → Option Limits → Option (Counters × Limits)
known_both None limits = None
known_both (Some counters) None = None
known_both (Some counters) (Some limits) = Some (counters, limits)

-- those of an application of the card of this name
abbrev pub app_known : List ℕ → List ChangedLimits → List Counters → CardApp → Option (Counters × Limits)
app_known card changed counters app =
    if bytes_eq app.card.items card then known_both (counters_at counters app.place) (limits_now app changed) else None

-- what is told of an application, where they are known; `count` is how many the card has
abbrev pub app_told : ℕ → ℕ → Option (Counters × Limits) → List (List Piece)
app_told count place None = []
app_told count place (Some known) = (place_words (nat_lt 1 count) place ++ limits_left known.0 known.1) ∷ []

abbrev pub apps_told : List ℕ → List ChangedLimits → List Counters → List CardApp → List (List Piece)
apps_told card changed counters apps = flat_map (λ app. app_told (length counters) app.place (app_known card changed counters app)) apps

-- before an application: of the first one the line of its card begins
abbrev pub before_app : Bool → List ℕ → List Piece
before_app told card = (if told then text (codes "; ") else line 1 ++ text (codes "left on card ") ++ text card ++ text (codes ": "))

-- applications in the line of their card, behind others or first; no line where there is none
abbrev pub left_in_line : Bool → List ℕ → List (List Piece) → List Piece
left_in_line true card apps = each_behind (text (codes "; ")) apps
left_in_line false card [] = []
left_in_line false card (one ∷ others) = before_app false card ++ one ++ each_behind (text (codes "; ")) others

-- one application of them, where it is known
abbrev pub part_left : Bool → List ℕ → ℕ → ℕ → Option (Counters × Limits) → List Piece
part_left told card count place None = []
part_left told card count place (Some known) = before_app told card ++ (place_words (nat_lt 1 count) place ++ limits_left known.0 known.1)

-- a line of the card of this name
abbrev pub named_left : List CardApp → List ChangedLimits → List ℕ → List Counters → List Piece
named_left apps changed card counters = left_in_line false card (apps_told card changed counters apps)

abbrev pub card_left : List CardApp → List ChangedLimits → CardSeen → List Piece
card_left apps changed card = named_left apps changed card.name.items card.apps.items

-- a line a card, in the order in which they were powered up first
abbrev pub cards_left : CardsData → List Piece
cards_left cards = flat_map (card_left cards.apps cards.changed) cards.seen
