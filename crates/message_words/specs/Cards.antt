-- The cards whose counters were seen, and what a power line leaves of them.
use Rattle.std.specs.Prelude.{ℕ, zero, suc, ◌==◌, Bool, ◌&&◌, nat_lt, nat_le, if◌then◌else◌, List, [], ◌∷◌, ◌++◌, length, position, slice_get, slice_set, Option, Some, None, option_map, option_and_then}
use Rattle.std.specs.Str.{bytes_eq}
use Rattle.report_lines.specs.Parts.{split_word, split_comma, decimal_number}
use Rattle.report_lines.specs.Pieces.{Piece}
use Rattle.message_words.specs.Powers.{apps_words}
use Rattle.message_words.specs.declared.cards.Counters.{Counters}
use Rattle.message_words.specs.declared.cards.CardSeen.{CardSeen}

-- the number before the first comma, and what stands behind it
abbrev pub number_before_comma : List ℕ → Option (ℕ × List ℕ)
number_before_comma text = let parts = split_comma text in option_map (λ number. (number, parts.1)) (decimal_number parts.0)

-- the sum in the second currency; there may be none
abbrev pub second_in : List ℕ → Option (Option ℕ)
second_in text = (if length text == 0 then Some None else option_map Some (decimal_number text))

-- the counters of one application: six numbers, and the sum in the second currency
unfoldable pub counters_in : List ℕ → Option Counters
counters_in text =
    option_and_then (λ counter.
    option_and_then (λ online.
    option_and_then (λ count.
    option_and_then (λ sum.
    option_and_then (λ tries.
    option_and_then (λ flags.
    option_map (λ second. record { counter = counter.0; last_online = online.0; count = count.0; sum = sum.0; tries = tries.0; flags = flags.0; second = second })
    (second_in flags.1))
    (number_before_comma tries.1))
    (number_before_comma sum.1))
    (number_before_comma count.1))
    (number_before_comma online.1))
    (number_before_comma counter.1))
    (number_before_comma text)

-- the counters of applications, so many at most, one blank between them
unfoldable pub apps_within : ℕ → List ℕ → Option (List Counters)
apps_within zero text = (if length text == 0 then Some [] else None)
apps_within (suc more) text =
    let word = split_word text in
    if length text == 0 then Some []
    else option_and_then (λ one. option_map (λ others. one ∷ others) (apps_within more word.1)) (counters_in word.0)

abbrev pub some_apps : Option (List Counters) → Option (List Counters)
some_apps None = None
some_apps (Some []) = None
some_apps (Some (one ∷ others)) = Some (one ∷ others)

-- the counters of one to four applications
abbrev pub counters_in_text : List ℕ → Option (List Counters)
counters_in_text text = some_apps (apps_within 4 text)

abbrev pub is_card_named : List ℕ → CardSeen → Bool
is_card_named name card = bytes_eq card.name.items name

-- the place of the card of this name
abbrev pub card_place : List CardSeen → List ℕ → Option ℕ
card_place cards name = position (is_card_named name) cards

abbrev pub apps_of : Option CardSeen → List Counters
apps_of None = []
apps_of (Some card) = card.apps.items

-- the counters of the card's last power line; none of a card that was not seen
abbrev pub seen_before : List CardSeen → Option ℕ → List Counters
seen_before cards None = []
seen_before cards (Some place) = apps_of (slice_get cards place)

-- these counters in place of those of the card at this place
abbrev pub renewed : List CardSeen → ℕ → List Counters → Option CardSeen → List CardSeen
renewed cards place apps None = cards
renewed cards place apps (Some card) = slice_set cards place (record card { apps = record { items = apps } })

-- a card more: 64 are kept, of names of at most 16 bytes
abbrev pub cards_with : List CardSeen → List ℕ → List Counters → List CardSeen
cards_with cards name apps =
    if nat_lt (length cards) 64 && nat_le (length name) 16 then cards ++ record { name = record { items = name }; apps = record { items = apps } } ∷ [] else cards

abbrev pub cards_kept_at : List CardSeen → List ℕ → List Counters → Option ℕ → List CardSeen
cards_kept_at cards name apps None = cards_with cards name apps
cards_kept_at cards name apps (Some place) = renewed cards place apps (slice_get cards place)

abbrev pub power_told : List CardSeen → List ℕ → Option (List Counters) → List Piece
power_told cards name None = []
power_told cards name (Some apps) = apps_words (seen_before cards (card_place cards name)) apps

-- what is told of the counters of this card
unfoldable pub power_words : List CardSeen → List ℕ → List ℕ → List Piece
power_words cards name text = power_told cards name (counters_in_text text)

abbrev pub cards_kept : List CardSeen → List ℕ → Option (List Counters) → List CardSeen
cards_kept cards name None = cards
cards_kept cards name (Some apps) = cards_kept_at cards name apps (card_place cards name)

-- the cards behind a power line of this one
unfoldable pub kept_cards : List CardSeen → List ℕ → List ℕ → List CardSeen
kept_cards cards name text = cards_kept cards name (counters_in_text text)
