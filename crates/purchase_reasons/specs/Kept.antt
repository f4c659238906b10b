-- What is known of a purchase's card: its counters, its limits behind the scripts that came, and what is to be approved.
use Rattle.std.specs.Prelude.{ℕ, ◌==◌, Bool, true, false, ◌&&◌, nat_lt, if◌then◌else◌, List, [], ◌∷◌, ◌++◌, length, position, slice_get, slice_set, Option, Some, None, option_map, option_and_then}
use Rattle.std.specs.Str.{bytes_eq}
use Rattle.apdu_core.specs.Response.{ResponseData, response_of}
use Rattle.ber_tlv.specs.Direct.{sole_value}
use Rattle.ber_tlv.specs.Left.{items_of}
use Rattle.emv_dict.specs.Bcd as bcd
use Rattle.exchange_words.specs.Kinds.{value_or_empty}
use Rattle.exchange_words.specs.Lanes.{kept_if_short}
use Rattle.exchange_words.specs.declared.lane.LaneState.{LaneState}
use Rattle.value_words.specs.Fields.{fields_of, value_among}
use Rattle.value_words.specs.Plain.{binary_number}
use Rattle.message_words.specs.Cards.{card_place, seen_before}
use Rattle.message_words.specs.declared.cards.CardSeen.{CardSeen}
use Rattle.message_words.specs.declared.cards.Counters.{Counters}
use Rattle.issuer_reasons.specs.Issuers.{charged_by}
use Rattle.issuer_reasons.specs.declared.account.Charge.{Charge}
use Rattle.issuer_reasons.specs.declared.issuer.Reply.{Reply}
use Rattle.purchase_reasons.specs.Followed.{first_six}
use Rattle.purchase_reasons.specs.declared.approval.Facts.{Facts}
use Rattle.issuer_reasons.specs.declared.wanted.Wanted.{Wanted}
use Rattle.purchase_reasons.specs.declared.followed.Followed.{Followed}
use Rattle.purchase_reasons.specs.declared.kept.Cards.{Cards}
use Rattle.purchase_reasons.specs.declared.limits.CardApp.{CardApp}
use Rattle.purchase_reasons.specs.declared.limits.ChangedLimits.{ChangedLimits}
use Rattle.purchase_reasons.specs.declared.limits.Limit.{Limit}
use Rattle.purchase_reasons.specs.declared.limits.Limit.TheVariants.{AsMade, Set, Unsure}
use Rattle.purchase_reasons.specs.declared.limits.Limits.{Limits}

-- what is known of the cards: their applications, from beside the report; the limits that scripts have set; their counters
pub record CardsData : Type 0 where
  pub apps : List CardApp
  pub changed : List ChangedLimits
  pub seen : List CardSeen

-- the same, as the program has it
abbrev pub cards_data : Cards → CardsData
cards_data cards = record { apps = cards.apps.now; changed = cards.changed.now; seen = cards.seen.now }

-- the name that an answer to SELECT gives: 84 in the template 6F (EMV 4.3 Book 1 section 11.3.4)
abbrev pub name_in_template : Option (List ℕ) → List ℕ
name_in_template None = []
name_in_template (Some template) = value_or_empty 0x84 template

abbrev pub name_in_body : List ℕ → List ℕ
name_in_body body = name_in_template (sole_value 0x6F (items_of body))

abbrev pub name_in_response : Option ResponseData → List ℕ
name_in_response None = []
name_in_response (Some response) = name_in_body response.body

abbrev pub name_of_selected : List ℕ → List ℕ
name_of_selected answer = name_in_response (response_of answer)

-- the application of this name on the card of this name
abbrev pub is_app : List ℕ → List ℕ → CardApp → Bool
is_app card name app = bytes_eq app.card.items card && bytes_eq app.name.items name

abbrev pub app_place : List CardApp → List ℕ → List ℕ → Option ℕ
app_place apps card name = position (is_app card name) apps

abbrev pub is_changed_app : List ℕ → List ℕ → ChangedLimits → Bool
is_changed_app card name limits = bytes_eq limits.card.items card && bytes_eq limits.name.items name

abbrev pub changed_place : List ChangedLimits → List ℕ → List ℕ → Option ℕ
changed_place changed card name = position (is_changed_app card name) changed

-- a limit behind what set it; none where that isn't known
abbrev pub limit_now : ℕ → Limit → Option ℕ
limit_now made AsMade = Some made
limit_now made (Set limit) = Some limit
limit_now made Unsure = None

abbrev pub limits_behind : Limits → ChangedLimits → Option Limits
limits_behind made set =
    option_and_then (λ count. option_map (λ sum. record made { count = count; sum = sum }) (limit_now made.sum set.sum)) (limit_now made.count set.count)

abbrev pub limits_where_set : Limits → Option ChangedLimits → Option Limits
limits_where_set made None = Some made
limits_where_set made (Some set) = limits_behind made set

abbrev pub limits_at : Limits → List ChangedLimits → Option ℕ → Option Limits
limits_at made changed None = Some made
limits_at made changed (Some place) = limits_where_set made (slice_get changed place)

-- the limits of an application behind the scripts that came
abbrev pub limits_now : CardApp → List ChangedLimits → Option Limits
limits_now app changed = limits_at app.limits changed (changed_place changed app.card.items app.name.items)

-- the card of this name
abbrev pub is_named : List ℕ → CardSeen → Bool
is_named name card = bytes_eq card.name.items name

-- the counters of the application at a place, and of the only one
abbrev pub counters_at : List Counters → ℕ → Option Counters
counters_at counters place = slice_get counters place

abbrev pub sole_counters : List Counters → Option Counters
sole_counters counters = (if length counters == 1 then slice_get counters 0 else None)

-- the amount and the currency in the data
abbrev pub amount_if_six : List ℕ → Option ℕ
amount_if_six value = (if length value == 6 then Some (bcd.number_in (first_six value)) else None)

abbrev pub amount_wanted : List (ℕ × List ℕ) → Option ℕ
amount_wanted fields = option_and_then amount_if_six (value_among 0x9F02 6 fields)

abbrev pub currency_wanted : List (ℕ × List ℕ) → Option ℕ
currency_wanted fields = option_map binary_number (value_among 0x5F2A 2 fields)

abbrev pub asked_approval : List (ℕ × List ℕ) → Option Wanted
asked_approval fields =
    option_and_then (λ amount. option_map (λ currency. record { amount = amount; currency = currency }) (currency_wanted fields)) (amount_wanted fields)

-- what is known of an application
abbrev pub facts_of_app : CardApp → List ChangedLimits → List Counters → Option Wanted → Facts
facts_of_app app changed counters wanted =
    record { counters = counters_at counters app.place; limits = limits_now app changed; wanted = wanted }

abbrev pub facts_unknown : List Counters → Option Wanted → Facts
facts_unknown counters wanted = record { counters = sole_counters counters; limits = None; wanted = wanted }

abbrev pub facts_if : List ChangedLimits → List Counters → Option Wanted → Option CardApp → Facts
facts_if changed counters wanted None = facts_unknown counters wanted
facts_if changed counters wanted (Some app) = facts_of_app app changed counters wanted

abbrev pub facts_found : List CardApp → List ChangedLimits → List Counters → Option Wanted → Option ℕ → Facts
facts_found apps changed counters wanted None = facts_unknown counters wanted
facts_found apps changed counters wanted (Some place) = facts_if changed counters wanted (slice_get apps place)

abbrev pub facts_of_named : List CardApp → List ChangedLimits → List ℕ → List ℕ → List Counters → Option Wanted → Facts
facts_of_named apps changed card name counters wanted = facts_found apps changed counters wanted (app_place apps card name)

-- what is known of the application of a purchase
abbrev pub facts_of : CardsData → Followed → LaneState → Facts
facts_of cards f talk =
    facts_of_named cards.apps cards.changed f.card.items (name_of_selected talk.selected.items) (seen_before cards.seen (card_place cards.seen f.card.items))
    (asked_approval (fields_of talk.cdol1.items talk.first.items))

-- a limit that was set last
abbrev pub set_last : Limit → Limit → Limit
set_last before AsMade = before
set_last before (Set limit) = Set limit
set_last before Unsure = Unsure

abbrev pub is_as_made : Limit → Bool
is_as_made AsMade = true
is_as_made (Set limit) = false
is_as_made Unsure = false

-- the limits that a purchase's scripts set, in place of those before
abbrev pub renewed_limits : Followed → ChangedLimits → ChangedLimits
renewed_limits f limits = record limits { count = set_last limits.count f.count; sum = set_last limits.sum f.sum }

abbrev pub limits_renewed : Followed → List ChangedLimits → ℕ → Option ChangedLimits → List ChangedLimits
limits_renewed f changed place None = changed
limits_renewed f changed place (Some limits) = slice_set changed place (renewed_limits f limits)

-- an application more: 64 are kept
abbrev pub limits_with : Followed → List ℕ → List ChangedLimits → List ChangedLimits
limits_with f name changed =
    if nat_lt (length changed) 64
    then changed ++ record { card = record { items = kept_if_short 16 f.card.items }; name = record { items = kept_if_short 16 name }; count = f.count; sum = f.sum } ∷ []
    else changed

abbrev pub limits_kept_at : Followed → List ℕ → List ChangedLimits → Option ℕ → List ChangedLimits
limits_kept_at f name changed None = limits_with f name changed
limits_kept_at f name changed (Some place) = limits_renewed f changed place (slice_get changed place)

abbrev pub limits_kept_of : Followed → List ℕ → List ChangedLimits → List ChangedLimits
limits_kept_of f name changed = limits_kept_at f name changed (changed_place changed f.card.items name)

-- the limits that scripts have set, behind what a purchase's did
abbrev pub kept_limits : Followed → LaneState → List ChangedLimits → List ChangedLimits
kept_limits f talk changed =
    if is_as_made f.count && is_as_made f.sum then changed else limits_kept_of f (name_of_selected talk.selected.items) changed

-- what a purchase's reply approved is taken from its account
abbrev pub charges_behind : Option Reply → Followed → LaneState → List Charge → List Charge
charges_behind None f talk charges = charges
charges_behind (Some reply) f talk charges = charged_by f.pan.items reply (asked_approval (fields_of talk.cdol1.items talk.first.items)) charges
