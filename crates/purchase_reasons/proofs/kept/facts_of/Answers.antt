use Rattle.std.proofs.Common.{ℕ, List, Option, ap, ◌∙◌}
use Rattle.message_words.specs.Cards.{card_place, seen_before}
use Rattle.message_words.specs.declared.cards.Counters.{Counters}
use Rattle.issuer_reasons.specs.declared.wanted.Wanted.{Wanted}
use Rattle.purchase_reasons.specs.Kept.{facts_of_named, name_of_selected}
use Rattle.purchase_reasons.proofs.kept.facts_of.Goals as goal

pub returns : goal.returns
returns c =
    let apps = c.args.cards.now.apps.now in
    let changed = c.args.cards.now.changed.now in
    let seen = c.args.cards.now.seen.now in
    let card = c.args.followed.now.card.items in
    let name = name_of_selected c.args.talk.now.selected.items in
    let is_card = c.as_slice-card.ensures.value in
    let is_name = c.selected_name.ensures ∙ ap name_of_selected c.as_slice.ensures.value in
    let are_counters = c.counters_seen.ensures ∙ ap (λ (one : List ℕ). seen_before seen (card_place seen one)) is_card in
    c.facts_of_named.ensures
    ∙ ap (λ (one : List ℕ). facts_of_named apps changed one c.selected_name.result.now c.counters_seen.result.now c.wanted_by.result) is_card
    ∙ ap (λ (one : List ℕ). facts_of_named apps changed card one c.counters_seen.result.now c.wanted_by.result) is_name
    ∙ ap (λ (counters : List Counters). facts_of_named apps changed card name counters c.wanted_by.result) are_counters
    ∙ ap (λ (wanted : Option Wanted). facts_of_named apps changed card name (seen_before seen (card_place seen card)) wanted) c.wanted_by.ensures
