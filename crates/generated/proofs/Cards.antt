-- The cards and accounts of a generated scenario keep to their rules.
use Rattle.std.proofs.Common.{◌≡◌, ◌≢◌, ◌<◌, ◌+◌, ℕ, List, [], ◌∷◌, ◌++◌, refl, arith, ap}
use Rattle.std.specs.Prelude.{IsTrue, Some, None}
use Rattle.std.specs.List.{slice_index}
use Rattle.std.proofs.lemmas.List.Elements.{All-cons, All-nil}
use Rattle.ber_tlv.specs.Item.{byte_at, third_tag_byte, second_tag_byte, tag_at}
use Rattle.card_files.specs.AppRules.{is_reference_pin, reference_pin}
use Rattle.card_files.specs.ImageRules.{KeepsRules, AreApps, AreInSight, IsImage}
use Rattle.card_files.specs.Lists.{entries_within, is_cdol1, is_cdol2}
use Rattle.card_files.specs.Views.{AppData}
use Rattle.emv_dict.specs.Nibbles.{nibbles, packed}
use Rattle.emv_dict.specs.Pan.{pan_field}
use Rattle.issuer_host.specs.Account.{IsAccount}
use Rattle.object_lists.specs.DolEntries.{dol_entry_at, entries_from, entries_behind}
use Rattle.pin_block.specs.Block.{block_of}
use Rattle.scenario_plan.specs.Cards.{IsCard}
use Rattle.scenario_plan.specs.Plan.{HasPlainName}
use Rattle.scenario_fields.specs.Value.{is_one_of}
use Rattle.scenario_fields.specs.declared.spot.Characters.TheVariants.{LowercaseOrDigit}
use Rattle.generated.proofs.Numbered.{digit_character}
use Rattle.generated.specs.Card.{cdol1, cdol2, generated_app, generated_image, generated_card, generated_opening, holder_record}
use Rattle.generated.specs.Issuer.{generated_account, pin}

pub account_rules : (card : ℕ) → IsAccount (generated_account card)
unfolding generated_account
account_rules card = record {
  account_number = refl;
  currency_code = refl;
  balance_fits = omega arith;
  pin_length = refl;
  few_scripts = omega arith;
  whole_scripts = λ k d within. absurd (omega (arith, within));
  short_scripts = omega arith;
  status_bits = refl;
}

first_list : IsTrue (is_cdol1 cdol1)
unfolding entries_within dol_entry_at entries_from entries_behind byte_at third_tag_byte second_tag_byte tag_at
first_list = refl

second_list : IsTrue (is_cdol2 cdol2)
unfolding entries_within dol_entry_at entries_from entries_behind byte_at third_tag_byte second_tag_byte tag_at
second_list = refl

reference_block : IsTrue (is_reference_pin (reference_pin (Some pin)))
unfolding block_of nibbles packed
reference_block = refl

app_rules : (card : ℕ) → KeepsRules (generated_app card)
unfolding generated_app generated_opening holder_record pan_field
app_rules card = record {
  name = refl;
  label = refl;
  pdol = refl;
  aip = refl;
  afl = refl;
  gpo_format = refl;
  ac_format = refl;
  cdol1 = first_list;
  cdol2 = second_list;
  records = refl;
  pan = refl;
  sequence = refl;
  currency = refl;
  sum_limit = refl;
  pin = reference_block;
  tries = refl;
  currency_two = refl;
  limit_two = refl;
  log = refl;
  room = refl;
  log_sfi = refl;
  opening = refl;
}

one_app : (card : ℕ) → AreApps (generated_app card ∷ [])
one_app card = record {
  some = omega arith;
  few = omega arith;
  rules = All-cons KeepsRules (generated_app card) [] (app_rules card) (All-nil KeepsRules);
  names = λ i j d order within. absurd (omega (arith, order, within));
}

-- a card without a directory hides none
pub none_hidden : (apps : List AppData) → AreInSight None apps
none_hidden apps = tt

image_rules : (card : ℕ) → IsImage (generated_image card)
image_rules card = record { apps = one_app card; version = (omega arith, omega arith); directory = tt; sight = none_hidden (generated_app card ∷ []) }

pub pushed_app : (card : ℕ) (old new : List AppData) (app : AppData) → old ≡ [] → new ≡ old ++ app ∷ [] → app ≡ generated_app card → AreApps new
pushed_app card old new app none pushed is = rw (pushed, none, is) (one_app card)

pub card_rules : (card : ℕ) → IsCard (generated_card card)
unfolding generated_card
card_rules card = record { some_name = omega arith; short_name = omega arith; kind = image_rules card }

digit_plain : (digit : ℕ) → digit < 10 → IsTrue (is_one_of LowercaseOrDigit (48 + digit))
digit_plain digit within = rw (digit_character digit within) refl

pub plain_name : (card : ℕ) → card < 8 → HasPlainName (generated_card card)
unfolding generated_card
plain_name card within =
    let Plain : ℕ → Type 0 = λ c. IsTrue (is_one_of LowercaseOrDigit c) in
    All-cons Plain 99 ((48 + card) ∷ []) refl (All-cons Plain (48 + card) [] (digit_plain card (omega (arith, within))) (All-nil Plain))

pub own_pans : (i j : ℕ) → i < j → (generated_account i).pan ≢ (generated_account j).pan
unfolding generated_account
own_pans i j order same = let e : i ≡ j = ap (λ digits. slice_index digits 15) same in omega (arith, order, e)

pub own_names : (i j : ℕ) → i < j → (generated_card i).name ≢ (generated_card j).name
unfolding generated_card
own_names i j order same = let e : 48 + i ≡ 48 + j = ap (λ name. slice_index name 1) same in omega (arith, order, e)
