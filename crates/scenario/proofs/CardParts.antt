-- Canned answers, and one more record, application or card behind those that keep to their rules.
use Rattle.std.proofs.Common.{◌≡◌, ◌≢◌, ◌≤◌, ◌==◌, ◌&&◌, ℕ, Bool, true, false, not, Option, Some, None, List, [], ◌∷◌, ◌++◌, length, map, Vec, Global, refl, sym, subst}
use Rattle.std.specs.Prelude.{IsTrue, nat_le}
use Rattle.std.specs.List.{All, AllPairs, list_all}
use Rattle.std.proofs.lemmas.Bool.{and_from, le-leb, eq-eqb}
use Rattle.std.proofs.lemmas.List.{length-map, map-append}
use Rattle.std.proofs.lemmas.List.Elements.{All-map, All-push}
use Rattle.std.proofs.lemmas.List.Quantifiers.{all_pairs_push}
use Rattle.std.proofs.lemmas.List.Sums.{list_all-from_AllPass}
use Rattle.card_files.proofs.OwnNames.{not_taken}
use Rattle.card_files.proofs.Records.{are_apart-push}
use Rattle.card_files.specs.AppRules.{has_size, is_printable, is_label, are_apart}
use Rattle.card_files.specs.Directory.{is_hidden}
use Rattle.card_files.specs.ImageRules.{KeepsRules, AreInSight}
use Rattle.card_files.specs.Views.{AppData}
use Rattle.card_files.specs.Views.{RecordData}
use Rattle.issuer_host.specs.declared.keys.HostKeys.{HostKeys}
use Rattle.scenario_fields.proofs.Steps.{none_passes}
use Rattle.scenario_fields.specs.Value.{is_one_of}
use Rattle.scenario_fields.specs.declared.spot.Characters.TheVariants.{Printable}
use Rattle.scenario.specs.CardRules.{KeepsFiles, KeepsHolder, KeepsCounters, KeepsAccess, KeepsExtras, IsNewRecord, IsNewApp, IsNewCard}
use Rattle.scenario_plan.specs.Cards.{AreAnswers, IsCard}
use Rattle.scenario.specs.Cards.{FilesData, HolderData, CountersData, AccessData, app_with, opening_state, has_app_named, is_name_used, hides_one, is_directory}
use Rattle.scenario_plan.specs.SeenCards.{seen_card, seen_cards}
use Rattle.scenario.specs.declared.extras.Extras.{Extras}
use Rattle.scenario_plan.specs.declared.plan.NamedCard.{NamedCard}

pub records_apart : (old new : List RecordData) (r : RecordData) → new ≡ old ++ r ∷ [] → IsTrue (are_apart old)
    → IsNewRecord old r → IsTrue (are_apart new)
records_apart old new r pushed apart is =
    rw pushed (are_apart-push old r apart is.in_limits is.first)

pub label_passes : (text : List ℕ) → (1 ≤ length text) × (length text ≤ 16) → All (λ c. IsTrue (is_one_of Printable c)) text → IsTrue (is_label text)
label_passes text within all =
    and_from (has_size 1 16 text) (list_all is_printable text)
    (and_from (nat_le 1 (length text)) (nat_le (length text) 16) (le-leb 1 (length text) within.0) (le-leb (length text) 16 within.1))
    (list_all-from_AllPass is_printable text all)

app_keeps : (keys : HostKeys) (files : FilesData) (holder : HolderData) (counters : CountersData) (access : AccessData) (extras : Extras)
    → KeepsFiles files → KeepsHolder holder → KeepsCounters counters → KeepsAccess access → KeepsExtras files.pdol files.records holder.currency extras
    → KeepsRules (app_with keys files holder counters access extras)
unfolding app_with opening_state
app_keeps keys files holder counters access extras f h c a e = record {
  name = f.name;
  label = f.label;
  pdol = f.pdol;
  aip = f.aip;
  afl = f.afl;
  gpo_format = f.gpo_format;
  ac_format = f.ac_format;
  cdol1 = f.cdol1;
  cdol2 = f.cdol2;
  records = f.records;
  pan = h.pan;
  sequence = h.sequence;
  currency = h.currency;
  sum_limit = c;
  pin = a.pin;
  tries = a.tries;
  currency_two = e.currency_two;
  limit_two = e.limit_two;
  log = e.log;
  room = e.room;
  log_sfi = e.log_sfi;
  opening =
      and_from (access.tries == access.tries) ((extras.limit_two == extras.limit_two) && (extras.log == extras.log)) (eq-eqb access.tries access.tries refl)
      (and_from (extras.limit_two == extras.limit_two) (extras.log == extras.log) (eq-eqb extras.limit_two extras.limit_two refl) (eq-eqb extras.log extras.log refl));
}

-- an application of parts that keep to their rules
pub is_new : (keys : HostKeys) (files : FilesData) (holder : HolderData) (counters : CountersData) (access : AccessData) (extras : Extras)
    (earlier : List AppData) (app : AppData)
    → app ≡ app_with keys files holder counters access extras → KeepsFiles files → KeepsHolder holder → KeepsCounters counters → KeepsAccess access
    → KeepsExtras files.pdol files.records holder.currency extras → has_app_named files.name earlier ≡ false → IsNewApp earlier app
unfolding app_with
is_new keys files holder counters access extras earlier app same f h c a e first =
    let new : IsNewApp earlier (app_with keys files holder counters access extras) =
    record { rules = app_keeps keys files holder counters access extras f h c a e; first = first } in
    subst (λ (x : AppData). IsNewApp earlier x) (sym same) new

pub apps_keep : (old new : List AppData) (app : AppData) → new ≡ old ++ app ∷ [] → All KeepsRules old
    → IsNewApp old app → All KeepsRules new
apps_keep old new app pushed keep is = rw pushed (All-push KeepsRules old app keep is.rules)

pub app_names_differ : (old new : List AppData) (app : AppData) → new ≡ old ++ app ∷ [] → AllPairs (λ a b. a.name ≢ b.name) old
    → IsNewApp old app → AllPairs (λ a b. a.name ≢ b.name) new
unfolding has_app_named
app_names_differ old new app pushed differ is =
    rw pushed
    (all_pairs_push (λ a b. a.name ≢ b.name) old app differ (not_taken (λ a. a.name) app.name old is.first))

pub not_true : (b : Bool) → not b ≡ true → b ≡ false
not_true true is = cc
not_true false is = refl

-- a directory that may be there hides no application
pub in_sight : (apps : List AppData) (sfi : Option ℕ) → IsTrue (is_directory apps sfi) → AreInSight sfi apps
unfolding hides_one
in_sight apps None is = tt
in_sight apps (Some sfi) is = λ k d inside. none_passes (λ a. is_hidden a.name) apps k d (not_true (hides_one apps) is) inside

pub are_answers : (answers : List (Vec ℕ Global)) → length answers ≤ 300 → All (λ answer. length answer.items ≤ 258) answers
    → AreAnswers (map (λ answer. answer.items) answers)
are_answers answers few short = record {
  few = rw (length-map answers (λ answer. answer.items)) few;
  short = All-map (λ answer. length answer ≤ 258) (λ answer. answer.items) answers short;
}

pub cards_keep : (old new : List NamedCard) (card : NamedCard) → new ≡ old ++ card ∷ [] → All IsCard (seen_cards old)
    → IsNewCard (seen_cards old) (seen_card card) → All IsCard (seen_cards new)
cards_keep old new card pushed keep is = rw (pushed, map-append) (All-push IsCard (seen_cards old) (seen_card card) keep is.rules)

pub card_names_differ : (old new : List NamedCard) (card : NamedCard) → new ≡ old ++ card ∷ [] → AllPairs (λ a b. a.name ≢ b.name) (seen_cards old)
    → IsNewCard (seen_cards old) (seen_card card) → AllPairs (λ a b. a.name ≢ b.name) (seen_cards new)
unfolding is_name_used
card_names_differ old new card pushed differ is =
    rw (pushed, map-append)
    (all_pairs_push (λ a b. a.name ≢ b.name) (seen_cards old) (seen_card card) differ (not_taken (λ c. c.name) (seen_card card).name (seen_cards old) is.first))
