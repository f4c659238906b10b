-- What the readers of a card's keys make sure of: the rules of its image, part by part.
use Rattle.std.specs.Prelude.{◌≡◌, ℕ, ◌≤◌, false, List, length, Option, IsTrue}
use Rattle.std.specs.List.{list_any}
use Rattle.card_files.specs.AppRules.{is_name, is_label, is_afl, is_format, is_record, is_pair, are_records, is_reference_pin, is_sum_limit, is_tries, is_second_code, is_log_size, is_log_file}
use Rattle.card_files.specs.ImageRules.{KeepsRules}
use Rattle.card_files.specs.Lists.{is_optional_pdol, is_cdol1, is_cdol2, leaves_room}
use Rattle.card_files.specs.Views.{RecordData, AppData}
use Rattle.emv_dict.specs.Bcd.{has_digits}
use Rattle.emv_dict.specs.Pan.{is_pan_length}
use Rattle.emv_dict.specs.Settings.{is_code}
use Rattle.scenario.specs.Cards.{FilesData, HolderData, CountersData, AccessData, has_app_named, is_name_used}
use Rattle.scenario_plan.specs.Cards.{CardData, IsCard}
use Rattle.scenario.specs.declared.extras.Extras.{Extras}

-- a record in its limits, of a number that no earlier one of its file has
pub record IsNewRecord (earlier : List RecordData) (r : RecordData) : Type 0 where
  pub in_limits : IsTrue (is_record r)
  pub first : list_any (is_pair r) earlier ≡ false

pub record KeepsFiles (files : FilesData) : Type 0 where
  pub name : IsTrue (is_name files.name)
  pub label : IsTrue (is_label files.label)
  pub pdol : IsTrue (is_optional_pdol files.pdol)
  pub aip : length files.aip ≡ 2
  pub afl : IsTrue (is_afl files.afl)
  pub gpo_format : IsTrue (is_format files.gpo_format)
  pub ac_format : IsTrue (is_format files.ac_format)
  pub cdol1 : IsTrue (is_cdol1 files.cdol1)
  pub cdol2 : IsTrue (is_cdol2 files.cdol2)
  pub records : IsTrue (are_records files.records)

pub record KeepsHolder (holder : HolderData) : Type 0 where
  pub pan : IsTrue (is_pan_length (length holder.pan))
  pub sequence : IsTrue (has_digits holder.sequence)
  pub currency : IsTrue (is_code holder.currency)

abbrev pub KeepsCounters : CountersData → Type 0
KeepsCounters counters = IsTrue (is_sum_limit counters.sum_limit)

pub record KeepsAccess (access : AccessData) : Type 0 where
  pub pin : IsTrue (is_reference_pin access.pin)
  pub tries : IsTrue (is_tries access.tries)

-- beside these object list, records and currency
pub record KeepsExtras (pdol : Option (List ℕ)) (records : List RecordData) (currency : List ℕ) (extras : Extras) : Type 0 where
  pub currency_two : IsTrue (is_second_code currency extras.currency_two)
  pub limit_two : IsTrue (is_sum_limit extras.limit_two)
  pub log : IsTrue (is_log_size extras.log)
  pub room : IsTrue (leaves_room extras.log pdol)
  pub log_sfi : IsTrue (is_log_file extras.log extras.log_sfi records)

-- an application in its rules, of a name that no earlier one has
pub record IsNewApp (earlier : List AppData) (app : AppData) : Type 0 where
  pub rules : KeepsRules app
  pub first : has_app_named app.name earlier ≡ false

-- such a card, of a name that no earlier one has
pub record IsNewCard (earlier : List CardData) (card : CardData) : Type 0 where
  pub rules : IsCard card
  pub first : is_name_used card.name earlier ≡ false
