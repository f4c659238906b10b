-- What holds of an image as a whole, and of each of its applications.
use Rattle.std.specs.Prelude.{◌≡◌, ◌≢◌, ◌≤◌, ℕ, false, List, IsTrue, length, Option, IfSome}
use Rattle.std.specs.List.{All, AllPairs}
use Rattle.emv_dict.specs.Bcd.{has_digits}
use Rattle.emv_dict.specs.Pan.{is_pan_length}
use Rattle.emv_dict.specs.Settings.{is_code}
use Rattle.card_files.specs.AppRules.{is_name, is_label, is_afl, is_format, are_records, is_sum_limit, is_reference_pin, is_tries, is_second_code, is_log_size, is_log_file, is_opening}
use Rattle.card_files.specs.Directory.{is_hidden}
use Rattle.card_files.specs.Lists.{is_optional_pdol, is_cdol1, is_cdol2, leaves_room}
use Rattle.card_files.specs.Views.{AppData, ImageData}

-- every key of an application keeps to its rule; its profile has two bytes, as the image holds it
pub record KeepsRules (app : AppData) : Type 0 where
  pub name : IsTrue (is_name app.name)
  pub label : IsTrue (is_label app.label)
  pub pdol : IsTrue (is_optional_pdol app.pdol)
  pub aip : length app.aip ≡ 2
  pub afl : IsTrue (is_afl app.afl)
  pub gpo_format : IsTrue (is_format app.gpo_format)
  pub ac_format : IsTrue (is_format app.ac_format)
  pub cdol1 : IsTrue (is_cdol1 app.cdol1)
  pub cdol2 : IsTrue (is_cdol2 app.cdol2)
  pub records : IsTrue (are_records app.records)
  pub pan : IsTrue (is_pan_length (length app.pan))
  pub sequence : IsTrue (has_digits app.sequence)
  pub currency : IsTrue (is_code app.currency)
  pub sum_limit : IsTrue (is_sum_limit app.opening.sum_limit)
  pub pin : IsTrue (is_reference_pin app.opening.pin)
  pub tries : IsTrue (is_tries app.tries)
  pub currency_two : IsTrue (is_second_code app.currency app.currency_two)
  pub limit_two : IsTrue (is_sum_limit app.limit_two)
  pub log : IsTrue (is_log_size app.log)
  pub room : IsTrue (leaves_room app.log app.pdol)
  pub log_sfi : IsTrue (is_log_file app.log app.log_sfi app.records)
  pub opening : IsTrue (is_opening app.tries app.limit_two app.log app.opening)

-- 1 to 4 applications, each in its rules and with a name of its own
pub record AreApps (apps : List AppData) : Type 0 where
  pub some : 1 ≤ length apps
  pub few : length apps ≤ 4
  pub rules : All KeepsRules apps
  pub names : AllPairs (λ a b. a.name ≢ b.name) apps

-- the file of a directory: one of those whose records are data objects
abbrev pub IsDirectoryFile : Option ℕ → Type 0
IsDirectoryFile directory = IfSome directory (λ sfi. (1 ≤ sfi) × (sfi ≤ 10))

-- with a directory, its name finds no application
abbrev pub AreInSight : Option ℕ → List AppData → Type 0
AreInSight directory apps = IfSome directory (λ sfi. All (λ a. is_hidden a.name ≡ false) apps)

-- such applications, a form of the card's state that is known, and a directory beside which each of them is found
pub record IsImage (image : ImageData) : Type 0 where
  pub apps : AreApps image.apps
  pub version : (1 ≤ image.version) × (image.version ≤ 2)
  pub directory : IsDirectoryFile image.directory
  pub sight : AreInSight image.directory image.apps
