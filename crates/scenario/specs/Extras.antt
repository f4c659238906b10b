-- The keys of an application behind its own key: a second currency, and the log of its transactions (EMV 4.3 Book 3
-- Annex D).
use Rattle.std.specs.Prelude.{ℕ, List, codes, Option, Result, Ok}
use Rattle.card_files.specs.AppRules.{is_second_code, is_log_file, most_rows}
use Rattle.card_files.specs.Lists.{leaves_room}
use Rattle.card_files.specs.Views.{RecordData}
use Rattle.emv_dict.specs.Settings.{most_amount}
use Rattle.toml.specs.Data.{Members}
use Rattle.scenario.specs.declared.extras.Extras.{Extras}
use Rattle.scenario_fields.specs.Fault.{◌>>=◌, keep_if}
use Rattle.scenario_fields.specs.Fields.{number_or, optional_code}
use Rattle.scenario_fields.specs.declared.fault.ScenarioFault.{ScenarioFault}
use Rattle.scenario_fields.specs.declared.fault.ScenarioFault.TheVariants.{BadValue}

-- a second currency is another one than the first
unfoldable pub second_currency_at : (List ℕ → List ℕ) → List ℕ → Members → Result (Option (List ℕ)) ScenarioFault
second_currency_at path currency ms = do
  second ← optional_code path (codes "currency_two") ms
  keep_if (is_second_code currency second) (BadValue (path (codes "currency_two"))) second

-- how many transactions the log keeps: beside the longest list of processing options none, or the file control
-- information would be too long
unfoldable pub log_at : (List ℕ → List ℕ) → Option (List ℕ) → Members → Result ℕ ScenarioFault
log_at path pdol ms = do
  rows ← number_or 0 path (codes "log") 0 most_rows ms
  keep_if (leaves_room rows pdol) (BadValue (path (codes "log"))) rows

-- the file of the log, where there is one: no record stands in it
unfoldable pub log_file_at : (List ℕ → List ℕ) → ℕ → List RecordData → Members → Result ℕ ScenarioFault
log_file_at path rows records ms = do
  sfi ← number_or 11 path (codes "log_sfi") 11 30 ms
  keep_if (is_log_file rows sfi records) (BadValue (path (codes "log_sfi"))) sfi

-- beside these object list, records and currency
unfoldable pub extras_of : (List ℕ → List ℕ) → Option (List ℕ) → List RecordData → List ℕ → Members → Result Extras ScenarioFault
extras_of path pdol records currency ms = do
  currency_two ← second_currency_at path currency ms
  limit_two ← number_or 0 path (codes "limit_two") 0 most_amount ms
  log ← log_at path pdol ms
  log_sfi ← log_file_at path log records ms
  Ok (record { currency_two = currency_two; limit_two = limit_two; log = log; log_sfi = log_sfi })
