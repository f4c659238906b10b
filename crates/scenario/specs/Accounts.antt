-- The tables of an account and of its scripts (EMV 4.3 Book 2 section 8.2).
use Rattle.std.specs.Prelude.{ℕ, ◌+◌, List, [], ◌∷◌, ◌++◌, codes, ◌==◌, Bool, true, false, not, nat_le, Result, Ok, Err, if◌then◌else◌}
use Rattle.std.specs.List.{list_any}
use Rattle.std.specs.Str.{bytes_eq}
use Rattle.emv_dict.specs.Pan.{least_pan, most_pan}
use Rattle.emv_dict.specs.Settings.{most_amount}
use Rattle.script_words.specs.MadeLength.{all_made_length}
use Rattle.issuer_host.specs.Account.{AccountData}
use Rattle.issuer_host.specs.declared.account.Method.{Method}
use Rattle.issuer_host.specs.declared.account.Method.TheVariants.{One, Two}
use Rattle.script_words.specs.Script.{ScriptData}
use Rattle.script_words.specs.declared.script.Ordered.{Ordered}
use Rattle.script_words.specs.OrderWords.{order_of}
use Rattle.toml.specs.Data.{Data, Items, no_items, item, Members}
use Rattle.scenario_fields.specs.Fault.{◌>>=◌, or_fault, keep_if}
use Rattle.scenario_fields.specs.Fields.{number_at, listed_or, flag_or, str_at, digits_at, optional_digits, optional_bytes, code_at, array_at, array_or_none, table_item, each, only}
use Rattle.scenario_fields.specs.TablePaths.{item_path, in_account, in_scripts}
use Rattle.scenario_fields.specs.Value.{str_of}
use Rattle.scenario_fields.specs.declared.fault.ScenarioFault.{ScenarioFault}
use Rattle.scenario_fields.specs.declared.fault.ScenarioFault.TheVariants.{BadValue, OutOfLimit}

-- whether the script runs before the final GENERATE AC
unfoldable pub runs_before : (List ℕ → List ℕ) → List ℕ → Result Bool ScenarioFault
runs_before path word =
    if bytes_eq word (codes "before") then Ok true
    else if bytes_eq word (codes "after") then Ok false
    else Err (BadValue (path (codes "when")))

-- a command
unfoldable pub command_item : (List ℕ → List ℕ) → ℕ → Data → Result Ordered ScenarioFault
command_item path k d = do
  text ← str_of (path (item_path (codes "commands") k [])) d
  or_fault (BadValue (path (item_path (codes "commands") k []))) (order_of text)

unfoldable pub commands_at : (List ℕ → List ℕ) → Members → Result (List Ordered) ScenarioFault
commands_at path ms = array_at path (codes "commands") 1 16 ms >>= each (command_item path) 0

unfoldable pub script_table_keys : List (List ℕ)
script_table_keys = codes "when" ∷ codes "id" ∷ codes "commands" ∷ []

unfoldable pub script_of_members : (List ℕ → List ℕ) → Members → Result ScriptData ScenarioFault
script_of_members path ms = do
  word ← str_at path (codes "when") ms
  before ← runs_before path word
  id ← optional_bytes path (codes "id") 4 4 ms
  commands ← commands_at path ms
  _ ← only path script_table_keys ms
  Ok (record { before = before; id = id; commands = commands })

-- script `j` of account `i`, whose keys have these paths
unfoldable pub script_item : (List ℕ → List ℕ) → ℕ → ℕ → Data → Result ScriptData ScenarioFault
script_item path i j d = table_item path (codes "scripts") j d >>= script_of_members (in_scripts i j)

-- at most 8 scripts, which get at most 1,024 bytes
unfoldable pub scripts_at : (List ℕ → List ℕ) → ℕ → Members → Result (List ScriptData) ScenarioFault
scripts_at path i ms = do
  items ← array_or_none path (codes "scripts") 8 ms
  scripts ← each (script_item path i) 0 items
  keep_if (nat_le (all_made_length scripts) 1024) (OutOfLimit (path (codes "scripts"))) scripts

-- an account has this PAN
unfoldable pub has_pan : List ℕ → List AccountData → Bool
has_pan pan accounts = list_any (λ a. bytes_eq a.pan pan) accounts

-- a PAN that no earlier account has
unfoldable pub new_pan : (List ℕ → List ℕ) → List AccountData → Members → Result (List ℕ) ScenarioFault
new_pan path earlier ms = do
  pan ← digits_at path (codes "pan") least_pan most_pan ms
  keep_if (not (has_pan pan earlier)) (BadValue (path (codes "pan"))) pan

abbrev pub arpc_method_of : ℕ → Method
arpc_method_of number = (if number == 2 then Two else One)

-- the method of the response cryptogram
unfoldable pub method_at : (List ℕ → List ℕ) → Members → Result Method ScenarioFault
method_at path ms = do
  number ← listed_or 1 path (codes "arpc") (1 ∷ 2 ∷ []) ms
  Ok (arpc_method_of number)

-- the sums of none or some of 64, 32 and 16
abbrev pub status_sums : List ℕ
status_sums = 0 ∷ 16 ∷ 32 ∷ 48 ∷ 64 ∷ 80 ∷ 96 ∷ 112 ∷ []

-- what the issuer orders in its card status update
unfoldable pub status_at : (List ℕ → List ℕ) → Members → Result ℕ ScenarioFault
status_at path ms = listed_or 0 path (codes "status") status_sums ms

unfoldable pub account_keys : List (List ℕ)
account_keys =
    codes "pan" ∷ codes "currency" ∷ codes "balance" ∷ codes "blocked" ∷ codes "pin" ∷ codes "scripts" ∷ codes "arpc" ∷ codes "status" ∷ []

-- account `i` behind these
unfoldable pub account_of : (List ℕ → List ℕ) → ℕ → List AccountData → Members → Result AccountData ScenarioFault
account_of path i earlier ms = do
  pan ← new_pan path earlier ms
  currency ← code_at path (codes "currency") ms
  balance ← number_at path (codes "balance") 0 most_amount ms
  blocked ← flag_or false path (codes "blocked") ms
  pin ← optional_digits path (codes "pin") 4 12 ms
  scripts ← scripts_at path i ms
  arpc ← method_at path ms
  status ← status_at path ms
  _ ← only path account_keys ms
  Ok (record { pan = pan; currency = currency; balance = balance; blocked = blocked; pin = pin; scripts = scripts; arpc = arpc; status = status })

unfoldable pub account_item : (List ℕ → List ℕ) → ℕ → List AccountData → Data → Result AccountData ScenarioFault
account_item path i earlier d = table_item path (codes "account") i d >>= account_of (in_account i) i earlier

-- the accounts from number `i` on, behind these
abbrev pub accounts_from : (List ℕ → List ℕ) → ℕ → List AccountData → Items → Result (List AccountData) ScenarioFault
accounts_from path i earlier no_items = Ok []
accounts_from path i earlier (item d ds) = do
  account ← account_item path i earlier d
  accounts ← accounts_from path (i + 1) (earlier ++ account ∷ []) ds
  Ok (account ∷ accounts)

-- all accounts at their key in the document
unfoldable pub accounts_at : (List ℕ → List ℕ) → Members → Result (List AccountData) ScenarioFault
accounts_at path ms = do
  items ← array_at path (codes "account") 0 1000 ms
  accounts_from path 0 [] items
