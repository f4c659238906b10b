-- The issuer that a document has, or the document's first fault.
use Rattle.std.specs.Prelude.{ℕ, List, Option, Some, None, Result, Ok, Err}
use Rattle.std.specs.Str.{IsUtf8}
use Rattle.toml.specs.Data.{Members}
use Rattle.toml.specs.Parse.{parse_document}
use Rattle.issuer_host.specs.Account.{AccountData}
use Rattle.issuer_host.specs.declared.keys.HostKeys.{HostKeys}
use Rattle.scenario.specs.Accounts.{accounts_at}
use Rattle.scenario.specs.Issuer.{issuer_at}
use Rattle.scenario.specs.Scenario.{top_keys}
use Rattle.scenario_fields.specs.Fault.{◌>>=◌, Gives}
use Rattle.scenario_fields.specs.Fields.{only}
use Rattle.scenario_fields.specs.TablePaths.{at_top}
use Rattle.scenario_fields.specs.declared.fault.ScenarioFault.{ScenarioFault}
use Rattle.scenario_fields.specs.declared.fault.ScenarioFault.TheVariants.{Toml}

-- an issuer's keys and accounts
pub record IssuerData : Type 0 where
  pub keys : HostKeys
  pub accounts : List AccountData

-- the issuer's keys and the accounts of a scenario; its other tables are not read
unfoldable pub issuer_in_tables : Members → Result IssuerData ScenarioFault
issuer_in_tables ms = do
  keys ← issuer_at at_top ms
  accounts ← accounts_at at_top ms
  _ ← only at_top top_keys ms
  Ok (record { keys = keys; accounts = accounts })

abbrev pub issuer_of_document : Option Members → Result IssuerData ScenarioFault
issuer_of_document None = Err Toml
issuer_of_document (Some ms) = issuer_in_tables ms

-- what the bytes give
pub record ReadsIssuer (bytes : List ℕ) (result : Result IssuerData ScenarioFault) : Type 0 where
  pub text : IsUtf8 bytes → Gives (λ issuer. issuer) result (issuer_of_document (parse_document bytes))
  pub other : (IsUtf8 bytes → ⊥) → Gives (λ issuer. issuer) result (Err Toml)
