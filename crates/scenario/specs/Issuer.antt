-- The table of an issuer's keys.
use Rattle.std.specs.Prelude.{ℕ, List, [], ◌∷◌, codes, Result, Ok}
use Rattle.toml.specs.Data.{Members}
use Rattle.issuer_host.specs.declared.keys.HostKeys.{HostKeys}
use Rattle.scenario_fields.specs.Fault.{◌>>=◌}
use Rattle.scenario_fields.specs.Fields.{bytes_at, table_at, only}
use Rattle.scenario_fields.specs.TablePaths.{in_issuer}
use Rattle.scenario_fields.specs.declared.fault.ScenarioFault.{ScenarioFault}

unfoldable pub issuer_keys : List (List ℕ)
issuer_keys = codes "ac_key" ∷ codes "mac_key" ∷ codes "enc_key" ∷ codes "pin_key" ∷ []

unfoldable pub issuer_of : (List ℕ → List ℕ) → Members → Result HostKeys ScenarioFault
issuer_of path ms = do
  ac ← bytes_at path (codes "ac_key") 16 16 ms
  mac ← bytes_at path (codes "mac_key") 16 16 ms
  enc ← bytes_at path (codes "enc_key") 16 16 ms
  pin ← bytes_at path (codes "pin_key") 16 16 ms
  _ ← only path issuer_keys ms
  Ok (record { ac = ac; mac = mac; enc = enc; pin = pin })

-- at its key in the document
unfoldable pub issuer_at : (List ℕ → List ℕ) → Members → Result HostKeys ScenarioFault
issuer_at path ms = table_at path (codes "issuer") ms >>= issuer_of in_issuer
