-- Keys that are read behind others: a second currency, and the directory of a card's applications.
use Rattle.std.proofs.Common.{◌≡◌, ℕ, Bool, true, false, List, Option, None, Result, Ok, Err, refl, ap, subst, ◌∙◌}
use Rattle.std.specs.Prelude.{codes}
use Rattle.card_files.specs.AppRules.{is_second_code}
use Rattle.card_files.specs.Views.{AppData, ImageData}
use Rattle.issuer_host.specs.declared.keys.HostKeys.{HostKeys}
use Rattle.toml.specs.Data.{Members}
use Rattle.scenario_fields.specs.Fault.{◌>>=◌, keep_if, TellsFault, Fails}
use Rattle.scenario_fields.specs.Fields.{optional_code, absent}
use Rattle.scenario_fields.specs.TablePaths.{in_card}
use Rattle.scenario_fields.specs.declared.fault.ScenarioFault.{ScenarioFault}
use Rattle.scenario_fields.specs.declared.fault.ScenarioFault.TheVariants.{Toml, MissingKey, BadValue, OutOfLimit, UnknownKey, UnknownName, OutOfMemory}
use Rattle.scenario.specs.Cards.{KindData, apps_at, version_at, directory_at, image_kind}
use Rattle.scenario.specs.Extras.{second_currency_at}

keeps : {A : Type 0} (test : Bool) (e : ScenarioFault) (x : A) → test ≡ true → keep_if test e x ≡ Ok x
keeps true e x is = refl
keeps false e x is = cc

refuses : {A : Type 0} (test : Bool) (e : ScenarioFault) (x : A) → test ≡ false → keep_if test e x ≡ Err e
refuses true e x is = cc
refuses false e x is = refl

-- a fault that was made is that of what is read
pub tells_fails : {Y : Type 0} (made fault : ScenarioFault) (read : Result Y ScenarioFault) → TellsFault made fault → read ≡ Err fault → Fails made read
tells_fails Toml fault read tells is = cc
tells_fails (MissingKey path) fault read tells is = cc
tells_fails (BadValue path) fault read tells is = cc
tells_fails (OutOfLimit path) fault read tells is = cc
tells_fails (UnknownKey path) fault read tells is = cc
tells_fails (UnknownName path) fault read tells is = cc
tells_fails OutOfMemory fault read tells is = tt

module _ (path : List ℕ → List ℕ) (currency : List ℕ) (ms : Members) where
  second_by : Result (Option (List ℕ)) ScenarioFault → Result (Option (List ℕ)) ScenarioFault
  second_by found = found >>= λ code. keep_if (is_second_code currency code) (BadValue (path (codes "currency_two"))) code

  pub second_kept : (second : Option (List ℕ)) → optional_code path (codes "currency_two") ms ≡ Ok second → is_second_code currency second ≡ true
      → second_currency_at path currency ms ≡ Ok second
  unfolding second_currency_at second_by
  second_kept second read passes = ap second_by read ∙ keeps (is_second_code currency second) (BadValue (path (codes "currency_two"))) second passes

  pub second_refused : (second : Option (List ℕ)) → optional_code path (codes "currency_two") ms ≡ Ok second → is_second_code currency second ≡ false
      → second_currency_at path currency ms ≡ Err (BadValue (path (codes "currency_two")))
  unfolding second_currency_at second_by
  second_refused second read fails = ap second_by read ∙ refuses (is_second_code currency second) (BadValue (path (codes "currency_two"))) second fails

  pub second_failed : (e : ScenarioFault) → optional_code path (codes "currency_two") ms ≡ Err e → second_currency_at path currency ms ≡ Err e
  unfolding second_currency_at second_by
  second_failed e read = ap second_by read

-- what a card answers by, of its parts
pub image_read : (i : ℕ) (keys : HostKeys) (ms : Members) (apps slice : List AppData) (version : ℕ) (directory : Option ℕ) (image : ImageData)
    → apps_at i keys ms ≡ Ok apps → absent (in_card i) (codes "canned") ms ≡ Ok tt → version_at (in_card i) ms ≡ Ok version → slice ≡ apps
    → directory_at (in_card i) slice ms ≡ Ok directory → image ≡ record { apps = apps; version = version; directory = directory }
    → image_kind i keys ms ≡ Ok (record { image = image; canned = None })
unfolding image_kind
image_read i keys ms apps slice version directory image of_apps of_canned of_version same of_directory made =
    let found : directory_at (in_card i) apps ms ≡ Ok directory = subst (λ (xs : List AppData). directory_at (in_card i) xs ms ≡ Ok directory) same of_directory in
    rw (of_apps, of_canned, of_version, found, made) refl
