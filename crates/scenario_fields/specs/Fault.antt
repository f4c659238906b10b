-- How the answers of a reader of a scenario stand to what the definitions find: the value, or the
-- first fault with its path. Want of memory may come in place of either, and is told as itself.
use Rattle.std.specs.Prelude.{◌≡◌, Bool, ⊤, Option, Some, None, Result, Ok, Err, if◌then◌else◌}
use Rattle.scenario_fields.specs.declared.fault.ScenarioFault.{ScenarioFault}
use Rattle.scenario_fields.specs.declared.fault.ScenarioFault.TheVariants.{OutOfMemory}

-- the second step, where the first found a value
infixl 10 ◌>>=◌
abbrev pub ◌>>=◌ : {A B : Type 0} → Result A ScenarioFault → (A → Result B ScenarioFault) → Result B ScenarioFault
(Ok x) >>= f = f x
(Err e) >>= f = Err e

abbrev pub or_fault : {A : Type 0} → ScenarioFault → Option A → Result A ScenarioFault
or_fault e None = Err e
or_fault e (Some x) = Ok x

-- the value, where the test holds
abbrev pub keep_if : {A : Type 0} → Bool → ScenarioFault → A → Result A ScenarioFault
keep_if test e x = (if test then Ok x else Err e)

-- a fault that was made is this one
abbrev pub TellsFault : ScenarioFault → ScenarioFault → Type 0
TellsFault OutOfMemory fault = ⊤
TellsFault e fault = e ≡ fault

-- the fault that was answered is the one that the document has
abbrev pub Fails : {Y : Type 0} → ScenarioFault → Result Y ScenarioFault → Type 0
Fails OutOfMemory read = ⊤
Fails e read = read ≡ Err e

-- what was answered is what the document has
abbrev pub Gives : {X Y : Type 0} → (X → Y) → Result X ScenarioFault → Result Y ScenarioFault → Type 0
Gives seen (Ok x) read = read ≡ Ok (seen x)
Gives seen (Err e) read = Fails e read
