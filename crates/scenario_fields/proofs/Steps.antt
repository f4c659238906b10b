-- What a value that was found says of the steps that found it.
use Rattle.std.proofs.Common.{◌≡◌, ℕ, ◌<◌, ◌≤◌, Bool, true, false, nat_le, List, length, get_or, Result, Ok, Err, refl, ◌∙◌, arith}
use Rattle.std.specs.Prelude.{IsTrue, IfOk}
use Rattle.std.specs.List.{All, list_all, list_any}
use Rattle.std.proofs.lemmas.Bool.{and_parts}
use Rattle.std.proofs.lemmas.Bool.Decides.{nat_tests}
use Rattle.std.proofs.lemmas.List.Folds.{list_any_at}
use Rattle.std.proofs.lemmas.List.Sums.{AllPass-from_list_all}
use Rattle.toml.specs.Data.{Members}
use Rattle.scenario_fields.specs.Fault.{◌>>=◌, keep_if, Gives}
use Rattle.scenario_fields.specs.Fields.{required, text_at}
use Rattle.scenario_fields.specs.Value.{str_of, text_of, is_one_of}
use Rattle.scenario_fields.specs.declared.fault.ScenarioFault.{ScenarioFault}
use Rattle.scenario_fields.specs.declared.spot.Characters.{Characters}

-- both steps found a value
pub then_ok : {A B : Type 0} (read : Result A ScenarioFault) (step : A → Result B ScenarioFault) (y : B) →
    read >>= step ≡ Ok y → (x : A) × (read ≡ Ok x) × (step x ≡ Ok y)
then_ok (Ok x) step y is = (x, refl, is)
then_ok (Err e) step y is = cc

-- the test held
pub kept : {A : Type 0} (test : Bool) (e : ScenarioFault) (x y : A) → keep_if test e x ≡ Ok y → (test ≡ true) × (x ≡ y)
kept true e x y is = (refl, cc)
kept false e x y is = cc

-- the characters and the length of a text that was read
pub text_at_ok : (path : List ℕ → List ℕ) (key : List ℕ) (kind : Characters) (least most : ℕ) (ms : Members) (text : List ℕ) →
    text_at path key kind least most ms ≡ Ok text →
    (least ≤ length text) × (length text ≤ most) × All (λ c. IsTrue (is_one_of kind c)) text
unfolding text_at text_of
text_at_ok path key kind least most ms text is =
    let found = then_ok (required path key ms) (text_of (path key) kind least most) text is in
    let typed = then_ok (str_of (path key) found.0) _ text found.2 in
    let lettered = then_ok (keep_if (list_all (is_one_of kind) typed.0) _ typed.0) _ text typed.2 in
    let letters = kept (list_all (is_one_of kind) typed.0) _ typed.0 lettered.0 lettered.1 in
    let sized = kept _ _ lettered.0 text lettered.2 in
    let limits = and_parts (nat_le least (length lettered.0)) (nat_le (length lettered.0) most) sized.0 in
    let long : least ≤ length lettered.0 = grind (arith, nat_tests) in
    let short : length lettered.0 ≤ most = grind (arith, nat_tests) in
    let same : typed.0 ≡ text = letters.1 ∙ sized.1 in
    (rw (← sized.1) long, rw (← sized.1) short, rw (← same) (AllPass-from_list_all (is_one_of kind) typed.0 letters.0))

-- no element passes the test
pub none_passes : {X : Type 0} (p : X → Bool) (xs : List X) (k : ℕ) (d : X) → list_any p xs ≡ false → k < length xs → p (get_or xs k d) ≡ false
none_passes p xs k d none inside = by_test (p (get_or xs k d)) refl
  where
    by_test : (b : Bool) → p (get_or xs k d) ≡ b → b ≡ false
    by_test true passes = cc (list_any_at p xs k d inside passes)
    by_test false passes = refl

-- what each value that the document has says of an answer
pub if_found : {X Y : Type 0} (seen : X → Y) (P : X → Type 0) (read : Result X ScenarioFault) (whole : Result Y ScenarioFault) →
    Gives seen read whole → ((x : X) → whole ≡ Ok (seen x) → P x) → IfOk read P
if_found seen P (Ok x) whole is says = says x is
if_found seen P (Err e) whole is says = tt
