-- Where no name is an earlier one's, no two are the same, and the other way round.
use Rattle.std.proofs.Common.{◌≡◌, ◌≢◌, ℕ, ◌+◌, ◌<◌, Bool, true, false, List, [], ◌∷◌, ◌++◌, length, get_or, Option, Some, None, is_some, refl, sym, ap, subst, ◌∙◌, arith, append_assoc, length-append}
use Rattle.std.specs.Prelude.{if◌then◌else◌}
use Rattle.std.specs.List.{AllPairs, list_any}
use Rattle.std.specs.Str.{bytes_eq}
use Rattle.std.proofs.lemmas.Bool.{true≢false, false_from_ne_true}
use Rattle.std.proofs.lemmas.List.{append-nil, get_or_at, get_or_append_left}
use Rattle.std.proofs.lemmas.List.Folds.{list_any_at, list_any_none}
use Rattle.std.proofs.lemmas.List.Quantifiers.{all_pairs_push}
use Rattle.std.proofs.lemmas.Slice.Eq.{bytes_eq-Decides}
use Rattle.card_files.specs.Faults.{Fault, OfName, name_fault}
use Rattle.card_files.specs.Views.{AppData}

abbrev OtherName : AppData → AppData → Type 0
OtherName a b = a.name ≢ b.name

abbrev is_taken : List ℕ → List AppData → Bool
is_taken name apps = list_any (λ other. bytes_eq other.name name) apps

-- none of these has the name
pub not_taken : {X : Type 0} (name_of : X → List ℕ) (name : List ℕ) (xs : List X) → list_any (λ x. bytes_eq (name_of x) name) xs ≡ false
    → (k : ℕ) (d : X) → k < length xs → name_of (get_or xs k d) ≢ name
not_taken name_of name xs test k d within same =
    true≢false (sym (list_any_at (λ x. bytes_eq (name_of x) name) xs k d within ((bytes_eq-Decides (name_of (get_or xs k d)) name).1 same)) ∙ test)

passed : (test : Bool) (here : Fault) (rest : Option Fault) → (if test then Some here else rest) ≡ None → (test ≡ false) × (rest ≡ None)
passed true here rest none = absurd (true≢false (ap is_some none))
passed false here rest none = (refl, none)

pub names_apart : (before apps : List AppData) → AllPairs OtherName before → name_fault before apps ≡ None → AllPairs OtherName (before ++ apps)
names_apart before [] apart none = subst (λ (xs : List AppData). AllPairs OtherName xs) (sym (append-nil before)) apart
names_apart before (app ∷ apps) apart none =
    let parts = passed (is_taken app.name before) (OfName (length before)) (name_fault (before ++ app ∷ []) apps) none in
    subst (λ (xs : List AppData). AllPairs OtherName xs) (append_assoc before (app ∷ []) apps)
    (names_apart (before ++ app ∷ []) apps (all_pairs_push OtherName before app apart (not_taken (λ a. a.name) app.name before parts.0)) parts.1)

fresh : (before rest : List AppData) (app : AppData) → AllPairs OtherName (before ++ app ∷ rest) → is_taken app.name before ≡ false
fresh before rest app apart =
    list_any_none (λ other. bytes_eq other.name app.name) before (λ k d within. false_from_ne_true _ (λ test.
    let whole : length (before ++ app ∷ rest) ≡ length before + length (app ∷ rest) = length-append before (app ∷ rest) in
    let other : (get_or (before ++ app ∷ rest) k d).name ≢ (get_or (before ++ app ∷ rest) (length before) d).name = apart k (length before) d within (omega arith) in
    other
    (ap (λ (a : AppData). a.name) (get_or_append_left before (app ∷ rest) d k within)
    ∙ (bytes_eq-Decides (get_or before k d).name app.name).0 test
    ∙ sym (ap (λ (a : AppData). a.name) (get_or_at before app rest d (length before) refl)))))

pub no_name : (before apps : List AppData) → AllPairs OtherName (before ++ apps) → name_fault before apps ≡ None
no_name before [] apart = refl
no_name before (app ∷ apps) apart =
    rw (fresh before apps app apart)
    (no_name (before ++ app ∷ []) apps (subst (λ (xs : List AppData). AllPairs OtherName xs) (sym (append_assoc before (app ∷ []) apps)) apart))
