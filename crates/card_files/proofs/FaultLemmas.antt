-- The first broken line of two lists.
use Rattle.std.proofs.Common.{◌≡◌, ℕ, Bool, true, false, List, [], ◌∷◌, ◌++◌, Option, Some, refl}
use Rattle.std.specs.Prelude.{if◌then◌else◌}
use Rattle.std.specs.Option.{option_or}
use Rattle.card_files.specs.Faults.{Line, first_broken}

one_more : (holds : Bool) (key : List ℕ) (whole first second : Option (List ℕ)) → whole ≡ option_or first second
    → (if holds then whole else Some key) ≡ option_or (if holds then first else Some key) second
one_more true key whole first second same = same
one_more false key whole first second same = refl

pub first_broken_append : (xs ys : List Line) → first_broken (xs ++ ys) ≡ option_or (first_broken xs) (first_broken ys)
first_broken_append [] ys = refl
first_broken_append (x ∷ xs) ys =
    one_more x.1 x.0 (first_broken (xs ++ ys)) (first_broken xs) (first_broken ys) (first_broken_append xs ys)
