-- Names looked for among the applications before each one.
use Rattle.std.proofs.Common.{◌≡◌, ℕ, suc, ◌+◌, ◌<◌, true, false, List, [], ◌∷◌, ◌++◌, length, take, drop, get_or, Some, refl, sym, ap, ◌∙◌, arith, add-one, drop-cons}
use Rattle.std.specs.List.{list_any}
use Rattle.std.specs.Str.{bytes_eq}
use Rattle.std.proofs.lemmas.List.{take_more, length-take-le}
use Rattle.card_files.specs.Faults.{OfName, name_fault}
use Rattle.card_files.specs.Views.{AppData}

here : (before rest : List AppData) (x : AppData) → list_any (λ other. bytes_eq other.name x.name) before ≡ true
    → name_fault before (x ∷ rest) ≡ Some (OfName (length before))
here before rest x test = rw test refl

onward : (before rest : List AppData) (x : AppData) → list_any (λ other. bytes_eq other.name x.name) before ≡ false
    → name_fault before (x ∷ rest) ≡ name_fault (before ++ x ∷ []) rest
onward before rest x test = rw test refl

opened : (apps : List AppData) (i : ℕ) (x : AppData) → i < length apps → x ≡ get_or apps i x → drop i apps ≡ x ∷ drop (i + 1) apps
opened apps i x within is =
    let at : drop i apps ≡ get_or apps i x ∷ drop (suc i) apps = drop-cons apps i x within in
    rw (at, ← is, add-one i) refl

pub repeated : (apps : List AppData) (i : ℕ) (x : AppData) → i < length apps → x ≡ get_or apps i x
    → list_any (λ other. bytes_eq other.name x.name) (take i apps) ≡ true
    → name_fault (take i apps) (drop i apps) ≡ Some (OfName i)
repeated apps i x within is test =
    rw (opened apps i x within is) (here (take i apps) (drop (i + 1) apps) x test) ∙ ap (λ (n : ℕ). Some (OfName n)) (length-take-le i apps (omega arith))

pub passed_over : (apps : List AppData) (i : ℕ) (x : AppData) → i < length apps → x ≡ get_or apps i x
    → list_any (λ other. bytes_eq other.name x.name) (take i apps) ≡ false
    → name_fault (take (i + 1) apps) (drop (i + 1) apps) ≡ name_fault (take i apps) (drop i apps)
passed_over apps i x within is test =
    let grown : take (i + 1) apps ≡ take i apps ++ x ∷ [] = take_more apps i x within ∙ ap (λ (y : AppData). take i apps ++ y ∷ []) (sym is) in
    rw (grown, opened apps i x within is) (sym (onward (take i apps) (drop (i + 1) apps) x test))
