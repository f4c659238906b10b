-- The first of each name.
use Rattle.std.proofs.Common.{◌≡◌, ℕ, ◌||◌, Bool, true, false, List, [], ◌∷◌, ◌++◌, refl, sym, ◌∙◌, if◌then◌else◌}
use Rattle.std.specs.List.{AllByRecursion, list_any}
use Rattle.std.specs.Str.{bytes_eq}
use Rattle.std.proofs.lemmas.List.Folds.{list_any-append}
use Rattle.std.proofs.lemmas.Slice.Eq.{bytes_eq-Decides}
use Rattle.app_select.specs.Candidates.{CandidateData, is_candidate_named, firsts_behind, firsts}
use Rattle.app_select.specs.Laws.{HasDistinctNames}

-- none of these has the name of one of those
abbrev pub NoneOf : List CandidateData → List CandidateData → Type 0
NoneOf earlier among = AllByRecursion (λ other. list_any (is_candidate_named other.name) earlier ≡ false) among

-- what holds of one more holds of fewer
or_left : (a b : Bool) → (a || b) ≡ false → a ≡ false
or_left true b is = is
or_left false b is = refl

or_right : (a b : Bool) → (a || (b || false)) ≡ false → b ≡ false
or_right true b is = cc
or_right false true is = is
or_right false false is = refl

fewer : (earlier : List CandidateData) (candidate : CandidateData) (among : List CandidateData) → NoneOf (earlier ++ candidate ∷ []) among → NoneOf earlier among
fewer earlier candidate [] all = tt
fewer earlier candidate (other ∷ among) all =
    (or_left _ _ (sym (list_any-append (is_candidate_named other.name) earlier (candidate ∷ [])) ∙ all.0), fewer earlier candidate among all.1)

one : (earlier : List CandidateData) (candidate : CandidateData) (among : List CandidateData) → NoneOf (earlier ++ candidate ∷ []) among
    → AllByRecursion (λ other. bytes_eq candidate.name other.name ≡ false) among
one earlier candidate [] all = tt
one earlier candidate (other ∷ among) all =
    (or_right _ _ (sym (list_any-append (is_candidate_named other.name) earlier (candidate ∷ [])) ∙ all.0), one earlier candidate among all.1)

distinct_by : (earlier : List CandidateData) (candidate : CandidateData) (rest : List CandidateData) (test : Bool) → list_any (is_candidate_named candidate.name) earlier ≡ test
    → HasDistinctNames rest × NoneOf (earlier ++ candidate ∷ []) rest
    → HasDistinctNames (if test then rest else candidate ∷ rest) × NoneOf earlier (if test then rest else candidate ∷ rest)
distinct_by earlier candidate rest true is all = (all.0, fewer earlier candidate rest all.1)
distinct_by earlier candidate rest false is all = ((one earlier candidate rest all.1, all.0), (is, fewer earlier candidate rest all.1))

firsts_behind-distinct : (earlier found : List CandidateData) → HasDistinctNames (firsts_behind earlier found) × NoneOf earlier (firsts_behind earlier found)
firsts_behind-distinct earlier [] = (tt, tt)
firsts_behind-distinct earlier (candidate ∷ found) =
    distinct_by earlier candidate (firsts_behind (earlier ++ candidate ∷ []) found) (list_any (is_candidate_named candidate.name) earlier) refl (firsts_behind-distinct (earlier ++ candidate ∷ []) found)

pub firsts-distinct : (found : List CandidateData) → HasDistinctNames (firsts found)
firsts-distinct found = (firsts_behind-distinct [] found).0

-- a name that one before has, has been found before
named_too : (name : List ℕ) (candidate : CandidateData) (earlier : List CandidateData) → is_candidate_named name candidate ≡ true → list_any (is_candidate_named candidate.name) earlier ≡ true → list_any (is_candidate_named name) earlier ≡ true
named_too name candidate earlier is there =
    let same : candidate.name ≡ name = (bytes_eq-Decides candidate.name name).0 is in
    rw (← same) there

both : (before this rest later : Bool) → ((before || (this || false)) || rest) ≡ ((before || (this || false)) || later) → (before || (this || rest)) ≡ (before || (this || later))
both true this rest later same = refl
both false true rest later same = refl
both false false rest later same = same

past : (before this rest later : Bool) → (this ≡ true → before ≡ true) → ((before || (this || false)) || rest) ≡ ((before || (this || false)) || later) → (before || rest) ≡ (before || (this || later))
past true this rest later known same = refl
past false true rest later known same =
    let no : false ≡ true = known refl in
    cc
past false false rest later known same = same

there_by : (name : List ℕ) (earlier : List CandidateData) (candidate : CandidateData) (rest : List CandidateData) (found : List CandidateData) (test : Bool) → list_any (is_candidate_named candidate.name) earlier ≡ test
    → (list_any (is_candidate_named name) (earlier ++ candidate ∷ []) || list_any (is_candidate_named name) rest) ≡ (list_any (is_candidate_named name) (earlier ++ candidate ∷ []) || list_any (is_candidate_named name) found)
    → (list_any (is_candidate_named name) earlier || list_any (is_candidate_named name) (if test then rest else candidate ∷ rest)) ≡ (list_any (is_candidate_named name) earlier || (is_candidate_named name candidate || list_any (is_candidate_named name) found))
there_by name earlier candidate rest found true is same =
    past (list_any (is_candidate_named name) earlier) (is_candidate_named name candidate) _ _ (λ named. named_too name candidate earlier named is) (rw (list_any-append (is_candidate_named name) earlier (candidate ∷ [])) at same)
there_by name earlier candidate rest found false is same =
    both (list_any (is_candidate_named name) earlier) (is_candidate_named name candidate) _ _ (rw (list_any-append (is_candidate_named name) earlier (candidate ∷ [])) at same)

firsts_behind-there : (name : List ℕ) (earlier found : List CandidateData) → (list_any (is_candidate_named name) earlier || list_any (is_candidate_named name) (firsts_behind earlier found)) ≡ (list_any (is_candidate_named name) earlier || list_any (is_candidate_named name) found)
firsts_behind-there name earlier [] = refl
firsts_behind-there name earlier (candidate ∷ found) =
    there_by name earlier candidate (firsts_behind (earlier ++ candidate ∷ []) found) found (list_any (is_candidate_named candidate.name) earlier) refl (firsts_behind-there name (earlier ++ candidate ∷ []) found)

pub firsts-there : (found : List CandidateData) (name : List ℕ) → list_any (is_candidate_named name) (firsts found) ≡ list_any (is_candidate_named name) found
firsts-there found name = firsts_behind-there name [] found
