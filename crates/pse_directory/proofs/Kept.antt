-- The first of each name, at most 16, as one candidate more comes.
use Rattle.std.proofs.Common.{◌≡◌, ◌≤◌, ◌<◌, ℕ, zero, suc, ◌||◌, Bool, true, false, nat_le, List, [], ◌∷◌, ◌++◌, length, take, fold, refl, sym, ap, ◌∙◌, arith, if◌then◌else◌, append_assoc, append-nil, length-append}
use Rattle.std.specs.List.{AllByRecursion, list_any}
use Rattle.std.specs.Str.{bytes_eq}
use Rattle.std.proofs.lemmas.Bool.Decides.{nat_tests}
use Rattle.std.proofs.lemmas.List.{take_all, take-append-le, length-take-le}
use Rattle.app_select.specs.Candidates.{CandidateData, is_candidate_named, firsts_behind, firsts}
use Rattle.app_select.specs.Laws.{HasDistinctNames}
use Rattle.app_select.proofs.Names.{firsts-there, firsts-distinct}
use Rattle.pse_directory.specs.Directory.{kept_candidates}
use Rattle.pse_directory.specs.Keeping.{added_by, candidates_with}

push_by : (is_there is_out : Bool) (first candidate : CandidateData) (behind : List CandidateData)
    → (if is_there then added_by is_out behind candidate else first ∷ added_by is_out behind candidate)
    ≡ added_by is_out (if is_there then behind else first ∷ behind) candidate
push_by true is_out first candidate behind = refl
push_by false true first candidate behind = refl
push_by false false first candidate behind = refl

firsts_behind-push : (earlier found : List CandidateData) (candidate : CandidateData)
    → firsts_behind earlier (found ++ candidate ∷ []) ≡ added_by (list_any (is_candidate_named candidate.name) (earlier ++ found)) (firsts_behind earlier found) candidate
firsts_behind-push earlier [] candidate = rw (append-nil earlier) refl
firsts_behind-push earlier (first ∷ found) candidate =
    let later = firsts_behind-push (earlier ++ first ∷ []) found candidate in
    let all = append_assoc earlier (first ∷ []) found in
    rw (later, all)
    (push_by (list_any (is_candidate_named first.name) earlier) (list_any (is_candidate_named candidate.name) (earlier ++ first ∷ found)) first candidate (firsts_behind (earlier ++ first ∷ []) found))

pub firsts-push : (found : List CandidateData) (candidate : CandidateData)
    → firsts (found ++ candidate ∷ []) ≡ added_by (list_any (is_candidate_named candidate.name) found) (firsts found) candidate
firsts-push found candidate = firsts_behind-push [] found candidate

or_true : (a : Bool) → (a || true) ≡ true
or_true true = refl
or_true false = refl

or_false : (a : Bool) → (a || false) ≡ a
or_false true = refl
or_false false = refl

-- behind sixteen nothing is kept
full : (all : List CandidateData) (candidate : CandidateData) (is_out : Bool) → 16 ≤ length all
    → take 16 (added_by is_out all candidate) ≡ candidates_with (take 16 all) candidate
full all candidate true many =
    let count : length (take 16 all) ≡ 16 = length-take-le 16 all many in
    rw (count, or_true (list_any (is_candidate_named candidate.name) (take 16 all))) refl
full all candidate false many =
    let count : length (take 16 all) ≡ 16 = length-take-le 16 all many in
    rw (count, or_true (list_any (is_candidate_named candidate.name) (take 16 all))) (take-append-le 16 all (candidate ∷ []) many)

-- below sixteen each first of its name is
fits : (all : List CandidateData) (candidate : CandidateData) (is_out : Bool) → length all < 16
    → take 16 (added_by is_out all candidate) ≡ added_by is_out all candidate
fits all candidate true few =
    let most : length all ≤ 16 = omega arith in
    take_all 16 all most
fits all candidate false few =
    let most : length (all ++ candidate ∷ []) ≤ 16 = simp length-append (omega arith) in
    take_all 16 (all ++ candidate ∷ []) most

room : (all : List CandidateData) (candidate : CandidateData) (is_out : Bool) → length all < 16 → list_any (is_candidate_named candidate.name) all ≡ is_out
    → candidates_with (take 16 all) candidate ≡ added_by is_out all candidate
room all candidate is_out few is =
    let most : length all ≤ 16 = omega arith in
    let below : nat_le 16 (length all) ≡ false = grind (arith, nat_tests) in
    rw (take_all 16 all most, below, or_false (list_any (is_candidate_named candidate.name) all), is) refl

by_count : (all : List CandidateData) (candidate : CandidateData) (is_out test : Bool) → nat_le 16 (length all) ≡ test → list_any (is_candidate_named candidate.name) all ≡ is_out
    → take 16 (added_by is_out all candidate) ≡ candidates_with (take 16 all) candidate
by_count all candidate is_out true count is =
    let many : 16 ≤ length all = grind (arith, nat_tests) in
    full all candidate is_out many
by_count all candidate is_out false count is =
    let few : length all < 16 = grind (arith, nat_tests) in
    fits all candidate is_out few ∙ sym (room all candidate is_out few is)

pub kept_candidates-push : (found : List CandidateData) (candidate : CandidateData) → kept_candidates (found ++ candidate ∷ []) ≡ candidates_with (kept_candidates found) candidate
kept_candidates-push found candidate =
    ap (λ (all : List CandidateData). take 16 all) (firsts-push found candidate)
    ∙ by_count (firsts found) candidate (list_any (is_candidate_named candidate.name) found) (nat_le 16 (length (firsts found))) refl (firsts-there found candidate.name)

pub kept_candidates-fold : (found more : List CandidateData) → kept_candidates (found ++ more) ≡ fold candidates_with (kept_candidates found) more
kept_candidates-fold found [] = ap kept_candidates (append-nil found)
kept_candidates-fold found (candidate ∷ more) =
    ap kept_candidates (sym (append_assoc found (candidate ∷ []) more))
    ∙ kept_candidates-fold (found ++ candidate ∷ []) more
    ∙ ap (λ (all : List CandidateData). fold candidates_with all more) (kept_candidates-push found candidate)

-- what is kept stays so with one more
keeps_by : (is_out : Bool) (all : List CandidateData) (candidate : CandidateData) → kept_candidates all ≡ all → kept_candidates (all ++ candidate ∷ []) ≡ added_by is_out all candidate
    → kept_candidates (added_by is_out all candidate) ≡ added_by is_out all candidate
keeps_by true all candidate is more = is
keeps_by false all candidate is more = more

keeps : (all : List CandidateData) (candidate : CandidateData) → kept_candidates all ≡ all → kept_candidates (candidates_with all candidate) ≡ candidates_with all candidate
keeps all candidate is =
    keeps_by (list_any (is_candidate_named candidate.name) all || nat_le 16 (length all)) all candidate is
    (kept_candidates-push all candidate ∙ ap (λ (among : List CandidateData). candidates_with among candidate) is)

fold_keeps : (all more : List CandidateData) → kept_candidates all ≡ all → kept_candidates (fold candidates_with all more) ≡ fold candidates_with all more
fold_keeps all [] is = is
fold_keeps all (candidate ∷ more) is = fold_keeps (candidates_with all candidate) more (keeps all candidate is)

pub kept_candidates-kept_candidates : (found : List CandidateData) → kept_candidates (kept_candidates found) ≡ kept_candidates found
kept_candidates-kept_candidates found =
    let none : kept_candidates [] ≡ [] = refl in
    let folded = kept_candidates-fold [] found in
    rw folded (fold_keeps [] found none)

-- no more than 16, and no two of one name
few_by : (all : List CandidateData) (test : Bool) → nat_le 16 (length all) ≡ test → length (take 16 all) ≤ 16
few_by all true is =
    let many : 16 ≤ length all = grind (arith, nat_tests) in
    rw (length-take-le 16 all many) (omega arith)
few_by all false is =
    let most : length all ≤ 16 = grind (arith, nat_tests) in
    rw (take_all 16 all most) most

pub kept_candidates-few : (found : List CandidateData) → length (kept_candidates found) ≤ 16
kept_candidates-few found = few_by (firsts found) (nat_le 16 (length (firsts found))) refl

apart_front : (first : CandidateData) (count : ℕ) (all : List CandidateData) → AllByRecursion (λ other. bytes_eq first.name other.name ≡ false) all
    → AllByRecursion (λ other. bytes_eq first.name other.name ≡ false) (take count all)
apart_front first zero all holds = tt
apart_front first (suc count) [] holds = tt
apart_front first (suc count) (one ∷ all) holds = (holds.0, apart_front first count all holds.1)

distinct_front : (count : ℕ) (all : List CandidateData) → HasDistinctNames all → HasDistinctNames (take count all)
distinct_front zero all distinct = tt
distinct_front (suc count) [] distinct = tt
distinct_front (suc count) (first ∷ all) distinct = (apart_front first count all distinct.0, distinct_front count all distinct.1)

pub kept_candidates-distinct : (found : List CandidateData) → HasDistinctNames (kept_candidates found)
kept_candidates-distinct found = distinct_front 16 (firsts found) (firsts-distinct found)
