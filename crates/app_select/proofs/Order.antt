-- The order of the candidates.
use Rattle.std.proofs.Common.{◌≡◌, ℕ, zero, suc, ◌+◌, ◌%◌, ◌≤◌, ◌<◌, ◌==◌, Bool, true, false, nat_eq, List, [], ◌∷◌, ◌++◌, Some, None, refl, ap, ◌∙◌, arith, if◌then◌else◌, append-nil}
use Rattle.std.specs.declared.option.Option.{Option}
use Rattle.std.specs.List.{AllByRecursion, filter}
use Rattle.std.proofs.lemmas.Bool.Decides.{nat_tests}
use Rattle.std.proofs.lemmas.List.Elements.{filter-append}
use Rattle.app_select.specs.Candidates.{CandidateData, priority_rank, has_rank, by_rank, in_priority_order}
use Rattle.app_select.specs.Laws.{IsInPriorityOrder}

rank_by : (byte : ℕ) (test : Bool) → (byte % 16 == 0) ≡ test → (1 ≤ (if test then 16 else byte % 16)) × ((if test then 16 else byte % 16) ≤ 16)
rank_by byte true is = (omega arith, omega arith)
rank_by byte false is = (grind (arith, nat_tests), omega arith)

pub priority_rank-least : (priority : Option ℕ) → 1 ≤ priority_rank priority
priority_rank-least None = omega arith
priority_rank-least (Some byte) = (rank_by byte (byte % 16 == 0) refl).0

pub priority_rank-most : (priority : Option ℕ) → priority_rank priority ≤ 16
priority_rank-most None = omega arith
priority_rank-most (Some byte) = (rank_by byte (byte % 16 == 0) refl).1

-- all stand at this rank or behind it
abbrev pub AtLeast : ℕ → List CandidateData → Type 0
AtLeast rank among = AllByRecursion (λ other. rank ≤ priority_rank other.priority) among

weaker : (rank : ℕ) (among : List CandidateData) → AtLeast (rank + 1) among → AtLeast rank among
weaker rank [] all = tt
weaker rank (candidate ∷ among) all =
    let this = all.0 in
    (omega (arith, this), weaker rank among all.1)

-- those of one rank, before others that are not before them
abbrev pub Bucketed : ℕ → List CandidateData → Type 0
Bucketed rank among = IsInPriorityOrder among × AtLeast rank among

at_rank : (rank : ℕ) (candidate : CandidateData) → has_rank rank candidate ≡ true → priority_rank candidate.priority ≡ rank
at_rank rank candidate is = grind (arith, nat_tests)

bucket_by : (rank : ℕ) (candidate : CandidateData) (front behind : List CandidateData) (test : Bool) → has_rank rank candidate ≡ test → Bucketed rank (front ++ behind)
    → Bucketed rank ((if test then candidate ∷ front else front) ++ behind)
bucket_by rank candidate front behind true is all =
    let same = at_rank rank candidate is in
    let this : rank ≤ priority_rank candidate.priority = omega (arith, same) in
    let others : AtLeast (priority_rank candidate.priority) (front ++ behind) = rw same all.1 in
    ((others, all.0), (this, all.1))
bucket_by rank candidate front behind false is all = all

bucket : (rank : ℕ) (candidates behind : List CandidateData) → Bucketed rank behind → Bucketed rank (filter (has_rank rank) candidates ++ behind)
bucket rank [] behind all = all
bucket rank (candidate ∷ candidates) behind all =
    bucket_by rank candidate (filter (has_rank rank) candidates) behind (has_rank rank candidate) refl (bucket rank candidates behind all)

by_rank-rising : (rank ranks : ℕ) (candidates : List CandidateData) → Bucketed rank (by_rank rank ranks candidates)
by_rank-rising rank zero candidates = (tt, tt)
by_rank-rising rank (suc ranks) candidates =
    let behind = by_rank-rising (rank + 1) ranks candidates in
    bucket rank candidates (by_rank (rank + 1) ranks candidates) (behind.0, weaker rank (by_rank (rank + 1) ranks candidates) behind.1)

pub in_priority_order-rising : (candidates : List CandidateData) → IsInPriorityOrder (in_priority_order candidates)
in_priority_order-rising candidates = (by_rank-rising 1 16 candidates).0

again_by : (test : CandidateData → Bool) (candidate : CandidateData) (rest : List CandidateData) (passes : Bool) → test candidate ≡ passes → filter test rest ≡ rest
    → filter test (if passes then candidate ∷ rest else rest) ≡ (if passes then candidate ∷ rest else rest)
again_by test candidate rest true is same = rw is (ap (λ (xs : List CandidateData). candidate ∷ xs) same)
again_by test candidate rest false is same = same

again : (test : CandidateData → Bool) (candidates : List CandidateData) → filter test (filter test candidates) ≡ filter test candidates
again test [] = refl
again test (candidate ∷ candidates) = again_by test candidate (filter test candidates) (test candidate) refl (again test candidates)

apart_by : (wanted rank : ℕ) (candidate : CandidateData) (rest : List CandidateData) (test : Bool) → wanted < rank → has_rank rank candidate ≡ test → filter (has_rank wanted) rest ≡ []
    → filter (has_rank wanted) (if test then candidate ∷ rest else rest) ≡ []
apart_by wanted rank candidate rest true below is none =
    let same = at_rank rank candidate is in
    let other : has_rank wanted candidate ≡ false = grind (arith, nat_tests, same) in
    rw other none
apart_by wanted rank candidate rest false below is none = none

apart : (wanted rank : ℕ) (candidates : List CandidateData) → wanted < rank → filter (has_rank wanted) (filter (has_rank rank) candidates) ≡ []
apart wanted rank [] below = refl
apart wanted rank (candidate ∷ candidates) below =
    apart_by wanted rank candidate (filter (has_rank rank) candidates) (has_rank rank candidate) below refl (apart wanted rank candidates below)

apart_above_by : (wanted rank : ℕ) (candidate : CandidateData) (rest : List CandidateData) (test : Bool) → rank < wanted → has_rank rank candidate ≡ test → filter (has_rank wanted) rest ≡ []
    → filter (has_rank wanted) (if test then candidate ∷ rest else rest) ≡ []
apart_above_by wanted rank candidate rest true above is none =
    let same = at_rank rank candidate is in
    let other : has_rank wanted candidate ≡ false = grind (arith, nat_tests, same) in
    rw other none
apart_above_by wanted rank candidate rest false above is none = none

apart_above : (wanted rank : ℕ) (candidates : List CandidateData) → rank < wanted → filter (has_rank wanted) (filter (has_rank rank) candidates) ≡ []
apart_above wanted rank [] above = refl
apart_above wanted rank (candidate ∷ candidates) above =
    apart_above_by wanted rank candidate (filter (has_rank rank) candidates) (has_rank rank candidate) above refl (apart_above wanted rank candidates above)

over : (wanted rank ranks : ℕ) (candidates : List CandidateData) → wanted < rank → filter (has_rank wanted) (by_rank rank ranks candidates) ≡ []
over wanted rank zero candidates below = refl
over wanted rank (suc ranks) candidates below =
    let next : wanted < rank + 1 = omega arith in
    filter-append (has_rank wanted) (filter (has_rank rank) candidates) (by_rank (rank + 1) ranks candidates)
    ∙ ap (λ (xs : List CandidateData). xs ++ filter (has_rank wanted) (by_rank (rank + 1) ranks candidates)) (apart wanted rank candidates below)
    ∙ over wanted (rank + 1) ranks candidates next

-- the bucket of the wanted rank, or a later one
found_by : (wanted rank ranks : ℕ) (candidates : List CandidateData) (test : Bool) → nat_eq rank wanted ≡ test → rank ≤ wanted → wanted < rank + suc ranks
    → (rank + 1 ≤ wanted → wanted < rank + 1 + ranks → filter (has_rank wanted) (by_rank (rank + 1) ranks candidates) ≡ filter (has_rank wanted) candidates)
    → filter (has_rank wanted) (by_rank rank (suc ranks) candidates) ≡ filter (has_rank wanted) candidates
found_by wanted rank ranks candidates true is from to later =
    let same : rank ≡ wanted = grind (arith, nat_tests) in
    let next : wanted < rank + 1 = omega (arith, same) in
    filter-append (has_rank wanted) (filter (has_rank rank) candidates) (by_rank (rank + 1) ranks candidates)
    ∙ ap (λ (xs : List CandidateData). filter (has_rank wanted) (filter (has_rank rank) candidates) ++ xs) (over wanted (rank + 1) ranks candidates next)
    ∙ append-nil (filter (has_rank wanted) (filter (has_rank rank) candidates))
    ∙ rw same (again (has_rank wanted) candidates)
found_by wanted rank ranks candidates false is from to later =
    let above : rank < wanted = grind (arith, nat_tests) in
    let next : rank + 1 ≤ wanted = omega arith in
    let end : wanted < rank + 1 + ranks = omega arith in
    filter-append (has_rank wanted) (filter (has_rank rank) candidates) (by_rank (rank + 1) ranks candidates)
    ∙ ap (λ (xs : List CandidateData). xs ++ filter (has_rank wanted) (by_rank (rank + 1) ranks candidates)) (apart_above wanted rank candidates above)
    ∙ later next end

by_rank-found : (wanted rank ranks : ℕ) (candidates : List CandidateData) → rank ≤ wanted → wanted < rank + ranks
    → filter (has_rank wanted) (by_rank rank ranks candidates) ≡ filter (has_rank wanted) candidates
by_rank-found wanted rank zero candidates from to = grind arith
by_rank-found wanted rank (suc ranks) candidates from to =
    found_by wanted rank ranks candidates (nat_eq rank wanted) refl from to (λ next end. by_rank-found wanted (rank + 1) ranks candidates next end)

pub in_priority_order-stable : (candidates : List CandidateData) (rank : ℕ) → 1 ≤ rank → rank ≤ 16 → filter (has_rank rank) (in_priority_order candidates) ≡ filter (has_rank rank) candidates
in_priority_order-stable candidates rank from to =
    let end : rank < 1 + 16 = omega arith in
    by_rank-found rank 1 16 candidates from end
