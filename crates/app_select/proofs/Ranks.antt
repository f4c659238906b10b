-- The candidates by name, by confirmation and by rank.
use Rattle.std.proofs.Common.{◌≡◌, ℕ, zero, suc, ◌+◌, ◌-◌, ◌%◌, ◌==◌, ◌≤◌, ◌<◌, ◌&&◌, ◌||◌, not, Bool, true, false, List, [], ◌∷◌, ◌++◌, length, take, drop, get_or, refl, sym, ap, ◌∙◌, arith, if◌then◌else◌, Option, Some, None, append_assoc, append-nil, length-append}
use Rattle.std.specs.List.{filter, list_any, slice_get}
use Rattle.std.specs.Str.{bytes_eq}
use Rattle.std.proofs.lemmas.Bool.Decides.{nat_tests}
use Rattle.std.proofs.lemmas.List.{map-append, take_more, drop_more, drop_all, length-map}
use Rattle.app_select.specs.Candidates.{CandidateData, is_candidate_named, firsts_behind, firsts, is_allowed, priority_rank, has_rank, by_rank, in_priority_order, confirmable, candidates}
use Rattle.app_select.specs.SeenCandidate.{seen_candidate, seen_all, is_ranked}
use Rattle.app_select.specs.declared.candidates.Candidate.{Candidate}

pub any_seen : (name : List ℕ) (found : List Candidate) → list_any (λ other. bytes_eq other.name name) found ≡ list_any (is_candidate_named name) (seen_all found)
any_seen name [] = refl
any_seen name (candidate ∷ found) = ap (λ (b : Bool). bytes_eq candidate.name name || b) (any_seen name found)

-- those of a rank among the candidates that are allowed
abbrev pub ranked : Bool → ℕ → List CandidateData → List CandidateData
ranked confirm rank found = filter (has_rank rank) (filter (is_allowed confirm) found)

by_tests : (confirm : Bool) (rank : ℕ) (candidate : CandidateData) (rest : List CandidateData) (at_rank is_free is_named : Bool)
    → has_rank rank candidate ≡ at_rank → is_allowed confirm candidate ≡ is_free
    → ranked confirm rank (if is_named then rest else candidate ∷ rest)
    ≡ (if at_rank && (is_free && not is_named) then candidate ∷ [] else []) ++ ranked confirm rank rest
by_tests confirm rank candidate rest true true true p q = refl
by_tests confirm rank candidate rest true false true p q = refl
by_tests confirm rank candidate rest false true true p q = refl
by_tests confirm rank candidate rest false false true p q = refl
by_tests confirm rank candidate rest true true false p q = rw q (rw p refl)
by_tests confirm rank candidate rest true false false p q = rw q refl
by_tests confirm rank candidate rest false true false p q = rw q (rw p refl)
by_tests confirm rank candidate rest false false false p q = rw q refl

-- what is still to be pushed from a place on
abbrev pub ranked_from : Bool → ℕ → List Candidate → ℕ → List CandidateData
ranked_from confirm rank found place = ranked confirm rank (firsts_behind (seen_all (take place found)) (seen_all (drop place found)))

pub ranked_step : (confirm : Bool) (rank : ℕ) (found : List Candidate) (place : ℕ) (candidate : Candidate) → place < length found → candidate ≡ get_or found place candidate
    → ranked_from confirm rank found place
    ≡ (if is_ranked confirm rank (seen_all (take place found)) (seen_candidate candidate) then seen_candidate candidate ∷ [] else []) ++ ranked_from confirm rank found (place + 1)
ranked_step confirm rank found place candidate inside is =
    let front = seen_all (take place found) in
    let this = seen_candidate candidate in
    let rest : drop place found ≡ candidate ∷ drop (place + 1) found = drop_more found place candidate inside ∙ ap (λ (c : Candidate). c ∷ drop (place + 1) found) (sym is) in
    let more : take (place + 1) found ≡ take place found ++ candidate ∷ [] = take_more found place candidate inside ∙ ap (λ (c : Candidate). take place found ++ c ∷ []) (sym is) in
    let seen : seen_all (take (place + 1) found) ≡ front ++ this ∷ [] = ap seen_all more ∙ map-append seen_candidate (take place found) (candidate ∷ []) in
    rw (rest, seen)
    (by_tests confirm rank this (firsts_behind (front ++ this ∷ []) (seen_all (drop (place + 1) found))) (has_rank rank this) (is_allowed confirm this) (list_any (is_candidate_named this.name) front) refl refl)

-- no candidate of a rank that is over
passed : (rank ranks : ℕ) (candidate : CandidateData) (rest : List CandidateData) → priority_rank candidate.priority < rank → by_rank rank ranks (candidate ∷ rest) ≡ by_rank rank ranks rest
passed rank zero candidate rest below = refl
passed rank (suc ranks) candidate rest below =
    let over : has_rank rank candidate ≡ false = grind (arith, nat_tests) in
    let next : priority_rank candidate.priority < rank + 1 = omega arith in
    rw (over, passed (rank + 1) ranks candidate rest next) refl

one_more_by : (rank ranks : ℕ) (candidate : CandidateData) (rest : List CandidateData) (test : Bool) → has_rank rank candidate ≡ test
    → length (by_rank (rank + 1) ranks (candidate ∷ rest)) ≤ suc (length (by_rank (rank + 1) ranks rest))
    → length (by_rank rank (suc ranks) (candidate ∷ rest)) ≤ suc (length (by_rank rank (suc ranks) rest))
one_more_by rank ranks candidate rest true is more =
    let here : priority_rank candidate.priority < rank + 1 = grind (arith, nat_tests) in
    rw (is, passed (rank + 1) ranks candidate rest here) (omega arith)
one_more_by rank ranks candidate rest false is more =
    rw is (simp length-append (omega (arith, more)))

one_more : (rank ranks : ℕ) (candidate : CandidateData) (rest : List CandidateData) → length (by_rank rank ranks (candidate ∷ rest)) ≤ suc (length (by_rank rank ranks rest))
one_more rank zero candidate rest = omega arith
one_more rank (suc ranks) candidate rest = one_more_by rank ranks candidate rest (has_rank rank candidate) refl (one_more (rank + 1) ranks candidate rest)

by_rank-none : (rank ranks : ℕ) → by_rank rank ranks [] ≡ []
by_rank-none rank zero = refl
by_rank-none rank (suc ranks) = by_rank-none (rank + 1) ranks

rank_within_by : (byte : ℕ) (test : Bool) → (byte % 16 == 0) ≡ test → (1 ≤ priority_rank (Some byte)) × (priority_rank (Some byte) ≤ 16)
rank_within_by byte true is = rw is (omega arith, omega arith)
rank_within_by byte false is =
    let some : 1 ≤ byte % 16 = grind (arith, nat_tests) in
    rw is (some, omega arith)

rank_within : (priority : Option ℕ) → (1 ≤ priority_rank priority) × (priority_rank priority ≤ 16)
rank_within None = (omega arith, omega arith)
rank_within (Some byte) = rank_within_by byte (byte % 16 == 0) refl

-- one candidate comes at its rank
alone_by : (rank ranks : ℕ) (candidate : CandidateData) (test : Bool) → has_rank rank candidate ≡ test → rank ≤ priority_rank candidate.priority
    → priority_rank candidate.priority < rank + suc ranks
    → (rank + 1 ≤ priority_rank candidate.priority → by_rank (rank + 1) ranks (candidate ∷ []) ≡ candidate ∷ [])
    → by_rank rank (suc ranks) (candidate ∷ []) ≡ candidate ∷ []
alone_by rank ranks candidate true is above below later =
    let here : priority_rank candidate.priority < rank + 1 = grind (arith, nat_tests) in
    rw (is, passed (rank + 1) ranks candidate [] here, by_rank-none (rank + 1) ranks) refl
alone_by rank ranks candidate false is above below later =
    let behind : rank + 1 ≤ priority_rank candidate.priority = grind (arith, nat_tests) in
    rw is (later behind)

alone_from : (rank ranks : ℕ) (candidate : CandidateData) → rank ≤ priority_rank candidate.priority → priority_rank candidate.priority < rank + ranks → by_rank rank ranks (candidate ∷ []) ≡ candidate ∷ []
alone_from rank zero candidate above below = grind arith
alone_from rank (suc ranks) candidate above below =
    alone_by rank ranks candidate (has_rank rank candidate) refl above below (λ behind. alone_from (rank + 1) ranks candidate behind (omega (arith, below)))

pub none_found : (confirm : Bool) → candidates confirm [] ≡ []
unfolding candidates
none_found confirm = by_rank-none 1 16

pub one_found : (confirm : Bool) (candidate : CandidateData) → candidates confirm (candidate ∷ []) ≡ (if is_allowed confirm candidate then candidate ∷ [] else [])
unfolding candidates
one_found confirm candidate =
    let within = rank_within candidate.priority in
    elim (is_allowed confirm candidate) as (λ b. in_priority_order (if b then candidate ∷ [] else []) ≡ (if b then candidate ∷ [] else [])) [
      | true ↦ alone_from 1 16 candidate within.0 (omega (arith, within.1))
      | false ↦ by_rank-none 1 16
    ]

pub none_left : (found : List Candidate) → slice_get found 0 ≡ None → found ≡ []
none_left [] is = refl
none_left (candidate ∷ found) is = cc

pub one_left : (confirm : Bool) (found : List Candidate) (only : Candidate) (stays : Bool) → length found < 2 → slice_get found 0 ≡ Some only → stays ≡ is_allowed confirm (seen_candidate only)
    → candidates confirm (seen_all found) ≡ (if stays then seen_all found else [])
one_left confirm [] only stays few is same = cc
one_left confirm (first ∷ []) only stays few is same =
    let it : first ≡ only = cc in
    rw (it, same) (one_found confirm (seen_candidate only))
one_left confirm (first ∷ second ∷ found) only stays few is same = grind arith

by_rank-few : (rank ranks : ℕ) (found : List CandidateData) → length (by_rank rank ranks found) ≤ length found
by_rank-few rank ranks [] = rw (by_rank-none rank ranks) (omega arith)
by_rank-few rank ranks (candidate ∷ found) =
    let more = one_more rank ranks candidate found in
    let rest = by_rank-few rank ranks found in
    omega (arith, more, rest)

filter-few : (test : CandidateData → Bool) (found : List CandidateData) → length (filter test found) ≤ length found
filter-few test [] = omega arith
filter-few test (candidate ∷ found) =
    let rest = filter-few test found in
    elim (test candidate) as (λ b. length (if b then candidate ∷ filter test found else filter test found) ≤ suc (length found)) [ true ↦ omega (arith, rest) | false ↦ omega (arith, rest) ]

firsts_behind-few : (earlier found : List CandidateData) → length (firsts_behind earlier found) ≤ length found
firsts_behind-few earlier [] = omega arith
firsts_behind-few earlier (candidate ∷ found) =
    let rest = firsts_behind-few (earlier ++ candidate ∷ []) found in
    let later = firsts_behind (earlier ++ candidate ∷ []) found in
    elim (list_any (is_candidate_named candidate.name) earlier) as (λ b. length (if b then later else candidate ∷ later) ≤ suc (length found)) [ true ↦ omega (arith, rest) | false ↦ omega (arith, rest) ]

pub in_priority_order-few : (confirm : Bool) (found : List CandidateData) → length (in_priority_order (confirmable confirm found)) ≤ length found
in_priority_order-few confirm found =
    let a = by_rank-few 1 16 (confirmable confirm found) in
    let b = filter-few (is_allowed confirm) (firsts found) in
    let c = firsts_behind-few [] found in
    omega (arith, a, b, c)

pub ranked_end : (confirm : Bool) (rank : ℕ) (found : List Candidate) (place : ℕ) → length found ≤ place → ranked_from confirm rank found place ≡ []
ranked_end confirm rank found place over = rw (drop_all place found over) refl

-- one more is pushed
pub push_step : (front this rest before all : List CandidateData) → front ++ before ≡ all → before ≡ this ++ rest → (front ++ this) ++ rest ≡ all
push_step front this rest before all is next = append_assoc front this rest ∙ ap (λ (xs : List CandidateData). front ++ xs) (sym next) ∙ is

pub room_at : (list initial : List Candidate) (all before rest : List CandidateData) (candidate : CandidateData) → seen_all list ++ before ≡ seen_all initial ++ all
    → before ≡ candidate ∷ rest → length initial + length all ≤ 256 → length list < 256
room_at list initial all before rest candidate is next few =
    let same = ap (λ (xs : List CandidateData). length (seen_all list ++ xs)) (sym next) ∙ ap length is in
    let one : length (seen_all list ++ candidate ∷ rest) ≡ length list + suc (length rest) = length-append (seen_all list) (candidate ∷ rest) ∙ ap (λ (n : ℕ). n + suc (length rest)) (length-map list seen_candidate) in
    let two : length (seen_all initial ++ all) ≡ length initial + length all = length-append (seen_all initial) all ∙ ap (λ (n : ℕ). n + length all) (length-map initial seen_candidate) in
    omega (arith, same, one, two)

pub rank_step : (rank : ℕ) (among : List CandidateData) → rank ≤ 16 → by_rank rank (17 - rank) among ≡ filter (has_rank rank) among ++ by_rank (rank + 1) (17 - (rank + 1)) among
rank_step rank among few =
    let one : 17 - rank ≡ suc (17 - (rank + 1)) = omega arith in
    rw one refl

pub ranks_room : (confirm : Bool) (rank : ℕ) (list found : List Candidate) → let among = confirmable confirm (seen_all found) in seen_all list ++ by_rank rank (17 - rank) among ≡ in_priority_order among
    → rank ≤ 16 → length found ≤ 256 → length list + length (filter (has_rank rank) among) ≤ 256
ranks_room confirm rank list found is few most =
    let among = confirmable confirm (seen_all found) in
    let rest = by_rank (rank + 1) (17 - (rank + 1)) among in
    let now = filter (has_rank rank) among in
    let same = ap (λ (xs : List CandidateData). length (seen_all list ++ xs)) (sym (rank_step rank among few)) ∙ ap length is in
    let one : length (seen_all list ++ (now ++ rest)) ≡ length list + (length now + length rest) =
    length-append (seen_all list) (now ++ rest) ∙ ap (λ (n : ℕ). n + length (now ++ rest)) (length-map list seen_candidate) ∙ ap (λ (n : ℕ). length list + n) (length-append now rest) in
    let all = in_priority_order-few confirm (seen_all found) in
    let seen = length-map found seen_candidate in
    omega (arith, same, one, all, seen)

pub all_few : (confirm : Bool) (list found : List Candidate) → seen_all list ≡ candidates confirm (seen_all found) → length list ≤ length found
unfolding candidates
all_few confirm list found is =
    let same = sym (length-map list seen_candidate) ∙ ap length is in
    let all = in_priority_order-few confirm (seen_all found) in
    let seen = length-map found seen_candidate in
    omega (arith, same, all, seen)

pub rank_end : (rank : ℕ) (among : List CandidateData) → 17 ≤ rank → by_rank rank (17 - rank) among ≡ []
rank_end rank among over =
    let none : 17 - rank ≡ 0 = omega arith in
    rw none refl

pub all_ranked : (confirm : Bool) (rank : ℕ) (list found : List Candidate) → let among = confirmable confirm (seen_all found) in seen_all list ++ by_rank rank (17 - rank) among ≡ in_priority_order among
    → 16 < rank → seen_all list ≡ candidates confirm (seen_all found)
unfolding candidates
all_ranked confirm rank list found is over =
    let above : 17 ≤ rank = omega arith in
    sym (append-nil (seen_all list)) ∙ ap (λ (xs : List CandidateData). seen_all list ++ xs) (sym (rank_end rank (confirmable confirm (seen_all found)) above)) ∙ is
