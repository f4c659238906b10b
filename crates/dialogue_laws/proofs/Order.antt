-- Candidates of the same names, each with the priority of its name: those that are left have the same names, and where
-- no two stand at one place in the order, the same order.
use Rattle.std.proofs.Common.{◌≡◌, ◌≢◌, ℕ, zero, suc, ◌+◌, ◌≤◌, ◌==◌, ◌&&◌, ◌||◌, not, Bool, true, false, List, [], ◌∷◌, ◌++◌, length, map, Option, refl, sym, ap, ◌∙◌, arith, if◌then◌else◌}
use Rattle.std.specs.List.{All, AllByRecursion, filter, list_any}
use Rattle.std.specs.Str.{bytes_eq}
use Rattle.std.proofs.lemmas.Bool.Decides.{nat_tests}
use Rattle.std.proofs.lemmas.List.{map-append}
use Rattle.std.proofs.lemmas.List.Elements.{All-head, All-tail, All-filter, All-weaker, filter_passes}
use Rattle.std.proofs.lemmas.List.Folds.{list_any-append}
use Rattle.std.proofs.lemmas.List.Kept.{AllPairs-filter}
use Rattle.std.proofs.lemmas.Slice.Eq.{bytes_eq-Decides}
use Rattle.app_select.proofs.Names.{firsts-there, firsts-distinct}
use Rattle.app_select.proofs.Order.{in_priority_order-stable}
use Rattle.app_select.specs.Candidates.{CandidateData, is_candidate_named, firsts, needs_confirmation, is_allowed, priority_rank, has_rank, by_rank, confirmable, candidates}
use Rattle.app_select.specs.Laws.{HasDistinctNames}
use Rattle.dialogue_laws.proofs.Choices.{named_itself}
use Rattle.dialogue_laws.proofs.Ordering.{all_firsts}
use Rattle.dialogue_laws.specs.Agreeing.{HaveSameNames, HaveOwnRanks}

abbrev pub names_of : List CandidateData → List (List ℕ)
names_of found = map (λ candidate. candidate.name) found

-- a test of the name alone, as it passes each of these, leaves those whose name passes
module _ (test : CandidateData → Bool) (passes : List ℕ → Bool) (name : List ℕ) where
  left_by : (candidate : CandidateData) (rest : List CandidateData) (this kept : Bool) → is_candidate_named name candidate ≡ this → test candidate ≡ kept → test candidate ≡ passes candidate.name
      → list_any (is_candidate_named name) (filter test rest) ≡ (list_any (is_candidate_named name) rest && passes name)
      → list_any (is_candidate_named name) (if kept then candidate ∷ filter test rest else filter test rest) ≡ ((this || list_any (is_candidate_named name) rest) && passes name)
  left_by candidate rest true true named is own later =
      let same : candidate.name ≡ name = (bytes_eq-Decides candidate.name name).0 named in
      rw named (sym is ∙ own ∙ ap passes same)
  left_by candidate rest true false named is own later =
      let same : candidate.name ≡ name = (bytes_eq-Decides candidate.name name).0 named in
      let fails : passes name ≡ false = ap passes (sym same) ∙ sym own ∙ is in
      later ∙ ap (λ (b : Bool). list_any (is_candidate_named name) rest && b) fails ∙ none (list_any (is_candidate_named name) rest) ∙ sym fails
    where
      none : (some : Bool) → (some && false) ≡ false
      none true = refl
      none false = refl
  left_by candidate rest false true named is own later = rw named later
  left_by candidate rest false false named is own later = later

  left : (found : List CandidateData) → All (λ c. test c ≡ passes c.name) found → list_any (is_candidate_named name) (filter test found) ≡ (list_any (is_candidate_named name) found && passes name)
  left [] all = refl
  left (candidate ∷ found) all =
      left_by candidate found (is_candidate_named name candidate) (test candidate) refl refl (All-head (λ c. test c ≡ passes c.name) candidate found all)
      (left found (All-tail (λ c. test c ≡ passes c.name) candidate found all))

pub same_left : (test : CandidateData → Bool) (passes : List ℕ → Bool) (one two : List CandidateData) → All (λ c. test c ≡ passes c.name) one → All (λ c. test c ≡ passes c.name) two
    → HaveSameNames one two → HaveSameNames (filter test one) (filter test two)
same_left test passes one two all_one all_two same name =
    left test passes name one all_one ∙ ap (λ (some : Bool). some && passes name) (same name) ∙ sym (left test passes name two all_two)

apart_left : (test : CandidateData → Bool) (first : CandidateData) (found : List CandidateData) → AllByRecursion (λ other. bytes_eq first.name other.name ≡ false) found
    → AllByRecursion (λ other. bytes_eq first.name other.name ≡ false) (filter test found)
apart_left test first [] all = tt
apart_left test first (candidate ∷ found) all = by (test candidate) (apart_left test first found all.1)
  where
    by : (kept : Bool) → AllByRecursion (λ other. bytes_eq first.name other.name ≡ false) (filter test found)
        → AllByRecursion (λ other. bytes_eq first.name other.name ≡ false) (if kept then candidate ∷ filter test found else filter test found)
    by true later = (all.0, later)
    by false later = later

distinct_left : (test : CandidateData → Bool) (found : List CandidateData) → HasDistinctNames found → HasDistinctNames (filter test found)
distinct_left test [] distinct = tt
distinct_left test (candidate ∷ found) distinct = by (test candidate) (distinct_left test found distinct.1)
  where
    by : (kept : Bool) → HasDistinctNames (filter test found) → HasDistinctNames (if kept then candidate ∷ filter test found else filter test found)
    by true later = (apart_left test candidate found distinct.0, later)
    by false later = later

-- of one name at most, and no name twice
named_first : (candidate : CandidateData) (later : List CandidateData) → list_any (is_candidate_named candidate.name) (candidate ∷ later) ≡ true
named_first candidate later = rw (named_itself candidate.name) refl

sole_name : (one other : CandidateData) → list_any (is_candidate_named one.name) (other ∷ []) ≡ true → other.name ≡ one.name
sole_name one other is = (bytes_eq-Decides other.name one.name).0 (by (bytes_eq other.name one.name) is)
  where
    by : (b : Bool) → (b || false) ≡ true → b ≡ true
    by true is = refl
    by false is = is

one_name : (one two : List CandidateData) → length one ≤ 1 → HasDistinctNames two → HaveSameNames one two → names_of one ≡ names_of two
one_name [] [] few distinct same = refl
one_name [] (b ∷ two) few distinct same = absurd (cc (same b.name ∙ named_first b two))
one_name (a ∷ []) [] few distinct same = absurd (cc (sym (named_first a []) ∙ same a.name))
one_name (a ∷ []) (b ∷ []) few distinct same =
    let name : a.name ≡ b.name = sole_name b a (same b.name ∙ named_first b []) in
    ap (λ (n : List ℕ). n ∷ []) name
one_name (a ∷ []) (b ∷ c ∷ two) few distinct same =
    let first : a.name ≡ b.name = sole_name b a (same b.name ∙ named_first b (c ∷ two)) in
    let there : list_any (is_candidate_named c.name) (b ∷ c ∷ two) ≡ true = by (is_candidate_named c.name b) (named_first c two) in
    let second : a.name ≡ c.name = sole_name c a (same c.name ∙ there) in
    absurd (cc (sym (distinct.0).0 ∙ (bytes_eq-Decides b.name c.name).1 (sym first ∙ second)))
  where
    by : (this : Bool) → list_any (is_candidate_named c.name) (c ∷ two) ≡ true → (this || list_any (is_candidate_named c.name) (c ∷ two)) ≡ true
    by true is = refl
    by false is = is
one_name (a ∷ b ∷ one) two few distinct same = absurd (omega (arith, few))

-- at each rank no more than one
at_rank : (rank : ℕ) (candidate : CandidateData) → has_rank rank candidate ≡ true → priority_rank candidate.priority ≡ rank
at_rank rank candidate is = grind (arith, nat_tests)

sole_rank : (rank : ℕ) (found : List CandidateData) → HaveOwnRanks found → All (λ c. has_rank rank c ≡ true) found → length found ≤ 1
sole_rank rank [] own all = omega arith
sole_rank rank (a ∷ []) own all = omega arith
sole_rank rank (a ∷ b ∷ found) own all =
    let other : priority_rank a.priority ≢ priority_rank b.priority = own 0 1 a (omega arith) (omega arith) in
    absurd (other (at_rank rank a (all 0 a (omega arith)) ∙ sym (at_rank rank b (all 1 a (omega arith)))))

-- rank by rank
named_ranks : (one two : List CandidateData) → ((rank : ℕ) → HaveSameNames (filter (has_rank rank) one) (filter (has_rank rank) two)) → (rank ranks : ℕ)
    → HaveSameNames (by_rank rank ranks one) (by_rank rank ranks two)
named_ranks one two same rank zero name = refl
named_ranks one two same rank (suc ranks) name =
    list_any-append (is_candidate_named name) (filter (has_rank rank) one) (by_rank (rank + 1) ranks one)
    ∙ ap (λ (this : Bool). this || list_any (is_candidate_named name) (by_rank (rank + 1) ranks one)) (same rank name)
    ∙ ap (λ (later : Bool). list_any (is_candidate_named name) (filter (has_rank rank) two) || later) (named_ranks one two same (rank + 1) ranks name)
    ∙ sym (list_any-append (is_candidate_named name) (filter (has_rank rank) two) (by_rank (rank + 1) ranks two))

listed_ranks : (one two : List CandidateData) → ((rank : ℕ) → 1 ≤ rank → rank ≤ 16 → names_of (filter (has_rank rank) one) ≡ names_of (filter (has_rank rank) two)) → (rank ranks : ℕ)
    → 1 ≤ rank → rank + ranks ≤ 17 → names_of (by_rank rank ranks one) ≡ names_of (by_rank rank ranks two)
listed_ranks one two same rank zero some few = refl
listed_ranks one two same rank (suc ranks) some few =
    map-append (λ (c : CandidateData). c.name) (filter (has_rank rank) one) (by_rank (rank + 1) ranks one)
    ∙ ap (λ (this : List (List ℕ)). this ++ names_of (by_rank (rank + 1) ranks one)) (same rank some (omega arith))
    ∙ ap (λ (later : List (List ℕ)). names_of (filter (has_rank rank) two) ++ later) (listed_ranks one two same (rank + 1) ranks (omega arith) (omega arith))
    ∙ sym (map-append (λ (c : CandidateData). c.name) (filter (has_rank rank) two) (by_rank (rank + 1) ranks two))

-- each has the priority of its name
abbrev pub HavePriorities : (List ℕ → Option ℕ) → List CandidateData → Type 0
HavePriorities priority found = All (λ c. c.priority ≡ priority c.name) found

module _ (confirm : Bool) (priority : List ℕ → Option ℕ) (one two : List CandidateData) (own_one : HavePriorities priority one) (own_two : HavePriorities priority two) (same : HaveSameNames one two) where
  tested : (p : Option ℕ → Bool) (found : List CandidateData) → HavePriorities priority found → All (λ c. p c.priority ≡ p (priority c.name)) found
  tested p found own = All-weaker (λ c. c.priority ≡ priority c.name) (λ c. p c.priority ≡ p (priority c.name)) (λ c is. ap p is) found own

  first_alike : HaveSameNames (firsts one) (firsts two)
  first_alike name = firsts-there one name ∙ same name ∙ sym (firsts-there two name)

  own_first : (found : List CandidateData) → HavePriorities priority found → HavePriorities priority (firsts found)
  own_first found own = all_firsts (λ c. c.priority ≡ priority c.name) [] found own

  own_allowed : (found : List CandidateData) → HavePriorities priority found → HavePriorities priority (confirmable confirm found)
  own_allowed found own = All-filter (is_allowed confirm) (λ c. c.priority ≡ priority c.name) (firsts found) (own_first found own)

  allowed_alike : HaveSameNames (confirmable confirm one) (confirmable confirm two)
  allowed_alike =
      same_left (is_allowed confirm) (λ name. confirm || not (needs_confirmation (priority name))) (firsts one) (firsts two)
      (tested (λ p. confirm || not (needs_confirmation p)) (firsts one) (own_first one own_one))
      (tested (λ p. confirm || not (needs_confirmation p)) (firsts two) (own_first two own_two)) first_alike

  rank_alike : (rank : ℕ) → HaveSameNames (filter (has_rank rank) (confirmable confirm one)) (filter (has_rank rank) (confirmable confirm two))
  rank_alike rank =
      same_left (has_rank rank) (λ name. priority_rank (priority name) == rank) (confirmable confirm one) (confirmable confirm two)
      (tested (λ p. priority_rank p == rank) (confirmable confirm one) (own_allowed one own_one))
      (tested (λ p. priority_rank p == rank) (confirmable confirm two) (own_allowed two own_two)) allowed_alike

  -- the candidates have the same names
  pub same_names : HaveSameNames (candidates confirm one) (candidates confirm two)
  unfolding candidates
  same_names = named_ranks (confirmable confirm one) (confirmable confirm two) rank_alike 1 16

  few_at : HaveOwnRanks (candidates confirm one) → (rank : ℕ) → 1 ≤ rank → rank ≤ 16 → length (filter (has_rank rank) (confirmable confirm one)) ≤ 1
  unfolding candidates
  few_at own rank some few =
      let is = in_priority_order-stable (confirmable confirm one) rank some few in
      let all = candidates confirm one in
      rw (← is) (sole_rank rank (filter (has_rank rank) all) (AllPairs-filter (λ a b. priority_rank a.priority ≢ priority_rank b.priority) (has_rank rank) all own) (filter_passes (has_rank rank) all))

  -- and where no two stand at one rank, the same order
  pub same_order : HaveOwnRanks (candidates confirm one) → names_of (candidates confirm one) ≡ names_of (candidates confirm two)
  unfolding candidates
  same_order own =
      listed_ranks (confirmable confirm one) (confirmable confirm two)
      (λ rank some few. one_name (filter (has_rank rank) (confirmable confirm one)) (filter (has_rank rank) (confirmable confirm two)) (few_at own rank some few)
      (distinct_left (has_rank rank) (confirmable confirm two) (distinct_left (is_allowed confirm) (firsts two) (firsts-distinct two))) (rank_alike rank))
      1 16 (omega arith) (omega arith)
