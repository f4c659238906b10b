-- What the candidates keep of the applications found.
use Rattle.std.proofs.Common.{◌≡◌, ℕ, zero, suc, ◌+◌, ◌≤◌, Bool, true, false, List, [], ◌∷◌, ◌++◌, refl, ap, ◌∙◌, arith, if◌then◌else◌}
use Rattle.std.specs.List.{All, filter, list_any}
use Rattle.std.proofs.lemmas.Bool.Decides.{nat_tests}
use Rattle.std.proofs.lemmas.List.Elements.{All-nil, All-cons, All-head, All-tail, All-append, All-filter}
use Rattle.app_select.proofs.Names.{firsts-there}
use Rattle.app_select.proofs.Order.{priority_rank-least, priority_rank-most, in_priority_order-stable}
use Rattle.app_select.specs.Candidates.{CandidateData, is_candidate_named, firsts_behind, firsts, is_allowed, priority_rank, has_rank, by_rank, in_priority_order, confirmable, candidates}

module _ (P : CandidateData → Type 0) where
  all_by : (test : Bool) (candidate : CandidateData) (rest : List CandidateData) → P candidate → All P rest → All P (if test then rest else candidate ∷ rest)
  all_by true candidate rest one all = all
  all_by false candidate rest one all = All-cons P candidate rest one all

  pub all_firsts : (earlier found : List CandidateData) → All P found → All P (firsts_behind earlier found)
  all_firsts earlier [] all = All-nil P
  all_firsts earlier (candidate ∷ found) all =
      all_by (list_any (is_candidate_named candidate.name) earlier) candidate (firsts_behind (earlier ++ candidate ∷ []) found) (All-head P candidate found all)
      (all_firsts (earlier ++ candidate ∷ []) found (All-tail P candidate found all))

  all_ranks : (rank ranks : ℕ) (among : List CandidateData) → All P among → All P (by_rank rank ranks among)
  all_ranks rank zero among all = All-nil P
  all_ranks rank (suc ranks) among all =
      All-append P (filter (has_rank rank) among) (by_rank (rank + 1) ranks among) (All-filter (has_rank rank) P among all) (all_ranks (rank + 1) ranks among all)

  -- what holds of each application found holds of each candidate
  pub all_candidates : (confirm : Bool) (found : List CandidateData) → All P found → All P (candidates confirm found)
  unfolding candidates
  all_candidates confirm found all = all_ranks 1 16 (confirmable confirm found) (All-filter (is_allowed confirm) P (firsts found) (all_firsts [] found all))

module _ (p : CandidateData → Bool) where
  behind_other : (candidate : CandidateData) (rest : List CandidateData) → p candidate ≡ false → list_any p (candidate ∷ rest) ≡ true → list_any p rest ≡ true
  behind_other candidate rest other there = rw other at there

  kept_by : (candidate : CandidateData) (rest : List CandidateData) (named passes : Bool) → p candidate ≡ named → (named ≡ true → passes ≡ true)
      → (named ≡ false → list_any p rest ≡ true) → list_any p (if passes then candidate ∷ rest else rest) ≡ true
  kept_by candidate rest true true is so later = rw is refl
  kept_by candidate rest true false is so later = absurd (cc (so refl))
  kept_by candidate rest false true is so later = rw is (later refl)
  kept_by candidate rest false false is so later = later refl

  -- one that passes a test stays behind it
  stays : (test : CandidateData → Bool) (among : List CandidateData) → All (λ c. p c ≡ true → test c ≡ true) among → list_any p among ≡ true
      → list_any p (filter test among) ≡ true
  stays test [] all there = there
  stays test (candidate ∷ among) all there =
      let so : p candidate ≡ true → test candidate ≡ true = All-head (λ c. p c ≡ true → test c ≡ true) candidate among all in
      kept_by candidate (filter test among) (p candidate) (test candidate) refl so
      (λ other. stays test among (All-tail (λ c. p c ≡ true → test c ≡ true) candidate among all) (behind_other candidate among other there))

  record Ranked (among : List CandidateData) : Type 0 where
    rank : ℕ
    from : 1 ≤ rank
    to : rank ≤ 16
    there : list_any p (filter (has_rank rank) among) ≡ true

  own_rank : (candidate : CandidateData) → has_rank (priority_rank candidate.priority) candidate ≡ true
  own_rank candidate = grind (arith, nat_tests)

  ranked_by : (candidate : CandidateData) (among : List CandidateData) (named : Bool) → p candidate ≡ named → (named ≡ false → Ranked among) → Ranked (candidate ∷ among)
  ranked_by candidate among true is later = record {
    rank = priority_rank candidate.priority;
    from = priority_rank-least candidate.priority;
    to = priority_rank-most candidate.priority;
    there = rw (own_rank candidate, is) refl;
  }
  ranked_by candidate among false is later =
      let rest = later refl in
      record {
        rank = rest.rank;
        from = rest.from;
        to = rest.to;
        there = kept_by candidate (filter (has_rank rest.rank) among) false (has_rank rest.rank candidate) is (λ e. absurd (cc e)) (λ other. rest.there);
      }

  ranked : (among : List CandidateData) → list_any p among ≡ true → Ranked among
  ranked [] there = absurd (cc there)
  ranked (candidate ∷ among) there = ranked_by candidate among (p candidate) refl (λ other. ranked among (behind_other candidate among other there))

  among_by : (candidate : CandidateData) (rest among : List CandidateData) (passes named : Bool) → p candidate ≡ named → (list_any p rest ≡ true → list_any p among ≡ true)
      → list_any p (if passes then candidate ∷ rest else rest) ≡ true → list_any p (candidate ∷ among) ≡ true
  among_by candidate rest among passes true is later there = rw is refl
  among_by candidate rest among true false is later there = rw is (later (rw is at there))
  among_by candidate rest among false false is later there = rw is (later there)

  among : (test : CandidateData → Bool) (all : List CandidateData) → list_any p (filter test all) ≡ true → list_any p all ≡ true
  among test [] there = there
  among test (candidate ∷ all) there = among_by candidate (filter test all) all (test candidate) (p candidate) refl (among test all) there

  in_order : (all : List CandidateData) → list_any p all ≡ true → list_any p (in_priority_order all) ≡ true
  in_order all there =
      let at = ranked all there in
      among (has_rank at.rank) (in_priority_order all) (ap (list_any p) (in_priority_order-stable all at.rank at.from at.to) ∙ at.there)

-- an application found is among the candidates, where those of its name can be confirmed
pub named_candidates : (confirm : Bool) (name : List ℕ) (found : List CandidateData) → All (λ c. is_candidate_named name c ≡ true → is_allowed confirm c ≡ true) found
    → list_any (is_candidate_named name) found ≡ true → list_any (is_candidate_named name) (candidates confirm found) ≡ true
unfolding candidates
named_candidates confirm name found all there =
    in_order (is_candidate_named name) (confirmable confirm found)
    (stays (is_candidate_named name) (is_allowed confirm) (firsts found) (all_firsts (λ c. is_candidate_named name c ≡ true → is_allowed confirm c ≡ true) [] found all) (firsts-there found name ∙ there))
