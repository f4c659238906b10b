-- What the numbers that a key lists have in common.
use Rattle.std.proofs.Common.{◌≡◌, ℕ, ◌<◌, ◌≤◌, ◌==◌, nat_lt, nat_le, Bool, true, false, ◌||◌, ◌&&◌, List, [], ◌∷◌, refl, subst, arith}
use Rattle.std.specs.Prelude.{IsTrue}
use Rattle.std.specs.List.{list_all, list_any}
use Rattle.std.proofs.lemmas.Bool.{and_parts, eqb-true}
use Rattle.std.proofs.lemmas.Bool.Decides.{nat_tests}
use Rattle.issuer_host.specs.Account.{is_status}
use Rattle.scenario_fields.specs.Value.{is_listed}
use Rattle.scenario.specs.Accounts.{status_sums}

-- one of two passes a test: the first number, or what is found behind it
one_keeps : (test : ℕ → Bool) (n m : ℕ) (behind found : Bool) → (m == n) ≡ found → test m ≡ true → (behind ≡ true → test n ≡ true) → (found || behind) ≡ true
    → test n ≡ true
one_keeps test n m behind true same first later either = subst (λ (k : ℕ). test k ≡ true) (eqb-true m n same) first
one_keeps test n m behind false other first later either = later either

-- each listed number passes a test, and so does one of them
listed_keeps : (test : ℕ → Bool) (n : ℕ) (numbers : List ℕ) → list_all test numbers ≡ true → list_any (λ m. m == n) numbers ≡ true → test n ≡ true
listed_keeps test n [] all listed = cc
listed_keeps test n (m ∷ ms) all listed =
    let parts = and_parts (test m) (list_all test ms) all in
    one_keeps test n m (list_any (λ k. k == n) ms) (m == n) refl parts.0 (λ behind. listed_keeps test n ms parts.1 behind) listed

pub status_rule : (n : ℕ) → IsTrue (is_listed n status_sums) → IsTrue (is_status n)
unfolding is_listed
status_rule n listed = listed_keeps is_status n status_sums refl listed

pub status_small : (n : ℕ) → IsTrue (is_listed n status_sums) → n < 128
unfolding is_listed
status_small n listed =
    let small : nat_lt n 128 ≡ true = listed_keeps (λ m. nat_lt m 128) n status_sums refl listed in
    grind (arith, nat_tests)

pub known_version : (n : ℕ) → IsTrue (is_listed n (1 ∷ 2 ∷ [])) → (1 ≤ n) × (n ≤ 2)
unfolding is_listed
known_version n listed =
    let within : (nat_le 1 n && nat_le n 2) ≡ true = listed_keeps (λ m. nat_le 1 m && nat_le m 2) n (1 ∷ 2 ∷ []) refl listed in
    let limits = and_parts (nat_le 1 n) (nat_le n 2) within in
    let least : 1 ≤ n = grind (arith, nat_tests) in
    let most : n ≤ 2 = grind (arith, nat_tests) in
    (least, most)
