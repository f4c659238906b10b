-- When a plan cuts one of the writes of a commit.
use Rattle.std.proofs.Common.{◌≡◌, ◌≢◌, ◌≤◌, ◌+◌, ℕ, refl, arith, Option, Some, None, Bool, true, false, ◌==◌, ◌&&◌, nat_le, IsTrue}
use Rattle.std.proofs.lemmas.Bool.Decides.{nat_tests}
use Rattle.std.specs.Prelude.{if◌then◌else◌}
use Rattle.emv_ports.specs.Cut.{is_plan, is_place, names_commit, is_within_writes, cut_at, write_cut, cuts_among, release_cut}
use Rattle.emv_ports.specs.declared.tear.Cut.{Cut}
use Rattle.emv_ports.specs.declared.tear.Cut.TheVariants.{Spared, CutBefore, CutWithin}
use Rattle.emv_ports.specs.declared.tear.Tear.{Tear}
use Rattle.emv_ports.specs.declared.tear.TearAt.{TearAt}
use Rattle.emv_ports.specs.declared.tear.TearAt.TheVariants.{Before, Within, Release}

none_among : (place : TearAt) → IsTrue (is_place place) → is_within_writes place 0 ≡ false
none_among (Before planned) is = grind (arith, nat_tests)
none_among (Within planned) is = grind (arith, nat_tests)
none_among Release is = refl

and_false : (p q : Bool) → q ≡ false → (p && q) ≡ false
and_false true q is = is
and_false false q is = refl

-- no write is cut before the first
pub cuts_none : (plan : Option Tear) (commit : ℕ) → IsTrue (is_plan plan) → cuts_among plan commit 0 ≡ false
cuts_none None commit is = refl
cuts_none (Some tear) commit is = and_false (tear.commit == commit) (is_within_writes tear.at 0) (none_among tear.at is)

not_before : (same : Bool) → (if same then CutBefore else Spared) ≡ Spared → same ≡ false
not_before true spared = cc
not_before false spared = refl

not_within : (same : Bool) → (if same then CutWithin else Spared) ≡ Spared → same ≡ false
not_within true spared = cc
not_within false spared = refl

above : (planned n : ℕ) → nat_le planned n ≡ false → (planned == n + 1) ≡ false → nat_le planned (n + 1) ≡ false
above planned n is differ = grind (arith, nat_tests)

one_more_among : (place : TearAt) (n : ℕ) → is_within_writes place n ≡ false → cut_at place (n + 1) ≡ Spared → is_within_writes place (n + 1) ≡ false
one_more_among (Before planned) n is spared = above planned n is (not_before (planned == n + 1) spared)
one_more_among (Within planned) n is spared = above planned n is (not_within (planned == n + 1) spared)
one_more_among Release n is spared = refl

more_of_commit : (named : Bool) (place : TearAt) (n : ℕ) → (named && is_within_writes place n) ≡ false
    → (if named then cut_at place (n + 1) else Spared) ≡ Spared → (named && is_within_writes place (n + 1)) ≡ false
more_of_commit true place n is spared = one_more_among place n is spared
more_of_commit false place n is spared = refl

-- the next write is spared too
pub cuts_more : (plan : Option Tear) (commit n : ℕ) → cuts_among plan commit n ≡ false → write_cut plan commit (n + 1) ≡ Spared
    → cuts_among plan commit (n + 1) ≡ false
cuts_more None commit n is spared = refl
cuts_more (Some tear) commit n is spared = more_of_commit (tear.commit == commit) tear.at n is spared

at_most : (planned number writes : ℕ) → (planned == number) ≡ true → number ≤ writes → nat_le planned writes ≡ true
at_most planned number writes is inside = grind (arith, nat_tests)

cuts_test : (same : Bool) (cut : Cut) → (if same then cut else Spared) ≢ Spared → same ≡ true
cuts_test true cut is = refl
cuts_test false cut is = absurd (is refl)

here_among : (place : TearAt) (number writes : ℕ) → number ≤ writes → cut_at place number ≢ Spared → is_within_writes place writes ≡ true
here_among (Before planned) number writes inside is = at_most planned number writes (cuts_test (planned == number) CutBefore is) inside
here_among (Within planned) number writes inside is = at_most planned number writes (cuts_test (planned == number) CutWithin is) inside
here_among Release number writes inside is = absurd (is refl)

here_of_commit : (named : Bool) (place : TearAt) (number writes : ℕ) → number ≤ writes → (if named then cut_at place number else Spared) ≢ Spared
    → (named && is_within_writes place writes) ≡ true
here_of_commit true place number writes inside is = here_among place number writes inside is
here_of_commit false place number writes inside is = absurd (is refl)

-- a write that is cut is one of the writes
pub cuts_here : (plan : Option Tear) (commit number writes : ℕ) → number ≤ writes → write_cut plan commit number ≢ Spared
    → cuts_among plan commit writes ≡ true
cuts_here None commit number writes inside is = absurd (is refl)
cuts_here (Some tear) commit number writes inside is = here_of_commit (tear.commit == commit) tear.at number writes inside is

pub before_cuts : (cut : Cut) → cut ≡ CutBefore → cut ≢ Spared
before_cuts cut is = λ spared. cc

pub within_cuts : (cut : Cut) → cut ≡ CutWithin → cut ≢ Spared
within_cuts cut is = λ spared. cc

among_named : (named : Bool) (place : TearAt) (writes : ℕ) → (named && is_within_writes place writes) ≡ true → named ≡ true
among_named true place writes is = refl
among_named false place writes is = is

-- a plan that cuts a write of the commit names it
pub cuts_named : (plan : Option Tear) (commit writes : ℕ) → cuts_among plan commit writes ≡ true → names_commit plan commit ≡ true
cuts_named None commit writes is = is
cuts_named (Some tear) commit writes is = among_named (tear.commit == commit) tear.at writes is

release_named : (named among : Bool) → (if named then (if among then Spared else CutBefore) else Spared) ≡ CutBefore → named ≡ true
release_named true among is = refl
release_named false among is = cc

-- a plan that cuts the release names the commit
pub release_cut_named : (plan : Option Tear) (commit writes : ℕ) → release_cut plan commit writes ≡ CutBefore → names_commit plan commit ≡ true
release_cut_named None commit writes is = cc
release_cut_named (Some tear) commit writes is = release_named (tear.commit == commit) (is_within_writes tear.at writes) is

release_spared : (named among : Bool) → (named && among) ≡ false
    → (if named then (if among then Spared else CutBefore) else Spared) ≡ Spared → named ≡ false
release_spared true true is spared = is
release_spared true false is spared = cc
release_spared false among is spared = refl

-- a plan that names the commit fires in it, at a write or at the release
pub spared_not_named : (plan : Option Tear) (commit writes : ℕ) → cuts_among plan commit writes ≡ false → release_cut plan commit writes ≡ Spared
    → names_commit plan commit ≡ false
spared_not_named None commit writes is spared = refl
spared_not_named (Some tear) commit writes is spared = release_spared (tear.commit == commit) (is_within_writes tear.at writes) is spared
