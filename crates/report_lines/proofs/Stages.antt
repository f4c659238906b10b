-- How far a line has come behind more bytes.
use Rattle.std.proofs.Common.{◌≡◌, ℕ, ◌≤◌, false, List, [], ◌∷◌, ◌++◌, cond, eqb, refl, ap, ◌∙◌, arith}
use Rattle.std.specs.List.{fold}
use Rattle.std.proofs.lemmas.List.Sums.{fold-append}
use Rattle.std.proofs.lemmas.Bool.Decides.{nat_tests}
use Rattle.report_lines.specs.Lines.{stage_of, next_stage, line_opened, line_closed, AreWordLines}

pub stage_of-append : (xs ys : List ℕ) → stage_of (xs ++ ys) ≡ fold next_stage (stage_of xs) ys
unfolding stage_of
stage_of-append xs ys = fold-append next_stage 0 xs ys

-- a newline ends an open line
pub stage_ended : (xs : List ℕ) → stage_of xs ≡ 2 → stage_of (xs ++ 10 ∷ []) ≡ 0
unfolding next_stage
stage_ended xs begun = stage_of-append xs (10 ∷ []) ∙ ap (λ s. next_stage s 10) begun

-- two blanks begin one
pub stage_begun : (xs : List ℕ) → stage_of xs ≡ 0 → stage_of (xs ++ 32 ∷ 32 ∷ []) ≡ 2
unfolding next_stage
stage_begun xs none = stage_of-append xs (32 ∷ 32 ∷ []) ∙ ap (λ s. next_stage (next_stage s 32) 32) none

-- a printable character leaves it open
pub stage_pushed : (xs : List ℕ) (b : ℕ) → stage_of xs ≡ 2 → 32 ≤ b → stage_of (xs ++ b ∷ []) ≡ 2
unfolding next_stage
stage_pushed xs b begun printable =
    let other : eqb b 10 ≡ false = grind (arith, nat_tests) in
    stage_of-append xs (b ∷ []) ∙ ap (λ s. next_stage s b) begun ∙ ap (λ t. cond t 0 2) other

-- what is open stays, what is not is begun
pub line_opened-open : (xs : List ℕ) → stage_of xs ≡ 2 → line_opened xs ≡ xs
unfolding line_opened
line_opened-open xs begun = ap (λ s. cond (eqb s 2) xs (xs ++ 32 ∷ 32 ∷ [])) begun

pub line_opened-none : (xs : List ℕ) → stage_of xs ≡ 0 → line_opened xs ≡ xs ++ 32 ∷ 32 ∷ []
unfolding line_opened
line_opened-none xs none = ap (λ s. cond (eqb s 2) xs (xs ++ 32 ∷ 32 ∷ [])) none

pub line_closed-open : (xs : List ℕ) → stage_of xs ≡ 2 → line_closed xs ≡ xs ++ 10 ∷ []
unfolding line_closed
line_closed-open xs begun = ap (λ s. cond (eqb s 2) (xs ++ 10 ∷ []) xs) begun

pub line_closed-none : (xs : List ℕ) → stage_of xs ≡ 0 → line_closed xs ≡ xs
unfolding line_closed
line_closed-none xs none = ap (λ s. cond (eqb s 2) (xs ++ 10 ∷ []) xs) none

-- no line is open where nothing stands
pub stage_of-nothing : stage_of [] ≡ 0
unfolding stage_of
stage_of-nothing = refl

pub ruleset stages = (stage_ended, stage_begun, stage_pushed, line_opened-open, line_opened-none, line_closed-open, line_closed-none, stage_of-nothing)

-- no lines are lines of words
pub no_words : AreWordLines []
unfolding AreWordLines
no_words = stage_of-nothing
