-- The results of scripts, one behind the other.
use Rattle.std.proofs.Common.{◌≡◌, ℕ, zero, suc, ◌<◌, ◌≤◌, true, false, cond, nat_le, List, [], ◌++◌, length, take, drop, refl, sym, ap, subst, arith}
use Rattle.std.proofs.lemmas.Bool.Decides.{nat_tests}
use Rattle.std.proofs.lemmas.List.{length-drop}
use Rattle.report_lines.specs.Lines.{WordsData}
use Rattle.report_lines.specs.Pieces.{Tells}
use Rattle.report_lines.proofs.Telling.{Left, left_start, left_more, left_as, left_end}
use Rattle.ending_words.specs.Endings.{scripts_within, scripts_words, script_told, hex_number}

-- of the results the rest is still to be told
pub record ScriptsLeft (first now : WordsData) (whole text : List ℕ) : Type 0 where
  pub most : ℕ
  pub enough : length text ≤ most
  pub left : Left first now (scripts_words whole) (scripts_within most text)

pub scripts_start : (words : WordsData) (text : List ℕ) → ScriptsLeft words words text text
scripts_start words text = record { most = length text; enough = omega arith; left = left_start words (scripts_words text) }

one_more : (most : ℕ) (text : List ℕ) → 10 ≤ length text
    → scripts_within (suc most) text ≡ script_told (hex_number (take 10 text)) ++ scripts_within most (drop 10 text)
unfolding scripts_within
one_more most text ten =
    let is : nat_le 10 (length text) ≡ true = grind (arith, nat_tests) in
    ap (λ b. cond b (script_told (hex_number (take 10 text)) ++ scripts_within most (drop 10 text)) []) is

no_more : (most : ℕ) (text : List ℕ) → length text < 10 → scripts_within most text ≡ []
unfolding scripts_within
no_more zero text few = refl
no_more (suc most) text few =
    let is : nat_le 10 (length text) ≡ false = grind (arith, nat_tests) in
    ap (λ b. cond b (script_told (hex_number (take 10 text)) ++ scripts_within most (drop 10 text)) []) is

more_at : (most : ℕ) (first now next : WordsData) (whole text : List ℕ) → 10 ≤ length text → length text ≤ most
    → Left first now (scripts_words whole) (scripts_within most text) → Tells now next (script_told (hex_number (take 10 text)))
    → ScriptsLeft first next whole (drop 10 text)
more_at zero first now next whole text ten enough left tells = absurd (omega arith)
more_at (suc most) first now next whole text ten enough left tells = record {
  most = most;
  enough = omega (arith, length-drop 10 text);
  left = left_more first now next (scripts_words whole) (script_told (hex_number (take 10 text))) (scripts_within most (drop 10 text))
      (left_as first now (scripts_words whole) (scripts_within (suc most) text) (script_told (hex_number (take 10 text)) ++ scripts_within most (drop 10 text)) (one_more most text ten) left) tells;
}

pub scripts_more : (first now next : WordsData) (whole text rest : List ℕ) → 10 ≤ length text → rest ≡ drop 10 text → ScriptsLeft first now whole text
    → Tells now next (script_told (hex_number (take 10 text))) → ScriptsLeft first next whole rest
scripts_more first now next whole text rest ten is s tells =
    subst (λ (t : List ℕ). ScriptsLeft first next whole t) (sym is) (more_at s.most first now next whole text ten s.enough s.left tells)

pub scripts_end : (first now : WordsData) (whole text : List ℕ) → length text < 10 → ScriptsLeft first now whole text → Tells first now (scripts_words whole)
scripts_end first now whole text few s =
    left_end first now (scripts_words whole) (left_as first now (scripts_words whole) (scripts_within s.most text) [] (no_more s.most text few) s.left)
