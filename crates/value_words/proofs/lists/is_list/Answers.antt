use Rattle.std.proofs.Common.{◌≡◌, ◌==◌, List, ℕ, length, sym, ap, ◌∙◌, arith}
use Rattle.std.proofs.lemmas.Bool.Decides.{nat_tests}
use Rattle.value_words.specs.Fields.{is_whole_list}
use Rattle.value_words.proofs.Entries.{entries-some, entries-none}
use Rattle.value_words.proofs.lists.is_list.Goals as goal

pub loop-rest-preserved : goal.loop-rest-preserved
loop-rest-preserved c =
    sym (ap (λ (m : List (ℕ × ℕ) × List ℕ). length m.1 == 0) (entries-some c.loop-rest.left.now _ (sym c.in-Some.ensures.exact))) ∙ c.loop-rest.invariant

pub returns-then-is_empty : goal.returns-then-is_empty
returns-then-is_empty c =
    let end : is_whole_list c.loop-rest.left.now ≡ (length c.loop-rest.left.now == 0) =
    ap (λ (m : List (ℕ × ℕ) × List ℕ). length m.1 == 0) (entries-none c.loop-rest.left.now (sym c.in_default.ensures.exact)) in
    grind (arith, nat_tests)

pub returns-else-is_empty : goal.returns-else-is_empty
returns-else-is_empty c =
    let end : is_whole_list c.loop-rest.left.now ≡ (length c.loop-rest.left.now == 0) =
    ap (λ (m : List (ℕ × ℕ) × List ℕ). length m.1 == 0) (entries-none c.loop-rest.left.now (sym c.in_default.ensures.exact)) in
    grind (arith, nat_tests)
