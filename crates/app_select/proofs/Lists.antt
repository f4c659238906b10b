-- The numbered answers of the list.
use Rattle.std.proofs.Common.{◌≡◌, ℕ, ◌+◌, ◌<◌, ◌&&◌, Bool, true, false, List, [], ◌∷◌, suc, length, nat_lt, refl, arith, if◌then◌else◌}
use Rattle.std.specs.List.{AllByRecursion}
use Rattle.std.proofs.lemmas.Bool.Decides.{nat_tests}
use Rattle.app_select.specs.Listed.{AnswerData, ListedData, has_next_occurrence, listed, most_occurrences}
use Rattle.app_select.specs.Said.{SaidData, Unreadable, Blocked, Named, Nothing, select_said, is_longer}
use Rattle.emv_dict.specs.declared.purchase.AidRow.{AidRow}

and_right : (a b : Bool) → (a && b) ≡ true → b ≡ true
and_right true b is = is
and_right false b is = cc

has_next_occurrence-few : (row : AidRow) (turn : ℕ) (said : SaidData) → has_next_occurrence row turn said ≡ true → turn + 1 < 16
has_next_occurrence-few row turn Unreadable goes = cc
has_next_occurrence-few row turn Blocked goes = cc
has_next_occurrence-few row turn (Named is_valid fci) goes =
    let below = and_right (is_longer row.name fci.name) (nat_lt (turn + 1) most_occurrences) goes in
    grind (arith, nat_tests, below)
has_next_occurrence-few row turn Nothing goes = cc

-- each answer's occurrence is one of sixteen
abbrev pub FewTurns : List AnswerData → Type 0
FewTurns answers = AllByRecursion (λ answer. answer.turn < 16) answers

either_few : (again : Bool) (first later : ListedData) → (again ≡ true → FewTurns first.answers) → FewTurns later.answers → FewTurns (if again then first else later).answers
either_few true first later p q = p refl
either_few false first later p q = q

listed-few : (rows : List AidRow) (turn : ℕ) (answers : List (List ℕ)) → turn < 16 → FewTurns (listed rows turn answers).answers
listed-few [] turn answers few = tt
listed-few (row ∷ rows) turn [] few = tt
listed-few (row ∷ rows) turn (answer ∷ later) few =
    let first : 0 < 16 = omega arith in (
      few,
      either_few (has_next_occurrence row turn (select_said answer)) (listed (row ∷ rows) (turn + 1) later) (listed rows 0 later)
          (λ goes. listed-few (row ∷ rows) (turn + 1) later (has_next_occurrence-few row turn (select_said answer) goes))
          (listed-few rows 0 later first),
    )

pub listed-occurrences : (rows : List AidRow) (answers : List (List ℕ)) → FewTurns (listed rows 0 answers).answers
listed-occurrences rows answers =
    let first : 0 < 16 = omega arith in
    listed-few rows 0 answers first

-- as many answers as were given
IsWhole : ListedData → ℕ → Type 0
IsWhole list count = length list.answers + length list.rest ≡ count

either_whole : (again : Bool) (first later : ListedData) (count : ℕ) → IsWhole first count → IsWhole later count → IsWhole (if again then first else later) count
either_whole true first later count p q = p
either_whole false first later count p q = q

one_whole : (list : ListedData) (count : ℕ) → IsWhole list count → suc (length list.answers) + length list.rest ≡ suc count
unfolding IsWhole
one_whole list count whole = omega (arith, whole)

listed-whole : (rows : List AidRow) (turn : ℕ) (answers : List (List ℕ)) → IsWhole (listed rows turn answers) (length answers)
unfolding IsWhole
listed-whole [] turn answers = omega arith
listed-whole (row ∷ rows) turn [] = omega arith
listed-whole (row ∷ rows) turn (answer ∷ later) =
    let again = has_next_occurrence row turn (select_said answer) in
    one_whole (if again then listed (row ∷ rows) (turn + 1) later else listed rows 0 later) (length later)
    (either_whole again (listed (row ∷ rows) (turn + 1) later) (listed rows 0 later) (length later) (listed-whole (row ∷ rows) (turn + 1) later) (listed-whole rows 0 later))

pub listed-all : (rows : List AidRow) (answers : List (List ℕ)) → length (listed rows 0 answers).answers + length (listed rows 0 answers).rest ≡ length answers
unfolding IsWhole
listed-all rows answers = listed-whole rows 0 answers
