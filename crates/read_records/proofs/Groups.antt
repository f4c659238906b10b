-- The groups of a locator, one by one.
use Rattle.std.proofs.Common.{◌≡◌, ℕ, zero, suc, ◌*◌, ◌/◌, ◌∙◌, ◌+◌, ◌-◌, ◌<◌, ◌≤◌, List, [], ◌∷◌, ◌++◌, length, refl, ap, arith}
use Rattle.std.proofs.lemmas.Grind.{flat_map-append}
use Rattle.std.proofs.lemmas.List.{length-append, append-nil}
use Rattle.read_records.specs.Afl.{RecordPlace, groups_in, places_from, places_in, places_of}
use Rattle.read_records.specs.declared.afl.Group.{Group}

pub none_left : (rest : List ℕ) → length rest < 4 → groups_in rest ≡ []
none_left [] few = refl
none_left (a ∷ []) few = refl
none_left (a ∷ b ∷ []) few = refl
none_left (a ∷ b ∷ c ∷ []) few = refl
none_left (a ∷ b ∷ c ∷ d ∷ rest) few = absurd (omega arith)

-- the records of a group behind its first one
pub next_place : (sfi first last : ℕ) (later : List Group) → first < last →
    places_from sfi (first + 1) (last - first) ++ places_of later
    ≡ record { sfi = sfi; number = first + 1 } ∷ (places_from sfi (first + 1 + 1) (last - (first + 1)) ++ places_of later)
next_place sfi first last later below =
    let more : last - first ≡ suc (last - (first + 1)) = omega arith in
    ap (λ (count : ℕ). places_from sfi (first + 1) count ++ places_of later) more

-- no record is left of a group nor behind it
pub last_place : (sfi first last : ℕ) (later : List Group) → last ≤ first → length later ≡ 0 → places_from sfi (first + 1) (last - first) ++ places_of later ≡ []
last_place sfi first last [] over none =
    let no_more : last - first ≡ 0 = omega arith in
    ap (λ (count : ℕ). places_from sfi (first + 1) count ++ places_of []) no_more
last_place sfi first last (group ∷ later) over none = absurd (omega arith)

places_count : (sfi first count : ℕ) → length (places_from sfi first count) ≡ count
places_count sfi first zero = refl
places_count sfi first (suc count) = ap suc (places_count sfi (first + 1) count)

-- one group more names at most 256 records more
pub places_more : (groups : List Group) (group : Group) → group.last < 256 → length (places_of groups) ≤ 256 * length groups → length (places_of (groups ++ group ∷ [])) ≤ 256 * length (groups ++ group ∷ [])
places_more groups group small few =
    let count : length (places_in group) ≡ suc (group.last - group.first) = places_count (group.file / 8) group.first (suc (group.last - group.first)) in
    let front : length (places_of (groups ++ group ∷ [])) ≡ length (places_of groups) + length (places_in group) =
    ap (λ (places : List RecordPlace). length places) (flat_map-append places_in groups (group ∷ []))
    ∙ length-append (places_of groups) (places_in group ++ [])
    ∙ ap (λ (n : ℕ). length (places_of groups) + n) (ap (λ (places : List RecordPlace). length places) (append-nil (places_in group))) in
    let longer : length (groups ++ group ∷ []) ≡ length groups + 1 = length-append groups (group ∷ []) in
    omega arith
