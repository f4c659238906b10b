-- The keys of a table ascend, so the first that is none of some known ones is the least.
use Rattle.std.proofs.Common.{◌≡◌, ℕ, List, [], ◌∷◌, Bool, true, false, not, ◌||◌, map, Option, Some, None, refl, ap, ◌∙◌, string_bytes, Bor, String, Less, nat_cmp}
use Rattle.std.specs.Prelude.{option_copied, if◌then◌else◌}
use Rattle.std.specs.Option.{option_map}
use Rattle.std.specs.List.{list_any, find, AllByRecursion}
use Rattle.std.specs.List.Sorted.{IsStrictlySortedBy}
use Rattle.std.specs.Str.{bytes_eq}
use Rattle.std.specs.String.{string_cmp}
use Rattle.std.specs.Map.{keys_of}
use Rattle.std.specs.Ordering.{is_lt, ordering_reverse}
use Rattle.std.specs.Cmp.Lexicographic.{slice_cmp}
use Rattle.std.specs.declared.alloc.Global.{Global}
use Rattle.std.proofs.lemmas.Cmp.{nat_list_cmp_total}
use Rattle.toml.specs.View.{members_view}
use Rattle.toml.specs.declared.value.Value.{Value}
use Rattle.scenario_fields.specs.Fields.{lesser, least_other}

any_known : (key : List ℕ) (known : List (Bor (List ℕ))) → list_any (λ s. bytes_eq key s.now) known ≡ list_any (bytes_eq key) (map (λ s. s.now) known)
any_known key [] = refl
any_known key (s ∷ known) = ap (λ (b : Bool). bytes_eq key s.now || b) (any_known key known)

copied_bytes : (found : Option (Bor (String Global))) → option_map (λ k. string_bytes k.now) found ≡ option_map string_bytes (option_copied found)
copied_bytes None = refl
copied_bytes (Some k) = refl

-- a key that comes before another doesn't come behind it
after_is_not_before : (k l : List ℕ) → slice_cmp nat_cmp k l ≡ Less → is_lt (slice_cmp nat_cmp l k) ≡ false
after_is_not_before k l less = ap is_lt (nat_list_cmp_total.antisymm l k ∙ ap ordering_reverse less)

-- no key that was found comes before this one
abbrev NotBefore : List ℕ → Option (List ℕ) → Type 0
NotBefore k None = Unit {0}
NotBefore k (Some l) = is_lt (slice_cmp nat_cmp l k) ≡ false

lesser_not_before : (k e : List ℕ) (other : Option (List ℕ)) → NotBefore k other → is_lt (slice_cmp nat_cmp e k) ≡ false → is_lt (slice_cmp nat_cmp (lesser e other) k) ≡ false
lesser_not_before k e None none later = later
lesser_not_before k e (Some l) none later = go (is_lt (slice_cmp nat_cmp l e))
  where
    go : (b : Bool) → is_lt (slice_cmp nat_cmp (if b then l else e) k) ≡ false
    go true = none
    go false = later

picked : (k e : List ℕ) (is_known : Bool) (other : Option (List ℕ)) → NotBefore k other → is_lt (slice_cmp nat_cmp e k) ≡ false →
    NotBefore k (if is_known then other else Some (lesser e other))
picked k e true other none later = none
picked k e false other none later = lesser_not_before k e other none later

-- where all keys come behind this one, so does the least
none_before : (known : List (List ℕ)) (k : String Global) (es : List (String Global × Value)) → AllByRecursion (λ l. string_cmp k l ≡ Less) (keys_of es) →
    NotBefore (string_bytes k) (least_other known (members_view es))
none_before known k [] all = tt
none_before known k (e ∷ es) all =
    picked (string_bytes k) (string_bytes e.0) (list_any (bytes_eq (string_bytes e.0)) known) (least_other known (members_view es))
    (none_before known k es all.1) (after_is_not_before (string_bytes k) (string_bytes e.0) all.0)

lesser_first : (k : List ℕ) (other : Option (List ℕ)) → NotBefore k other → lesser k other ≡ k
lesser_first k None none = refl
lesser_first k (Some l) none = rw none

chosen : (is_known : Bool) (key : String Global) (rest : Option (String Global)) (other : Option (List ℕ)) → option_map string_bytes rest ≡ other → lesser (string_bytes key) other ≡ string_bytes key →
    option_map string_bytes (if not is_known then Some key else rest) ≡ (if is_known then other else Some (lesser (string_bytes key) other))
chosen true key rest other is first = is
chosen false key rest other is first = rw first

found_key : (known : List (Bor (List ℕ))) (es : List (String Global × Value)) → IsStrictlySortedBy string_cmp (keys_of es) →
    option_map string_bytes (find (λ k. not (list_any (λ s. bytes_eq (string_bytes k) s.now) known)) (keys_of es)) ≡ least_other (map (λ s. s.now) known) (members_view es)
unfolding IsStrictlySortedBy
found_key known [] sorted = refl
found_key known (e ∷ es) sorted =
    rw (any_known (string_bytes e.0) known)
    (chosen (list_any (bytes_eq (string_bytes e.0)) (map (λ s. s.now) known)) e.0 _ _ (found_key known es sorted.1)
    (lesser_first (string_bytes e.0) _ (none_before (map (λ s. s.now) known) e.0 es sorted.0)))

pub least_other_view : (found : Option (Bor (String Global))) (known : List (Bor (List ℕ))) (es : List (String Global × Value)) → IsStrictlySortedBy string_cmp (keys_of es) →
    option_copied found ≡ find (λ k. not (list_any (λ s. bytes_eq (string_bytes k) s.now) known)) (keys_of es) →
    option_map (λ k. string_bytes k.now) found ≡ least_other (map (λ s. s.now) known) (members_view es)
least_other_view found known es sorted is = copied_bytes found ∙ (ap (option_map string_bytes) is ∙ found_key known es sorted)
