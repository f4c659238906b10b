-- Which application of a card a name finds.
use Rattle.std.proofs.Common.{◌≡◌, ℕ, zero, suc, ◌+◌, ◌-◌, ◌<◌, ◌≤◌, ◌&&◌, ◌||◌, nat_lt, nat_eq, Bool, true, false, IsTrue, List, [], ◌∷◌, ◌++◌, length, drop, Option, Some, None, slice_get, refl, sym, ap, ◌∙◌, subst, arith, inl, inr, append-nil, length-append, if◌then◌else◌}
use Rattle.std.specs.List.{starts_with}
use Rattle.std.specs.Str.{bytes_eq}
use Rattle.std.proofs.lemmas.Bool.{cases_lt}
use Rattle.std.proofs.lemmas.Bool.Decides.{nat_tests, Decides-eqb}
use Rattle.std.proofs.lemmas.List.Prefix.{front_fits}
use Rattle.std.proofs.lemmas.Slice.Eq.{starts_is, bytes_eq-Decides}
use Rattle.app_select.specs.Said.{is_longer, is_supported}
use Rattle.ber_tlv.proofs.ReadAgain.{both}
use Rattle.card_app.specs.Selection.{first_named}
use Rattle.card_files.specs.Views.{AppData}

-- the name begins with these bytes
abbrev pub begins : List ℕ → List ℕ → Bool
begins name front = starts_with nat_eq name front

begins_so : (name front : List ℕ) → begins name front ≡ true → name ≡ front ++ drop (length front) name
begins_so name front is = (starts_is Decides-eqb name front (begins name front) refl).0 is

pub begins_itself : (name : List ℕ) → begins name name ≡ true
begins_itself name = (starts_is Decides-eqb name name (begins name name) refl).1 [] (sym (append-nil name))

pub begins_shorter : (name front : List ℕ) → begins name front ≡ true → length front ≤ length name
begins_shorter name front is = front_fits name front (drop (length front) name) (begins_so name front is)

none_left : (rest : List ℕ) → length rest ≤ 0 → rest ≡ []
none_left [] few = refl
none_left (x ∷ rest) few = absurd (omega arith)

-- a name that begins with another and isn't longer is that one
pub begins_whole : (name front : List ℕ) → begins name front ≡ true → is_longer front name ≡ false → name ≡ front
begins_whole name front is short =
    let so = begins_so name front is in
    let test : nat_lt (length front) (length name) ≡ false = by_test (nat_lt (length front) (length name)) (rw is at short) in
    let few : length name ≤ length front = grind (arith, nat_tests, test) in
    let size : length name ≡ length front + length (drop (length front) name) = ap length so ∙ length-append front (drop (length front) name) in
    so ∙ ap (λ (rest : List ℕ). front ++ rest) (none_left (drop (length front) name) (omega arith)) ∙ append-nil front
  where
    by_test : (longer : Bool) → (longer && true) ≡ false → longer ≡ false
    by_test true is = is
    by_test false is = refl

-- a name that the terminal's row supports begins with the row's
pub supported_begins : (front : List ℕ) (partial : Bool) (name : List ℕ) → IsTrue (is_supported front partial name) → begins name front ≡ true
supported_begins front partial name is = by_same (bytes_eq name front) refl is
  where
    by_longer : (some : Bool) → (some && is_longer front name) ≡ true → begins name front ≡ true
    by_longer true longer = (both (nat_lt (length front) (length name)) (begins name front) longer).1
    by_longer false longer = absurd (cc longer)

    by_same : (same : Bool) → bytes_eq name front ≡ same → (same || (partial && is_longer front name)) ≡ true → begins name front ≡ true
    by_same true equal known = subst (λ (other : List ℕ). begins name other ≡ true) ((bytes_eq-Decides name front).0 equal) (begins_itself name)
    by_same false equal known = by_longer partial known

-- what a name finds among the applications from a place on
pub data Sought (image : List AppData) (name : List ℕ) (from : ℕ) : Option ℕ → Type 0 where
  absent : ((k : ℕ) (b : AppData) → from ≤ k → slice_get image k ≡ Some b → begins b.name name ≡ false) → Sought image name from None
  there : (app : ℕ) (a : AppData) → from ≤ app → slice_get image app ≡ Some a → begins a.name name ≡ true
      → ((k : ℕ) (b : AppData) → from ≤ k → k < app → slice_get image k ≡ Some b → begins b.name name ≡ false) → Sought image name from (Some app)

get_behind : (from : ℕ) (image : List AppData) (k : ℕ) → slice_get image (from + k) ≡ slice_get (drop from image) k
get_behind zero image k = let same : 0 + k ≡ k = omega arith in ap (slice_get image) same
get_behind (suc from) [] k = refl
get_behind (suc from) (a ∷ image) k =
    let same : suc from + k ≡ suc (from + k) = omega arith in
    ap (slice_get (a ∷ image)) same ∙ get_behind from image k

module _ (image : List AppData) (name : List ℕ) (from : ℕ) where
  -- none of those before this place
  abbrev NoneBefore : ℕ → Type 0
  NoneBefore number = (k : ℕ) (b : AppData) → from ≤ k → k < number → slice_get image k ≡ Some b → begins b.name name ≡ false

  -- these are the applications from this place on
  abbrev StandFrom : ℕ → List AppData → Type 0
  StandFrom number apps = (k : ℕ) → slice_get image (number + k) ≡ slice_get apps k

  first_at : (number : ℕ) (a : AppData) (apps : List AppData) → StandFrom number (a ∷ apps) → slice_get image number ≡ Some a
  first_at number a apps stand = let same : number ≡ number + 0 = omega arith in ap (slice_get image) same ∙ stand 0

  next_at : (number : ℕ) (a : AppData) (apps : List AppData) → StandFrom number (a ∷ apps) → StandFrom (number + 1) apps
  next_at number a apps stand k = let same : number + 1 + k ≡ number + suc k = omega arith in ap (slice_get image) same ∙ stand (suc k)

  one_more : (number : ℕ) (a : AppData) → slice_get image number ≡ Some a → begins a.name name ≡ false → NoneBefore number → NoneBefore (number + 1)
  one_more number a is other before k b up below at =
      elim (cases_lt k number) [
        | inl less ↦ before k b up less at
        | inr more ↦
            let same : k ≡ number = omega arith in
            let one : Some a ≡ Some b = sym is ∙ ap (slice_get image) (sym same) ∙ at in
            let named : a ≡ b = cc in
            subst (λ (x : AppData). begins x.name name ≡ false) named other
      ]

  seek_by : (number : ℕ) (a : AppData) (apps : List AppData) (test : Bool) → begins a.name name ≡ test → from ≤ number → slice_get image number ≡ Some a → NoneBefore number
      → (begins a.name name ≡ false → Sought image name from (first_named (number + 1) name apps)) → Sought image name from (if test then Some number else first_named (number + 1) name apps)
  seek_by number a apps true is up at before later = there number a up at is before
  seek_by number a apps false is up at before later = later is

  seek : (number : ℕ) (apps : List AppData) → from ≤ number → StandFrom number apps → NoneBefore number → Sought image name from (first_named number name apps)
  unfolding first_named
  seek number [] up stand before =
      absent (λ k b from_on at. elim (cases_lt k number) [
        | inl less ↦ before k b from_on less at
        | inr more ↦
            let same : k ≡ number + (k - number) = omega arith in
            absurd (cc (sym (stand (k - number)) ∙ ap (slice_get image) (sym same) ∙ at))
      ])
  seek number (a ∷ apps) up stand before =
      let at = first_at number a apps stand in
      seek_by number a apps (begins a.name name) refl up at before
      (λ other. seek (number + 1) apps (omega arith) (next_at number a apps stand) (one_more number a at other before))

  pub sought : Sought image name from (first_named from name (drop from image))
  sought = seek from (drop from image) (omega arith) (get_behind from image) (λ k b up below at. absurd (omega arith))
