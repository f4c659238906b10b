-- The first two applications whose names clash.
use Rattle.std.proofs.Common.{◌≡◌, ℕ, zero, suc, ◌+◌, ◌<◌, ◌⊎◌, inl, inr, Bool, true, false, if◌then◌else◌, nat_eq, List, [], ◌∷◌, slice_get, Option, Some, None, refl, ap, sym, ◌∙◌, arith}
use Rattle.std.proofs.lemmas.Bool.{or_parts, or_from, cases_order}
use Rattle.std.specs.List.{starts_with}
use Rattle.std.specs.Option.{option_or}
use Rattle.card_files.specs.Views.{AppData}
use Rattle.card_check.specs.Judged.{clashes, clash_with, name_clash}
use Rattle.card_check.specs.Reasons.{IsEarlier, IsFirstClash}
use Rattle.dialogue_laws.specs.WellFormed.{HaveApartNames}
use Rattle.card_check.specs.declared.fault.CardFault.{CardFault}
use Rattle.card_check.specs.declared.fault.CardFault.TheVariants.{Clash}

-- none of these clashes with the application, as far as this place
abbrev PassesTo : AppData → List AppData → ℕ → Type 0
PassesTo a others place = (k : ℕ) (c : AppData) → slice_get others k ≡ Some c → k < place → clashes a c ≡ false

-- none of these does
abbrev Passes : AppData → List AppData → Type 0
Passes a others = (k : ℕ) (c : AppData) → slice_get others k ≡ Some c → clashes a c ≡ false

-- what a clash behind an application is
record ClashBehind (first : ℕ) (a : AppData) (second : ℕ) (others : List AppData) (fault : CardFault) : Type 0 where
  place : ℕ
  other : AppData
  fault_is : fault ≡ Clash first (second + place)
  is : slice_get others place ≡ Some other
  clash : clashes a other ≡ true
  before : PassesTo a others place

passes_more : (a b : AppData) (others : List AppData) (place : ℕ) → clashes a b ≡ false → PassesTo a others place → PassesTo a (b ∷ others) (suc place)
passes_more a b others place here later zero c is below = let same : b ≡ c = cc in ap (λ (x : AppData). clashes a x) (sym same) ∙ here
passes_more a b others place here later (suc k) c is below = later k c is (omega arith)

passes_on : (a b : AppData) (others : List AppData) → clashes a b ≡ false → Passes a others → Passes a (b ∷ others)
passes_on a b others here later zero c is = let same : b ≡ c = cc in ap (λ (x : AppData). clashes a x) (sym same) ∙ here
passes_on a b others here later (suc k) c is = later k c is

passes_none : (a : AppData) (place : ℕ) (others : List AppData) → place ≡ 0 → PassesTo a others place
passes_none a place others none k c is below = absurd (omega arith)

-- no clash with the application is found, or the first one is
with_none : (first : ℕ) (a : AppData) (second : ℕ) (others : List AppData) → clash_with first a second others ≡ None → Passes a others
with_none first a second [] none = λ k c is. absurd (cc)
with_none first a second (b ∷ others) none = by (with_none first a (second + 1) others) (clashes a b) refl none
  where
    by : (clash_with first a (second + 1) others ≡ None → Passes a others) → (test : Bool) → clashes a b ≡ test
        → (if test then Some (Clash first second) else clash_with first a (second + 1) others) ≡ None → Passes a (b ∷ others)
    by later true is found = absurd (cc)
    by later false is found = passes_on a b others is (later found)

with_some : (first : ℕ) (a : AppData) (second : ℕ) (others : List AppData) (fault : CardFault) → clash_with first a second others ≡ Some fault → ClashBehind first a second others fault
with_some first a second [] fault some = absurd (cc)
with_some first a second (b ∷ others) fault some = by (with_some first a (second + 1) others fault) (clashes a b) refl some
  where
    by : (clash_with first a (second + 1) others ≡ Some fault → ClashBehind first a (second + 1) others fault) → (test : Bool) → clashes a b ≡ test
        → (if test then Some (Clash first second) else clash_with first a (second + 1) others) ≡ Some fault
        → ClashBehind first a second (b ∷ others) fault
    by behind true is found =
        let number : second + 0 ≡ second = omega arith in
        record { place = 0; other = b; fault_is = cc; is = refl; clash = is; before = passes_none a 0 (b ∷ others) refl }
    by behind false is found =
        let later = behind found in
        let number : (second + 1) + later.place ≡ second + suc later.place = omega arith in
        record {
          place = suc later.place;
          other = later.other;
          fault_is = later.fault_is ∙ ap (λ (n : ℕ). Clash first n) number;
          is = later.is;
          clash = later.clash;
          before = passes_more a b others later.place is later.before;
        }

-- no two names clash
abbrev pub AreClear : List AppData → Type 0
AreClear apps = (i j : ℕ) (a b : AppData) → slice_get apps i ≡ Some a → slice_get apps j ≡ Some b → i < j → clashes a b ≡ false

clear_more : (a : AppData) (others : List AppData) → Passes a others → AreClear others → AreClear (a ∷ others)
clear_more a others passes clear zero zero x y x_is y_is order = absurd (omega arith)
clear_more a others passes clear zero (suc j) x y x_is y_is order = let same : a ≡ x = cc in ap (λ (z : AppData). clashes z y) (sym same) ∙ passes j y y_is
clear_more a others passes clear (suc i) zero x y x_is y_is order = absurd (omega arith)
clear_more a others passes clear (suc i) (suc j) x y x_is y_is order = clear i j x y x_is y_is (omega arith)

or_none : {A : Type 0} (o p : Option A) → option_or o p ≡ None → (o ≡ None) × (p ≡ None)
or_none None p none = (refl, none)
or_none (Some x) p none = absurd (cc)

pub clear_from : (number : ℕ) (apps : List AppData) → name_clash number apps ≡ None → AreClear apps
clear_from number [] none = λ i j a b a_is b_is order. absurd (cc)
clear_from number (a ∷ others) none =
    let parts = or_none (clash_with number a (number + 1) others) (name_clash (number + 1) others) none in
    clear_more a others (with_none number a (number + 1) others parts.0) (clear_from (number + 1) others parts.1)

-- the first clash, counted from a number
record FirstFrom (number : ℕ) (apps : List AppData) (fault : CardFault) : Type 0 where
  first : ℕ
  second : ℕ
  fault_is : fault ≡ Clash (number + first) (number + second)
  clash : IsFirstClash apps first second

here_before : (a : AppData) (others : List AppData) (place : ℕ) → PassesTo a others place → (i j : ℕ) (x y : AppData) → slice_get (a ∷ others) i ≡ Some x
    → slice_get (a ∷ others) j ≡ Some y → i < j → IsEarlier i j 0 (suc place) → clashes x y ≡ false
here_before a others place passes i j x y x_is y_is order (inl below) = absurd (omega arith)
here_before a others place passes zero zero x y x_is y_is order (inr at) = absurd (omega arith)
here_before a others place passes zero (suc j) x y x_is y_is order (inr at) =
    let same : a ≡ x = cc in
    let near : j < place = omega (arith, at.1) in
    ap (λ (z : AppData). clashes z y) (sym same) ∙ passes j y y_is near
here_before a others place passes (suc i) j x y x_is y_is order (inr at) = absurd (omega (arith, at.0))

later_before : (a : AppData) (others : List AppData) (first second : ℕ) → Passes a others → IsFirstClash others first second → (i j : ℕ) (x y : AppData)
    → slice_get (a ∷ others) i ≡ Some x → slice_get (a ∷ others) j ≡ Some y → i < j → IsEarlier i j (suc first) (suc second) → clashes x y ≡ false
later_before a others first second passes later zero zero x y x_is y_is order earlier = absurd (omega arith)
later_before a others first second passes later zero (suc j) x y x_is y_is order earlier = let same : a ≡ x = cc in ap (λ (z : AppData). clashes z y) (sym same) ∙ passes j y y_is
later_before a others first second passes later (suc i) zero x y x_is y_is order earlier = absurd (omega arith)
later_before a others first second passes later (suc i) (suc j) x y x_is y_is order (inl below) = later.before i j x y x_is y_is (omega arith) (inl (omega (arith, below)))
later_before a others first second passes later (suc i) (suc j) x y x_is y_is order (inr at) =
    let same : i ≡ first = omega (arith, at.0) in
    let near : j < second = omega (arith, at.1) in
    later.before i j x y x_is y_is (omega arith) (inr (same, near))

first_here : (number : ℕ) (a : AppData) (others : List AppData) (fault : CardFault) → ClashBehind number a (number + 1) others fault → FirstFrom number (a ∷ others) fault
first_here number a others fault found =
    let one : number ≡ number + 0 = omega arith in
    let two : (number + 1) + found.place ≡ number + suc found.place = omega arith in
    record {
      first = 0;
      second = suc found.place;
      fault_is = found.fault_is ∙ ap (λ (n : ℕ). Clash number n) two ∙ ap (λ (n : ℕ). Clash n (number + suc found.place)) one;
      clash = record {
        one = a;
        other = found.other;
        one_is = refl;
        other_is = found.is;
        order = omega arith;
        clash = found.clash;
        before = here_before a others found.place found.before;
      };
    }

first_later : (number : ℕ) (a : AppData) (others : List AppData) (fault : CardFault) → Passes a others → FirstFrom (number + 1) others fault → FirstFrom number (a ∷ others) fault
first_later number a others fault passes found =
    let later = found.clash in
    let one : (number + 1) + found.first ≡ number + suc found.first = omega arith in
    let two : (number + 1) + found.second ≡ number + suc found.second = omega arith in
    let behind : found.first < found.second = later.order in
    record {
      first = suc found.first;
      second = suc found.second;
      fault_is = found.fault_is ∙ ap (λ (n : ℕ). Clash ((number + 1) + found.first) n) two ∙ ap (λ (n : ℕ). Clash n (number + suc found.second)) one;
      clash = record {
        one = later.one;
        other = later.other;
        one_is = later.one_is;
        other_is = later.other_is;
        order = omega arith;
        clash = later.clash;
        before = later_before a others found.first found.second passes later;
      };
    }

first_from : (number : ℕ) (apps : List AppData) (fault : CardFault) → name_clash number apps ≡ Some fault → FirstFrom number apps fault
first_from number [] fault some = absurd (cc)
first_from number (a ∷ others) fault some = by (first_from (number + 1) others fault) (clash_with number a (number + 1) others) refl some
  where
    by : (name_clash (number + 1) others ≡ Some fault → FirstFrom (number + 1) others fault) → (found : Option CardFault) → clash_with number a (number + 1) others ≡ found → option_or found (name_clash (number + 1) others) ≡ Some fault
        → FirstFrom number (a ∷ others) fault
    by behind None none later = first_later number a others fault (with_none number a (number + 1) others none) (behind later)
    by behind (Some one) is same =
        let here : clash_with number a (number + 1) others ≡ Some fault = cc in
        first_here number a others fault (with_some number a (number + 1) others fault here)

-- a clash, and the numbers of its two applications
pub record Clashing (apps : List AppData) (fault : CardFault) : Type 0 where
  pub first : ℕ
  pub second : ℕ
  pub fault_is : fault ≡ Clash first second
  pub clash : IsFirstClash apps first second

pub clashing : (apps : List AppData) (fault : CardFault) → name_clash 0 apps ≡ Some fault → Clashing apps fault
clashing apps fault some =
    let found = first_from 0 apps fault some in
    let one : 0 + found.first ≡ found.first = omega arith in
    let two : 0 + found.second ≡ found.second = omega arith in
    record {
      first = found.first;
      second = found.second;
      fault_is = found.fault_is ∙ ap (λ (n : ℕ). Clash (0 + found.first) n) two ∙ ap (λ (n : ℕ). Clash n found.second) one;
      clash = found.clash;
    }

-- names that don't clash are apart, and the other way round
pub apart_from : (apps : List AppData) → AreClear apps → HaveApartNames apps
apart_from apps clear i j a b a_is b_is other = by (cases_order i j)
  where
    by : (i ≡ j) ⊎ ((i < j) ⊎ (j < i)) → starts_with nat_eq b.name a.name ≡ false
    by (inl same) = absurd (other same)
    by (inr (inl below)) = (or_parts (starts_with nat_eq b.name a.name) (starts_with nat_eq a.name b.name) (clear i j a b a_is b_is below)).0
    by (inr (inr above)) = (or_parts (starts_with nat_eq a.name b.name) (starts_with nat_eq b.name a.name) (clear j i b a b_is a_is above)).1

pub clear_apart : (apps : List AppData) → HaveApartNames apps → AreClear apps
clear_apart apps apart i j a b a_is b_is order =
    or_from (starts_with nat_eq b.name a.name) (starts_with nat_eq a.name b.name) (apart i j a b a_is b_is (λ same. omega arith)) (apart j i b a b_is a_is (λ same. omega arith))

-- a clash contradicts that
pub clash_is_none : (apps : List AppData) (first second : ℕ) → HaveApartNames apps → IsFirstClash apps first second → ⊥
clash_is_none apps first second apart found =
    let none : clashes found.one found.other ≡ false = clear_apart apps apart first second found.one found.other found.one_is found.other_is found.order in
    let some : clashes found.one found.other ≡ true = found.clash in
    cc

-- there is one first clash
earlier_none : (apps : List AppData) (i j k l : ℕ) → IsFirstClash apps i j → IsFirstClash apps k l → IsEarlier i j k l → ⊥
earlier_none apps i j k l one other earlier =
    let none : clashes one.one one.other ≡ false = other.before i j one.one one.other one.one_is one.other_is one.order earlier in
    let some : clashes one.one one.other ≡ true = one.clash in
    cc

second_same : (apps : List AppData) (i j k l : ℕ) → IsFirstClash apps i j → IsFirstClash apps k l → i ≡ k → (j ≡ l) ⊎ ((j < l) ⊎ (l < j)) → Clash i j ≡ Clash k l
second_same apps i j k l one other same (inl equal) = cc
second_same apps i j k l one other same (inr (inl below)) = absurd (earlier_none apps i j k l one other (inr (same, below)))
second_same apps i j k l one other same (inr (inr above)) = absurd (earlier_none apps k l i j other one (inr (sym same, above)))

clash_by : (apps : List AppData) (i j k l : ℕ) → IsFirstClash apps i j → IsFirstClash apps k l → (i ≡ k) ⊎ ((i < k) ⊎ (k < i)) → Clash i j ≡ Clash k l
clash_by apps i j k l one other (inl equal) = second_same apps i j k l one other equal (cases_order j l)
clash_by apps i j k l one other (inr (inl below)) = absurd (earlier_none apps i j k l one other (inl below))
clash_by apps i j k l one other (inr (inr above)) = absurd (earlier_none apps k l i j other one (inl above))

pub one_clash : (apps : List AppData) (i j k l : ℕ) → IsFirstClash apps i j → IsFirstClash apps k l → Clash i j ≡ Clash k l
one_clash apps i j k l one other = clash_by apps i j k l one other (cases_order i k)
