-- The pages that cards take and give back.
-- The first of them are the cards', in their order, and the rest stay blank.
use Rattle.std.proofs.Common.{◌≡◌, ℕ, zero, suc, ◌+◌, ◌-◌, ◌≤◌, ◌<◌, cond, List, [], ◌∷◌, ◌++◌, length, map, drop, take, get_or, slice_get, Option, Bool, true, false, Some, None, refl, sym, ap, ◌∙◌, subst, inl, inr, arith}
use Rattle.std.specs.List.{All, insert, remove, take-map}
use Rattle.std.specs.Prelude.{is_some}
use Rattle.std.proofs.lemmas.Bool.{cases_eq}
use Rattle.std.proofs.lemmas.List.{drop-map, map-append}
use Rattle.std.proofs.lemmas.List.Elements.{All-append, All-drop, All-take}
use Rattle.std.proofs.lemmas.List.Sums.{sum_by-append, sum_by-cons}
use Rattle.std.proofs.lemmas.Option.{same_Some, slice_get_within}
use Rattle.capture_store.specs.SeenLaneStore.{LaneStoreSeen, LaneStoreOff}
use Rattle.capture_store.specs.StoreRow.{new_store}
use Rattle.emv_ports.specs.Memory.{Memory, IsBlank}
use Rattle.scenario_plan.specs.Cards.{CardData}
use Rattle.scenario_lanes.specs.Plan.{LaneData}
use Rattle.txn_replay.specs.Banked.{IsNew, AreNew, IsNewStore, AreNewStores, stores_in, IsRunCardLeft, AreGiven, IsStoreLeft, IsStoreGiven, StoresAreGiven}
use Rattle.txn_replay.specs.RunCard.{RunCardSeen}

-- the new element of a longer list, and the others
at_end : {A : Type 0} (xs : List A) (x y : A) → slice_get (xs ++ x ∷ []) (length xs) ≡ Some y → x ≡ y
at_end [] x y at = same_Some x y at
at_end (z ∷ zs) x y at = at_end zs x y at

in_front : {A : Type 0} (xs : List A) (x y : A) (i : ℕ) → (i ≡ length xs → ⊥) → slice_get (xs ++ x ∷ []) i ≡ Some y → slice_get xs i ≡ Some y
in_front [] x y zero other at = absurd (other refl)
in_front [] x y (suc i) other at = cc
in_front (z ∷ zs) x y zero other at = at
in_front (z ∷ zs) x y (suc i) other at = in_front zs x y i (λ same. other (ap (λ n. suc n) same)) at

-- one card more
pub one_new : (cards : List CardData) (run_cards : List RunCardSeen) (card : CardData) (run_card : RunCardSeen) → AreNew cards run_cards
    → slice_get cards (length run_cards) ≡ Some card → IsNew card run_card → AreNew cards (run_cards ++ run_card ∷ [])
one_new cards run_cards card run_card before here new = λ i other found wanted there.
    elim (cases_eq i (length run_cards)) [
      | inl same ↦
          let its : card ≡ other = same_Some card other (sym here ∙ ap (λ n. slice_get cards n) (sym same) ∙ wanted) in
          let run_card_is : run_card ≡ found = at_end run_cards run_card found (ap (λ n. slice_get (run_cards ++ run_card ∷ []) n) (sym same) ∙ there) in
          subst (λ (x : CardData). IsNew x found) its (subst (λ (x : RunCardSeen). IsNew card x) run_card_is new)
      | inr differs ↦ before i other found wanted (in_front run_cards run_card found i differs there)
    ]

-- one store more, or one lane without a store
pub one_new_store : (lanes : List LaneData) (lane_stores : List LaneStoreSeen) (lane : LaneData) (lane_store : LaneStoreSeen) → AreNewStores lanes lane_stores
    → slice_get lanes (length lane_stores) ≡ Some lane → IsNewStore lane_store lane.durable → AreNewStores lanes (lane_stores ++ lane_store ∷ [])
one_new_store lanes lane_stores lane lane_store before here new = λ i other found wanted there.
    elim (cases_eq i (length lane_stores)) [
      | inl same ↦
          let its : lane ≡ other = same_Some lane other (sym here ∙ ap (λ n. slice_get lanes n) (sym same) ∙ wanted) in
          let lane_store_is : lane_store ≡ found = at_end lane_stores lane_store found (ap (λ n. slice_get (lane_stores ++ lane_store ∷ []) n) (sym same) ∙ there) in
          subst (λ (x : LaneData). IsNewStore found x.durable) its (subst (λ (x : LaneStoreSeen). IsNewStore x lane.durable) lane_store_is new)
      | inr differs ↦ before i other found wanted (in_front lane_stores lane_store found i differs there)
    ]

pub stores_more : (lane_stores : List LaneStoreSeen) (lane_store : LaneStoreSeen) → stores_in (lane_stores ++ lane_store ∷ []) ≡ stores_in lane_stores + cond (is_some lane_store) 1 0
stores_more lane_stores lane_store =
    let both : stores_in (lane_stores ++ lane_store ∷ []) ≡ stores_in lane_stores + stores_in (lane_store ∷ []) = sum_by-append (λ (x : LaneStoreSeen). cond (is_some x) 1 0) lane_stores (lane_store ∷ []) in
    let one : stores_in (lane_store ∷ []) ≡ cond (is_some lane_store) 1 0 + 0 = sum_by-cons (λ (x : LaneStoreSeen). cond (is_some x) 1 0) lane_store [] in
    omega (arith, both, one)

pub store_is_some : (lane_store : LaneStoreSeen) → LaneStoreOff lane_store new_store → is_some lane_store ≡ true
store_is_some None off = absurd off
store_is_some (Some seen) off = refl

pub one_store : (lane_store : LaneStoreSeen) → is_some lane_store ≡ true → stores_in (lane_store ∷ []) ≡ 1
one_store lane_store some =
    let one : stores_in (lane_store ∷ []) ≡ cond (is_some lane_store) 1 0 + 0 = sum_by-cons (λ (x : LaneStoreSeen). cond (is_some x) 1 0) lane_store [] in
    let is : cond (is_some lane_store) 1 0 + 0 ≡ 1 = ap (λ (b : Bool). cond b 1 0 + 0) some in
    omega (arith, one, is)

pub zero_store : (lane_store : LaneStoreSeen) → is_some lane_store ≡ false → stores_in (lane_store ∷ []) ≡ 0
zero_store lane_store none =
    let one : stores_in (lane_store ∷ []) ≡ cond (is_some lane_store) 1 0 + 0 = sum_by-cons (λ (x : LaneStoreSeen). cond (is_some x) 1 0) lane_store [] in
    let is : cond (is_some lane_store) 1 0 + 0 ≡ 0 = ap (λ (b : Bool). cond b 1 0 + 0) none in
    omega (arith, one, is)

pub no_store : (lane_store : LaneStoreSeen) → lane_store ≡ None → stores_in (lane_store ∷ []) ≡ 0
no_store lane_store none =
    let one : stores_in (lane_store ∷ []) ≡ cond (is_some lane_store) 1 0 + 0 = sum_by-cons (λ (x : LaneStoreSeen). cond (is_some x) 1 0) lane_store [] in
    let is : cond (is_some lane_store) 1 0 + 0 ≡ 0 = ap (λ (x : LaneStoreSeen). cond (is_some x) 1 0 + 0) none in
    omega (arith, one, is)

pub single : (lane_store : LaneStoreSeen) → stores_in (lane_store ∷ []) ≡ cond (is_some lane_store) 1 0
single lane_store =
    let one : stores_in (lane_store ∷ []) ≡ cond (is_some lane_store) 1 0 + 0 = sum_by-cons (λ (x : LaneStoreSeen). cond (is_some x) 1 0) lane_store [] in
    omega (arith, one)

pub one_of : (lane_store : LaneStoreSeen) → cond (is_some lane_store) 1 0 ≤ 1
one_of None = omega arith
one_of (Some seen) = omega arith

-- no more stores than shelves
pub stores_few : (lane_stores : List LaneStoreSeen) → stores_in lane_stores ≤ length lane_stores
stores_few [] = omega arith
stores_few (lane_store ∷ lane_stores) =
    let more : stores_in (lane_store ∷ lane_stores) ≡ cond (is_some lane_store) 1 0 + stores_in lane_stores = sum_by-cons (λ (x : LaneStoreSeen). cond (is_some x) 1 0) lane_store lane_stores in
    omega (arith, more, one_of lane_store, stores_few lane_stores)

-- pages put back among others
pub map_insert : {A : Type 0} (f : A → Memory) (xs : List A) (i : ℕ) (x : A) → map f (insert xs i x) ≡ insert (map f xs) i (f x)
map_insert {A} f xs i x =
    map-append f (take i xs) (x ∷ drop i xs) ∙ ap (λ ys. ys ++ f x ∷ map f (drop i xs)) (sym (take-map f i xs)) ∙ ap (λ ys. take i (map f xs) ++ f x ∷ ys) (sym (drop-map f i xs))

-- what a shelf leaves
pub left_given : (lane_store : LaneStoreSeen) (memory : Memory) → is_some lane_store ≡ true → IsStoreLeft lane_store memory → IsStoreGiven lane_store (Some memory)
left_given None memory none left = cc
left_given (Some seen) memory some left = left

pub none_left : (lane_store : LaneStoreSeen) → is_some lane_store ≡ false → IsStoreGiven lane_store None
none_left None none = tt
none_left (Some seen) none = cc

-- a store takes none of the pages that the cards need
pub room_left : (cards index before now stores : ℕ) (lane_store : LaneStoreSeen) (durable : Bool) → is_some lane_store ≡ durable → before + stores ≡ 64 → stores ≤ index
    → index < 16 → now + cond (is_some lane_store) 1 0 ≡ before → cards ≤ before → (durable ≡ true → cards ≤ 63 - index) → cards ≤ now
room_left cards index before now stores lane_store durable is whole few within taken fits room = by durable is room
  where
    by : (b : Bool) → is_some lane_store ≡ b → (b ≡ true → cards ≤ 63 - index) → cards ≤ now
    by true some own =
        let one : cond (is_some lane_store) 1 0 + 0 ≡ 1 = ap (λ (x : Bool). cond x 1 0 + 0) some in
        let enough : cards ≤ 63 - index = own refl in
        omega (arith, one, enough, whole, few, within, taken)
    by false none own =
        let zero_of : cond (is_some lane_store) 1 0 + 0 ≡ 0 = ap (λ (x : Bool). cond x 1 0 + 0) none in
        omega (arith, zero_of, taken, fits)

-- the pages that are left are still blank, and those that are taken were
pub left_blank : {A : Type 0} (f : A → Memory) (xs : List A) (i : ℕ) → All IsBlank (map f xs) → All IsBlank (map f (remove xs i))
left_blank {A} f xs i blank =
    subst (λ (ms : List Memory). All IsBlank ms) (sym (map-append f (take i xs) (drop (suc i) xs)))
    (All-append IsBlank (map f (take i xs)) (map f (drop (suc i) xs))
    (subst (λ (ms : List Memory). All IsBlank ms) (take-map f i xs) (All-take IsBlank i (map f xs) blank))
    (subst (λ (ms : List Memory). All IsBlank ms) (drop-map f (suc i) xs) (All-drop IsBlank (suc i) (map f xs) blank)))

pub taken_blank : {A : Type 0} (f : A → Memory) (xs : List A) (i : ℕ) (x : A) → i < length xs → x ≡ get_or xs i x → All IsBlank (map f xs) → IsBlank (f x)
taken_blank {A} f xs i x within is blank = by xs i within is blank
  where
    by : (ys : List A) (k : ℕ) → k < length ys → x ≡ get_or ys k x → All IsBlank (map f ys) → IsBlank (f x)
    by [] k below at all = absurd (omega (arith, below))
    by (y ∷ ys) zero below at all = subst (λ (z : A). IsBlank (f z)) (sym at) (all 0 (f y) (omega arith))
    by (y ∷ ys) (suc k) below at all = by ys k (omega (arith, below)) at (λ n d inside. all (suc n) d (omega (arith, inside)))

-- the last of the cards has left its pages
pub one_given : (run_cards : List RunCardSeen) (n : ℕ) (bank : List Memory) (run_card : RunCardSeen) (memory : Memory) → slice_get run_cards n ≡ Some run_card → IsRunCardLeft run_card memory
    → AreGiven run_cards (n + 1) bank → AreGiven run_cards n (memory ∷ bank)
one_given run_cards n bank run_card memory here given before = λ i found from there.
    elim (cases_eq i n) [
      | inl same ↦
          let its : run_card ≡ found = same_Some run_card found (sym here ∙ ap (λ k. slice_get run_cards k) (sym same) ∙ there) in
          let first : i - n ≡ 0 = omega arith in
          (memory, ap (λ k. slice_get (memory ∷ bank) k) first, subst (λ (x : RunCardSeen). IsRunCardLeft x memory) its given)
      | inr differs ↦
          let later = before i found (omega arith) there in
          let place : i - n ≡ suc (i - (n + 1)) = omega arith in
          (later.0, ap (λ k. slice_get (memory ∷ bank) k) place ∙ later.1, later.2)
    ]

pub none_given : (run_cards : List RunCardSeen) (bank : List Memory) → AreGiven run_cards (length run_cards) bank
none_given run_cards bank = λ i run_card from there.
    let within : i < length run_cards = slice_get_within run_cards i run_card there in absurd (omega arith)

-- the first pages of blank ones, and the rest of them
pub first_blank : {A : Type 0} (f : A → Memory) (xs : List A) (x : A) → 0 < length xs → x ≡ get_or xs 0 x → All IsBlank (map f xs) → IsBlank (f x)
first_blank f [] x some is blank = absurd (omega arith)
first_blank {A} f (y ∷ ys) x some is blank = subst (λ (z : A). IsBlank (f z)) (sym is) (blank 0 (f y) (omega arith))

pub rest_blank : {A : Type 0} (f : A → Memory) (xs : List A) → All IsBlank (map f xs) → All IsBlank (map f (drop 1 xs))
rest_blank f xs blank = subst (λ (ms : List Memory). All IsBlank ms) (drop-map f 1 xs) (All-drop IsBlank 1 (map f xs) blank)

one_less : {A : Type 0} (n : ℕ) (xs : List A) → drop 1 (drop n xs) ≡ drop (suc n) xs
one_less zero xs = refl
one_less (suc n) [] = refl
one_less (suc n) (x ∷ xs) = one_less n xs

pub rest_drop : {A : Type 0} (f : A → Memory) (xs : List A) (n : ℕ) (all : List Memory) → map f xs ≡ drop n all → map f (drop 1 xs) ≡ drop (n + 1) all
rest_drop f xs n all is =
    sym (drop-map f 1 xs)
    ∙ ap (λ (ms : List Memory). drop 1 ms) is
    ∙ one_less n all
    ∙ ap (λ k. drop k all) (let e : suc n ≡ n + 1 = omega arith in e)

pub take_less : {A : Type 0} (n m : ℕ) (xs : List A) → n ≤ m → take n (take m xs) ≡ take n xs
take_less zero m xs within = refl
take_less (suc n) zero xs within = absurd (omega arith)
take_less (suc n) (suc m) [] within = refl
take_less {A} (suc n) (suc m) (x ∷ xs) within = ap (λ (ys : List A). x ∷ ys) (take_less n m xs (omega arith))

-- the last of the shelves has left its pages
pub lane_store_given : (lane_stores : List LaneStoreSeen) (n : ℕ) (lane_store : LaneStoreSeen) (page : Option Memory) (pages : List (Option Memory)) → slice_get lane_stores n ≡ Some lane_store
    → IsStoreGiven lane_store page → StoresAreGiven (drop (suc n) lane_stores) pages → StoresAreGiven (drop n lane_stores) (page ∷ pages)
lane_store_given [] n lane_store page pages there given others = cc
lane_store_given (x ∷ lane_stores) zero lane_store page pages there given others = (subst (λ (y : LaneStoreSeen). IsStoreGiven y page) (sym (same_Some x lane_store there)) given, others)
lane_store_given (x ∷ lane_stores) (suc n) lane_store page pages there given others = lane_store_given lane_stores n lane_store page pages there given others
