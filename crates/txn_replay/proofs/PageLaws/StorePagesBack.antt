-- The pages of the stores at their places again, between those that were blank.
-- Each store's pages stand where the store took them, so the bank is whole again.
use Rattle.std.proofs.Common.{◌≡◌, ℕ, zero, suc, ◌+◌, ◌-◌, ◌≤◌, ◌<◌, ◌&&◌, Bool, true, false, cond, List, [], ◌∷◌, length, drop, slice_get, Option, Some, None, refl, sym, ap, ◌∙◌, subst, inl, inr, arith}
use Rattle.std.specs.List.{All, count_by, insert}
use Rattle.std.specs.Prelude.{nat_le, is_some}
use Rattle.std.proofs.lemmas.Bool.{cases_order}
use Rattle.std.proofs.lemmas.Bool.Decides.{nat_tests}
use Rattle.std.proofs.lemmas.List.Edits.{length-insert}
use Rattle.std.proofs.lemmas.List.Sums.{sum_by-cons}
use Rattle.std.proofs.lemmas.Option.{same_Some, slice_get_within, get_or_from_slice_get}
use Rattle.capture_store.specs.Calls.{Call}
use Rattle.capture_store.specs.ListPages.{MayStandForList}
use Rattle.capture_store.specs.SeenLaneStore.{LaneStoreSeen, LaneStoreOn}
use Rattle.emv_ports.specs.Memory.{Memory, IsBlank}
use Rattle.emv_ports.specs.declared.tear.Tear.{Tear}
use Rattle.scenario_plan.specs.Plan.{ScenarioData}
use Rattle.scenario_lanes.specs.Plan.{LaneData, last_pages, HaveRoom}
use Rattle.txn_replay.specs.Banked.{AreGiven, stores_in, IsStoreLeft, IsStoreGiven, StoresAreGiven, with_stores}
use Rattle.txn_replay.specs.Payment.{payment_in, is_durable, durable_of}
use Rattle.txn_replay.specs.Seen.{WorldSeen, WorldStands, durable_count, StorePages, is_store_of, BankStands, terminal_plan, LaneStoreAt}
use Rattle.txn_replay.specs.Standing.{StorePlace, StoreStands, LaneStoreFor}
use Rattle.txn_replay.specs.World.{LaneRow, World, lane_at}
use Rattle.txn_replay.proofs.Lists.{some_at}
use Rattle.txn_replay.proofs.StoreLaws.StoresEmptied.{in_scenario}
use Rattle.txn_replay.proofs.TurnLaws.WorldTold.{given_cards}

-- a list with one element put in
insert_below : {A : Type 0} (xs : List A) (i k : ℕ) (y : A) → k < i → i ≤ length xs → slice_get (insert xs i y) k ≡ slice_get xs k
insert_below [] i k y below within = absurd (omega (arith, below, within))
insert_below (x ∷ xs) zero k y below within = absurd (omega (arith, below))
insert_below (x ∷ xs) (suc i) zero y below within = refl
insert_below (x ∷ xs) (suc i) (suc k) y below within = insert_below xs i k y (omega (arith, below)) (omega (arith, within))

insert_at : {A : Type 0} (xs : List A) (i : ℕ) (y : A) → i ≤ length xs → slice_get (insert xs i y) i ≡ Some y
insert_at [] zero y within = refl
insert_at [] (suc i) y within = absurd (omega (arith, within))
insert_at (x ∷ xs) zero y within = refl
insert_at (x ∷ xs) (suc i) y within = insert_at xs i y (omega (arith, within))

insert_above : {A : Type 0} (xs : List A) (i k : ℕ) (y : A) → i ≤ k → i ≤ length xs → slice_get (insert xs i y) (suc k) ≡ slice_get xs k
insert_above [] zero k y from within = refl
insert_above [] (suc i) k y from within = absurd (omega (arith, within))
insert_above (x ∷ xs) zero k y from within = refl
insert_above (x ∷ xs) (suc i) zero y from within = absurd (omega (arith, from))
insert_above (x ∷ xs) (suc i) (suc k) y from within = insert_above xs i k y (omega (arith, from)) (omega (arith, within))

-- how many of these are pages of a store
pages_in : List (Option Memory) → ℕ
pages_in pages = count_by is_some pages

pages_more : (page : Option Memory) (pages : List (Option Memory)) → pages_in (page ∷ pages) ≡ cond (is_some page) 1 0 + pages_in pages
unfolding pages_in
pages_more page pages = sum_by-cons (λ (x : Option Memory). cond (is_some x) 1 0) page pages

no_pages : pages_in [] ≡ 0
unfolding pages_in
no_pages = refl

one_page : (page : Option Memory) → cond (is_some page) 1 0 ≤ 1
one_page None = omega arith
one_page (Some memory) = omega arith

-- of the lanes from `l` on, each store's pages at their place, the cards' pages as before, and others blank
record Placed (cards l : ℕ) (pages : List (Option Memory)) (before bank : List Memory) : Type 0 where
  pub kept : (i : ℕ) → i < cards → slice_get bank i ≡ slice_get before i
  pub stored : (m : ℕ) (memory : Memory) → slice_get pages m ≡ Some (Some memory) → slice_get bank (last_pages - (l + m)) ≡ Some memory
  pub blank : (i : ℕ) (memory : Memory) → slice_get bank i ≡ Some memory → cards ≤ i
      → ((m : ℕ) → m < length pages → i ≡ last_pages - (l + m) → slice_get pages m ≡ Some None) → IsBlank memory
  pub count : length bank ≡ length before + pages_in pages

module _ (cards : ℕ) (before : List Memory) (blank_before : (i : ℕ) (memory : Memory) → slice_get before i ≡ Some memory → cards ≤ i → IsBlank memory) where
  placed_next : (l : ℕ) (page : Option Memory) (pages : List (Option Memory)) → l + length (page ∷ pages) ≤ 16
      → 64 ≤ length before + pages_in (page ∷ pages) + l
      → ((m : ℕ) (memory : Memory) → slice_get (page ∷ pages) m ≡ Some (Some memory) → cards ≤ last_pages - (l + m))
      → Placed cards (l + 1) pages before (with_stores (l + 1) pages before) → Placed cards l (page ∷ pages) before (with_stores l (page ∷ pages) before)
  placed_next l page pages few room own others = with_page page refl
    where
      more : pages_in (page ∷ pages) ≡ cond (is_some page) 1 0 + pages_in pages
      more = pages_more page pages

      rest : List Memory
      rest = with_stores (l + 1) pages before

      with_page : (y : Option Memory) → page ≡ y → Placed cards l (page ∷ pages) before (with_stores l (page ∷ pages) before)
      with_page None is = subst (λ (p : Option Memory). Placed cards l (p ∷ pages) before (with_stores l (p ∷ pages) before)) (sym is) (record {
        kept = others.kept;
        stored = stored_none;
        blank = λ i memory there from free.
            others.blank i memory there from (λ m within place.
            free (suc m) (omega (arith, within)) (place ∙ ap (λ n. last_pages - n) (let e : l + 1 + m ≡ l + suc m = omega arith in e)));
        count = omega (arith, others.count, pages_more None pages);
      })
        where
          stored_none : (m : ℕ) (memory : Memory) → slice_get (None ∷ pages) m ≡ Some (Some memory) → slice_get rest (last_pages - (l + m)) ≡ Some memory
          stored_none zero memory there = cc
          stored_none (suc m) memory there =
              ap (λ n. slice_get rest (last_pages - n)) (let e : l + suc m ≡ l + 1 + m = omega arith in e) ∙ others.stored m memory there
      with_page (Some memory) is = subst (λ (p : Option Memory). Placed cards l (p ∷ pages) before (with_stores l (p ∷ pages) before)) (sym is) (record {
        kept = λ i within. insert_below rest (last_pages - l) i memory (omega (arith, within, own_place)) fits ∙ others.kept i within;
        stored = stored_some;
        blank = blank_some;
        count = omega (arith, others.count, pages_more (Some memory) pages, length-insert rest (last_pages - l) memory fits);
      })
        where
          own_place : cards ≤ last_pages - (l + 0)
          own_place = own 0 memory (ap (λ (x : Option Memory). Some x) is)

          count_here : pages_in (page ∷ pages) ≡ 1 + pages_in pages
          count_here = more ∙ ap (λ (y : Option Memory). cond (is_some y) 1 0 + pages_in pages) is

          fits : last_pages - l ≤ length rest
          fits = omega (arith, room, count_here, others.count)

          stored_some : (m : ℕ) (found : Memory) → slice_get (Some memory ∷ pages) m ≡ Some (Some found)
              → slice_get (insert rest (last_pages - l) memory) (last_pages - (l + m)) ≡ Some found
          stored_some zero found there =
              let same : memory ≡ found = same_Some memory found (same_Some (Some memory) (Some found) there) in
              ap (λ n. slice_get (insert rest (last_pages - l) memory) (last_pages - n)) (let e : l + 0 ≡ l = omega arith in e)
              ∙ insert_at rest (last_pages - l) memory fits ∙ ap (λ (x : Memory). Some x) same
          stored_some (suc m) found there =
              let within : m < length pages = slice_get_within pages m (Some found) there in
              let below : last_pages - (l + suc m) < last_pages - l = omega (arith, few, within) in
              insert_below rest (last_pages - l) (last_pages - (l + suc m)) memory below fits
              ∙ ap (λ n. slice_get rest (last_pages - n)) (let e : l + suc m ≡ l + 1 + m = omega arith in e)
              ∙ others.stored m found there

          behind_free : (k : ℕ) → last_pages - l ≤ k → (m : ℕ) → m < length pages → k ≡ last_pages - (l + 1 + m) → slice_get pages m ≡ Some None
          behind_free k from m within place = absurd (omega (arith, from, within, place, few))

          blank_some : (i : ℕ) (found : Memory) → slice_get (insert rest (last_pages - l) memory) i ≡ Some found → cards ≤ i
              → ((m : ℕ) → m < length (Some memory ∷ pages) → i ≡ last_pages - (l + m) → slice_get (Some memory ∷ pages) m ≡ Some None) → IsBlank found
          blank_some i found there from free =
              elim (cases_order i (last_pages - l)) [
                | inl same ↦
                    (let none : slice_get (Some memory ∷ pages) 0 ≡ Some None =
                    free 0 (omega arith) (same ∙ ap (λ n. last_pages - n) (let e : l ≡ l + 0 = omega arith in e)) in cc)
                | inr (inl below) ↦
                    others.blank i found (sym (insert_below rest (last_pages - l) i memory below fits) ∙ there) from (λ m within place.
                    free (suc m) (omega (arith, within)) (place ∙ ap (λ n. last_pages - n) (let e : l + 1 + m ≡ l + suc m = omega arith in e)))
                | inr (inr behind) ↦ later i there behind
              ]
            where
              later : (k : ℕ) → slice_get (insert rest (last_pages - l) memory) k ≡ Some found → last_pages - l < k → IsBlank found
              later zero at past = absurd (omega (arith, past))
              later (suc k) at past =
                  others.blank k found (sym (insert_above rest (last_pages - l) k memory (omega (arith, past)) fits) ∙ at)
                  (omega (arith, past, own_place)) (behind_free k (omega (arith, past)))

  placed : (l : ℕ) (pages : List (Option Memory)) → l + length pages ≤ 16 → 64 ≤ length before + pages_in pages + l
      → ((m : ℕ) (memory : Memory) → slice_get pages m ≡ Some (Some memory) → cards ≤ last_pages - (l + m)) → Placed cards l pages before (with_stores l pages before)
  placed l [] few room own = record {
    kept = λ i within. refl;
    stored = λ m memory there. cc;
    blank = λ i memory there from free. blank_before i memory there from;
    count = omega (arith, no_pages);
  }
  placed l (page ∷ pages) few room own =
      placed_next l page pages few room own
      (placed (l + 1) pages (omega (arith, few)) (omega (arith, room, pages_more page pages, one_page page))
      (λ m memory there. (let place : l + 1 + m ≡ l + suc m = omega arith in subst (λ n. cards ≤ last_pages - n) (sym place) (own (suc m) memory there))))

-- the pages of each shelf
given_at : (lane_stores : List LaneStoreSeen) (pages : List (Option Memory)) → StoresAreGiven lane_stores pages → (l : ℕ) (lane_store : LaneStoreSeen) → slice_get lane_stores l ≡ Some lane_store
    → (page : Option Memory) × (slice_get pages l ≡ Some page) × IsStoreGiven lane_store page
given_at [] pages given l lane_store there = cc
given_at (x ∷ lane_stores) [] given l lane_store there = absurd given
given_at (x ∷ lane_stores) (page ∷ pages) given zero lane_store there = (page, refl, subst (λ (y : LaneStoreSeen). IsStoreGiven y page) (same_Some x lane_store there) given.0)
given_at (x ∷ lane_stores) (page ∷ pages) given (suc l) lane_store there = given_at lane_stores pages given.1 l lane_store there

given_count : (lane_stores : List LaneStoreSeen) (pages : List (Option Memory)) → StoresAreGiven lane_stores pages → (length pages ≡ length lane_stores) × (pages_in pages ≡ stores_in lane_stores)
given_count [] [] given = (refl, no_pages)
given_count [] (page ∷ pages) given = absurd given
given_count (lane_store ∷ lane_stores) [] given = absurd given
given_count (lane_store ∷ lane_stores) (page ∷ pages) given =
    let rest = given_count lane_stores pages given.1 in
    let more : stores_in (lane_store ∷ lane_stores) ≡ cond (is_some lane_store) 1 0 + stores_in lane_stores = sum_by-cons (λ (x : LaneStoreSeen). cond (is_some x) 1 0) lane_store lane_stores in
    let both : cond (is_some page) 1 0 + 0 ≡ cond (is_some lane_store) 1 0 + 0 = same lane_store page given.0 in
    (ap (λ n. suc n) rest.0, omega (arith, pages_more page pages, more, both, rest.1))
  where
    same : (x : LaneStoreSeen) (y : Option Memory) → IsStoreGiven x y → cond (is_some y) 1 0 + 0 ≡ cond (is_some x) 1 0 + 0
    same None None is = refl
    same (Some seen) (Some memory) is = refl
    same None (Some memory) is = absurd is
    same (Some seen) None is = absurd is

-- a store's pages may stand for its list
store_pages : (lane_store : LaneStoreSeen) (memory : Memory) (row : LaneRow) (plan : Option Tear) → StoreStands lane_store row plan → IsStoreLeft lane_store memory → StorePages memory row
store_pages lane_store memory row plan stands left = record {
  off = left.off;
  may = by row.store.commits stands.place;
  losses = left.losses ∙ stands.losses;
}
  where
    unlost : (seen : LaneStoreSeen) → LaneStoreOn seen row.store plan → row.store.lost ≡ None
    unlost None on = absurd on
    unlost (Some seen) on = on.none

    by : (commits : Option ℕ) → StorePlace lane_store row.store plan commits → MayStandForList memory.cells row.store.list row.store.lost
    by None off = left.may row.store off
    by (Some made) on =
        subst (λ (o : Option Call). MayStandForList memory.cells row.store.list o) (sym (unlost lane_store on)) (left.stands row.store plan on)

-- a lane has a store exactly where it keeps its captures durably
lane_store_is_some : (s : ScenarioData) (l : ℕ) (lane_store : LaneStoreSeen) (row : LaneRow) → LaneStoreAt s l lane_store row → is_some lane_store ≡ durable_of s l
lane_store_is_some s l lane_store row at = by (durable_of s l) at
  where
    placed : (x : LaneStoreSeen) (plan : Option Tear) (commits : Option ℕ) → StorePlace x row.store plan commits → is_some x ≡ true
    placed None plan None off = absurd off
    placed None plan (Some made) on = absurd on
    placed (Some seen) plan commits place = refl

    by : (durable : Bool) → LaneStoreFor lane_store row (terminal_plan (payment_in s l (length row.ended))) durable → is_some lane_store ≡ durable
    by false none = ap is_some none
    by true stands = placed lane_store (terminal_plan (payment_in s l (length row.ended))) row.store.commits stands.place

stores_count : (lanes : List LaneData) (lane_stores : List LaneStoreSeen) → length lane_stores ≡ length lanes
    → ((l : ℕ) (lane : LaneData) (lane_store : LaneStoreSeen) → slice_get lanes l ≡ Some lane → slice_get lane_stores l ≡ Some lane_store → is_some lane_store ≡ lane.durable)
    → stores_in lane_stores ≡ durable_count lanes
stores_count [] [] count each = refl
stores_count [] (lane_store ∷ lane_stores) count each = absurd (omega (arith, count))
stores_count (lane ∷ lanes) [] count each = absurd (omega (arith, count))
stores_count (lane ∷ lanes) (lane_store ∷ lane_stores) count each =
    let first : stores_in (lane_store ∷ lane_stores) ≡ cond (is_some lane_store) 1 0 + stores_in lane_stores = sum_by-cons (λ (x : LaneStoreSeen). cond (is_some x) 1 0) lane_store lane_stores in
    let second : durable_count (lane ∷ lanes) ≡ cond lane.durable 1 0 + durable_count lanes = sum_by-cons (λ (x : LaneData). cond x.durable 1 0) lane lanes in
    let own : cond (is_some lane_store) 1 0 + 0 ≡ cond lane.durable 1 0 + 0 = ap (λ (b : Bool). cond b 1 0 + 0) (each 0 lane lane_store refl refl) in
    let others : stores_in lane_stores ≡ durable_count lanes =
    stores_count lanes lane_stores (omega (arith, count)) (λ l x y there at. each (suc l) x y there at) in
    omega (arith, first, second, own, others)

pub all_stores : (v : WorldSeen) (w : World) → WorldStands v w → length v.lane_stores ≡ length v.scenario.lanes → stores_in v.lane_stores ≡ durable_count v.scenario.lanes
all_stores v w stands count =
    stores_count v.scenario.lanes v.lane_stores count (λ l lane lane_store there at.
    lane_store_is_some v.scenario l lane_store (lane_at w l) (stands.lane_stores l lane_store at) ∙ ap is_durable there)

-- the bank that a run gives back
module _ (v : WorldSeen) (w : World) (stands : WorldStands v w) (run_cards : length v.run_cards ≡ length v.scenario.cards) (lane_stores : length v.lane_stores ≡ length v.scenario.lanes)
    (few : length v.scenario.lanes ≤ 16) (room : HaveRoom (length v.scenario.cards) v.scenario.lanes) (before : List Memory) (pages : List (Option Memory))
    (given : AreGiven v.run_cards 0 before) (blank : All IsBlank (drop (length v.run_cards) before)) (stores : StoresAreGiven v.lane_stores pages)
    (whole : length before + stores_in v.lane_stores ≡ 64) where
  abbrev cards : ℕ
  cards = length v.scenario.cards

  blank_rest : (i : ℕ) (memory : Memory) → slice_get before i ≡ Some memory → cards ≤ i → IsBlank memory
  blank_rest i memory there from = by before i (omega (arith, from, run_cards)) there blank
    where
      at_drop : (n : ℕ) (xs : List Memory) (k : ℕ) → n ≤ k → slice_get xs k ≡ Some memory → slice_get (drop n xs) (k - n) ≡ Some memory
      at_drop zero xs k within here = ap (λ j. slice_get xs j) (let e : k - 0 ≡ k = omega arith in e) ∙ here
      at_drop (suc n) [] k within here = cc
      at_drop (suc n) (x ∷ xs) zero within here = absurd (omega (arith, within))
      at_drop (suc n) (x ∷ xs) (suc k) within here =
          ap (λ j. slice_get (drop n xs) j) (let e : suc k - suc n ≡ k - n = omega arith in e) ∙ at_drop n xs k (omega (arith, within)) here

      by : (xs : List Memory) (k : ℕ) → length v.run_cards ≤ k → slice_get xs k ≡ Some memory → All IsBlank (drop (length v.run_cards) xs) → IsBlank memory
      by xs k within here all =
          let at = at_drop (length v.run_cards) xs k within here in
          subst (λ (m : Memory). IsBlank m) (get_or_from_slice_get (drop (length v.run_cards) xs) (k - length v.run_cards) memory memory at)
          (all (k - length v.run_cards) memory (slice_get_within (drop (length v.run_cards) xs) (k - length v.run_cards) memory at))

  -- a lane that keeps its captures durably
  durable_lane : (l : ℕ) (memory : Memory) → slice_get pages l ≡ Some (Some memory) → cards ≤ last_pages - (0 + l)
  durable_lane l memory there =
      let within : l < length v.scenario.lanes =
      (let a : l < length pages = slice_get_within pages l (Some memory) there in
      let b = given_count v.lane_stores pages stores in omega (arith, a, b.0, lane_stores)) in
      let lane = some_at v.scenario.lanes l within in
      let lane_store = some_at v.lane_stores l (omega (arith, within, lane_stores)) in
      let page = given_at v.lane_stores pages stores l lane_store.0 lane_store.1 in
      let same : page.0 ≡ Some memory = same_Some page.0 (Some memory) (sym page.1 ∙ there) in
      let durable : durable_of v.scenario l ≡ true = is_store l lane_store.0 lane_store.1 (subst (λ (p : Option Memory). IsStoreGiven lane_store.0 p) same page.2) in
      ap_room l (room l lane.0 lane.1 (sym (ap is_durable lane.1) ∙ durable))
    where
      ap_room : (n : ℕ) → cards ≤ last_pages - n → cards ≤ last_pages - (0 + n)
      ap_room n is = omega (arith, is)

      is_store : (n : ℕ) (lane_store : LaneStoreSeen) → slice_get v.lane_stores n ≡ Some lane_store → IsStoreGiven lane_store (Some memory) → durable_of v.scenario n ≡ true
      is_store n lane_store at left = by (durable_of v.scenario n) refl (stands.lane_stores n lane_store at)
        where
          none_left : (x : LaneStoreSeen) → x ≡ None → IsStoreGiven x (Some memory) → ⊥
          none_left None is gone = gone
          none_left (Some seen) is gone = cc

          by : (b : Bool) → durable_of v.scenario n ≡ b
              → LaneStoreFor lane_store (lane_at w n) (terminal_plan (payment_in v.scenario n (length (lane_at w n).ended))) (durable_of v.scenario n) → durable_of v.scenario n ≡ true
          by true is at_lane_store = is
          by false is at_lane_store =
              absurd (none_left lane_store
              (subst (λ (b : Bool). LaneStoreFor lane_store (lane_at w n) (terminal_plan (payment_in v.scenario n (length (lane_at w n).ended))) b) is at_lane_store) left)

  all_placed : Placed cards 0 pages before (with_stores 0 pages before)
  all_placed =
      let counts = given_count v.lane_stores pages stores in
      placed cards before blank_rest 0 pages (omega (arith, counts.0, lane_stores, few)) (omega (arith, counts.1, whole)) durable_lane

  pub bank_stands : BankStands v.scenario w (with_stores 0 pages before)
  bank_stands = record {
    cards = λ i card is.
        (let one = given_cards v w before stands run_cards given i card is in
        let within : i < cards = slice_get_within v.scenario.cards i card is in
        (one.0, all_placed.kept i within ∙ one.1, one.2));
    stores = λ l on. store_at l on;
    others = λ i memory there from free. all_placed.blank i memory there from (λ m within place. free_page i m within place free);
  }
    where
      store_at : (l : ℕ) → durable_of v.scenario l ≡ true
          → (memory : Memory) × (slice_get (with_stores 0 pages before) (last_pages - l) ≡ Some memory) × StorePages memory (lane_at w l)
      store_at l on =
          let within : l < length v.lane_stores = omega (arith, in_scenario v.scenario l on, lane_stores) in
          let lane_store = some_at v.lane_stores l within in
          let page = given_at v.lane_stores pages stores l lane_store.0 lane_store.1 in
          let own : StoreStands lane_store.0 (lane_at w l) (terminal_plan (payment_in v.scenario l (length (lane_at w l).ended))) =
          subst (λ (b : Bool). LaneStoreFor lane_store.0 (lane_at w l) (terminal_plan (payment_in v.scenario l (length (lane_at w l).ended))) b) on (stands.lane_stores l lane_store.0 lane_store.1) in
          by lane_store.0 page.0 own page.1 page.2
        where
          not_none : (row : LaneRow) (plan : Option Tear) (commits : Option ℕ) → StorePlace None row.store plan commits → ⊥
          not_none row plan None off = off
          not_none row plan (Some made) on_it = on_it

          by : (lane_store : LaneStoreSeen) (page : Option Memory) → StoreStands lane_store (lane_at w l) (terminal_plan (payment_in v.scenario l (length (lane_at w l).ended)))
              → slice_get pages l ≡ Some page → IsStoreGiven lane_store page
              → (memory : Memory) × (slice_get (with_stores 0 pages before) (last_pages - l) ≡ Some memory) × StorePages memory (lane_at w l)
          by None page own at left = absurd (not_none (lane_at w l) (terminal_plan (payment_in v.scenario l (length (lane_at w l).ended))) (lane_at w l).store.commits own.place)
          by (Some seen) None own at left = absurd left
          by (Some seen) (Some memory) own at left = (
            memory,
            ap (λ n. slice_get (with_stores 0 pages before) (last_pages - n)) (let e : l ≡ 0 + l = omega arith in e) ∙ all_placed.stored l memory at,
            store_pages (Some seen) memory (lane_at w l) (terminal_plan (payment_in v.scenario l (length (lane_at w l).ended))) own left,
          )

      -- a page that is no store's
      free_page : (i m : ℕ) → m < length pages → i ≡ last_pages - (0 + m) → is_store_of v.scenario i ≡ false → slice_get pages m ≡ Some None
      free_page i m within place free =
          let counts = given_count v.lane_stores pages stores in
          let inside : m < length v.lane_stores = omega (arith, within, counts.0) in
          let lane_store = some_at v.lane_stores m inside in
          let page = given_at v.lane_stores pages stores m lane_store.0 lane_store.1 in
          let lane_is : last_pages - i ≡ m = omega (arith, place, inside, lane_stores, few) in
          let none : durable_of v.scenario m ≡ false = not_durable lane_is in
          let absent : lane_store.0 ≡ None =
          subst (λ (b : Bool). LaneStoreFor lane_store.0 (lane_at w m) (terminal_plan (payment_in v.scenario m (length (lane_at w m).ended))) b) none (stands.lane_stores m lane_store.0 lane_store.1) in
          page.1 ∙ ap (λ (p : Option Memory). Some p) (no_page lane_store.0 page.0 absent page.2)
        where
          is_within : (n : ℕ) → n ≤ last_pages → nat_le n last_pages ≡ true
          is_within n below = grind (arith, nat_tests)

          not_durable : last_pages - i ≡ m → durable_of v.scenario m ≡ false
          not_durable lane_is = by (nat_le i last_pages) (is_within i (omega (arith, place))) free
            where
              by : (c : Bool) → c ≡ true → (c && durable_of v.scenario (last_pages - i)) ≡ false → durable_of v.scenario m ≡ false
              by true so off = ap (λ n. durable_of v.scenario n) (sym lane_is) ∙ off
              by false so off = cc

          no_page : (x : LaneStoreSeen) (page : Option Memory) → x ≡ None → IsStoreGiven x page → page ≡ None
          no_page None None is left = refl
          no_page None (Some memory) is left = absurd left
          no_page (Some seen) page is left = cc
