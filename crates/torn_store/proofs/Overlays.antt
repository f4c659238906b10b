-- The home under the blocks of a journal, and the home as they are written to it.
use Rattle.std.proofs.Common.{◌≡◌, ◌≢◌, ◌⊎◌, ◌<◌, ◌≤◌, ◌+◌, ◌-◌, ℕ, zero, suc, List, [], ◌∷◌, length, get_or, take, drop, map, refl, ap, sym, ◌∙◌, subst, arith, Option, Some, None, Bool, true, false, ◌==◌, ◌&&◌, nat_lt, nat_le, inl, inr}
use Rattle.std.specs.Prelude.{if◌then◌else◌}
use Rattle.std.proofs.Math.ListN.{set}
use Rattle.std.proofs.lemmas.Bool.{eqb-true, eqb-false}
use Rattle.std.proofs.lemmas.Bool.Decides.{nat_tests}
use Rattle.std.proofs.lemmas.List.{set-set, set_comm, set-get_or, get_or-take, get_or-set_other, drop-set-lt, length-set, length-take, length-drop}
use Rattle.emv_ports.specs.Memory.{Memory, page_written}
use Rattle.torn_store.specs.Layout.{bytes_of_pages, state_in, overlaid, paired, numbers_in, is_rising, replayed}
use Rattle.torn_store.specs.Store.{StandUnderBit}
use Rattle.torn_store.specs.Writing.{WritesAll}
use Rattle.torn_store.specs.declared.layout.Block.{Block}
use Rattle.torn_store.proofs.Frames.{both_true}
use Rattle.torn_store.proofs.Gates.{Says, says_written}
use Rattle.torn_store.proofs.Rows.{Cells, Keeps, AllKeep}

take_set : {X : Type 0} → (n i : ℕ) (xs : List X) (x : X) → take n (set xs i x) ≡ set (take n xs) i x
take_set zero i [] x = refl
take_set zero i (y ∷ xs) x = refl
take_set (suc n) i [] x = refl
take_set (suc n) zero (y ∷ xs) x = refl
take_set (suc n) (suc i) (y ∷ xs) x = ap (λ l. y ∷ l) (take_set n i xs x)

one_place : (number place : ℕ) → (number - 1 ≡ place) ⊎ (number - 1 ≢ place)
one_place number place = go (number - 1 == place) refl where
  go : (same : Bool) → (number - 1 == place) ≡ same → (number - 1 ≡ place) ⊎ (number - 1 ≢ place)
  go true is = inl (eqb-true (number - 1) place is)
  go false is = inr (eqb-false (number - 1) place is)

-- what stood at home on a page that is named doesn't matter
overlaid_ignores : (k place : ℕ) (numbers : List ℕ) (journal home : List (List ℕ)) (bytes : List ℕ) → k < length numbers → length numbers ≤ length journal
    → get_or numbers k 0 ≡ place + 1 → overlaid (paired numbers journal) (set home place bytes) ≡ overlaid (paired numbers journal) home
overlaid_ignores k place [] journal home bytes inside few named = absurd (omega arith)
overlaid_ignores k place (n ∷ numbers) [] home bytes inside few named = absurd (omega arith)
overlaid_ignores zero place (n ∷ numbers) (j ∷ journal) home bytes inside few named =
    let here : n - 1 ≡ place = omega arith in
    let both : set (set home place bytes) (n - 1) j ≡ set home (n - 1) j =
    ap (λ (p : ℕ). set (set home place bytes) p j) here ∙ set-set home place bytes j ∙ sym (ap (λ (p : ℕ). set home p j) here) in
    ap (overlaid (paired numbers journal)) both
overlaid_ignores (suc k) place (n ∷ numbers) (j ∷ journal) home bytes inside few named = elim (one_place n place) [
  | inl here ↦
      ap (overlaid (paired numbers journal))
      (ap (λ (p : ℕ). set (set home place bytes) p j) here ∙ set-set home place bytes j ∙ sym (ap (λ (p : ℕ). set home p j) here))
  | inr other ↦
      ap (overlaid (paired numbers journal)) (set_comm home place (n - 1) bytes j (λ e. other (sym e)))
      ∙ overlaid_ignores k place numbers journal (set home (n - 1) j) bytes (omega arith) (omega arith) named
]

at_one : (k n above : ℕ) (numbers : List ℕ) → above < n → n ≤ 17
    → ((i : ℕ) → i < length numbers → (n < get_or numbers i 0) × (get_or numbers i 0 ≤ 17)) → k < suc (length numbers)
    → (above < get_or (n ∷ numbers) k 0) × (get_or (n ∷ numbers) k 0 ≤ 17)
at_one zero n above numbers over within later inside = (over, within)
at_one (suc k) n above numbers over within later inside = let rest = later k (omega arith) in (omega (arith, rest.0), rest.1)

-- numbers that rise are above the least and at most 17
pub rising_at : (numbers : List ℕ) (above k : ℕ) → is_rising above numbers ≡ true → k < length numbers
    → (above < get_or numbers k 0) × (get_or numbers k 0 ≤ 17)
rising_at [] above k rises inside = absurd (omega arith)
rising_at (n ∷ numbers) above k rises inside =
    let one = both_true (nat_lt above n) (nat_le n 17 && is_rising n numbers) rises in
    let two = both_true (nat_le n 17) (is_rising n numbers) one.1 in
    let over_test : nat_lt above n ≡ true = one.0 in
    let within_test : nat_le n 17 ≡ true = two.0 in
    at_one k n above numbers (grind (arith, nat_tests, over_test)) (grind (arith, nat_tests, within_test))
    (λ i below. rising_at numbers n i two.1 below) inside

names_if : (test : Bool) (count : ℕ) (text numbers : List ℕ) → (nat_le count 17 && is_rising 0 (take count text)) ≡ test
    → (if test then Some (take count text) else None) ≡ Some numbers → (length numbers ≤ 17) × (is_rising 0 numbers ≡ true)
names_if true count text numbers is found =
    let both = both_true (nat_le count 17) (is_rising 0 (take count text)) is in
    let few_test : nat_le count 17 ≡ true = both.0 in
    let few : count ≤ 17 = grind (arith, nat_tests, few_test) in
    let same : take count text ≡ numbers = cc in
    (subst (λ (l : List ℕ). length l ≤ 17) same (omega (arith, length-take count text)), sym (ap (is_rising 0) same) ∙ both.1)
names_if false count text numbers is found = cc

-- a header's numbers are at most 17, and rise
pub names_rise : (page numbers : List ℕ) → numbers_in page ≡ Some numbers → (length numbers ≤ 17) × (is_rising 0 numbers ≡ true)
names_rise [] numbers found = cc
names_rise (count ∷ text) numbers found = names_if (nat_le count 17 && is_rising 0 (take count text)) count text numbers refl found

-- the home under these blocks gives the state
abbrev pub Left : List Block → List ℕ → List (List ℕ) → Type 0
Left blocks state pages = state_in (bytes_of_pages (overlaid blocks (take 17 pages))) ≡ Some state

left_step : (block : Block) (blocks : List Block) (state : List ℕ) (place : ℕ) (pages : List (List ℕ)) (old : List ℕ) → block.page ≡ place + 1 → place < 17
    → get_or pages place [] ≡ block.bytes → Left (block ∷ blocks) state (set pages place old) → Left blocks state pages
left_step block blocks state place pages old named inside is so_far =
    let home : List (List ℕ) = take 17 pages in
    let here : block.page - 1 ≡ place = omega arith in
    let given : get_or home place [] ≡ block.bytes = get_or-take 17 pages place [] inside ∙ is in
    let same : set (take 17 (set pages place old)) (block.page - 1) block.bytes ≡ home =
    ap (λ (p : ℕ). set (take 17 (set pages place old)) p block.bytes) here
    ∙ ap (λ (l : List (List ℕ)). set l place block.bytes) (take_set 17 place pages old)
    ∙ set-set home place old block.bytes
    ∙ ap (set home place) (sym given)
    ∙ set-get_or home place [] in
    ap (λ (l : List (List ℕ)). state_in (bytes_of_pages (overlaid blocks l))) (sym same) ∙ so_far

-- each block is for a page of the home
abbrev pub AtHome : List Block → Type 0
AtHome [] = Unit {0}
AtHome (block ∷ blocks) = (1 ≤ block.page) × (block.page ≤ 17) × AtHome blocks

-- pages of the home are pages of the memory
pub home_within : (blocks : List Block) → AtHome blocks → (k : ℕ) (d : Block) → k < length blocks → (get_or blocks k d).page < 64
home_within [] at_home k d inside = absurd (omega arith)
home_within (b ∷ blocks) at_home zero d inside = let to : b.page ≤ 17 = at_home.1 in omega arith
home_within (b ∷ blocks) at_home (suc k) d inside = home_within blocks at_home.2 k d (omega arith)

-- once all blocks are written, the home gives the state by itself
pub left_all : (blocks : List Block) (old new : Memory) (state : List ℕ) → length old.cells ≡ 64 → AtHome blocks → Says (Left blocks state) old.cells
    → WritesAll old blocks new → StandUnderBit new.cells 0 state
left_all [] old new state size at_home says all = subst (λ (c : Cells). StandUnderBit c 0 state) (sym (ap (λ (m : Memory). m.cells) all)) says
left_all (b ∷ blocks) old new state size at_home says all =
    let place : ℕ = b.page - 1 in
    let from : 1 ≤ b.page = at_home.0 in
    let to : b.page ≤ 17 = at_home.1 in
    let named : b.page ≡ place + 1 = omega arith in
    left_all blocks (page_written old b.page b.bytes) new state (length-set old.cells b.page (map Some b.bytes) ∙ size) at_home.2
    (says_written (Left (b ∷ blocks) state) (Left blocks state) old.cells b.page place b.bytes named (omega (arith, length-drop 1 old.cells))
    (λ pages page is. left_step b blocks state place pages page named (omega arith) is) says)
    all.1

-- behind an open gate: what the pages say of the header's numbers, and of the state
pub record Shows (numbers state : List ℕ) (pages : List (List ℕ)) : Type 0 where
  pub size : length pages ≡ 63
  pub names : numbers_in (get_or pages 17 []) ≡ Some numbers
  pub gives : Left (paired numbers (drop 18 pages)) state pages

pub shows_stands : (numbers state : List ℕ) (cells : Cells) → Says (Shows numbers state) cells → StandUnderBit cells 1 state
shows_stands numbers state cells says = λ pages reading.
    let shows = says pages reading in ap (λ (o : Option (List ℕ)). replayed o pages) shows.names ∙ shows.gives

-- a home page that the header names isn't looked at
pub shows_ignores : (numbers state : List ℕ) (k place : ℕ) → k < length numbers → length numbers ≤ 17 → get_or numbers k 0 ≡ place + 1 → place < 17
    → (pages : List (List ℕ)) (bytes : List ℕ) → Shows numbers state (set pages place bytes) → Shows numbers state pages
shows_ignores numbers state k place inside few named below pages bytes shows =
    let size : length pages ≡ 63 = sym (length-set pages place bytes) ∙ shows.size in
    let other : 17 ≢ place = λ e. absurd (omega (arith, e)) in
    let journal : drop 18 (set pages place bytes) ≡ drop 18 pages = drop-set-lt 18 pages place bytes (omega arith) in
    let enough : length numbers ≤ length (drop 18 pages) = omega (arith, length-drop 18 pages) in
    record {
      size = size;
      names = ap numbers_in (sym (get_or-set_other pages place 17 bytes [] other)) ∙ shows.names;
      gives =
          ap (λ (l : List (List ℕ)). state_in (bytes_of_pages l))
          (sym (overlaid_ignores k place numbers (drop 18 pages) (take 17 pages) bytes inside enough named)
          ∙ ap (overlaid (paired numbers (drop 18 pages))) (sym (take_set 17 place pages bytes))
          ∙ ap (λ (l : List (List ℕ)). overlaid (paired numbers l) (take 17 (set pages place bytes))) (sym journal))
          ∙ shows.gives;
    }

pub keep_paired : (P : Cells → Type 0) (numbers : List ℕ) (journal : List (List ℕ)) → ((k : ℕ) → k < length numbers → Keeps P (get_or numbers k 0))
    → AllKeep P (paired numbers journal)
keep_paired P [] journal keeps = tt
keep_paired P (n ∷ numbers) [] keeps = tt
keep_paired P (n ∷ numbers) (j ∷ journal) keeps = (keeps 0 (omega arith), keep_paired P numbers journal (λ k below. keeps (suc k) (omega arith)))

pub home_paired : (numbers : List ℕ) (journal : List (List ℕ)) → ((k : ℕ) → k < length numbers → (0 < get_or numbers k 0) × (get_or numbers k 0 ≤ 17))
    → AtHome (paired numbers journal)
home_paired [] journal each = tt
home_paired (n ∷ numbers) [] each = tt
home_paired (n ∷ numbers) (j ∷ journal) each =
    let here = each 0 (omega arith) in
    let from : 0 < n = here.0 in
    (omega arith, here.1, home_paired numbers journal (λ k below. each (suc k) (omega arith)))

pub paired_few : (numbers : List ℕ) (journal : List (List ℕ)) → length (paired numbers journal) ≤ length numbers
paired_few [] journal = omega arith
paired_few (n ∷ numbers) [] = omega arith
paired_few (n ∷ numbers) (j ∷ journal) = omega (arith, paired_few numbers journal)
