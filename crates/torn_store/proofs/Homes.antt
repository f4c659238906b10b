-- A home that is read as far as its state reaches.
use Rattle.std.proofs.Common.{◌≡◌, ◌<◌, ◌≤◌, ◌+◌, ◌*◌, ◌/◌, ◌%◌, ℕ, zero, suc, List, [], ◌∷◌, ◌++◌, length, get_or, take, drop, map, replicate, refl, ap, sym, ◌∙◌, arith, Option, Some, None, IsSome}
use Rattle.std.proofs.Math.Seq.{take-append-add}
use Rattle.std.proofs.lemmas.List.{get_or-take}
use Rattle.emv_ports.specs.Memory.{Memory}
use Rattle.torn_store.specs.Layout.{bytes_of_pages, framed, state_in, recover_at}
use Rattle.torn_store.specs.Store.{IsOn}
use Rattle.torn_store.proofs.Frames.{frame_found, state_found, found_reads}
use Rattle.torn_store.proofs.Replaying.{shown_sized}
use Rattle.torn_store.proofs.Sizes.{Sized, sized_count, sized_take, sized_drop, joined_long}

pub the_some : {X : Type 0} (o : Option X) → IsSome o → (x : X) × (o ≡ Some x)
the_some (Some x) is = (x, refl)
the_some None is = (cc)

-- the bytes of some pages are the first bytes of more
joined_take : (n m : ℕ) (pages : List (List ℕ)) → Sized n pages → m ≤ n → take (64 * m) (bytes_of_pages pages) ≡ bytes_of_pages (take m pages)
joined_take n zero pages sized few = let none : 64 * 0 ≡ 0 = omega arith in ap (λ (k : ℕ). take k (bytes_of_pages pages)) none
joined_take zero (suc m) pages sized few = absurd (omega arith)
joined_take (suc n) (suc m) [] sized few = (cc)
joined_take (suc n) (suc m) (page ∷ pages) sized few =
    let long : length page ≡ 64 = cc in
    let rest : map length pages ≡ replicate n 64 = cc in
    let count : 64 * suc m ≡ length page + 64 * m = omega arith in
    ap (λ (k : ℕ). take k (page ++ bytes_of_pages pages)) count ∙ take-append-add page (bytes_of_pages pages) (64 * m)
    ∙ ap (λ (l : List ℕ). page ++ l) (joined_take n m pages rest (omega arith))

take_within : (n m : ℕ) (xs : List ℕ) → n ≤ m → take n (take m xs) ≡ take n xs
take_within zero m xs few = refl
take_within (suc n) zero xs few = absurd (omega arith)
take_within (suc n) (suc m) [] few = refl
take_within (suc n) (suc m) (x ∷ xs) few = ap (λ (l : List ℕ). x ∷ l) (take_within n m xs (omega arith))

module _ (memory : Memory) (on : IsOn memory) (state : List ℕ) (found : recover_at 0 (drop 1 memory.shown) ≡ Some state) where
  abbrev home_pages : List (List ℕ)
  home_pages = take 17 (drop 1 memory.shown)

  abbrev home : List ℕ
  home = bytes_of_pages home_pages

  home_sized : Sized 17 home_pages
  home_sized = sized_take 63 17 (drop 1 memory.shown) (omega arith) (sized_drop 63 1 memory.shown (shown_sized memory on))

  home_long : length home ≡ 1088
  home_long = joined_long 17 home_pages home_sized

  same_front : (bytes : List ℕ) (count n : ℕ) → count ≤ 17 → n ≤ 64 * count → take (64 * count) bytes ≡ bytes_of_pages (take count home_pages)
      → take n bytes ≡ take n home
  same_front bytes count n few inside front =
      sym (take_within n (64 * count) bytes inside) ∙ ap (take n) (front ∙ sym (joined_take 17 count home_pages home_sized few))
      ∙ take_within n (64 * count) home inside

  first_at : (bytes : List ℕ) (i : ℕ) → i < 2 → take (64 * 1) bytes ≡ bytes_of_pages (take 1 home_pages) → get_or bytes i 0 ≡ get_or (framed state) i 0
  first_at bytes i below front =
      let size : length (framed state) ≡ length state + 2 = omega arith in
      sym (get_or-take 2 bytes i 0 below) ∙ ap (λ (l : List ℕ). get_or l i 0) (same_front bytes 1 2 (omega arith) (omega arith) front)
      ∙ get_or-take 2 home i 0 below ∙ found_reads home state (omega (arith, home_long)) found i (omega arith)

  -- the length at the front of the home
  pub length_at : (bytes : List ℕ) → take (64 * 1) bytes ≡ bytes_of_pages (take 1 home_pages)
      → (get_or bytes 0 0 * 256 + get_or bytes 1 0 ≡ length state) × (length state ≤ 1024)
  length_at bytes front =
      let high : get_or bytes 0 0 ≡ length state / 256 = first_at bytes 0 (omega arith) front in
      let low : get_or bytes 1 0 ≡ length state % 256 = first_at bytes 1 (omega arith) front in
      (omega (arith, high, low), (frame_found home state (omega (arith, home_long)) found).0)

  -- the pages that the length wants give the state
  pub state_read : (bytes : List ℕ) (count : ℕ) → length bytes ≡ 1088 → count ≤ 17 → length state + 2 ≤ 64 * count
      → take (64 * count) bytes ≡ bytes_of_pages (take count home_pages) → state_in bytes ≡ Some state
  state_read bytes count long few enough front =
      let whole = frame_found home state (omega (arith, home_long)) found in
      state_found bytes state whole.0 (omega arith) (same_front bytes count (length state + 2) few enough front ∙ whole.1)

pub home_size : (memory : Memory) → IsOn memory → length memory.shown ≡ 64
home_size memory on = sized_count 64 memory.shown (shown_sized memory on)
