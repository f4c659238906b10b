-- What a write of the first page, or of a page behind it, does to the states that pages stand for.
-- `recover_at` reads the pages behind the first under the bit of the first.
use Rattle.std.proofs.Common.{◌≡◌, ◌<◌, ◌+◌, ◌%◌, ◌⊎◌, ℕ, List, [], ◌∷◌, length, get_or, drop, map, refl, ap, sym, ◌∙◌, subst, arith, Option, Some, None, inl, inr, Bool, true, false, ◌==◌}
use Rattle.std.specs.Prelude.{if◌then◌else◌, Contains}
use Rattle.std.proofs.Math.ListN.{set}
use Rattle.std.proofs.lemmas.Bool.{eqb-true, eqb-false}
use Rattle.std.proofs.lemmas.Bool.Decides.{nat_tests}
use Rattle.std.proofs.lemmas.List.{drop-set-add, get_or-set_same, length-set}
use Rattle.emv_ports.specs.PageReading.{Agrees, Reading}
use Rattle.emv_ports.specs.Memory.{torn_page}
use Rattle.torn_store.specs.Recovery.{lowest, first_cell, IsBit, Laid, Holds, Among}
use Rattle.torn_store.proofs.Readings.{PageReading, some_page, sure_page, reading_at, reading_rest, reading_back}
use Rattle.torn_store.proofs.Rows.{Cells}

same_test : (a b : ℕ) → a ≡ b → (a == b) ≡ true
same_test a b equal = grind (arith, nat_tests)

lowest_small : (bytes : List (List ℕ)) → lowest bytes < 2
lowest_small bytes = omega arith

one_of_test : (bit one other : ℕ) (same : Bool) → (bit == one) ≡ same → bit < 2 → one + other ≡ 1 → (bit ≡ one) ⊎ (bit ≡ other)
one_of_test bit one other true is small together = inl (eqb-true bit one is)
one_of_test bit one other false is small together = inr (let differ = eqb-false bit one is in grind arith)

one_of : (bit one other : ℕ) → bit < 2 → one + other ≡ 1 → (bit ≡ one) ⊎ (bit ≡ other)
one_of bit one other small together = one_of_test bit one other (bit == one) refl small together

-- what each reading of the pages behind the first says
abbrev pub Says : (List (List ℕ) → Type 0) → Cells → Type 0
Says P cells = (pages : List (List ℕ)) → Reading (drop 1 cells) pages → P pages

-- a write of the first page, whole or torn, changes nothing behind it
rest_of_first : (cells : Cells) (page : List (Option ℕ)) → drop 1 (set cells 0 page) ≡ drop 1 cells
rest_of_first [] page = refl
rest_of_first (c ∷ cells) page = refl

pub says_behind_first : (P : List (List ℕ) → Type 0) (cells : Cells) (page : List (Option ℕ)) → Says P cells → Says P (set cells 0 page)
says_behind_first P cells page says = λ pages reading. says pages (subst (λ (c : Cells). Reading c pages) (rest_of_first cells page) reading)

rest_of_other : (cells : Cells) (number place : ℕ) (page : List (Option ℕ)) → number ≡ place + 1 → drop 1 (set cells number page) ≡ set (drop 1 cells) place page
rest_of_other cells number place page is =
    let here : number ≡ 1 + place = omega arith in ap (λ (n : ℕ). drop 1 (set cells n page)) here ∙ drop-set-add 1 cells place page

-- the page at this place isn't looked at
abbrev pub Ignores : (List (List ℕ) → Type 0) → ℕ → Type 0
Ignores P place = (pages : List (List ℕ)) (bytes : List ℕ) → P (set pages place bytes) → P pages

-- a page behind the first that isn't looked at may be written, whole or torn
pub says_elsewhere : (P : List (List ℕ) → Type 0) (cells : Cells) (number place : ℕ) (page : List (Option ℕ)) → number ≡ place + 1 → Ignores P place
    → Says P cells → Says P (set cells number page)
says_elsewhere P cells number place page is ignores says = λ pages reading.
    let old = some_page (get_or (drop 1 cells) place []) in
    ignores pages old.0
    (says (set pages place old.0)
    (reading_back (drop 1 cells) pages place page old.0 (subst (λ (c : Cells). Reading c pages) (rest_of_other cells number place page is) reading) old.1))

sure_at : (cells : Cells) (pages : List (List ℕ)) (place : ℕ) (bytes : List ℕ) → Reading (set cells place (map Some bytes)) pages → place < length cells
    → get_or pages place [] ≡ bytes
sure_at cells pages place bytes reading inside =
    sure_page bytes (get_or pages place [])
    (subst (λ (c : List (Option ℕ)). PageReading c (get_or pages place [])) (get_or-set_same cells place (map Some bytes) [] inside)
    (reading_at (set cells place (map Some bytes)) pages place reading (omega (arith, length-set cells place (map Some bytes)))))

-- a page that is written whole gives its bytes
pub says_written : (P Q : List (List ℕ) → Type 0) (cells : Cells) (number place : ℕ) (bytes : List ℕ) → number ≡ place + 1 → place < length (drop 1 cells)
    → ((pages : List (List ℕ)) (old : List ℕ) → get_or pages place [] ≡ bytes → P (set pages place old) → Q pages)
    → Says P cells → Says Q (set cells number (map Some bytes))
says_written P Q cells number place bytes is inside step says = λ pages reading.
    let old = some_page (get_or (drop 1 cells) place []) in
    let there : Reading (set (drop 1 cells) place (map Some bytes)) pages =
    subst (λ (c : Cells). Reading c pages) (rest_of_other cells number place (map Some bytes) is) reading in
    let back = reading_back (drop 1 cells) pages place (map Some bytes) old.0 there old.1 in
    let sure = sure_at (drop 1 cells) pages place bytes there inside in
    step pages old.0 sure (says (set pages place old.0) back)

module _ {S : Type 0} (recover_at : ℕ → List (List ℕ) → Option S) where
  abbrev pub gated : List (List ℕ) → Option S
  gated bytes = recover_at (lowest bytes) (drop 1 bytes)

  abbrev pub StandsFor : Cells → ℕ → S → Type 0
  StandsFor cells bit state = (pages : List (List ℕ)) → Reading (drop 1 cells) pages → recover_at bit pages ≡ Some state

  -- under one bit, the pages stand for one state at most
  pub same_under_bit : (cells : Cells) (bit : ℕ) (state : S) → StandsFor cells bit state → (one other : List (List ℕ))
      → Reading cells one → Reading cells other → lowest one ≡ bit → lowest other ≡ bit → gated one ≡ gated other
  same_under_bit cells bit state stands one other read_one read_other one_bit other_bit =
      ap (λ (b : ℕ). recover_at b (drop 1 one)) one_bit ∙ stands (drop 1 one) (reading_rest cells one read_one)
      ∙ sym (ap (λ (b : ℕ). recover_at b (drop 1 other)) other_bit ∙ stands (drop 1 other) (reading_rest cells other read_other))

  pub found_under_bit : (cells : Cells) (bit : ℕ) (state : S) → StandsFor cells bit state → (bytes : List (List ℕ)) → Reading cells bytes
      → lowest bytes ≡ bit → gated bytes ≡ Some state
  found_under_bit cells bit state stands bytes reading is =
      ap (λ (b : ℕ). recover_at b (drop 1 bytes)) is ∙ stands (drop 1 bytes) (reading_rest cells bytes reading)

  -- a first cell that is sure of a bit gives it
  pub sure_bit : (cells : Cells) (bit : ℕ) → first_cell cells ≡ Some bit → bit < 2 → (bytes : List (List ℕ)) → Reading cells bytes → lowest bytes ≡ bit
  sure_bit [] bit is small bytes reading = cc
  sure_bit ([] ∷ cells) bit is small bytes reading = cc
  sure_bit ((c ∷ page) ∷ cells) bit is small [] reading = absurd reading
  sure_bit ((c ∷ page) ∷ cells) bit is small ([] ∷ bytes) reading = absurd reading.0
  sure_bit ((Some sure ∷ page) ∷ cells) bit is small ((b ∷ read) ∷ bytes) reading =
      let same : sure ≡ bit = cc in
      let byte : b ≡ sure = reading.0.0 in
      let small_byte : b < 2 = rw (byte, same) small in
      omega arith
  sure_bit ((None ∷ page) ∷ cells) bit is small ((b ∷ read) ∷ bytes) reading = cc

  pub stands_holds : (cells : Cells) (bit : ℕ) (state : S) → first_cell cells ≡ Some bit → bit < 2 → StandsFor cells bit state → Holds gated cells state
  stands_holds cells bit state is small stands = record {
    laid = record {
      bit = subst IsBit (sym is) small;
      same = λ one other read_one read_other equal.
          same_under_bit cells bit state stands one other read_one read_other (sure_bit cells bit is small one read_one) (sure_bit cells bit is small other read_other);
    };
    each = λ bytes reading. found_under_bit cells bit state stands bytes reading (sure_bit cells bit is small bytes reading);
  }

  -- a first cell that is sure of a bit, under which the pages stand for one of the states
  pub stands_among : (cells : Cells) (bit : ℕ) (state : S) (states : List S) → first_cell cells ≡ Some bit → bit < 2 → StandsFor cells bit state
      → Contains states state → Among gated cells states
  stands_among cells bit state states is small stands one =
      let holds = stands_holds cells bit state is small stands in
      record { laid = holds.laid; each = λ bytes reading. (state, one, holds.each bytes reading) }

  -- under each bit the pages stand for one of the states, whichever bit the first cell gives
  pub both_among : (cells : Cells) (one other : ℕ) (before after : S) (states : List S) → IsBit (first_cell cells) → one + other ≡ 1
      → StandsFor cells one before → StandsFor cells other after → Contains states before → Contains states after → Among gated cells states
  both_among cells one other before after states bit together stands_before stands_after has_before has_after = record {
    laid = record {
      bit = bit;
      same = λ first second read_first read_second equal.
          elim (one_of (lowest first) one other (lowest_small first) together) [
            | inl is ↦ same_under_bit cells one before stands_before first second read_first read_second is (sym equal ∙ is)
            | inr is ↦ same_under_bit cells other after stands_after first second read_first read_second is (sym equal ∙ is)
          ];
    };
    each = λ bytes reading.
        elim (one_of (lowest bytes) one other (lowest_small bytes) together) [
          | inl is ↦ (before, has_before, found_under_bit cells one before stands_before bytes reading is)
          | inr is ↦ (after, has_after, found_under_bit cells other after stands_after bytes reading is)
        ];
  }

  bit_torn : (same : Bool) (sure : ℕ) → sure < 2 → IsBit (if same then Some sure else None)
  bit_torn true sure small = small
  bit_torn false sure small = tt

  pub first_torn : (cells : Cells) (bit : ℕ) (more : List ℕ) → IsBit (first_cell cells)
      → IsBit (first_cell (set cells 0 (torn_page (get_or cells 0 []) (bit ∷ more))))
  first_torn [] bit more is = is
  first_torn ([] ∷ cells) bit more is = is
  first_torn ((None ∷ page) ∷ cells) bit more is = tt
  first_torn ((Some sure ∷ page) ∷ cells) bit more is = bit_torn (sure == bit) sure is

  -- some reading of the cells gives the same bit and the same pages behind the first
  pub record Like (cells : Cells) (bytes : List (List ℕ)) : Type 0 where
    pub old : List (List ℕ)
    pub reading : Reading cells old
    pub bit : lowest old ≡ lowest bytes
    pub rest : drop 1 old ≡ drop 1 bytes

  agrees_torn : (same : Bool) (sure byte : ℕ) → same ≡ true → Agrees (if same then Some sure else None) byte → byte ≡ sure
  agrees_torn true sure byte is agrees = agrees
  agrees_torn false sure byte is agrees = cc

  -- The first page is torn while the bit is written that it gives: a first cell that was sure of the bit still is.
  pub torn_like : (cells : Cells) (bit : ℕ) (more : List ℕ) (shown : List (List ℕ)) → Reading cells shown → lowest shown ≡ bit
      → IsBit (first_cell cells) → (bytes : List (List ℕ)) → Reading (set cells 0 (torn_page (get_or cells 0 []) (bit ∷ more))) bytes → Like cells bytes
  torn_like [] bit more shown read_shown gives is bytes reading = record { old = bytes; reading = reading; bit = refl; rest = refl }
  torn_like ([] ∷ cells) bit more shown read_shown gives is bytes reading = record { old = bytes; reading = reading; bit = refl; rest = refl }
  torn_like ((c ∷ page) ∷ cells) bit more shown read_shown gives is [] reading = absurd reading
  torn_like ((c ∷ page) ∷ cells) bit more shown read_shown gives is ([] ∷ bytes) reading = absurd reading.0
  torn_like ((None ∷ page) ∷ cells) bit more shown read_shown gives is ((b ∷ read) ∷ bytes) reading =
      let there = some_page page in
      record { old = (b ∷ there.0) ∷ bytes; reading = ((reading.0.0, there.1), reading.1); bit = refl; rest = refl }
  torn_like ((Some sure ∷ page) ∷ cells) bit more [] read_shown gives is ((b ∷ read) ∷ bytes) reading = absurd read_shown
  torn_like ((Some sure ∷ page) ∷ cells) bit more ([] ∷ shown) read_shown gives is ((b ∷ read) ∷ bytes) reading = absurd read_shown.0
  torn_like ((Some sure ∷ page) ∷ cells) bit more ((s ∷ first) ∷ shown) read_shown gives is ((b ∷ read) ∷ bytes) reading =
      let there = some_page page in
      let byte : s ≡ sure = read_shown.0.0 in
      let named : sure ≡ bit = omega arith in
      let same : (sure == bit) ≡ true = same_test sure bit named in
      let torn : b ≡ sure = agrees_torn (sure == bit) sure b same reading.0.0 in
      record {
        old = (sure ∷ there.0) ∷ bytes;
        reading = ((refl, there.1), reading.1);
        bit = ap (λ (x : ℕ). x % 2) (sym torn);
        rest = refl;
      }

  like_gated : (cells : Cells) (bytes : List (List ℕ)) (like : Like cells bytes) → gated like.old ≡ gated bytes
  like_gated cells bytes like =
      ap (λ (b : ℕ). recover_at b (drop 1 like.old)) like.bit ∙ ap (λ (l : List (List ℕ)). recover_at (lowest bytes) l) like.rest

  pub like_among : (cells torn : Cells) (states : List S) → IsBit (first_cell torn) → ((bytes : List (List ℕ)) → Reading torn bytes → Like cells bytes)
      → Among gated cells states → Among gated torn states
  like_among cells torn states bit alike among = record {
    laid = record {
      bit = bit;
      same = λ one other read_one read_other equal.
          let like_one = alike one read_one in
          let like_other = alike other read_other in
          sym (like_gated cells one like_one)
          ∙ among.laid.same like_one.old like_other.old like_one.reading like_other.reading (like_one.bit ∙ equal ∙ sym like_other.bit)
          ∙ like_gated cells other like_other;
    };
    each = λ bytes reading.
        let like = alike bytes reading in
        let one = among.each like.old like.reading in
        (one.0, one.1, sym (like_gated cells bytes like) ∙ one.2);
  }

  nothing_else : (state : S) → gated [] ≡ Some state → StandsFor [] 0 state
  nothing_else state found [] reading = found
  nothing_else state found (p ∷ pages) reading = absurd reading

  -- what is read once is read each time under that bit
  pub read_stands : (cells : Cells) (shown : List (List ℕ)) (state : S) → Laid gated cells → Reading cells shown → gated shown ≡ Some state
      → StandsFor cells (lowest shown) state
  read_stands [] [] state laid reading found = nothing_else state found
  read_stands [] (s ∷ shown) state laid reading found = absurd reading
  read_stands (c ∷ cells) [] state laid reading found = absurd reading
  read_stands (c ∷ cells) (s ∷ shown) state laid reading found =
      λ pages read_pages. laid.same (s ∷ pages) (s ∷ shown) (reading.0, read_pages) reading refl ∙ found
