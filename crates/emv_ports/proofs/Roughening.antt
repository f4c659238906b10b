-- The unsure cells of a page, and of all pages, as far as they give their rough bytes.
use Rattle.std.proofs.Common.{suc, zero, ◌≡◌, ◌<◌, ◌≤◌, ◌+◌, ℕ, List, [], ◌∷◌, length, get_or, map, take, refl, ap, sym, ◌∙◌, arith, Option, Some, None, unwrap_or}
use Rattle.std.proofs.Math.ListN.{set}
use Rattle.std.proofs.Math.Seq.{map-set_same}
use Rattle.std.proofs.lemmas.List.{take_more_set, take_more, take_all, get_or-map, length-map, length-set, map-set}
use Rattle.std.specs.List.{AllZip}
use Rattle.emv_ports.specs.Memory.{Memory, PowersUp}
use Rattle.emv_ports.specs.PageReading.{Agrees, Reading}
use Rattle.emv_ports.specs.Cell.{sure_of, given_of}
use Rattle.emv_ports.specs.Rough.{rough_byte, rough_page, rough_pages}
use Rattle.emv_ports.specs.declared.memory_pages.Cell.{Cell}

-- each of the first n is what it should be
pub record SoFar {X Y Z : Type 0} (f : X → Y) (g : X → Z) (old : List X) (wanted : List Z) (n : ℕ) (new : List X) : Type 0 where
  pub long : length new ≡ 64
  pub same : map f new ≡ map f old
  pub front : take n (map g new) ≡ take n wanted

so_far_step : {X Y Z : Type 0} (f : X → Y) (g : X → Z) (old : List X) (wanted : List Z) (i : ℕ) (new : List X) (x d : X) (e : Z)
    → i < 64 → length wanted ≡ 64 → SoFar f g old wanted i new → f x ≡ f (get_or new i d) → g x ≡ get_or wanted i e
    → SoFar f g old wanted (i + 1) (set new i x)
so_far_step f g old wanted i new x d e inside long so_far same is =
    let in_new : i < length (map g new) = omega (arith, length-map new g, so_far.long) in
    let in_wanted : i < length wanted = omega (arith, long) in
    record {
      long = length-set new i x ∙ so_far.long;
      same = map-set_same f new i x d same ∙ so_far.same;
      front = rw (map-set g new i x, take_more_set (map g new) i (g x) in_new, take_more wanted i e in_wanted, so_far.front, is) refl;
    }

so_far_end : {X Y Z : Type 0} (f : X → Y) (g : X → Z) (old : List X) (wanted : List Z) (i : ℕ) (new : List X)
    → 64 ≤ i → length wanted ≡ 64 → SoFar f g old wanted i new → map g new ≡ wanted
so_far_end f g old wanted i new past long so_far =
    sym (take_all i (map g new) (omega (arith, length-map new g, so_far.long))) ∙ so_far.front ∙ take_all i wanted (omega (arith, long))

length-rough_page : (word power_up page n : ℕ) (cells : List (Option ℕ)) → length (rough_page word power_up page n cells) ≡ length cells
length-rough_page word power_up page n [] = refl
length-rough_page word power_up page n (cell ∷ cells) = ap suc (length-rough_page word power_up page (n + 1) cells)

length-rough_pages : (word power_up page : ℕ) (pages : List (List (Option ℕ))) → length (rough_pages word power_up page pages) ≡ length pages
length-rough_pages word power_up page [] = refl
length-rough_pages word power_up page (cells ∷ pages) = ap suc (length-rough_pages word power_up (page + 1) pages)

rough_page_at : (word power_up page n i k : ℕ) (cells : List (Option ℕ)) → k ≡ n + i → i < length cells
    → get_or (rough_page word power_up page n cells) i 0 ≡ unwrap_or (get_or cells i None) (rough_byte word power_up page k)
rough_page_at word power_up page n i k [] at inside = absurd (omega arith)
rough_page_at word power_up page n zero k (cell ∷ cells) at inside = let here : n ≡ k = omega arith in
    ap (λ (m : ℕ). unwrap_or cell (rough_byte word power_up page m)) here
rough_page_at word power_up page n (suc i) k (cell ∷ cells) at inside =
    rough_page_at word power_up page (n + 1) i k cells (omega arith) (omega arith)

rough_pages_at : (word power_up page i k : ℕ) (pages : List (List (Option ℕ))) → k ≡ page + i → i < length pages
    → get_or (rough_pages word power_up page pages) i [] ≡ rough_page word power_up k 0 (get_or pages i [])
rough_pages_at word power_up page i k [] at inside = absurd (omega arith)
rough_pages_at word power_up page zero k (cells ∷ pages) at inside = let here : page ≡ k = omega arith in
    ap (λ (m : ℕ). rough_page word power_up m 0 cells) here
rough_pages_at word power_up page (suc i) k (cells ∷ pages) at inside =
    rough_pages_at word power_up (page + 1) i k pages (omega arith) (omega arith)

abbrev pub PageSoFar : ℕ → ℕ → ℕ → List Cell → ℕ → List Cell → Type 0
PageSoFar word power_up page old = SoFar sure_of given_of old (rough_page word power_up page 0 (map sure_of old))

pub page_step : (word power_up page i byte : ℕ) (old new : List Cell) (cell d : Cell) → i < 64 → length old ≡ 64
    → PageSoFar word power_up page old i new → byte ≡ rough_byte word power_up page i
    → sure_of cell ≡ sure_of (get_or new i d) → given_of cell ≡ unwrap_or (sure_of (get_or new i d)) byte
    → PageSoFar word power_up page old (i + 1) (set new i cell)
page_step word power_up page i byte old new cell d inside long so_far rough sure given =
    let in_new : i < length new = omega (arith, so_far.long) in
    let in_old : i < length (map sure_of old) = omega (arith, length-map old sure_of, long) in
    let here : sure_of (get_or new i d) ≡ get_or (map sure_of old) i None =
    sym (get_or-map sure_of new i d None in_new) ∙ ap (λ (l : List (Option ℕ)). get_or l i None) so_far.same in
    so_far_step sure_of given_of old _ i new cell d 0 inside (length-rough_page word power_up page 0 (map sure_of old) ∙ length-map old sure_of ∙ long) so_far sure
    (given ∙ ap (λ (o : Option ℕ). unwrap_or o byte) here ∙ ap (λ (b : ℕ). unwrap_or (get_or (map sure_of old) i None) b) rough
    ∙ sym (rough_page_at word power_up page 0 i i (map sure_of old) (omega arith) in_old))

pub page_end : (word power_up page i : ℕ) (old new : List Cell) → 64 ≤ i → length old ≡ 64 → PageSoFar word power_up page old i new
    → map given_of new ≡ rough_page word power_up page 0 (map sure_of old)
page_end word power_up page i old new past long so_far =
    so_far_end sure_of given_of old _ i new past (length-rough_page word power_up page 0 (map sure_of old) ∙ length-map old sure_of ∙ long) so_far

abbrev pub PagesSoFar : ℕ → ℕ → List (List Cell) → ℕ → List (List Cell) → Type 0
PagesSoFar word power_up old = SoFar (map sure_of) (map given_of) old (rough_pages word power_up 0 (map (map sure_of) old))

pub pages_step : (word power_up i : ℕ) (old new : List (List Cell)) (page : List Cell) → i < 64 → length old ≡ 64
    → PagesSoFar word power_up old i new → map sure_of page ≡ map sure_of (get_or new i [])
    → map given_of page ≡ rough_page word power_up i 0 (map sure_of (get_or new i []))
    → PagesSoFar word power_up old (i + 1) (set new i page)
pages_step word power_up i old new page inside long so_far sure given =
    let in_new : i < length new = omega (arith, so_far.long) in
    let in_old : i < length (map (map sure_of) old) = omega (arith, length-map old (map sure_of), long) in
    let here : map sure_of (get_or new i []) ≡ get_or (map (map sure_of) old) i [] =
    sym (get_or-map (map sure_of) new i [] [] in_new) ∙ ap (λ (l : List (List (Option ℕ))). get_or l i []) so_far.same in
    so_far_step (map sure_of) (map given_of) old _ i new page [] [] inside
    (length-rough_pages word power_up 0 (map (map sure_of) old) ∙ length-map old (map sure_of) ∙ long) so_far sure
    (given ∙ ap (rough_page word power_up i 0) here ∙ sym (rough_pages_at word power_up 0 i i (map (map sure_of) old) (omega arith) in_old))

pub pages_end : (word power_up i : ℕ) (old new : List (List Cell)) → 64 ≤ i → length old ≡ 64 → PagesSoFar word power_up old i new
    → map (map given_of) new ≡ rough_pages word power_up 0 (map (map sure_of) old)
pages_end word power_up i old new past long so_far =
    so_far_end (map sure_of) (map given_of) old _ i new past (length-rough_pages word power_up 0 (map (map sure_of) old) ∙ length-map old (map sure_of) ∙ long) so_far

reads_page : (word power_up page n : ℕ) (cells : List (Option ℕ)) → AllZip Agrees cells (rough_page word power_up page n cells)
reads_page word power_up page n [] = tt
reads_page word power_up page n (Some sure ∷ cells) = (refl, reads_page word power_up page (n + 1) cells)
reads_page word power_up page n (None ∷ cells) = (omega arith, reads_page word power_up page (n + 1) cells)

reads_pages : (word power_up page : ℕ) (pages : List (List (Option ℕ))) → Reading pages (rough_pages word power_up page pages)
reads_pages word power_up page [] = tt
reads_pages word power_up page (cells ∷ pages) = (reads_page word power_up page 0 cells, reads_pages word power_up (page + 1) pages)

-- behind a power-up the unsure cells may give their rough bytes
pub roughly_up : (word power_up : ℕ) (old new : Memory) → PowersUp old new
    → PowersUp old (record new { shown = rough_pages word power_up 0 new.cells })
roughly_up word power_up old new up = record {
  turned_on = ap (λ (m : Memory). let n : Memory = record m { shown = rough_pages word power_up 0 new.cells } in n) up.turned_on;
  pages = up.pages;
  page_cells = up.page_cells;
  reading = reads_pages word power_up 0 new.cells;
  plan = up.plan;
}
