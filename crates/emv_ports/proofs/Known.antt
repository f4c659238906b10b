-- Pages that have no unsure cell.
use Rattle.std.proofs.Common.{◌≡◌, ◌<◌, ◌≤◌, ◌+◌, ℕ, zero, suc, List, [], ◌∷◌, length, map, take, get_or, IsTrue, Bool, true, false, refl, ap, sym, ◌∙◌, subst, arith}
use Rattle.std.proofs.Math.ListN.{set}
use Rattle.std.proofs.lemmas.List.{take_all, take_more_set, map_more}
use Rattle.std.specs.Prelude.{◌&&◌, ◌||◌, ◌==◌}
use Rattle.std.proofs.lemmas.Bool.Decides.{nat_tests}
use Rattle.std.specs.List.{list_all}
use Rattle.emv_ports.specs.Cell.{sure_of, is_sure, settled_from, gives_byte, is_page, is_sure_page}
use Rattle.emv_ports.specs.declared.memory_pages.Cell.{Cell}
use Rattle.emv_ports.specs.declared.memory_pages.Cell.TheVariants.{Sure, Unsure}
use Rattle.emv_ports.proofs.Cells.{settled_from-sure, and_true}

both_true : (p q : Bool) → IsTrue p → IsTrue q → IsTrue (p && q)
both_true true true one other = refl
both_true true false one other = (cc)
both_true false q one other = (cc)

pub sure_page : (cells : List Cell) → IsTrue (is_page cells) → IsTrue (list_all is_sure cells) → IsTrue (is_sure_page cells)
sure_page cells page sure = both_true (is_page cells) (list_all is_sure cells) page sure

all_sure : (bytes : List ℕ) → IsTrue (list_all is_sure (map Sure bytes))
all_sure [] = refl
all_sure (byte ∷ bytes) = all_sure bytes

written_sure : (bytes : List ℕ) (cells : List Cell) → cells ≡ map Sure bytes → IsTrue (is_page cells) → IsTrue (is_sure_page cells)
written_sure bytes cells is page =
    sure_page cells page (subst (λ (l : List Cell). IsTrue (list_all is_sure l)) (sym is) (all_sure bytes))

-- a power-up changes none of them
pub all_settled : (power_up : ℕ) (pages : List (List Cell)) → IsTrue (list_all is_sure_page pages) → map (settled_from power_up 0) pages ≡ pages
all_settled power_up [] sure = refl
all_settled power_up (page ∷ pages) sure =
    let both = and_true (is_sure_page page) (list_all is_sure_page pages) sure in
    let here = and_true (is_page page) (list_all is_sure page) both.0 in
    ap (λ (p : List Cell). p ∷ map (settled_from power_up 0) pages) (settled_from-sure power_up 0 page here.1)
    ∙ ap (λ (l : List (List Cell)). page ∷ l) (all_settled power_up pages both.1)

pub all_pages : (pages : List (List Cell)) → IsTrue (list_all is_sure_page pages) → IsTrue (list_all is_page pages)
all_pages [] sure = refl
all_pages (page ∷ pages) sure =
    let both = and_true (is_sure_page page) (list_all is_sure_page pages) sure in
    let here = and_true (is_page page) (list_all is_sure page) both.0 in
    both_true (is_page page) (list_all is_page pages) here.0 (all_pages pages both.1)

pub set_sure : (pages : List (List Cell)) (i : ℕ) (page : List Cell) → IsTrue (list_all is_sure_page pages) → IsTrue (is_sure_page page)
    → IsTrue (list_all is_sure_page (set pages i page))
set_sure [] i page sure here = refl
set_sure (first ∷ pages) zero page sure here =
    both_true (is_sure_page page) (list_all is_sure_page pages) here (and_true (is_sure_page first) (list_all is_sure_page pages) sure).1
set_sure (first ∷ pages) (suc i) page sure here =
    let both = and_true (is_sure_page first) (list_all is_sure_page pages) sure in
    both_true (is_sure_page first) (list_all is_sure_page (set pages i page)) both.0 (set_sure pages i page both.1 here)

same_cells : (old new : List Cell) → map sure_of new ≡ map sure_of old → IsTrue (list_all is_sure old) → new ≡ old
same_cells [] [] same sure = refl
same_cells [] (n ∷ new) same sure = (cc)
same_cells (o ∷ old) [] same sure = (cc)
same_cells (Sure b ∷ old) (Sure c ∷ new) same sure =
    let rest : map sure_of new ≡ map sure_of old = cc in
    let byte : c ≡ b = cc in
    ap (λ (x : ℕ). Sure x ∷ new) byte ∙ ap (λ (l : List Cell). Sure b ∷ l) (same_cells old new rest sure)
same_cells (Sure b ∷ old) (Unsure t k g ∷ new) same sure = (cc)
same_cells (Unsure t k g ∷ old) (n ∷ new) same sure = (cc)

-- pages with the same sure cells, where all are sure, are the same
pub same_pages : (old new : List (List Cell)) → map (map sure_of) new ≡ map (map sure_of) old → IsTrue (list_all is_sure_page old) → new ≡ old
same_pages [] [] same sure = refl
same_pages [] (n ∷ new) same sure = (cc)
same_pages (o ∷ old) [] same sure = (cc)
same_pages (o ∷ old) (n ∷ new) same sure =
    let rest : map (map sure_of) new ≡ map (map sure_of) old = cc in
    let here : map sure_of n ≡ map sure_of o = cc in
    let both = and_true (is_sure_page o) (list_all is_sure_page old) sure in
    let one = and_true (is_page o) (list_all is_sure o) both.0 in
    ap (λ (l : List Cell). l ∷ new) (same_cells o n here one.1) ∙ ap (λ (l : List (List Cell)). o ∷ l) (same_pages old new rest both.1)

pub still_sure : (old new : List (List Cell)) → map (map sure_of) new ≡ map (map sure_of) old → IsTrue (list_all is_sure_page old)
    → IsTrue (list_all is_sure_page new)
still_sure old new same sure = subst (λ (l : List (List Cell)). IsTrue (list_all is_sure_page l)) (sym (same_pages old new same sure)) sure

pub sure_end : (i : ℕ) (pages : List (List Cell)) → 64 ≤ i → length pages ≡ 64 → IsTrue (list_all is_sure_page (take i pages))
    → IsTrue (list_all is_sure_page pages)
sure_end i pages past long sure =
    let all : take i pages ≡ pages = take_all i pages (omega (arith, long)) in
    subst (λ (l : List (List Cell)). IsTrue (list_all is_sure_page l)) all sure

pub neither_true : (p q : Bool) → (p || q) ≡ false → (p ≡ false) × (q ≡ false)
neither_true true q none = (cc)
neither_true false true none = (cc)
neither_true false false none = (refl, refl)

pub sure_step : (i : ℕ) (cells : List Cell) (bytes : List ℕ) (byte : ℕ) → i < length cells → i < length bytes
    → take i cells ≡ map Sure (take i bytes) → byte ≡ get_or bytes i 0 → take (i + 1) (set cells i (Sure byte)) ≡ map Sure (take (i + 1) bytes)
sure_step i cells bytes byte inside in_bytes so_far is =
    rw (take_more_set cells i (Sure byte) inside, map_more Sure bytes i 0 in_bytes, so_far, is) refl

pub written_page : (i : ℕ) (cells : List Cell) (bytes : List ℕ) → 64 ≤ i → length cells ≡ 64
    → take i cells ≡ map Sure (take i bytes) → IsTrue (list_all gives_byte (take i cells)) → IsTrue (is_sure_page cells)
written_page i cells bytes past long is gives =
    let all : take i cells ≡ cells = take_all i cells (omega (arith, long)) in
    let here : IsTrue (list_all gives_byte cells) = subst (λ (l : List Cell). IsTrue (list_all gives_byte l)) all gives in
    let counted : IsTrue (length cells == 64) = rw long refl in
    written_sure (take i bytes) cells (sym all ∙ is) (both_true (length cells == 64) (list_all gives_byte cells) counted here)

pub byte_fits : (byte : ℕ) → byte < 256 → IsTrue (gives_byte (Sure byte))
byte_fits byte fits = grind (arith, nat_tests)
