-- The pages as far as they were turned on.
use Rattle.std.proofs.Common.{◌≡◌, ◌<◌, ◌≤◌, ◌+◌, ℕ, List, [], length, map, take, drop, get_or, IsTrue, ap, sym, ◌∙◌, subst, arith, refl}
use Rattle.std.proofs.Math.ListN.{set}
use Rattle.std.proofs.lemmas.List.{take_more_set, map_more, get_or-drop, drop-drop, drop-set-lt, length-set, take_all}
use Rattle.emv_ports.proofs.Cells.{list_all_step}
use Rattle.std.specs.List.{list_all}
use Rattle.emv_ports.specs.Cell.{settled_from, is_page}
use Rattle.emv_ports.specs.declared.memory_pages.Cell.{Cell}

pub record Settling (power_up : ℕ) (old : List (List Cell)) (n : ℕ) (pages : List (List Cell)) : Type 0 where
  pub long : length pages ≡ 64
  pub front : take n pages ≡ map (settled_from power_up 0) (take n old)
  pub back : drop n pages ≡ drop n old
  pub whole : IsTrue (list_all is_page (take n pages))

at_front : {X : Type 0} (n : ℕ) (xs : List X) (d : X) → get_or (drop n xs) 0 d ≡ get_or xs n d
at_front n xs d = get_or-drop n xs 0 d ∙ (let here : n + 0 ≡ n = omega arith in ap (λ k. get_or xs k d) here)

pub settling_step : (power_up i : ℕ) (old pages : List (List Cell)) (page : List Cell) → i < 64 → length old ≡ 64
    → Settling power_up old i pages → page ≡ settled_from power_up 0 (get_or pages i []) → IsTrue (is_page page)
    → Settling power_up old (i + 1) (set pages i page)
settling_step power_up i old pages page inside long so_far is whole =
    let f : List Cell → List Cell = settled_from power_up 0 in
    let here : get_or pages i [] ≡ get_or old i [] =
    sym (at_front i pages []) ∙ ap (λ (l : List (List Cell)). get_or l 0 []) so_far.back ∙ at_front i old [] in
    let in_pages : i < length pages = omega (arith, so_far.long) in
    let in_old : i < length old = omega (arith, long) in
    let set_long : length (set pages i page) ≡ 64 = length-set pages i page ∙ so_far.long in
    let front : take (i + 1) (set pages i page) ≡ map f (take (i + 1) old) =
    rw (take_more_set pages i page in_pages, map_more f old i [] in_old, so_far.front, is, here) refl in
    let after : i < i + 1 = omega arith in
    let back : drop (i + 1) (set pages i page) ≡ drop (i + 1) old =
    drop-set-lt (i + 1) pages i page after ∙ sym (drop-drop 1 i pages) ∙ ap (drop 1) so_far.back ∙ drop-drop 1 i old in
    record { long = set_long; front = front; back = back; whole = list_all_step is_page i pages page in_pages so_far.whole whole }

pub settling_end : (power_up i : ℕ) (old pages : List (List Cell)) → 64 ≤ i → length old ≡ 64 → Settling power_up old i pages
    → (pages ≡ map (settled_from power_up 0) old) × IsTrue (list_all is_page pages)
settling_end power_up i old pages past long so_far =
    let all_pages : take i pages ≡ pages = take_all i pages (omega (arith, so_far.long)) in
    let all_old : take i old ≡ old = take_all i old (omega (arith, long)) in
    let front : pages ≡ map (settled_from power_up 0) old =
    sym all_pages ∙ so_far.front ∙ ap (λ (l : List (List Cell)). map (settled_from power_up 0) l) all_old in
    (front, subst (λ (l : List (List Cell)). IsTrue (list_all is_page l)) all_pages so_far.whole)
