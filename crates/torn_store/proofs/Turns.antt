-- Loops over pages, a turn at a time.
use Rattle.std.proofs.Common.{◌≡◌, ◌<◌, ◌+◌, ◌-◌, ◌*◌, ℕ, List, [], ◌∷◌, ◌++◌, length, get_or, take, drop, refl, ap, sym, ◌∙◌, subst, arith, append_assoc, append-nil, inl, inr}
use Rattle.std.proofs.lemmas.List.{length-take-le, length-drop, get_or-drop, get_or-take, take_more}
use Rattle.std.proofs.lemmas.Slice.{take-put_mid}
use borrow.Rule.Slice.PartMut.{put_mid}
use Rattle.emv_ports.specs.Memory.{Memory, page_written, next_write_cut, CutWrite}
use Rattle.emv_ports.specs.declared.tear.Cut.TheVariants.{Spared}
use Rattle.torn_store.specs.Layout.{bytes_of_pages}
use Rattle.torn_store.specs.Writing.{WritesAll, StopsIn}
use Rattle.torn_store.specs.declared.layout.Block.{Block}
use Rattle.torn_store.proofs.Rows.{all_then, stops_first, stops_then}

-- what the rest of a row makes of the memory now, the whole row makes of the one at its start
pub record Rest (start now : Memory) (whole rest : List Block) : Type 0 where
  pub all : (new : Memory) → WritesAll now rest new → WritesAll start whole new
  pub stops : (new : Memory) → StopsIn now rest new → StopsIn start whole new

pub rest_none : (start : Memory) (whole : List Block) → Rest start start whole whole
rest_none start whole = record { all = λ new all. all; stops = λ new stops. stops }

pub rest_more : (start now new : Memory) (whole rest after : List Block) (page : ℕ) (bytes : List ℕ) → Rest start now whole rest
    → rest ≡ record { page = page; bytes = bytes } ∷ after → next_write_cut now ≡ Spared → new ≡ page_written now page bytes → Rest start new whole after
rest_more start now new whole rest after page bytes so_far is spared wrote =
    let next : Rest start now whole (record { page = page; bytes = bytes } ∷ after) = subst (λ (l : List Block). Rest start now whole l) is so_far in
    record {
      all = λ last all. next.all last (spared, subst (λ (m : Memory). WritesAll m after last) wrote all);
      stops = λ last stops. next.stops last (inr (spared, subst (λ (m : Memory). StopsIn m after last) wrote stops));
    }

pub rest_stops : (start now new : Memory) (whole rest after : List Block) (page : ℕ) (bytes : List ℕ) → Rest start now whole rest
    → rest ≡ record { page = page; bytes = bytes } ∷ after → CutWrite now page bytes new → StopsIn start whole new
rest_stops start now new whole rest after page bytes so_far is cut =
    so_far.stops new (subst (λ (l : List Block). StopsIn now l new) (sym is) (inl cut))

pub rest_all : (start now : Memory) (whole rest : List Block) → Rest start now whole rest → rest ≡ [] → WritesAll start whole now
rest_all start now whole rest so_far none = so_far.all now (subst (λ (l : List Block). WritesAll now l now) (sym none) refl)

-- a row within the row was written, or cut
pub rest_row : (start now mid : Memory) (whole one two : List Block) → Rest start now whole (one ++ two) → WritesAll now one mid → Rest start mid whole two
rest_row start now mid whole one two so_far first = record {
  all = λ new all. so_far.all new (all_then now mid new one two first all);
  stops = λ new stops. so_far.stops new (stops_then now mid new one two first stops);
}

pub rest_row_stops : (start now new : Memory) (whole one two : List Block) → Rest start now whole (one ++ two) → StopsIn now one new → StopsIn start whole new
rest_row_stops start now new whole one two so_far stops = so_far.stops new (stops_first now new one two stops)

bytes_of_pages-push : (pages : List (List ℕ)) (page : List ℕ) → bytes_of_pages (pages ++ page ∷ []) ≡ bytes_of_pages pages ++ page
bytes_of_pages-push [] page = append-nil page
bytes_of_pages-push (first ∷ pages) page = ap (λ (l : List ℕ). first ++ l) (bytes_of_pages-push pages page) ∙ sym (append_assoc first (bytes_of_pages pages) page)

-- one page more of the home is read
pub read_step : (i k : ℕ) (shown : List (List ℕ)) (bytes page : List ℕ) → i < 17 → length shown ≡ 64 → length page ≡ 64
    → page ≡ get_or shown (1 + i) [] → length bytes ≡ 1088 → take (64 * i) bytes ≡ bytes_of_pages (take i (take 17 (drop 1 shown)))
    → take (64 * (i + 1)) (put_mid (64 * i) k bytes page) ≡ bytes_of_pages (take (i + 1) (take 17 (drop 1 shown)))
read_step i k shown bytes page inside size page_long is long so_far =
    let pages : List (List ℕ) = take 17 (drop 1 shown) in
    let pages_long : length pages ≡ 17 = length-take-le 17 (drop 1 shown) (omega (arith, length-drop 1 shown)) in
    let there : get_or pages i [] ≡ get_or shown (1 + i) [] = get_or-take 17 (drop 1 shown) i [] inside ∙ get_or-drop 1 shown i [] in
    let end : 64 * (i + 1) ≡ 64 * i + length page = omega arith in
    take-put_mid (64 * i) k bytes page (64 * (i + 1)) end (omega arith)
    ∙ ap (λ (l : List ℕ). l ++ page) so_far
    ∙ ap (λ (l : List ℕ). bytes_of_pages (take i pages) ++ l) (is ∙ sym there)
    ∙ sym (bytes_of_pages-push (take i pages) (get_or pages i []))
    ∙ ap bytes_of_pages (sym (take_more pages i [] (omega arith)))

pub page_cut_long : (i : ℕ) (bytes : List ℕ) → i < 17 → length bytes ≡ 1088 → length (take (64 * i + 64 - 64 * i) (drop (64 * i) bytes)) ≡ 64
page_cut_long i bytes inside long =
    let all : 64 * i + 64 - 64 * i ≡ 64 = omega arith in
    ap (λ (m : ℕ). length (take m (drop (64 * i) bytes))) all ∙ length-take-le 64 (drop (64 * i) bytes) (omega (arith, length-drop (64 * i) bytes))
