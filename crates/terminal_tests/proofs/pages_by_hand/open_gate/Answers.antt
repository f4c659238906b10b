use Rattle.std.proofs.Common.{◌≡◌, ℕ, List, [], ◌∷◌, ◌++◌, Some, map, replicate, refl, lit<, ap, sym, ◌∙◌}
use Rattle.std.specs.Prelude.{slice_set}
use Rattle.emv_ports.specs.Memory.{Memory, page_written}
use Rattle.emv_ports.specs.PageReading.{Reading}
use Rattle.torn_store.specs.Layout.{padded_page, recover}
use Rattle.torn_store.specs.Recovery.{Holds}
use Rattle.torn_store.proofs.Outcomes.{has_first}
use Rattle.torn_store.proofs.Readings.{sure_page}
use Rattle.torn_store.proofs.Rows.{Cells}
use Rattle.torn_store.proofs.Stored.{holds_among}
use Rattle.terminal_tests.proofs.pages_by_hand.open_gate.Goals as goal

-- pages that are sure of their bytes give them
sure_pages : (pages read : List (List ℕ)) → Reading (map (map Some) pages) read → read ≡ pages
sure_pages [] [] reading = refl
sure_pages [] (r ∷ read) reading = absurd reading
sure_pages (p ∷ pages) [] reading = absurd reading
sure_pages (p ∷ pages) (r ∷ read) reading = ap (λ x. x ∷ read) (sure_page p r reading.0) ∙ ap (λ (l : List (List ℕ)). p ∷ l) (sure_pages pages read reading.1)

abbrev blank : List ℕ
blank = replicate 64 0

-- what is written
abbrev pages : List (List ℕ)
pages =
    replicate 64 1 ∷ padded_page (0 ∷ 130 ∷ 10 ∷ []) ∷ padded_page (11 ∷ []) ∷ padded_page (12 ∷ 13 ∷ []) ∷ replicate 14 blank
    ++ padded_page (2 ∷ 1 ∷ 3 ∷ []) ∷ padded_page (0 ∷ 129 ∷ 26 ∷ []) ∷ padded_page (28 ∷ 29 ∷ []) ∷ replicate 43 blank

-- what is found
abbrev state : List ℕ
state = 26 ∷ replicate 61 0 ++ 11 ∷ replicate 63 0 ++ 28 ∷ 29 ∷ 0 ∷ []

found : recover pages ≡ Some state
found = refl

holds : Holds recover (map (map Some) pages) state
holds = record {
  laid = record {
    bit = lit< tt;
    same = λ one other first second lowest. ap recover (sure_pages pages one first ∙ sym (sure_pages pages other second));
  };
  each = λ bytes reading. ap recover (sure_pages pages bytes reading) ∙ found;
}

put_cells : (old new : Memory) (page : ℕ) (bytes : List ℕ) (cells : Cells) → new ≡ page_written old page bytes → old.cells ≡ cells
    → new.cells ≡ slice_set cells page (map Some bytes)
put_cells old new page bytes cells is before = ap (λ (m : Memory). m.cells) is ∙ ap (λ (xs : Cells). slice_set xs page (map Some bytes)) before

pub returns-clause-between : goal.returns-clause-between
returns-clause-between g c =
    let on = ap (λ (m : Memory). m.cells) c.power_up.ensures.turned_on ∙ c.requires.cells in
    let one = put_cells _ _ 0 (padded_page (replicate 64 1)) _ c.put.ensures on in
    let two = put_cells _ _ 1 (padded_page (0 ∷ 130 ∷ 10 ∷ [])) _ c.put-2.ensures one in
    let three = put_cells _ _ 2 (padded_page (11 ∷ [])) _ c.put-3.ensures two in
    let four = put_cells _ _ 3 (padded_page (12 ∷ 13 ∷ [])) _ c.put-4.ensures three in
    let five = put_cells _ _ 18 (padded_page (2 ∷ 1 ∷ 3 ∷ [])) _ c.put-5.ensures four in
    let six = put_cells _ _ 19 (padded_page (0 ∷ 129 ∷ 26 ∷ [])) _ c.put-6.ensures five in
    let seven = put_cells _ _ 20 (padded_page (28 ∷ 29 ∷ [])) _ c.put-7.ensures six in
    let off = ap (λ (m : Memory). m.cells) c.power_off.ensures in
    (state, state, rw (off, seven) (holds_among (map (map Some) pages) state (state ∷ state ∷ []) holds (has_first state state)))
