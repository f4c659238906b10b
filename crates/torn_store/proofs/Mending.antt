-- A repair: the gate is made whole as it was read, and an open journal is written home.
use Rattle.std.proofs.Common.{◌≡◌, ◌<◌, ◌≤◌, ◌%◌, ℕ, zero, suc, List, [], ◌∷◌, length, get_or, take, drop, map, replicate, refl, ap, sym, ◌∙◌, subst, arith, Option, Some, None, inl, inr}
use Rattle.std.specs.Prelude.{Contains}
use Rattle.std.proofs.Math.ListN.{set}
use Rattle.std.proofs.lemmas.List.{get_or-set_same, get_or-set_other, get_or-drop, set-get_or, drop-set-lt, length-append, length-drop}
use Rattle.emv_ports.specs.Memory.{Memory, page_written, next_write_cut, torn_page}
use Rattle.emv_ports.specs.declared.tear.Cut.TheVariants.{Spared}
use Rattle.emv_ports.specs.PageReading.{Reading}
use Rattle.torn_store.specs.Layout.{bytes_of_pages, overlaid, paired, numbers_in, recover_at, recover, replayed}
use Rattle.torn_store.specs.Recovery.{lowest, Among}
use Rattle.torn_store.specs.Store.{StandUnderBit, IsOn, IsReady}
use Rattle.torn_store.specs.Writing.{WritesAll, StopsIn, gate, replay_row, mending_row, repair_row}
use Rattle.torn_store.specs.declared.layout.Block.{Block}
use Rattle.torn_store.proofs.Frames.{found_fits}
use Rattle.torn_store.proofs.Gates.{says_behind_first, first_torn, torn_like, like_among, read_stands}
use Rattle.torn_store.proofs.Headers.{header_sure}
use Rattle.torn_store.proofs.Overlays.{AtHome, names_rise, paired_few, rising_at, home_paired, home_within}
use Rattle.torn_store.proofs.Readings.{PageReading, reading_at, reading_rest, reading_back}
use Rattle.torn_store.proofs.Replaying.{gate_written, gate_on, rest_sized, Opened, opened_all, opened_stops}
use Rattle.torn_store.proofs.Rows.{Cells}
use Rattle.torn_store.proofs.Sizes.{sized_count}

has_numbers : (numbers : Option (List ℕ)) (pages : List (List ℕ)) (state : List ℕ) → replayed numbers pages ≡ Some state
    → (names : List ℕ) × (numbers ≡ Some names)
has_numbers None pages state found = cc
has_numbers (Some names) pages state found = (names, refl)

-- pages that stand for a state behind an open gate have a header in its form
pub stands_names : (pages : List (List ℕ)) (state : List ℕ) → recover_at 1 pages ≡ Some state
    → (names : List ℕ) × (numbers_in (get_or pages 17 []) ≡ Some names)
stands_names pages state found = has_numbers (numbers_in (get_or pages 17 [])) pages state found

-- a header's page may be read in each way that its cells allow
reading_put : (cells : Cells) (pages : List (List ℕ)) (place : ℕ) (page : List ℕ) → Reading cells pages → PageReading (get_or cells place []) page
    → Reading cells (set pages place page)
reading_put cells pages place page reading there =
    reading_back cells pages place (get_or cells place []) page (subst (λ (c : Cells). Reading c pages) (sym (set-get_or cells place [])) reading) there

-- the header names the same pages in every reading
names_sure : (cells : Cells) (state : List ℕ) → length cells ≡ 64 → StandUnderBit cells 1 state → (one other : List (List ℕ)) → Reading (drop 1 cells) one
    → Reading (drop 1 cells) other → length one ≡ 63 → numbers_in (get_or other 17 []) ≡ numbers_in (get_or one 17 [])
names_sure cells state size stands one other read_one read_other long =
    let inside : 17 < length (drop 1 cells) = omega (arith, length-drop 1 cells) in
    header_sure (get_or (drop 1 cells) 17 [])
    (λ page reading.
    let found = stands_names (set one 17 page) state (stands (set one 17 page) (reading_put (drop 1 cells) one 17 page read_one reading)) in
    (found.0, ap numbers_in (sym (get_or-set_same one 17 page [] (omega arith))) ∙ found.1))
    (get_or other 17 []) (get_or one 17 []) (reading_at (drop 1 cells) other 17 read_other inside) (reading_at (drop 1 cells) one 17 read_one inside)

-- the gate is whole and open, and the pages behind it stand for the state
opened_found : (memory : Memory) (state numbers : List ℕ) → IsOn memory → get_or memory.cells 0 [] ≡ replicate 64 (Some 1) → StandUnderBit memory.cells 1 state
    → numbers_in (get_or memory.shown 18 []) ≡ Some numbers → Opened memory numbers state
opened_found memory state numbers on open_gate stands named =
    let cells_size = sized_count 64 memory.cells on.sized in
    let shown : List (List ℕ) = drop 1 memory.shown in
    let read_shown = reading_rest memory.cells memory.shown on.reading in
    let shown_size = sized_count 63 shown (rest_sized memory shown on read_shown) in
    let shown_named : numbers_in (get_or shown 17 []) ≡ Some numbers = ap numbers_in (get_or-drop 1 memory.shown 17 []) ∙ named in
    let form = names_rise (get_or memory.shown 18 []) numbers named in
    record {
      on = on;
      open_gate = open_gate;
      few = form.0;
      rises = form.1;
      says = λ pages reading.
          let names : numbers_in (get_or pages 17 []) ≡ Some numbers =
          names_sure memory.cells state cells_size stands shown pages read_shown reading shown_size ∙ shown_named in
          record {
            size = sized_count 63 pages (rest_sized memory pages on reading);
            names = names;
            gives = sym (ap (λ (o : Option (List ℕ)). replayed o pages) names) ∙ stands pages reading;
          };
    }

-- what is left of a repair once the gate is whole
mended_all : (bit : ℕ) (memory new : Memory) (state : List ℕ) → bit < 2 → IsOn memory → get_or memory.cells 0 [] ≡ replicate 64 (Some bit)
    → StandUnderBit memory.cells bit state → length state ≤ 1024 → WritesAll memory (mending_row bit (numbers_in (get_or memory.shown 18 [])) memory.shown) new
    → IsReady new state
mended_all zero memory new state small on closed stands fits all =
    let here : IsReady memory state = record { on = on; fits = fits; closed = closed; stands = stands } in
    subst (λ (m : Memory). IsReady m state) (sym all) here
mended_all (suc zero) memory new state small on open_gate stands fits all =
    let shown : List (List ℕ) = drop 1 memory.shown in
    let found = stands_names shown state (stands shown (reading_rest memory.cells memory.shown on.reading)) in
    let named : numbers_in (get_or memory.shown 18 []) ≡ Some found.0 = ap numbers_in (sym (get_or-drop 1 memory.shown 17 [])) ∙ found.1 in
    opened_all memory new found.0 state (opened_found memory state found.0 on open_gate stands named) fits
    (subst (λ (o : Option (List ℕ)). WritesAll memory (mending_row 1 o memory.shown) new) named all)
mended_all (suc (suc bit)) memory new state small on closed stands fits all = absurd (omega arith)

mended_stops : (bit : ℕ) (memory new : Memory) (state : List ℕ) (states : List (List ℕ)) → bit < 2 → IsOn memory
    → get_or memory.cells 0 [] ≡ replicate 64 (Some bit) → StandUnderBit memory.cells bit state → Contains states state
    → StopsIn memory (mending_row bit (numbers_in (get_or memory.shown 18 [])) memory.shown) new → Among recover new.cells states
mended_stops zero memory new state states small on closed stands has stops = absurd stops
mended_stops (suc zero) memory new state states small on open_gate stands has stops =
    let shown : List (List ℕ) = drop 1 memory.shown in
    let found = stands_names shown state (stands shown (reading_rest memory.cells memory.shown on.reading)) in
    let named : numbers_in (get_or memory.shown 18 []) ≡ Some found.0 = ap numbers_in (sym (get_or-drop 1 memory.shown 17 [])) ∙ found.1 in
    opened_stops memory new found.0 state states (opened_found memory state found.0 on open_gate stands named) has
    (subst (λ (o : Option (List ℕ)). StopsIn memory (mending_row 1 o memory.shown) new) named stops)
mended_stops (suc (suc bit)) memory new state states small on closed stands has stops = absurd (omega arith)

mending_same : (bit : ℕ) (numbers : Option (List ℕ)) (one other : List (List ℕ)) → drop 19 one ≡ drop 19 other
    → mending_row bit numbers one ≡ mending_row bit numbers other
mending_same zero numbers one other same = refl
mending_same (suc bit) None one other same = refl
mending_same (suc bit) (Some numbers) one other same = ap (λ (l : List (List ℕ)). replay_row (paired numbers l)) same

-- the gate's page changes nothing of what the header and the journal show
mending_shown : (memory : Memory) (bit : ℕ) → mending_row bit (numbers_in (get_or memory.shown 18 [])) memory.shown
    ≡ mending_row bit (numbers_in (get_or (page_written memory 0 (gate bit).bytes).shown 18 [])) (page_written memory 0 (gate bit).bytes).shown
mending_shown memory bit =
    ap (λ (l : List ℕ). mending_row bit (numbers_in l) memory.shown)
    (sym (get_or-set_other memory.shown 0 18 (gate bit).bytes [] (λ e. absurd (omega (arith, e)))))
    ∙ mending_same bit (numbers_in (get_or (page_written memory 0 (gate bit).bytes).shown 18 [])) memory.shown (page_written memory 0 (gate bit).bytes).shown
    (sym (drop-set-lt 19 memory.shown 0 (gate bit).bytes (omega arith)))

gate_stands : (memory : Memory) (state : List ℕ) (states : List (List ℕ)) → IsOn memory → Among recover memory.cells states → recover memory.shown ≡ Some state
    → StandUnderBit (page_written memory 0 (gate (lowest memory.shown)).bytes).cells (lowest memory.shown) state
gate_stands memory state states on among found =
    says_behind_first (λ (pages : List (List ℕ)). recover_at (lowest memory.shown) pages ≡ Some state) memory.cells
    (map Some (gate (lowest memory.shown)).bytes) (read_stands recover_at memory.cells memory.shown state among.laid on.reading found)

recovered_fits : (bit : ℕ) (pages : List (List ℕ)) (state : List ℕ) → recover_at bit pages ≡ Some state → length state ≤ 1024
recovered_fits zero pages state found = found_fits (bytes_of_pages (take 17 pages)) state found
recovered_fits (suc bit) pages state found = replayed_fits (numbers_in (get_or pages 17 [])) pages state found where
  replayed_fits : (numbers : Option (List ℕ)) (pages : List (List ℕ)) (state : List ℕ) → replayed numbers pages ≡ Some state → length state ≤ 1024
  replayed_fits None pages state found = cc
  replayed_fits (Some numbers) pages state found = found_fits (bytes_of_pages (overlaid (paired numbers (drop 18 pages)) (take 17 pages))) state found

-- a repair was written: the pages stand for the state that they showed
pub repair_all : (memory new : Memory) (state : List ℕ) (states : List (List ℕ)) → IsOn memory → Among recover memory.cells states
    → recover memory.shown ≡ Some state → WritesAll memory (repair_row memory.shown) new → IsReady new state
repair_all memory new state states on among found all =
    let bit : ℕ = lowest memory.shown in
    let whole : Memory = page_written memory 0 (gate bit).bytes in
    mended_all bit whole new state (omega arith) (gate_on memory bit on) (gate_written memory bit on) (gate_stands memory state states on among found)
    (recovered_fits bit (drop 1 memory.shown) state found)
    (subst (λ (l : List Block). WritesAll whole l new) (mending_shown memory bit) all.1)

-- a repair was cut
pub repair_stops : (memory new : Memory) (states : List (List ℕ)) → IsOn memory → Among recover memory.cells states
    → StopsIn memory (repair_row memory.shown) new → Among recover new.cells states
repair_stops memory new states on among stops =
    let bit : ℕ = lowest memory.shown in
    elim stops [
      | inl cut ↦
          elim cut [
            | inl early ↦ subst (λ (c : Cells). Among recover c states) (sym (ap (λ (m : Memory). m.cells) early.1)) among
            | inr within ↦
                let page : List (Option ℕ) = torn_page (get_or memory.cells 0 []) (replicate 64 bit) in
                subst (λ (c : Cells). Among recover c states) (sym (ap (λ (m : Memory). m.cells) within.1))
                (like_among recover_at memory.cells (set memory.cells 0 page) states
                (first_torn recover_at memory.cells bit (replicate 63 bit) among.laid.bit)
                (torn_like recover_at memory.cells bit (replicate 63 bit) memory.shown on.reading refl among.laid.bit) among)
          ]
      | inr rest ↦
          let one = among.each memory.shown on.reading in
          let whole : Memory = page_written memory 0 (gate bit).bytes in
          mended_stops bit whole new one.0 states (omega arith) (gate_on memory bit on) (gate_written memory bit on)
          (gate_stands memory one.0 states on among one.2) one.1
          (subst (λ (l : List Block). StopsIn whole l new) (mending_shown memory bit) rest.1)
    ]

mending_few : (bit : ℕ) (page : List ℕ) (numbers : Option (List ℕ)) (shown : List (List ℕ)) → numbers_in page ≡ numbers
    → length (mending_row bit numbers shown) ≤ 18
mending_few zero page numbers shown is = omega arith
mending_few (suc bit) page None shown is = omega arith
mending_few (suc bit) page (Some numbers) shown is =
    let blocks : List Block = paired numbers (drop 19 shown) in
    let few = names_rise page numbers is in
    omega (arith, length-append blocks (gate 0 ∷ []), paired_few numbers (drop 19 shown), few.0)

-- a repair makes at most 19 writes
pub repair_few : (shown : List (List ℕ)) → length (repair_row shown) ≤ 19
repair_few shown =
    let few = mending_few (lowest shown) (get_or shown 18 []) (numbers_in (get_or shown 18 [])) shown refl in omega arith

pub lowest_read : (shown : List (List ℕ)) (page : List ℕ) → page ≡ get_or shown 0 [] → get_or page 0 0 % 2 ≡ lowest shown
lowest_read shown page is = ap (λ (l : List ℕ). get_or l 0 0 % 2) is

gate_is : (old mid : Memory) (bit : ℕ) → bit ≡ lowest old.shown → mid ≡ page_written old 0 (gate bit).bytes → mid ≡ page_written old 0 (gate (lowest old.shown)).bytes
gate_is old mid bit is wrote = wrote ∙ ap (λ (b : ℕ). page_written old 0 (gate b).bytes) is

open_bit : (shown : List (List ℕ)) (bit : ℕ) → bit ≡ lowest shown → (bit ≡ 0 → ⊥) → 1 ≡ lowest shown
open_bit shown bit is some = let one : bit ≡ 1 = grind arith in sym one ∙ is

-- behind an open gate the journal was replayed, as the repair's row has it
pub closes_all : (old mid new : Memory) (bit : ℕ) → bit ≡ lowest old.shown → (bit ≡ 0 → ⊥) → next_write_cut old ≡ Spared → mid ≡ page_written old 0 (gate bit).bytes
    → WritesAll mid (mending_row 1 (numbers_in (get_or mid.shown 18 [])) mid.shown) new → WritesAll old (repair_row old.shown) new
closes_all old mid new bit is some spared wrote all =
    let low : ℕ = lowest old.shown in
    let whole : Memory = page_written old 0 (gate low).bytes in
    let moved : WritesAll whole (mending_row 1 (numbers_in (get_or whole.shown 18 [])) whole.shown) new =
    subst (λ (m : Memory). WritesAll m (mending_row 1 (numbers_in (get_or m.shown 18 [])) m.shown) new) (gate_is old mid bit is wrote) all in
    let turned : WritesAll whole (mending_row low (numbers_in (get_or whole.shown 18 [])) whole.shown) new =
    subst (λ (n : ℕ). WritesAll whole (mending_row n (numbers_in (get_or whole.shown 18 [])) whole.shown) new) (open_bit old.shown bit is some) moved in
    (spared, subst (λ (l : List Block). WritesAll whole l new) (sym (mending_shown old low)) turned)

pub closes_stops : (old mid new : Memory) (bit : ℕ) → bit ≡ lowest old.shown → (bit ≡ 0 → ⊥) → next_write_cut old ≡ Spared → mid ≡ page_written old 0 (gate bit).bytes
    → StopsIn mid (mending_row 1 (numbers_in (get_or mid.shown 18 [])) mid.shown) new → StopsIn old (repair_row old.shown) new
closes_stops old mid new bit is some spared wrote stops =
    let low : ℕ = lowest old.shown in
    let whole : Memory = page_written old 0 (gate low).bytes in
    let moved : StopsIn whole (mending_row 1 (numbers_in (get_or whole.shown 18 [])) whole.shown) new =
    subst (λ (m : Memory). StopsIn m (mending_row 1 (numbers_in (get_or m.shown 18 [])) m.shown) new) (gate_is old mid bit is wrote) stops in
    let turned : StopsIn whole (mending_row low (numbers_in (get_or whole.shown 18 [])) whole.shown) new =
    subst (λ (n : ℕ). StopsIn whole (mending_row n (numbers_in (get_or whole.shown 18 [])) whole.shown) new) (open_bit old.shown bit is some) moved in
    inr (spared, subst (λ (l : List Block). StopsIn whole l new) (sym (mending_shown old low)) turned)

ap_within : (slice blocks : List Block) → slice ≡ blocks → AtHome blocks → (k : ℕ) (d : Block) → k < length slice → (get_or slice k d).page < 64
ap_within slice blocks is at_home k d inside = home_within slice (subst AtHome (sym is) at_home) k d inside

-- the blocks that a header names are for pages of the memory
pub shown_within : (page numbers given : List ℕ) (journal : List (List ℕ)) (blocks slice : List Block) → numbers_in page ≡ Some numbers
    → given ≡ numbers → blocks ≡ paired given journal → slice ≡ blocks → (k : ℕ) (d : Block) → k < length slice → (get_or slice k d).page < 64
shown_within page numbers given journal blocks slice named same is slice_is k d inside =
    let rises = (names_rise page numbers named).1 in
    let whole : slice ≡ paired numbers journal = slice_is ∙ is ∙ ap (λ (l : List ℕ). paired l journal) same in
    ap_within slice (paired numbers journal) whole (home_paired numbers journal (λ i below. rising_at numbers 0 i rises below)) k d inside
