-- Home pages are written behind an open gate, which is closed behind them.
use Rattle.std.proofs.Common.{◌≡◌, ◌≢◌, ◌<◌, ◌≤◌, ◌+◌, ◌-◌, ℕ, zero, suc, List, [], ◌∷◌, ◌++◌, length, get_or, take, drop, map, replicate, refl, ap, sym, ◌∙◌, subst, arith, Option, Some, None, true, inl, inr}
use Rattle.std.specs.Prelude.{Contains}
use Rattle.std.proofs.Math.ListN.{set}
use Rattle.std.proofs.lemmas.List.{get_or-set_same, get_or-set_other, length-replicate, take_at, drop_at, drop-drop, length-take-le}
use Rattle.emv_ports.specs.Memory.{Memory, page_written, CutWrite, torn_page}
use Rattle.emv_ports.specs.PageReading.{Reading}
use Rattle.torn_store.specs.Layout.{bytes_of_pages, state_in, overlaid, paired, is_rising, recover_at, recover}
use Rattle.torn_store.specs.Recovery.{first_cell, Among}
use Rattle.torn_store.specs.Store.{StandUnderBit, IsOn, IsReady}
use Rattle.torn_store.specs.Writing.{WritesAll, StopsIn, gate, replay_row}
use Rattle.torn_store.specs.declared.layout.Block.{Block}
use Rattle.torn_store.proofs.Gates.{Says, Ignores, says_behind_first, says_elsewhere, first_torn, stands_among, stands_holds, both_among}
use Rattle.torn_store.proofs.Overlays.{Left, left_all, AtHome, Shows, shows_stands, shows_ignores, keep_paired, home_paired, rising_at}
use Rattle.torn_store.proofs.Readings.{PageReading, reading_rest}
use Rattle.torn_store.proofs.Rows.{Cells, Keeps, Whole, all_split, stops_split, on_written, on_all, keep_all, keep_stops}
use Rattle.torn_store.proofs.Sizes.{Sized, sized_count, sized_drop}

page_long : (cells : List (Option ℕ)) (read : List ℕ) → PageReading cells read → length read ≡ length cells
page_long [] [] reading = refl
page_long [] (r ∷ read) reading = absurd reading
page_long (c ∷ cells) [] reading = absurd reading
page_long (c ∷ cells) (r ∷ read) reading = ap suc (page_long cells read reading.1)

-- pages are read with as many bytes as they have cells
pub reading_sized : (cells : Cells) (pages : List (List ℕ)) → Reading cells pages → map length pages ≡ map length cells
reading_sized [] [] reading = refl
reading_sized [] (p ∷ pages) reading = absurd reading
reading_sized (c ∷ cells) [] reading = absurd reading
reading_sized (c ∷ cells) (p ∷ pages) reading =
    ap (λ (n : ℕ). n ∷ map length pages) (page_long c p reading.0) ∙ ap (λ (l : List ℕ). length c ∷ l) (reading_sized cells pages reading.1)

pub shown_sized : (memory : Memory) → IsOn memory → Sized 64 memory.shown
shown_sized memory on = reading_sized memory.cells memory.shown on.reading ∙ on.sized

pub rest_sized : (memory : Memory) (pages : List (List ℕ)) → IsOn memory → Reading (drop 1 memory.cells) pages → Sized 63 pages
rest_sized memory pages on reading = reading_sized (drop 1 memory.cells) pages reading ∙ sized_drop 63 1 memory.cells on.sized

-- the front of one reading and the rest of another are a reading
reading_mixed : (n : ℕ) (cells : Cells) (one other : List (List ℕ)) → Reading cells one → Reading cells other → Reading cells (take n one ++ drop n other)
reading_mixed zero cells one other read_one read_other = read_other
reading_mixed (suc n) [] [] [] read_one read_other = tt
reading_mixed (suc n) [] [] (o ∷ other) read_one read_other = absurd read_other
reading_mixed (suc n) [] (o ∷ one) other read_one read_other = absurd read_one
reading_mixed (suc n) (c ∷ cells) [] other read_one read_other = absurd read_one
reading_mixed (suc n) (c ∷ cells) (o ∷ one) [] read_one read_other = absurd read_other
reading_mixed (suc n) (c ∷ cells) (o ∷ one) (p ∷ other) read_one read_other =
    (read_one.0, reading_mixed n cells one other read_one.1 read_other.1)

pub whole_paired : (numbers : List ℕ) (n : ℕ) (journal : List (List ℕ)) → Sized n journal → Whole (paired numbers journal)
whole_paired [] n journal sized = tt
whole_paired (number ∷ numbers) n [] sized = tt
whole_paired (number ∷ numbers) zero (j ∷ journal) sized = cc
whole_paired (number ∷ numbers) (suc n) (j ∷ journal) sized =
    let here : length j ≡ 64 = cc in
    let rest : map length journal ≡ replicate n 64 = cc in
    (here, whole_paired numbers n journal rest)

-- the gate's page is sure of the bit throughout, and this is what the pages behind it say
abbrev pub Behind : ℕ → (List (List ℕ) → Type 0) → Cells → Type 0
Behind bit P cells = (get_or cells 0 [] ≡ replicate 64 (Some bit)) × Says P cells

pub gate_sure : (cells : Cells) (bit : ℕ) → get_or cells 0 [] ≡ replicate 64 (Some bit) → first_cell cells ≡ Some bit
gate_sure cells bit is = ap (λ (l : List (Option ℕ)). get_or l 0 None) is

pub keeps_behind : (bit number place : ℕ) (P : List (List ℕ) → Type 0) → number ≡ place + 1 → Ignores P place → Keeps (Behind bit P) number
keeps_behind bit number place P is ignores cells page behind =
    let other : 0 ≢ number = λ e. absurd (omega (arith, e)) in
    (get_or-set_other cells number 0 page [] other ∙ behind.0, says_elsewhere P cells number place page is ignores behind.1)

pub gate_written : (memory : Memory) (bit : ℕ) → IsOn memory → get_or (page_written memory 0 (gate bit).bytes).cells 0 [] ≡ replicate 64 (Some bit)
gate_written memory bit on =
    let count = sized_count 64 memory.cells on.sized in
    get_or-set_same memory.cells 0 (map Some (replicate 64 bit)) [] (omega arith)

pub gate_on : (memory : Memory) (bit : ℕ) → IsOn memory → IsOn (page_written memory 0 (gate bit).bytes)
gate_on memory bit on = on_written memory 0 (gate bit).bytes on (length-replicate 64 bit)

-- a cut while the gate is turned: the pages stand for one of two states
pub gate_cut : (now new : Memory) (from to bit : ℕ) (before after : List ℕ) (states : List (List ℕ)) → first_cell now.cells ≡ Some from → from + to ≡ 1
    → StandUnderBit now.cells from before → StandUnderBit now.cells to after → Contains states before → Contains states after
    → CutWrite now 0 (gate bit).bytes new → Among recover new.cells states
gate_cut now new from to bit before after states is together stands_before stands_after has_before has_after cut =
    let small : from < 2 = omega arith in
    let laid = stands_holds recover_at now.cells from before is small stands_before in
    elim cut [
      | inl early ↦
          subst (λ (c : Cells). Among recover c states) (sym (ap (λ (m : Memory). m.cells) early.1))
          (stands_among recover_at now.cells from before states is small stands_before has_before)
      | inr within ↦
          let page : List (Option ℕ) = torn_page (get_or now.cells 0 []) (replicate 64 bit) in
          subst (λ (c : Cells). Among recover c states) (sym (ap (λ (m : Memory). m.cells) within.1))
          (both_among recover_at (set now.cells 0 page) from to before after states
          (first_torn recover_at now.cells bit (replicate 63 bit) laid.laid.bit) together
          (says_behind_first (λ (pages : List (List ℕ)). recover_at from pages ≡ Some before) now.cells page stands_before)
          (says_behind_first (λ (pages : List (List ℕ)). recover_at to pages ≡ Some after) now.cells page stands_after)
          has_before has_after)
    ]

-- the home pages and the closed gate were written
pub replay_all : (old new : Memory) (blocks : List Block) (state : List ℕ) → IsOn old → length state ≤ 1024 → Whole blocks → AtHome blocks
    → Says (Left blocks state) old.cells → WritesAll old (replay_row blocks) new → IsReady new state
replay_all old new blocks state on fits whole at_home left all =
    let split = all_split old new blocks (gate 0 ∷ []) all in
    let mid : Memory = split.0 in
    let mid_on : IsOn mid = on_all blocks old mid on whole split.1 in
    let stands : StandUnderBit mid.cells 0 state = left_all blocks old mid state (sized_count 64 old.cells on.sized) at_home left split.1 in
    let last : IsReady (page_written mid 0 (gate 0).bytes) state = record {
      on = gate_on mid 0 mid_on;
      fits = fits;
      closed = gate_written mid 0 mid_on;
      stands = says_behind_first (λ (pages : List (List ℕ)). recover_at 0 pages ≡ Some state) mid.cells (map Some (gate 0).bytes) stands;
    } in
    subst (λ (m : Memory). IsReady m state) (sym split.2.1) last

-- the gate is open, and the header names the pages of the journal that give the state
pub record Opened (memory : Memory) (numbers state : List ℕ) : Type 0 where
  pub on : IsOn memory
  pub open_gate : get_or memory.cells 0 [] ≡ replicate 64 (Some 1)
  pub few : length numbers ≤ 17
  pub rises : is_rising 0 numbers ≡ true
  pub says : Says (Shows numbers state) memory.cells

-- the blocks that the journal shows under its header
abbrev pub shown_blocks : Memory → List ℕ → List Block
shown_blocks memory numbers = paired numbers (drop 19 memory.shown)

-- they give the state on any home that is read
opened_left : (memory : Memory) (numbers state : List ℕ) → Opened memory numbers state → Says (Left (shown_blocks memory numbers) state) memory.cells
opened_left memory numbers state opened = λ pages reading.
    let shown : List (List ℕ) = drop 1 memory.shown in
    let mixed : List (List ℕ) = take 17 pages ++ drop 17 shown in
    let size : length pages ≡ 63 = (opened.says pages reading).size in
    let front : length (take 17 pages) ≡ 17 = length-take-le 17 pages (omega arith) in
    let shows = opened.says mixed (reading_mixed 17 (drop 1 memory.cells) pages shown reading (reading_rest memory.cells memory.shown opened.on.reading)) in
    let home : take 17 mixed ≡ take 17 pages = take_at (take 17 pages) (drop 17 shown) 17 front in
    let journal : drop 18 mixed ≡ drop 19 memory.shown =
    sym (drop-drop 1 17 mixed) ∙ ap (drop 1) (drop_at (take 17 pages) (drop 17 shown) 17 front) ∙ drop-drop 1 17 shown ∙ drop-drop 18 1 memory.shown in
    ap (λ (l : List (List ℕ)). state_in (bytes_of_pages (overlaid (shown_blocks memory numbers) l))) (sym home)
    ∙ ap (λ (l : List (List ℕ)). state_in (bytes_of_pages (overlaid (paired numbers l) (take 17 mixed)))) (sym journal)
    ∙ shows.gives

pub opened_all : (old new : Memory) (numbers state : List ℕ) → Opened old numbers state → length state ≤ 1024
    → WritesAll old (replay_row (shown_blocks old numbers)) new → IsReady new state
opened_all old new numbers state opened fits all =
    replay_all old new (shown_blocks old numbers) state opened.on fits
    (whole_paired numbers 45 (drop 19 old.shown) (sized_drop 45 19 old.shown (shown_sized old opened.on)))
    (home_paired numbers (drop 19 old.shown) (λ k below. rising_at numbers 0 k opened.rises below))
    (opened_left old numbers state opened) all

-- each home page that the header names may be written, whole or torn
opened_keeps : (memory : Memory) (numbers state : List ℕ) → Opened memory numbers state → (k : ℕ) → k < length numbers
    → Keeps (Behind 1 (Shows numbers state)) (get_or numbers k 0)
opened_keeps memory numbers state opened k below =
    let inside = rising_at numbers 0 k opened.rises below in
    let from : 0 < get_or numbers k 0 = inside.0 in
    let to : get_or numbers k 0 ≤ 17 = inside.1 in
    let named : get_or numbers k 0 ≡ get_or numbers k 0 - 1 + 1 = omega arith in
    keeps_behind 1 (get_or numbers k 0) (get_or numbers k 0 - 1) (Shows numbers state) named
    (shows_ignores numbers state k (get_or numbers k 0 - 1) below opened.few named (omega arith))

pub opened_stops : (old new : Memory) (numbers state : List ℕ) (states : List (List ℕ)) → Opened old numbers state → Contains states state
    → StopsIn old (replay_row (shown_blocks old numbers)) new → Among recover new.cells states
opened_stops old new numbers state states opened has stops =
    let blocks : List Block = shown_blocks old numbers in
    let P : Cells → Type 0 = Behind 1 (Shows numbers state) in
    let keeps = keep_paired P numbers (drop 19 old.shown) (opened_keeps old numbers state opened) in
    let start : P old.cells = (opened.open_gate, opened.says) in
    elim (stops_split old new blocks (gate 0 ∷ []) stops) [
      | inl early ↦
          let here : P new.cells = keep_stops P blocks old new keeps early start in
          stands_among recover_at new.cells 1 state states (gate_sure new.cells 1 here.0) (omega arith) (shows_stands numbers state new.cells here.1) has
      | inr late ↦
          let mid : Memory = late.0 in
          let here : P mid.cells = keep_all P blocks old mid keeps late.1 start in
          let home : StandUnderBit mid.cells 0 state =
          left_all blocks old mid state (sized_count 64 old.cells opened.on.sized)
          (home_paired numbers (drop 19 old.shown) (λ k below. rising_at numbers 0 k opened.rises below)) (opened_left old numbers state opened) late.1 in
          elim late.2 [
            | inl cut ↦
                gate_cut mid new 1 0 0 state state states (gate_sure mid.cells 1 here.0) refl (shows_stands numbers state mid.cells here.1) home has has cut
            | inr none ↦ absurd none.1
          ]
    ]
