-- A commit: the journal and its header behind a closed gate, and then the gate, the home and the gate.
use Rattle.std.proofs.Common.{◌≡◌, ◌≢◌, ◌<◌, ◌≤◌, ◌+◌, ◌-◌, ◌/◌, ℕ, zero, suc, List, [], ◌∷◌, ◌++◌, length, get_or, take, drop, map, refl, ap, sym, ◌∙◌, subst, arith, Some, Bool, true, false, inl, inr, nat_lt, nat_le, ◌&&◌, IsTrue}
use Rattle.std.specs.Prelude.{Contains}
use Rattle.std.proofs.lemmas.List.{take-set-le, drop-set-lt, drop_more, drop-drop, get_or-set_other, length-set, length-drop, length-append, length-map}
use Rattle.std.proofs.lemmas.Bool.Decides.{nat_tests}
use Rattle.emv_ports.specs.Cut.{is_plan}
use Rattle.emv_ports.specs.Memory.{Memory, page_written, commit_marked}
use Rattle.torn_store.specs.Layout.{bytes_of_pages, state_in, overlaid, paired, numbers_in, is_rising, recover_at, recover, framed, page_part, changes, changed_from, changed_in, changed_pages, commit_writes}
use Rattle.torn_store.specs.Recovery.{Among}
use Rattle.torn_store.specs.Store.{IsOn, IsReady}
use Rattle.torn_store.specs.Writing.{WritesAll, StopsIn, Row, RowCut, journaled, header, gate, replay_row, commit_row}
use Rattle.torn_store.specs.declared.layout.Block.{Block}
use Rattle.torn_store.proofs.Changes.{changed_more, changed_same, changed_gives, changed_recovers, rising, changed_few, filled_long, part_short}
use Rattle.torn_store.proofs.Frames.{both_true}
use Rattle.torn_store.proofs.Gates.{Says, says_behind_first, says_elsewhere, says_written, stands_among}
use Rattle.torn_store.proofs.Headers.{header_names}
use Rattle.torn_store.proofs.Overlays.{AtHome, Shows, shows_stands, home_within}
use Rattle.torn_store.proofs.Readings.{reading_length, reading_rest}
use Rattle.torn_store.proofs.Replaying.{Behind, keeps_behind, gate_sure, gate_written, gate_on, gate_cut, rest_sized, Opened, shown_blocks, opened_all, opened_stops, replay_all}
use Rattle.torn_store.proofs.Rows.{Cells, Keeps, AllKeep, Whole, all_split, stops_split, on_written, on_all, keep_cut, keep_all, keep_stops, row_none, row_all, row_stops}
use Rattle.torn_store.proofs.Sizes.{Sized, sized_count, sized_take}

abbrev pub numbers_of : List Block → List ℕ
numbers_of blocks = map (λ (b : Block). b.page) blocks

-- blocks whose numbers rise are for home pages
pub home_rising : (blocks : List Block) (above : ℕ) → is_rising above (numbers_of blocks) ≡ true → AtHome blocks
home_rising [] above rises = tt
home_rising (b ∷ blocks) above rises =
    let one = both_true (nat_lt above b.page) (nat_le b.page 17 && is_rising b.page (numbers_of blocks)) rises in
    let two = both_true (nat_le b.page 17) (is_rising b.page (numbers_of blocks)) one.1 in
    let over_test : nat_lt above b.page ≡ true = one.0 in
    let within_test : nat_le b.page 17 ≡ true = two.0 in
    let over : above < b.page = grind (arith, nat_tests, over_test) in
    (omega arith, grind (arith, nat_tests, within_test), home_rising blocks b.page two.1)

whole_step : (test : Bool) (place left : ℕ) (known frame : List ℕ) → changes known frame place ≡ test → Whole (changed_from (place + 1) left known frame)
    → Whole (changed_from place (suc left) known frame)
whole_step true place left known frame is rest =
    subst Whole (sym (changed_more place left known frame is)) (filled_long (page_part frame place) (part_short frame place), rest)
whole_step false place left known frame is rest = subst Whole (sym (changed_same place left known frame is)) rest

pub whole_changed : (left place : ℕ) (known frame : List ℕ) → Whole (changed_from place left known frame)
whole_changed zero place known frame = tt
whole_changed (suc left) place known frame =
    whole_step (changes known frame place) place left known frame refl (whole_changed left (place + 1) known frame)

whole_journaled : (page : ℕ) (blocks : List Block) → Whole blocks → Whole (journaled page blocks)
whole_journaled page [] whole = tt
whole_journaled page (b ∷ blocks) whole = (whole.0, whole_journaled (page + 1) blocks whole.1)

keep_journaled : (P : Cells → Type 0) (page : ℕ) (blocks : List Block) → ((number : ℕ) → page ≤ number → Keeps P number) → AllKeep P (journaled page blocks)
keep_journaled P page [] keeps = tt
keep_journaled P page (b ∷ blocks) keeps =
    (keeps page (omega arith), keep_journaled P (page + 1) blocks (λ number from. keeps number (omega arith)))

pub journaled_long : (page : ℕ) (blocks : List Block) → length (journaled page blocks) ≡ length blocks
journaled_long page [] = refl
journaled_long page (b ∷ blocks) = ap suc (journaled_long (page + 1) blocks)

row_size : (blocks : List Block) (old new : Memory) → length old.cells ≡ 64 → WritesAll old blocks new → length new.cells ≡ 64
row_size [] old new size all = ap (λ (m : Memory). length m.cells) all ∙ size
row_size (b ∷ blocks) old new size all =
    row_size blocks (page_written old b.page b.bytes) new (length-set old.cells b.page (map Some b.bytes) ∙ size) all.1

-- the journal gives the blocks, whatever is read
abbrev Journals : ℕ → List Block → List (List ℕ) → Type 0
Journals place blocks pages = paired (numbers_of blocks) (drop place pages) ≡ blocks

journal_sure : (blocks : List Block) (page place : ℕ) (old new : Memory) → page ≡ place + 1 → place + length blocks ≤ 63 → length old.cells ≡ 64
    → WritesAll old (journaled page blocks) new → Says (Journals place blocks) new.cells
journal_sure [] page place old new is few size all = λ pages reading. refl
journal_sure (b ∷ blocks) page place old new is few size all = λ pages reading.
    let first : Memory = page_written old page b.bytes in
    let P : List (List ℕ) → Type 0 = λ (l : List (List ℕ)). get_or l place [] ≡ b.bytes in
    let here : Says P first.cells =
    says_written (λ (l : List (List ℕ)). Unit {0}) P old.cells page place b.bytes is (omega (arith, length-drop 1 old.cells)) (λ l page given same. given) (λ l read. tt) in
    let keeps : AllKeep (Says P) (journaled (page + 1) blocks) =
    keep_journaled (Says P) (page + 1) blocks (λ number from cells cell says.
    let other : place ≢ number - 1 = λ e. absurd (omega (arith, e)) in
    let named : number ≡ number - 1 + 1 = omega arith in
    says_elsewhere P cells number (number - 1) cell named (λ l bytes given. sym (get_or-set_other l (number - 1) place bytes [] other) ∙ given) says) in
    let sure : get_or pages place [] ≡ b.bytes = keep_all (Says P) (journaled (page + 1) blocks) first new keeps all.1 here pages reading in
    let cells_size : length new.cells ≡ 64 = row_size (journaled (page + 1) blocks) first new (length-set old.cells page (map Some b.bytes) ∙ size) all.1 in
    let pages_size : length pages ≡ 63 = reading_length (drop 1 new.cells) pages reading ∙ length-drop 1 new.cells ∙ (let w : length new.cells - 1 ≡ 63 = omega arith in w) in
    let rest : paired (numbers_of blocks) (drop (place + 1) pages) ≡ blocks =
    journal_sure blocks (page + 1) (place + 1) first new (omega arith) (omega arith) (length-set old.cells page (map Some b.bytes) ∙ size) all.1 pages reading in
    ap (paired (numbers_of (b ∷ blocks))) (drop_more pages place [] (omega arith))
    ∙ ap (λ (bytes : List ℕ). record { page = b.page; bytes = bytes } ∷ paired (numbers_of blocks) (drop (place + 1) pages)) sure
    ∙ ap (λ (l : List Block). b ∷ l) rest

-- what the home says behind a closed gate
abbrev Home : List ℕ → List (List ℕ) → Type 0
Home state pages = recover_at 0 pages ≡ Some state

home_keeps : (state : List ℕ) (number : ℕ) → 18 ≤ number → Keeps (Behind 0 (Home state)) number
home_keeps state number from =
    let named : number ≡ number - 1 + 1 = omega arith in
    let behind : 17 ≤ number - 1 = omega arith in
    keeps_behind 0 number (number - 1) (Home state) named
    (λ pages bytes home. ap (λ (l : List (List ℕ)). state_in (bytes_of_pages l)) (sym (take-set-le 17 pages (number - 1) bytes behind)) ∙ home)

-- the journal and its header are whole, and the gate is still closed
record Prepared (memory : Memory) (old new : List ℕ) (blocks : List Block) : Type 0 where
  pub on : IsOn memory
  pub home : Behind 0 (Home old) memory.cells
  pub journal : Says (Journals 18 blocks) memory.cells
  pub says : Says (Shows (numbers_of blocks) new) memory.cells

pub changed_length : (old new : List ℕ) → length new ≤ 1024 → length (changed_pages old new) ≤ 17
changed_length old new fits =
    let few = changed_few ((length (framed new) + 63) / 64) 0 (framed old) (framed new) in omega arith

pub changed_rises : (known state : List ℕ) → length state ≤ 1024 → is_rising 0 (numbers_of (changed_in known (framed state))) ≡ true
changed_rises known state fits = rising ((length (framed state) + 63) / 64) 0 0 known (framed state) (omega arith) (omega arith)

header_long : (blocks : List Block) → length blocks ≤ 17 → length (header blocks) ≡ 64
header_long blocks few = filled_long (length blocks ∷ numbers_of blocks) (omega (arith, length-map blocks (λ (b : Block). b.page)))

prepared : (start mid : Memory) (old new : List ℕ) → IsReady start old → length new ≤ 1024 → WritesAll start (journaled 19 (changed_pages old new)) mid
    → Prepared (page_written mid 18 (header (changed_pages old new))) old new (changed_pages old new)
prepared start mid old new ready fits all =
    let blocks : List Block = changed_pages old new in
    let few : length blocks ≤ 17 = changed_length old new fits in
    let rises = changed_rises (framed old) new fits in
    let whole : Whole blocks = whole_changed ((length (framed new) + 63) / 64) 0 (framed old) (framed new) in
    let mid_on : IsOn mid = on_all (journaled 19 blocks) start mid ready.on (whole_journaled 19 blocks whole) all in
    let mid_home : Behind 0 (Home old) mid.cells =
    keep_all (Behind 0 (Home old)) (journaled 19 blocks) start mid
    (keep_journaled (Behind 0 (Home old)) 19 blocks (λ number from. home_keeps old number (omega arith))) all (ready.closed, ready.stands) in
    let last : Memory = page_written mid 18 (header blocks) in
    let last_on : IsOn last = on_written mid 18 (header blocks) mid_on (header_long blocks few) in
    let home : Behind 0 (Home old) last.cells = home_keeps old 18 (omega arith) mid.cells (map Some (header blocks)) mid_home in
    let mid_journal : Says (Journals 18 blocks) mid.cells =
    journal_sure blocks 19 18 start mid refl (omega arith) (sized_count 64 start.cells ready.on.sized) all in
    let journal : Says (Journals 18 blocks) last.cells =
    says_elsewhere (Journals 18 blocks) mid.cells 18 17 (map Some (header blocks)) refl
    (λ pages bytes given. ap (paired (numbers_of blocks)) (sym (drop-set-lt 18 pages 17 bytes (omega arith))) ∙ given) mid_journal in
    let named : Says (λ (l : List (List ℕ)). get_or l 17 [] ≡ header blocks) last.cells =
    says_written (λ (l : List (List ℕ)). Unit {0}) (λ (l : List (List ℕ)). get_or l 17 [] ≡ header blocks) mid.cells 18 17 (header blocks) refl
    (omega (arith, length-drop 1 mid.cells, sized_count 64 mid.cells mid_on.sized)) (λ l page given same. given) (λ l read. tt) in
    record {
      on = last_on;
      home = home;
      journal = journal;
      says = λ pages reading.
          let sized : Sized 63 pages = rest_sized last pages last_on reading in
          record {
            size = sized_count 63 pages sized;
            names = ap numbers_in (named pages reading) ∙ header_names blocks few rises;
            gives =
                ap (λ (l : List Block). state_in (bytes_of_pages (overlaid l (take 17 pages)))) (journal pages reading)
                ∙ changed_recovers old new (take 17 pages) ready.fits fits (sized_take 63 17 pages (omega arith) sized) (home.1 pages reading);
          };
    }

opened : (memory : Memory) (old new : List ℕ) → length new ≤ 1024 → Prepared memory old new (changed_pages old new)
    → Opened (page_written memory 0 (gate 1).bytes) (numbers_of (changed_pages old new)) new
opened memory old new fits whole = record {
  on = gate_on memory 1 whole.on;
  open_gate = gate_written memory 1 whole.on;
  few = omega (arith, length-map (changed_pages old new) (λ (b : Block). b.page), changed_length old new fits);
  rises = changed_rises (framed old) new fits;
  says = says_behind_first (Shows (numbers_of (changed_pages old new)) new) memory.cells (map Some (gate 1).bytes) whole.says;
}

-- what the journal shows once the gate is open are the blocks
shown_is : (memory : Memory) (old new : List ℕ) → Prepared memory old new (changed_pages old new)
    → shown_blocks (page_written memory 0 (gate 1).bytes) (numbers_of (changed_pages old new)) ≡ changed_pages old new
shown_is memory old new whole =
    let blocks : List Block = changed_pages old new in
    ap (paired (numbers_of blocks)) (drop-set-lt 19 memory.shown 0 (gate 1).bytes (omega arith) ∙ sym (drop-drop 18 1 memory.shown))
    ∙ whole.journal (drop 1 memory.shown) (reading_rest memory.cells memory.shown whole.on.reading)

-- a commit was written
pub commit_all : (start last : Memory) (old new : List ℕ) → IsReady start old → length new ≤ 1024 → WritesAll start (commit_row (changed_pages old new)) last
    → IsReady last new
commit_all start last old new ready fits all =
    let blocks : List Block = changed_pages old new in
    let split = all_split start last (journaled 19 blocks) (record { page = 18; bytes = header blocks } ∷ gate 1 ∷ replay_row blocks) all in
    let whole = prepared start split.0 old new ready fits split.1 in
    let memory : Memory = page_written split.0 18 (header blocks) in
    opened_all (page_written memory 0 (gate 1).bytes) last (numbers_of blocks) new (opened memory old new fits whole) fits
    (subst (λ (l : List Block). WritesAll (page_written memory 0 (gate 1).bytes) (replay_row l) last) (sym (shown_is memory old new whole)) split.2.1.1)

home_among : (cells : Cells) (state : List ℕ) (states : List (List ℕ)) → Behind 0 (Home state) cells → Contains states state → Among recover cells states
home_among cells state states home has = stands_among recover_at cells 0 state states (gate_sure cells 0 home.0) (omega arith) home.1 has

-- a commit was cut
pub commit_stops : (start last : Memory) (old new : List ℕ) (states : List (List ℕ)) → IsReady start old → length new ≤ 1024
    → Contains states old → Contains states new → StopsIn start (commit_row (changed_pages old new)) last → Among recover last.cells states
commit_stops start last old new states ready fits has_old has_new stops =
    let blocks : List Block = changed_pages old new in
    let P : Cells → Type 0 = Behind 0 (Home old) in
    let keeps = keep_journaled P 19 blocks (λ number from. home_keeps old number (omega arith)) in
    elim (stops_split start last (journaled 19 blocks) (record { page = 18; bytes = header blocks } ∷ gate 1 ∷ replay_row blocks) stops) [
      | inl early ↦ home_among last.cells old states (keep_stops P (journaled 19 blocks) start last keeps early (ready.closed, ready.stands)) has_old
      | inr late ↦
          let mid : Memory = late.0 in
          let here : P mid.cells = keep_all P (journaled 19 blocks) start mid keeps late.1 (ready.closed, ready.stands) in
          let whole = prepared start mid old new ready fits late.1 in
          let memory : Memory = page_written mid 18 (header blocks) in
          elim late.2 [
            | inl cut ↦ home_among last.cells old states (keep_cut P mid last 18 (header blocks) (home_keeps old 18 (omega arith)) cut here) has_old
            | inr behind ↦
                elim behind.1 [
                  | inl cut ↦
                      gate_cut memory last 0 1 1 old new states (gate_sure memory.cells 0 whole.home.0) refl whole.home.1
                      (shows_stands (numbers_of blocks) new memory.cells whole.says) has_old has_new cut
                  | inr after ↦
                      opened_stops (page_written memory 0 (gate 1).bytes) last (numbers_of blocks) new states (opened memory old new fits whole) has_new
                      (subst (λ (l : List Block). StopsIn (page_written memory 0 (gate 1).bytes) (replay_row l) last) (sym (shown_is memory old new whole)) after.1)
                ]
          ]
    ]

pub commit_row_long : (old new : List ℕ) → length (commit_row (changed_pages old new)) ≡ commit_writes old new
commit_row_long old new =
    let blocks : List Block = changed_pages old new in
    let ends : length (blocks ++ gate 0 ∷ []) ≡ length blocks + 1 = length-append blocks (gate 0 ∷ []) in
    length-append (journaled 19 blocks) (record { page = 18; bytes = header blocks } ∷ gate 1 ∷ replay_row blocks)
    ∙ omega (arith, journaled_long 19 blocks)

-- a first state is written to any pages
pub format_all : (start last : Memory) (state : List ℕ) → IsOn start → length state ≤ 1024
    → WritesAll start (replay_row (changed_in [] (framed state))) last → IsReady last state
format_all start last state on fits all =
    let blocks : List Block = changed_in [] (framed state) in
    replay_all start last blocks state on fits (whole_changed ((length (framed state) + 63) / 64) 0 [] (framed state))
    (home_rising blocks 0 (changed_rises [] state fits))
    (λ pages reading.
    changed_gives [] state (take 17 pages) fits (omega arith) (sized_take 63 17 pages (omega arith) (rest_sized start pages on reading))
    (λ i below. absurd (omega arith)))
    all

pub ready_marked : (memory : Memory) (state : List ℕ) → IsReady memory state → IsReady (commit_marked memory) state
ready_marked memory state ready = record {
  on = record { on = ready.on.on; sized = ready.on.sized; reading = ready.on.reading; plan = ready.on.plan };
  fits = ready.fits;
  closed = ready.closed;
  stands = ready.stands;
}

-- how many writes a commit made, none of which was cut
pub commit_counted : (start last : Memory) (old new : List ℕ) → IsTrue (is_plan start.plan) → start.writes ≡ 0 → length new ≤ 1024
    → WritesAll start (commit_row (changed_pages old new)) last → Row start last (commit_writes old new)
commit_counted start last old new planned first fits all =
    let long = commit_row_long old new in
    let few : length (commit_row (changed_pages old new)) ≤ 100 = omega (arith, changed_length old new fits) in
    let all_rows = row_all (commit_row (changed_pages old new)) start start last 0 (row_none start planned first) (omega arith) all in
    let count : 0 + length (commit_row (changed_pages old new)) ≡ commit_writes old new = omega arith in
    subst (λ (n : ℕ). Row start last n) count all_rows

pub commit_cut : (start last : Memory) (old new : List ℕ) → IsTrue (is_plan start.plan) → start.writes ≡ 0 → length new ≤ 1024
    → StopsIn start (commit_row (changed_pages old new)) last → RowCut start last (commit_writes old new)
commit_cut start last old new planned first fits stops =
    let long = commit_row_long old new in
    row_stops (commit_row (changed_pages old new)) start start last 0 (commit_writes old new) (row_none start planned first) (omega arith)
    (omega (arith, changed_length old new fits)) stops

-- the blocks of a change are for pages of the memory
pub changed_within : (known frame state : List ℕ) (blocks slice : List Block) → length state ≤ 1024 → frame ≡ framed state → blocks ≡ changed_in known frame
    → slice ≡ blocks → (k : ℕ) (d : Block) → k < length slice → (get_or slice k d).page < 64
changed_within known frame state blocks slice fits framed_is is slice_is k d inside =
    let rises : is_rising 0 (numbers_of (changed_in known frame)) ≡ true =
    subst (λ (l : List ℕ). is_rising 0 (numbers_of (changed_in known l)) ≡ true) (sym framed_is) (changed_rises known state fits) in
    home_within slice (subst AtHome (sym (slice_is ∙ is)) (home_rising (changed_in known frame) 0 rises)) k d inside
