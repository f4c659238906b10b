-- The home pages that change, and the home with them.
use Rattle.std.proofs.Common.{◌≡◌, ◌≢◌, ◌<◌, ◌≤◌, ◌+◌, ◌-◌, ◌*◌, ◌/◌, ◌%◌, ℕ, zero, suc, List, [], ◌∷◌, ◌++◌, length, get_or, drop, map, replicate, refl, ap, sym, ◌∙◌, subst, arith, append_assoc, Some, Bool, true, false, not, ◌==◌, nat_lt, nat_le, inl, inr, ◌⊎◌}
use Rattle.std.proofs.Math.ListN.{set}
use Rattle.std.specs.List.{starts_with}
use Rattle.std.proofs.lemmas.Bool.{eqb-true, eqb-false}
use Rattle.std.proofs.lemmas.Bool.Decides.{nat_tests, Decides-eqb}
use Rattle.std.proofs.lemmas.List.{get_or-set_same, get_or-set_other, get_or-take, get_or-drop, get_or_append_left, length-take, length-drop, length-append, length-replicate}
use Rattle.std.proofs.lemmas.List.Prefix.{front_reads, front_fits}
use Rattle.std.proofs.lemmas.Slice.Eq.{starts_is}
use Rattle.torn_store.specs.Layout.{bytes_of_pages, overlaid, state_in, framed, page_part, padded_page, changes, changed_from, changed_in, is_rising}
use Rattle.torn_store.specs.declared.layout.Block.{Block}
use Rattle.torn_store.proofs.Frames.{state_from_reads, found_reads}
use Rattle.torn_store.proofs.Sizes.{Sized, sized_set, sized_count, joined_at, joined_long}

abbrev pub block_at : ℕ → List ℕ → Block
block_at place frame = record { page = place + 1; bytes = padded_page (page_part frame place) }

pub changed_more : (place left : ℕ) (known frame : List ℕ) → changes known frame place ≡ true
    → changed_from place (suc left) known frame ≡ block_at place frame ∷ changed_from (place + 1) left known frame
changed_more place left known frame is = rw is refl

pub changed_same : (place left : ℕ) (known frame : List ℕ) → changes known frame place ≡ false
    → changed_from place (suc left) known frame ≡ changed_from (place + 1) left known frame
changed_same place left known frame is = rw is refl

-- of the pages up to n, those from this place on are left
changed_left : (n place : ℕ) (known frame : List ℕ) (next : List Block) → place < n → changed_from place (suc (n - (place + 1))) known frame ≡ next
    → changed_from place (n - place) known frame ≡ next
changed_left n place known frame next below is =
    let one : n - place ≡ suc (n - (place + 1)) = omega arith in
    ap (λ (left : ℕ). changed_from place left known frame) one ∙ is

pub left_same : (n place : ℕ) (known frame rest part : List ℕ) (done whole : List Block) → place < n → rest ≡ drop (64 * place) known
    → part ≡ page_part frame place → true ≡ starts_with ◌==◌ rest part → done ++ changed_from place (n - place) known frame ≡ whole
    → done ++ changed_from (place + 1) (n - (place + 1)) known frame ≡ whole
left_same n place known frame rest part done whole below is_rest is_part begins so_far =
    let same : changes known frame place ≡ false = rw (← is_rest, ← is_part, ← begins) refl in
    ap (λ (l : List Block). done ++ l)
    (sym (changed_left n place known frame _ below (changed_same place (n - (place + 1)) known frame same)))
    ∙ so_far

pub left_more : (n place : ℕ) (known frame rest part : List ℕ) (done more whole : List Block) → place < n → rest ≡ drop (64 * place) known
    → part ≡ page_part frame place → false ≡ starts_with ◌==◌ rest part → more ≡ done ++ block_at place frame ∷ []
    → done ++ changed_from place (n - place) known frame ≡ whole
    → more ++ changed_from (place + 1) (n - (place + 1)) known frame ≡ whole
left_more n place known frame rest part done more whole below is_rest is_part begins is_more so_far =
    let differ : changes known frame place ≡ true = rw (← is_rest, ← is_part, ← begins) refl in
    let after : List Block = changed_from (place + 1) (n - (place + 1)) known frame in
    ap (λ (l : List Block). l ++ after) is_more ∙ append_assoc done (block_at place frame ∷ []) after
    ∙ ap (λ (l : List Block). done ++ l)
    (sym (changed_left n place known frame _ below (changed_more place (n - (place + 1)) known frame differ)))
    ∙ so_far

pub filled_long : (part : List ℕ) → length part ≤ 64 → length (padded_page part) ≡ 64
filled_long part short = omega (arith, length-append part (replicate (64 - length part) 0), length-replicate {A = ℕ} (64 - length part) 0)

pub part_short : (frame : List ℕ) (place : ℕ) → length (page_part frame place) ≤ 64
part_short frame place = omega (arith, length-take 64 (drop (64 * place) frame))

part_long : (frame : List ℕ) (place r : ℕ) → r < 64 → 64 * place + r < length frame → r < length (page_part frame place)
part_long frame place r below inside = omega (arith, length-take 64 (drop (64 * place) frame), length-drop (64 * place) frame)

part_at : (frame : List ℕ) (place r : ℕ) → r < 64 → get_or (page_part frame place) r 0 ≡ get_or frame (64 * place + r) 0
part_at frame place r below = get_or-take 64 (drop (64 * place) frame) r 0 below ∙ get_or-drop (64 * place) frame r 0

-- a home that begins with the known bytes, from a page on
abbrev Knows : List (List ℕ) → ℕ → List ℕ → Type 0
Knows home place known = (p r : ℕ) → place ≤ p → r < 64 → 64 * p + r < length known → get_or (get_or home p []) r 0 ≡ get_or known (64 * p + r) 0

-- the home with so many pages from a place on that hold the frame, and with those before as they were
record Overlays (place left : ℕ) (frame : List ℕ) (home over : List (List ℕ)) : Type 0 where
  pub sized : Sized 17 over
  pub before : (p : ℕ) → p < place → get_or over p [] ≡ get_or home p []
  pub after : (p r : ℕ) → place ≤ p → p < place + left → r < 64 → 64 * p + r < length frame
      → get_or (get_or over p []) r 0 ≡ get_or frame (64 * p + r) 0

is_true : (b : Bool) → not b ≡ false → b ≡ true
is_true true e = refl
is_true false e = cc

begins_known : (known frame : List ℕ) (place : ℕ) → changes known frame place ≡ false
    → drop (64 * place) known ≡ page_part frame place ++ drop (length (page_part frame place)) (drop (64 * place) known)
begins_known known frame place is =
    let part : List ℕ = page_part frame place in
    let begins : starts_with ◌==◌ (drop (64 * place) known) part ≡ true = is_true (starts_with ◌==◌ (drop (64 * place) known) part) is in
    (starts_is Decides-eqb (drop (64 * place) known) part (starts_with ◌==◌ (drop (64 * place) known) part) refl).0 begins

-- a page that doesn't change holds its part of the frame
same_part : (known frame : List ℕ) (home : List (List ℕ)) (place r : ℕ) → changes known frame place ≡ false → Knows home place known
    → r < 64 → 64 * place + r < length frame → get_or (get_or home place []) r 0 ≡ get_or frame (64 * place + r) 0
same_part known frame home place r is knows below inside =
    let part : List ℕ = page_part frame place in
    let rest : List ℕ = drop (64 * place) known in
    let begins = begins_known known frame place is in
    let long = part_long frame place r below inside in
    let known_long : 64 * place + r < length known = omega (arith, front_fits rest part (drop (length part) rest) begins, length-drop (64 * place) known) in
    knows place r (omega arith) below known_long
    ∙ sym (get_or-drop (64 * place) known r 0)
    ∙ front_reads 0 rest part (drop (length part) rest) begins r long
    ∙ part_at frame place r below

-- a page that changes holds its part of the frame
new_part : (frame : List ℕ) (place r : ℕ) → r < 64 → 64 * place + r < length frame
    → get_or (padded_page (page_part frame place)) r 0 ≡ get_or frame (64 * place + r) 0
new_part frame place r below inside =
    get_or_append_left (page_part frame place) (replicate (64 - length (page_part frame place)) 0) 0 r (part_long frame place r below inside)
    ∙ part_at frame place r below

at_or_after : (place p : ℕ) → place ≤ p → (p ≡ place) ⊎ (place + 1 ≤ p)
at_or_after place p upto = go (p == place) refl where
  go : (same : Bool) → (p == place) ≡ same → (p ≡ place) ⊎ (place + 1 ≤ p)
  go true is = inl (eqb-true p place is)
  go false is = inr (let differ = eqb-false p place is in grind arith)

overlays_none : (place : ℕ) (frame : List ℕ) (home : List (List ℕ)) → Sized 17 home → Overlays place 0 frame home home
overlays_none place frame home sized = record {
  sized = sized;
  before = λ p below. refl;
  after = λ p r from to below inside. absurd (omega arith);
}

overlays_same : (place left : ℕ) (known frame : List ℕ) (home over : List (List ℕ)) → changes known frame place ≡ false → Knows home place known
    → Overlays (place + 1) left frame home over → Overlays place (suc left) frame home over
overlays_same place left known frame home over is knows rest = record {
  sized = rest.sized;
  before = λ p below. rest.before p (omega arith);
  after = λ p r from to below inside. elim (at_or_after place p from) [
    | inl here ↦
        subst (λ (q : ℕ). get_or (get_or over q []) r 0 ≡ get_or frame (64 * q + r) 0) (sym here)
        (ap (λ (l : List ℕ). get_or l r 0) (rest.before place (omega arith))
        ∙ same_part known frame home place r is knows below (subst (λ (q : ℕ). 64 * q + r < length frame) here inside))
    | inr later ↦ rest.after p r later (omega arith) below inside
  ];
}

overlays_more : (place left : ℕ) (frame : List ℕ) (home over : List (List ℕ)) → place < 17 → Sized 17 home
    → Overlays (place + 1) left frame (set home place (padded_page (page_part frame place))) over → Overlays place (suc left) frame home over
overlays_more place left frame home over inside_home sized rest =
    let page : List ℕ = padded_page (page_part frame place) in
    let count = sized_count 17 home sized in
    record {
      sized = rest.sized;
      before = λ p below.
          let other : p ≢ place = λ e. absurd (omega (arith, e)) in
          rest.before p (omega arith) ∙ get_or-set_other home place p page [] other;
      after = λ p r from to below inside. elim (at_or_after place p from) [
        | inl here ↦
            subst (λ (q : ℕ). get_or (get_or over q []) r 0 ≡ get_or frame (64 * q + r) 0) (sym here)
            (ap (λ (l : List ℕ). get_or l r 0) (rest.before place (omega arith) ∙ get_or-set_same home place page [] (omega arith))
            ∙ new_part frame place r below (subst (λ (q : ℕ). 64 * q + r < length frame) here inside))
        | inr later ↦ rest.after p r later (omega arith) below inside
      ];
    }

knows_later : (home : List (List ℕ)) (place : ℕ) (known : List ℕ) → Knows home place known → Knows home (place + 1) known
knows_later home place known knows = λ p r from. knows p r (omega arith)

knows_set : (home : List (List ℕ)) (place : ℕ) (known page : List ℕ) → Knows home place known → Knows (set home place page) (place + 1) known
knows_set home place known page knows = λ p r from below inside.
    let other : p ≢ place = λ e. absurd (omega (arith, e)) in
    ap (λ (l : List ℕ). get_or l r 0) (get_or-set_other home place p page [] other) ∙ knows p r (omega arith) below inside

overlays_step : (test : Bool) (place left : ℕ) (known frame : List ℕ) (home : List (List ℕ)) → changes known frame place ≡ test → place < 17
    → Sized 17 home → Knows home place known
    → ((next : List (List ℕ)) → Sized 17 next → Knows next (place + 1) known
    → Overlays (place + 1) left frame next (overlaid (changed_from (place + 1) left known frame) next))
    → Overlays place (suc left) frame home (overlaid (changed_from place (suc left) known frame) home)
overlays_step true place left known frame home is inside sized knows rest =
    let page : List ℕ = padded_page (page_part frame place) in
    let here : place + 1 - 1 ≡ place = omega arith in
    let blocks : List Block = changed_from (place + 1) left known frame in
    let over : overlaid (changed_from place (suc left) known frame) home ≡ overlaid blocks (set home place page) =
    ap (λ (l : List Block). overlaid l home) (changed_more place left known frame is) ∙ ap (λ (p : ℕ). overlaid blocks (set home p page)) here in
    subst (λ (l : List (List ℕ)). Overlays place (suc left) frame home l) (sym over)
    (overlays_more place left frame home (overlaid blocks (set home place page)) inside sized
    (rest (set home place page) (sized_set 17 place home page sized (filled_long (page_part frame place) (part_short frame place)))
    (knows_set home place known page knows)))
overlays_step false place left known frame home is inside sized knows rest =
    let over : overlaid (changed_from place (suc left) known frame) home ≡ overlaid (changed_from (place + 1) left known frame) home =
    ap (λ (l : List Block). overlaid l home) (changed_same place left known frame is) in
    subst (λ (l : List (List ℕ)). Overlays place (suc left) frame home l) (sym over)
    (overlays_same place left known frame home (overlaid (changed_from (place + 1) left known frame) home) is knows
    (rest home sized (knows_later home place known knows)))

overlays : (left place : ℕ) (known frame : List ℕ) (home : List (List ℕ)) → place + left ≤ 17 → Sized 17 home → Knows home place known
    → Overlays place left frame home (overlaid (changed_from place left known frame) home)
overlays zero place known frame home few sized knows = overlays_none place frame home sized
overlays (suc left) place known frame home few sized knows =
    overlays_step (changes known frame place) place left known frame home refl (omega arith) sized knows
    (λ next sized_next knows_next. overlays left (place + 1) known frame next (omega arith) sized_next knows_next)

-- A home that begins with the known bytes gives the state, once it has the pages that change.
pub changed_gives : (known state : List ℕ) (home : List (List ℕ)) → length state ≤ 1024 → length known ≤ 1026 → Sized 17 home
    → ((i : ℕ) → i < length known → get_or (bytes_of_pages home) i 0 ≡ get_or known i 0)
    → state_in (bytes_of_pages (overlaid (changed_in known (framed state)) home)) ≡ Some state
changed_gives known state home fits short sized reads =
    let frame : List ℕ = framed state in
    let size : length frame ≡ length state + 2 = omega arith in
    let n : ℕ = (length frame + 63) / 64 in
    let over : List (List ℕ) = overlaid (changed_in known frame) home in
    let whole = overlays n 0 known frame home (omega arith) sized
    (λ p r from below inside. sym (joined_at 17 p r home sized (omega arith) below) ∙ reads (64 * p + r) inside) in
    let long = joined_long 17 over whole.sized in
    state_from_reads (bytes_of_pages over) state fits (omega arith)
    (λ i below.
    let p : ℕ = i / 64 in
    let r : ℕ = i % 64 in
    let split : 64 * p + r ≡ i = omega arith in
    subst (λ (k : ℕ). get_or (bytes_of_pages over) k 0 ≡ get_or frame k 0) split
    (joined_at 17 p r over whole.sized (omega arith) (omega arith) ∙ whole.after p r (omega arith) (omega arith) (omega arith) (omega arith)))

-- a home with an old state gives the new one, once it has the pages that change
pub changed_recovers : (old new : List ℕ) (home : List (List ℕ)) → length old ≤ 1024 → length new ≤ 1024 → Sized 17 home
    → state_in (bytes_of_pages home) ≡ Some old → state_in (bytes_of_pages (overlaid (changed_in (framed old) (framed new)) home)) ≡ Some new
changed_recovers old new home short fits sized found =
    let long = joined_long 17 home sized in
    changed_gives (framed old) new home fits (omega arith) sized (found_reads (bytes_of_pages home) old (omega arith) found)

rising_step : (test : Bool) (above place left : ℕ) (known frame : List ℕ) → changes known frame place ≡ test → above ≤ place → place + suc left ≤ 17
    → ((least : ℕ) → least ≤ place + 1 → is_rising least (map (λ (b : Block). b.page) (changed_from (place + 1) left known frame)) ≡ true)
    → is_rising above (map (λ (b : Block). b.page) (changed_from place (suc left) known frame)) ≡ true
rising_step true above place left known frame is from few rest =
    let over : nat_lt above (place + 1) ≡ true = grind (arith, nat_tests) in
    let within : nat_le (place + 1) 17 ≡ true = grind (arith, nat_tests) in
    ap (λ (l : List Block). is_rising above (map (λ (b : Block). b.page) l)) (changed_more place left known frame is)
    ∙ rw (over, within) (rest (place + 1) (omega arith))
rising_step false above place left known frame is from few rest =
    ap (λ (l : List Block). is_rising above (map (λ (b : Block). b.page) l)) (changed_same place left known frame is) ∙ rest above (omega arith)

-- the numbers of the pages that change rise
pub rising : (left above place : ℕ) (known frame : List ℕ) → above ≤ place → place + left ≤ 17
    → is_rising above (map (λ (b : Block). b.page) (changed_from place left known frame)) ≡ true
rising zero above place known frame from few = refl
rising (suc left) above place known frame from few =
    rising_step (changes known frame place) above place left known frame refl from few
    (λ least under. rising left least (place + 1) known frame under (omega arith))

few_step : (test : Bool) (place left : ℕ) (known frame : List ℕ) → changes known frame place ≡ test
    → length (changed_from (place + 1) left known frame) ≤ left → length (changed_from place (suc left) known frame) ≤ suc left
few_step true place left known frame is rest = omega (arith, ap length (changed_more place left known frame is))
few_step false place left known frame is rest = omega (arith, ap length (changed_same place left known frame is))

pub changed_few : (left place : ℕ) (known frame : List ℕ) → length (changed_from place left known frame) ≤ left
changed_few zero place known frame = omega arith
changed_few (suc left) place known frame =
    few_step (changes known frame place) place left known frame refl (changed_few left (place + 1) known frame)
