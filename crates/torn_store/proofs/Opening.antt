-- Pages are turned on, repaired and converted.
use Rattle.std.proofs.Common.{◌≡◌, ◌<◌, ◌≤◌, ◌+◌, ◌/◌, ℕ, List, [], ◌∷◌, ◌++◌, length, get_or, drop, map, replicate, refl, ap, sym, ◌∙◌, subst, arith, Option, Some, None, true, false, IsSome, IsTrue, lit<}
use Rattle.std.specs.Prelude.{Contains, unwrap_or}
use Rattle.std.proofs.lemmas.List.{ext_get_or, get_or-map, get_or-replicate, get_or-drop, length-map, length-replicate, length-append}
use Rattle.std.proofs.lemmas.List.Elements.{Contains-append_left, Contains-append_right}
use Rattle.emv_ports.specs.Causes.{one_more}
use Rattle.emv_ports.specs.Cut.{is_plan, names_commit, cuts_among}
use Rattle.emv_ports.specs.Memory.{Memory, PowersUp, gone, next_release_cut}
use Rattle.emv_ports.specs.declared.tear.Cut.TheVariants.{Spared, CutBefore}
use Rattle.torn_store.specs.Conversion.{converted}
use Rattle.torn_store.specs.Layout.{numbers_in, recover_at, recover, framed, changed_in, changed_pages}
use Rattle.torn_store.specs.Recovery.{lowest, Among, Holds}
use Rattle.torn_store.specs.Store.{IsOn, IsReady}
use Rattle.torn_store.specs.Writing.{WritesAll, StopsIn, Row, RowCut, WroteFew, StoppedFew, TurnedOn, LostAt, gate, replay_row, repair_row, commit_row}
use Rattle.torn_store.specs.declared.layout.Block.{Block}
use Rattle.torn_store.proofs.Causes.{cuts_named, release_cut_named, spared_not_named}
use Rattle.torn_store.proofs.Changes.{changed_few}
use Rattle.torn_store.proofs.Committing.{commit_all, commit_stops, commit_row_long, changed_length, format_all}
use Rattle.torn_store.proofs.Gates.{stands_among, stands_holds}
use Rattle.torn_store.proofs.Mending.{repair_all, repair_few, stands_names}
use Rattle.torn_store.proofs.Readings.{reading_rest}
use Rattle.torn_store.proofs.Replaying.{gate_sure, shown_sized}
use Rattle.torn_store.proofs.Rows.{Cells, row_none, row_all, row_stops}
use Rattle.torn_store.proofs.Sizes.{Sized, sized_count}

pub some_is : {X : Type 0} (o : Option X) (x : X) → o ≡ Some x → IsSome o
some_is {X = X} o x e = subst (λ (p : Option X). IsSome p) (sym e) refl

-- pages that are ready stand for the state
pub ready_holds : (memory : Memory) (state : List ℕ) → IsReady memory state → Holds recover memory.cells state
ready_holds memory state ready = stands_holds recover_at memory.cells 0 state (gate_sure memory.cells 0 ready.closed) (lit< tt) ready.stands

pub ready_among : (memory : Memory) (cells : Cells) (state : List ℕ) (states : List (List ℕ)) → IsReady memory state → cells ≡ memory.cells
    → Contains states state → Among recover cells states
ready_among memory cells state states ready same has =
    subst (λ (c : Cells). Among recover c states) (sym same)
    (stands_among recover_at memory.cells 0 state states (gate_sure memory.cells 0 ready.closed) (lit< tt) ready.stands has)

sized_from : (cells : Cells) → length cells ≡ 64 → ((page : ℕ) → page < 64 → length (get_or cells page []) ≡ 64) → Sized 64 cells
sized_from cells count each =
    ext_get_or 0 (map length cells) (replicate 64 64) (length-map cells length ∙ count ∙ sym (length-replicate {A = ℕ} 64 64))
    (λ page inside.
    let below : page < 64 = omega (arith, length-map cells length) in
    get_or-map length cells page [] 0 (omega arith) ∙ each page below ∙ sym (get_or-replicate 64 page 64 0 below))

pub up_on : (old new : Memory) → PowersUp old new → IsOn new
up_on old new up = record {
  on = ap (λ (m : Memory). m.on) up.turned_on;
  sized = sized_from new.cells up.pages up.page_cells;
  reading = up.reading;
  plan = up.plan;
}

pub up_among : (old new : Memory) (states : List (List ℕ)) → PowersUp old new → Among recover old.cells states → Among recover new.cells states
up_among old new states up among = subst (λ (c : Cells). Among recover c states) (sym (ap (λ (m : Memory). m.cells) up.turned_on)) among

-- an open gate has a header behind it
pub header_found : (memory : Memory) (states : List (List ℕ)) → IsOn memory → Among recover memory.cells states → lowest memory.shown ≡ 1
    → IsSome (numbers_in (get_or memory.shown 18 []))
header_found memory states on among is =
    let one = among.each memory.shown on.reading in
    let found : recover_at 1 (drop 1 memory.shown) ≡ Some one.0 = sym (ap (λ (b : ℕ). recover_at b (drop 1 memory.shown)) is) ∙ one.2 in
    let names = stands_names (drop 1 memory.shown) one.0 found in
    some_is (numbers_in (get_or memory.shown 18 [])) names.0 (ap numbers_in (sym (get_or-drop 1 memory.shown 17 [])) ∙ names.1)

-- what a repair leaves: ready pages with the state that was shown
pub record Mends (old new : Memory) : Type 0 where
  pub state : List ℕ
  pub found : recover old.shown ≡ Some state
  pub ready : IsReady new state

pub mends : (old new : Memory) (states : List (List ℕ)) → IsOn old → Among recover old.cells states → WritesAll old (repair_row old.shown) new → Mends old new
mends old new states on among all =
    let one = among.each old.shown on.reading in
    record { state = one.0; found = one.2; ready = repair_all old new one.0 states on among one.2 all }

pub home_found : (memory : Memory) (state : List ℕ) → IsReady memory state → recover_at 0 (drop 1 memory.shown) ≡ Some state
home_found memory state ready = ready.stands (drop 1 memory.shown) (reading_rest memory.cells memory.shown ready.on.reading)

pub shown_long : (memory : Memory) (state : List ℕ) → IsReady memory state → length memory.shown ≡ 64
shown_long memory state ready = sized_count 64 memory.shown (shown_sized memory ready.on)

-- the home gives the state that was shown
pub mends_is : (old new : Memory) (state : List ℕ) (mended : Mends old new) → recover_at 0 (drop 1 new.shown) ≡ Some state → mended.state ≡ state
mends_is old new state mended read = let same : Some mended.state ≡ Some state = sym (home_found new mended.state mended.ready) ∙ read in cc

pub converted_is : (means : List ℕ → Option (List ℕ)) (state next : List ℕ) → means state ≡ Some next → converted means state ≡ next
converted_is means state next is = ap (λ (o : Option (List ℕ)). unwrap_or o state) is

row_as : (s state n next : List ℕ) → s ≡ state → n ≡ next → commit_row (changed_pages s n) ≡ commit_row (changed_pages state next)
row_as s state n next e f = ap (λ (l : List ℕ). commit_row (changed_pages l n)) e ∙ ap (λ (l : List ℕ). commit_row (changed_pages state l)) f

-- the new state was written
pub convert_all : (old new : Memory) (s state n next : List ℕ) → s ≡ state → n ≡ next → length n ≤ 1024 → IsReady old state
    → WritesAll old (commit_row (changed_pages s n)) new → IsReady new next
convert_all old new s state n next e f fits ready all =
    commit_all old new state next ready (subst (λ (l : List ℕ). length l ≤ 1024) f fits) (subst (λ (l : List Block). WritesAll old l new) (row_as s state n next e f) all)

pub convert_stops : (old new : Memory) (s state n next : List ℕ) (means : List ℕ → Option (List ℕ)) (states : List (List ℕ)) → s ≡ state → n ≡ next → length n ≤ 1024
    → IsReady old state → means s ≡ Some next → Contains states state → Contains states (converted means state)
    → StopsIn old (commit_row (changed_pages s n)) new → Among recover new.cells states
convert_stops old new s state n next means states e f fits ready is has_old has_new stops =
    let next_is : converted means state ≡ next = converted_is means state next (ap means (sym e) ∙ is) in
    commit_stops old new state next states ready (subst (λ (l : List ℕ). length l ≤ 1024) f fits) has_old
    (subst (λ (l : List ℕ). Contains states l) next_is has_new) (subst (λ (l : List Block). StopsIn old l new) (row_as s state n next e f) stops)

commit_short : (s n : List ℕ) → length n ≤ 1024 → length (commit_row (changed_pages s n)) ≤ 37
commit_short s n fits = omega (arith, commit_row_long s n, changed_length s n fits)

pub convert_wrote : (old new : Memory) (s n : List ℕ) → length n ≤ 1024 → WritesAll old (commit_row (changed_pages s n)) new → WroteFew old new 37
convert_wrote old new s n fits all = record { row = commit_row (changed_pages s n); few = commit_short s n fits; all = all }

pub convert_stopped : (old new : Memory) (s n : List ℕ) → length n ≤ 1024 → StopsIn old (commit_row (changed_pages s n)) new → StoppedFew old new 37
convert_stopped old new s n fits stops = record { row = commit_row (changed_pages s n); few = commit_short s n fits; stops = stops }

-- behind a power-up no write was made yet
up_row : (old on : Memory) → PowersUp old on → Row on on 0
up_row old on up = row_none on up.plan (ap (λ (m : Memory). m.writes) up.turned_on)

repair_count : (old on mid : Memory) → PowersUp old on → WritesAll on (repair_row on.shown) mid → Row on mid (length (repair_row on.shown))
repair_count old on mid up all =
    let few = repair_few on.shown in
    let count : 0 + length (repair_row on.shown) ≡ length (repair_row on.shown) = omega arith in
    subst (λ (n : ℕ). Row on mid n) count (row_all (repair_row on.shown) on on mid 0 (up_row old on up) (omega arith) all)

-- behind a repair and a conversion: how many writes, none of which was cut
record Counted (on now : Memory) : Type 0 where
  pub number : ℕ
  pub some : 1 ≤ number
  pub row : Row on now number

counted : (old on mid now : Memory) → PowersUp old on → WritesAll on (repair_row on.shown) mid → WroteFew mid now 37 → Counted on now
counted old on mid now up all wrote =
    let few = repair_few on.shown in
    let short : length wrote.row ≤ 37 = wrote.few in
    record {
      number = length (repair_row on.shown) + length wrote.row;
      some = omega arith;
      row = row_all wrote.row on mid now (length (repair_row on.shown)) (repair_count old on mid up all) (omega arith) wrote.all;
    }

named_zero : (old on : Memory) → PowersUp old on → names_commit on.plan on.commit ≡ names_commit old.plan 0
named_zero old on up =
    ap (λ (p : Option _). names_commit p on.commit) (ap (λ (m : Memory). m.plan) up.turned_on) ∙ ap (names_commit old.plan) (ap (λ (m : Memory). m.commit) up.turned_on)

lost_in_row : (old on new : Memory) (number : ℕ) → PowersUp old on → RowCut on new number → LostAt old new
lost_in_row old on new number up lost = record {
  cut = sym (named_zero old on up) ∙ cuts_named on.plan on.commit number lost.cut;
  gone = record {
    off = lost.gone.off;
    plan = lost.gone.plan;
    losses = lost.gone.losses ∙ ap one_more (ap (λ (m : Memory). m.losses) up.turned_on);
  };
}

pub lost_in_repair : (old on new : Memory) → PowersUp old on → StopsIn on (repair_row on.shown) new → LostAt old new
lost_in_repair old on new up stops =
    lost_in_row old on new 19 up
    (row_stops (repair_row on.shown) on on new 0 19 (up_row old on up) (omega (arith, repair_few on.shown)) (omega arith) stops)

pub lost_in_conversion : (old on mid new : Memory) → PowersUp old on → WritesAll on (repair_row on.shown) mid → StoppedFew mid new 37 → LostAt old new
lost_in_conversion old on mid new up all stopped =
    let few = repair_few on.shown in
    let short : length stopped.row ≤ 37 = stopped.few in
    lost_in_row old on new 56 up
    (row_stops stopped.row on mid new (length (repair_row on.shown)) 56 (repair_count old on mid up all) (omega arith) (omega arith) stopped.stops)

pub lost_in_release : (old on mid now new : Memory) → PowersUp old on → WritesAll on (repair_row on.shown) mid → WroteFew mid now 37
    → next_release_cut now ≡ CutBefore → new ≡ gone now → LostAt old new
lost_in_release old on mid now new up all wrote cut is =
    let count = counted old on mid now up all wrote in
    let named : names_commit now.plan now.commit ≡ true = release_cut_named now.plan now.commit now.writes cut in
    let named_on : names_commit on.plan on.commit ≡ true =
    sym (ap (λ (p : Option _). names_commit p now.commit) count.row.plan ∙ ap (names_commit on.plan) count.row.commit) ∙ named in
    record {
      cut = sym (named_zero old on up) ∙ named_on;
      gone = record {
        off = ap (λ (m : Memory). m.on) is;
        plan = ap (λ (m : Memory). m.plan) is;
        losses = ap (λ (m : Memory). m.losses) is ∙ ap one_more (count.row.losses ∙ ap (λ (m : Memory). m.losses) up.turned_on);
      };
    }

opened_unnamed : (old on mid now : Memory) → PowersUp old on → WritesAll on (repair_row on.shown) mid → WroteFew mid now 37 → next_release_cut now ≡ Spared
    → names_commit old.plan 0 ≡ false
opened_unnamed old on mid now up all wrote spared =
    let count = counted old on mid now up all wrote in
    let none : cuts_among now.plan now.commit now.writes ≡ false =
    ap (λ (p : Option _). cuts_among p now.commit now.writes) count.row.plan
    ∙ ap (λ (n : ℕ). cuts_among on.plan n now.writes) count.row.commit
    ∙ ap (cuts_among on.plan on.commit) count.row.writes ∙ count.row.spared in
    let free : names_commit now.plan now.commit ≡ false = spared_not_named now.plan now.commit now.writes none spared in
    sym (named_zero old on up)
    ∙ sym (ap (λ (p : Option _). names_commit p now.commit) count.row.plan ∙ ap (names_commit on.plan) count.row.commit) ∙ free

pub opened_on : (old on mid now new : Memory) → PowersUp old on → WritesAll on (repair_row on.shown) mid → WroteFew mid now 37 → next_release_cut now ≡ Spared → new ≡ now
    → TurnedOn old new
opened_on old on mid now new up all wrote spared is =
    let count = counted old on mid now up all wrote in
    let some : 1 ≤ count.number = count.some in
    let here : TurnedOn old now = record {
      spared = opened_unnamed old on mid now up all wrote spared;
      commit = count.row.commit ∙ ap (λ (m : Memory). m.commit) up.turned_on;
      wrote = subst (λ (n : ℕ). 1 ≤ n) (sym count.row.writes) some;
      plan = count.row.plan ∙ ap (λ (m : Memory). m.plan) up.turned_on;
      losses = count.row.losses ∙ ap (λ (m : Memory). m.losses) up.turned_on;
    } in
    subst (λ (m : Memory). TurnedOn old m) (sym is) here

has_map : (f : List ℕ → List ℕ) (states : List (List ℕ)) (state : List ℕ) → Contains states state → Contains (map f states) (f state)
has_map f states state has =
    let inside : has.0 < length states = has.1 in (
      has.0,
      omega (arith, length-map states f),
      get_or-map f states has.0 state (f state) inside ∙ ap f has.2,
    )

-- the state that was shown is one of those that the pages are among
pub shown_has : (on : Memory) (state : List ℕ) (states : List (List ℕ)) → IsOn on → Among recover on.cells states → recover on.shown ≡ Some state → Contains states state
shown_has on state states is_on among found =
    let one = among.each on.shown is_on.reading in
    let same : one.0 ≡ state = (let both : Some one.0 ≡ Some state = sym one.2 ∙ found in cc) in
    subst (λ (s : List ℕ). Contains states s) same one.1

pub opened_found : (on : Memory) (means : List ℕ → Option (List ℕ)) (state next : List ℕ) (states : List (List ℕ)) → IsOn on → Among recover on.cells states
    → recover on.shown ≡ Some state → next ≡ converted means state → Contains (map (converted means) states) next
opened_found on means state next states is_on among found is =
    subst (λ (s : List ℕ). Contains (map (converted means) states) s) (sym is)
    (has_map (converted means) states state (shown_has on state states is_on among found))

pub has_both : (means : List ℕ → Option (List ℕ)) (state : List ℕ) (states : List (List ℕ)) → Contains states state
    → Contains (states ++ map (converted means) states) state × Contains (states ++ map (converted means) states) (converted means state)
has_both means state states has = (
  Contains-append_left states (map (converted means) states) state has,
  Contains-append_right states (map (converted means) states) (converted means state) (has_map (converted means) states state has),
)

-- pages on which no tear is planned aren't cut
pub never_stops : (start new : Memory) (blocks : List Block) → start.plan ≡ None → start.writes ≡ 0 → length blocks ≤ 100 → StopsIn start blocks new → ⊥
never_stops start new blocks none first few stops =
    let planned : IsTrue (is_plan start.plan) = subst (λ (p : Option _). IsTrue (is_plan p)) (sym none) refl in
    let lost = row_stops blocks start start new 0 100 (row_none start planned first) (omega arith) (omega arith) stops in
    let cut : false ≡ true = sym (ap (λ (p : Option _). cuts_among p start.commit 100) none) ∙ lost.cut in
    cc

first_short : (state : List ℕ) → length state ≤ 1024 → length (replay_row (changed_in [] (framed state))) ≤ 18
first_short state fits =
    let blocks : List Block = changed_in [] (framed state) in
    omega (arith, length-append blocks (gate 0 ∷ []), changed_few ((length (framed state) + 63) / 64) 0 [] (framed state))

-- a first state was written
pub record First (start last : Memory) (state : List ℕ) : Type 0 where
  pub ready : IsReady last state
  pub number : ℕ
  pub row : Row start last number

pub first_all : (start last : Memory) (frame state : List ℕ) (blocks slice : List Block) → IsOn start → start.writes ≡ 0 → length state ≤ 1024 → frame ≡ framed state
    → blocks ≡ changed_in [] frame → slice ≡ blocks → WritesAll start (replay_row slice) last → First start last state
first_all start last frame state blocks slice on first fits framed_is is slice_is all =
    let whole : slice ≡ changed_in [] (framed state) = slice_is ∙ is ∙ ap (changed_in []) framed_is in
    let row : WritesAll start (replay_row (changed_in [] (framed state))) last = subst (λ (l : List Block). WritesAll start (replay_row l) last) whole all in
    record {
      ready = format_all start last state on fits row;
      number = 0 + length (replay_row (changed_in [] (framed state)));
      row = row_all (replay_row (changed_in [] (framed state))) start start last 0 (row_none start on.plan first) (omega (arith, first_short state fits)) row;
    }

pub first_short_slice : (frame state : List ℕ) (blocks slice : List Block) → length state ≤ 1024 → frame ≡ framed state → blocks ≡ changed_in [] frame → slice ≡ blocks
    → length (replay_row slice) ≤ 100
first_short_slice frame state blocks slice fits framed_is is slice_is =
    let whole : slice ≡ changed_in [] (framed state) = slice_is ∙ is ∙ ap (changed_in []) framed_is in
    let short = first_short state fits in
    subst (λ (l : List Block). length (replay_row l) ≤ 100) (sym whole) (omega arith)
