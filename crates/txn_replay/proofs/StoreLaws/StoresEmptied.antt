-- The settlement goes through the stores, a lane behind the other, and leaves each of them empty.
-- The laws `SettlementGoesThrough` and `StoresAreEmptied`.
use Rattle.std.proofs.Common.{◌≡◌, ◌≢◌, ◌⊎◌, ℕ, zero, suc, ◌+◌, ◌-◌, ◌*◌, ◌/◌, ◌≤◌, ◌<◌, Bool, true, false, List, [], ◌∷◌, ◌++◌, length, take, drop, set, get_or, slice_get, Option, Some, None, refl, sym, ap, ◌∙◌, subst, inl, inr, arith, length-append}
use Rattle.std.specs.List.{flat_map}
use Rattle.std.specs.Prelude.{⊤, if◌then◌else◌, is_some, option_map, unwrap_or}
use Rattle.std.proofs.lemmas.Bool.{cases_eq, cases_order}
use Rattle.std.proofs.lemmas.List.{drop-drop, get_or-set_same, get_or-set_other, length-set}
use Rattle.std.proofs.lemmas.Nat.{le-div}
use Rattle.std.proofs.lemmas.Option.{same_Some, slice_get_within, slice_get_past, slice_get-get_or}
use Rattle.std.proofs.Math.Nat.{zero-div}
use Rattle.std.proofs.Math.Seq.{take-length}
use Rattle.capture_store.specs.StoreRow.{StoreRow, new_store, opened_to_settle}
use Rattle.report_text.specs.declared.line.Line.{Line}
use Rattle.scenario_plan.specs.Plan.{ScenarioData}
use Rattle.txn_replay.specs.Part.{Part}
use Rattle.txn_replay.specs.Payment.{Payment, payment_in, next_of, is_durable, durable_of}
use Rattle.txn_replay.specs.Run.{RunPlace, Scheduled, Round, Settling, Auditing, Finished, Reached, start, scheduled, rounds, round, again, settlement, settling, audit, auditing, finished, all_over}
use Rattle.txn_replay.specs.Sound.{IsWorldSound}
use Rattle.txn_replay.specs.Steps.{After, Settlement, Opens, Sends, Check, PowersUp, Asks, choice_in, part_of, dropped_copies, lane_settlements, settlements_from, settlements, settled_store, lane_settled, turned_by, settles, checks, audits}
use Rattle.txn_replay.specs.Stored.{StoredBy, StoresStand, IsUnopened, IsThrough, IsSettledTo, IsEmptied}
use Rattle.txn_replay.specs.Storing.{lane_piece}
use Rattle.txn_replay.specs.World.{LaneRow, World, new_lane, first_world, lane_at, with_store}
use Rattle.txn_replay.proofs.RunLaws.FewEvents.{dropped_length}
use Rattle.txn_replay.proofs.Lists.{at_set, drop_past, get_or-map_const, some_at}
use Rattle.txn_replay.proofs.ExchangeLaws.PurchaseFacts.{payment_facts}
use Rattle.txn_replay.proofs.SettlementLaws.SettlementPlaces.{StepAt, before_lane, OpensAt, StoreSends, SendsBy, opens_at, sends_at, step_at, plain_step, store_step}
use Rattle.txn_replay.proofs.StoreLaws.StorePlans.{lane_planned}
use Rattle.txn_replay.proofs.RunLaws.FairRuns.{reached_sound}
use Rattle.txn_replay.proofs.StoreLaws.StoresKept.{piece_found, plain_stored, stores_stand}
use Rattle.txn_replay.proofs.RunLaws.TurnsEnd.{below_over, over_next}

-- the steps of a lane come before those of every later one
lanes_behind : (s : ScenarioData) (i : ℕ) (rows : List LaneRow) (l m : ℕ) (row : LaneRow) → slice_get rows l ≡ Some row → l < m
    → length (settlements_from s i (take l rows)) + length (lane_settlements s.copies (i + l) row (durable_of s (i + l))) ≤ length (settlements_from s i (take m rows))
unfolding settlements_from
lanes_behind s i [] l m row there below = cc
lanes_behind s i (r ∷ rows) l zero row there below = absurd (omega arith)
lanes_behind s i (r ∷ rows) zero (suc m) row there below =
    let is : r ≡ row = same_Some r row there in
    let same : i ≡ i + 0 = omega arith in
    let own : length (lane_settlements s.copies i r (durable_of s i)) ≡ length (lane_settlements s.copies (i + 0) row (durable_of s (i + 0))) =
    (λ j. length (lane_settlements s.copies (same j) (is j) (durable_of s (same j)))) in
    omega (arith, own, length-append (lane_settlements s.copies i r (durable_of s i)) (settlements_from s (i + 1) (take m rows)))
lanes_behind s i (r ∷ rows) (suc l) (suc m) row there below =
    let others = lanes_behind s (i + 1) rows l m row there (omega (arith, below)) in
    let same : i + 1 + l ≡ i + suc l = omega arith in
    let own : length (lane_settlements s.copies (i + 1 + l) row (durable_of s (i + 1 + l))) ≡ length (lane_settlements s.copies (i + suc l) row (durable_of s (i + suc l))) =
    ap (λ n. length (lane_settlements s.copies n row (durable_of s n))) same in
    omega (
      arith,
      others,
      own,
      length-append (lane_settlements s.copies i r (durable_of s i)) (settlements_from s (i + 1) (take l rows)),
      length-append (lane_settlements s.copies i r (durable_of s i)) (settlements_from s (i + 1) (take m rows)),
    )

-- how many steps a lane has
pub steps_in : ScenarioData → World → ℕ → ℕ
steps_in s w l = length (lane_settlements s.copies l (lane_at w l) (durable_of s l))

pub steps_are : (s : ScenarioData) (w : World) (l : ℕ) → steps_in s w l ≡ length (lane_settlements s.copies l (lane_at w l) (durable_of s l))
unfolding steps_in
steps_are s w l = refl

pub steps_within : (s : ScenarioData) (w : World) (l k : ℕ) (at : Settlement) → (step : StepAt s w k l at) → step.offset < steps_in s w l
unfolding steps_in
steps_within s w l k at step = step.within

-- those of a lane that keeps its captures durably: its opening, and the copies of what that found
pub store_steps : (s : ScenarioData) (w : World) (l : ℕ) → 1 ≤ s.copies → durable_of s l ≡ true
    → steps_in s w l ≡ 1 + s.copies * length (unwrap_or (lane_at w l).store.found [])
unfolding steps_in
store_steps s w l some on =
    let count : length (flat_map (dropped_copies s.copies l) (unwrap_or (lane_at w l).store.found [])) ≡ s.copies * length (unwrap_or (lane_at w l).store.found []) =
    dropped_length s.copies l (unwrap_or (lane_at w l).store.found []) some in
    ap (λ (b : Bool). length (lane_settlements s.copies l (lane_at w l) b)) on ∙ ap (λ n. suc n) count
    ∙ (let e : suc (s.copies * length (unwrap_or (lane_at w l).store.found [])) ≡ 1 + s.copies * length (unwrap_or (lane_at w l).store.found []) = omega arith in e)

pub later_lane : (s : ScenarioData) (w : World) (l m : ℕ) → l < length w.lanes → l < m → before_lane s w l + steps_in s w l ≤ before_lane s w m
unfolding steps_in
later_lane s w l m inside below =
    let there : slice_get w.lanes l ≡ Some (lane_at w l) = slice_get-get_or w.lanes l new_lane inside in
    let same : 0 + l ≡ l = omega arith in
    subst (λ (n : ℕ). before_lane s w l + length (lane_settlements s.copies n (lane_at w l) (durable_of s n)) ≤ before_lane s w m) same
    (lanes_behind s 0 w.lanes l m (lane_at w l) there below)

pub all_lanes : (s : ScenarioData) (w : World) (l : ℕ) → l < length w.lanes → before_lane s w l + steps_in s w l ≤ length (settlements s w)
all_lanes s w l inside =
    subst (λ (rows : List LaneRow). before_lane s w l + steps_in s w l ≤ length (settlements_from s 0 rows)) (take-length w.lanes)
    (later_lane s w l (length w.lanes) inside inside)

-- the steps of the first lanes stay where none of these changes, or where one has captured and found the same
pub take_set : (rows : List LaneRow) (l m : ℕ) (row : LaneRow) → m ≤ l → take m (set rows l row) ≡ take m rows
take_set [] l m row within = refl
take_set (r ∷ rows) l zero row within = refl
take_set (r ∷ rows) zero (suc m) row within = absurd (omega arith)
take_set (r ∷ rows) (suc l) (suc m) row within = ap (λ xs. r ∷ xs) (take_set rows l m row (omega (arith, within)))

like_steps : (copies l : ℕ) (x y : LaneRow) (durable : Bool) → x.captures ≡ y.captures → x.store.found ≡ y.store.found
    → lane_settlements copies l x durable ≡ lane_settlements copies l y durable
like_steps copies l x y false captures found = (λ i. lane_settlements copies l (record x { captures = captures i }) false)
like_steps copies l x y true captures found = (λ i. lane_settlements copies l (record x { store = record x.store { found = found i } }) true)

pub like_set : (s : ScenarioData) (i : ℕ) (rows : List LaneRow) (l m : ℕ) (row : LaneRow) → row.captures ≡ (get_or rows l new_lane).captures
    → row.store.found ≡ (get_or rows l new_lane).store.found → settlements_from s i (take m (set rows l row)) ≡ settlements_from s i (take m rows)
unfolding settlements_from
like_set s i [] l m row captures found = refl
like_set s i (r ∷ rows) l zero row captures found = refl
like_set s i (r ∷ rows) zero (suc m) row captures found =
    ap (λ xs. xs ++ settlements_from s (i + 1) (take m rows)) (like_steps s.copies i row r (durable_of s i) captures found)
like_set s i (r ∷ rows) (suc l) (suc m) row captures found =
    ap (λ xs. lane_settlements s.copies i r (durable_of s i) ++ xs) (like_set s (i + 1) rows l m row captures found)

-- what is left behind all steps of a lane
pub through_all : (store : StoreRow) (copies steps : ℕ) → 1 ≤ copies → (through : IsThrough store copies steps) → copies * length through.found ≤ steps → store.list ≡ []
through_all store copies steps some through all =
    let most : length through.found ≤ steps / copies = le-div (length through.found) steps copies (omega (arith, some)) (turned all) in
    through.list ∙ drop_past through.found (steps / copies) most
  where
    turned : copies * length through.found ≤ steps → length through.found * copies ≤ steps
    turned within = omega (arith, within)

through_more : (store : StoreRow) (copies steps : ℕ) → 1 ≤ copies → (through : IsThrough store copies steps) → copies * length through.found ≤ steps
    → IsThrough store copies (steps + 1)
through_more store copies steps some through all =
    let most : length through.found ≤ (steps + 1) / copies = le-div (length through.found) (steps + 1) copies (omega (arith, some)) (turned all) in
    record {
      found = through.found;
      is = through.is;
      list = through_all store copies steps some through all ∙ sym (drop_past through.found ((steps + 1) / copies) most);
      on = through.on;
      none = through.none;
    }
  where
    turned : copies * length through.found ≤ steps → length through.found * copies ≤ steps + 1
    turned within = omega (arith, within)

-- no other lane keeps its captures durably
is_durable_past : (s : ScenarioData) (l : ℕ) → length s.lanes ≤ l → durable_of s l ≡ false
is_durable_past s l over = ap is_durable (slice_get_past s.lanes l over)

pub in_scenario : (s : ScenarioData) (l : ℕ) → durable_of s l ≡ true → l < length s.lanes
in_scenario s l on =
    elim (cases_order l (length s.lanes)) [
      | inl same ↦ absurd (past (omega (arith, same)))
      | inr (inl below) ↦ below
      | inr (inr behind) ↦ absurd (past (omega (arith, behind)))
    ]
  where
    past : length s.lanes ≤ l → ⊥
    past over = let none : false ≡ true = sym (is_durable_past s l over) ∙ on in cc

module _ (s : ScenarioData) (some : 1 ≤ s.copies) where
  -- a lane whose steps are all made has made them in the next step too
  behind_it : (w : World) (k m : ℕ) → durable_of s m ≡ true → before_lane s w m + steps_in s w m ≤ k
      → IsThrough (lane_at w m).store s.copies (k - before_lane s w m - 1) → IsThrough (lane_at w m).store s.copies (k + 1 - before_lane s w m - 1)
  behind_it w k m on made through =
      let count : steps_in s w m ≡ 1 + s.copies * length (unwrap_or (lane_at w m).store.found []) = store_steps s w m some on in
      let found_is : length (unwrap_or (lane_at w m).store.found []) ≡ length through.found =
      ap (λ (o : Option (List (List ℕ))). length (unwrap_or o [])) through.is in
      let product : s.copies * length (unwrap_or (lane_at w m).store.found []) ≡ s.copies * length through.found = ap (λ n. s.copies * n) found_is in
      let next : k - before_lane s w m - 1 + 1 ≡ k + 1 - before_lane s w m - 1 = omega (arith, made, count) in
      subst (λ n. IsThrough (lane_at w m).store s.copies n) next
      (through_more (lane_at w m).store s.copies (k - before_lane s w m - 1) some through (omega (arith, made, count, product)))

  -- a lane of the scenario
  pub inside_lanes : (w : World) (l : ℕ) → IsWorldSound s w → durable_of s l ≡ true → l < length w.lanes
  inside_lanes w l sound on = let count : length w.lanes ≡ length s.lanes = sound.lane_count in omega (arith, in_scenario s l on)

  -- an opening
  module _ (w : World) (k l : ℕ) (choice : Bool) (at : OpensAt s w k l) (sound : IsWorldSound s w) (through : IsSettledTo s w k) where
    abbrev opened_row : LaneRow
    opened_row = with_store (opened_to_settle (lane_at w l).store choice) (lane_at w l)

    abbrev opened : World
    opened = record w { lanes = set w.lanes l opened_row }

    inside : l < length w.lanes
    inside = inside_lanes w l sound at.on

    earlier : (m : ℕ) → m ≤ l → before_lane s opened m ≡ before_lane s w m
    earlier m within = ap (λ rows. length (settlements_from s 0 rows)) (take_set w.lanes l m opened_row within)

    inside_after : l < length opened.lanes
    inside_after = omega (arith, inside, length-set w.lanes l opened_row)

    own : lane_at opened l ≡ opened_row
    own = get_or-set_same w.lanes l opened_row new_lane inside

    other : (m : ℕ) → m ≢ l → lane_at opened m ≡ lane_at w m
    other m differs = get_or-set_other w.lanes l m opened_row new_lane differs

    first_step : (m : ℕ) → l < m → k + 1 ≤ before_lane s opened m
    first_step m below =
        let steps : steps_in s opened l ≡ 1 + s.copies * length (unwrap_or (lane_at opened l).store.found []) = store_steps s opened l some at.on in
        omega (arith, at.is, earlier l (omega arith), later_lane s opened l m inside_after below, steps)

    before_opened : (m : ℕ) → durable_of s m ≡ true → k + 1 ≤ before_lane s opened m → IsUnopened (lane_at opened m).store
    before_opened m on within =
        elim (cases_order m l) [
          | inl same ↦ absurd (omega (arith, at.is, earlier m (omega (arith, same)), ap (λ n. before_lane s w n) same, within))
          | inr (inl below) ↦
              subst (λ (r : LaneRow). IsUnopened r.store) (sym (other m (λ e. omega (arith, e, below))))
              (through.before m on (omega (arith, earlier m (omega (arith, below)), within)))
          | inr (inr behind) ↦
              subst (λ (r : LaneRow). IsUnopened r.store) (sym (other m (λ e. omega (arith, e, behind))))
              (through.before m on (omega (arith, at.is, later_lane s w l m inside behind)))
        ]

    behind_opened : (m : ℕ) → durable_of s m ≡ true → before_lane s opened m < k + 1
        → IsThrough (lane_at opened m).store s.copies (k + 1 - before_lane s opened m - 1)
    behind_opened m on within =
        elim (cases_order m l) [
          | inl same ↦ subst (λ n. IsThrough (lane_at opened n).store s.copies (k + 1 - before_lane s opened n - 1)) (sym same) at_own
          | inr (inl below) ↦
              subst (λ (r : LaneRow). IsThrough r.store s.copies (k + 1 - before_lane s opened m - 1)) (sym (other m (λ e. omega (arith, e, below))))
              (subst (λ n. IsThrough (lane_at w m).store s.copies (k + 1 - n - 1)) (sym (earlier m (omega (arith, below)))) (made m on below))
          | inr (inr behind) ↦ absurd (omega (arith, first_step m behind, within))
        ]
      where
        at_own : IsThrough (lane_at opened l).store s.copies (k + 1 - before_lane s opened l - 1)
        at_own =
            let none : k + 1 - before_lane s opened l - 1 ≡ 0 = omega (arith, at.is, earlier l (omega arith)) in
            subst (λ n. IsThrough (lane_at opened l).store s.copies n) (sym none)
            (subst (λ (r : LaneRow). IsThrough r.store s.copies 0) (sym own)
            (record {
              found = opened_row.store.list;
              is = refl;
              list = ap (λ n. drop n opened_row.store.list) (sym (zero-div s.copies));
              on = refl;
              none = refl;
            }))

        made : (n : ℕ) → durable_of s n ≡ true → n < l → IsThrough (lane_at w n).store s.copies (k + 1 - before_lane s w n - 1)
        made n durable below =
            let done : before_lane s w n + steps_in s w n ≤ k = omega (arith, at.is, later_lane s w n l (omega (arith, below, inside)) below) in
            let count : steps_in s w n ≡ 1 + s.copies * length (unwrap_or (lane_at w n).store.found []) = store_steps s w n some durable in
            behind_it w k n durable done (through.behind n durable (omega (arith, done, count)))

    opened_to : IsSettledTo s opened (k + 1)
    opened_to = record { before = before_opened; behind = behind_opened }

  -- a message sent
  module _ (w : World) (k l : ℕ) (message : List ℕ) (drops : Bool) (at : StepAt s w k l (Sends l message drops)) (by_store : SendsBy s w k l message drops (durable_of s l))
      (sound : IsWorldSound s w) (through : IsSettledTo s w k) where
    abbrev sent_row : LaneRow
    sent_row = lane_settled message drops (lane_at w l)

    abbrev sent : World
    sent = record { cards = w.cards; lanes = set w.lanes l sent_row; messages = w.messages ++ message ∷ [] }

    found_stays : (b : Bool) (store : StoreRow) → (settled_store b store).found ≡ store.found
    found_stays true store = refl
    found_stays false store = refl

    stays : (m : ℕ) → before_lane s sent m ≡ before_lane s w m
    stays m = ap (λ xs. length xs) (like_set s 0 w.lanes l m sent_row refl (found_stays drops (lane_at w l).store))

    within_lanes : l < length w.lanes
    within_lanes = slice_get_within w.lanes l (lane_at w l) at.inside

    other_lane : (m : ℕ) → m ≢ l → lane_at sent m ≡ lane_at w m
    other_lane m differs = get_or-set_other w.lanes l m sent_row new_lane differs

    here : k < before_lane s w l + steps_in s w l
    unfolding steps_in
    here = omega (arith, at.is, at.within)

    before_sent : (m : ℕ) → durable_of s m ≡ true → k + 1 ≤ before_lane s sent m → IsUnopened (lane_at sent m).store
    before_sent m on within =
        elim (cases_eq m l) [
          | inl same ↦ absurd (omega (arith, at.is, stays m, ap (λ n. before_lane s w n) same, within))
          | inr differs ↦
              subst (λ (r : LaneRow). IsUnopened r.store) (sym (other_lane m differs)) (through.before m on (omega (arith, stays m, within)))
        ]

    behind_sent : (m : ℕ) → durable_of s m ≡ true → before_lane s sent m < k + 1 → IsThrough (lane_at sent m).store s.copies (k + 1 - before_lane s sent m - 1)
    behind_sent m on within =
        subst (λ n. IsThrough (lane_at sent m).store s.copies (k + 1 - n - 1)) (sym (stays m))
        (elim (cases_order m l) [
          | inl same ↦
              subst (λ n. IsThrough (lane_at sent n).store s.copies (k + 1 - before_lane s w n - 1)) (sym same)
              (own (ap (λ n. durable_of s n) (sym same) ∙ on)
              (subst (λ (b : Bool). SendsBy s w k l message drops b) (ap (λ n. durable_of s n) (sym same) ∙ on) by_store))
          | inr (inl below) ↦
              subst (λ (r : LaneRow). IsThrough r.store s.copies (k + 1 - before_lane s w m - 1)) (sym (other_lane m (λ e. omega (arith, e, below)))) (made below)
          | inr (inr behind) ↦ absurd (omega (arith, here, stays m, later_lane s w l m within_lanes behind, within))
        ])
      where
        made : m < l → IsThrough (lane_at w m).store s.copies (k + 1 - before_lane s w m - 1)
        made below =
            let done : before_lane s w m + steps_in s w m ≤ k = omega (arith, at.is, later_lane s w m l (omega (arith, below, within_lanes)) below) in
            let count : steps_in s w m ≡ 1 + s.copies * length (unwrap_or (lane_at w m).store.found []) = store_steps s w m some on in
            behind_it w k m on done (through.behind m on (omega (arith, done, count)))

        own : durable_of s l ≡ true → StoreSends s w k l message drops → IsThrough (lane_at sent l).store s.copies (k + 1 - before_lane s w l - 1)
        own durable sends =
            let reached : IsThrough (lane_at w l).store s.copies (k - before_lane s w l - 1) = through.behind l durable (omega (arith, sends.is)) in
            let place : k - before_lane s w l - 1 ≡ sends.place = omega (arith, sends.is) in
            let next : k + 1 - before_lane s w l - 1 ≡ sends.place + 1 = omega (arith, sends.is) in
            let left : (lane_at w l).store.list ≡ drop (sends.place / s.copies) reached.found =
            reached.list ∙ ap (λ n. drop (n / s.copies) reached.found) place in
            subst (λ n. IsThrough (lane_at sent l).store s.copies n) (sym next)
            (subst (λ (r : LaneRow). IsThrough r.store s.copies (sends.place + 1)) (sym (get_or-set_same w.lanes l sent_row new_lane within_lanes))
            (after drops reached.found reached.is left reached.on reached.none sends.in_it.next))
          where
            after : (b : Bool) (found : List (List ℕ)) → (lane_at w l).store.found ≡ Some found → (lane_at w l).store.list ≡ drop (sends.place / s.copies) found
                → is_some (lane_at w l).store.commits ≡ true → (lane_at w l).store.lost ≡ None
                → (sends.place + 1) / s.copies ≡ sends.place / s.copies + (if b then 1 else 0)
                → IsThrough (settled_store b (lane_at w l).store) s.copies (sends.place + 1)
            after false found is list is_on none next = record {
              found = found;
              is = is;
              list = list ∙ ap (λ n. drop n found) (let e : sends.place / s.copies ≡ sends.place / s.copies + 0 = omega arith in e ∙ sym next);
              on = is_on;
              none = none;
            }
            after true found is list is_on none next = record {
              found = found;
              is = is;
              list = ap (λ xs. drop 1 xs) list ∙ drop-drop 1 (sends.place / s.copies) found ∙ ap (λ n. drop n found) (sym next);
              on = still (lane_at w l).store.commits is_on;
              none = none;
            }
              where
                still : (o : Option ℕ) → is_some o ≡ true → is_some (option_map (λ made. made + 1) o) ≡ true
                still None none = none
                still (Some n) is_on = refl

    sent_to : IsSettledTo s sent (k + 1)
    sent_to = record { before = before_sent; behind = behind_sent }

  -- the lane of a message that is sent
  pub of_lane : (w : World) (k n l : ℕ) (message : List ℕ) (drops : Bool) → StepAt s w k n (Sends l message drops) → l ≡ n
  of_lane w k n l message drops one = by (durable_of s n) one.inner
    where
      by : (durable : Bool) → slice_get (lane_settlements s.copies n (lane_at w n) durable) one.offset ≡ Some (Sends l message drops) → l ≡ n
      by false inner = (plain_step s.copies n (lane_at w n) one.offset (Sends l message drops) inner).0
      by true inner = (store_step s.copies n (lane_at w n) one.offset (Sends l message drops) some inner).lane_is

  settled_to : (w : World) (k : ℕ) (choices : List Bool) (at : Settlement) → slice_get (settlements s w) k ≡ Some at → IsWorldSound s w → IsSettledTo s w k
      → IsSettledTo s (settles s w choices (Some at)).world (k + 1)
  settled_to w k choices (Opens l) here sound through = opened_to w k l (choice_in choices 0) (opens_at s w k l some here) sound through
  settled_to w k choices (Sends l message drops) here sound through =
      let found = step_at s w k (Sends l message drops) here in
      let same : l ≡ found.0 = of_lane w k found.0 l message drops found.1 in
      sent_to w k l message drops (subst (λ n. StepAt s w k n (Sends l message drops)) (sym same) found.1) (sends_at s w k l message drops some here) sound through

-- before the settlement no store was opened for it, and one that is open waits for the next purchase of its lane
pub record IsUntouched (s : ScenarioData) (w : World) : Type 0 where
  pub found : (l : ℕ) → (lane_at w l).store.found ≡ None
  pub next : (l made : ℕ) → (lane_at w l).store.commits ≡ Some made → next_of s w l ≡ None → ⊥

turn_untouched : (s : ScenarioData) (w : World) (l : ℕ) (choices : List Bool) (o : Option Payment) → next_of s w l ≡ o → StoresStand s w → IsUntouched s w
    → IsUntouched s (turned_by w l choices o).world
turn_untouched s w l choices None is stand untouched = untouched
turn_untouched s w l choices (Some p) is stand untouched = record {
  found = λ k.
      at_set (λ (i : ℕ) (row : LaneRow). row.store.found ≡ None) w.lanes l (lane_piece p part (choice_in choices 0) (choice_in choices 1)).part.lane new_lane
      (piece_found p part (choice_in choices 0) (choice_in choices 1) (untouched.found l)) untouched.found k;
  next = λ k.
      at_set (λ (i : ℕ) (row : LaneRow). (made : ℕ) → row.store.commits ≡ Some made → payment_in s i (length row.ended) ≡ None → ⊥) w.lanes l
      (lane_piece p part (choice_in choices 0) (choice_in choices 1)).part.lane new_lane (by p.durable refl (stand.lanes l)) untouched.next k;
}
  where
    part : Part
    part = part_of w l p.planned.card

    by : (durable : Bool) → p.durable ≡ durable → StoredBy (durable_of s l) (lane_at w l) → (made : ℕ)
        → (lane_piece p part (choice_in choices 0) (choice_in choices 1)).part.lane.store.commits ≡ Some made
        → payment_in s l (length (lane_piece p part (choice_in choices 0) (choice_in choices 1)).part.lane.ended) ≡ None → ⊥
    by true durable stored made on none =
        let same = lane_planned p part (choice_in choices 0) (choice_in choices 1) durable made on in
        let both : None ≡ Some p = sym none ∙ ap (λ n. payment_in s l n) same ∙ is in cc
    by false durable stored made on none =
        let plain : (lane_at w l).store ≡ new_store =
        subst (λ (b : Bool). StoredBy b (lane_at w l)) (sym (payment_facts s l _ p is).durable ∙ durable) stored in
        let after : (lane_piece p part (choice_in choices 0) (choice_in choices 1)).part.lane.store ≡ new_store =
        plain_stored p part (choice_in choices 0) (choice_in choices 1) durable plain in
        let both : None ≡ Some made = sym (ap (λ (x : StoreRow). x.commits) after) ∙ on in cc

abbrev pub IsTurning : RunPlace → Type 0
IsTurning (Scheduled k) = ⊤
IsTurning (Round l) = ⊤
IsTurning (Settling k) = ⊥
IsTurning (Auditing k) = ⊥
IsTurning Finished = ⊥

first_untouched : (s : ScenarioData) → IsUntouched s (first_world s)
first_untouched s = record {
  found = λ l. ap (λ (row : LaneRow). row.store.found) (get_or-map_const s.lanes l new_lane);
  next = λ l made on none.
      (let off : None ≡ Some made = sym (ap (λ (row : LaneRow). row.store.commits) (get_or-map_const s.lanes l new_lane)) ∙ on in cc);
}

pub reached_untouched : (s : ScenarioData) (place : RunPlace) (n : ℕ) (choices : List Bool) (lines : List Line) (w : World) → Reached s place n choices lines w
    → IsTurning place → IsUntouched s w
reached_untouched s _ _ _ _ _ start turning = first_untouched s
reached_untouched s _ _ _ _ _ (scheduled {l = l} {c = c} {w = v} {w' = v'} before at step) turning =
    subst (λ (x : World). IsUntouched s x) (sym step.leads)
    (turn_untouched s v l c (next_of s v l) refl (stores_stand s _ _ _ _ v before) (reached_untouched s _ _ _ _ v before tt))
reached_untouched s _ _ _ _ w (rounds before) turning = reached_untouched s _ _ _ _ w before tt
reached_untouched s _ _ _ _ _ (round {l = l} {c = c} {w = v} {w' = v'} before below on step) turning =
    subst (λ (x : World). IsUntouched s x) (sym step.leads)
    (turn_untouched s v l c (next_of s v l) refl (stores_stand s _ _ _ _ v before) (reached_untouched s _ _ _ _ v before tt))
reached_untouched s _ _ _ _ w (again before) turning = reached_untouched s _ _ _ _ w before tt
reached_untouched s _ _ _ _ _ (settlement before over) turning = absurd turning
reached_untouched s _ _ _ _ _ (settling before at step) turning = absurd turning
reached_untouched s _ _ _ _ _ (audit before past) turning = absurd turning
reached_untouched s _ _ _ _ _ (auditing before at step) turning = absurd turning
reached_untouched s _ _ _ _ _ (finished before past) turning = absurd turning

-- the settlement begins on stores that are off
begins_settled : (s : ScenarioData) (w : World) → all_over s w ≡ true → IsUntouched s w → IsSettledTo s w 0
begins_settled s w over untouched = record {
  before = λ l on within. record { none = untouched.found l; off = off l on (lane_at w l).store.commits refl };
  behind = λ l on within. absurd (omega (arith, within));
}
  where
    off : (l : ℕ) → durable_of s l ≡ true → (o : Option ℕ) → (lane_at w l).store.commits ≡ o → (lane_at w l).store.commits ≡ None
    off l on None is = is
    off l on (Some made) is =
        absurd (untouched.next l made is (over_next s w l (below_over s w (length s.lanes) l (in_scenario s l on) over)))

emptied_by : (s : ScenarioData) (w : World) (k l : ℕ) → 1 ≤ s.copies → IsWorldSound s w → durable_of s l ≡ true → IsSettledTo s w k
    → slice_get (settlements s w) k ≡ None → IsEmptied (lane_at w l).store
emptied_by s w k l some sound on through past =
    let inside : l < length w.lanes = inside_lanes s some w l sound on in
    let count : steps_in s w l ≡ 1 + s.copies * length (unwrap_or (lane_at w l).store.found []) = store_steps s w l some on in
    let all : length (settlements s w) ≤ k = past_all in
    let within : before_lane s w l + steps_in s w l ≤ length (settlements s w) = all_lanes s w l inside in
    let reached : IsThrough (lane_at w l).store s.copies (k - before_lane s w l - 1) = through.behind l on (omega (arith, all, within, count)) in
    let product : s.copies * length (unwrap_or (lane_at w l).store.found []) ≡ s.copies * length reached.found =
    ap (λ (o : Option (List (List ℕ))). s.copies * length (unwrap_or o [])) reached.is in
    record {
      empty = through_all (lane_at w l).store s.copies (k - before_lane s w l - 1) some reached (omega (arith, all, within, count, product));
      none = reached.none;
    }
  where
    past_all : length (settlements s w) ≤ k
    past_all =
        elim (cases_order k (length (settlements s w))) [
          | inl same ↦ omega (arith, same)
          | inr (inl below) ↦
              (let there = some_at (settlements s w) k below in
              let no : None ≡ Some there.0 = sym past ∙ there.1 in cc)
          | inr (inr behind) ↦ omega (arith, behind)
        ]

-- what the settlement comes to at each place
abbrev pub Comes : ScenarioData → World → RunPlace → Type 0
Comes s w (Scheduled k) = ⊤
Comes s w (Round l) = ⊤
Comes s w (Settling k) = IsSettledTo s w k
Comes s w (Auditing k) = (l : ℕ) → durable_of s l ≡ true → IsEmptied (lane_at w l).store
Comes s w Finished = (l : ℕ) → durable_of s l ≡ true → IsEmptied (lane_at w l).store

pub audit_lanes : (w : World) (choices : List Bool) (o : Option Check) → (audits w choices o).world.lanes ≡ w.lanes
audit_lanes w choices None = refl
audit_lanes w choices (Some (PowersUp i card)) = refl
audit_lanes w choices (Some (Asks i card command)) = refl

pub comes : (s : ScenarioData) (place : RunPlace) (n : ℕ) (choices : List Bool) (lines : List Line) (w : World) → 1 ≤ s.copies → Reached s place n choices lines w
    → Comes s w place
comes s _ _ _ _ _ some start = tt
comes s _ _ _ _ _ some (scheduled before at step) = tt
comes s _ _ _ _ _ some (rounds before) = tt
comes s _ _ _ _ _ some (round before below on step) = tt
comes s _ _ _ _ _ some (again before) = tt
comes s _ _ _ _ w some (settlement before over) = begins_settled s w over (reached_untouched s _ _ _ _ w before tt)
comes s _ _ _ _ _ some (settling {k} {c = c} {w = v} {w' = v'} {at = at} before here step) =
    let so : settles s v c (slice_get (settlements s v) k) ≡ settles s v c (Some at) = ap (λ (o : Option Settlement). settles s v c o) here in
    subst (λ (x : World). IsSettledTo s x (k + 1)) (sym (step.leads ∙ ap (λ (x : After). x.world) so))
    (settled_to s some v k c at here (reached_sound s _ _ _ _ v before) (comes s _ _ _ _ v some before))
comes s _ _ _ _ w some (audit {k} before past) =
    λ l on. emptied_by s w k l some (reached_sound s _ _ _ _ w before) on (comes s _ _ _ _ w some before) past
comes s _ _ _ _ _ some (auditing {k} {c = c} {w = v} {w' = v'} before _ step) =
    λ l on.
    (let same : v'.lanes ≡ v.lanes = ap (λ (x : World). x.lanes) step.leads ∙ audit_lanes v c (slice_get (checks s) k) in
    subst (λ (rows : List LaneRow). IsEmptied (get_or rows l new_lane).store) (sym same) (comes s _ _ _ _ v some before l on))
comes s _ _ _ _ w some (finished before past) = comes s _ _ _ _ w some before

pub goes_through : (s : ScenarioData) (k n : ℕ) (choices : List Bool) (lines : List Line) (w : World) → 1 ≤ s.copies
    → Reached s (Settling k) n choices lines w → IsSettledTo s w k
goes_through s k n choices lines w some reached = comes s (Settling k) n choices lines w some reached

pub stores_emptied : (s : ScenarioData) (place : RunPlace) (n : ℕ) (choices : List Bool) (lines : List Line) (w : World) (l : ℕ) → durable_of s l ≡ true
    → 1 ≤ s.copies → Reached s place n choices lines w → (place ≡ Finished) ⊎ ((k : ℕ) × (place ≡ Auditing k)) → IsEmptied (lane_at w l).store
stores_emptied s place n choices lines w l on some reached at =
    elim at [
      | inl done ↦ subst (λ (p : RunPlace). Comes s w p) done (comes s place n choices lines w some reached) l on
      | inr auditing_at ↦ subst (λ (p : RunPlace). Comes s w p) auditing_at.1 (comes s place n choices lines w some reached) l on
    ]
