-- The step of a settlement among those of its lane, as the values of a run have it.
-- The number of a step, less those of the lanes before, is the number of a copy or of a message.
use Rattle.std.proofs.Common.{◌≡◌, ℕ, zero, suc, ◌+◌, ◌*◌, ◌-◌, ◌/◌, ◌%◌, ◌==◌, ◌≤◌, ◌<◌, Bool, true, false, List, [], ◌∷◌, ◌++◌, length, drop, replicate, slice_get, Option, Some, None, refl, sym, ap, ◌∙◌, inl, inr, arith}
use Rattle.std.specs.List.{flat_map}
use Rattle.std.specs.Prelude.{option_map, unwrap_or}
use Rattle.std.proofs.lemmas.Bool.{cases_order}
use Rattle.std.proofs.lemmas.List.{length-replicate}
use Rattle.std.proofs.lemmas.Option.{same_Some}
use Rattle.std.proofs.Math.Nat.{div-eq_of_lt, add-div_left}
use Rattle.scenario_plan.specs.Plan.{ScenarioData}
use Rattle.txn_replay.specs.Payment.{durable_of}
use Rattle.txn_replay.specs.Settling.{steps_of, step_in, IsStep, IsStepOf}
use Rattle.txn_replay.specs.Standing.{LaneKeeps}
use Rattle.txn_replay.specs.Steps.{Settlement, Opens, Sends, copies_of, lane_settlements, settlements_from}
use Rattle.txn_replay.specs.World.{LaneRow}
use Rattle.txn_replay.specs.declared.lane.Lane.{Lane}
use Rattle.txn_replay.specs.declared.settlement.Settling.{Settling}
use Rattle.txn_replay.specs.declared.settlement.Settling.TheVariants as settling
use Rattle.txn_replay.proofs.RunLaws.FewEvents.{copies_length, dropped_length}
use Rattle.txn_replay.proofs.Lists.{append_first, append_second, drop_at, drop_past, some_at}
use Rattle.txn_replay.proofs.SettlementLaws.SettlementPlaces.{IsStoreStep, store_step}

-- how many steps a lane has
pub steps_count : (copies l : ℕ) (lane : Lane) (row : LaneRow) (durable : Bool) → 1 ≤ copies → LaneKeeps lane row
    → steps_of lane durable copies ≡ length (lane_settlements copies l row durable)
steps_count copies l lane row false some keeps =
    let count : length lane.captures.messages ≡ length row.captures = ap (λ (xs : List (List ℕ)). length xs) keeps.captures in
    ap (λ n. n * copies) count ∙ (let turned : length row.captures * copies ≡ copies * length row.captures = omega arith in turned)
    ∙ sym (copies_length copies l row.captures)
steps_count copies l lane row true some keeps =
    ap (λ (o : Option ℕ). 1 + unwrap_or o 0 * copies) keeps.found
    ∙ ap (λ n. 1 + n * copies) (found_count row.store.found)
    ∙ (let turned : 1 + length (unwrap_or row.store.found []) * copies ≡ suc (copies * length (unwrap_or row.store.found [])) = omega arith in turned)
    ∙ ap (λ n. suc n) (sym (dropped_length copies l (unwrap_or row.store.found []) some))
  where
    found_count : (o : Option (List (List ℕ))) → unwrap_or (option_map length o) 0 ≡ length (unwrap_or o [])
    found_count None = refl
    found_count (Some found) = refl

-- a place is within the first copies, or behind them
data Where (n copies : ℕ) : Type 0 where
  is_within : n < copies → Where n copies
  is_past : (m : ℕ) → n ≡ copies + m → Where n copies

-- the message of a plain step
plain_message : (copies l : ℕ) (messages : List (List ℕ)) (n : ℕ) (message : List ℕ) → 1 ≤ copies → slice_get messages (n / copies) ≡ Some message
    → slice_get (flat_map (copies_of copies l) messages) n ≡ Some (Sends l message false)
plain_message copies l [] n message some here = cc
plain_message copies l (first ∷ messages) n message some here = by (λ (m : ℕ) (at : slice_get messages (m / copies) ≡ Some message). plain_message copies l messages m message some at) (below n)
  where
    below : (k : ℕ) → Where n copies
    below k = elim (cases_order n copies) [
      | inl same ↦ is_past 0 (omega (arith, same))
      | inr (inl less) ↦ is_within less
      | inr (inr more) ↦ is_past (n - copies) (omega (arith, more))
    ]

    copy_at : (c k : ℕ) (x : Settlement) → k < c → slice_get (replicate c x) k ≡ Some x
    copy_at zero k x less = absurd (omega arith)
    copy_at (suc c) zero x less = refl
    copy_at (suc c) (suc k) x less = copy_at c k x (omega (arith, less))

    by : ((m : ℕ) → slice_get messages (m / copies) ≡ Some message → slice_get (flat_map (copies_of copies l) messages) m ≡ Some (Sends l message false))
        → Where n copies → slice_get (copies_of copies l first ++ flat_map (copies_of copies l) messages) n ≡ Some (Sends l message false)
    by later (is_within less) =
        let is : first ≡ message = same_Some first message (ap (λ q. slice_get (first ∷ messages) q) (sym (div-eq_of_lt less)) ∙ here) in
        append_first (copies_of copies l first) (flat_map (copies_of copies l) messages) n (Sends l message false)
        (ap (λ x. slice_get (replicate copies (Sends l x false)) n) is ∙ copy_at copies n (Sends l message false) less)
    by later (is_past m is) =
        let quotient : n / copies ≡ suc (m / copies) =
        ap (λ x. x / copies) is ∙ add-div_left m (omega (arith, some)) ∙ (let e : m / copies + 1 ≡ suc (m / copies) = omega arith in e) in
        let place : n ≡ length (copies_of copies l first) + m = is ∙ ap (λ c. c + m) (sym (length-replicate copies (Sends l first false))) in
        ap (λ k. slice_get (copies_of copies l first ++ flat_map (copies_of copies l) messages) k) place
        ∙ append_second (copies_of copies l first) (flat_map (copies_of copies l) messages) m
        ∙ later m (sym (ap (λ q. slice_get (first ∷ messages) q) quotient) ∙ here)

-- what is found is the step of this number
pub step_found : (s : ScenarioData) (l : ℕ) (lane : Lane) (row : LaneRow) (number : ℕ) (found : Settling) → 1 ≤ s.copies
    → LaneKeeps lane row → number < steps_of lane (durable_of s l) s.copies
    → step_in lane l (durable_of s l) s.copies number found
    → (at : Settlement) × (slice_get (lane_settlements s.copies l row (durable_of s l)) number ≡ Some at) × IsStep (durable_of s) at found
step_found s l lane row number found some keeps within is = by (durable_of s l) refl found within is
  where
    by : (durable : Bool) → durable_of s l ≡ durable → (x : Settling) → number < steps_of lane durable s.copies → step_in lane l durable s.copies number x
        → (at : Settlement) × (slice_get (lane_settlements s.copies l row durable) number ≡ Some at) × IsStep (durable_of s) at x
    by false off (settling.Sends lane_at message) inside so = (
      Sends l message.now false,
      plain_message s.copies l row.captures number message.now some
          (ap (λ ms. slice_get ms (number / s.copies)) (sym keeps.captures) ∙ so.1),
      (sym so.0, refl, refl, off, so.2),
    )
    by false off (settling.Opens lane_at) inside so = absurd so
    by false off (settling.Drains lane_at drops) inside so = absurd so
    by true on (settling.Sends lane_at message) inside so = absurd so
    by true on (settling.Opens lane_at) inside so = (Opens l, ap (λ n. slice_get (lane_settlements s.copies l row true) n) so.1, sym so.0)
    by true on (settling.Drains lane_at drops) inside so =
        let count : steps_of lane true s.copies ≡ length (lane_settlements s.copies l row true) = steps_count s.copies l lane row true some keeps in
        let there = some_at (lane_settlements s.copies l row true) number (omega (arith, inside, count)) in
        (there.0, there.1, drained there.0 (store_step s.copies l row number there.0 some there.1))
      where
        drained : (at : Settlement) → IsStoreStep s.copies l row number at → IsStep (durable_of s) at (settling.Drains lane_at drops)
        drained (Opens lane_of) step = absurd (omega (arith, so.1, step.1))
        drained (Sends lane_of message last) step =
            let number_is : step.place + 1 ≡ number = omega (arith, step.is) in (
              step.lane_is ∙ sym so.0,
              step.in_it.last ∙ ap (λ n. n % s.copies == 0) number_is ∙ sym so.2,
              ap (λ n. durable_of s n) step.lane_is ∙ on,
            )

-- the steps of the lanes from one on
pub lane_by_lane : (s : ScenarioData) (rows : List LaneRow) (l : ℕ) (row : LaneRow) → slice_get rows l ≡ Some row
    → settlements_from s l (drop l rows) ≡ lane_settlements s.copies l row (durable_of s l) ++ settlements_from s (l + 1) (drop (l + 1) rows)
unfolding settlements_from
lane_by_lane s rows l row there = ap (λ xs. settlements_from s l xs) (drop_at rows l row there)

pub own_step : (s : ScenarioData) (rows : List LaneRow) (l : ℕ) (row : LaneRow) (n : ℕ) (at : Settlement) → slice_get rows l ≡ Some row
    → slice_get (lane_settlements s.copies l row (durable_of s l)) n ≡ Some at → slice_get (settlements_from s l (drop l rows)) n ≡ Some at
own_step s rows l row n at there here =
    ap (λ xs. slice_get xs n) (lane_by_lane s rows l row there)
    ∙ append_first (lane_settlements s.copies l row (durable_of s l)) (settlements_from s (l + 1) (drop (l + 1) rows)) n at here

pub later_step : (s : ScenarioData) (rows : List LaneRow) (l : ℕ) (row : LaneRow) (n : ℕ) → slice_get rows l ≡ Some row
    → length (lane_settlements s.copies l row (durable_of s l)) ≤ n
    → slice_get (settlements_from s l (drop l rows)) n
    ≡ slice_get (settlements_from s (l + 1) (drop (l + 1) rows)) (n - length (lane_settlements s.copies l row (durable_of s l)))
later_step s rows l row n there past =
    let place : n ≡ length (lane_settlements s.copies l row (durable_of s l)) + (n - length (lane_settlements s.copies l row (durable_of s l))) = omega (arith, past) in
    ap (λ xs. slice_get xs n) (lane_by_lane s rows l row there)
    ∙ ap (λ k. slice_get (lane_settlements s.copies l row (durable_of s l) ++ settlements_from s (l + 1) (drop (l + 1) rows)) k) place
    ∙ append_second (lane_settlements s.copies l row (durable_of s l)) (settlements_from s (l + 1) (drop (l + 1) rows))
    (n - length (lane_settlements s.copies l row (durable_of s l)))

pub no_steps : (s : ScenarioData) (rows : List LaneRow) (l n : ℕ) → length rows ≤ l → slice_get (settlements_from s l (drop l rows)) n ≡ None
unfolding settlements_from
no_steps s rows l n past = ap (λ xs. slice_get (settlements_from s l xs) n) (drop_past rows l past) ∙ none n
  where
    none : (k : ℕ) → slice_get (settlements_from s l []) k ≡ None
    none zero = refl
    none (suc k) = refl

-- what the step of a settlement is, by the one that was found
pub none_is : (durable : ℕ → Bool) (o : Option Settlement) → IsStepOf durable o None → o ≡ None
none_is durable None is = refl
none_is durable (Some at) is = absurd is

pub opens_is : (durable : ℕ → Bool) (o : Option Settlement) (lane : ℕ) → IsStepOf durable o (Some (settling.Opens lane)) → o ≡ Some (Opens lane)
opens_is durable None lane is = absurd is
opens_is durable (Some (Opens l)) lane is = ap (λ n. Some (Opens n)) is
opens_is durable (Some (Sends l message drops)) lane is = absurd is

-- a message of a lane without a store
pub record IsPlain (durable : ℕ → Bool) (o : Option Settlement) (lane : ℕ) (message : List ℕ) : Type 0 where
  pub here : o ≡ Some (Sends lane message false)
  pub off : durable lane ≡ false
  pub short : length message ≤ 2048

-- and of a store
pub record IsStores (durable : ℕ → Bool) (o : Option Settlement) (lane : ℕ) (drops : Bool) : Type 0 where
  pub message : List ℕ
  pub here : o ≡ Some (Sends lane message drops)
  pub on : durable lane ≡ true

abbrev pub PlainBy : Settling → (ℕ → Bool) → Option Settlement → Type 0
PlainBy (settling.Sends lane message) durable o = IsPlain durable o lane message.now
PlainBy (settling.Opens lane) durable o = Unit {0}
PlainBy (settling.Drains lane drops) durable o = Unit {0}

pub plain_is : (durable : ℕ → Bool) (o : Option Settlement) (found : Settling) → IsStepOf durable o (Some found) → PlainBy found durable o
plain_is durable None found is = absurd is
plain_is durable (Some at) (settling.Opens lane) is = tt
plain_is durable (Some at) (settling.Drains lane drops) is = tt
plain_is durable (Some (Opens l)) (settling.Sends lane message) is = absurd is
plain_is durable (Some (Sends l bytes drops)) (settling.Sends lane message) is = record {
  here = (λ i. Some (Sends (is.0 i) (is.1 i) (is.2 i)));
  off = ap durable (sym is.0) ∙ is.3;
  short = is.4;
}

pub stores_is : (durable : ℕ → Bool) (o : Option Settlement) (lane : ℕ) (drops : Bool) → IsStepOf durable o (Some (settling.Drains lane drops)) → IsStores durable o lane drops
stores_is durable None lane drops is = absurd is
stores_is durable (Some (Opens l)) lane drops is = absurd is
stores_is durable (Some (Sends l message last)) lane drops is = record {
  message = message;
  here = (λ i. Some (Sends (is.0 i) message (is.1 i)));
  on = ap durable (sym is.0) ∙ is.2;
}
