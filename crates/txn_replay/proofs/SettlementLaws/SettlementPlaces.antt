-- Where the steps of the settlement stand: a lane's own behind those of the lanes before it; in a lane its store's opening
-- first, and then the copies of each message that it found.
use Rattle.std.proofs.Common.{◌≡◌, ℕ, zero, suc, ◌+◌, ◌-◌, ◌/◌, ◌%◌, ◌==◌, ◌≤◌, ◌<◌, Bool, true, false, List, [], ◌∷◌, ◌++◌, length, take, replicate, slice_get, Some, refl, sym, ap, ◌∙◌, subst, inl, inr, arith, length-append}
use Rattle.std.specs.List.{flat_map}
use Rattle.std.specs.Prelude.{if◌then◌else◌, unwrap_or}
use Rattle.std.proofs.lemmas.Bool.Decides.{nat_tests}
use Rattle.std.proofs.lemmas.List.{length-replicate}
use Rattle.std.proofs.lemmas.Option.{same_Some, get_or_from_slice_get}
use Rattle.std.proofs.Math.Nat.{add-div_left, add-mod_left, div-eq_of_lt, div_self, mod-eq_of_lt, mod_self}
use Rattle.scenario_plan.specs.Plan.{ScenarioData}
use Rattle.txn_replay.specs.Payment.{durable_of}
use Rattle.txn_replay.specs.Steps.{Settlement, Opens, Sends, dropped_copies, lane_settlements, settlements_from, settlements}
use Rattle.txn_replay.specs.World.{LaneRow, World, new_lane, lane_at}
use Rattle.txn_replay.proofs.Lists.{append_place}
use Rattle.txn_replay.proofs.SettlementLaws.SettlementSteps.{copy_is, plain_are}

-- the step of number `n` behind the opening: a copy of the message that this many earlier ones have come before
pub record InCopies (copies : ℕ) (messages : List (List ℕ)) (n : ℕ) (message : List ℕ) (drops : Bool) : Type 0 where
  pub there : slice_get messages (n / copies) ≡ Some message
  pub next : (n + 1) / copies ≡ n / copies + (if drops then 1 else 0)
  pub last : drops ≡ ((n + 1) % copies == 0)
  -- so many copies were sent before it, and behind it
  pub rest : (n + 1) % copies ≡ (if drops then 0 else n % copies + 1)
  pub whole : drops ≡ true → n % copies + 1 ≡ copies

abbrev pub IsCopy : ℕ → ℕ → List (List ℕ) → ℕ → Settlement → Type 0
IsCopy copies l messages n (Opens lane) = ⊥
IsCopy copies l messages n (Sends lane message drops) = (lane ≡ l) × InCopies copies messages n message drops

not_zero : (n : ℕ) → 0 < n → (n == 0) ≡ false
not_zero n some = grind (arith, nat_tests)

-- a copy but the last, and the last
early_copy : (copies n : ℕ) (message : List ℕ) (messages : List (List ℕ)) → n + 1 < copies → InCopies copies (message ∷ messages) n message false
early_copy copies n message messages below =
    let none : n / copies ≡ 0 = div-eq_of_lt (omega (arith, below)) in
    let still : (n + 1) / copies ≡ 0 = div-eq_of_lt (omega (arith, below)) in
    let rest : (n + 1) % copies ≡ n + 1 = mod-eq_of_lt (omega (arith, below)) in
    let before : n % copies ≡ n = mod-eq_of_lt (omega (arith, below)) in
    record {
      there = ap (λ q. slice_get (message ∷ messages) q) none;
      next = still ∙ sym (ap (λ q. q + 0) none);
      last = sym (not_zero ((n + 1) % copies) (omega (arith, rest)));
      rest = rest ∙ sym (ap (λ k. k + 1) before);
      whole = λ drops. cc;
    }

last_copy : (copies n : ℕ) (message : List ℕ) (messages : List (List ℕ)) → n + 1 ≡ copies → InCopies copies (message ∷ messages) n message true
last_copy copies n message messages is =
    let none : n / copies ≡ 0 = div-eq_of_lt (omega (arith, is)) in
    let one : (n + 1) / copies ≡ 1 = ap (λ x. x / copies) is ∙ div_self (omega (arith, is)) in
    let rest : (n + 1) % copies ≡ 0 = ap (λ x. x % copies) is ∙ mod_self copies in
    let before : n % copies ≡ n = mod-eq_of_lt (omega (arith, is)) in
    record {
      there = ap (λ q. slice_get (message ∷ messages) q) none;
      next = one ∙ sym (ap (λ q. q + 1) none);
      last = sym (ap (λ r. r == 0) rest);
      rest = rest;
      whole = λ drops. omega (arith, before, is);
    }

suc_first : (a b : ℕ) → suc (a + b) ≡ suc a + b
suc_first a b = omega arith

-- one message further
later_copy : (copies n m l : ℕ) (message : List ℕ) (messages : List (List ℕ)) (at : Settlement) → 1 ≤ copies → n ≡ copies + m → IsCopy copies l messages m at
    → IsCopy copies l (message ∷ messages) n at
later_copy copies n m l message messages (Opens lane) some is never = never
later_copy copies n m l message messages (Sends lane sent drops) some is one =
    let quotient : n / copies ≡ suc (m / copies) = ap (λ x. x / copies) is ∙ add-div_left m (omega (arith, some)) ∙ (let e : m / copies + 1 ≡ suc (m / copies) = omega arith in e) in
    let next : (n + 1) / copies ≡ suc ((m + 1) / copies) =
    ap (λ x. x / copies) (let e : n + 1 ≡ copies + (m + 1) = omega (arith, is) in e)
    ∙ add-div_left (m + 1) (omega (arith, some))
    ∙ (let e : (m + 1) / copies + 1 ≡ suc ((m + 1) / copies) = omega arith in e) in
    let rest : (n + 1) % copies ≡ (m + 1) % copies =
    ap (λ x. x % copies) (let e : n + 1 ≡ copies + (m + 1) = omega (arith, is) in e) ∙ add-mod_left copies (m + 1) in
    let before : n % copies ≡ m % copies = ap (λ x. x % copies) is ∙ add-mod_left copies m in (
      one.0,
      record {
        there = ap (λ q. slice_get (message ∷ messages) q) quotient ∙ one.1.there;
        next = next ∙ ap (λ q. suc q) one.1.next ∙ suc_first (m / copies) (if drops then 1 else 0) ∙ sym (ap (λ q. q + (if drops then 1 else 0)) quotient);
        last = one.1.last ∙ sym (ap (λ r. r == 0) rest);
        rest = rest ∙ one.1.rest ∙ ap (λ k. if drops then 0 else k + 1) (sym before);
        whole = λ ends. ap (λ k. k + 1) before ∙ one.1.whole ends;
      },
    )

pub in_copies : (copies l : ℕ) (messages : List (List ℕ)) (n : ℕ) (at : Settlement) → 1 ≤ copies
    → slice_get (flat_map (dropped_copies copies l) messages) n ≡ Some at → IsCopy copies l messages n at
in_copies copies l [] n at some is = cc
in_copies copies l (message ∷ messages) n at some is =
    elim (append_place (dropped_copies copies l message) (flat_map (dropped_copies copies l) messages) n at is) [
      | inl here ↦ first here.1
      | inr later ↦
          later_copy copies n later.0 l message messages at some (later.1 ∙ ap (λ k. k + later.0) count) (in_copies copies l messages later.0 at some later.2)
    ]
  where
    early : length (replicate (copies - 1) (Sends l message false)) ≡ copies - 1
    early = length-replicate (copies - 1) (Sends l message false)

    count : length (dropped_copies copies l message) ≡ copies
    count = omega (arith, some, early, length-append (replicate (copies - 1) (Sends l message false)) (Sends l message true ∷ []))

    last : (m : ℕ) → n ≡ copies - 1 + m → slice_get (Sends l message true ∷ []) m ≡ Some at → IsCopy copies l (message ∷ messages) n at
    last zero place there =
        subst (λ (x : Settlement). IsCopy copies l (message ∷ messages) n x) (same_Some (Sends l message true) at there)
        (refl, last_copy copies n message messages (omega (arith, some, place)))
    last (suc m) place there = cc

    first : slice_get (replicate (copies - 1) (Sends l message false) ++ Sends l message true ∷ []) n ≡ Some at → IsCopy copies l (message ∷ messages) n at
    first here =
        elim (append_place (replicate (copies - 1) (Sends l message false)) (Sends l message true ∷ []) n at here) [
          | inl earlier ↦
              subst (λ (x : Settlement). IsCopy copies l (message ∷ messages) n x) (copy_is (copies - 1) (Sends l message false) n at earlier.1)
              (refl, early_copy copies n message messages (omega (arith, earlier.0, early)))
          | inr end ↦ last end.0 (end.1 ∙ ap (λ k. k + end.0) early) end.2
        ]

-- a step of a lane that keeps its captures durably
pub record IsStoreSend (copies l : ℕ) (row : LaneRow) (offset lane : ℕ) (message : List ℕ) (drops : Bool) : Type 0 where
  pub lane_is : lane ≡ l
  pub place : ℕ
  pub is : offset ≡ 1 + place
  pub in_it : InCopies copies (unwrap_or row.store.found []) place message drops

abbrev pub IsStoreStep : ℕ → ℕ → LaneRow → ℕ → Settlement → Type 0
IsStoreStep copies l row offset (Opens lane) = (lane ≡ l) × (offset ≡ 0)
IsStoreStep copies l row offset (Sends lane message drops) = IsStoreSend copies l row offset lane message drops

pub store_step : (copies l : ℕ) (row : LaneRow) (offset : ℕ) (at : Settlement) → 1 ≤ copies
    → slice_get (lane_settlements copies l row true) offset ≡ Some at → IsStoreStep copies l row offset at
store_step copies l row zero at some is = subst (λ (x : Settlement). IsStoreStep copies l row 0 x) (same_Some (Opens l) at is) (refl, refl)
store_step copies l row (suc n) at some is = by at (in_copies copies l (unwrap_or row.store.found []) n at some is)
  where
    by : (x : Settlement) → IsCopy copies l (unwrap_or row.store.found []) n x → IsStoreStep copies l row (suc n) x
    by (Opens lane) never = absurd never
    by (Sends lane message drops) one = record { lane_is = one.0; place = n; is = omega arith; in_it = one.1 }

-- one of another lane sends what was captured, and drops nothing
abbrev pub IsPlainStep : ℕ → Settlement → Type 0
IsPlainStep l (Opens lane) = ⊥
IsPlainStep l (Sends lane message drops) = (lane ≡ l) × (drops ≡ false)

pub plain_step : (copies l : ℕ) (row : LaneRow) (offset : ℕ) (at : Settlement) → slice_get (lane_settlements copies l row false) offset ≡ Some at
    → IsPlainStep l at
plain_step copies l row offset at is = plain_are (IsPlainStep l) copies l row.captures offset at (λ j message there. (refl, refl)) is

-- where a step stands
pub record PlaceOf (s : ScenarioData) (l : ℕ) (rows : List LaneRow) (k : ℕ) (at : Settlement) : Type 0 where
  pub place : ℕ
  pub row : LaneRow
  pub there : slice_get rows place ≡ Some row
  pub offset : ℕ
  pub is : k ≡ length (settlements_from s l (take place rows)) + offset
  pub within : offset < length (lane_settlements s.copies (l + place) row (durable_of s (l + place)))
  pub inner : slice_get (lane_settlements s.copies (l + place) row (durable_of s (l + place))) offset ≡ Some at

pub place_of : (s : ScenarioData) (l : ℕ) (rows : List LaneRow) (k : ℕ) (at : Settlement) → slice_get (settlements_from s l rows) k ≡ Some at → PlaceOf s l rows k at
unfolding settlements_from
place_of s l [] k at is = cc
place_of s l (row ∷ rows) k at is =
    elim (append_place (lane_settlements s.copies l row (durable_of s l)) (settlements_from s (l + 1) rows) k at is) [
      | inl here ↦
          (let same : l ≡ l + 0 = omega arith in
          record {
            place = 0;
            row = row;
            there = refl;
            offset = k;
            is = omega arith;
            within = subst (λ (n : ℕ). k < length (lane_settlements s.copies n row (durable_of s n))) same here.0;
            inner = subst (λ (n : ℕ). slice_get (lane_settlements s.copies n row (durable_of s n)) k ≡ Some at) same here.1;
          })
      | inr later ↦
          (let one = place_of s (l + 1) rows later.0 at later.2 in
          let same : l + 1 + one.place ≡ l + suc one.place = omega arith in
          record {
            place = suc one.place;
            row = one.row;
            there = one.there;
            offset = one.offset;
            is = omega (
              arith,
              later.1,
              one.is,
              length-append (lane_settlements s.copies l row (durable_of s l)) (settlements_from s (l + 1) (take one.place rows)),
            );
            within = subst (λ (n : ℕ). one.offset < length (lane_settlements s.copies n one.row (durable_of s n))) same one.within;
            inner = subst (λ (n : ℕ). slice_get (lane_settlements s.copies n one.row (durable_of s n)) one.offset ≡ Some at) same one.inner;
          })
    ]

-- how many steps come before a lane's own
abbrev pub before_lane : ScenarioData → World → ℕ → ℕ
before_lane s w l = length (settlements_from s 0 (take l w.lanes))

-- a step by its lane
pub record StepAt (s : ScenarioData) (w : World) (k l : ℕ) (at : Settlement) : Type 0 where
  pub inside : slice_get w.lanes l ≡ Some (lane_at w l)
  pub offset : ℕ
  pub is : k ≡ before_lane s w l + offset
  pub within : offset < length (lane_settlements s.copies l (lane_at w l) (durable_of s l))
  pub inner : slice_get (lane_settlements s.copies l (lane_at w l) (durable_of s l)) offset ≡ Some at

pub step_at : (s : ScenarioData) (w : World) (k : ℕ) (at : Settlement) → slice_get (settlements s w) k ≡ Some at → (l : ℕ) × StepAt s w k l at
step_at s w k at is =
    let one = place_of s 0 w.lanes k at is in
    let lane_is : 0 + one.place ≡ one.place = omega arith in
    let row_is : one.row ≡ lane_at w one.place = sym (get_or_from_slice_get w.lanes one.place one.row new_lane one.there) in (
      one.place,
      record {
        inside = one.there ∙ ap (λ (row : LaneRow). Some row) row_is;
        offset = one.offset;
        is = one.is;
        within = subst (λ (row : LaneRow). one.offset < length (lane_settlements s.copies one.place row (durable_of s one.place))) row_is
            (subst (λ (n : ℕ). one.offset < length (lane_settlements s.copies n one.row (durable_of s n))) lane_is one.within);
        inner = subst (λ (row : LaneRow). slice_get (lane_settlements s.copies one.place row (durable_of s one.place)) one.offset ≡ Some at) row_is
            (subst (λ (n : ℕ). slice_get (lane_settlements s.copies n one.row (durable_of s n)) one.offset ≡ Some at) lane_is one.inner);
      },
    )

-- an opening is the first step of its lane, which keeps its captures durably
pub record OpensAt (s : ScenarioData) (w : World) (k l : ℕ) : Type 0 where
  pub on : durable_of s l ≡ true
  pub is : k ≡ before_lane s w l

pub opens_at : (s : ScenarioData) (w : World) (k l : ℕ) → 1 ≤ s.copies → slice_get (settlements s w) k ≡ Some (Opens l) → OpensAt s w k l
opens_at s w k l some is = let found = step_at s w k (Opens l) is in at found.0 found.1
  where
    at : (n : ℕ) → StepAt s w k n (Opens l) → OpensAt s w k l
    at n one = by (durable_of s n) refl one.inner
      where
        by : (durable : Bool) → durable_of s n ≡ durable → slice_get (lane_settlements s.copies n (lane_at w n) durable) one.offset ≡ Some (Opens l) → OpensAt s w k l
        by false off inner = absurd (plain_step s.copies n (lane_at w n) one.offset (Opens l) inner)
        by true on inner =
            let first = store_step s.copies n (lane_at w n) one.offset (Opens l) some inner in
            record {
              on = ap (λ m. durable_of s m) first.0 ∙ on;
              is = (let e : k ≡ before_lane s w n = omega (arith, one.is, first.1) in e) ∙ ap (λ m. before_lane s w m) (sym first.0);
            }

-- what is sent from a store
pub record StoreSends (s : ScenarioData) (w : World) (k l : ℕ) (message : List ℕ) (drops : Bool) : Type 0 where
  pub place : ℕ
  pub is : k ≡ before_lane s w l + (1 + place)
  pub in_it : InCopies s.copies (unwrap_or (lane_at w l).store.found []) place message drops

abbrev pub SendsBy : ScenarioData → World → ℕ → ℕ → List ℕ → Bool → Bool → Type 0
SendsBy s w k l message drops true = StoreSends s w k l message drops
SendsBy s w k l message drops false = drops ≡ false

pub sends_at : (s : ScenarioData) (w : World) (k l : ℕ) (message : List ℕ) (drops : Bool) → 1 ≤ s.copies
    → slice_get (settlements s w) k ≡ Some (Sends l message drops) → SendsBy s w k l message drops (durable_of s l)
sends_at s w k l message drops some is = let found = step_at s w k (Sends l message drops) is in at found.0 found.1
  where
    at : (n : ℕ) → StepAt s w k n (Sends l message drops) → SendsBy s w k l message drops (durable_of s l)
    at n one = by (durable_of s n) refl one.inner
      where
        by : (durable : Bool) → durable_of s n ≡ durable
            → slice_get (lane_settlements s.copies n (lane_at w n) durable) one.offset ≡ Some (Sends l message drops) → SendsBy s w k l message drops (durable_of s l)
        by false off inner =
            let plain = plain_step s.copies n (lane_at w n) one.offset (Sends l message drops) inner in
            subst (λ (b : Bool). SendsBy s w k l message drops b) (sym off ∙ ap (λ m. durable_of s m) (sym plain.0)) plain.1
        by true on inner =
            let sent = store_step s.copies n (lane_at w n) one.offset (Sends l message drops) some inner in
            subst (λ (b : Bool). SendsBy s w k l message drops b) (sym on ∙ ap (λ m. durable_of s m) (sym sent.lane_is))
            (subst (λ (m : ℕ). StoreSends s w k m message drops) (sym sent.lane_is)
            (record { place = sent.place; is = one.is ∙ ap (λ m. before_lane s w n + m) sent.is; in_it = sent.in_it }))
