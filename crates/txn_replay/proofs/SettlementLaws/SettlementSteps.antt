-- The steps of the settlement: what each of them is of.
-- A step names a lane of the scenario, and a message that this lane has captured.
use Rattle.std.proofs.Common.{◌≡◌, ℕ, zero, suc, ◌+◌, ◌-◌, ◌<◌, Bool, true, false, List, [], ◌∷◌, ◌++◌, length, replicate, slice_get, Option, Some, None, refl, sym, ap, ◌∙◌, subst, arith, inl, inr}
use Rattle.std.specs.List.{flat_map}
use Rattle.std.specs.Prelude.{unwrap_or}
use Rattle.std.proofs.lemmas.Option.{same_Some, slice_get_within, get_or_from_slice_get}
use Rattle.scenario_plan.specs.Plan.{ScenarioData}
use Rattle.txn_replay.specs.Payment.{durable_of}
use Rattle.txn_replay.specs.Steps.{Settlement, Opens, Sends, copies_of, dropped_copies, lane_settlements, settlements_from, settlements}
use Rattle.txn_replay.specs.World.{LaneRow, World, new_lane, lane_at}
use Rattle.txn_replay.proofs.Lists.{append_at}

-- a step of a lane: of its captures, or of its store, and then of a message that the opening found
pub record IsSent (l : ℕ) (row : LaneRow) (durable : Bool) (lane : ℕ) (message : List ℕ) (drops : Bool) : Type 0 where
  pub lane_is : lane ≡ l
  pub stored : drops ≡ true → durable ≡ true
  pub captured : durable ≡ false → (j : ℕ) × (slice_get row.captures j ≡ Some message)
  pub found : durable ≡ true → (j : ℕ) × (slice_get (unwrap_or row.store.found []) j ≡ Some message)

abbrev pub IsOf : ℕ → LaneRow → Bool → Settlement → Type 0
IsOf l row durable (Opens lane) = (lane ≡ l) × (durable ≡ true)
IsOf l row durable (Sends lane message drops) = IsSent l row durable lane message drops

-- a copy of a message
pub copy_is : (n : ℕ) (x : Settlement) (k : ℕ) (at : Settlement) → slice_get (replicate n x) k ≡ Some at → x ≡ at
copy_is zero x k at is = cc
copy_is (suc n) x zero at is = same_Some x at is
copy_is (suc n) x (suc k) at is = copy_is n x k at is

-- what each copy of each message is, each step is
pub plain_are : (P : Settlement → Type 0) (copies l : ℕ) (messages : List (List ℕ)) (k : ℕ) (at : Settlement)
    → ((j : ℕ) (message : List ℕ) → slice_get messages j ≡ Some message → P (Sends l message false))
    → slice_get (flat_map (copies_of copies l) messages) k ≡ Some at → P at
plain_are P copies l [] k at each is = cc
plain_are P copies l (message ∷ messages) k at each is =
    elim (append_at (copies_of copies l message) (flat_map (copies_of copies l) messages) k at is) [
      | inl here ↦ subst P (copy_is copies (Sends l message false) k at here) (each 0 message refl)
      | inr later ↦ plain_are P copies l messages later.0 at (λ j other there. each (suc j) other there) later.1
    ]

last_is : (P : Settlement → Type 0) (x at : Settlement) (k : ℕ) → P x → slice_get (x ∷ []) k ≡ Some at → P at
last_is P x at zero holds is = subst P (same_Some x at is) holds
last_is P x at (suc k) holds is = cc

dropped_are : (P : Settlement → Type 0) (copies l : ℕ) (messages : List (List ℕ)) (k : ℕ) (at : Settlement)
    → ((j : ℕ) (message : List ℕ) (drops : Bool) → slice_get messages j ≡ Some message → P (Sends l message drops))
    → slice_get (flat_map (dropped_copies copies l) messages) k ≡ Some at → P at
dropped_are P copies l [] k at each is = cc
dropped_are P copies l (message ∷ messages) k at each is =
    elim (append_at (dropped_copies copies l message) (flat_map (dropped_copies copies l) messages) k at is) [
      | inl here ↦ by_copy here
      | inr later ↦ dropped_are P copies l messages later.0 at (λ j other drops there. each (suc j) other drops there) later.1
    ]
  where
    by_copy : slice_get (replicate (copies - 1) (Sends l message false) ++ Sends l message true ∷ []) k ≡ Some at → P at
    by_copy here =
        elim (append_at (replicate (copies - 1) (Sends l message false)) (Sends l message true ∷ []) k at here) [
          | inl earlier ↦ subst P (copy_is (copies - 1) (Sends l message false) k at earlier) (each 0 message false refl)
          | inr last ↦ last_is P (Sends l message true) at last.0 (each 0 message true refl) last.1
        ]

lane_are : (copies l : ℕ) (row : LaneRow) (durable : Bool) (k : ℕ) (at : Settlement) → slice_get (lane_settlements copies l row durable) k ≡ Some at
    → IsOf l row durable at
lane_are copies l row false k at is =
    plain_are (IsOf l row false) copies l row.captures k at
    (λ j message there. record { lane_is = refl; stored = λ drops. cc; captured = λ none. (j, there); found = λ on. cc }) is
lane_are copies l row true zero at is = subst (IsOf l row true) (same_Some (Opens l) at is) (refl, refl)
lane_are copies l row true (suc k) at is =
    dropped_are (IsOf l row true) copies l (unwrap_or row.store.found []) k at
    (λ j message drops there. record { lane_is = refl; stored = λ last. refl; captured = λ none. cc; found = λ on. (j, there) }) is

-- each step is of one of the lanes
pub record StepOf (s : ScenarioData) (l : ℕ) (rows : List LaneRow) (at : Settlement) : Type 0 where
  pub place : ℕ
  pub row : LaneRow
  pub there : slice_get rows place ≡ Some row
  pub of_it : IsOf (l + place) row (durable_of s (l + place)) at

pub step_of : (s : ScenarioData) (l : ℕ) (rows : List LaneRow) (k : ℕ) (at : Settlement) → slice_get (settlements_from s l rows) k ≡ Some at → StepOf s l rows at
unfolding settlements_from
step_of s l [] k at is = cc
step_of s l (row ∷ rows) k at is =
    elim (append_at (lane_settlements s.copies l row (durable_of s l)) (settlements_from s (l + 1) rows) k at is) [
      | inl here ↦
          (let same : l ≡ l + 0 = omega arith in
          record {
            place = 0;
            row = row;
            there = refl;
            of_it = subst (λ (n : ℕ). IsOf n row (durable_of s n) at) same (lane_are s.copies l row (durable_of s l) k at here);
          })
      | inr later ↦
          (let one = step_of s (l + 1) rows later.0 at later.1 in
          let same : l + 1 + one.place ≡ l + suc one.place = omega arith in
          record {
            place = suc one.place;
            row = one.row;
            there = one.there;
            of_it = subst (λ (n : ℕ). IsOf n one.row (durable_of s n) at) same one.of_it;
          })
    ]

-- a lane that keeps its captures durably, whose store the settlement has opened
pub record IsOpened (s : ScenarioData) (w : World) (lane : ℕ) : Type 0 where
  pub on : durable_of s lane ≡ true
  pub opened : (lane_at w lane).store.found ≡ None → ⊥

-- an opening is of a lane that keeps its captures durably, and only an opened store drops a message
abbrev pub IsOfStore : ScenarioData → World → Settlement → Type 0
IsOfStore s w (Opens lane) = durable_of s lane ≡ true
IsOfStore s w (Sends lane message drops) = drops ≡ true → IsOpened s w lane

none_there : (o : Option (List (List ℕ))) (j : ℕ) (message : List ℕ) → slice_get (unwrap_or o []) j ≡ Some message → o ≡ None → ⊥
none_there None j message is none = cc
none_there (Some found) j message is none = cc

pub durable_steps : (s : ScenarioData) (w : World) (k : ℕ) (at : Settlement) → slice_get (settlements s w) k ≡ Some at → IsOfStore s w at
durable_steps s w k (Opens lane) is =
    let one = step_of s 0 w.lanes k (Opens lane) is in
    ap (λ n. durable_of s n) one.of_it.0 ∙ one.of_it.1
durable_steps s w k (Sends lane message drops) is = λ last.
    (let one = step_of s 0 w.lanes k (Sends lane message drops) is in
    let same : lane ≡ one.place = (let e : lane ≡ 0 + one.place = one.of_it.lane_is in omega arith) in
    let row_is : lane_at w lane ≡ one.row = ap (λ n. lane_at w n) same ∙ get_or_from_slice_get w.lanes one.place one.row new_lane one.there in
    let there = one.of_it.found (one.of_it.stored last) in
    record {
      on = ap (λ n. durable_of s n) one.of_it.lane_is ∙ one.of_it.stored last;
      opened = λ none. none_there one.row.store.found there.0 message there.1 (ap (λ (row : LaneRow). row.store.found) (sym row_is) ∙ none);
    })

-- the lane of a step
abbrev pub lane_in : Settlement → ℕ
lane_in (Opens lane) = lane
lane_in (Sends lane message drops) = lane

pub settles_inside : (s : ScenarioData) (rows : List LaneRow) (k : ℕ) (at : Settlement) → slice_get (settlements_from s 0 rows) k ≡ Some at → lane_in at < length rows
settles_inside s rows k (Opens lane) is =
    let one = step_of s 0 rows k (Opens lane) is in
    let within : one.place < length rows = slice_get_within rows one.place one.row one.there in
    let same : lane ≡ 0 + one.place = one.of_it.0 in
    omega arith
settles_inside s rows k (Sends lane message drops) is =
    let one = step_of s 0 rows k (Sends lane message drops) is in
    let within : one.place < length rows = slice_get_within rows one.place one.row one.there in
    let same : lane ≡ 0 + one.place = one.of_it.lane_is in
    omega arith
