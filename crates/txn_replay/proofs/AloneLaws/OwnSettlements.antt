-- The settlement of a lane in a run with others: its own steps are those of the lane alone, in their order.
-- What they send and tell is the same in both runs.
use Rattle.std.proofs.Common.{◌≡◌, ◌≢◌, ℕ, zero, suc, ◌+◌, ◌-◌, ◌≤◌, ◌<◌, min, Bool, true, false, List, [], ◌∷◌, ◌++◌, length, take, get_or, set, slice_get, Some, None, refl, sym, ap, ◌∙◌, subst, inl, inr, arith, append-nil}
use Rattle.std.proofs.lemmas.Bool.{eq-eqb, cases_order}
use Rattle.std.proofs.lemmas.List.{get_or-set_same, get_or-set_other, length-set}
use Rattle.std.proofs.lemmas.Option.{slice_get_past}
use Rattle.capture_store.specs.StoreRow.{StoreRow, opened_to_settle}
use Rattle.host_histories.specs.Apart.{own_messages, StandApart}
use Rattle.issuer_host.specs.History.{host_reply}
use Rattle.scenario_plan.specs.Plan.{ScenarioData}
use Rattle.txn_replay.specs.Alone.{alone, CarriesPan, HasOwnNumbers, PartsAgree, is_own}
use Rattle.txn_replay.specs.Lines.{settle_lines}
use Rattle.txn_replay.specs.Payment.{dialect_of, durable_of}
use Rattle.txn_replay.specs.Steps.{Settlement, Opens, Sends, choice_in, lane_settlements, settlements_from, settlements, settled_store, lane_settled, settles}
use Rattle.txn_replay.specs.World.{LaneRow, World, new_lane, lane_at, with_store}
use Rattle.txn_replay.proofs.AloneLaws.LaneAlone.{idle_plain, own_durable, own_dialect}
use Rattle.txn_replay.proofs.AloneLaws.OwnLines.{all_pass, none_passes, same_own, stranger}
use Rattle.txn_replay.proofs.AloneLaws.OwnPieces.{more_own, next_there, reply_own}
use Rattle.txn_replay.proofs.AloneLaws.OwnTurns.{differ, Both, Others, owned, not_owned}
use Rattle.txn_replay.proofs.SettlementLaws.SettlementPlaces.{StepAt, before_lane, step_at, store_step, plain_step}
use Rattle.txn_replay.proofs.SettlementLaws.SettlementSteps.{lane_in}
use Rattle.txn_replay.proofs.StoreLaws.StoresEmptied.{steps_in, steps_are, steps_within, later_lane, all_lanes, take_set, like_set}

-- each step of a lane's settlement is of the lane
in_lane : (copies l : ℕ) (row : LaneRow) (durable : Bool) (offset : ℕ) (at : Settlement) → 1 ≤ copies
    → slice_get (lane_settlements copies l row durable) offset ≡ Some at → lane_in at ≡ l
in_lane copies l row false offset (Opens lane) some is = absurd (plain_step copies l row offset (Opens lane) is)
in_lane copies l row false offset (Sends lane message drops) some is = (plain_step copies l row offset (Sends lane message drops) is).0
in_lane copies l row true offset (Opens lane) some is = (store_step copies l row offset (Opens lane) some is).0
in_lane copies l row true offset (Sends lane message drops) some is = (store_step copies l row offset (Sends lane message drops) some is).lane_is

-- an opening is the first of them
opens_first : (copies l : ℕ) (row : LaneRow) (durable : Bool) (offset lane : ℕ) → 1 ≤ copies
    → slice_get (lane_settlements copies l row durable) offset ≡ Some (Opens lane) → (durable ≡ true) × (offset ≡ 0)
opens_first copies l row false offset lane some is = absurd (plain_step copies l row offset (Opens lane) is)
opens_first copies l row true offset lane some is = (refl, (store_step copies l row offset (Opens lane) some is).1)

some_first : (copies l : ℕ) (row : LaneRow) (durable : Bool) → durable ≡ true → 0 < length (lane_settlements copies l row durable)
some_first copies l row true on = omega arith
some_first copies l row false on = cc

-- how many of the lane's own steps come before the step of this number
abbrev pub own_steps : ScenarioData → World → ℕ → ℕ → ℕ
own_steps s w l k = min (k - before_lane s w l) (steps_in s w l)

module _ (pans : List ℕ → Bool) (s : ScenarioData) (l : ℕ) where
  -- the steps of the lane alone are its own
  steps_from : (n i : ℕ) (rows : List LaneRow) → i + n ≡ l → length rows ≡ suc n → ((k : ℕ) → k ≢ n → get_or rows k new_lane ≡ new_lane)
      → settlements_from (alone pans s l) i rows ≡ lane_settlements s.copies l (get_or rows n new_lane) (durable_of s l)
  unfolding settlements_from
  steps_from n i [] place count none = absurd (omega (arith, count))
  steps_from zero i (row ∷ (next ∷ rows)) place count none = absurd (omega (arith, count))
  steps_from zero i (row ∷ []) place count none =
      append-nil (lane_settlements s.copies i row (durable_of (alone pans s l) i))
      ∙ ap (λ k. lane_settlements s.copies k row (durable_of (alone pans s l) k)) (let e : i ≡ l = omega (arith, place) in e)
      ∙ ap (λ b. lane_settlements s.copies l row b) (own_durable pans s l)
  steps_from (suc n) i (row ∷ rows) place count none =
      ap (λ b. lane_settlements s.copies i row b ++ settlements_from (alone pans s l) (i + 1) rows)
      (idle_plain pans s l i (λ same. omega (arith, place, same)))
      ∙ ap (λ (r : LaneRow). lane_settlements s.copies i r false ++ settlements_from (alone pans s l) (i + 1) rows) (none 0 (λ same. omega (arith, same)))
      ∙ steps_from n (i + 1) rows (omega (arith, place)) (omega (arith, count)) (λ k other. none (suc k) (λ same. other (omega (arith, same))))

  module _ (w v : World) (agree : PartsAgree pans s l w v) where
    pub alone_steps : settlements (alone pans s l) v ≡ lane_settlements s.copies l (lane_at w l) (durable_of s l)
    alone_steps =
        steps_from l 0 v.lanes (omega arith) (omega (arith, agree.lanes_alone)) agree.others
        ∙ ap (λ (row : LaneRow). lane_settlements s.copies l row (durable_of s l)) agree.lane

    alone_count : steps_in s w l ≡ length (settlements (alone pans s l) v)
    alone_count = steps_are s w l ∙ ap (λ (xs : List Settlement). length xs) (sym alone_steps)

    module _ (apart : StandApart) (inside : l < length s.lanes) (choices : List Bool) where
      within : l < length w.lanes
      within = omega (arith, inside, agree.lane_count)

      within_alone : l < length v.lanes
      within_alone = omega (arith, agree.lanes_alone)

      -- two rows that are the lane's
      rows_agree : (row few : LaneRow) (messages others : List (List ℕ)) → few ≡ row → own_messages pans others ≡ own_messages pans messages
          → PartsAgree pans s l (record { cards = w.cards; lanes = set w.lanes l row; messages = messages })
          (record { cards = v.cards; lanes = set v.lanes l few; messages = others })
      rows_agree row few messages others same told = record {
        lane = get_or-set_same v.lanes l few new_lane within_alone ∙ same ∙ sym (get_or-set_same w.lanes l row new_lane within);
        others = λ k other. get_or-set_other v.lanes l k few new_lane other ∙ agree.others k other;
        cards = agree.cards;
        messages = told;
        lane_count = length-set w.lanes l row ∙ agree.lane_count;
        card_count = agree.card_count;
        lanes_alone = length-set v.lanes l few ∙ agree.lanes_alone;
        cards_alone = agree.cards_alone;
      }

      -- another lane's row
      row_aside : (k : ℕ) → k ≢ l → (row : LaneRow) (messages : List (List ℕ)) → own_messages pans messages ≡ own_messages pans w.messages
          → PartsAgree pans s l (record { cards = w.cards; lanes = set w.lanes k row; messages = messages }) v
      row_aside k other row messages told = record {
        lane = agree.lane ∙ sym (get_or-set_other w.lanes k l row new_lane (λ same. other (sym same)));
        others = agree.others;
        cards = agree.cards;
        messages = agree.messages ∙ sym told;
        lane_count = length-set w.lanes k row ∙ agree.lane_count;
        card_count = agree.card_count;
        lanes_alone = agree.lanes_alone;
        cards_alone = agree.cards_alone;
      }

      own_opening : Both pans s l (settles s w choices (Some (Opens l))) (settles (alone pans s l) v choices (Some (Opens l)))
      own_opening = record {
        lines = refl;
        told = refl;
        choices = refl;
        parts = rows_agree (opened (lane_at w l)) (opened (lane_at v l)) w.messages v.messages (ap opened agree.lane) agree.messages;
      }
        where
          opened : LaneRow → LaneRow
          opened row = with_store (opened_to_settle row.store (choice_in choices 0)) row

      own_sending : (message : List ℕ) (drops : Bool) → HasOwnNumbers pans l (settles s w choices (Some (Sends l message drops))).world
          → Both pans s l (settles s w choices (Some (Sends l message drops))) (settles (alone pans s l) v choices (Some (Sends l message drops)))
      own_sending message drops numbers = record {
        lines =
            ap (λ b. settle_lines b l message (host_reply s.issuer (alone pans s l).accounts v.messages message)) (own_dialect pans s l)
            ∙ ap (λ (reply : List ℕ). settle_lines (dialect_of s l) l message reply)
            (reply_own pans apart s.issuer s.accounts v.messages w.messages message agree.messages its_own);
        told =
            all_pass (is_own pans s l) (settle_lines (dialect_of s l) l message (host_reply s.issuer s.accounts w.messages message))
            (eq-eqb l l refl, (eq-eqb l l refl, tt));
        choices = refl;
        parts =
            rows_agree (lane_settled message drops (lane_at w l)) (lane_settled message drops (lane_at v l)) (w.messages ++ message ∷ [])
            (v.messages ++ message ∷ []) (ap (lane_settled message drops) agree.lane) (more_own pans v.messages w.messages (message ∷ []) agree.messages);
      }
        where
          its_own : CarriesPan pans true message
          its_own =
              owned pans s l apart inside w (lane_settled message drops (lane_at w l)) within numbers (length (lane_at w l).sent) message
              (next_there (lane_at w l).sent [] message)

      pub own_settles : (at : Settlement) → lane_in at ≡ l → HasOwnNumbers pans l (settles s w choices (Some at)).world
          → Both pans s l (settles s w choices (Some at)) (settles (alone pans s l) v choices (Some at))
      own_settles (Opens lane) is numbers =
          subst (λ n. Both pans s l (settles s w choices (Some (Opens n))) (settles (alone pans s l) v choices (Some (Opens n)))) (sym is) own_opening
      own_settles (Sends lane message drops) is numbers =
          subst (λ n. HasOwnNumbers pans l (settles s w choices (Some (Sends n message drops))).world
          → Both pans s l (settles s w choices (Some (Sends n message drops))) (settles (alone pans s l) v choices (Some (Sends n message drops)))) (sym is)
          (own_sending message drops) numbers

      pub other_settles : (at : Settlement) → lane_in at ≢ l → lane_in at < length w.lanes → HasOwnNumbers pans l (settles s w choices (Some at)).world
          → Others pans s l (settles s w choices (Some at)) v
      other_settles (Opens lane) other here numbers = record {
        none = refl;
        parts = row_aside lane other (with_store (opened_to_settle (lane_at w lane).store (choice_in choices 0)) (lane_at w lane)) w.messages refl;
      }
      other_settles (Sends lane message drops) other here numbers = record {
        none =
            none_passes (is_own pans s l)
            (settle_lines (dialect_of s lane) lane message (host_reply s.issuer s.accounts w.messages message))
            (differ lane l other, (differ lane l other, tt));
        parts =
            row_aside lane other (lane_settled message drops (lane_at w lane)) (w.messages ++ message ∷ [])
            (same_own pans w.messages (message ∷ []) (stranger pans message not_its, tt));
      }
        where
          not_its : CarriesPan pans false message
          not_its =
              not_owned pans s l apart inside w lane (lane_settled message drops (lane_at w lane)) other here numbers (length (lane_at w lane).sent) message
              (next_there (lane_at w lane).sent [] message)

-- how the number of own steps goes on: before them, among them, and behind them
module _ (s : ScenarioData) (w : World) (l : ℕ) where
  none_yet : (k : ℕ) → k ≤ before_lane s w l → own_steps s w l k ≡ 0
  none_yet k early = omega (arith, early)

  so_many : (k m : ℕ) → k ≡ before_lane s w l + m → m ≤ steps_in s w l → own_steps s w l k ≡ m
  so_many k m is few = omega (arith, is, few)

  all_made : (k : ℕ) → before_lane s w l + steps_in s w l ≤ k → own_steps s w l k ≡ steps_in s w l
  all_made k late = omega (arith, late)

  pub first_steps : own_steps s w l 0 ≡ 0
  first_steps = none_yet 0 (omega arith)

-- the row of a lane that has sent a message: what is still to be settled is the same
same_steps : (copies l : ℕ) (row : LaneRow) (message : List ℕ) (drops durable : Bool)
    → lane_settlements copies l (lane_settled message drops row) durable ≡ lane_settlements copies l row durable
same_steps copies l row message true true = refl
same_steps copies l row message true false = refl
same_steps copies l row message false true = refl
same_steps copies l row message false false = refl

same_found : (drops : Bool) (store : StoreRow) → (settled_store drops store).found ≡ store.found
same_found true store = refl
same_found false store = refl

past_all : {A : Type 0} (xs : List A) (k : ℕ) → slice_get xs k ≡ None → length xs ≤ k
past_all [] k none = omega arith
past_all (x ∷ xs) zero none = cc
past_all (x ∷ xs) (suc k) none = let later : length xs ≤ k = past_all xs k none in omega (arith, later)

module _ (s : ScenarioData) (w : World) (k l : ℕ) (some : 1 ≤ s.copies) (inside : l < length w.lanes) where
  -- behind all steps of the settlement
  pub steps_end : slice_get (settlements s w) k ≡ None → slice_get (lane_settlements s.copies l (lane_at w l) (durable_of s l)) (own_steps s w l k) ≡ None
  steps_end none =
      let all : before_lane s w l + steps_in s w l ≤ k = omega (arith, all_lanes s w l inside, past_all (settlements s w) k none) in
      slice_get_past (lane_settlements s.copies l (lane_at w l) (durable_of s l)) (own_steps s w l k)
      (omega (arith, all_made s w l k all, steps_are s w l))

  module _ (choices : List Bool) where
    abbrev after : Settlement → World
    after at = (settles s w choices (Some at)).world

    abbrev row_of : Settlement → LaneRow
    row_of (Opens lane) = with_store (opened_to_settle (lane_at w lane).store (choice_in choices 0)) (lane_at w lane)
    row_of (Sends lane message drops) = lane_settled message drops (lane_at w lane)

    rows_after : (at : Settlement) → (after at).lanes ≡ set w.lanes (lane_in at) (row_of at)
    rows_after (Opens lane) = refl
    rows_after (Sends lane message drops) = refl

    -- a lane before that of a step has as many before it as it had
    before_same : (at : Settlement) (m : ℕ) → m ≤ lane_in at → before_lane s (after at) m ≡ before_lane s w m
    before_same at m early =
        ap (λ (rows : List LaneRow). length (settlements_from s 0 (take m rows))) (rows_after at)
        ∙ ap (λ (rows : List LaneRow). length (settlements_from s 0 rows)) (take_set w.lanes (lane_in at) m (row_of at) early)

    pub record OwnStep (at : Settlement) : Type 0 where
      pub number : own_steps s w l k ≡ k - before_lane s w l
      pub inner : slice_get (lane_settlements s.copies l (lane_at w l) (durable_of s l)) (own_steps s w l k) ≡ Some at
      pub next : own_steps s (after at) l (k + 1) ≡ own_steps s w l k + 1

    own_at : (at : Settlement) → lane_in at ≡ l → StepAt s w k l at → OwnStep at
    own_at at is step = record {
      number = (let e : own_steps s w l k ≡ k - before_lane s w l = omega (arith, here, step.is) in e);
      inner = ap (λ m. slice_get (lane_settlements s.copies l (lane_at w l) (durable_of s l)) m) here ∙ step.inner;
      next = next_is ∙ ap (λ m. m + 1) (sym here);
    }
      where
        here : own_steps s w l k ≡ step.offset
        here = so_many s w l k step.offset step.is (omega (arith, steps_within s w l k at step))

        room : (x : Settlement) → lane_in x ≡ l → (one : StepAt s w k l x) → one.offset + 1 ≤ steps_in s (after x) l
        room (Opens lane) is_l one =
            let first = opens_first s.copies l (lane_at w l) (durable_of s l) one.offset lane some one.inner in
            omega (arith, first.1, steps_are s (after (Opens lane)) l, some_first s.copies l (lane_at (after (Opens lane)) l) (durable_of s l) first.0)
        room (Sends lane message drops) is_l one =
            let row_is : lane_at (after (Sends lane message drops)) l ≡ lane_settled message drops (lane_at w l) =
            subst (λ n. lane_at (after (Sends n message drops)) l ≡ lane_settled message drops (lane_at w l)) (sym is_l)
            (get_or-set_same w.lanes l (lane_settled message drops (lane_at w l)) new_lane inside) in
            let same : length (lane_settlements s.copies l (lane_at (after (Sends lane message drops)) l) (durable_of s l))
            ≡ length (lane_settlements s.copies l (lane_at w l) (durable_of s l)) =
            ap (λ (row : LaneRow). length (lane_settlements s.copies l row (durable_of s l))) row_is
            ∙ ap (λ (xs : List Settlement). length xs) (same_steps s.copies l (lane_at w l) message drops (durable_of s l)) in
            omega (arith, same, one.within, steps_are s (after (Sends lane message drops)) l)

        next_is : own_steps s (after at) l (k + 1) ≡ step.offset + 1
        next_is =
            so_many s (after at) l (k + 1) (step.offset + 1)
            (omega (arith, step.is, before_same at l (omega (arith, is)))) (room at is step)

    -- a step of a lane before it
    early_at : (at : Settlement) (n : ℕ) → lane_in at ≡ n → n < l → StepAt s w k n at → own_steps s (after at) l (k + 1) ≡ own_steps s w l k
    early_at at n is below step =
        none_yet s (after at) l (k + 1) (still at is step) ∙ sym (none_yet s w l k (omega (arith, early)))
      where
        early : k + 1 ≤ before_lane s w l
        early = omega (arith, step.is, steps_within s w n k at step, later_lane s w n l (omega (arith, below, inside)) below)

        still : (x : Settlement) → lane_in x ≡ n → StepAt s w k n x → k + 1 ≤ before_lane s (after x) l
        still (Opens lane) is_n one =
            let first = opens_first s.copies n (lane_at w n) (durable_of s n) one.offset lane some one.inner in
            let count : length (after (Opens lane)).lanes ≡ length w.lanes = length-set w.lanes lane (row_of (Opens lane)) in
            omega (
              arith,
              one.is,
              first.1,
              before_same (Opens lane) n (omega (arith, is_n)),
              steps_are s (after (Opens lane)) n,
              some_first s.copies n (lane_at (after (Opens lane)) n) (durable_of s n) first.0,
              later_lane s (after (Opens lane)) n l (omega (arith, below, inside, count)) below,
            )
        still (Sends lane message drops) is_n one =
            let same : before_lane s (after (Sends lane message drops)) l ≡ before_lane s w l =
            ap (λ (xs : List Settlement). length xs)
            (like_set s 0 w.lanes lane l (lane_settled message drops (lane_at w lane)) refl (same_found drops (lane_at w lane).store)) in
            omega (arith, early, same)

    -- and one of a lane behind it
    late_at : (at : Settlement) (n : ℕ) → lane_in at ≡ n → l < n → StepAt s w k n at → own_steps s (after at) l (k + 1) ≡ own_steps s w l k
    late_at at n is above step =
        all_made s (after at) l (k + 1) (omega (arith, late, before_same at l (omega (arith, is, above)), count)) ∙ count ∙ sym (all_made s w l k late)
      where
        late : before_lane s w l + steps_in s w l ≤ k
        late = omega (arith, step.is, later_lane s w l n inside above)

        row_is : lane_at (after at) l ≡ lane_at w l
        row_is =
            ap (λ (rows : List LaneRow). get_or rows l new_lane) (rows_after at)
            ∙ get_or-set_other w.lanes (lane_in at) l (row_of at) new_lane (λ same. omega (arith, same, is, above))

        count : steps_in s (after at) l ≡ steps_in s w l
        count =
            steps_are s (after at) l
            ∙ ap (λ (row : LaneRow). length (lane_settlements s.copies l row (durable_of s l))) row_is
            ∙ sym (steps_are s w l)

    module _ (at : Settlement) (here : slice_get (settlements s w) k ≡ Some at) where
      pub own_step : lane_in at ≡ l → OwnStep at
      own_step is =
          let found = step_at s w k at here in
          let lane : lane_in at ≡ found.0 = in_lane s.copies found.0 (lane_at w found.0) (durable_of s found.0) found.1.offset at some found.1.inner in
          own_at at is (subst (λ n. StepAt s w k n at) (sym lane ∙ is) found.1)

      pub other_step : lane_in at ≢ l → own_steps s (after at) l (k + 1) ≡ own_steps s w l k
      other_step other =
          let found = step_at s w k at here in
          let lane : lane_in at ≡ found.0 = in_lane s.copies found.0 (lane_at w found.0) (durable_of s found.0) found.1.offset at some found.1.inner in
          elim (cases_order found.0 l) [
            | inl same ↦ absurd (other (lane ∙ same))
            | inr (inl below) ↦ early_at at found.0 lane below found.1
            | inr (inr above) ↦ late_at at found.0 lane above found.1
          ]
