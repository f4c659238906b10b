-- An exchange of a lane in a run with others: the lane alone has the same one; one of another lane is none of it.
-- What it tells and leaves is the same in both runs.
use Rattle.std.proofs.Common.{◌≡◌, ◌≢◌, ℕ, zero, suc, ◌≤◌, ◌<◌, ◌==◌, Bool, true, false, List, [], ◌∷◌, length, get_or, set, slice_get, Option, Some, None, option_map, refl, sym, ap, ◌∙◌, subst, arith}
use Rattle.std.specs.Prelude.{filter}
use Rattle.std.proofs.lemmas.Bool.{eqb-true, eq-eqb}
use Rattle.std.proofs.lemmas.List.{get_or-set_same, get_or-set_other, length-set}
use Rattle.host_histories.specs.Apart.{StandApart}
use Rattle.scenario_plan.specs.Plan.{ScenarioData}
use Rattle.txn_replay.specs.Alone.{is_card_of, alone, HasOwnCards, CarriesPan, HasOwnNumbers, PartsAgree, is_own}
use Rattle.txn_replay.specs.Part.{Part, Moved}
use Rattle.txn_replay.specs.Payment.{Payment, payment_in, next_of}
use Rattle.txn_replay.specs.Steps.{After, part_of, lane_moved, choice_in, turned_by, happens}
use Rattle.txn_replay.specs.Storing.{lane_piece}
use Rattle.txn_replay.specs.World.{CardRow, LaneRow, World, new_card, new_lane, lane_at}
use Rattle.txn_replay.specs.declared.event.Event.TheVariants.{Turn}
use Rattle.txn_replay.proofs.AloneLaws.LaneAlone.{cards_within, cards_are_few, payment_own, own_payment, idle_payment}
use Rattle.txn_replay.proofs.AloneLaws.OwnLines.{AreOf, all_pass, none_passes, lane_lines, lane_messages}
use Rattle.txn_replay.proofs.AloneLaws.OwnPieces.{at_own, Same, lane_same}
use Rattle.txn_replay.proofs.ExchangeLaws.PurchaseFacts.{payment_facts}

pub differ : (a b : ℕ) → a ≢ b → (a == b) ≡ false
differ a b other = by (a == b) refl
  where
    by : (test : Bool) → (a == b) ≡ test → test ≡ false
    by true is = absurd (other (eqb-true a b is))
    by false is = refl

-- two lists that are alike here, the first no longer than the other, are so where both change alike at a place that the first has
-- where the other has it
set_alike : {A : Type 0} (xs ys : List A) (i j : ℕ) (a b d : A) → length xs ≤ length ys → (i < length ys → i < length xs) → a ≡ b
    → get_or xs j d ≡ get_or ys j d → get_or (set xs i a) j d ≡ get_or (set ys i b) j d
set_alike [] [] i j a b d few there same here = here
set_alike [] (y ∷ ys) zero j a b d few there same here = absurd (let never : 0 < 0 = there (omega arith) in omega (arith, never))
set_alike [] (y ∷ ys) (suc i) zero a b d few there same here = here
set_alike [] (y ∷ ys) (suc i) (suc j) a b d few there same here =
    set_alike [] ys i j a b d (omega arith)
    (λ within. absurd (let never : suc i < 0 = there (omega (arith, within)) in omega (arith, never))) same here
set_alike (x ∷ xs) [] i j a b d few there same here = absurd (omega (arith, few))
set_alike (x ∷ xs) (y ∷ ys) zero zero a b d few there same here = same
set_alike (x ∷ xs) (y ∷ ys) zero (suc j) a b d few there same here = here
set_alike (x ∷ xs) (y ∷ ys) (suc i) zero a b d few there same here = here
set_alike (x ∷ xs) (y ∷ ys) (suc i) (suc j) a b d few there same here =
    set_alike xs ys i j a b d (omega (arith, few))
    (λ within. (let so : suc i < length (x ∷ xs) = there (omega (arith, within)) in omega (arith, so))) same here

-- so it is with a card of the lane
pub card_alike : (pans : List ℕ → Bool) (s : ScenarioData) (l : ℕ) (w v : World) → PartsAgree pans s l w v → (i j : ℕ) (row few : CardRow)
    → is_card_of s l i ≡ true → is_card_of s l j ≡ true → few ≡ row → get_or (set v.cards i few) j new_card ≡ get_or (set w.cards i row) j new_card
card_alike pans s l w v agree i j row few own its same =
    set_alike v.cards w.cards i j few row new_card (omega (arith, agree.cards_alone, agree.card_count, cards_are_few pans s l))
    (λ within. (let there : i < length (alone pans s l).cards = cards_within pans s l i own (omega (arith, within, agree.card_count)) in
    omega (arith, there, agree.cards_alone)))
    same (agree.cards j its)

-- an event of both, one in the run with others and one in that of the lane alone
pub record Both (pans : List ℕ → Bool) (s : ScenarioData) (l : ℕ) (all own : After) : Type 0 where
  pub lines : own.lines ≡ all.lines
  pub told : filter (is_own pans s l) all.lines ≡ all.lines
  pub choices : own.choices ≡ all.choices
  pub parts : PartsAgree pans s l all.world own.world

-- an event of others
pub record Others (pans : List ℕ → Bool) (s : ScenarioData) (l : ℕ) (all : After) (v : World) : Type 0 where
  pub none : filter (is_own pans s l) all.lines ≡ []
  pub parts : PartsAgree pans s l all.world v

module _ (pans : List ℕ → Bool) (s : ScenarioData) (l : ℕ) (apart : StandApart) (inside : l < length s.lanes) where
  -- messages of the lane, and of another one, in the row that an event has left
  pub owned : (w : World) (row : LaneRow) → l < length w.lanes → HasOwnNumbers pans l (record w { lanes = set w.lanes l row })
      → (i : ℕ) (message : List ℕ) → slice_get row.sent i ≡ Some message → CarriesPan pans true message
  owned w row within numbers i message there =
      subst (λ b. CarriesPan pans b message) (eq-eqb l l refl)
      (numbers l i message (ap (λ (x : LaneRow). slice_get x.sent i) (get_or-set_same w.lanes l row new_lane within) ∙ there))

  pub not_owned : (w : World) (k : ℕ) (row : LaneRow) → k ≢ l → k < length w.lanes → HasOwnNumbers pans l (record w { lanes = set w.lanes k row })
      → (i : ℕ) (message : List ℕ) → slice_get row.sent i ≡ Some message → CarriesPan pans false message
  not_owned w k row other within numbers i message there =
      subst (λ b. CarriesPan pans b message) (differ k l other)
      (numbers k i message (ap (λ (x : LaneRow). slice_get x.sent i) (get_or-set_same w.lanes k row new_lane within) ∙ there))

  module _ (w v : World) (agree : PartsAgree pans s l w v) (choices : List Bool) where
    pub next_alone : next_of (alone pans s l) v l ≡ option_map (at_own pans) (next_of s w l)
    next_alone =
        ap (λ (row : LaneRow). payment_in (alone pans s l) l (length row.ended)) agree.lane
        ∙ own_payment pans s l (length (lane_at w l).ended)

    module _ (p : Payment) (is : next_of s w l ≡ Some p) where
      abbrev all : Moved
      all = lane_piece p (part_of w l p.planned.card) (choice_in choices 0) (choice_in choices 1)

      abbrev few : Moved
      few = lane_piece (at_own pans p) (part_of v l p.planned.card) (choice_in choices 0) (choice_in choices 1)

      part_same : part_of v l p.planned.card ≡ record (part_of w l p.planned.card) { messages = v.messages }
      part_same =
          λ j. record { lane = agree.lane j; card = agree.cards p.planned.card (payment_own s l (length (lane_at w l).ended) p is) j; messages = v.messages }

      here : l < length w.lanes
      here = omega (arith, inside, agree.lane_count)

      there : l < length v.lanes
      there = omega (arith, agree.lanes_alone)

      module _ (numbers : HasOwnNumbers pans l (lane_moved w l p.planned.card all).world) where
        same : Same pans apart few all
        same =
            subst (λ (part : Part). Same pans apart (lane_piece (at_own pans p) part (choice_in choices 0) (choice_in choices 1)) all) (sym part_same)
            (lane_same pans apart p v.messages (part_of w l p.planned.card) agree.messages (choice_in choices 0) (choice_in choices 1)
            (owned w all.part.lane here numbers))

        moved_both : Both pans s l (lane_moved w l p.planned.card all) (lane_moved v l p.planned.card few)
        moved_both = record {
          lines = same.lines;
          told =
              all_pass (is_own pans s l) all.lines
              (subst (λ b. AreOf (is_own pans s l) b all.lines) own_lane
              (lane_lines pans s l p (part_of w l p.planned.card) (choice_in choices 0) (choice_in choices 1)));
          choices = same.choices;
          parts = record {
            lane =
                get_or-set_same v.lanes l few.part.lane new_lane there ∙ same.lane ∙ sym (get_or-set_same w.lanes l all.part.lane new_lane here);
            others = λ k other. get_or-set_other v.lanes l k few.part.lane new_lane other ∙ agree.others k other;
            cards = λ i own.
                card_alike pans s l w v agree p.planned.card i all.part.card few.part.card (payment_own s l (length (lane_at w l).ended) p is) own same.card;
            messages = same.messages;
            lane_count = length-set w.lanes l all.part.lane ∙ agree.lane_count;
            card_count = length-set w.cards p.planned.card all.part.card ∙ agree.card_count;
            lanes_alone = length-set v.lanes l few.part.lane ∙ agree.lanes_alone;
            cards_alone = length-set v.cards p.planned.card few.part.card ∙ agree.cards_alone;
          };
        }
          where
            own_lane : (p.lane == l) ≡ true
            own_lane = eq-eqb p.lane l (payment_facts s l (length (lane_at w l).ended) p is).lane

    pub own_turn : HasOwnNumbers pans l (happens s w (Turn l) choices).world
        → Both pans s l (happens s w (Turn l) choices) (happens (alone pans s l) v (Turn l) choices)
    own_turn numbers =
        subst (λ (o : Option Payment). Both pans s l (happens s w (Turn l) choices) (turned_by v l choices o)) (sym next_alone) (by (next_of s w l) refl numbers)
      where
        by : (o : Option Payment) → next_of s w l ≡ o → HasOwnNumbers pans l (turned_by w l choices o).world
            → Both pans s l (turned_by w l choices o) (turned_by v l choices (option_map (at_own pans) o))
        by None is numbers_so = record { lines = refl; told = refl; choices = refl; parts = agree }
        by (Some p) is numbers_so = moved_both p is numbers_so

    module _ (cards : HasOwnCards s l) (k : ℕ) (other : k ≢ l) where
      pub other_turn : HasOwnNumbers pans l (happens s w (Turn k) choices).world → Others pans s l (happens s w (Turn k) choices) v
      other_turn numbers = by (next_of s w k) refl numbers
        where
          by : (o : Option Payment) → next_of s w k ≡ o → HasOwnNumbers pans l (turned_by w k choices o).world → Others pans s l (turned_by w k choices o) v
          by None is numbers_so = record { none = refl; parts = agree }
          by (Some p) is numbers_so = record {
            none =
                none_passes (is_own pans s l) m.lines
                (subst (λ b. AreOf (is_own pans s l) b m.lines) apart_lane
                (lane_lines pans s l p (part_of w k p.planned.card) (choice_in choices 0) (choice_in choices 1)));
            parts = record {
              lane = agree.lane ∙ sym (get_or-set_other w.lanes k l m.part.lane new_lane (λ same. other (sym same)));
              others = agree.others;
              cards = λ i own. agree.cards i own ∙ sym (get_or-set_other w.cards p.planned.card i m.part.card new_card (not_its i own));
              messages =
                  agree.messages
                  ∙ sym (lane_messages pans p (part_of w k p.planned.card) (choice_in choices 0) (choice_in choices 1)
                  (not_owned w k m.part.lane other within numbers_so));
              lane_count = length-set w.lanes k m.part.lane ∙ agree.lane_count;
              card_count = length-set w.cards p.planned.card m.part.card ∙ agree.card_count;
              lanes_alone = agree.lanes_alone;
              cards_alone = agree.cards_alone;
            };
          }
            where
              m : Moved
              m = lane_piece p (part_of w k p.planned.card) (choice_in choices 0) (choice_in choices 1)

              within : k < length w.lanes
              within = omega (arith, (payment_facts s k (length (lane_at w k).ended) p is).inside, agree.lane_count)

              apart_lane : (p.lane == l) ≡ false
              apart_lane = ap (λ n. n == l) (payment_facts s k (length (lane_at w k).ended) p is).lane ∙ differ k l other

              not_its : (i : ℕ) → is_card_of s l i ≡ true → i ≢ p.planned.card
              not_its i own same =
                  let isnt : is_card_of s l p.planned.card ≡ false = cards k (length (lane_at w k).ended) p other is in
                  let yes_it : is_card_of s l p.planned.card ≡ true = ap (is_card_of s l) (sym same) ∙ own in
                  let never : true ≡ false = sym yes_it ∙ isnt in cc

    -- a lane that is idle stays so
    pub idle_turn : (k : ℕ) → k ≢ l → happens (alone pans s l) v (Turn k) choices ≡ record { world = v; lines = []; choices = 0 }
    idle_turn k other = ap (λ (o : Option Payment). turned_by v k choices o) (idle_payment pans s l k other (length (lane_at v k).ended))
