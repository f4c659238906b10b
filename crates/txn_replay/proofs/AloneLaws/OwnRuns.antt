-- A run with others, event by event, beside the run of a lane alone.
-- Both have agreeing parts at each place, so the lane alone comes to the end as well.
use Rattle.std.proofs.Common.{◌≡◌, ◌≢◌, ℕ, zero, suc, ◌+◌, ◌≤◌, ◌<◌, ◌&&◌, Bool, true, false, List, [], ◌∷◌, ◌++◌, length, slice_get, Option, Some, None, option_map, refl, sym, ap, ◌∙◌, subst, inl, inr, arith, append-nil}
use Rattle.std.specs.Prelude.{◌==◌, filter, is_none}
use Rattle.std.proofs.lemmas.Bool.{and_from, eq-eqb, ne_eqb, cases_eq}
use Rattle.std.proofs.lemmas.List.{length-map}
use Rattle.std.proofs.lemmas.List.Elements.{filter-append}
use Rattle.host_histories.specs.Apart.{StandApart}
use Rattle.report_text.specs.declared.line.Line.{Line}
use Rattle.scenario_plan.specs.Plan.{ScenarioData, IsScenario}
use Rattle.txn_replay.specs.Alone.{is_card_of, alone, HasOwnCards, HasOwnNumbers, PartsAgree, is_own}
use Rattle.txn_replay.specs.Payment.{Payment, next_of}
use Rattle.txn_replay.specs.Run.{RunPlace, Scheduled, Round, Settling, Auditing, Finished, Reached, start, scheduled, rounds, round, again, settlement, settling, audit, auditing, finished, lane_over, all_below, all_over}
use Rattle.txn_replay.specs.StandAlone.{is_step_of, is_check_of, own_values, own_choices}
use Rattle.txn_replay.specs.Steps.{After, Settlement, Opens, Sends, Check, PowersUp, Asks, no_event, part_of, choice_in, turned_by, lane_settled, settlements, settles, checks, audits, happens, Step}
use Rattle.txn_replay.specs.Storing.{lane_piece}
use Rattle.txn_replay.specs.World.{LaneRow, World, new_card, new_lane, first_world, lane_at}
use Rattle.txn_replay.specs.declared.event.Event.{Event}
use Rattle.txn_replay.specs.declared.event.Event.TheVariants.{Turn, Settle, Audit}
use Rattle.txn_replay.proofs.AloneLaws.LaneAlone.{idle_payment, lanes_count}
use Rattle.txn_replay.proofs.Lists.{at_set, append_first, get_or-map_const}
use Rattle.txn_replay.proofs.AloneLaws.OwnAudits.{passed, passed_none, passed_own, passed_other, passed_past, is_on, alone_checks, own_audits, other_audits}
use Rattle.txn_replay.proofs.AloneLaws.OwnLines.{Keeps, lane_keeps_sent}
use Rattle.txn_replay.proofs.AloneLaws.OwnPieces.{at_own}
use Rattle.txn_replay.proofs.AloneLaws.OwnSettlements.{own_steps, first_steps, alone_steps, own_settles, other_settles, steps_end, OwnStep, own_step, other_step}
use Rattle.txn_replay.proofs.AloneLaws.OwnTurns.{Both, Others, next_alone, own_turn, other_turn, idle_turn}
use Rattle.txn_replay.proofs.SettlementLaws.SettlementSteps.{lane_in, settles_inside}
use Rattle.txn_replay.proofs.RunLaws.TurnsEnd.{below_over, over_next}

-- the messages that a lane has made stay in its row
pub sent_stays : (s : ScenarioData) (w : World) (e : Event) (choices : List Bool) (k : ℕ) → Keeps (lane_at w k) (lane_at (happens s w e choices).world k)
sent_stays s w (Turn l) choices = by (next_of s w l)
  where
    by : (o : Option Payment) (k : ℕ) → Keeps (lane_at w k) (lane_at (turned_by w l choices o).world k)
    by None k = λ i message there. there
    by (Some p) k =
        at_set (λ (j : ℕ) (row : LaneRow). Keeps (lane_at w j) row) w.lanes l
        (lane_piece p (part_of w l p.planned.card) (choice_in choices 0) (choice_in choices 1)).part.lane new_lane
        (lane_keeps_sent p (part_of w l p.planned.card) (choice_in choices 0) (choice_in choices 1)) (λ j i message there. there) k
sent_stays s w (Settle n) choices = by (slice_get (settlements s w) n)
  where
    by : (o : Option Settlement) (k : ℕ) → Keeps (lane_at w k) (lane_at (settles s w choices o).world k)
    by None k = λ i message there. there
    by (Some (Opens l)) k =
        at_set (λ (j : ℕ) (row : LaneRow). Keeps (lane_at w j) row) w.lanes l _ new_lane (λ i message there. there) (λ j i message there. there) k
    by (Some (Sends l message drops)) k =
        at_set (λ (j : ℕ) (row : LaneRow). Keeps (lane_at w j) row) w.lanes l (lane_settled message drops (lane_at w l)) new_lane
        (λ i one there. append_first (lane_at w l).sent (message ∷ []) i one there) (λ j i one there. there) k
sent_stays s w (Audit n) choices = by (slice_get (checks s) n)
  where
    by : (o : Option Check) (k : ℕ) → Keeps (lane_at w k) (lane_at (audits w choices o).world k)
    by None k = λ i message there. there
    by (Some (PowersUp i card)) k = λ j message there. there
    by (Some (Asks i card command)) k = λ j message there. there

-- an event without truth values
no_values : (c : List Bool) → length c ≡ 0 → c ≡ []
no_values [] none = refl
no_values (b ∷ c) none = cc

-- whose a step is
step_is : (l : ℕ) (at : Settlement) → is_step_of l (Some at) ≡ (lane_in at == l)
step_is l (Opens lane) = refl
step_is l (Sends lane message drops) = refl

module _ (pans : List ℕ → Bool) (s : ScenarioData) (l : ℕ) where
  -- before their first events both agree
  pub first_parts : l < length s.lanes → PartsAgree pans s l (first_world s) (first_world (alone pans s l))
  first_parts inside = record {
    lane = get_or-map_const (alone pans s l).lanes l new_lane ∙ sym (get_or-map_const s.lanes l new_lane);
    others = λ k other. get_or-map_const (alone pans s l).lanes k new_lane;
    cards = λ i own. get_or-map_const (alone pans s l).cards i new_card ∙ sym (get_or-map_const s.cards i new_card);
    messages = refl;
    lane_count = length-map s.lanes (λ lane. new_lane);
    card_count = length-map s.cards (λ card. new_card);
    lanes_alone = length-map (alone pans s l).lanes (λ lane. new_lane) ∙ lanes_count pans s l inside;
    cards_alone = length-map (alone pans s l).cards (λ card. new_card);
  }

  -- what holds of the messages of a later world holds of those before it
  pub numbers_before : (w : World) (e : Event) (choices : List Bool) (lines : List Line) (after : World) → Step s w e choices lines after → HasOwnNumbers pans l after
      → HasOwnNumbers pans l w
  numbers_before w e choices lines after step numbers k i message there =
      subst (λ (x : World). HasOwnNumbers pans l x) step.leads numbers k i message (sent_stays s w e choices k i message there)

  -- a run of the lane alone has come to this place with these truth values, with its own of these lines, and agrees with this
  -- world
  pub record Lone (place : RunPlace) (taken : List Bool) (lines : List Line) (w : World) : Type 0 where
    pub count : ℕ
    pub reported : List Line
    pub world : World
    pub reached : Reached (alone pans s l) place count taken reported world
    pub told : reported ≡ filter (is_own pans s l) lines
    pub parts : PartsAgree pans s l w world

  -- with an event of its own, and with one of others
  follows : (here there : RunPlace) (taken : List Bool) (lines new : List Line) (w after : World) (e event : Event) (c : List Bool) → (lone : Lone here taken lines w)
      → Step s w e c new after
      → Both pans s l (happens s w e c) (happens (alone pans s l) lone.world event c)
      → ((made : List Line) (world : World) → Step (alone pans s l) lone.world event c made world
      → Reached (alone pans s l) there (lone.count + 1) (taken ++ c) (lone.reported ++ made) world)
      → Lone there (taken ++ c) (lines ++ new) after
  follows here there taken lines new w after e event c lone step both grows = record {
    count = lone.count + 1;
    reported = lone.reported ++ (happens (alone pans s l) lone.world event c).lines;
    world = (happens (alone pans s l) lone.world event c).world;
    reached = grows _ _ (record { taken = step.taken ∙ sym both.choices; made = refl; leads = refl });
    told =
        ap (λ (xs : List Line). xs ++ (happens (alone pans s l) lone.world event c).lines) lone.told
        ∙ ap (λ (xs : List Line). filter (is_own pans s l) lines ++ xs) (both.lines ∙ sym both.told ∙ ap (filter (is_own pans s l)) (sym step.made))
        ∙ sym (filter-append (is_own pans s l) lines new);
    parts = subst (λ (x : World). PartsAgree pans s l x (happens (alone pans s l) lone.world event c).world) (sym step.leads) both.parts;
  }

  remains : (here there : RunPlace) (taken : List Bool) (lines new : List Line) (w after : World) (e : Event) (c : List Bool) → (lone : Lone here taken lines w)
      → Step s w e c new after → Others pans s l (happens s w e c) lone.world
      → (Reached (alone pans s l) here lone.count taken lone.reported lone.world → Reached (alone pans s l) there lone.count taken lone.reported lone.world)
      → Lone there (taken ++ []) (lines ++ new) after
  remains here there taken lines new w after e c lone step others moves = subst (λ (cs : List Bool). Lone there cs (lines ++ new) after) (sym (append-nil taken)) (record {
    count = lone.count;
    reported = lone.reported;
    world = lone.world;
    reached = moves lone.reached;
    told =
        lone.told
        ∙ sym (append-nil (filter (is_own pans s l) lines))
        ∙ ap (λ (xs : List Line). filter (is_own pans s l) lines ++ xs) (sym others.none ∙ ap (filter (is_own pans s l)) (sym step.made))
        ∙ sym (filter-append (is_own pans s l) lines new);
    parts = subst (λ (x : World). PartsAgree pans s l x lone.world) (sym step.leads) others.parts;
  })

  elsewhere : (here there : RunPlace) (taken : List Bool) (lines : List Line) (w : World) → (lone : Lone here taken lines w)
      → (Reached (alone pans s l) here lone.count taken lone.reported lone.world → Reached (alone pans s l) there lone.count taken lone.reported lone.world)
      → Lone there taken lines w
  elsewhere here there taken lines w lone moves = record {
    count = lone.count;
    reported = lone.reported;
    world = lone.world;
    reached = moves lone.reached;
    told = lone.told;
    parts = lone.parts;
  }

  module _ (apart : StandApart) (inside : l < length s.lanes) (cards : HasOwnCards s l) where
    own_count : length (alone pans s l).lanes ≡ l + 1
    own_count = lanes_count pans s l inside

    -- the lanes of the run alone are over where the lane is
    module _ (w v : World) (agree : PartsAgree pans s l w v) where
      own_over : lane_over (alone pans s l) v l ≡ lane_over s w l
      own_over =
          ap (λ (row : LaneRow). is_none row.running && is_none (next_of (alone pans s l) v l)) agree.lane
          ∙ ap (λ (o : Option Payment). is_none (lane_at w l).running && is_none o) (next_alone pans s l apart inside w v agree [])
          ∙ ap (λ b. is_none (lane_at w l).running && b) (by (next_of s w l))
        where
          by : (o : Option Payment) → is_none (option_map (at_own pans) o) ≡ is_none o
          by None = refl
          by (Some p) = refl

      idle_over : (k : ℕ) → k ≢ l → lane_over (alone pans s l) v k ≡ true
      idle_over k other =
          and_from (is_none (lane_at v k).running) (is_none (next_of (alone pans s l) v k))
          (ap (λ (row : LaneRow). is_none row.running) (agree.others k other))
          (ap is_none (idle_payment pans s l k other (length (lane_at v k).ended)))

      over_alone : all_over s w ≡ true → all_over (alone pans s l) v ≡ true
      over_alone over = ap (all_below (alone pans s l) v) own_count ∙ below (l + 1)
        where
          each : (k : ℕ) → lane_over (alone pans s l) v k ≡ true
          each k = elim (cases_eq k l) [
            | inl this ↦ ap (lane_over (alone pans s l) v) this ∙ own_over ∙ below_over s w (length s.lanes) l inside over
            | inr other ↦ idle_over k other
          ]

          below : (n : ℕ) → all_below (alone pans s l) v n ≡ true
          below zero = refl
          below (suc n) = and_from (lane_over (alone pans s l) v n) (all_below (alone pans s l) v n) (each n) (below n)

    -- a turn of the lane is a whole round of the lane alone, or nothing where that is over
    module _ (taken : List Bool) (lines new : List Line) (w after : World) (c : List Bool) (lone : Lone (Round 0) taken lines w) (step : Step s w (Turn l) c new after)
        (numbers : HasOwnNumbers pans l after) where
      both : Both pans s l (happens s w (Turn l) c) (happens (alone pans s l) lone.world (Turn l) c)
      both =
          own_turn pans s l apart inside w lone.world lone.parts c (subst (λ (x : World). HasOwnNumbers pans l x) step.leads numbers)

      -- it has come to a lane before it
      record Comes (place : RunPlace) : Type 0 where
        pub count : ℕ
        pub reached : Reached (alone pans s l) place count taken lone.reported lone.world

      comes : all_over (alone pans s l) lone.world ≡ false → (n : ℕ) → n ≤ l → Comes (Round n)
      comes busy zero within = record { count = lone.count; reached = lone.reached }
      comes busy (suc n) within =
          let before : Comes (Round n) = comes busy n (omega (arith, within)) in
          let still = idle_turn pans s l apart inside w lone.world lone.parts [] n (λ same. omega (arith, same, within)) in
          record {
            count = before.count + 1;
            reached =
                subst (λ m. Reached (alone pans s l) (Round m) (before.count + 1) taken lone.reported lone.world)
                (let e : n + 1 ≡ suc n = omega arith in e)
                (subst (λ (cs : List Bool). Reached (alone pans s l) (Round (n + 1)) (before.count + 1) cs lone.reported lone.world) (append-nil taken)
                (subst (λ (xs : List Line). Reached (alone pans s l) (Round (n + 1)) (before.count + 1) (taken ++ []) xs lone.world)
                (append-nil lone.reported)
                (round before.reached (omega (arith, own_count, within)) (λ first. busy)
                (record {
                  taken = ap (λ (x : After). x.choices) (sym still);
                  made = ap (λ (x : After). x.lines) (sym still);
                  leads = ap (λ (x : After). x.world) (sym still);
                }))));
          }

      goes_round : all_over (alone pans s l) lone.world ≡ false → Lone (Round 0) (taken ++ c) (lines ++ new) after
      goes_round busy =
          let here : Comes (Round l) = comes busy l (omega arith) in
          follows (Round l) (Round 0) taken lines new w after (Turn l) (Turn l) c
          (record {
            count = here.count;
            reported = lone.reported;
            world = lone.world;
            reached = here.reached;
            told = lone.told;
            parts = lone.parts;
          })
          step both
          (λ made world next.
          again (subst (λ n. Reached (alone pans s l) (Round n) (here.count + 1) (taken ++ c) (lone.reported ++ made) world) (sym own_count)
          (round here.reached (omega (arith, own_count)) (λ first. busy) next)))

      stays_over : all_over (alone pans s l) lone.world ≡ true → Lone (Round 0) (taken ++ c) (lines ++ new) after
      stays_over over =
          let none : next_of (alone pans s l) lone.world l ≡ None =
          over_next (alone pans s l) lone.world l (below_over (alone pans s l) lone.world (length (alone pans s l).lanes) l (omega (arith, own_count)) over) in
          let still : happens (alone pans s l) lone.world (Turn l) c ≡ no_event lone.world =
          ap (λ (o : Option Payment). turned_by lone.world l c o) none in
          let none_taken : length c ≡ 0 = step.taken ∙ sym both.choices ∙ ap (λ (x : After). x.choices) still in
          subst (λ (cs : List Bool). Lone (Round 0) (taken ++ cs) (lines ++ new) after) (sym (no_values c none_taken))
          (remains (Round 0) (Round 0) taken lines new w after (Turn l) c lone step
          (record {
            none = both.told ∙ sym both.lines ∙ ap (λ (x : After). x.lines) still;
            parts = subst (λ (x : World). PartsAgree pans s l (happens s w (Turn l) c).world x) (ap (λ (x : After). x.world) still) both.parts;
          })
          (λ far. far))

      goes_own : Lone (Round 0) (taken ++ c) (lines ++ new) after
      goes_own = by (all_over (alone pans s l) lone.world) refl
        where
          by : (b : Bool) → all_over (alone pans s l) lone.world ≡ b → Lone (Round 0) (taken ++ c) (lines ++ new) after
          by true is = stays_over is
          by false is = goes_round is

    turns : (k : ℕ) (taken : List Bool) (lines new : List Line) (w after : World) (c : List Bool) → Lone (Round 0) taken lines w → Step s w (Turn k) c new after
        → HasOwnNumbers pans l after → Lone (Round 0) (taken ++ own_values (k == l) c) (lines ++ new) after
    turns k taken lines new w after c lone step numbers = elim (cases_eq k l) [
      | inl this ↦
          subst (λ (b : Bool). Lone (Round 0) (taken ++ own_values b c) (lines ++ new) after) (sym (eq-eqb k l this))
          (goes_own taken lines new w after c lone (subst (λ n. Step s w (Turn n) c new after) this step) numbers)
      | inr other ↦
          subst (λ (b : Bool). Lone (Round 0) (taken ++ own_values b c) (lines ++ new) after) (sym (ne_eqb k l other))
          (remains (Round 0) (Round 0) taken lines new w after (Turn k) c lone step
          (other_turn pans s l apart inside w lone.world lone.parts c cards k other (subst (λ (x : World). HasOwnNumbers pans l x) step.leads numbers))
          (λ far. far))
    ]

    module _ (fits : IsScenario s) where
      -- how many of the checks before this one are of the lane's cards
      abbrev own_checks : ℕ → ℕ
      own_checks k = passed (is_on (is_card_of s l)) (checks s) k

      settles_on : (k : ℕ) (taken : List Bool) (lines new : List Line) (w after : World) (c : List Bool) (at : Settlement)
          → Lone (Settling (own_steps s w l k)) taken lines w
          → slice_get (settlements s w) k ≡ Some at → Step s w (Settle k) c new after → HasOwnNumbers pans l after
          → Lone (Settling (own_steps s after l (k + 1))) (taken ++ own_values (is_step_of l (Some at)) c) (lines ++ new) after
      settles_on k taken lines new w after c at lone here step numbers = elim (cases_eq (lane_in at) l) [
        | inl this ↦
            (let own : OwnStep s w k l fits.tables.one_copy within c at = own_step s w k l fits.tables.one_copy within c at here this in
            let here_alone : slice_get (settlements (alone pans s l) lone.world) (own_steps s w l k) ≡ Some at =
            ap (λ (xs : List Settlement). slice_get xs (own_steps s w l k)) (alone_steps pans s l w lone.world lone.parts) ∙ own.inner in
            let next : own_steps s after l (k + 1) ≡ own_steps s w l k + 1 =
            ap (λ (x : World). own_steps s x l (k + 1)) leads ∙ own.next in
            subst (λ (b : Bool). Lone (Settling (own_steps s after l (k + 1))) (taken ++ own_values b c) (lines ++ new) after) (sym (step_is l at ∙ eq-eqb (lane_in at) l this))
            (subst (λ n. Lone (Settling n) (taken ++ c) (lines ++ new) after) (sym next)
            (follows (Settling (own_steps s w l k)) (Settling (own_steps s w l k + 1)) taken lines new w after (Settle k) (Settle (own_steps s w l k)) c lone step
            (subst (λ (x : After). Both pans s l x (happens (alone pans s l) lone.world (Settle (own_steps s w l k)) c)) (sym is)
            (subst (λ (o : Option Settlement). Both pans s l (settles s w c (Some at)) (settles (alone pans s l) lone.world c o)) (sym here_alone)
            (own_settles pans s l w lone.world lone.parts apart inside c at this numbers_so)))
            (λ made world one. settling lone.reached here_alone one))))
        | inr other ↦
            (let next : own_steps s after l (k + 1) ≡ own_steps s w l k =
            ap (λ (x : World). own_steps s x l (k + 1)) leads ∙ other_step s w k l fits.tables.one_copy within c at here other in
            subst (λ (b : Bool). Lone (Settling (own_steps s after l (k + 1))) (taken ++ own_values b c) (lines ++ new) after) (sym (step_is l at ∙ ne_eqb (lane_in at) l other))
            (subst (λ n. Lone (Settling n) (taken ++ []) (lines ++ new) after) (sym next)
            (remains (Settling (own_steps s w l k)) (Settling (own_steps s w l k)) taken lines new w after (Settle k) c lone step
            (subst (λ (x : After). Others pans s l x lone.world) (sym is)
            (other_settles pans s l w lone.world lone.parts apart inside c at other (settles_inside s w.lanes k at here) numbers_so))
            (λ far. far))))
      ]
        where
          within : l < length w.lanes
          within = omega (arith, inside, lone.parts.lane_count)

          is : happens s w (Settle k) c ≡ settles s w c (Some at)
          is = ap (λ (o : Option Settlement). settles s w c o) here

          leads : after ≡ (settles s w c (Some at)).world
          leads = step.leads ∙ ap (λ (x : After). x.world) is

          numbers_so : HasOwnNumbers pans l (settles s w c (Some at)).world
          numbers_so = subst (λ (x : World). HasOwnNumbers pans l x) leads numbers

      audits_on : (k : ℕ) (taken : List Bool) (lines new : List Line) (w after : World) (c : List Bool) (check : Check) → Lone (Auditing (own_checks k)) taken lines w
          → slice_get (checks s) k ≡ Some check → Step s w (Audit k) c new after
          → Lone (Auditing (own_checks (k + 1))) (taken ++ own_values (is_check_of (is_card_of s l) (Some check)) c) (lines ++ new) after
      audits_on k taken lines new w after c check lone here step = by (is_on (is_card_of s l) check) refl
        where
          is : happens s w (Audit k) c ≡ audits w c (Some check)
          is = ap (λ (o : Option Check). audits w c o) here

          by : (b : Bool) → is_on (is_card_of s l) check ≡ b → Lone (Auditing (own_checks (k + 1))) (taken ++ own_values (is_on (is_card_of s l) check) c) (lines ++ new) after
          by true its =
              let own = passed_own (is_on (is_card_of s l)) (checks s) k check here its in
              let here_alone : slice_get (checks (alone pans s l)) (own_checks k) ≡ Some check =
              ap (λ (xs : List Check). slice_get xs (own_checks k)) (alone_checks pans s l) ∙ own.0 in
              subst (λ (b : Bool). Lone (Auditing (own_checks (k + 1))) (taken ++ own_values b c) (lines ++ new) after) (sym its)
              (subst (λ n. Lone (Auditing n) (taken ++ c) (lines ++ new) after) (sym own.1)
              (follows (Auditing (own_checks k)) (Auditing (own_checks k + 1)) taken lines new w after (Audit k) (Audit (own_checks k)) c lone step
              (subst (λ (x : After). Both pans s l x (happens (alone pans s l) lone.world (Audit (own_checks k)) c)) (sym is)
              (subst (λ (o : Option Check). Both pans s l (audits w c (Some check)) (audits lone.world c o)) (sym here_alone)
              (own_audits pans s l w lone.world lone.parts c fits k check here its)))
              (λ made world one. auditing lone.reached here_alone one)))
          by false isnt =
              subst (λ (b : Bool). Lone (Auditing (own_checks (k + 1))) (taken ++ own_values b c) (lines ++ new) after) (sym isnt)
              (subst (λ n. Lone (Auditing n) (taken ++ []) (lines ++ new) after) (sym (passed_other (is_on (is_card_of s l)) (checks s) k check here isnt))
              (remains (Auditing (own_checks k)) (Auditing (own_checks k)) taken lines new w after (Audit k) c lone step
              (subst (λ (x : After). Others pans s l x lone.world) (sym is)
              (other_audits pans s l w lone.world lone.parts c fits k check here isnt))
              (λ far. far)))

      -- the place of the lane alone
      abbrev LoneAt : RunPlace → List Bool → List Line → World → Type 0
      LoneAt (Scheduled k) taken lines w = Lone (Round 0) taken lines w
      LoneAt (Round k) taken lines w = Lone (Round 0) taken lines w
      LoneAt (Settling k) taken lines w = Lone (Settling (own_steps s w l k)) taken lines w
      LoneAt (Auditing k) taken lines w = Lone (Auditing (own_checks k)) taken lines w
      LoneAt Finished taken lines w = Lone Finished taken lines w

      pub far : (place : RunPlace) (n : ℕ) (choices : List Bool) (lines : List Line) (w : World) → (reached : Reached s place n choices lines w) → HasOwnNumbers pans l w
          → LoneAt place (own_choices s l place n choices lines w reached) lines w
      unfolding own_choices
      far _ _ _ _ _ start numbers = record {
        count = 0;
        reported = [];
        world = first_world (alone pans s l);
        reached = rounds start;
        told = refl;
        parts = first_parts inside;
      }
      far _ _ _ _ _ (scheduled {l = k} {n} {cs} {c} {ls} {new} {w = v} {w' = v'} before at step) numbers =
          turns k (own_choices s l _ n cs ls v before) ls new v v' c (far _ n cs ls v before (numbers_before v (Turn k) c new v' step numbers)) step numbers
      far _ _ _ _ _ (rounds {n} {cs} {ls} {w = v} before) numbers = far _ n cs ls v before numbers
      far _ _ _ _ _ (round {l = k} {n} {cs} {c} {ls} {new} {w = v} {w' = v'} before within busy step) numbers =
          turns k (own_choices s l _ n cs ls v before) ls new v v' c (far _ n cs ls v before (numbers_before v (Turn k) c new v' step numbers)) step numbers
      far _ _ _ _ _ (again {n} {cs} {ls} {w = v} before) numbers = far _ n cs ls v before numbers
      far _ _ _ _ _ (settlement {n} {cs} {ls} {w = v} before over) numbers =
          let taken : List Bool = own_choices s l _ n cs ls v before in
          let lone : Lone (Round 0) taken ls v = far _ n cs ls v before numbers in
          subst (λ k. Lone (Settling k) taken ls v) (sym (first_steps s v l))
          (elsewhere (Round 0) (Settling 0) taken ls v lone (λ there. settlement there (over_alone v lone.world lone.parts over)))
      far _ _ _ _ _ (settling {k} {n} {cs} {c} {ls} {new} {w = v} {w' = v'} {at} before here step) numbers =
          settles_on k (own_choices s l _ n cs ls v before) ls new v v' c at (far _ n cs ls v before (numbers_before v (Settle k) c new v' step numbers)) here step numbers
      far _ _ _ _ _ (audit {k} {n} {cs} {ls} {w = v} before past) numbers =
          let taken : List Bool = own_choices s l _ n cs ls v before in
          let lone : Lone (Settling (own_steps s v l k)) taken ls v = far _ n cs ls v before numbers in
          subst (λ m. Lone (Auditing m) taken ls v) (sym (passed_none (is_on (is_card_of s l)) (checks s)))
          (elsewhere (Settling (own_steps s v l k)) (Auditing 0) taken ls v lone
          (λ there. audit there (ap (λ (xs : List Settlement). slice_get xs (own_steps s v l k)) (alone_steps pans s l v lone.world lone.parts)
          ∙ steps_end s v k l fits.tables.one_copy (omega (arith, inside, lone.parts.lane_count)) past)))
      far _ _ _ _ _ (auditing {k} {n} {cs} {c} {ls} {new} {w = v} {w' = v'} {check} before here step) numbers =
          audits_on k (own_choices s l _ n cs ls v before) ls new v v' c check (far _ n cs ls v before (numbers_before v (Audit k) c new v' step numbers)) here step
      far _ _ _ _ _ (finished {k} {n} {cs} {ls} {w = v} before past) numbers =
          let taken : List Bool = own_choices s l _ n cs ls v before in
          let lone : Lone (Auditing (own_checks k)) taken ls v = far _ n cs ls v before numbers in
          elsewhere (Auditing (own_checks k)) Finished taken ls v lone
          (λ there. finished there (ap (λ (xs : List Check). slice_get xs (own_checks k)) (alone_checks pans s l)
          ∙ passed_past (is_on (is_card_of s l)) (checks s) k past))
