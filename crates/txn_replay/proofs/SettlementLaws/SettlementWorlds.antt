-- A value and its world behind a step of the settlement.
-- A store is opened, a capture is sent, or a store's first message, and all else stays.
use Rattle.std.proofs.Common.{◌≡◌, ℕ, zero, suc, ◌&&◌, ◌+◌, ◌-◌, ◌/◌, ◌≤◌, ◌<◌, Bool, true, false, List, [], ◌∷◌, ◌++◌, length, drop, get_or, set, slice_get, Option, Some, None, refl, sym, ap, ◌∙◌, subst, inl, inr, arith, append-nil}
use Rattle.std.specs.List.{All}
use Rattle.std.specs.Prelude.{is_some, option_map, unwrap_or}
use Rattle.std.proofs.lemmas.Bool.{cases_eq}
use Rattle.std.proofs.lemmas.List.Elements.{All-drop, All-head, All-push}
use Rattle.std.proofs.lemmas.Option.{same_Some, slice_get_within, get_or_from_slice_get, slice_get-get_or}
use Rattle.auth_message.specs.Whole.{IsMessage}
use Rattle.capture_store.specs.Calls.{Call, list_found}
use Rattle.capture_store.specs.SeenLaneStore.{LaneStoreSeen, LaneStoreOn, LaneStoreOff, store_losses}
use Rattle.capture_store.specs.StoreRow.{StoreRow, opened_to_settle}
use Rattle.emv_ports.specs.declared.tear.Tear.{Tear}
use Rattle.issuer_host.specs.History.{HostData, HostStands, host_reply}
use Rattle.report_text.specs.declared.line.Line.{Line}
use Rattle.scenario_plan.specs.Cards.{CardData}
use Rattle.scenario_plan.specs.Plan.{ScenarioData, IsScenario}
use Rattle.scenario_lanes.specs.Plan.{LaneData}
use Rattle.txn_replay.specs.Counting.{counts}
use Rattle.txn_replay.specs.Lines.{settle_lines}
use Rattle.txn_replay.specs.Payment.{Payment, payment_in, dialect_of, durable_of}
use Rattle.txn_replay.specs.Run.{all_over}
use Rattle.txn_replay.specs.Seen.{WorldSeen, RunCardStands, terminal_plan, LaneStoreAt, RunFor, LaneAt, WorldStands, EventHasLed, is_lane_done, done_below}
use Rattle.txn_replay.specs.Settling.{LanesKeep}
use Rattle.txn_replay.specs.RunCard.{RunCardSeen}
use Rattle.txn_replay.specs.Standing.{LaneKeeps, LaneFits, StorePlace, StoreStands, LaneStoreFor}
use Rattle.txn_replay.specs.Steps.{Settlement, Opens, Sends, choice_in, settlements, settled_store, lane_settled, settles, no_event, happens}
use Rattle.txn_replay.specs.Stored.{IsUnopened, IsThrough, IsSettledTo}
use Rattle.txn_replay.specs.World.{LaneRow, World, new_lane, card_at, lane_at, with_store}
use Rattle.txn_replay.specs.declared.event.Event.TheVariants.{Settle}
use Rattle.txn_replay.specs.declared.lane.Lane.{Lane}
use Rattle.txn_replay.proofs.RunLaws.FewEvents.{like_few, few_of, settlements_few}
use Rattle.txn_replay.proofs.RunLaws.EventsLead.{leads_on, run_card_stays}
use Rattle.txn_replay.proofs.Lists.{at_set, set_both, set_other, drop_at}
use Rattle.txn_replay.proofs.ExchangeLaws.PurchaseFacts.{some_of_all}
use Rattle.txn_replay.proofs.SettlementLaws.SettlementPlaces.{OpensAt, StoreSends, SendsBy, before_lane, opens_at, sends_at}
use Rattle.txn_replay.proofs.ExchangeLaws.LaneMessages.{LanesLike, settle_like}
use Rattle.txn_replay.proofs.SettlementLaws.SettlementSteps.{IsOfStore, StepOf, durable_steps, lane_in, settles_inside, step_of}
use Rattle.txn_replay.proofs.RunLaws.SoundWorlds.{settled_sound}
use Rattle.txn_replay.proofs.StoreLaws.StoreFirst.{keeps_with}
use Rattle.txn_replay.proofs.StoreLaws.StoresKept.{few_found, settle_stand}
use Rattle.txn_replay.proofs.ExchangeLaws.PurchasesCounted.{counts_with}
use Rattle.txn_replay.proofs.RunLaws.TurnsEnd.{below_over, over_next}

-- a lane that keeps what it kept, with another store and other messages made for the host
at_with : (s : ScenarioData) (l : ℕ) (lane : Lane) (row : LaneRow) (sent : List (List ℕ)) (store : StoreRow) → LaneAt s l lane row → All IsMessage sent
    → ((found : Bool) → All IsMessage (list_found store.list store.lost found)) → lane.found ≡ option_map length store.found
    → LaneAt s l lane (record row { sent = sent; store = store })
at_with s l lane row sent store at messages stored found = record {
  keeps = keeps_with lane row sent store at.keeps messages stored found;
  runs = runs_so (payment_in s l (length row.ended)) at.runs;
}
  where
    runs_so : (o : Option Payment) → RunFor lane row o → RunFor lane (record row { sent = sent; store = store }) o
    runs_so None run = run
    runs_so (Some p) run = run

-- a lane that knows how many messages its opening has found
at_found : (s : ScenarioData) (l : ℕ) (lane : Lane) (row : LaneRow) (found : Option ℕ) (store : StoreRow) → LaneAt s l lane row
    → ((one : Bool) → All IsMessage (list_found store.list store.lost one)) → found ≡ option_map length store.found
    → LaneAt s l (record lane { found = found }) (with_store store row)
at_found s l lane row found store at stored is = record {
  keeps = record {
    ended = at.keeps.ended;
    log = at.keeps.log;
    amounts = at.keeps.amounts;
    captures = at.keeps.captures;
    messages = at.keeps.messages;
    sent = at.keeps.sent;
    stored = stored;
    found = is;
    card = at.keeps.card;
    ending = at.keeps.ending;
  };
  runs = runs_so (payment_in s l (length row.ended)) at.runs;
}
  where
    runs_so : (o : Option Payment) → RunFor lane row o → RunFor (record lane { found = found }) (with_store store row) o
    runs_so None run = run
    runs_so (Some p) run = run

module _ (v : WorldSeen) (w : World) (stands : WorldStands v w) where
  pub rows_are : length v.lanes ≡ length v.scenario.lanes → LanesKeep v.lanes w.lanes
  rows_are count = record {
    count = count ∙ sym stands.sound.lane_count;
    keeps = λ l lane row there row_there.
        subst (λ (r : LaneRow). LaneKeeps lane r) (get_or_from_slice_get w.lanes l row new_lane row_there) (stands.lanes l lane there).keeps;
  }

  -- no event where none is left
  pub none_settles : (k : ℕ) → slice_get (settlements v.scenario w) k ≡ None → EventHasLed v w (Settle k) []
  none_settles k none =
      leads_on v w (Settle k) [] [] (no_event w) (ap (λ (o : Option Settlement). settles v.scenario w [] o) none) refl refl stands

  pub settled_few : IsScenario v.scenario → (k : ℕ) (at : Settlement) → slice_get (settlements v.scenario w) k ≡ Some at → k < 30352
  settled_few fits k at here =
      let within : k < length (settlements v.scenario w) = slice_get_within (settlements v.scenario w) k at here in
      let few : length (settlements v.scenario w) ≤ 30352 =
      settlements_few v.scenario w fits
      (few_of v.scenario w stands.sound stands.few (λ l. few_found (durable_of v.scenario l) (lane_at w l) (stands.stored.lanes l))) in
      omega arith

  -- no lane has captured more messages than all of them have purchases
  pub captured_few : IsScenario v.scenario → All (λ lane. length lane.captures.messages ≤ 10000) v.lanes
  captured_few fits = λ l d within.
      (let lane : Lane = get_or v.lanes l d in
      let keeps : LaneKeeps lane (lane_at w l) = (stands.lanes l lane (slice_get-get_or v.lanes l d within)).keeps in
      let count : length lane.captures.messages ≡ length (lane_at w l).captures = ap (λ (xs : List (List ℕ)). length xs) keeps.captures in
      let few = stands.few l in
      omega (arith, count, few.captures, few.ended, some_of_all v.scenario.lanes l, fits.tables.few_purchases))

  -- what a lane has captured are messages
  pub settles_message : (k l : ℕ) (message : List ℕ) (drops : Bool) → slice_get (settlements v.scenario w) k ≡ Some (Sends l message drops)
      → durable_of v.scenario l ≡ false → (lane : Lane) → slice_get v.lanes l ≡ Some lane → IsMessage message
  settles_message k l message drops here off lane there =
      let one : StepOf v.scenario 0 w.lanes (Sends l message drops) = step_of v.scenario 0 w.lanes k (Sends l message drops) here in
      let same : l ≡ one.place = (let e : l ≡ 0 + one.place = one.of_it.lane_is in omega arith) in
      let row_is : one.row ≡ lane_at w l = sym (ap (λ n. lane_at w n) same ∙ get_or_from_slice_get w.lanes one.place one.row new_lane one.there) in
      let captured = one.of_it.captured (ap (λ n. durable_of v.scenario n) (sym one.of_it.lane_is) ∙ off) in
      let here_too : slice_get (lane_at w l).captures captured.0 ≡ Some message = ap (λ (r : LaneRow). slice_get r.captures captured.0) (sym row_is) ∙ captured.1 in
      subst IsMessage (get_or_from_slice_get (lane_at w l).captures captured.0 message message here_too)
      ((stands.lanes l lane there).keeps.messages captured.0 message (slice_get_within (lane_at w l).captures captured.0 message here_too))

  -- every purchase is over
  module _ (over : all_over v.scenario w ≡ true) where
    no_plan : (l : ℕ) → l < length v.scenario.lanes → terminal_plan (payment_in v.scenario l (length (lane_at w l).ended)) ≡ None
    no_plan l inside = ap terminal_plan (over_next v.scenario w l (below_over v.scenario w (length v.scenario.lanes) l inside over))

    module _ (choices : List Bool) (k : ℕ) (at : Settlement) (here : slice_get (settlements v.scenario w) k ≡ Some at) where
      abbrev after : World
      after = (settles v.scenario w choices (Some at)).world

      like : LanesLike after w
      like = settle_like v.scenario w choices (Some at)

      run_cards_stay : (i : ℕ) (run_card : RunCardSeen) (card : CardData) → slice_get v.run_cards i ≡ Some run_card → slice_get v.scenario.cards i ≡ Some card
          → RunCardStands v.scenario after run_card card (card_at after i)
      run_cards_stay i run_card card there is = by at
        where
          by : (x : Settlement) → RunCardStands v.scenario (settles v.scenario w choices (Some x)).world run_card card (card_at (settles v.scenario w choices (Some x)).world i)
          by (Opens l) =
              run_card_stays v.scenario w (settles v.scenario w choices (Some (Opens l))).world (settle_like v.scenario w choices (Some (Opens l)))
              run_card card (card_at w i) (stands.run_cards i run_card card there is)
          by (Sends l message drops) =
              run_card_stays v.scenario w (settles v.scenario w choices (Some (Sends l message drops))).world
              (settle_like v.scenario w choices (Some (Sends l message drops))) run_card card (card_at w i) (stands.run_cards i run_card card there is)

      inside : lane_in at < length w.lanes
      inside = settles_inside v.scenario w.lanes k at here

      tally_stays : counts after ≡ counts w
      tally_stays = by at inside
        where
          by : (x : Settlement) → lane_in x < length w.lanes → counts (settles v.scenario w choices (Some x)).world ≡ counts w
          by (Opens l) within =
              counts_with w (settles v.scenario w choices (Some (Opens l))).world l (with_store (opened_to_settle (lane_at w l).store (choice_in choices 0)) (lane_at w l)) []
              within refl (sym (append-nil (lane_at w l).ended)) tt
          by (Sends l message drops) within =
              counts_with w (settles v.scenario w choices (Some (Sends l message drops))).world l (lane_settled message drops (lane_at w l)) [] within refl
              (sym (append-nil (lane_at w l).ended)) tt

      -- lanes and stores that stand for what this step leaves
      pub step_stands : (lanes : List Lane) (lane_stores : List LaneStoreSeen) (host : HostData)
          → ((j : ℕ) (x : Lane) → slice_get lanes j ≡ Some x → LaneAt v.scenario j x (lane_at after j))
          → ((j : ℕ) (x : LaneStoreSeen) → slice_get lane_stores j ≡ Some x → LaneStoreAt v.scenario j x (lane_at after j))
          → HostStands host after.messages → WorldStands (record v { lanes = lanes; lane_stores = lane_stores; host = host }) after
      step_stands lanes lane_stores host lanes_stand lane_stores_stand messages = record {
        sound = settled_sound v.scenario w choices (Some at) stands.sound;
        few = like_few v.scenario w after like stands.few;
        run_cards = run_cards_stay;
        lanes = lanes_stand;
        lane_stores = lane_stores_stand;
        stored = settle_stand v.scenario w choices (Some at)
            (λ x is. subst (IsOfStore v.scenario w) (same_Some at x is) (durable_steps v.scenario w k at here)) over stands.stored;
        messages = messages;
        tally = stands.tally ∙ sym tally_stays;
      }

      -- the event itself
      pub step_goes : (value : WorldSeen) (lines : List Line) → value.scenario ≡ v.scenario → WorldStands value after
          → length choices ≡ (settles v.scenario w choices (Some at)).choices → lines ≡ (settles v.scenario w choices (Some at)).lines
          → EventHasLed value w (Settle k) lines
      step_goes value lines same stand taken made =
          let so : happens value.scenario w (Settle k) choices ≡ settles v.scenario w choices (Some at) =
          ap (λ (s : ScenarioData). happens s w (Settle k) choices) same ∙ ap (λ (o : Option Settlement). settles v.scenario w choices o) here in
          leads_on value w (Settle k) choices lines (settles v.scenario w choices (Some at)) so taken made stand

    -- a lane's store is opened
    module _ (k l : ℕ) (lane : Lane) (lane_store : LaneStoreSeen) (here : slice_get (settlements v.scenario w) k ≡ Some (Opens l)) (some : 1 ≤ v.scenario.copies)
        (through : IsSettledTo v.scenario w k) (lane_there : slice_get v.lanes l ≡ Some lane) (lane_store_there : slice_get v.lane_stores l ≡ Some lane_store) where
      abbrev store : StoreRow
      store = (lane_at w l).store

      at : OpensAt v.scenario w k l
      at = opens_at v.scenario w k l some here

      unopened : IsUnopened store
      unopened = through.before l at.on (omega (arith, at.is))

      own : StoreStands lane_store (lane_at w l) (terminal_plan (payment_in v.scenario l (length (lane_at w l).ended)))
      own =
          subst (λ (b : Bool). LaneStoreFor lane_store (lane_at w l) (terminal_plan (payment_in v.scenario l (length (lane_at w l).ended))) b) at.on
          (stands.lane_stores l lane_store lane_store_there)

      pub off_to_settle : LaneStoreOff lane_store store
      off_to_settle =
          subst (λ (o : Option ℕ). StorePlace lane_store store (terminal_plan (payment_in v.scenario l (length (lane_at w l).ended))) o) unopened.off own.place

      inside_lane : l < length v.scenario.lanes
      inside_lane =
          let a : l < length w.lanes = settles_inside v.scenario w.lanes k (Opens l) here in
          let b : length w.lanes ≡ length v.scenario.lanes = stands.sound.lane_count in omega arith

      pub opens_goes : (later : Lane) (behind : LaneStoreSeen) (found : Bool) → LaneStoreOn behind (opened_to_settle store found) None
          → later.found ≡ Some (length (opened_to_settle store found).list) → store_losses behind ≡ store_losses lane_store → later ≡ record lane { found = later.found }
          → EventHasLed (record v { lanes = set v.lanes l later; lane_stores = set v.lane_stores l behind }) w (Settle k) []
      opens_goes later behind found on found_is losses same =
          step_goes (found ∷ []) k (Opens l) here (record v { lanes = set v.lanes l later; lane_stores = set v.lane_stores l behind }) [] refl
          (step_stands (found ∷ []) k (Opens l) here (set v.lanes l later) (set v.lane_stores l behind) v.host lanes_after lane_stores_after stands.messages) refl refl
        where
          row : LaneRow
          row = with_store (opened_to_settle store found) (lane_at w l)

          within : l < length w.lanes
          within = settles_inside v.scenario w.lanes k (Opens l) here

          lane_at_it : LaneAt v.scenario l later row
          lane_at_it =
              subst (λ (x : Lane). LaneAt v.scenario l x row) (sym same)
              (at_found v.scenario l lane (lane_at w l) later.found (opened_to_settle store found) (stands.lanes l lane lane_there)
              (λ one. (stands.lanes l lane lane_there).keeps.stored found) found_is)

          lanes_after : (j : ℕ) (x : Lane) → slice_get (set v.lanes l later) j ≡ Some x
              → LaneAt v.scenario j x (lane_at (settles v.scenario w (found ∷ []) (Some (Opens l))).world j)
          lanes_after = set_both (λ j x r. LaneAt v.scenario j x r) v.lanes w.lanes l later row new_lane within lane_at_it stands.lanes

          lane_store_at_it : LaneStoreAt v.scenario l behind row
          lane_store_at_it =
              subst (λ (b : Bool). LaneStoreFor behind row (terminal_plan (payment_in v.scenario l (length (lane_at w l).ended))) b) (sym at.on)
              (record {
                place = subst (λ (plan : Option Tear). LaneStoreOn behind (opened_to_settle store found) plan) (sym (no_plan l inside_lane)) on;
                losses = losses ∙ own.losses;
              })

          lane_stores_after : (j : ℕ) (x : LaneStoreSeen) → slice_get (set v.lane_stores l behind) j ≡ Some x
              → LaneStoreAt v.scenario j x (lane_at (settles v.scenario w (found ∷ []) (Some (Opens l))).world j)
          lane_stores_after = set_both (λ j x r. LaneStoreAt v.scenario j x r) v.lane_stores w.lanes l behind row new_lane within lane_store_at_it stands.lane_stores

    -- a message is sent
    module _ (k l : ℕ) (message : List ℕ) (drops : Bool) (here : slice_get (settlements v.scenario w) k ≡ Some (Sends l message drops))
        (some : 1 ≤ v.scenario.copies) where
      abbrev sent_row : LaneRow
      sent_row = lane_settled message drops (lane_at w l)

      abbrev sent_world : World
      sent_world = (settles v.scenario w [] (Some (Sends l message drops))).world

      within_lanes : l < length w.lanes
      within_lanes = settles_inside v.scenario w.lanes k (Sends l message drops) here

      -- by the lane's row, whose terminal is as it was
      rows_after : ((x : Lane) → slice_get v.lanes l ≡ Some x → LaneAt v.scenario l x sent_row)
          → (j : ℕ) (x : Lane) → slice_get v.lanes j ≡ Some x → LaneAt v.scenario j x (lane_at sent_world j)
      rows_after own j =
          at_set (λ (i : ℕ) (r : LaneRow). (x : Lane) → slice_get v.lanes i ≡ Some x → LaneAt v.scenario i x r) w.lanes l sent_row new_lane own stands.lanes j

      -- one that a lane has captured
      pub plain_goes : (host : HostData) → HostStands host (w.messages ++ message ∷ []) → durable_of v.scenario l ≡ false → (lines : List Line)
          → lines ≡ settle_lines (dialect_of v.scenario l) l message (host_reply v.scenario.issuer v.scenario.accounts w.messages message)
          → EventHasLed (record v { host = host }) w (Settle k) lines
      plain_goes host messages off lines made =
          step_goes [] k (Sends l message drops) here (record v { host = host }) lines refl
          (step_stands [] k (Sends l message drops) here v.lanes v.lane_stores host (rows_after lane_own) lane_stores_after messages) refl made
        where
          none_dropped : drops ≡ false
          none_dropped = subst (λ (b : Bool). SendsBy v.scenario w k l message drops b) off (sends_at v.scenario w k l message drops some here)

          store_is : (settled_store drops (lane_at w l).store) ≡ (lane_at w l).store
          store_is = ap (λ (b : Bool). settled_store b (lane_at w l).store) none_dropped

          lane_own : (x : Lane) → slice_get v.lanes l ≡ Some x → LaneAt v.scenario l x sent_row
          lane_own x there =
              subst (λ (store : StoreRow). LaneAt v.scenario l x (record (lane_at w l) { sent = (lane_at w l).sent ++ message ∷ []; store = store })) (sym store_is)
              (at_with v.scenario l x (lane_at w l) ((lane_at w l).sent ++ message ∷ []) (lane_at w l).store (stands.lanes l x there)
              (All-push IsMessage (lane_at w l).sent message (stands.lanes l x there).keeps.sent (settles_message k l message drops here off x there))
              (stands.lanes l x there).keeps.stored (stands.lanes l x there).keeps.found)

          -- a lane without a store has none afterwards
          lane_store_own : (x : LaneStoreSeen) → slice_get v.lane_stores l ≡ Some x → LaneStoreAt v.scenario l x sent_row
          lane_store_own x there =
              subst (λ (b : Bool). LaneStoreFor x sent_row (terminal_plan (payment_in v.scenario l (length (lane_at w l).ended))) b) (sym off)
              (subst (λ (b : Bool). LaneStoreFor x (lane_at w l) (terminal_plan (payment_in v.scenario l (length (lane_at w l).ended))) b) off (stands.lane_stores l x there))

          lane_stores_after : (j : ℕ) (x : LaneStoreSeen) → slice_get v.lane_stores j ≡ Some x → LaneStoreAt v.scenario j x (lane_at sent_world j)
          lane_stores_after j =
              at_set (λ (i : ℕ) (r : LaneRow). (x : LaneStoreSeen) → slice_get v.lane_stores i ≡ Some x → LaneStoreAt v.scenario i x r) w.lanes l sent_row new_lane
              lane_store_own stands.lane_stores j

      -- one of a store
      module _ (lane : Lane) (lane_store : LaneStoreSeen) (on : durable_of v.scenario l ≡ true) (through : IsSettledTo v.scenario w k)
          (lane_there : slice_get v.lanes l ≡ Some lane) (lane_store_there : slice_get v.lane_stores l ≡ Some lane_store) where
        abbrev open_store : StoreRow
        open_store = (lane_at w l).store

        sends : StoreSends v.scenario w k l message drops
        sends = subst (λ (b : Bool). SendsBy v.scenario w k l message drops b) on (sends_at v.scenario w k l message drops some here)

        reached : IsThrough open_store v.scenario.copies (k - before_lane v.scenario w l - 1)
        reached = through.behind l on (omega (arith, sends.is))

        place_is : k - before_lane v.scenario w l - 1 ≡ sends.place
        place_is = omega (arith, sends.is)

        left : open_store.list ≡ drop (sends.place / v.scenario.copies) reached.found
        left = reached.list ∙ ap (λ n. drop (n / v.scenario.copies) reached.found) place_is

        found_there : slice_get reached.found (sends.place / v.scenario.copies) ≡ Some message
        found_there =
            ap (λ (o : Option (List (List ℕ))). slice_get (unwrap_or o []) (sends.place / v.scenario.copies)) (sym reached.is) ∙ sends.in_it.there

        list_is : open_store.list ≡ message ∷ drop (sends.place / v.scenario.copies + 1) reached.found
        list_is = left ∙ drop_at reached.found (sends.place / v.scenario.copies) message found_there

        pub first_is : slice_get open_store.list 0 ≡ Some message
        first_is = ap (λ xs. slice_get xs 0) list_is

        pub some_left : 0 < length open_store.list
        some_left = let e : length open_store.list ≡ length (message ∷ drop (sends.place / v.scenario.copies + 1) reached.found) = ap length list_is in omega arith

        pub are_messages : All IsMessage open_store.list
        are_messages =
            subst (λ (o : Option Call). All IsMessage (list_found open_store.list o true)) reached.none ((stands.lanes l lane lane_there).keeps.stored true)

        is_message : IsMessage message
        is_message =
            All-head IsMessage message (drop (sends.place / v.scenario.copies + 1) reached.found) (subst (λ (xs : List (List ℕ)). All IsMessage xs) list_is are_messages)

        store_own : StoreStands lane_store (lane_at w l) (terminal_plan (payment_in v.scenario l (length (lane_at w l).ended)))
        store_own =
            subst (λ (b : Bool). LaneStoreFor lane_store (lane_at w l) (terminal_plan (payment_in v.scenario l (length (lane_at w l).ended))) b) on
            (stands.lane_stores l lane_store lane_store_there)

        in_scenario : l < length v.scenario.lanes
        in_scenario = let b : length w.lanes ≡ length v.scenario.lanes = stands.sound.lane_count in omega (arith, within_lanes)

        some_made : (o : Option ℕ) → is_some o ≡ true → (n : ℕ) × (o ≡ Some n)
        some_made None none = cc
        some_made (Some n) is = (n, refl)

        pub on_to_settle : LaneStoreOn lane_store open_store None
        on_to_settle =
            let made = some_made open_store.commits reached.on in
            subst (λ (plan : Option Tear). LaneStoreOn lane_store open_store plan) (no_plan l in_scenario)
            (subst (λ (o : Option ℕ). StorePlace lane_store open_store (terminal_plan (payment_in v.scenario l (length (lane_at w l).ended))) o) made.1 store_own.place)

        stored_after : (b one : Bool) → All IsMessage (list_found (settled_store b open_store).list (settled_store b open_store).lost one)
        stored_after false one = (stands.lanes l lane lane_there).keeps.stored one
        stored_after true one =
            subst (λ (o : Option Call). All IsMessage (list_found (drop 1 open_store.list) o one)) (sym reached.none) (All-drop IsMessage 1 open_store.list are_messages)

        found_after : (b : Bool) → (settled_store b open_store).found ≡ open_store.found
        found_after true = refl
        found_after false = refl

        on_after : (b : Bool) → is_some (settled_store b open_store).commits ≡ true
        on_after false = reached.on
        on_after true = still open_store.commits reached.on
          where
            still : (o : Option ℕ) → is_some o ≡ true → is_some (option_map (λ made. made + 1) o) ≡ true
            still None none = none
            still (Some n) is = refl

        -- what is known of the store before it
        pub drain_facts : LaneStoreOn lane_store open_store None × (slice_get open_store.list 0 ≡ Some message) × (0 < length open_store.list) × All IsMessage open_store.list
        drain_facts = (on_to_settle, first_is, some_left, are_messages)

        pub drains_goes : (host : HostData) → HostStands host (w.messages ++ message ∷ []) → (behind : LaneStoreSeen) → LaneStoreOn behind (settled_store drops open_store) None → store_losses behind ≡ store_losses lane_store → (lines : List Line)
            → lines ≡ settle_lines (dialect_of v.scenario l) l message (host_reply v.scenario.issuer v.scenario.accounts w.messages message)
            → EventHasLed (record v { lane_stores = set v.lane_stores l behind; host = host }) w (Settle k) lines
        drains_goes host messages behind is_on losses lines made =
            step_goes [] k (Sends l message drops) here (record v { lane_stores = set v.lane_stores l behind; host = host }) lines refl
            (step_stands [] k (Sends l message drops) here v.lanes (set v.lane_stores l behind) host (rows_after lane_own) lane_stores_after messages) refl made
          where
            lane_own : (x : Lane) → slice_get v.lanes l ≡ Some x → LaneAt v.scenario l x sent_row
            lane_own x there =
                let same : lane ≡ x = same_Some lane x (sym lane_there ∙ there) in
                subst (λ (y : Lane). LaneAt v.scenario l y sent_row) same
                (at_with v.scenario l lane (lane_at w l) ((lane_at w l).sent ++ message ∷ []) (settled_store drops open_store) (stands.lanes l lane lane_there)
                (All-push IsMessage (lane_at w l).sent message (stands.lanes l lane lane_there).keeps.sent is_message)
                (stored_after drops) ((stands.lanes l lane lane_there).keeps.found ∙ ap (λ o. option_map length o) (sym (found_after drops))))

            placed : (o : Option ℕ) → is_some o ≡ true → (plan : Option Tear) → plan ≡ None → StorePlace behind (settled_store drops open_store) plan o
            placed None none plan is = cc
            placed (Some n) some_so plan is = subst (λ (t : Option Tear). LaneStoreOn behind (settled_store drops open_store) t) (sym is) is_on

            lane_store_at_it : LaneStoreAt v.scenario l behind sent_row
            lane_store_at_it =
                subst (λ (b : Bool). LaneStoreFor behind sent_row (terminal_plan (payment_in v.scenario l (length (lane_at w l).ended))) b) (sym on)
                (record {
                  place = placed (settled_store drops open_store).commits (on_after drops) (terminal_plan (payment_in v.scenario l (length (lane_at w l).ended)))
                      (no_plan l in_scenario);
                  losses = losses ∙ store_own.losses;
                })

            lane_stores_after : (j : ℕ) (x : LaneStoreSeen) → slice_get (set v.lane_stores l behind) j ≡ Some x → LaneStoreAt v.scenario j x (lane_at sent_world j)
            lane_stores_after = set_both (λ j x r. LaneStoreAt v.scenario j x r) v.lane_stores w.lanes l behind sent_row new_lane within_lanes lane_store_at_it stands.lane_stores

-- what is set at a place that a list has
set_is : {A : Type 0} (xs : List A) (i : ℕ) (a x : A) → slice_get xs i ≡ Some x → slice_get (set xs i a) i ≡ Some a
set_is [] i a x there = cc
set_is (y ∷ ys) zero a x there = refl
set_is (y ∷ ys) (suc i) a x there = set_is ys i a x there

-- a lane that knows what its opening has found is done where it was
same_done : (o : Option LaneData) (lane later : Lane) → later ≡ record lane { found = later.found } → is_lane_done o (Some later) ≡ is_lane_done o (Some lane)
same_done None lane later same = refl
same_done (Some terminal) lane later same = ap (λ (x : Lane). is_lane_done (Some terminal) (Some x)) same

pub done_found : (terminals : List LaneData) (lanes : List Lane) (l : ℕ) (lane later : Lane) → slice_get lanes l ≡ Some lane
    → later ≡ record lane { found = later.found } → (n : ℕ) → done_below terminals (set lanes l later) n ≡ done_below terminals lanes n
done_found terminals lanes l lane later there same zero = refl
done_found terminals lanes l lane later there same (suc m) =
    (λ i. one i && done_found terminals lanes l lane later there same m i)
  where
    one : is_lane_done (slice_get terminals m) (slice_get (set lanes l later) m) ≡ is_lane_done (slice_get terminals m) (slice_get lanes m)
    one = elim (cases_eq m l) [
      | inl is ↦
          ap (λ n. is_lane_done (slice_get terminals m) (slice_get (set lanes l later) n)) is
          ∙ ap (λ (o : Option Lane). is_lane_done (slice_get terminals m) o) (set_is lanes l later lane there)
          ∙ same_done (slice_get terminals m) lane later same
          ∙ ap (λ (o : Option Lane). is_lane_done (slice_get terminals m) o) (sym there)
          ∙ ap (λ n. is_lane_done (slice_get terminals m) (slice_get lanes n)) (sym is)
      | inr other ↦ ap (λ (o : Option Lane). is_lane_done (slice_get terminals m) o) (set_other lanes l m later other)
    ]

-- and keeps to its rules
pub fits_found : (lane later : Lane) → later ≡ record lane { found = later.found } → LaneFits lane → LaneFits later
fits_found lane later same fits = subst LaneFits (sym same) (record { amounts = fits.amounts; waits = fits.waits })
