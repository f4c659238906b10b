-- The value of a run before its first event.
-- No card has decided anything, no lane has begun, and the pages are the cards', the stores' or blank.
use Rattle.std.proofs.Common.{◌≡◌, ℕ, ◌<◌, Bool, true, false, List, [], ◌∷◌, length, map, get_or, slice_get, Option, Some, None, refl, sym, ap, ◌∙◌, subst, inl, arith}
use Rattle.std.specs.Global.{Box}
use Rattle.std.specs.List.{All, flat_map}
use Rattle.std.proofs.lemmas.Option.{slice_get_within, get_or_from_slice_get}
use Rattle.capture_store.specs.SeenLaneStore.{LaneStoreSeen}
use Rattle.emv_ports.specs.declared.tear.Tear.{Tear}
use Rattle.issuer_host.specs.History.{HostStands}
use Rattle.kernel.specs.Kernel.{KernelData}
use Rattle.kernel.specs.Tally.{Counts}
use Rattle.scenario_plan.specs.Cards.{CardData}
use Rattle.scenario_plan.specs.Plan.{ScenarioData}
use Rattle.scenario_lanes.specs.Plan.{LaneData}
use Rattle.txn_replay.specs.Banked.{IsNew, AreNew, IsNewStore, AreNewStores}
use Rattle.txn_replay.specs.Counting.{counts_of, counts}
use Rattle.txn_replay.specs.Payment.{Payment, payment_in, is_durable, durable_of}
use Rattle.txn_replay.specs.Seen.{WorldSeen, RunCardStands, terminal_plan, LaneStoreAt, RunFor, LaneAt, WorldStands, IsNewLane}
use Rattle.txn_replay.specs.RunCard.{RunCardSeen}
use Rattle.txn_replay.specs.Standing.{RunStands, LaneKeeps, LaneStoreFor, LaneFits, is_over, card_last_read}
use Rattle.txn_replay.specs.World.{CardRow, LaneRow, World, new_card, new_lane, first_world, card_at, lane_at}
use Rattle.txn_replay.specs.declared.lane.Lane.{Lane}
use Rattle.txn_replay.proofs.RunLaws.FewEvents.{first_few}
use Rattle.txn_replay.proofs.Lists.{get_or-map_const, some_at}
use Rattle.txn_replay.proofs.RunLaws.SoundWorlds.{first_sound}
use Rattle.txn_replay.proofs.StoreLaws.StoresKept.{first_stand}

none_ended : (lanes : List LaneData) → flat_map (λ (row : LaneRow). row.ended) (map (λ lane. new_lane) lanes) ≡ []
none_ended [] = refl
none_ended (lane ∷ lanes) = none_ended lanes

abbrev no_counts : Counts
no_counts = record { approved = 0; declined = 0; other = 0; replies = 0 }

pub first_counts : (s : ScenarioData) → no_counts ≡ counts (first_world s)
first_counts s = ap counts_of (sym (none_ended s.lanes))

new_lane_of : (lanes : List Lane) → All IsNewLane lanes → (l : ℕ) (lane : Lane) → slice_get lanes l ≡ Some lane → IsNewLane lane
new_lane_of lanes new l lane there =
    subst (λ (x : Lane). IsNewLane x) (get_or_from_slice_get lanes l lane lane there) (new l lane (slice_get_within lanes l lane there))

-- a new lane keeps to its rules
fits_new : (lane : Lane) → IsNewLane lane → LaneFits lane
fits_new lane new = record {
  amounts = λ k d within. absurd (let none : length lane.log.items ≡ 0 = ap (λ xs. length xs) new.log in omega arith);
  waits = ap is_over new.running;
}

pub fit_all : (lanes : List Lane) → All IsNewLane lanes → All LaneFits lanes
fit_all lanes new = λ k d within. fits_new (get_or lanes k d) (new k d within)

pub first_stands : (v : WorldSeen) → AreNew v.scenario.cards v.run_cards → All IsNewLane v.lanes → length v.lane_stores ≡ length v.scenario.lanes
    → AreNewStores v.scenario.lanes v.lane_stores → HostStands v.host [] → v.tally ≡ no_counts → WorldStands v (first_world v.scenario)
first_stands v new_run_cards lanes count new_stores host tally = record {
  sound = first_sound v.scenario;
  few = first_few v.scenario;
  run_cards = run_card_stands;
  lanes = lane_stands;
  lane_stores = lane_store_at;
  stored = first_stand v.scenario;
  messages = host;
  tally = tally ∙ first_counts v.scenario;
}
  where
    w : World
    w = first_world v.scenario

    run_card_stands : (i : ℕ) (run_card : RunCardSeen) (card : CardData) → slice_get v.run_cards i ≡ Some run_card → slice_get v.scenario.cards i ≡ Some card
        → RunCardStands v.scenario (first_world v.scenario) run_card card (card_at (first_world v.scenario) i)
    run_card_stands i run_card card there is =
        let new : IsNew card run_card = new_run_cards i card run_card is there in
        subst (λ (row : CardRow). RunCardStands v.scenario (first_world v.scenario) run_card card row) (sym (get_or-map_const v.scenario.cards i new_card))
        (inl (record { is = new.is; losses = new.losses; stands = new.off }))

    keeps : (lane : Lane) → IsNewLane lane → LaneKeeps lane new_lane
    keeps lane new = record {
      ended = new.ended;
      log = new.log;
      amounts = λ k d within. absurd (omega arith);
      captures = new.captures;
      messages = λ k d within. absurd (omega arith);
      sent = λ k d within. absurd (omega arith);
      stored = λ found k d within. absurd (omega arith);
      found = new.found;
      card = λ none. ap card_last_read new.place;
      ending = new.ending;
    }

    runs : (lane : Lane) → IsNewLane lane → (o : Option Payment) → RunFor lane new_lane o
    runs lane new None = new.running
    runs lane new (Some p) = subst (λ (k : Option (Box KernelData)). RunStands k p None) (sym new.running) tt

    lane_stands : (l : ℕ) (lane : Lane) → slice_get v.lanes l ≡ Some lane → LaneAt v.scenario l lane (lane_at (first_world v.scenario) l)
    lane_stands l lane there =
        let new : IsNewLane lane = new_lane_of v.lanes lanes l lane there in
        subst (λ (row : LaneRow). LaneAt v.scenario l lane row) (sym (get_or-map_const v.scenario.lanes l new_lane))
        (record { keeps = keeps lane new; runs = runs lane new (payment_in v.scenario l 0) })

    -- a store that is off and empty, or none
    new_lane_store : (lane_store : LaneStoreSeen) (plan : Option Tear) (durable : Bool) → IsNewStore lane_store durable → LaneStoreFor lane_store new_lane plan durable
    new_lane_store lane_store plan true new = record { place = new.0; losses = new.1 }
    new_lane_store lane_store plan false new = new

    lane_store_at : (l : ℕ) (lane_store : LaneStoreSeen) → slice_get v.lane_stores l ≡ Some lane_store → LaneStoreAt v.scenario l lane_store (lane_at (first_world v.scenario) l)
    lane_store_at l lane_store there =
        let within : l < length v.scenario.lanes = (let a : l < length v.lane_stores = slice_get_within v.lane_stores l lane_store there in omega arith) in
        let lane = some_at v.scenario.lanes l within in
        let durable : durable_of v.scenario l ≡ lane.0.durable = ap is_durable lane.1 in
        subst (λ (row : LaneRow). LaneStoreAt v.scenario l lane_store row) (sym (get_or-map_const v.scenario.lanes l new_lane))
        (subst (λ (b : Bool). LaneStoreFor lane_store new_lane (terminal_plan (payment_in v.scenario l 0)) b) (sym durable)
        (new_lane_store lane_store (terminal_plan (payment_in v.scenario l 0)) lane.0.durable (new_stores l lane.0 lane_store lane.1 there)))
