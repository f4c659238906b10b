-- The step of the settlement that a run has come to, by the run's value: what carries it out finds what it needs, and has
-- made the event.
use Rattle.std.proofs.Common.{◌≡◌, ℕ, ◌<◌, ◌≤◌, ◌^◌, Bool, true, false, Bor, List, [], ◌∷◌, ◌++◌, length, get_or, set, slice_get, Option, Some, None, refl, sym, ap, ◌∙◌, subst, arith}
use Rattle.std.specs.List.{All}
use Rattle.std.proofs.lemmas.List.{length-set}
use Rattle.std.proofs.lemmas.List.Elements.{All-set}
use Rattle.std.proofs.lemmas.Option.{slice_get_within, get_or_from_slice_get}
use Rattle.auth_message.specs.Whole.{IsMessage}
use Rattle.capture_store.specs.SeenLaneStore.{LaneStoreSeen, LaneStoreOn, LaneStoreOff, store_losses}
use Rattle.capture_store.specs.StoreRow.{StoreRow, opened_to_settle}
use Rattle.issuer_host.specs.History.{HostData, HostStands, host_reply}
use Rattle.report_text.specs.declared.line.Line.{Line}
use Rattle.txn_replay.specs.Lines.{settle_lines}
use Rattle.txn_replay.specs.Payment.{dialect_of, durable_of}
use Rattle.txn_replay.specs.Run.{all_over}
use Rattle.txn_replay.specs.Seen.{WorldSeen, WorldStands, IsWorldWhole, IsSettling, EventHasLed, is_done}
use Rattle.txn_replay.specs.Settling.{LanesKeep, IsStepOf}
use Rattle.txn_replay.specs.Standing.{LaneFits}
use Rattle.txn_replay.specs.Steps.{Settlement, Opens, Sends, settlements_from, settlements, settled_store}
use Rattle.txn_replay.specs.Stored.{IsSettledTo}
use Rattle.txn_replay.specs.World.{LaneRow, World, lane_at}
use Rattle.txn_replay.specs.declared.event.Event.TheVariants.{Settle}
use Rattle.txn_replay.specs.declared.lane.Lane.{Lane}
use Rattle.txn_replay.specs.declared.settlement.Settling.{Settling}
use Rattle.txn_replay.specs.declared.settlement.Settling.TheVariants as settling
use Rattle.txn_replay.proofs.Lists.{found_at, some_at}
use Rattle.txn_replay.proofs.SettlementLaws.SettlementWorlds.{rows_are, none_settles, settled_few, settles_message, off_to_settle, opens_goes, plain_goes, drain_facts, drains_goes, done_found, fits_found}
use Rattle.txn_replay.proofs.SettlementLaws.SettlementSteps.{lane_in, settles_inside}
use Rattle.txn_replay.proofs.SettlementLaws.SettlementOfLane.{IsPlain, IsStores, none_is, opens_is, plain_is, stores_is}
use Rattle.txn_replay.proofs.TurnLaws.WorldTold.{done_is}

-- the lane of a step
abbrev pub place_of : Settling → ℕ
place_of (settling.Opens lane) = lane
place_of (settling.Sends lane message) = lane
place_of (settling.Drains lane drops) = lane

-- a step that is found is one of the settlement, in its lane
record IsThere (o : Option Settlement) (place : ℕ) : Type 0 where
  pub step : Settlement
  pub is : o ≡ Some step
  pub lane_is : lane_in step ≡ place

there_by : (durable : ℕ → Bool) (o : Option Settlement) (found : Settling) → IsStepOf durable o (Some found) → IsThere o (place_of found)
there_by durable None found is = absurd is
there_by durable (Some (Opens l)) (settling.Opens lane) is = record { step = Opens l; is = refl; lane_is = is }
there_by durable (Some (Opens l)) (settling.Sends lane message) is = absurd is
there_by durable (Some (Opens l)) (settling.Drains lane drops) is = absurd is
there_by durable (Some (Sends l message drops)) (settling.Opens lane) is = absurd is
there_by durable (Some (Sends l message drops)) (settling.Sends lane sent) is = record { step = Sends l message drops; is = refl; lane_is = is.0 }
there_by durable (Some (Sends l message drops)) (settling.Drains lane last) is = record { step = Sends l message drops; is = refl; lane_is = is.0 }

-- of the value `v`, whose lanes these are, as the call has found it
module _ (v self : WorldSeen) (whole : IsWorldWhole v) (view : v ≡ self) (lanes : List Lane) (same : lanes ≡ v.lanes) (k : ℕ) where
  standing : (w : World) → WorldStands self w → WorldStands v w
  standing w stands = subst (λ (x : WorldSeen). WorldStands x w) (sym view) stands

  rows : (w : World) → WorldStands v w → LanesKeep lanes w.lanes
  rows w stands = subst (λ (ls : List Lane). LanesKeep ls w.lanes) (sym same) (rows_are v w stands whole.lane_count)

  -- none is left
  module _ (found : (all : List LaneRow) → LanesKeep lanes all → IsStepOf (durable_of v.scenario) (slice_get (settlements_from v.scenario 0 all) k) None) where
    none_left : (w : World) → WorldStands v w → slice_get (settlements v.scenario w) k ≡ None
    none_left w stands = none_is (durable_of v.scenario) (slice_get (settlements v.scenario w) k) (found w.lanes (rows w stands))

    pub past_it : (w : World) → WorldStands self w → slice_get (settlements self.scenario w) k ≡ None
    past_it w stands = ap (λ (x : WorldSeen). slice_get (settlements x.scenario w) k) (sym view) ∙ none_left w (standing w stands)

    pub past_goes : (w : World) → WorldStands self w → (lines : List Line) → lines ≡ [] → EventHasLed self w (Settle k) lines
    past_goes w stands lines empty =
        subst (λ (ls : List Line). EventHasLed self w (Settle k) ls) (sym empty)
        (subst (λ (x : WorldSeen). EventHasLed x w (Settle k) []) view (none_settles v w (standing w stands) k (none_left w (standing w stands))))

  -- this one is found
  module _ (step : Settling) (found : (all : List LaneRow) → LanesKeep lanes all → IsStepOf (durable_of v.scenario) (slice_get (settlements_from v.scenario 0 all) k) (Some step)) where
    there : (w : World) → WorldStands v w → IsThere (slice_get (settlements v.scenario w) k) (place_of step)
    there w stands = there_by (durable_of v.scenario) (slice_get (settlements v.scenario w) k) step (found w.lanes (rows w stands))

    pub step_there : (w : World) → WorldStands self w → (at : Settlement) × (slice_get (settlements self.scenario w) k ≡ Some at)
    step_there w stands =
        let at = there w (standing w stands) in (at.step, ap (λ (x : WorldSeen). slice_get (settlements x.scenario w) k) (sym view) ∙ at.is)

    pub step_few : k < 30352
    step_few = let at = there whole.standing.0 whole.standing.1 in settled_few v whole.standing.0 whole.standing.1 whole.scenario k at.step at.is

    -- its lane is there
    pub lane_inside : (x : Settling) → step ≡ x → place_of x < length v.scenario.lanes
    lane_inside x is =
        let w = whole.standing.0 in
        let at = there w whole.standing.1 in
        let inside : lane_in at.step < length w.lanes = settles_inside v.scenario w.lanes k at.step at.is in
        let place : lane_in at.step ≡ place_of x = at.lane_is ∙ ap place_of is in
        let count : length w.lanes ≡ length v.scenario.lanes = whole.standing.1.sound.lane_count in
        omega (arith, inside, place, count)

    pub lane_fits : (x : Settling) → step ≡ x → place_of x < 2 ^ 8
    lane_fits x is = omega (arith, lane_inside x is, whole.scenario.tables.few_lanes)

    is_so : (w : World) → WorldStands v w → (x : Settling) → step ≡ x → IsStepOf (durable_of v.scenario) (slice_get (settlements v.scenario w) k) (Some x)
    is_so w stands x is =
        subst (λ (y : Settling). IsStepOf (durable_of v.scenario) (slice_get (settlements v.scenario w) k) (Some y)) is (found w.lanes (rows w stands))

    lane_store_at : (x : Settling) → step ≡ x → (lane_store : LaneStoreSeen) → lane_store ≡ get_or v.lane_stores (place_of x) lane_store → slice_get v.lane_stores (place_of x) ≡ Some lane_store
    lane_store_at x is lane_store at = found_at v.lane_stores (place_of x) lane_store (omega (arith, lane_inside x is, whole.lane_store_count)) at

    lane_there : (x : Settling) → step ≡ x → (lane : Lane) → lane ≡ get_or v.lanes (place_of x) lane → slice_get v.lanes (place_of x) ≡ Some lane
    lane_there x is lane at = found_at v.lanes (place_of x) lane (omega (arith, lane_inside x is, whole.lane_count)) at

    -- every purchase is over
    module _ (done : is_done self ≡ true) where
      over : (w : World) → WorldStands v w → all_over v.scenario w ≡ true
      over w stands = sym (done_is v w stands whole.scenario whole.lane_count) ∙ ap is_done view ∙ done

      through_it : (w : World) → IsSettledTo self.scenario w k → IsSettledTo v.scenario w k
      through_it w through = subst (λ (x : WorldSeen). IsSettledTo x.scenario w k) (sym view) through

      -- a store is opened
      module _ (l : ℕ) (is : step ≡ settling.Opens l) (lane : Lane) (lane_store : LaneStoreSeen) (lane_is : lane ≡ get_or v.lanes l lane) (lane_store_is : lane_store ≡ get_or v.lane_stores l lane_store) where
        opens : (w : World) → WorldStands v w → slice_get (settlements v.scenario w) k ≡ Some (Opens l)
        opens w stands = opens_is (durable_of v.scenario) (slice_get (settlements v.scenario w) k) l (is_so w stands (settling.Opens l) is)

        off : (w : World) → WorldStands v w → IsSettledTo v.scenario w k → LaneStoreOff lane_store (lane_at w l).store
        off w stands through =
            off_to_settle v w stands (over w stands) k l lane lane_store (opens w stands) whole.scenario.tables.one_copy through
            (lane_there (settling.Opens l) is lane lane_is) (lane_store_at (settling.Opens l) is lane_store lane_store_is)

        pub opens_off : IsSettling self k → (row : StoreRow) × LaneStoreOff lane_store row
        opens_off next = ((lane_at next.world l).store, off next.world (standing next.world next.stands) (through_it next.world next.through))

        module _ (later : Lane) (behind : LaneStoreSeen)
            (opened : (row : StoreRow) → LaneStoreOff lane_store row
            → (found : Bool) × LaneStoreOn behind (opened_to_settle row found) None × (later.found ≡ Some (length (opened_to_settle row found).list)))
            (losses : store_losses behind ≡ store_losses lane_store) (stays : later ≡ record lane { found = later.found }) where
          abbrev opened_value : WorldSeen
          opened_value = record v { lanes = set v.lanes l later; lane_stores = set v.lane_stores l behind }

          goes_open : (w : World) → WorldStands v w → IsSettledTo v.scenario w k → EventHasLed opened_value w (Settle k) []
          goes_open w stands through =
              let one = opened (lane_at w l).store (off w stands through) in
              opens_goes v w stands (over w stands) k l lane lane_store (opens w stands) whole.scenario.tables.one_copy through
              (lane_there (settling.Opens l) is lane lane_is) (lane_store_at (settling.Opens l) is lane_store lane_store_is) later behind one.0 one.1 one.2 losses stays

          pub opens_so : (w : World) → WorldStands self w → IsSettledTo self.scenario w k → (lines : List Line) → lines ≡ []
              → EventHasLed opened_value w (Settle k) lines
          opens_so w stands through lines empty =
              subst (λ (ls : List Line). EventHasLed opened_value w (Settle k) ls) (sym empty) (goes_open w (standing w stands) (through_it w through))

          pub opens_done : is_done opened_value ≡ is_done self
          opens_done =
              done_found v.scenario.lanes v.lanes l lane later (lane_there (settling.Opens l) is lane lane_is) stays (length v.scenario.lanes) ∙ ap is_done view

          pub opens_whole : IsSettling self k → IsWorldWhole opened_value
          opens_whole next =
              let goes = goes_open next.world (standing next.world next.stands) (through_it next.world next.through) in
              let at = lane_there (settling.Opens l) is lane lane_is in
              record {
                scenario = whole.scenario;
                run_card_count = whole.run_card_count;
                lane_count = length-set v.lanes l later ∙ whole.lane_count;
                lane_store_count = length-set v.lane_stores l behind ∙ whole.lane_store_count;
                fits = All-set LaneFits v.lanes l later
                    (fits_found lane later stays
                    (subst LaneFits (get_or_from_slice_get v.lanes l lane lane at) (whole.fits l lane (slice_get_within v.lanes l lane at)))) whole.fits;
                keys = whole.keys;
                accounts = whole.accounts;
                blank = whole.blank;
                pages = whole.pages;
                standing = (goes.after, goes.stands);
              }

      -- a message that a lane has captured is sent
      module _ (l : ℕ) (message : Bor (List ℕ)) (is : step ≡ settling.Sends l message) where
        plain : (w : World) → WorldStands v w → IsPlain (durable_of v.scenario) (slice_get (settlements v.scenario w) k) l message.now
        plain w stands =
            plain_is (durable_of v.scenario) (slice_get (settlements v.scenario w) k) (settling.Sends l message) (is_so w stands (settling.Sends l message) is)

        pub sends_message : IsMessage message.now
        sends_message =
            let w = whole.standing.0 in
            let one = plain w whole.standing.1 in
            let lane = some_at v.lanes l (omega (arith, lane_inside (settling.Sends l message) is, whole.lane_count)) in
            settles_message v w whole.standing.1 k l message.now false one.here one.off lane.0 lane.1

        pub sends_short : length message.now ≤ 2048
        sends_short = (plain whole.standing.0 whole.standing.1).short

        module _ (iso : Bool) (iso_is : iso ≡ dialect_of v.scenario l) (before lines : List Line) (empty : before ≡ [])
            (host : HostData)
            (stood : (messages : List (List ℕ)) → HostStands v.host messages → HostStands host (messages ++ message.now ∷ []))
            (told : (messages : List (List ℕ)) → HostStands v.host messages
            → lines ≡ before ++ settle_lines iso l message.now (host_reply v.host.keys v.host.accounts messages message.now)) where
          goes_sent : (w : World) → WorldStands v w → EventHasLed (record v { host = host }) w (Settle k) lines
          goes_sent w stands =
              let one = plain w stands in
              plain_goes v w stands (over w stands) k l message.now false one.here whole.scenario.tables.one_copy host
              (stood w.messages stands.messages) one.off lines
              (told w.messages stands.messages
              ∙ (λ i. empty i ++ settle_lines (iso_is i) l message.now (host_reply (whole.keys i) (whole.accounts i) w.messages message.now)))

          pub sends_so : (w : World) → WorldStands self w → EventHasLed (record v { host = host }) w (Settle k) lines
          sends_so w stands = goes_sent w (standing w stands)

          pub sends_whole : host.keys ≡ v.host.keys → host.accounts ≡ v.host.accounts → IsWorldWhole (record v { host = host })
          sends_whole keys accounts =
              let goes = goes_sent whole.standing.0 whole.standing.1 in
              record {
                scenario = whole.scenario;
                run_card_count = whole.run_card_count;
                lane_count = whole.lane_count;
                lane_store_count = whole.lane_store_count;
                fits = whole.fits;
                keys = keys ∙ whole.keys;
                accounts = accounts ∙ whole.accounts;
                blank = whole.blank;
                pages = whole.pages;
                standing = (goes.after, goes.stands);
              }

      -- a message of a store is sent
      module _ (l : ℕ) (drops : Bool) (is : step ≡ settling.Drains l drops) (lane_store : LaneStoreSeen) (lane_store_is : lane_store ≡ get_or v.lane_stores l lane_store) where
        stores : (w : World) → WorldStands v w → IsStores (durable_of v.scenario) (slice_get (settlements v.scenario w) k) l drops
        stores w stands = stores_is (durable_of v.scenario) (slice_get (settlements v.scenario w) k) l drops (is_so w stands (settling.Drains l drops) is)

        any_lane : (lane : Lane) × (slice_get v.lanes l ≡ Some lane)
        any_lane = some_at v.lanes l (omega (arith, lane_inside (settling.Drains l drops) is, whole.lane_count))

        facts : (w : World) (stands : WorldStands v w) → IsSettledTo v.scenario w k
            → LaneStoreOn lane_store (lane_at w l).store None × (slice_get (lane_at w l).store.list 0 ≡ Some (stores w stands).message)
            × (0 < length (lane_at w l).store.list) × All IsMessage (lane_at w l).store.list
        facts w stands through =
            drain_facts v w stands (over w stands) k l (stores w stands).message drops (stores w stands).here whole.scenario.tables.one_copy any_lane.0 lane_store
            (stores w stands).on through any_lane.1 (lane_store_at (settling.Drains l drops) is lane_store lane_store_is)

        pub drains_from : IsSettling self k → (row : StoreRow) × LaneStoreOn lane_store row None × (0 < length row.list) × All IsMessage row.list
        drains_from next =
            let one = facts next.world (standing next.world next.stands) (through_it next.world next.through) in
            ((lane_at next.world l).store, one.0, one.2, one.3)

        module _ (behind : LaneStoreSeen) (host : HostData) (iso : Bool) (iso_is : iso ≡ dialect_of v.scenario l) (lines : List Line)
            (drained : (row : StoreRow) → LaneStoreOn lane_store row None → LaneStoreOn behind (settled_store drops row) None)
            (told : (row : StoreRow) (message : List ℕ) (messages : List (List ℕ)) → LaneStoreOn lane_store row None → slice_get row.list 0 ≡ Some message
            → HostStands v.host messages
            → (lines ≡ settle_lines iso l message (host_reply v.host.keys v.host.accounts messages message)) × HostStands host (messages ++ message ∷ []))
            (losses : store_losses behind ≡ store_losses lane_store) where
          abbrev drained_value : WorldSeen
          drained_value = record v { lane_stores = set v.lane_stores l behind; host = host }

          goes_drained : (w : World) → WorldStands v w → IsSettledTo v.scenario w k → EventHasLed drained_value w (Settle k) lines
          goes_drained w stands through =
              let before = facts w stands through in
              let after = told (lane_at w l).store (stores w stands).message w.messages before.0 before.1 stands.messages in
              drains_goes v w stands (over w stands) k l (stores w stands).message drops (stores w stands).here whole.scenario.tables.one_copy any_lane.0 lane_store
              (stores w stands).on through any_lane.1 (lane_store_at (settling.Drains l drops) is lane_store lane_store_is) host after.1 behind
              (drained (lane_at w l).store before.0) losses lines
              (after.0
              ∙ (λ i. settle_lines (iso_is i) l (stores w stands).message
              (host_reply (whole.keys i) (whole.accounts i) w.messages (stores w stands).message)))

          pub drains_so : (w : World) → WorldStands self w → IsSettledTo self.scenario w k → EventHasLed drained_value w (Settle k) lines
          drains_so w stands through = goes_drained w (standing w stands) (through_it w through)

          pub drains_whole : IsSettling self k → host.keys ≡ v.host.keys → host.accounts ≡ v.host.accounts → IsWorldWhole drained_value
          drains_whole next keys accounts =
              let goes = goes_drained next.world (standing next.world next.stands) (through_it next.world next.through) in
              record {
                scenario = whole.scenario;
                run_card_count = whole.run_card_count;
                lane_count = whole.lane_count;
                lane_store_count = length-set v.lane_stores l behind ∙ whole.lane_store_count;
                fits = whole.fits;
                keys = keys ∙ whole.keys;
                accounts = accounts ∙ whole.accounts;
                blank = whole.blank;
                pages = whole.pages;
                standing = (goes.after, goes.stands);
              }
