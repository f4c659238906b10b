-- A turn of a lane from what its function has at hand: the lane, its purchase that is next or runs, its card and its store.
-- What it finds there stands for what the event of the definitions touches, and what it leaves for what that makes of it.
use Rattle.std.proofs.Common.{◌≡◌, refl, ℕ, ◌<◌, ◌≤◌, Bool, true, false, ◌&&◌, List, [], length, get_or, set, slice_get, Option, Some, None, sym, ap, ◌∙◌, subst, arith}
use Rattle.std.specs.Prelude.{is_none}
use Rattle.std.proofs.lemmas.List.{length-set, set-get_or}
use Rattle.std.proofs.lemmas.List.Elements.{All-set}
use Rattle.std.proofs.lemmas.Option.{same_Some}
use Rattle.capture_store.specs.SeenLaneStore.{LaneStoreSeen}
use Rattle.card_state.specs.Decisions.{Decided}
use Rattle.issuer_host.specs.History.{HostData, HostStands}
use Rattle.kernel.specs.Tally.{Counts}
use Rattle.report_text.specs.declared.line.Line.{Line}
use Rattle.scenario_lanes.specs.Plan.{purchase_count}
use Rattle.txn_replay.specs.Bounds.{purchases_in}
use Rattle.txn_replay.specs.Payment.{Payment, payment_in, next_of}
use Rattle.txn_replay.specs.Seen.{WorldSeen, WorldStands, IsUnmoved, EventHasLed, IsStanding, IsWorldWhole}
use Rattle.txn_replay.specs.RunCard.{RunCardSeen, RunCardOff, run_card_is_powered}
use Rattle.txn_replay.specs.Sound.{IsIdle}
use Rattle.txn_replay.specs.Standing.{PartStands, LaneFits, ExchangeIsCounted, SameLane, seen_payment}
use Rattle.txn_replay.specs.Steps.{part_of}
use Rattle.txn_replay.specs.Storing.{lane_piece}
use Rattle.txn_replay.specs.World.{World, lane_at}
use Rattle.txn_replay.specs.declared.event.Event.TheVariants.{Turn}
use Rattle.txn_replay.specs.declared.lane.Lane.{Lane}
use Rattle.txn_replay.specs.declared.payment.Payment.{Payment as Paying}
use Rattle.txn_replay.proofs.RunLaws.FewEvents.{inside_lane}
use Rattle.txn_replay.proofs.Lists.{found_at, set_one}
use Rattle.txn_replay.proofs.ExchangeLaws.PurchaseFacts.{some_of_all}
use Rattle.txn_replay.proofs.TurnLaws.TurnIdle.{idle_without, idle_goes, idle_held, free_holder, never_idle, same_stands}
use Rattle.txn_replay.proofs.TurnLaws.TurnWorlds.{part_stands, turn_goes}

same_itself : (lane : Lane) → SameLane lane lane
same_itself lane = record { ended = refl; running = refl; log = refl; captures = refl; card = refl; ending = refl; found = refl }

-- `v` is made of the fields of the run, whose value is `now`
module _ (v now : WorldSeen) (view : v ≡ now) (whole : IsWorldWhole v) (l : ℕ) (below : l < length now.scenario.lanes)
    (lane : Lane) (first : lane ≡ get_or v.lanes l lane) where
  pub stands_for : (w : World) → WorldStands now w → WorldStands v w
  stands_for w stands = subst (λ (x : WorldSeen). WorldStands x w) (sym view) stands

  inside : l < length v.scenario.lanes
  inside = subst (λ (x : WorldSeen). l < length x.scenario.lanes) (sym view) below

  lane_within : l < length v.lanes
  lane_within = let count : length v.lanes ≡ length v.scenario.lanes = whole.lane_count in omega (arith, inside, count)

  lane_store_within : l < length v.lane_stores
  lane_store_within = let count : length v.lane_stores ≡ length v.scenario.lanes = whole.lane_store_count in omega (arith, inside, count)

  -- the purchase behind those that have ended in the lane
  next_by : (w : World) → WorldStands v w → payment_in v.scenario l lane.ended ≡ next_of v.scenario w l
  next_by w stands = ap (λ n. payment_in v.scenario l n) (stands.lanes l lane (found_at v.lanes l lane lane_within first)).keeps.ended

  -- in a lane that waits nothing happens
  waits : (w : World) → WorldStands now w → (lines : List Line) → lines ≡ [] → IsIdle v.scenario w l
      → EventHasLed now w (Turn l) lines × IsIdle now.scenario w l
  waits w stands lines none idle = (
    subst (λ (xs : List Line). EventHasLed now w (Turn l) xs) (sym none)
        (subst (λ (x : WorldSeen). EventHasLed x w (Turn l) []) view (idle_goes v w (stands_for w stands) l idle)),
    subst (λ (x : WorldSeen). IsIdle x.scenario w l) view idle,
  )

  -- no purchase is left
  pub none_left : None ≡ payment_in v.scenario l lane.ended → (w : World) → WorldStands now w → (lines : List Line) → lines ≡ []
      → EventHasLed now w (Turn l) lines × IsIdle now.scenario w l
  none_left none w stands lines empty =
      waits w stands lines empty (idle_without v w (stands_for w stands) l (sym (next_by w (stands_for w stands)) ∙ sym none))

  module _ (at : Paying) (payment : Some (seen_payment v.scenario.issuer v.scenario.accounts at) ≡ payment_in v.scenario l lane.ended)
      (known : at.planned.now.card < length v.scenario.cards) where
    abbrev p : Payment
    p = seen_payment v.host.keys v.host.accounts at

    next_is : (w : World) → WorldStands v w → next_of v.scenario w l ≡ Some p
    next_is w stands =
        sym (next_by w stands) ∙ sym payment ∙ (λ i. Some (seen_payment (sym whole.keys i) (sym whole.accounts i) at))

    card_within : p.planned.card < length v.run_cards
    card_within = let count : length v.run_cards ≡ length v.scenario.cards = whole.run_card_count in omega (arith, known, count)

    module _ (own : Lane) (own_is : own ≡ get_or v.lanes l own) (run_card : RunCardSeen) (run_card_is : run_card ≡ get_or v.run_cards p.planned.card run_card) where
      own_there : slice_get v.lanes l ≡ Some own
      own_there = found_at v.lanes l own lane_within own_is

      run_card_there : slice_get v.run_cards p.planned.card ≡ Some run_card
      run_card_there = found_at v.run_cards p.planned.card run_card card_within run_card_is

      -- another purchase has the card
      pub card_held : (held : Bool) → held ≡ (is_none own.running && run_card_is_powered run_card) → held ≡ true
          → ((kept : List Decided) (pending : Option Decided) → RunCardOff run_card kept pending → held ≡ false)
          → (w : World) → WorldStands now w → (lines : List Line) → lines ≡ [] → EventHasLed now w (Turn l) lines × IsIdle now.scenario w l
      card_held held exact is off w stands lines empty =
          waits w stands lines empty
          (idle_held v w (stands_for w stands) l p (next_is w (stands_for w stands)) own run_card own_there run_card_there held exact is off)

      pub few_ended : own.ended < 10000
      few_ended =
          let w = whole.standing.0 in
          let stands = whole.standing.1 in
          let count : own.ended ≡ length (lane_at w l).ended = (stands.lanes l own own_there).keeps.ended in
          let less : length (lane_at w l).ended < purchases_in (slice_get v.scenario.lanes l) =
          inside_lane v.scenario l (length (lane_at w l).ended) p (next_is w stands) in
          let all : purchases_in (slice_get v.scenario.lanes l) ≤ purchase_count v.scenario.lanes = some_of_all v.scenario.lanes l in
          let most : purchase_count v.scenario.lanes ≤ 10000 = whole.scenario.tables.few_purchases in
          omega (arith, count, less, all, most)

      pub own_fits : LaneFits own
      own_fits = subst (λ (x : Lane). LaneFits x) (sym own_is) (whole.fits l own lane_within)

      module _ (lane_store : LaneStoreSeen) (lane_store_is : lane_store ≡ get_or v.lane_stores l lane_store) where
        lane_store_there : slice_get v.lane_stores l ≡ Some lane_store
        lane_store_there = found_at v.lane_stores l lane_store lane_store_within lane_store_is

        -- what an exchange of the lane touches
        pub part_at : (w : World) → WorldStands v w → PartStands p own lane_store run_card (part_of w l p.planned.card)
        part_at w stands = part_stands v w stands l p (next_is w stands) own lane_store run_card own_there lane_store_there run_card_there

        -- `held` was asked of the same lane and card before
        module _ (lane_before : Lane) (lane_is : lane_before ≡ get_or v.lanes l lane_before) (run_card_before : RunCardSeen)
            (before_is : run_card_before ≡ get_or v.run_cards p.planned.card run_card_before)
            (held : Bool) (exact : held ≡ (is_none lane_before.running && run_card_is_powered run_card_before)) (free : held ≡ false) where
          same_lane : lane_before ≡ own
          same_lane = same_Some lane_before own (sym (found_at v.lanes l lane_before lane_within lane_is) ∙ own_there)

          same_run_card : run_card_before ≡ run_card
          same_run_card = same_Some run_card_before run_card (sym (found_at v.run_cards p.planned.card run_card_before card_within before_is) ∙ run_card_there)

          unheld : (is_none own.running && run_card_is_powered run_card) ≡ false
          unheld = (λ i. is_none (sym same_lane i).running && run_card_is_powered (sym same_run_card i)) ∙ sym exact ∙ free

          -- so the lane isn't idle
          pub not_idle : (w : World) → WorldStands v w → IsIdle now.scenario w l → ⊥
          not_idle w stands idle =
              never_idle v w stands l p (next_is w stands) own run_card lane_store (part_at w stands) unheld
              (subst (λ (x : WorldSeen). IsIdle x.scenario w l) (sym view) idle)

        module _ (later : Lane) (behind : LaneStoreSeen) (next : RunCardSeen) (host : HostData) (tally : Counts) where
          abbrev after : WorldSeen
          after = record v { run_cards = set v.run_cards p.planned.card next; lanes = set v.lanes l later; lane_stores = set v.lane_stores l behind; host = host; tally = tally }

          pub whole_after : LaneFits later → host.keys ≡ v.host.keys → host.accounts ≡ v.host.accounts → IsStanding after → IsWorldWhole after
          whole_after fits keys accounts standing = record {
            scenario = whole.scenario;
            run_card_count = length-set v.run_cards p.planned.card next ∙ whole.run_card_count;
            lane_count = length-set v.lanes l later ∙ whole.lane_count;
            lane_store_count = length-set v.lane_stores l behind ∙ whole.lane_store_count;
            fits = All-set LaneFits v.lanes l later fits whole.fits;
            keys = keys ∙ whole.keys;
            accounts = accounts ∙ whole.accounts;
            blank = whole.blank;
            pages = whole.pages;
            standing = standing;
          }

          -- there was no memory
          pub unmoved : SameLane own later → behind ≡ lane_store → next ≡ run_card → host ≡ v.host → tally ≡ v.tally → (w : World) → WorldStands v w → WorldStands after w
          unmoved same lane_store_same run_card_same host_same tally_same w stands =
              subst (λ (h : HostData). WorldStands (record after { host = h }) w) (sym host_same)
              (subst (λ (t : Counts). WorldStands (record after { host = v.host; tally = t }) w) (sym tally_same)
              (same_stands v w stands l p.planned.card own later lane_store behind run_card next own_there lane_store_there run_card_there same lane_store_same run_card_same))

          pub nothing_else : SameLane own later → behind ≡ lane_store → next ≡ run_card → host ≡ v.host → tally ≡ v.tally → IsUnmoved now after
          nothing_else same lane_store_same run_card_same host_same tally_same =
              subst (λ (x : WorldSeen). IsUnmoved x after) view (record {
                scenario = refl;
                run_cards = ap (λ (x : RunCardSeen). set v.run_cards p.planned.card x) (run_card_same ∙ run_card_is) ∙ set-get_or v.run_cards p.planned.card run_card;
                lane_count = length-set v.lanes l later;
                lanes = set_one (λ (j : ℕ) (x : Lane). (before : Lane) × (slice_get v.lanes j ≡ Some before) × SameLane before x) v.lanes l later
                    (own, own_there, same) (λ j x differs there. (x, there, same_itself x));
                lane_stores = ap (λ (x : LaneStoreSeen). set v.lane_stores l x) (lane_store_same ∙ lane_store_is) ∙ set-get_or v.lane_stores l lane_store;
                host = host_same;
                tally = tally_same;
                spare = refl;
              })

          -- or the exchange has happened
          pub moved_on : (lane_before : Lane) → lane_before ≡ get_or v.lanes l lane_before → (run_card_before : RunCardSeen)
              → run_card_before ≡ get_or v.run_cards p.planned.card run_card_before
              → (held : Bool) → held ≡ (is_none lane_before.running && run_card_is_powered run_card_before) → held ≡ false
              → (lines : List Line) (w : World) (stands : WorldStands v w) (one other : Bool)
              → ExchangeIsCounted p later behind next v.tally tally lines (part_of w l p.planned.card) (lane_piece p (part_of w l p.planned.card) one other)
              → HostStands host (lane_piece p (part_of w l p.planned.card) one other).part.messages → EventHasLed after w (Turn l) lines
          moved_on lane_before lane_is run_card_before before_is held exact free lines w stands one other led messages =
              turn_goes v w stands l p (next_is w stands) own lane_store run_card own_there lane_store_there run_card_there later behind next host tally lines one other led messages
              (free_holder v w stands l p (next_is w stands) own run_card lane_store (part_at w stands) (unheld lane_before lane_is run_card_before before_is held exact free))
