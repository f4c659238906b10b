-- The next purchase of a lane, behind what its store has to do first.
-- The exchange ends with the store, or the purchase begins, behind the opening of its store or not.
use Rattle.std.proofs.Common.{◌≡◌, ℕ, Bool, true, false, List, [], ◌∷◌, ◌++◌, Option, Some, None, refl, sym, ap, ◌∙◌, subst, append-nil}
use Rattle.capture_store.specs.SeenLaneStore.{LaneStoreSeen}
use Rattle.capture_store.specs.StoreRow.{is_next_cut, opened_to_add}
use Rattle.emv_ports.specs.Cut.{names_commit}
use Rattle.issuer_host.specs.History.{HostData, HostStands}
use Rattle.kernel.specs.Reply.{Reply}
use Rattle.kernel.specs.Tally.{Counts}
use Rattle.report_text.specs.declared.line.Line.{Line}
use Rattle.txn_replay.specs.Part.{Part, Moved, still, piece}
use Rattle.txn_replay.specs.Payment.{Payment}
use Rattle.txn_replay.specs.Prepared.{StoreRests, IsEnded, IsPrepared, PreparedBy}
use Rattle.txn_replay.specs.RunCard.{RunCardSeen, RunCardOff, HasLost}
use Rattle.txn_replay.specs.Standing.{LaneStands, RunStands, PlaceStands, CardStands, LaneStoreStands, ExchangeIsCounted, PartRests, NextRests, ArePasts, counted_ends}
use Rattle.txn_replay.specs.Storing.{part_with, lost_with, copied, copy_lines, dropped_by, delivers_first, Before, Ends, Begins, OpensAndBegins, opened_for, goes_through, before_by, before_purchase, more_chosen, moved_behind, lane_piece}
use Rattle.txn_replay.specs.World.{Holder, Past, CardRow}
use Rattle.txn_replay.specs.declared.lane.Lane.{Lane}
use Rattle.txn_replay.proofs.ExchangeLaws.DialogueOver.{rests_as}
use Rattle.txn_replay.proofs.StoreLaws.StoreFirst.{before_lost, before_opened, before_on}

-- no purchase runs then, the card is as it was, and at most one that was lost has ended more, which isn't counted
pub record RestsSo (part : Part) (m : Moved) : Type 0 where
  pub runs : m.part.lane.running ≡ None
  pub card : m.part.card ≡ part.card
  pub more : List Past
  pub is : m.part.lane.ended ≡ part.lane.ended ++ more
  pub same : (tally : Counts) → tally ≡ counted_ends tally more
  pub are : ArePasts more

lost_rests : (p : Payment) (part at : Part) (lines : List Line) → at.lane.running ≡ None → at.card ≡ part.card → at.lane.ended ≡ part.lane.ended
    → RestsSo part (lost_with p at lines)
lost_rests p part at lines rests card ended = record {
  runs = rests;
  card = card;
  more = record { began = None; replies = []; end = None; lost = true } ∷ [];
  is = ap (λ (pasts : List Past). pasts ++ record { began = None; replies = []; end = None; lost = true } ∷ []) ended;
  same = λ tally. refl;
  are = ((λ none. refl), tt);
}

still_rests : (part : Part) (m : Moved) → m.part.lane.running ≡ None → m.part.card ≡ part.card → m.part.lane.ended ≡ part.lane.ended → RestsSo part m
still_rests part m rests card ended = record {
  runs = rests;
  card = card;
  more = [];
  is = ended ∙ sym (append-nil part.lane.ended);
  same = λ tally. refl;
  are = tt;
}

delivers_rests : (p : Payment) (part : Part) → part.lane.running ≡ None → (list : List (List ℕ)) → RestsSo part (delivers_first p part list)
delivers_rests p part rests [] = still_rests part (still part) rests refl refl
delivers_rests p part rests (message ∷ others) = by (is_next_cut p.planned.terminal_tear part.lane.store)
  where
    by : (cut : Bool) → RestsSo part (dropped_by p (copied p message part) (copy_lines p message part.messages p.copies) cut)
    by true = lost_rests p part (copied p message part) (copy_lines p message part.messages p.copies) rests refl refl
    by false =
        still_rests part (record { part = copied p message part; lines = copy_lines p message part.messages p.copies; choices = 0 }) rests refl refl

-- what comes before the next purchase of a lane that no other keeps from its card: this exchange ends with it, the purchase
-- begins, or it begins behind the opening of its store
pub data BeforeIs (p : Payment) (part : Part) (one : Bool) : Type 0 where
  ends : (m : Moved) → before_purchase p part one ≡ Ends m → RestsSo part m → BeforeIs p part one
  begins : ((choice : Bool) → before_purchase p part choice ≡ Begins part) → BeforeIs p part one
  opens : before_purchase p part one ≡ OpensAndBegins (part_with (opened_to_add part.lane.store one) part) → BeforeIs p part one

before_is : (p : Payment) (lane : Lane) (lane_store : LaneStoreSeen) (part : Part) (one : Bool) → StoreRests p lane lane_store part → BeforeIs p part one
before_is p lane lane_store part one rests = by_durable p.durable refl
  where
    by_due : (made : ℕ) → p.durable ≡ true → part.lane.store.commits ≡ Some made → (due : Bool) → part.lane.store.due ≡ due → BeforeIs p part one
    by_due made durable on true is =
        ends _ (before_on p lane lane_store part rests durable one made on ∙ ap (λ (b : Bool). goes_through p part b) is)
        (delivers_rests p part rests.rests part.lane.store.list)
    by_due made durable on false is =
        begins (λ choice. before_on p lane lane_store part rests durable choice made on ∙ ap (λ (b : Bool). goes_through p part b) is)

    by_full : p.durable ≡ true → part.lane.store.commits ≡ None → names_commit p.planned.terminal_tear 0 ≡ false → (due : Bool)
        → (opened_to_add part.lane.store one).due ≡ due → BeforeIs p part one
    by_full durable off spared true is =
        ends _ (before_opened p lane lane_store part rests durable one off spared
        ∙ ap (λ (b : Bool). opened_for (part_with (opened_to_add part.lane.store one) part) b) is)
        (still_rests part (record { part = part_with (opened_to_add part.lane.store one) part; lines = []; choices = 1 }) rests.rests refl refl)
    by_full durable off spared false is =
        opens (before_opened p lane lane_store part rests durable one off spared
        ∙ ap (λ (b : Bool). opened_for (part_with (opened_to_add part.lane.store one) part) b) is)

    by_cut : p.durable ≡ true → part.lane.store.commits ≡ None → (cut : Bool) → names_commit p.planned.terminal_tear 0 ≡ cut → BeforeIs p part one
    by_cut durable off true is =
        ends _ (before_lost p lane lane_store part rests durable one off is) (lost_rests p part part [] rests.rests refl refl)
    by_cut durable off false is = by_full durable off is (opened_to_add part.lane.store one).due refl

    by_store : p.durable ≡ true → (commits : Option ℕ) → part.lane.store.commits ≡ commits → BeforeIs p part one
    by_store durable None off = by_cut durable off (names_commit p.planned.terminal_tear 0) refl
    by_store durable (Some made) on = by_due made durable on part.lane.store.due refl

    by_durable : (durable : Bool) → p.durable ≡ durable → BeforeIs p part one
    by_durable false plain = begins (λ choice. ap (λ (b : Bool). before_by p part choice b) plain)
    by_durable true durable = by_store durable part.lane.store.commits refl

-- an exchange that ends before its purchase begins
module _ (p : Payment) (lane : Lane) (lane_store : LaneStoreSeen) (run_card : RunCardSeen) (part : Part) (rests : NextRests p lane lane_store run_card part) where
  abbrev pub resting : StoreRests p lane lane_store part
  resting = record {
    keeps = rests.part_rests.keeps;
    lane_store_is = rests.part_rests.lane_store_is;
    stored = rests.stored;
    before = rests.before;
    rests = rests.part_rests.rests;
    begins = rests.begins;
    free = rests.part_rests.free;
  }

  card_rests : CardStands run_card p.card p.planned.tear part.card
  card_rests = record {
    is = rests.part_rests.is;
    losses = rests.part_rests.losses;
    stands = subst (λ (h : Option Holder). PlaceStands run_card p.planned.tear part.card h) (sym rests.part_rests.free) rests.part_rests.off;
  }

  ended_led : (later : Lane) (over : LaneStoreSeen) (host : HostData) (lines : List Line) (tally : Counts) (m : Moved) → later.running ≡ None → RestsSo part m
      → IsEnded p later over host lines m → ExchangeIsCounted p later over run_card tally tally lines part m
  ended_led later over host lines tally m none so ended = record {
    moved = record {
      lane_is = record { keeps = ended.keeps; running = subst (λ (o : Option (List Reply)). RunStands later.running p o) (sym so.runs) (rests_as later.running p none) };
      lane_store_is = ended.lane_store_is;
      card = subst (λ (c : CardRow). CardStands run_card p.card p.planned.tear c) (sym so.card) card_rests;
      lines_are = ended.lines_are;
    };
    counted = (so.more, so.is, so.same tally, so.are);
  }

  -- this exchange has ended so
  pub ends_here : (one : Bool) (later : Lane) (over : LaneStoreSeen) (host : HostData) (lines : List Line) (tally : Counts) → later.running ≡ None
      → PreparedBy p later over host lines false (before_purchase p part one)
      → ExchangeIsCounted p later over run_card tally tally lines part (lane_piece p part one false) × HostStands host (lane_piece p part one false).part.messages
  ends_here one later over host lines tally none prepared = by (before_is p lane lane_store part one resting)
    where
      by : BeforeIs p part one → ExchangeIsCounted p later over run_card tally tally lines part (lane_piece p part one false) × HostStands host (lane_piece p part one false).part.messages
      by (ends m is so) =
          let ended : IsEnded p later over host lines m = subst (λ (b : Before). PreparedBy p later over host lines false b) is prepared in
          let same : lane_piece p part one false ≡ m = ap (λ (b : Before). moved_behind p one false b) is in (
            subst (λ (x : Moved). ExchangeIsCounted p later over run_card tally tally lines part x) (sym same) (ended_led later over host lines tally m none so ended),
            subst (λ (x : Moved). HostStands host x.part.messages) (sym same) ended.messages,
          )
      by (begins is) = absurd (subst (λ (b : Before). PreparedBy p later over host lines false b) (is one) prepared)
      by (opens is) = absurd (subst (λ (b : Before). PreparedBy p later over host lines false b) is prepared)

  -- or the purchase begins on this part
  pub record BeginsOn (later : Lane) (over : LaneStoreSeen) (host : HostData) : Type 0 where
    pub on : Part
    pub starts : PartRests p later over run_card on
    pub messages : HostStands host on.messages
    pub same : on.lane.ended ≡ part.lane.ended
    pub leads : (choice : Bool) → (a : Bool) × (b : Bool) × ((lane_piece p part a b).part ≡ (piece p on choice).part)
        × ((lane_piece p part a b).lines ≡ (piece p on choice).lines)

  starts_on : (later : Lane) (over : LaneStoreSeen) (host : HostData) (on : Part) → on.card ≡ part.card → on.lane.running ≡ None
      → IsPrepared p later over host on → PartRests p later over run_card on
  starts_on later over host on card runs ready = record {
    keeps = ready.keeps;
    lane_store_is = ready.lane_store_is;
    rests = runs;
    free = ap (λ (c : CardRow). c.holder) card ∙ rests.part_rests.free;
    off = subst (λ (c : CardRow). RunCardOff run_card c.kept c.pending) (sym card) rests.part_rests.off;
    is = rests.part_rests.is;
    losses = subst (λ (c : CardRow). HasLost run_card c.losses) (sym card) rests.part_rests.losses;
  }

  pub begins_here : (one : Bool) (later : Lane) (over : LaneStoreSeen) (host : HostData) (lines : List Line)
      → PreparedBy p later over host lines true (before_purchase p part one) → BeginsOn later over host
  begins_here one later over host lines prepared = by (before_is p lane lane_store part one resting)
    where
      by : BeforeIs p part one → BeginsOn later over host
      by (ends m is so) = absurd (subst (λ (b : Before). PreparedBy p later over host lines true b) is prepared)
      by (begins is) =
          let ready : IsPrepared p later over host part = subst (λ (b : Before). PreparedBy p later over host lines true b) (is one) prepared in
          record {
            on = part;
            starts = starts_on later over host part refl rests.part_rests.rests ready;
            messages = ready.messages;
            same = refl;
            leads = λ choice.
                (let so : lane_piece p part choice false ≡ piece p part choice = ap (λ (b : Before). moved_behind p choice false b) (is choice) in
                (choice, false, ap (λ (m : Moved). m.part) so, ap (λ (m : Moved). m.lines) so));
          }
      by (opens is) =
          let on : Part = part_with (opened_to_add part.lane.store one) part in
          let ready : IsPrepared p later over host on = subst (λ (b : Before). PreparedBy p later over host lines true b) is prepared in
          record {
            on = part_with (opened_to_add part.lane.store one) part;
            starts = starts_on later over host (part_with (opened_to_add part.lane.store one) part) refl rests.part_rests.rests ready;
            messages = ready.messages;
            same = refl;
            leads = λ choice.
                (let so : lane_piece p part one choice ≡ more_chosen (piece p (part_with (opened_to_add part.lane.store one) part) choice) =
                ap (λ (b : Before). moved_behind p one choice b) is in
                (one, choice, ap (λ (m : Moved). m.part) so, ap (λ (m : Moved). m.lines) so));
          }

  -- an exchange that led there has led to the whole of it
  pub led_whole : (later : Lane) (over : LaneStoreSeen) (next : RunCardSeen) (before_it after_it : Counts) (lines : List Line) (on : Part) (m whole : Moved)
      → on.lane.ended ≡ part.lane.ended → whole.part ≡ m.part → whole.lines ≡ m.lines → ExchangeIsCounted p later over next before_it after_it lines on m
      → ExchangeIsCounted p later over next before_it after_it lines part whole
  led_whole later over next before_it after_it lines on m whole ended same told led = record {
    moved = record {
      lane_is = subst (λ (x : Part). LaneStands later p x.lane) (sym same) led.moved.lane_is;
      lane_store_is = subst (λ (x : Part). LaneStoreStands over p x.lane) (sym same) led.moved.lane_store_is;
      card = subst (λ (x : Part). CardStands next p.card p.planned.tear x.card) (sym same) led.moved.card;
      lines_are = led.moved.lines_are ∙ sym told;
    };
    counted = (
      led.counted.0,
      ap (λ (x : Part). x.lane.ended) same ∙ led.counted.1 ∙ ap (λ (pasts : List Past). pasts ++ led.counted.0) ended,
      led.counted.2,
      led.counted.3,
    );
  }
