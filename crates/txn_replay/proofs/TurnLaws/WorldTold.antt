-- What the values of a run tell of its world.
-- What reading gave, how purchases have ended, and how many, are those of the world.
use Rattle.std.proofs.Common.{◌≡◌, ◌≢◌, ◌⊎◌, ℕ, zero, suc, ◌+◌, ◌-◌, ◌≤◌, ◌<◌, true, false, ◌&&◌, eqb, List, [], ◌∷◌, length, get_or, slice_get, Option, Some, None, refl, sym, ap, ◌∙◌, subst, inl, inr, arith}
use Rattle.std.specs.Global.{Box}
use Rattle.std.specs.List.{All, sum_by}
use Rattle.std.specs.Prelude.{◌==◌, is_none, option_map, option_and_then}
use Rattle.std.proofs.lemmas.Bool.{cases_order}
use Rattle.std.proofs.lemmas.Bool.Decides.{eqb_tells}
use Rattle.std.proofs.lemmas.List.Elements.{All-nil}
use Rattle.std.proofs.lemmas.List.Sums.{sum_by-cons}
use Rattle.auth_message.specs.Whole.{IsMessage}
use Rattle.std.proofs.lemmas.Option.{slice_get_within, slice_get_past, get_or_from_slice_get}
use Rattle.card_files.specs.Files.{opening_of}
use Rattle.card_files.specs.Views.{ImageData}
use Rattle.card_app.specs.Pages.{MayStand}
use Rattle.card_state.specs.Decisions.{Decided}
use Rattle.emv_ports.specs.Memory.{Memory, IsBlank}
use Rattle.emv_ports.specs.declared.tear.Tear.{Tear}
use Rattle.kernel.specs.Dialogue.{dialogue}
use Rattle.kernel.specs.Kernel.{KernelData, KernelStands, outset_in}
use Rattle.kernel.specs.Reply.{Reply}
use Rattle.object_lists.specs.CardRead.{ReadCard}
use Rattle.scenario_plan.specs.Cards.{CardData}
use Rattle.scenario_plan.specs.Plan.{ScenarioData, IsScenario}
use Rattle.scenario_lanes.specs.Plan.{LaneData, HasCards, purchase_count}
use Rattle.scenario_lanes.specs.declared.plan.Planned.{Planned}
use Rattle.terminal_state.specs.StepResults.{latest, sets_card}
use Rattle.terminal_state.specs.Terminal.{Outset}
use Rattle.txn_replay.proofs.RunLaws.FewEvents.{sum_below}
use Rattle.txn_replay.proofs.Lists.{some_at}
use Rattle.txn_replay.specs.Banked.{IsRunCardLeft, AreGiven}
use Rattle.txn_replay.specs.Bounds.{purchases_in}
use Rattle.txn_replay.specs.Payment.{Payment, payment_with, payment_of, payment_on, payment_in, next_of, outset_for}
use Rattle.txn_replay.specs.Reading.{data_by, data_at, data_after}
use Rattle.txn_replay.specs.Respelled.{AreMessages}
use Rattle.txn_replay.specs.Run.{lane_over, all_below, all_over, ended_count}
use Rattle.txn_replay.specs.Seen.{WorldSeen, RunFor, LaneAt, WorldStands, is_lane_done, done_below, is_done, PagesAre, plan_for}
use Rattle.txn_replay.specs.RunCard.{RunCardSeen, OfApps, OfCanned, RunCardOn, RunCardOff, IsRunCardOf, HasLost}
use Rattle.txn_replay.specs.Sound.{RunsIn}
use Rattle.txn_replay.specs.Standing.{RunStands, PlaceStands, card_last_read}
use Rattle.txn_replay.specs.World.{Holder, CardRow, LaneRow, World, new_lane, card_at, lane_at}
use Rattle.txn_replay.specs.declared.lane.Lane.{Lane}

-- a purchase is left exactly where fewer have ended than the lane has
pub is_left : (s : ScenarioData) (l n : ℕ) (terminal : LaneData) → IsScenario s → slice_get s.lanes l ≡ Some terminal → n ≤ length terminal.purchases
    → is_none (payment_in s l n) ≡ (n == length terminal.purchases)
unfolding payment_in
is_left s l n terminal fits there within =
    ap (λ (o : Option LaneData). is_none (option_and_then (payment_on s l n) o)) there ∙ by (eqb_tells n (length terminal.purchases))
  where
    cards : HasCards (length s.cards) terminal
    cards =
        subst (λ (x : LaneData). HasCards (length s.cards) x) (get_or_from_slice_get s.lanes l terminal terminal there)
        (fits.known_cards l terminal (slice_get_within s.lanes l terminal there))

    by_card : (planned : Planned) → planned.card < length s.cards → is_none (payment_of s l terminal planned) ≡ false
    by_card planned inside =
        let card = some_at s.cards planned.card inside in
        ap (λ (o : Option CardData). is_none (option_map (payment_with s l terminal planned) o)) card.1

    by_planned : n < length terminal.purchases → is_none (payment_on s l n terminal) ≡ false
    by_planned inside =
        let planned = some_at terminal.purchases n inside in
        let card : planned.0.card < length s.cards =
        subst (λ (x : Planned). x.card < length s.cards) (get_or_from_slice_get terminal.purchases n planned.0 planned.0 planned.1) (cards n planned.0 inside) in
        ap (λ (o : Option Planned). is_none (option_and_then (payment_of s l terminal) o)) planned.1 ∙ by_card planned.0 card

    by : ((eqb n (length terminal.purchases) ≡ true) × (n ≡ length terminal.purchases))
        ⊎ ((eqb n (length terminal.purchases) ≡ false) × (n ≢ length terminal.purchases))
        → is_none (payment_on s l n terminal) ≡ (n == length terminal.purchases)
    by (inl same) =
        ap (λ (o : Option Planned). is_none (option_and_then (payment_of s l terminal) o)) (slice_get_past terminal.purchases n (omega (arith, same.1)))
        ∙ sym same.0
    by (inr other) = by_planned (less other.1) ∙ sym other.0
      where
        less : n ≢ length terminal.purchases → n < length terminal.purchases
        less differs = elim (cases_order n (length terminal.purchases)) [
          | inl same ↦ absurd (differs same)
          | inr (inl before) ↦ before
          | inr (inr behind) ↦ absurd (omega arith)
        ]

module _ (v : WorldSeen) (w : World) (stands : WorldStands v w) where
  module _ (l : ℕ) (lane : Lane) (there : slice_get v.lanes l ≡ Some lane) where
    at : LaneAt v.scenario l lane (lane_at w l)
    at = stands.lanes l lane there

    -- nothing runs in a lane without a terminal
    pub lane_rests : lane.running ≡ None → (lane_at w l).running ≡ None
    lane_rests none = by (lane_at w l).running refl
      where
        by_payment : (replies : List Reply) (o : Option Payment) → next_of v.scenario w l ≡ o → (lane_at w l).running ≡ Some replies → ⊥
        by_payment replies None is ran =
            let runs : RunsIn v.scenario w l = stands.sound.runs l replies ran in
            let both : None ≡ Some runs.payment = sym is ∙ runs.is in cc
        by_payment replies (Some p) is ran =
            let run : RunStands lane.running p (lane_at w l).running = subst (λ (o : Option Payment). RunFor lane (lane_at w l) o) is at.runs in
            subst (λ (k : Option (Box KernelData)). RunStands k p (Some replies)) none (subst (λ (o : Option (List Reply)). RunStands lane.running p o) ran run)

        by : (o : Option (List Reply)) → (lane_at w l).running ≡ o → (lane_at w l).running ≡ None
        by None ran = ran
        by (Some replies) ran = absurd (by_payment replies (next_of v.scenario w l) refl ran)

    -- the purchase of a terminal that runs, and what it was told
    pub record Told (kernel : Box KernelData) : Type 0 where
      pub payment : Payment
      pub replies : List Reply
      pub is : next_of v.scenario w l ≡ Some payment
      pub ran : (lane_at w l).running ≡ Some replies
      pub told : KernelStands kernel.value replies
      pub outset : outset_in kernel.value ≡ outset_for payment

    pub lane_told : (kernel : Box KernelData) → lane.running ≡ Some kernel → Told kernel
    lane_told kernel runs = by_payment (next_of v.scenario w l) refl
      where
        by_replies : (p : Payment) → next_of v.scenario w l ≡ Some p → (o : Option (List Reply)) → (lane_at w l).running ≡ o → RunStands (Some kernel) p o → Told kernel
        by_replies p is None ran stood = absurd stood
        by_replies p is (Some replies) ran stood = record { payment = p; replies = replies; is = is; ran = ran; told = stood.0; outset = stood.1 }

        by_payment : (o : Option Payment) → next_of v.scenario w l ≡ o → Told kernel
        by_payment None is =
            let none : lane.running ≡ None = subst (λ (o : Option Payment). RunFor lane (lane_at w l) o) is at.runs in
            let both : None ≡ Some kernel = sym none ∙ runs in cc
        by_payment (Some p) is =
            let run : RunStands lane.running p (lane_at w l).running = subst (λ (o : Option Payment). RunFor lane (lane_at w l) o) is at.runs in
            by_replies p is (lane_at w l).running refl (subst (λ (k : Option (Box KernelData)). RunStands k p (lane_at w l).running) runs run)

    pub rests_data : lane.running ≡ None → card_last_read lane.place ≡ data_at v.scenario w l
    rests_data none = at.keeps.card none ∙ sym (ap (λ (o : Option (List Reply)). data_by v.scenario w l o) (lane_rests none))

    pub told_data : (kernel : Box KernelData) (given : Option ReadCard) → lane.running ≡ Some kernel
        → ((replies : List Reply) → KernelStands kernel.value replies → given ≡ latest sets_card None (dialogue (outset_in kernel.value) replies).steps_done)
        → given ≡ data_at v.scenario w l
    told_data kernel given runs gives =
        let run : Told kernel = lane_told kernel runs in
        gives run.replies run.told
        ∙ ap (λ (d : Outset). latest sets_card None (dialogue d run.replies).steps_done) run.outset
        ∙ sym (ap (λ (o : Option (List Reply)). data_by v.scenario w l o) run.ran
        ∙ ap (λ (o : Option Payment). option_and_then (data_after run.replies) o) run.is)

    -- it is over exactly where its values say so
    pub lane_is_over : (terminal : LaneData) → IsScenario v.scenario → slice_get v.scenario.lanes l ≡ Some terminal
        → is_lane_done (Some terminal) (Some lane) ≡ lane_over v.scenario w l
    lane_is_over terminal fits is =
        let within : length (lane_at w l).ended ≤ length terminal.purchases =
        subst (λ (o : Option LaneData). length (lane_at w l).ended ≤ purchases_in o) is (stands.few l).ended in
        (λ i. running lane.running refl i && ended within i)
      where
        running : (o : Option (Box KernelData)) → lane.running ≡ o → is_none lane.running ≡ is_none (lane_at w l).running
        running None none = ap is_none none ∙ sym (ap is_none (lane_rests none))
        running (Some kernel) some = ap is_none some ∙ sym (ap is_none (lane_told kernel some).ran)

        ended : length (lane_at w l).ended ≤ length terminal.purchases → (lane.ended == length terminal.purchases) ≡ is_none (next_of v.scenario w l)
        ended within =
            ap (λ n. n == length terminal.purchases) at.keeps.ended
            ∙ sym (is_left v.scenario l (length (lane_at w l).ended) terminal fits is within)

  -- and so are all of them
  module _ (fits : IsScenario v.scenario) (count : length v.lanes ≡ length v.scenario.lanes) where
    below_is : (n : ℕ) → n ≤ length v.scenario.lanes → done_below v.scenario.lanes v.lanes n ≡ all_below v.scenario w n
    below_is zero within = refl
    below_is (suc n) within =
        let terminal = some_at v.scenario.lanes n (omega arith) in
        let lane = some_at v.lanes n (omega arith) in
        ap (λ (o : Option LaneData). is_lane_done o (slice_get v.lanes n) && done_below v.scenario.lanes v.lanes n) terminal.1
        ∙ ap (λ (o : Option Lane). is_lane_done (Some terminal.0) o && done_below v.scenario.lanes v.lanes n) lane.1
        ∙ ap (λ b. b && done_below v.scenario.lanes v.lanes n) (lane_is_over n lane.0 lane.1 terminal.0 fits terminal.1)
        ∙ ap (λ b. lane_over v.scenario w n && b) (below_is n (omega arith))

    pub done_is : is_done v ≡ all_over v.scenario w
    done_is = below_is (length v.scenario.lanes) (omega arith)

-- how many have ended, by the values and by the world
ended_all : (lanes : List Lane) (rows : List LaneRow) → length lanes ≡ length rows
    → ((l : ℕ) (lane : Lane) → slice_get lanes l ≡ Some lane → lane.ended ≡ length (get_or rows l new_lane).ended)
    → sum_by (λ lane. lane.ended) lanes ≡ sum_by (λ row. length row.ended) rows
ended_all [] [] count each = refl
ended_all [] (row ∷ rows) count each = absurd (omega arith)
ended_all (lane ∷ lanes) [] count each = absurd (omega arith)
ended_all (lane ∷ lanes) (row ∷ rows) count each =
    let one : lane.ended ≡ length row.ended = each 0 lane refl in
    let others : sum_by (λ (x : Lane). x.ended) lanes ≡ sum_by (λ (r : LaneRow). length r.ended) rows =
    ended_all lanes rows (omega arith) (λ l other there. each (suc l) other there) in
    let left : sum_by (λ (x : Lane). x.ended) (lane ∷ lanes) ≡ lane.ended + sum_by (λ (x : Lane). x.ended) lanes = sum_by-cons (λ (x : Lane). x.ended) lane lanes in
    let right : sum_by (λ (r : LaneRow). length r.ended) (row ∷ rows) ≡ length row.ended + sum_by (λ (r : LaneRow). length r.ended) rows =
    sum_by-cons (λ (r : LaneRow). length r.ended) row rows in
    omega arith

pub ended_is : (v : WorldSeen) (w : World) → WorldStands v w → length v.lanes ≡ length v.scenario.lanes → sum_by (λ lane. lane.ended) v.lanes ≡ ended_count w
ended_is v w stands count =
    ended_all v.lanes w.lanes (count ∙ sym stands.sound.lane_count) (λ l lane there. (stands.lanes l lane there).keeps.ended)

pub ended_few : (v : WorldSeen) (w : World) → WorldStands v w → ended_count w ≤ purchase_count v.scenario.lanes
ended_few v w stands =
    sum_below (λ row. length row.ended) w.lanes v.scenario.lanes stands.sound.lane_count
    (λ l row there. subst (λ (r : LaneRow). length r.ended ≤ purchases_in (slice_get v.scenario.lanes l))
    (get_or_from_slice_get w.lanes l row new_lane there) (stands.few l).ended)

-- the pages of a card stand for it, and those of one of canned answers are blank
pages_are : (run_card : RunCardSeen) (memory : Memory) (card : CardData) (row : CardRow) (plan : Option Tear) → IsRunCardLeft run_card memory → IsRunCardOf run_card card
    → HasLost run_card row.losses → RunCardOff run_card row.kept row.pending ⊎ RunCardOn run_card row plan → PagesAre memory card row card.canned
pages_are (OfApps icc) memory card row plan left is lost stands =
    subst (λ (o : Option (List (List ℕ))). PagesAre memory card row o) (sym is.0)
    (record {
      off = left.off;
      may = subst (λ (image : ImageData). MayStand memory.cells image.version (opening_of image) row.kept row.pending) is.1
          (elim stands [
            | inl off ↦ left.may row.kept row.pending off
            | inr on ↦
                subst (λ (o : Option Decided). MayStand memory.cells icc.image.version (opening_of icc.image) row.kept o) (sym on.1)
                (left.stands row.session row.kept plan row.made on.0)
          ]);
      losses = left.losses ∙ lost;
    })
pages_are (OfCanned canned) memory card row plan left is lost stands =
    subst (λ (o : Option (List (List ℕ))). PagesAre memory card row o) (sym is.0) (subst (λ (m : Memory). IsBlank m) (sym left) is.1)

-- each card's pages, at its place
pub given_cards : (v : WorldSeen) (w : World) (bank : List Memory) → WorldStands v w → length v.run_cards ≡ length v.scenario.cards → AreGiven v.run_cards 0 bank
    → (i : ℕ) (card : CardData) → slice_get v.scenario.cards i ≡ Some card
    → (memory : Memory) × (slice_get bank i ≡ Some memory) × PagesAre memory card (card_at w i) card.canned
given_cards v w bank stands count given i card is =
    let within : i < length v.run_cards = (let a : i < length v.scenario.cards = slice_get_within v.scenario.cards i card is in omega arith) in
    let run_card = some_at v.run_cards i within in
    let one = given i run_card.0 (omega arith) run_card.1 in
    let place : i - 0 ≡ i = omega arith in (
      one.0,
      ap (λ n. slice_get bank n) (sym place) ∙ one.1,
      elim (stands.run_cards i run_card.0 card run_card.1 is) [
        | inl here ↦
            pages_are run_card.0 one.0 card (card_at w i) (plan_for v.scenario (card_at w i).holder) one.2 here.is here.losses
            (placed run_card.0 (card_at w i) (plan_for v.scenario (card_at w i).holder) (card_at w i).holder here.stands)
        | inr audited ↦ pages_are run_card.0 one.0 card (card_at w i) None one.2 audited.is audited.losses (inr audited.on)
      ],
    )
  where
    placed : (run_card : RunCardSeen) (row : CardRow) (plan : Option Tear) (holder : Option Holder) → PlaceStands run_card plan row holder
        → RunCardOff run_card row.kept row.pending ⊎ RunCardOn run_card row plan
    placed run_card row plan None off = inl off
    placed run_card row plan (Some h) on = inr on

-- what isn't there is the default
absent : {A : Type 0} (xs : List A) (i : ℕ) (d : A) → slice_get xs i ≡ None → get_or xs i d ≡ d
absent [] i d none = refl
absent (x ∷ xs) zero d none = cc
absent (x ∷ xs) (suc i) d none = absent xs i d none

-- what the lanes have made for the host are messages
pub made_messages : (v : WorldSeen) (w : World) → WorldStands v w → length v.lanes ≡ length v.scenario.lanes → AreMessages w
made_messages v w stands count l = by (slice_get w.lanes l) refl
  where
    by : (o : Option LaneRow) → slice_get w.lanes l ≡ o → All IsMessage (lane_at w l).sent
    by None none = subst (λ (row : LaneRow). All IsMessage row.sent) (sym (absent w.lanes l new_lane none)) (All-nil IsMessage)
    by (Some row) there =
        let inside : l < length v.lanes =
        (let a : l < length w.lanes = slice_get_within w.lanes l row there in let b : length w.lanes ≡ length v.scenario.lanes = stands.sound.lane_count in omega arith) in
        let lane = some_at v.lanes l inside in
        (stands.lanes l lane.0 lane.1).keeps.sent
