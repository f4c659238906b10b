-- Each event leads from a sound world to a sound one.
-- Who runs has its card, and who has a card runs: the law `WorldsAreSound`.
use Rattle.std.proofs.Common.{◌≡◌, ◌≢◌, ℕ, ◌<◌, Bool, List, [], ◌∷◌, ◌++◌, length, set, Option, Some, None, refl, sym, ap, ◌∙◌, subst, inl, inr, arith}
use Rattle.std.proofs.lemmas.Bool.{cases_eq}
use Rattle.std.proofs.lemmas.List.{length-map, length-set, get_or-set_same, get_or-set_other, set-get_or}
use Rattle.std.proofs.lemmas.Option.{same_Some, slice_get_within}
use Rattle.kernel.specs.Reply.{Reply}
use Rattle.scenario_plan.specs.Plan.{ScenarioData}
use Rattle.txn_replay.specs.Part.{Part, Moved}
use Rattle.txn_replay.specs.Payment.{Payment, payment_in, next_of}
use Rattle.txn_replay.specs.Sound.{IsWorldSound, RunsIn, HeldBy, holder_in}
use Rattle.txn_replay.specs.Steps.{Settlement, Opens, Sends, part_of, lane_moved, choice_in, turned, turned_by, opens_to_settle, lane_settled, settles, with_card}
use Rattle.txn_replay.specs.Storing.{lane_piece}
use Rattle.txn_replay.specs.World.{Holder, CardRow, LaneRow, World, new_card, new_lane, first_world, card_at, lane_at}
use Rattle.txn_replay.proofs.Lists.{at_set, get_or-map_const}
use Rattle.txn_replay.proofs.ExchangeLaws.LaneMoves.{Moves, Outcome, kept, moves, lane_outcome, this_one}
use Rattle.txn_replay.proofs.ExchangeLaws.PurchaseFacts.{IsPayment, payment_facts}
use Rattle.txn_replay.proofs.ExchangeLaws.LaneMessages.{LanesLike, settle_like}

-- what is put back unchanged changes nothing
pub moved_still : (w : World) (l i : ℕ) (part : Part) → part ≡ part_of w l i
    → (record { cards = set w.cards i part.card; lanes = set w.lanes l part.lane; messages = part.messages }) ≡ w
moved_still w l i part same =
    ap (λ (x : Part). record { cards = set w.cards i x.card; lanes = set w.lanes l x.lane; messages = x.messages }) same
    ∙ (λ j. record { cards = set-get_or w.cards i new_card j; lanes = set-get_or w.lanes l new_lane j; messages = w.messages })

module _ (s : ScenarioData) (w : World) (l : ℕ) (p : Payment) (sound : IsWorldSound s w) (is : next_of s w l ≡ Some p) (m : Moved)
    (moves_so : Moves p (part_of w l p.planned.card) m.part) where
  facts : IsPayment s l p
  facts = payment_facts s l (length (lane_at w l).ended) p is

  abbrev later : World
  later = (lane_moved w l p.planned.card m).world

  lane_here : lane_at later l ≡ m.part.lane
  lane_here =
      let inside : l < length w.lanes = (let a : l < length s.lanes = facts.inside in let b : length w.lanes ≡ length s.lanes = sound.lane_count in omega arith) in
      get_or-set_same w.lanes l m.part.lane new_lane inside

  lane_there : (k : ℕ) → k ≢ l → lane_at later k ≡ lane_at w k
  lane_there k other = get_or-set_other w.lanes l k m.part.lane new_lane other

  card_here : card_at later p.planned.card ≡ m.part.card
  card_here =
      let inside : p.planned.card < length w.cards =
      (let a : p.planned.card < length s.cards = slice_get_within s.cards p.planned.card p.card facts.card in
      let b : length w.cards ≡ length s.cards = sound.card_count in omega arith) in
      get_or-set_same w.cards p.planned.card m.part.card new_card inside

  card_there : (i : ℕ) → i ≢ p.planned.card → card_at later i ≡ card_at w i
  card_there i other = get_or-set_other w.cards p.planned.card i m.part.card new_card other

  -- the same purchase is next where none has ended
  next_here : (replies : List Reply) → m.part.lane.running ≡ Some replies → next_of s later l ≡ Some p
  next_here replies ran =
      ap (λ (lane : LaneRow). payment_in s l (length lane.ended)) lane_here
      ∙ ap (λ n. payment_in s l n) (moves_so.ran replies ran).1
      ∙ is

  next_there : (k : ℕ) → k ≢ l → next_of s later k ≡ next_of s w k
  next_there k other = ap (λ (lane : LaneRow). payment_in s k (length lane.ended)) (lane_there k other)

  runs_here : (replies : List Reply) → (lane_at later l).running ≡ Some replies → RunsIn s later l
  runs_here replies ran =
      let now : m.part.lane.running ≡ Some replies = ap (λ (lane : LaneRow). lane.running) (sym lane_here) ∙ ran in
      let ended : length m.part.lane.ended ≡ length (lane_at w l).ended = (moves_so.ran replies now).1 in
      let same : length (lane_at later l).ended ≡ length (lane_at w l).ended = ap (λ (lane : LaneRow). length lane.ended) lane_here ∙ ended in
      record {
        payment = p;
        is = next_here replies now;
        holds =
            ap (λ (card : CardRow). card.holder) card_here
            ∙ (moves_so.ran replies now).0
            ∙ ap (λ (h : Holder). Some h) (λ j. record { lane = facts.lane j; number = sym same j });
      }

  runs_there : (k : ℕ) → k ≢ l → (replies : List Reply) → (lane_at later k).running ≡ Some replies → RunsIn s later k
  runs_there k other replies ran =
      let before : RunsIn s w k = sound.runs k replies (ap (λ (lane : LaneRow). lane.running) (sym (lane_there k other)) ∙ ran) in
      let elsewhere : before.payment.planned.card ≢ p.planned.card =
      (λ same. other
      (ap (λ (h : Holder). h.lane)
      (moves_so.was (holder_in w k) (ap (λ i. (card_at w i).holder) (sym same) ∙ before.holds))
      ∙ facts.lane)) in
      record {
        payment = before.payment;
        is = next_there k other ∙ before.is;
        holds =
            ap (λ (card : CardRow). card.holder) (card_there before.payment.planned.card elsewhere)
            ∙ before.holds
            ∙ ap (λ (lane : LaneRow). Some (record { lane = k; number = length lane.ended })) (sym (lane_there k other));
      }

  held_here : (h : Holder) → m.part.card.holder ≡ Some h → HeldBy s later p.planned.card h
  held_here h has =
      let one = moves_so.held h has in
      let lane : h.lane ≡ l = ap (λ (x : Holder). x.lane) one.0 ∙ facts.lane in
      record {
        replies = one.1.0;
        payment = p;
        runs = ap (λ k. (lane_at later k).running) lane ∙ ap (λ (x : LaneRow). x.running) lane_here ∙ one.1.1;
        is = ap (λ k. next_of s later k) lane ∙ next_here one.1.0 one.1.1;
        card = refl;
      }

  held_there : (i : ℕ) → i ≢ p.planned.card → (h : Holder) → (card_at w i).holder ≡ Some h → HeldBy s later i h
  held_there i other h has =
      let before : HeldBy s w i h = sound.held i h has in
      let apart : h.lane ≢ l =
      (λ same. other
      (sym before.card
      ∙ ap (λ (q : Payment). q.planned.card)
      (same_Some before.payment p (sym before.is ∙ ap (λ k. next_of s w k) same ∙ is)))) in
      record {
        replies = before.replies;
        payment = before.payment;
        runs = ap (λ (x : LaneRow). x.running) (lane_there h.lane apart) ∙ before.runs;
        is = next_there h.lane apart ∙ before.is;
        card = before.card;
      }

  runs_all : (k : ℕ) (replies : List Reply) → (lane_at later k).running ≡ Some replies → RunsIn s later k
  runs_all k replies ran =
      elim (cases_eq k l) [
        | inl same ↦ subst (λ j. RunsIn s later j) (sym same) (runs_here replies (ap (λ j. (lane_at later j).running) (sym same) ∙ ran))
        | inr other ↦ runs_there k other replies ran
      ]

  held_all : (i : ℕ) (h : Holder) → (card_at later i).holder ≡ Some h → HeldBy s later i h
  held_all i h has =
      elim (cases_eq i p.planned.card) [
        | inl same ↦
            subst (λ j. HeldBy s later j h) (sym same)
            (held_here h (ap (λ (card : CardRow). card.holder) (sym card_here) ∙ ap (λ j. (card_at later j).holder) (sym same) ∙ has))
        | inr other ↦ held_there i other h (ap (λ (card : CardRow). card.holder) (sym (card_there i other)) ∙ has)
      ]

  pub moved_sound : IsWorldSound s (lane_moved w l p.planned.card m).world
  moved_sound = record {
    card_count = length-set w.cards p.planned.card m.part.card ∙ sound.card_count;
    lane_count = length-set w.lanes l m.part.lane ∙ sound.lane_count;
    runs = runs_all;
    held = held_all;
  }

-- a purchase that runs in a sound world has its card
pub has_card : (s : ScenarioData) (w : World) (l : ℕ) (p : Payment) → IsWorldSound s w → next_of s w l ≡ Some p
    → (replies : List Reply) → (lane_at w l).running ≡ Some replies → (card_at w p.planned.card).holder ≡ Some (this_one p (part_of w l p.planned.card))
has_card s w l p sound is replies ran =
    let runs : RunsIn s w l = sound.runs l replies ran in
    let same : runs.payment ≡ p = same_Some runs.payment p (sym runs.is ∙ is) in
    let lane : p.lane ≡ l = (payment_facts s l (length (lane_at w l).ended) p is).lane in
    ap (λ (q : Payment). (card_at w q.planned.card).holder) (sym same)
    ∙ runs.holds
    ∙ ap (λ k. Some (record { lane = k; number = length (lane_at w l).ended })) (sym lane)

pub turn_sound : (s : ScenarioData) (w : World) (l : ℕ) (choices : List Bool) → IsWorldSound s w → IsWorldSound s (turned s w l choices).world
turn_sound s w l choices sound = by_next (next_of s w l) refl
  where
    by_outcome : (p : Payment) → next_of s w l ≡ Some p → (m : Moved) → Outcome p (part_of w l p.planned.card) m.part
        → IsWorldSound s (lane_moved w l p.planned.card m).world
    by_outcome p is m (kept same) = subst (λ (x : World). IsWorldSound s x) (sym (moved_still w l p.planned.card m.part same)) sound
    by_outcome p is m (moves so) = moved_sound s w l p sound is m so

    by_next : (o : Option Payment) → next_of s w l ≡ o → IsWorldSound s (turned_by w l choices o).world
    by_next None is = sound
    by_next (Some p) is =
        by_outcome p is (lane_piece p (part_of w l p.planned.card) (choice_in choices 0) (choice_in choices 1))
        (lane_outcome p (part_of w l p.planned.card) (choice_in choices 0) (choice_in choices 1) (has_card s w l p sound is))

-- the messages don't count, neither those that came to the host nor those that lanes made for it
pub like_sound : (s : ScenarioData) (w : World) (lanes : List LaneRow) (messages : List (List ℕ))
    → LanesLike (record { cards = w.cards; lanes = lanes; messages = messages }) w → IsWorldSound s w
    → IsWorldSound s (record { cards = w.cards; lanes = lanes; messages = messages })
like_sound s w lanes messages like sound = record {
  card_count = sound.card_count;
  lane_count = like.count ∙ sound.lane_count;
  runs = λ l replies ran.
      (let one : RunsIn s w l = sound.runs l replies (ap (λ (row : LaneRow). row.running) (sym (like.each l)) ∙ ran) in
      record {
        payment = one.payment;
        is = ap (λ (row : LaneRow). payment_in s l (length row.ended)) (like.each l) ∙ one.is;
        holds = one.holds ∙ ap (λ (row : LaneRow). Some (record { lane = l; number = length row.ended })) (sym (like.each l));
      });
  held = λ i h has.
      (let one : HeldBy s w i h = sound.held i h has in
      record {
        replies = one.replies;
        payment = one.payment;
        runs = ap (λ (row : LaneRow). row.running) (like.each h.lane) ∙ one.runs;
        is = ap (λ (row : LaneRow). payment_in s h.lane (length row.ended)) (like.each h.lane) ∙ one.is;
        card = one.card;
      });
}

pub settled_sound : (s : ScenarioData) (w : World) (choices : List Bool) (o : Option Settlement) → IsWorldSound s w → IsWorldSound s (settles s w choices o).world
settled_sound s w choices None sound = sound
settled_sound s w choices (Some (Opens l)) sound =
    like_sound s w (opens_to_settle w l (choice_in choices 0)).world.lanes w.messages (settle_like s w choices (Some (Opens l))) sound
settled_sound s w choices (Some (Sends l message drops)) sound =
    like_sound s w (set w.lanes l (lane_settled message drops (lane_at w l))) (w.messages ++ message ∷ [])
    (settle_like s w choices (Some (Sends l message drops))) sound

-- a card that no other purchase has afterwards
pub card_sound : (s : ScenarioData) (w : World) (i : ℕ) (card : CardRow) → card.holder ≡ (card_at w i).holder → IsWorldSound s w → IsWorldSound s (with_card w i card)
card_sound s w i card same sound = record {
  card_count = length-set w.cards i card ∙ sound.card_count;
  lane_count = sound.lane_count;
  runs = λ l replies ran.
      (let one : RunsIn s w l = sound.runs l replies ran in
      record { payment = one.payment; is = one.is; holds = holders one.payment.planned.card ∙ one.holds });
  held = λ j h has.
      (let one : HeldBy s w j h = sound.held j h (sym (holders j) ∙ has) in
      record { replies = one.replies; payment = one.payment; runs = one.runs; is = one.is; card = one.card });
}
  where
    holders : (j : ℕ) → (card_at (with_card w i card) j).holder ≡ (card_at w j).holder
    holders j = at_set (λ (k : ℕ) (x : CardRow). x.holder ≡ (card_at w k).holder) w.cards i card new_card same (λ k. refl) j

pub first_sound : (s : ScenarioData) → IsWorldSound s (first_world s)
first_sound s = record {
  card_count = length-map s.cards (λ card. new_card);
  lane_count = length-map s.lanes (λ lane. new_lane);
  runs = λ l replies ran. absurd (no_runs l replies ran);
  held = λ i h has. absurd (no_holder i h has);
}
  where
    no_runs : (l : ℕ) (replies : List Reply) → (lane_at (first_world s) l).running ≡ Some replies → ⊥
    no_runs l replies ran =
        let none : None ≡ Some replies = ap (λ (lane : LaneRow). lane.running) (sym (get_or-map_const s.lanes l new_lane)) ∙ ran in cc

    no_holder : (i : ℕ) (h : Holder) → (card_at (first_world s) i).holder ≡ Some h → ⊥
    no_holder i h has =
        let none : None ≡ Some h = ap (λ (card : CardRow). card.holder) (sym (get_or-map_const s.cards i new_card)) ∙ has in cc
