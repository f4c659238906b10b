-- Behind an answer, every decision that a card has kept is sure.
-- No power-up loses what an answer rests on: the laws `HeldIsSure` and `AnsweredIsSure`.
use Rattle.std.proofs.Common.{◌≡◌, ℕ, zero, suc, Bool, ◌+◌, ◌<◌, true, false, List, [], ◌∷◌, ◌++◌, length, slice_get, Option, Some, None, refl, sym, ap, ◌∙◌, subst, arith, append-nil}
use Rattle.std.specs.Prelude.{◌||◌}
use Rattle.std.specs.List.{list_any}
use Rattle.std.proofs.lemmas.List.{get_or-set_same}
use Rattle.std.proofs.lemmas.Option.{slice_get_within}
use Rattle.capture_store.specs.StoreRow.{StoreRow, opened_to_add}
use Rattle.card_app.specs.Answering.{card_answer}
use Rattle.card_files.specs.Views.{ImageData}
use Rattle.card_app.specs.Pages.{found_of}
use Rattle.card_state.specs.Decisions.{Decided}
use Rattle.kernel.specs.Ended.{EndData}
use Rattle.kernel.specs.Reply.{Reply}
use Rattle.report_text.specs.declared.line.Line.{Line}
use Rattle.report_text.specs.declared.line.Line.TheVariants.{EndLost}
use Rattle.txn_replay.specs.Changes.{powered, exchanged}
use Rattle.txn_replay.specs.Laws.{DecisionsTaken, sure_with, taken_in}
use Rattle.txn_replay.specs.Lines.{host_lines, outcome_line}
use Rattle.txn_replay.specs.Part.{Part, Moved, loses}
use Rattle.txn_replay.specs.Payment.{Payment}
use Rattle.txn_replay.specs.Sound.{HeldBy}
use Rattle.txn_replay.specs.Steps.{After, part_of, lane_moved, choice_in, turned_by, happens}
use Rattle.txn_replay.specs.Storing.{part_with, copy_lines, lane_piece}
use Rattle.txn_replay.specs.Telling.{is_answer, IsSure, HeldIsSure, AnsweredIsSure}
use Rattle.txn_replay.specs.World.{Holder, Found, Answering, CardRow, LaneRow, new_card, card_at, lane_at}
use Rattle.txn_replay.specs.declared.event.Event.TheVariants.{Turn}
use Rattle.txn_replay.proofs.CardLaws.CardKept.{Closed}
use Rattle.txn_replay.proofs.ExchangeLaws.ExchangeCases.{Tells, StoreTells, lane_tells}
use Rattle.txn_replay.proofs.RunLaws.CardsReached.{AllHold, reached_holds}
use Rattle.txn_replay.proofs.ExchangeLaws.LaneMoves.{this_one}
use Rattle.txn_replay.proofs.ExchangeLaws.PurchaseFacts.{payment_facts}
use Rattle.txn_replay.proofs.CardLaws.FoundPrefixes.{taken-push}
use Rattle.txn_replay.proofs.RunLaws.SoundWorlds.{has_card}

abbrev HeldSure : ImageData → CardRow → Type 0
HeldSure image card = (h : Holder) → card.holder ≡ Some h → IsSure card

-- a power-up found them all
found_sure : (card : CardRow) (found : List Decided) (holder : Option Holder) → IsSure (powered card found holder)
found_sure card found holder = record {
  all = ap (λ (t : DecisionsTaken). t.all) (taken-push card.acts (Found found));
  sure = ap (λ (t : DecisionsTaken). t.sure) (taken-push card.acts (Found found));
}

-- an answer makes those sure that were taken for it
answer_sure : (image : ImageData) (card : CardRow) (command : List ℕ) → IsSure card
    → IsSure (exchanged image card command (card_answer image card.kept card.session command))
answer_sure image card command is = record {
  all = ap (λ (t : DecisionsTaken). t.all) (taken-push card.acts (Answering new)) ∙ ap (λ (ds : List Decided). ds ++ new) is.all;
  sure = ap (λ (t : DecisionsTaken). t.sure) (taken-push card.acts (Answering new)) ∙ by_new new;
}
  where
    new : List Decided
    new = (card_answer image card.kept card.session command).new

    by_new : (ds : List Decided) → sure_with (taken_in card.acts) ds ≡ card.kept ++ ds
    by_new [] = is.sure ∙ sym (append-nil card.kept)
    by_new (d ∷ ds) = ap (λ (xs : List Decided). xs ++ d ∷ ds) is.all

held_closed : Closed HeldSure
held_closed = record {
  first = λ image h none. cc;
  powers = λ image card with_it holder sure h has. found_sure card (found_of card.kept card.pending with_it) holder;
  answers = λ image card command live sure h has. answer_sure image card command (sure h has);
  tells = λ image card sure h has. record { all = (sure h has).all; sure = (sure h has).sure };
  cuts = λ image card tear cut h is sure other none. cc;
  loses = λ image card sure h has. record { all = (sure h has).all; sure = (sure h has).sure };
  frees = λ image card sure h none. cc;
}

-- no line of these is an answer
any_end : (lines : List Line) (lost : Bool) (lane number : ℕ) (end : EndData)
    → list_any is_answer (lines ++ outcome_line lost lane number end ∷ []) ≡ list_any is_answer lines
any_end [] true lane number end = refl
any_end [] false lane number end = refl
any_end (line ∷ lines) lost lane number end = ap (λ b. is_answer line || b) (any_end lines lost lane number end)

any_both : (xs ys : List Line) → list_any is_answer xs ≡ false → list_any is_answer ys ≡ false → list_any is_answer (xs ++ ys) ≡ false
any_both [] ys first second = second
any_both (x ∷ xs) ys first second = by (λ (none : list_any is_answer xs ≡ false). any_both xs ys none second) (is_answer x) first
  where
    by : (list_any is_answer xs ≡ false → list_any is_answer (xs ++ ys) ≡ false) → (b : Bool) → (b || list_any is_answer xs) ≡ false
        → (b || list_any is_answer (xs ++ ys)) ≡ false
    by later true none = none
    by later false none = later none

any_copies : (p : Payment) (message : List ℕ) (messages : List (List ℕ)) (n : ℕ) → list_any is_answer (copy_lines p message messages n) ≡ false
any_copies p message messages zero = refl
any_copies p message messages (suc n) = any_both (copy_lines p message messages n) _ (any_copies p message messages n) refl

module _ (p : Payment) (part : Part) (sure : HeldSure p.card.image part.card)
    (has : (replies : List Reply) → part.lane.running ≡ Some replies → part.card.holder ≡ Some (this_one p part)) where
  abbrev Came : LaneRow → List Reply → CardRow → List (List ℕ) → List Line → Type 0
  Came lane replies card messages lines = list_any is_answer lines ≡ true → IsSure card

  abbrev Behind : Part → List Line → Type 0
  Behind after lines = list_any is_answer lines ≡ true → IsSure after.card

  host_none : (message : List ℕ) (reply : Option (List ℕ)) → list_any is_answer (host_lines p.iso p.lane message reply) ≡ true → ⊥
  host_none message None some = cc
  host_none message (Some reply) some = cc

  sure_told : Tells p part Came Behind
  sure_told = record {
    still = λ some. cc;
    goes = λ lane later replies card messages lines came some. came some;
    ends = λ lane later replies card messages lines came end is some.
        (let one : IsSure card = came (sym (any_end lines (loses p lane.store end.capture) p.lane (length lane.ended + 1) end) ∙ some) in record { all = one.all; sure = one.sure });
    powers = λ rests free apps choice some. cc;
    power_cut = λ rests free apps is some. cc;
    powers_canned = λ rests free answers canned some. cc;
    answers = λ replies runs apps command asks some. answer_sure p.card.image part.card command (sure (this_one p part) (has replies runs));
    cuts = λ replies runs command cut at some. cc;
    tells = λ replies runs answers canned command answer some.
        (let one : IsSure part.card = sure (this_one p part) (has replies runs) in record { all = one.all; sure = one.sure });
    gone = λ replies runs answers canned command some. cc;
    hosts = λ replies runs message asks reply is some. absurd (host_none message reply some);
  }

module _ (p : Payment) (part : Part) (sure : HeldSure p.card.image part.card)
    (has : (replies : List Reply) → part.lane.running ≡ Some replies → part.card.holder ≡ Some (this_one p part)) where
  -- with another store it is the same
  again_sure : (store : StoreRow) → Tells p (part_with store part) (Came p part sure has) (Behind p part sure has)
  again_sure store = sure_told p (part_with store part) sure has

  not_any : {A : Type 0} (lines : List Line) → list_any is_answer lines ≡ false → list_any is_answer lines ≡ true → A
  not_any lines none some = let no : true ≡ false = sym some ∙ none in cc

  store_sure : StoreTells p part (Came p part sure has) (Behind p part sure has)
  store_sure = record {
    own = sure_told p part sure has;
    again = λ one at off. again_sure (opened_to_add part.lane.store one);
    opened = λ one at off some. cc;
    lost = λ at cut some. cc;
    sent = λ at message some. not_any (copy_lines p message part.messages p.copies) (any_copies p message part.messages p.copies) some;
    sent_lost = λ at message cut some.
        not_any (copy_lines p message part.messages p.copies ++ EndLost p.lane (length part.lane.ended + 1) ∷ [])
        (any_both (copy_lines p message part.messages p.copies) (EndLost p.lane (length part.lane.ended + 1) ∷ [])
        (any_copies p message part.messages p.copies) refl) some;
  }

pub held_sure : HeldIsSure
held_sure s place n choices lines w i h reached has =
    let hold : AllHold HeldSure s w = reached_holds HeldSure held_closed s place n choices lines w reached in
    let held : HeldBy s w i h = hold.sound.held i h has in
    let there : slice_get s.cards i ≡ Some held.payment.card =
    ap (λ j. slice_get s.cards j) (sym held.card) ∙ (payment_facts s h.lane (length (lane_at w h.lane).ended) held.payment held.is).card in
    hold.cards i held.payment.card there h has

pub answered_sure : AnsweredIsSure
answered_sure s place n taken lines w l choices p reached is some =
    let hold : AllHold HeldSure s w = reached_holds HeldSure held_closed s place n taken lines w reached in
    let there : slice_get s.cards p.planned.card ≡ Some p.card = (payment_facts s l _ p is).card in
    let within : p.planned.card < length w.cards =
    (let card : p.planned.card < length s.cards = slice_get_within s.cards p.planned.card p.card there in
    let count : length w.cards ≡ length s.cards = hold.sound.card_count in omega arith) in
    let part : Part = part_of w l p.planned.card in
    let m : Moved = lane_piece p part (choice_in choices 0) (choice_in choices 1) in
    let is_so : happens s w (Turn l) choices ≡ lane_moved w l p.planned.card m = ap (λ (o : Option Payment). turned_by w l choices o) is in
    let here : card_at (lane_moved w l p.planned.card m).world p.planned.card ≡ m.part.card = get_or-set_same w.cards p.planned.card m.part.card new_card within in
    let sure : HeldSure p.card.image (card_at w p.planned.card) = hold.cards p.planned.card p.card there in
    let has : (replies : List Reply) → part.lane.running ≡ Some replies → part.card.holder ≡ Some (this_one p part) = has_card s w l p hold.sound is in
    let one : IsSure m.part.card =
    lane_tells p part (Came p part sure has) (Behind p part sure has) (store_sure p part sure has) (choice_in choices 0) (choice_in choices 1)
    (ap (λ (x : After). list_any is_answer x.lines) (sym is_so) ∙ some) in
    subst (λ (x : After). IsSure (card_at x.world p.planned.card)) (sym is_so) (subst (λ (card : CardRow). IsSure card) (sym here) one)
