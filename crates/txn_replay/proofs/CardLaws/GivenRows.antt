-- A card's rows grow by those of the cryptograms that the lines of an exchange tell.
-- A GENERATE AC with the status 9000 adds one row, and nothing else adds one: the laws `GivenIsTold` and `GivenIsLeft`.
use Rattle.std.proofs.Common.{◌≡◌, ℕ, zero, suc, ◌+◌, ◌<◌, ◌&&◌, Bool, true, false, if◌then◌else◌, List, [], ◌∷◌, ◌++◌, length, replicate, slice_get, Option, Some, None, refl, sym, ap, ◌∙◌, subst, arith, append-nil}
use Rattle.std.proofs.lemmas.Bool.{and_parts}
use Rattle.std.proofs.lemmas.List.{get_or-set_same}
use Rattle.std.proofs.lemmas.Option.{slice_get_within}
use Rattle.apdu_core.specs.Command.{command_of}
use Rattle.apdu_core.specs.Response.{response_of}
use Rattle.capture_store.specs.StoreRow.{StoreRow, opened_to_add}
use Rattle.card_app.specs.Answering.{card_answer}
use Rattle.card_app.specs.Session.{phase_of}
use Rattle.card_cryptogram.specs.Phases.{current}
use Rattle.card_app.specs.Pages.{found_of}
use Rattle.card_app.specs.PageReplies.{CardAnswer}
use Rattle.issuer_host.specs.History.{host_reply}
use Rattle.kernel.specs.Ended.{EndData}
use Rattle.kernel.specs.Reply.{Reply}
use Rattle.report_text.specs.declared.line.Line.{Line}
use Rattle.report_text.specs.declared.line.Line.TheVariants.{EndLost}
use Rattle.txn_replay.specs.Changes.{is_generate, is_good, given_for, given_by, powered, exchanged, told_once, freed}
use Rattle.txn_replay.specs.Lines.{answer_lines, host_lines, outcome_line, settle_lines}
use Rattle.txn_replay.specs.Part.{Part, Moved, loses}
use Rattle.txn_replay.specs.Payment.{Payment}
use Rattle.txn_replay.specs.Sound.{holder_in}
use Rattle.txn_replay.specs.Steps.{After, Check, PowersUp, Asks, Settlement, Opens, Sends, part_of, lane_moved, choice_in, turned_by, settlements, settles, checks, audits, with_card, happens}
use Rattle.txn_replay.specs.Storing.{part_with, copy_lines, lane_piece}
use Rattle.txn_replay.specs.Telling.{command_told, cryptogram_told, cryptograms_behind, cryptograms_told, AreCryptogramRows, cryptograms_given, GivesRows, GivenIsTold, GivenIsLeft}
use Rattle.txn_replay.specs.World.{Holder, CryptogramGiven, CardRow, LaneRow, new_card, card_at, lane_at}
use Rattle.txn_replay.specs.declared.event.Event.TheVariants.{Turn}
use Rattle.txn_replay.proofs.AuditLaws.AuditSteps.{IsChecked, check_facts}
use Rattle.txn_replay.proofs.ExchangeLaws.ExchangeCases.{Tells, StoreTells, lane_tells}
use Rattle.txn_replay.proofs.Lists.{at_set}
use Rattle.txn_replay.proofs.ExchangeLaws.LaneMoves.{this_one}
use Rattle.txn_replay.proofs.ExchangeLaws.PurchaseFacts.{payment_facts}
use Rattle.txn_replay.proofs.CardLaws.GivenCounters.{OneRow, one_row}
use Rattle.txn_replay.proofs.RunLaws.SoundWorlds.{has_card}

-- an end line tells none
end_untold : (command : Option (List ℕ)) (lines : List Line) (lost : Bool) (lane number : ℕ) (end : EndData)
    → cryptograms_behind command (lines ++ outcome_line lost lane number end ∷ []) ≡ cryptograms_behind command lines
unfolding cryptograms_behind
end_untold None [] true lane number end = refl
end_untold None [] false lane number end = refl
end_untold (Some command) [] true lane number end = refl
end_untold (Some command) [] false lane number end = refl
end_untold command (line ∷ lines) lost lane number end =
    ap (λ (xs : List (List ℕ)). cryptogram_told command line ++ xs) (end_untold (command_told line) lines lost lane number end)

-- lines that tell none, whatever the command before them is
abbrev AreUntold : List Line → Type 0
AreUntold lines = (command : Option (List ℕ)) → cryptograms_behind command lines ≡ []

join : (a b c : List (List ℕ)) → a ++ b ≡ [] → (b ≡ [] → c ≡ []) → a ++ c ≡ []
join [] b c none rest = rest none
join (x ∷ a) b c none rest = cc

untold_behind : (command : Option (List ℕ)) (xs ys : List Line) → cryptograms_behind command xs ≡ [] → AreUntold ys → cryptograms_behind command (xs ++ ys) ≡ []
unfolding cryptograms_behind
untold_behind command [] ys none second = second command
untold_behind command (x ∷ xs) ys none second =
    join (cryptogram_told command x) (cryptograms_behind (command_told x) xs) (cryptograms_behind (command_told x) (xs ++ ys)) none
    (λ rest. untold_behind (command_told x) xs ys rest second)

untold_both : (xs ys : List Line) → AreUntold xs → AreUntold ys → AreUntold (xs ++ ys)
untold_both xs ys first second = λ command. untold_behind command xs ys (first command) second

settle_untold : (iso : Bool) (lane : ℕ) (message reply : List ℕ) → AreUntold (settle_lines iso lane message reply)
unfolding cryptograms_behind
settle_untold iso lane message reply None = refl
settle_untold iso lane message reply (Some command) = refl

lost_untold : (lane number : ℕ) → AreUntold (EndLost lane number ∷ [])
unfolding cryptograms_behind
lost_untold lane number None = refl
lost_untold lane number (Some command) = refl

none_untold : AreUntold []
unfolding cryptograms_behind
none_untold command = refl

copies_untold : (p : Payment) (message : List ℕ) (messages : List (List ℕ)) (n : ℕ) → AreUntold (copy_lines p message messages n)
copies_untold p message messages zero = none_untold
copies_untold p message messages (suc n) =
    untold_both (copy_lines p message messages n) _ (copies_untold p message messages n)
    (settle_untold p.iso p.lane message (host_reply p.issuer p.accounts (messages ++ replicate n message) message))

module _ (p : Payment) (part : Part) (h : Holder) where
  abbrev Came : LaneRow → List Reply → CardRow → List (List ℕ) → List Line → Type 0
  Came lane replies card messages lines = GivesRows p h part.card card lines

  abbrev Behind : Part → List Line → Type 0
  Behind after lines = GivesRows p h part.card after.card lines

  none : (card : CardRow) (lines : List Line) → card.given ≡ part.card.given → cryptograms_told lines ≡ [] → GivesRows p h part.card card lines
  none card lines same untold = record {
    rows = [];
    grown = same ∙ sym (append-nil part.card.given);
    are = subst (λ (xs : List (List ℕ)). AreCryptogramRows p.card.image h [] xs) (sym (by_kind p.card.canned)) tt;
  }
    where
      by_kind : (o : Option (List (List ℕ))) → cryptograms_given o lines ≡ []
      by_kind None = untold
      by_kind (Some answers) = refl

  ended : (card : CardRow) (lines : List Line) (lost : Bool) (number : ℕ) (end : EndData) → GivesRows p h part.card card lines
      → GivesRows p h part.card (freed card) (lines ++ outcome_line lost p.lane number end ∷ [])
  ended card lines lost number end gives = record {
    rows = gives.rows;
    grown = gives.grown;
    are = subst (λ (xs : List (List ℕ)). AreCryptogramRows p.card.image h gives.rows xs) (sym (by_kind p.card.canned)) gives.are;
  }
    where
      by_kind : (o : Option (List (List ℕ))) → cryptograms_given o (lines ++ outcome_line lost p.lane number end ∷ []) ≡ cryptograms_given o lines
      by_kind None = end_untold None lines lost p.lane number end
      by_kind (Some answers) = refl

  -- the rows of an answer
  record Grows (command : List ℕ) (said : CardAnswer) (test : Bool) : Type 0 where
    pub rows : List CryptogramGiven
    pub is : (if test then given_for p.card.image (part.card.kept ++ said.new) (current (phase_of p.card.image part.card.session)) part.card.holder else []) ≡ rows
    pub are : AreCryptogramRows p.card.image h rows (if test then said.answer ∷ [] else [])

  abbrev said_to : List ℕ → CardAnswer
  said_to command = card_answer p.card.image part.card.kept part.card.session command

  grows : part.card.holder ≡ Some h → (command : List ℕ) (test : Bool)
      → (is_generate (command_of command) && is_good (response_of (said_to command).answer)) ≡ test → Grows command (said_to command) test
  grows has command true is =
      let tests = and_parts (is_generate (command_of command)) (is_good (response_of (said_to command).answer)) is in
      let one : OneRow p.card.image (part.card.kept ++ (said_to command).new) (current (phase_of p.card.image part.card.session)) h (said_to command).answer =
      one_row p.card.image part.card.kept h part.card.session command tests.0 tests.1 in
      record {
        rows = one.given ∷ [];
        is =
            ap (λ (o : Option Holder). given_for p.card.image (part.card.kept ++ (said_to command).new) (current (phase_of p.card.image part.card.session)) o) has
            ∙ one.is;
        are = (one.told, tt);
      }
  grows has command false is = record { rows = []; is = refl; are = tt }

  answer_told : (command answer : List ℕ) (lane : ℕ)
      → cryptograms_told (answer_lines lane command answer) ≡ (if is_generate (command_of command) && is_good (response_of answer) then answer ∷ [] else [])
  unfolding cryptograms_behind
  answer_told command answer lane = append-nil _

  answer_gives : part.card.holder ≡ Some h → p.card.canned ≡ None → (command : List ℕ)
      → GivesRows p h part.card (exchanged p.card.image part.card command (said_to command)) (answer_lines p.lane command (said_to command).answer)
  answer_gives has apps command =
      let one : Grows command (said_to command) (is_generate (command_of command) && is_good (response_of (said_to command).answer)) =
      grows has command _ refl in
      record {
        rows = one.rows;
        grown = ap (λ (xs : List CryptogramGiven). part.card.given ++ xs) one.is;
        are =
            subst (λ (xs : List (List ℕ)). AreCryptogramRows p.card.image h one.rows xs)
            (sym (ap (λ (o : Option (List (List ℕ))). cryptograms_given o (answer_lines p.lane command (said_to command).answer)) apps
            ∙ answer_told command (said_to command).answer p.lane))
            one.are;
      }

  -- a canned answer gives none
  canned_gives : (answers : List (List ℕ)) → p.card.canned ≡ Some answers → (lines : List Line) → GivesRows p h part.card (told_once part.card) lines
  canned_gives answers canned lines = record {
    rows = [];
    grown = sym (append-nil part.card.given);
    are = subst (λ (o : Option (List (List ℕ))). AreCryptogramRows p.card.image h [] (cryptograms_given o lines)) (sym canned) tt;
  }

  host_untold : (message : List ℕ) (reply : Option (List ℕ)) → cryptograms_told (host_lines p.iso p.lane message reply) ≡ []
  unfolding cryptograms_behind
  host_untold message None = refl
  host_untold message (Some reply) = refl

  gives_told : ((replies : List Reply) → part.lane.running ≡ Some replies → part.card.holder ≡ Some h) → Tells p part Came Behind
  unfolding cryptograms_behind
  gives_told has = record {
    still = none part.card [] refl refl;
    goes = λ lane later replies card messages lines came. came;
    ends = λ lane later replies card messages lines came end is. ended card lines (loses p lane.store end.capture) (length lane.ended + 1) end came;
    powers = λ rests free apps choice. none _ _ refl refl;
    power_cut = λ rests free apps is. none _ _ refl refl;
    powers_canned = λ rests free answers canned. none _ _ refl refl;
    answers = λ replies runs apps command asks. answer_gives (has replies runs) apps command;
    cuts = λ replies runs command cut at. none _ _ refl refl;
    tells = λ replies runs answers canned command answer. canned_gives answers canned _;
    gone = λ replies runs answers canned command. none _ _ refl refl;
    hosts = λ replies runs message asks reply is. none _ _ refl (host_untold message reply);
  }

module _ (p : Payment) (part : Part) (h : Holder) where
  -- with another store it is the same
  again_told : (store : StoreRow) → ((replies : List Reply) → part.lane.running ≡ Some replies → part.card.holder ≡ Some h)
      → Tells p (part_with store part) (Came p part h) (Behind p part h)
  again_told store has = gives_told p (part_with store part) h has

  store_told : ((replies : List Reply) → part.lane.running ≡ Some replies → part.card.holder ≡ Some h) → StoreTells p part (Came p part h) (Behind p part h)
  store_told has = record {
    own = gives_told p part h has;
    again = λ one at off. again_told (opened_to_add part.lane.store one) has;
    opened = λ one at off. none p part h part.card [] refl (none_untold None);
    lost = λ at cut. none p part h part.card _ refl (lost_untold p.lane (length part.lane.ended + 1) None);
    sent = λ at message. none p part h part.card _ refl (copies_untold p message part.messages p.copies None);
    sent_lost = λ at message cut.
        none p part h part.card _ refl
        (untold_both (copy_lines p message part.messages p.copies) (EndLost p.lane (length part.lane.ended + 1) ∷ [])
        (copies_untold p message part.messages p.copies) (lost_untold p.lane (length part.lane.ended + 1)) None);
  }

pub given_told : GivenIsTold
given_told s w l choices p sound is =
    let within : p.planned.card < length w.cards =
    (let card : p.planned.card < length s.cards = slice_get_within s.cards p.planned.card p.card (payment_facts s l _ p is).card in
    let count : length w.cards ≡ length s.cards = sound.card_count in omega arith) in
    let part : Part = part_of w l p.planned.card in
    let m : Moved = lane_piece p part (choice_in choices 0) (choice_in choices 1) in
    let is_so : happens s w (Turn l) choices ≡ lane_moved w l p.planned.card m = ap (λ (o : Option Payment). turned_by w l choices o) is in
    let here : card_at (lane_moved w l p.planned.card m).world p.planned.card ≡ m.part.card = get_or-set_same w.cards p.planned.card m.part.card new_card within in
    let one : GivesRows p (this_one p part) (card_at w p.planned.card) m.part.card m.lines =
    lane_tells p part (Came p part (this_one p part)) (Behind p part (this_one p part)) (store_told p part (this_one p part) (has_card s w l p sound is))
    (choice_in choices 0) (choice_in choices 1) in
    let lane : p.lane ≡ l = (payment_facts s l (length (lane_at w l).ended) p is).lane in
    subst (λ (x : After). GivesRows p (holder_in w l) (card_at w p.planned.card) (card_at x.world p.planned.card) x.lines) (sym is_so)
    (subst (λ (card : CardRow). GivesRows p (holder_in w l) (card_at w p.planned.card) card m.lines) (sym here)
    (subst (λ k. GivesRows p (record { lane = k; number = length (lane_at w l).ended }) (card_at w p.planned.card) m.part.card m.lines) lane one))

pub given_left : GivenIsLeft
given_left s w k choices = record {
  settle = λ i. settle_left i (slice_get (settlements s w) k);
  audit = λ i. audit_left i (slice_get (checks s) k) (check_facts s k);
}
  where
    settle_left : (i : ℕ) (o : Option Settlement) → (card_at (settles s w choices o).world i).given ≡ (card_at w i).given
    settle_left i None = refl
    settle_left i (Some (Opens l)) = refl
    settle_left i (Some (Sends l message drops)) = refl

    with_left : (i j : ℕ) (card : CardRow) → card.given ≡ (card_at w j).given → (card_at (with_card w j card) i).given ≡ (card_at w i).given
    with_left i j card same = at_set (λ (n : ℕ) (x : CardRow). x.given ≡ (card_at w n).given) w.cards j card new_card same (λ n. refl) i

    audit_left : (i : ℕ) (o : Option Check) → ((check : Check) → o ≡ Some check → IsChecked s.cards 0 check)
        → (card_at (audits w choices o).world i).given ≡ (card_at w i).given
    audit_left i None checked = refl
    audit_left i (Some (PowersUp j card)) checked =
        with_left i j (powered (card_at w j) (found_of (card_at w j).kept (card_at w j).pending (choice_in choices 0)) (card_at w j).holder) refl
    audit_left i (Some (Asks j card command)) checked =
        with_left i j (exchanged card.image (card_at w j) command said)
        (ap (λ (xs : List CryptogramGiven). (card_at w j).given ++ xs) plain ∙ append-nil (card_at w j).given)
      where
        said : CardAnswer
        said = card_answer card.image (card_at w j).kept (card_at w j).session command

        plain : given_by card.image (card_at w j) command said ≡ []
        plain =
            ap (λ b. if b && is_good (response_of said.answer)
            then given_for card.image ((card_at w j).kept ++ said.new) (current (phase_of card.image (card_at w j).session)) (card_at w j).holder else [])
            (checked (Asks j card command) refl).of_it.3
