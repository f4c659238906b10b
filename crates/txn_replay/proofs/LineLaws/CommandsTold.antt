-- Each command of a run's lines is what the dialogue asks there, and the line behind it its answer: the laws `RunsAsk` and `WholeRunsAsk`.
use Rattle.std.proofs.Common.{◌≡◌, ◌⊎◌, ℕ, zero, suc, ◌+◌, ◌<◌, ◌≤◌, ◌||◌, Bool, true, false, List, [], ◌∷◌, ◌++◌, length, replicate, take, slice_get, Option, Some, None, refl, sym, ap, ◌∙◌, subst, inl, inr, arith}
use Rattle.std.specs.Prelude.{ℤ}
use Rattle.std.specs.List.{flat_map, list_any}
use Rattle.std.proofs.Math.Seq.{take-append_seam}
use Rattle.std.proofs.lemmas.List.{take-append-le}
use Rattle.std.proofs.lemmas.Option.{same_Some}
use Rattle.arrayvec.specs.ArrayVec.{ArrayVec}
use Rattle.capture_store.specs.StoreRow.{opened_to_add, is_next_cut}
use Rattle.card_app.specs.Answering.{card_answer}
use Rattle.card_app.specs.Cuts.{Cut, cut_of}
use Rattle.card_app.specs.Pages.{found_of}
use Rattle.emv_ports.specs.Cut.{names_commit}
use Rattle.host_link.specs.Delivery.{heard}
use Rattle.issuer_host.specs.Account.{AccountData}
use Rattle.issuer_host.specs.History.{balance_after, host_reply}
use Rattle.kernel.specs.Dialogue.{dialogue}
use Rattle.kernel.specs.Ended.{EndData}
use Rattle.kernel.specs.Reply.{Reply, CardSaid, CardGone, from_host, Deed, ToHost, Over}
use Rattle.kernel.specs.Reply.{ToCard as asks_card}
use Rattle.report_text.specs.declared.line.Line.{Line}
use Rattle.report_text.specs.declared.line.Line.TheVariants.{ToCard, FromCard, Torn, Gone, EndLost, Done}
use Rattle.scenario_plan.specs.Plan.{ScenarioData}
use Rattle.txn_replay.specs.Asking.{AnswersBy, IsAnswerTold, AsksCommand, IsAskedAt, AreAsked, RunsAsk, WholeRunsAsk}
use Rattle.txn_replay.specs.Changes.{exchanged, told_once, row_torn, lost}
use Rattle.txn_replay.specs.Lines.{power_line, power_canned_line, power_torn_line, host_lines, settle_lines, outcome_line}
use Rattle.txn_replay.specs.Part.{Part, loses, ended_by_record, sending, on_for, cut_ends, lane_answered_by, canned_by, asked_of_card, asked, purchase_begun, begun_by, begun_with, piece_by, piece}
use Rattle.txn_replay.specs.Payment.{Payment, next_of, outset_for, end_at}
use Rattle.txn_replay.specs.Run.{RunPlace, Finished, Reached, start, scheduled, rounds, round, again, settlement, settling, audit, auditing, finished, balance_line, account_lines, ended_count, closing}
use Rattle.txn_replay.specs.Sessions.{session_told, IsSessionOf}
use Rattle.txn_replay.specs.Steps.{Check, PowersUp, Asks, Settlement, Opens, Sends, settlements, settles, checks, audits, part_of, choice_in, turned_by, happens, Step}
use Rattle.txn_replay.specs.Storing.{part_with, copied, copy_lines, dropped_by, delivers_first, lane_piece}
use Rattle.txn_replay.specs.World.{Holder, World, card_at, lane_at}
use Rattle.txn_replay.specs.declared.event.Event.{Event}
use Rattle.txn_replay.specs.declared.event.Event.TheVariants.{Turn, Settle, Audit}
use Rattle.txn_replay.proofs.ExchangeLaws.PurchaseFacts.{payment_facts}
use Rattle.txn_replay.proofs.ExchangeLaws.SixWays.{lane_ways}
use Rattle.txn_replay.proofs.LineLaws.SessionsTold.{sessions_are_told}
use Rattle.txn_replay.proofs.Lists.{append_place, append_first, append_second}

-- a line with a command for a card
abbrev is_command : Line → Bool
is_command (ToCard lane bytes) = true
is_command other = false

abbrev HasNone : List Line → Type 0
HasNone lines = list_any is_command lines ≡ false

none_there : (lines : List Line) (k l : ℕ) (command : ArrayVec ℕ) → HasNone lines → slice_get lines k ≡ Some (ToCard l command) → ⊥
none_there [] k l command none there = cc
none_there (line ∷ lines) zero l command none there =
    let is : is_command line ≡ true = ap is_command (same_Some line (ToCard l command) there) in
    (let wrong : true ≡ false = sym (ap (λ b. b || list_any is_command lines) is) ∙ none in cc)
none_there (line ∷ lines) (suc k) l command none there = none_there lines k l command (behind (is_command line) none) there
  where
    behind : (b : Bool) → (b || list_any is_command lines) ≡ false → list_any is_command lines ≡ false
    behind true wrong = cc
    behind false is = is

none_append : (xs ys : List Line) → HasNone xs → HasNone ys → HasNone (xs ++ ys)
none_append [] ys first second = second
none_append (x ∷ xs) ys first second = by (is_command x) first (λ none. none_append xs ys none second)
  where
    by : (b : Bool) → (b || list_any is_command xs) ≡ false → (list_any is_command xs ≡ false → list_any is_command (xs ++ ys) ≡ false)
        → (b || list_any is_command (xs ++ ys)) ≡ false
    by true wrong more = cc
    by false none more = more none

-- what the lines of an exchange tell, where a command is the first of them
record AsksThere (p : Payment) (running : Option (List Reply)) (part : Part) (lines : List Line) (k l : ℕ) (command : List ℕ) : Type 0 where
  pub first : k ≡ 0
  pub next : Line
  pub there : slice_get lines 1 ≡ Some next
  pub asks : AsksCommand p running part.card l command next

module _ (p : Payment) (part : Part) where
  abbrev AsksIn : List Line → Type 0
  AsksIn lines = (k l : ℕ) (command : ArrayVec ℕ) → slice_get lines k ≡ Some (ToCard l command) → AsksThere p part.lane.running part lines k l command.items

  none_asks : (lines : List Line) → HasNone lines → AsksIn lines
  none_asks lines none k l command there = absurd (none_there lines k l command none there)

  first_asks : (command : List ℕ) (next : Line) (rest : List Line) → HasNone (next ∷ rest) → AsksCommand p part.lane.running part.card p.lane command next
      → AsksIn (ToCard p.lane (record { items = command }) ∷ next ∷ rest)
  first_asks command next rest none asks zero l other there =
      let same : ToCard p.lane (record { items = command }) ≡ ToCard l other = same_Some (ToCard p.lane (record { items = command })) (ToCard l other) there in
      let lane : p.lane ≡ l = cc in
      let bytes : command ≡ other.items = cc in
      record {
        first = refl;
        next = next;
        there = refl;
        asks = subst (λ m. AsksCommand p part.lane.running part.card m other.items next) lane
            (subst (λ (xs : List ℕ). AsksCommand p part.lane.running part.card p.lane xs next) bytes asks);
      }
  first_asks command next rest none asks (suc k) l other there = absurd (none_there (next ∷ rest) k l other none there)

  outcome_none : (gone : Bool) (number : ℕ) (end : EndData) → HasNone (outcome_line gone p.lane number end ∷ [])
  outcome_none true number end = refl
  outcome_none false number end = refl

  -- the exchange goes on, or its purchase ends
  ended_none : (replies : List Reply) (at : Part) (lines : List Line) (e : Option EndData) → HasNone lines → AsksIn (ended_by_record p replies at lines e).lines
  ended_none replies at lines None none = none_asks lines none
  ended_none replies at lines (Some end) none =
      let last : List Line = outcome_line (loses p at.lane.store end.capture) p.lane (length at.lane.ended + 1) end ∷ [] in
      none_asks (lines ++ last) (none_append lines last none (outcome_none (loses p at.lane.store end.capture) (length at.lane.ended + 1) end))

  ended_asks : (replies : List Reply) (at : Part) (command : List ℕ) (next : Line) (e : Option EndData) → is_command next ≡ false
      → AsksCommand p part.lane.running part.card p.lane command next
      → AsksIn (ended_by_record p replies at (ToCard p.lane (record { items = command }) ∷ next ∷ []) e).lines
  ended_asks replies at command next None other asks = first_asks command next [] (ap (λ b. b || false) other) asks
  ended_asks replies at command next (Some end) other asks =
      let last : List Line = outcome_line (loses p at.lane.store end.capture) p.lane (length at.lane.ended + 1) end ∷ [] in
      first_asks command next last
      (none_append (next ∷ []) last (ap (λ b. b || false) other) (outcome_none (loses p at.lane.store end.capture) (length at.lane.ended + 1) end)) asks

  cut_asks : (replies : List Reply) (cut : Part) (command : List ℕ) (next : Line) (e : Option EndData) → is_command next ≡ false
      → AsksCommand p part.lane.running part.card p.lane command next
      → AsksIn (cut_ends p replies part cut (ToCard p.lane (record { items = command }) ∷ next ∷ []) e).lines
  cut_asks replies cut command next None other asks = none_asks [] refl
  cut_asks replies cut command next (Some end) other asks = ended_asks replies cut command next (Some end) other asks

  cut_none : (replies : List Reply) (cut : Part) (lines : List Line) (e : Option EndData) → HasNone lines → AsksIn (cut_ends p replies part cut lines e).lines
  cut_none replies cut lines None none = none_asks [] refl
  cut_none replies cut lines (Some end) none = ended_none replies cut lines (Some end) none

  asks_of : (replies : List Reply) → part.lane.running ≡ Some replies → (command : List ℕ) → (dialogue (outset_for p) replies).deed ≡ asks_card command → (next : Line)
      → IsAnswerTold p part.card p.lane command next → AsksCommand p part.lane.running part.card p.lane command next
  asks_of replies runs command asks next told = record { lane_is = refl; replies = replies; runs = runs; asks = asks; told = told }

  card_asks : (replies : List Reply) → part.lane.running ≡ Some replies → (command : List ℕ) → (dialogue (outset_for p) replies).deed ≡ asks_card command
      → (o : Option (List (List ℕ))) → p.card.canned ≡ o → AsksIn (asked_of_card p replies command part o).lines
  card_asks replies runs command asks None apps = by_cut (cut_of p.planned.tear part.card.made (card_answer p.card.image part.card.kept part.card.session command).new)
    where
      answer : List ℕ
      answer = (card_answer p.card.image part.card.kept part.card.session command).answer

      told : IsAnswerTold p part.card p.lane command (FromCard p.lane (record { items = answer }))
      told = (refl, subst (λ (o : Option (List (List ℕ))). AnswersBy p part.card command answer o) (sym apps) refl)

      by_cut : (o : Option Cut) → AsksIn (lane_answered_by p replies command part (card_answer p.card.image part.card.kept part.card.session command) o).lines
      by_cut None =
          ended_asks (replies ++ CardSaid answer part.lane.log ∷ [])
          (record part { card = exchanged p.card.image part.card command (card_answer p.card.image part.card.kept part.card.session command) }) command
          (FromCard p.lane (record { items = answer })) (end_at p (replies ++ CardSaid answer part.lane.log ∷ [])) refl
          (asks_of replies runs command asks (FromCard p.lane (record { items = answer })) told)
      by_cut (Some cut) = cut_asks (replies ++ CardGone ∷ []) (record part { card = row_torn part.card p.planned.tear cut }) command (Torn p.lane) (end_at p (replies ++ CardGone ∷ [])) refl
          (asks_of replies runs command asks (Torn p.lane) refl)
  card_asks replies runs command asks (Some answers) canned = by_next (slice_get answers part.card.told) refl
    where
      by_next : (o : Option (List ℕ)) → slice_get answers part.card.told ≡ o → AsksIn (canned_by p replies command part o).lines
      by_next (Some answer) is =
          let told : IsAnswerTold p part.card p.lane command (FromCard p.lane (record { items = answer })) =
          (refl, subst (λ (o : Option (List (List ℕ))). AnswersBy p part.card command answer o) (sym canned) is) in
          ended_asks (replies ++ CardSaid answer part.lane.log ∷ []) (record part { card = told_once part.card }) command
          (FromCard p.lane (record { items = answer })) (end_at p (replies ++ CardSaid answer part.lane.log ∷ [])) refl
          (asks_of replies runs command asks (FromCard p.lane (record { items = answer })) told)
      by_next None is =
          cut_asks (replies ++ CardGone ∷ []) (record part { card = part.card }) command (Gone p.lane) (end_at p (replies ++ CardGone ∷ [])) refl
          (asks_of replies runs command asks (Gone p.lane) refl)

  host_none : (message : List ℕ) (reply : Option (List ℕ)) → HasNone (host_lines p.iso p.lane message reply)
  host_none message None = refl
  host_none message (Some reply) = refl

  deed_asks : (replies : List Reply) → part.lane.running ≡ Some replies → (deed : Deed) → (dialogue (outset_for p) replies).deed ≡ deed → AsksIn (asked p replies part deed).lines
  deed_asks replies runs (asks_card command) asks = card_asks replies runs command asks p.card.canned refl
  deed_asks replies runs (ToHost message) asks =
      ended_none (replies ++ from_host (heard p.planned.link (host_reply p.issuer p.accounts part.messages message)) ∷ []) (sending p message part)
      (host_lines p.iso p.lane message (heard p.planned.link (host_reply p.issuer p.accounts part.messages message)))
      (end_at p (replies ++ from_host (heard p.planned.link (host_reply p.issuer p.accounts part.messages message)) ∷ []))
      (host_none message (heard p.planned.link (host_reply p.issuer p.accounts part.messages message)))
  deed_asks replies runs (Over ending) asks = none_asks [] refl

  begins_none : (choice : Bool) (o : Option (List (List ℕ))) → AsksIn (begun_with p part choice o).lines
  begins_none choice None = by (names_commit p.planned.tear 0)
    where
      by : (cut : Bool) → AsksIn (begun_by p part choice cut).lines
      by true = cut_none (CardGone ∷ []) (record part { card = lost part.card }) (power_torn_line p.lane p.card ∷ []) (end_at p (CardGone ∷ [])) refl
      by false =
          ended_none [] (on_for p (Some (found_of part.card.kept part.card.pending choice)) (found_of part.card.kept part.card.pending choice) part)
          (power_line p.lane p.card (found_of part.card.kept part.card.pending choice) ∷ []) (end_at p []) refl
  begins_none choice (Some answers) =
      ended_none [] (on_for p None (found_of part.card.kept part.card.pending false) part) (power_canned_line p.lane p.card ∷ []) (end_at p []) refl

  piece_asks : (choice : Bool) → AsksIn (piece p part choice).lines
  piece_asks choice = by_lane part.lane.running refl
    where
      by_holder : (o : Option Holder) → AsksIn (purchase_begun p part choice o).lines
      by_holder None = begins_none choice p.card.canned
      by_holder (Some holder) = none_asks [] refl

      by_lane : (o : Option (List Reply)) → part.lane.running ≡ o → AsksIn (piece_by p part choice o).lines
      by_lane None is = by_holder part.card.holder
      by_lane (Some replies) is = deed_asks replies is (dialogue (outset_for p) replies).deed refl

copies_none : (p : Payment) (message : List ℕ) (messages : List (List ℕ)) (n : ℕ) → HasNone (copy_lines p message messages n)
copies_none p message messages zero = refl
copies_none p message messages (suc n) =
    none_append (copy_lines p message messages n)
    (settle_lines p.iso p.lane message (host_reply p.issuer p.accounts (messages ++ replicate n message) message)) (copies_none p message messages n) refl

lane_asks : (p : Payment) (part : Part) (one other : Bool) → AsksIn p part (lane_piece p part one other).lines
lane_asks p part one other =
    lane_ways (λ m. AsksIn p part m.lines) p part
    (none_asks p part [] refl)
    (λ choice so. piece_asks p part choice)
    (λ at off cut. none_asks p part (EndLost p.lane (length part.lane.ended + 1) ∷ []) refl)
    (λ choice at off full. none_asks p part [] refl)
    (λ choice second at off room. opened choice second)
    (λ at on. delivered part.lane.store.list)
    one other
  where
    opened : (choice second : Bool) → AsksIn p part (piece p (part_with (opened_to_add part.lane.store choice) part) second).lines
    opened choice second k l command there =
        let own = piece_asks p (part_with (opened_to_add part.lane.store choice) part) second k l command there in
        record { first = own.first; next = own.next; there = own.there; asks = own.asks }

    delivered : (list : List (List ℕ)) → AsksIn p part (delivers_first p part list).lines
    delivered [] = none_asks p part [] refl
    delivered (message ∷ others) = by (is_next_cut p.planned.terminal_tear part.lane.store)
      where
        by : (cut : Bool) → AsksIn p part (dropped_by p (copied p message part) (copy_lines p message part.messages p.copies) cut).lines
        by true =
            none_asks p part (copy_lines p message part.messages p.copies ++ EndLost p.lane (length part.lane.ended + 1) ∷ [])
            (none_append (copy_lines p message part.messages p.copies) (EndLost p.lane (length part.lane.ended + 1) ∷ []) (copies_none p message part.messages p.copies) refl)
        by false = none_asks p part (copy_lines p message part.messages p.copies) (copies_none p message part.messages p.copies)

-- a command among the lines of an event, and the world before it
record AskedNow (s : ScenarioData) (w : World) (lines : List Line) (k l : ℕ) (command : List ℕ) : Type 0 where
  pub first : k ≡ 0
  pub payment : Payment
  pub is : next_of s w l ≡ Some payment
  pub next : Line
  pub there : slice_get lines 1 ≡ Some next
  pub asks : AsksCommand payment (lane_at w l).running (card_at w payment.planned.card) l command next

module _ (s : ScenarioData) (w : World) (choices : List Bool) where
  abbrev Asked : List Line → Type 0
  Asked lines = (k l : ℕ) (command : ArrayVec ℕ) → slice_get lines k ≡ Some (ToCard l command) → AskedNow s w lines k l command.items

  none_asked : (lines : List Line) → HasNone lines → Asked lines
  none_asked lines none k l command there = absurd (none_there lines k l command none there)

  turn_asked : (l : ℕ) (o : Option Payment) → next_of s w l ≡ o → Asked (turned_by w l choices o).lines
  turn_asked l None is k m command there = none_asked [] refl k m command there
  turn_asked l (Some p) is k m command there =
      let own = lane_asks p (part_of w l p.planned.card) (choice_in choices 0) (choice_in choices 1) k m command there in
      let lane : l ≡ m = sym (payment_facts s l _ p is).lane ∙ own.asks.lane_is in
      record {
        first = own.first;
        payment = p;
        is = subst (λ j. next_of s w j ≡ Some p) lane is;
        next = own.next;
        there = own.there;
        asks = subst (λ j. AsksCommand p (lane_at w j).running (card_at w p.planned.card) m command.items own.next) lane own.asks;
      }

  settle_asked : (o : Option Settlement) → Asked (settles s w choices o).lines
  settle_asked None = none_asked [] refl
  settle_asked (Some (Opens l)) = none_asked [] refl
  settle_asked (Some (Sends l message drops)) = none_asked _ refl

  audit_asked : (o : Option Check) → Asked (audits w choices o).lines
  audit_asked None = none_asked [] refl
  audit_asked (Some (PowersUp i card)) = none_asked _ refl
  audit_asked (Some (Asks i card command)) = none_asked _ refl

  event_asked : (e : Event) → Asked (happens s w e choices).lines
  event_asked (Turn l) = turn_asked l (next_of s w l) refl
  event_asked (Settle k) = settle_asked (slice_get (settlements s w) k)
  event_asked (Audit k) = audit_asked (slice_get (checks s) k)

-- what was asked is asked still where more lines stand behind
asked_still : (s : ScenarioData) (ls new : List Line) (k l : ℕ) (command : List ℕ) → k < length ls → IsAskedAt s ls k l command → IsAskedAt s (ls ++ new) k l command
asked_still s ls new k l command within own =
    let few : k ≤ length ls = omega arith in
    record {
      place = own.place;
      count = own.count;
      choices = own.choices;
      world = own.world;
      reached = subst (λ (xs : List Line). Reached s own.place own.count own.choices xs own.world) (sym (take-append-le k ls new few)) own.reached;
      payment = own.payment;
      is = own.is;
      session =
          subst (λ (xs : List Line). IsSessionOf own.payment.card.canned (card_at own.world own.payment.planned.card) (session_told l xs))
          (sym (take-append-le k ls new few)) own.session;
      next = own.next;
      there = append_first ls new (k + 1) own.next own.there;
      asks = own.asks;
    }

-- over the events of a run
module _ (s : ScenarioData) where
  step_asked : (place : RunPlace) (n : ℕ) (cs : List Bool) (ls : List Line) (w : World) (e : Event) (c : List Bool) (new : List Line) (after : World)
      → Reached s place n cs ls w → Step s w e c new after → AreAsked s ls → AreAsked s (ls ++ new)
  step_asked place n cs ls w e c new after reached step before k l command there = by (append_place ls new k (ToCard l command) there)
    where
      made : Asked s w c new
      made = subst (λ (xs : List Line). Asked s w c xs) (sym step.made) (event_asked s w c e)

      by : ((k < length ls) × (slice_get ls k ≡ Some (ToCard l command))) ⊎ ((m : ℕ) × (k ≡ length ls + m) × (slice_get new m ≡ Some (ToCard l command)))
          → IsAskedAt s (ls ++ new) k l command.items
      by (inl earlier) = asked_still s ls new k l command.items earlier.0 (before k l command earlier.1)
      by (inr later) =
          let own : AskedNow s w new later.0 l command.items = made later.0 l command later.2 in
          let here : k ≡ length ls + 0 = later.1 ∙ ap (λ m. length ls + m) own.first in
          let at : k ≡ length ls = omega arith in
          let next_at : k + 1 ≡ length ls + 1 = omega arith in
          let seam : take k (ls ++ new) ≡ ls = ap (λ m. take m (ls ++ new)) at ∙ take-append_seam ls new in
          record {
            place = place;
            count = n;
            choices = cs;
            world = w;
            reached = subst (λ (xs : List Line). Reached s place n cs xs w) (sym seam) reached;
            payment = own.payment;
            is = own.is;
            session =
                subst (λ (xs : List Line). IsSessionOf own.payment.card.canned (card_at w own.payment.planned.card) (session_told l xs)) (sym seam)
                (sessions_are_told s place n cs ls w l own.asks.replies own.payment reached own.asks.runs own.is);
            next = own.next;
            there = ap (λ m. slice_get (ls ++ new) m) next_at ∙ append_second ls new 1 ∙ own.there;
            asks = own.asks;
          }

  all_asked : (place : RunPlace) (n : ℕ) (choices : List Bool) (lines : List Line) (w : World) → Reached s place n choices lines w → AreAsked s lines
  all_asked _ _ _ _ _ start = λ k l command there. absurd (none_there [] k l command refl there)
  all_asked _ _ _ _ _ (scheduled {n = n} {cs = cs} {c = c} {ls = ls} {new = new} {w = v} {w' = v'} before at step) =
      step_asked _ n cs ls v _ c new v' before step (all_asked _ n cs ls v before)
  all_asked _ _ _ ls w (rounds before) = all_asked _ _ _ ls w before
  all_asked _ _ _ _ _ (round {n = n} {cs = cs} {c = c} {ls = ls} {new = new} {w = v} {w' = v'} before inside on step) =
      step_asked _ n cs ls v _ c new v' before step (all_asked _ n cs ls v before)
  all_asked _ _ _ ls w (again before) = all_asked _ _ _ ls w before
  all_asked _ _ _ ls w (settlement before over) = all_asked _ _ _ ls w before
  all_asked _ _ _ _ _ (settling {n = n} {cs = cs} {c = c} {ls = ls} {new = new} {w = v} {w' = v'} before at step) =
      step_asked _ n cs ls v _ c new v' before step (all_asked _ n cs ls v before)
  all_asked _ _ _ ls w (audit before past) = all_asked _ _ _ ls w before
  all_asked _ _ _ _ _ (auditing {n = n} {cs = cs} {c = c} {ls = ls} {new = new} {w = v} {w' = v'} before at step) =
      step_asked _ n cs ls v _ c new v' before step (all_asked _ n cs ls v before)
  all_asked _ _ _ ls w (finished before past) = all_asked _ _ _ ls w before

pub runs_ask : RunsAsk
runs_ask s place n choices lines w reached = all_asked s place n choices lines w reached

-- the lines at the end hold no command
closing_none : (s : ScenarioData) (w : World) → HasNone (closing s w)
closing_none s w = none_append (flat_map (account_lines s w) s.accounts) (Done (ended_count w) ∷ []) (accounts_none s.accounts) refl
  where
    balance_none : (pan : List ℕ) (o : Option ℤ) → HasNone (balance_line pan o)
    balance_none pan None = refl
    balance_none pan (Some amount) = refl

    accounts_none : (accounts : List AccountData) → HasNone (flat_map (account_lines s w) accounts)
    accounts_none [] = refl
    accounts_none (account ∷ accounts) =
        none_append (account_lines s w account) (flat_map (account_lines s w) accounts)
        (balance_none account.pan (balance_after s.issuer s.accounts w.messages account.pan)) (accounts_none accounts)

pub whole_runs_ask : WholeRunsAsk
whole_runs_ask s lines w run = subst (λ (ls : List Line). AreAsked s ls) (sym run.whole) asked_whole
  where
    reported : AreAsked s run.reported
    reported = runs_ask s Finished run.count run.choices run.reported w run.reached

    asked_whole : AreAsked s (run.reported ++ closing s w)
    asked_whole k l command there = by (append_place run.reported (closing s w) k (ToCard l command) there)
      where
        by : ((k < length run.reported) × (slice_get run.reported k ≡ Some (ToCard l command)))
            ⊎ ((m : ℕ) × (k ≡ length run.reported + m) × (slice_get (closing s w) m ≡ Some (ToCard l command)))
            → IsAskedAt s (run.reported ++ closing s w) k l command.items
        by (inl earlier) = asked_still s run.reported (closing s w) k l command.items earlier.0 (reported k l command earlier.1)
        by (inr later) = absurd (none_there (closing s w) later.0 l command (closing_none s w) later.2)
