-- Each line of a run that names a card names it as its scenario does, without a blank: the laws `RunsNameCards` and
-- `WholeRunsNameCards`.
use Rattle.std.proofs.Common.{◌≡◌, ℕ, zero, suc, ◌+◌, ◌<◌, ◌≤◌, ◌||◌, Bool, true, false, List, [], ◌∷◌, ◌++◌, length, slice_get, Option, Some, None, IsTrue, refl, sym, ap, ◌∙◌, subst, arith}
use Rattle.std.specs.List.{All, flat_map}
use Rattle.std.specs.Prelude.{ℤ}
use Rattle.std.proofs.lemmas.Bool.Decides.{nat_tests}
use Rattle.std.proofs.lemmas.List.Elements.{All-nil, All-cons, All-head, All-tail, All-append, All-weaker}
use Rattle.std.proofs.lemmas.Option.{slice_get_within, get_or_from_slice_get, same_Some}
use Rattle.app_select.specs.Said.{select_command}
use Rattle.capture_store.specs.StoreRow.{opened_to_add}
use Rattle.card_files.specs.Views.{AppData}
use Rattle.issuer_host.specs.Account.{AccountData}
use Rattle.issuer_host.specs.History.{host_reply, balance_after}
use Rattle.kernel.specs.Ended.{EndData}
use Rattle.kernel.specs.Reply.{Reply}
use Rattle.report_text.specs.Told.{card_named, IsCardName}
use Rattle.report_text.specs.declared.line.Line.{Line}
use Rattle.report_text.specs.declared.line.Line.TheVariants.{EndLost, Done}
use Rattle.risk_mgmt.specs.Counters.{counter_tag, last_online_tag, get_data}
use Rattle.scenario_plan.specs.Cards.{CardData}
use Rattle.scenario_plan.specs.Plan.{ScenarioData, IsScenario, HasPlainName}
use Rattle.scenario_fields.specs.Value.{is_one_of}
use Rattle.scenario_fields.specs.declared.spot.Characters.TheVariants.{LowercaseOrDigit}
use Rattle.txn_replay.specs.Lines.{host_lines, settle_lines, outcome_line}
use Rattle.txn_replay.specs.Named.{AreNamed, RunsNameCards, WholeRunsNameCards}
use Rattle.txn_replay.specs.Part.{Part, Moved, loses}
use Rattle.txn_replay.specs.Payment.{Payment, next_of}
use Rattle.txn_replay.specs.Run.{RunPlace, Reached, Run, balance_line, account_lines, ended_count, closing}
use Rattle.txn_replay.specs.Steps.{Check, PowersUp, Asks, app_checks, checks_for, card_checks, checks_from, checks, Settlement, Opens, Sends, settlements, settles, audits, part_of, choice_in, turned_by, happens}
use Rattle.txn_replay.specs.Storing.{part_with, copy_lines, lane_piece}
use Rattle.txn_replay.specs.World.{LaneRow, CardRow, World}
use Rattle.txn_replay.specs.declared.event.Event.{Event}
use Rattle.txn_replay.specs.declared.event.Event.TheVariants.{Turn, Settle, Audit}
use Rattle.txn_replay.proofs.ExchangeLaws.ExchangeCases.{Tells, StoreTells, lane_tells}
use Rattle.txn_replay.proofs.ExchangeLaws.PurchaseFacts.{payment_facts}
use Rattle.txn_replay.proofs.RunLaws.LinesReached.{reached_lines}

-- a small letter or a digit stands behind the blank
behind_blank : (c : ℕ) → IsTrue (is_one_of LowercaseOrDigit c) → 32 < c
behind_blank c known = grind (arith, nat_tests)

plain_name : (s : ScenarioData) → IsScenario s → (i : ℕ) (card : CardData) → slice_get s.cards i ≡ Some card → IsCardName card.name
plain_name s fits i card there =
    let plain : HasPlainName card =
    subst HasPlainName (get_or_from_slice_get s.cards i card card there) (fits.tables.plain_names i card (slice_get_within s.cards i card there)) in
    All-weaker (λ (c : ℕ). IsTrue (is_one_of LowercaseOrDigit c)) (λ (c : ℕ). 32 < c) behind_blank card.name plain

abbrev Named : Line → Type 0
Named line = IsCardName (card_named line)

-- a line that names none
none : IsCardName []
none = All-nil (λ (c : ℕ). 32 < c)

no_lines : AreNamed []
no_lines = All-nil Named

one_line : (line : Line) → Named line → AreNamed (line ∷ [])
one_line line is = All-cons Named line [] is no_lines

two_lines : (first second : Line) → Named first → Named second → AreNamed (first ∷ second ∷ [])
two_lines first second one two = All-cons Named first (second ∷ []) one (one_line second two)

end_named : (lost : Bool) (lane number : ℕ) (end : EndData) → AreNamed (outcome_line lost lane number end ∷ [])
end_named true lane number end = one_line (outcome_line true lane number end) none
end_named false lane number end = one_line (outcome_line false lane number end) none

host_named : (iso : Bool) (lane : ℕ) (message : List ℕ) (reply : Option (List ℕ)) → AreNamed (host_lines iso lane message reply)
host_named iso lane message None = two_lines _ _ none none
host_named iso lane message (Some reply) = two_lines _ _ none none

-- one exchange of a purchase
module _ (p : Payment) (name : IsCardName p.card.name) where
  abbrev Came : LaneRow → List Reply → CardRow → List (List ℕ) → List Line → Type 0
  Came lane replies card messages lines = AreNamed lines

  abbrev Behind : Part → List Line → Type 0
  Behind after lines = AreNamed lines

  tells_named : (part : Part) → Tells p part Came Behind
  tells_named part = record {
    still = no_lines;
    goes = λ lane later replies card messages lines came. came;
    ends = λ lane later replies card messages lines came end is.
        All-append Named lines (outcome_line (loses p lane.store end.capture) p.lane (length lane.ended + 1) end ∷ []) came
        (end_named (loses p lane.store end.capture) p.lane (length lane.ended + 1) end);
    powers = λ rests free apps choice. one_line _ name;
    power_cut = λ rests free apps is. one_line _ name;
    powers_canned = λ rests free answers canned. one_line _ name;
    answers = λ replies runs apps command asks. two_lines _ _ none none;
    cuts = λ replies runs command cut is. two_lines _ _ none none;
    tells = λ replies runs answers canned command answer. two_lines _ _ none none;
    gone = λ replies runs answers canned command. two_lines _ _ none none;
    hosts = λ replies runs message asks reply is. host_named p.iso p.lane message reply;
  }

  copies_named : (message : List ℕ) (messages : List (List ℕ)) (n : ℕ) → AreNamed (copy_lines p message messages n)
  copies_named message messages zero = no_lines
  copies_named message messages (suc n) =
      All-append Named (copy_lines p message messages n) _ (copies_named message messages n) (two_lines _ _ none none)

  store_named : (part : Part) → StoreTells p part Came Behind
  store_named part = record {
    own = tells_named part;
    again = λ one at off. tells_named (part_with (opened_to_add part.lane.store one) part);
    opened = λ one at off. no_lines;
    lost = λ at cut. one_line (EndLost p.lane (length part.lane.ended + 1)) none;
    sent = λ at message. copies_named message part.messages p.copies;
    sent_lost = λ at message cut.
        All-append Named (copy_lines p message part.messages p.copies) (EndLost p.lane (length part.lane.ended + 1) ∷ [])
        (copies_named message part.messages p.copies) (one_line (EndLost p.lane (length part.lane.ended + 1)) none);
  }

-- the card of a step of the audit
abbrev card_in : Check → CardData
card_in (PowersUp i card) = card
card_in (Asks i card command) = card

abbrev Plain : Check → Type 0
Plain check = IsCardName (card_in check).name

apps_plain : (i : ℕ) (card : CardData) → IsCardName card.name → (apps : List AppData) → All Plain (flat_map (app_checks i card) apps)
apps_plain i card name [] = All-nil Plain
apps_plain i card name (app ∷ apps) =
    All-append Plain (app_checks i card app) (flat_map (app_checks i card) apps)
    (All-cons Plain (Asks i card (select_command 0 app.name)) (Asks i card (get_data counter_tag) ∷ Asks i card (get_data last_online_tag) ∷ []) name
    (All-cons Plain (Asks i card (get_data counter_tag)) (Asks i card (get_data last_online_tag) ∷ []) name
    (All-cons Plain (Asks i card (get_data last_online_tag)) [] name (All-nil Plain))))
    (apps_plain i card name apps)

card_plain : (i : ℕ) (card : CardData) → IsCardName card.name → (canned : Option (List (List ℕ))) → All Plain (checks_for i card canned)
card_plain i card name None = All-cons Plain (PowersUp i card) (flat_map (app_checks i card) card.image.apps) name (apps_plain i card name card.image.apps)
card_plain i card name (Some answers) = All-nil Plain

all_plain : (i : ℕ) (cards : List CardData) → All (λ card. IsCardName card.name) cards → All Plain (checks_from i cards)
unfolding checks_from
all_plain i [] names = All-nil Plain
all_plain i (card ∷ cards) names =
    All-append Plain (card_checks i card) (checks_from (i + 1) cards) (card_plain i card (All-head (λ (x : CardData). IsCardName x.name) card cards names) card.canned)
    (all_plain (i + 1) cards (All-tail (λ (x : CardData). IsCardName x.name) card cards names))

-- each card's name is plain
card_names : (s : ScenarioData) → IsScenario s → All (λ card. IsCardName card.name) s.cards
card_names s fits i d within =
    All-weaker (λ (c : ℕ). IsTrue (is_one_of LowercaseOrDigit c)) (λ (c : ℕ). 32 < c) behind_blank _ (fits.tables.plain_names i d within)

check_plain : (s : ScenarioData) → IsScenario s → (k : ℕ) (check : Check) → slice_get (checks s) k ≡ Some check → Plain check
check_plain s fits k check there =
    subst Plain (get_or_from_slice_get (checks s) k check check there)
    (all_plain 0 s.cards (card_names s fits) k check (slice_get_within (checks s) k check there))

module _ (s : ScenarioData) (fits : IsScenario s) (w : World) (choices : List Bool) where
  turn_named : (l : ℕ) (o : Option Payment) → next_of s w l ≡ o → AreNamed (turned_by w l choices o).lines
  turn_named l None is = no_lines
  turn_named l (Some p) is =
      lane_tells p (part_of w l p.planned.card) (Came p name) (Behind p name) (store_named p name (part_of w l p.planned.card)) (choice_in choices 0) (choice_in choices 1)
    where
      name : IsCardName p.card.name
      name = plain_name s fits p.planned.card p.card (payment_facts s l _ p is).card

  settle_named : (o : Option Settlement) → AreNamed (settles s w choices o).lines
  settle_named None = no_lines
  settle_named (Some (Opens l)) = no_lines
  settle_named (Some (Sends l message drops)) = two_lines _ _ none none

  audit_named : (k : ℕ) (o : Option Check) → slice_get (checks s) k ≡ o → AreNamed (audits w choices o).lines
  audit_named k None is = no_lines
  audit_named k (Some (PowersUp i card)) is = one_line _ (check_plain s fits k (PowersUp i card) is)
  audit_named k (Some (Asks i card command)) is =
      two_lines _ _ (check_plain s fits k (Asks i card command) is) (check_plain s fits k (Asks i card command) is)

  pub event_named : (e : Event) → AreNamed (happens s w e choices).lines
  event_named (Turn l) = turn_named l (next_of s w l) refl
  event_named (Settle k) = settle_named (slice_get (settlements s w) k)
  event_named (Audit k) = audit_named k (slice_get (checks s) k) refl

pub runs_name_cards : RunsNameCards
runs_name_cards s place n choices lines w fits reached =
    reached_lines s (λ (v : World) (ls : List Line). AreNamed ls) no_lines
    (λ v ls e cs named. All-append Named ls (happens s v e cs).lines named (event_named s fits v cs e)) place n choices lines w reached

-- the lines at the end name none
balance_named : (pan : List ℕ) (o : Option ℤ) → AreNamed (balance_line pan o)
balance_named pan None = no_lines
balance_named pan (Some amount) = one_line _ none

accounts_named : (s : ScenarioData) (w : World) (accounts : List AccountData) → AreNamed (flat_map (account_lines s w) accounts)
accounts_named s w [] = no_lines
accounts_named s w (account ∷ accounts) =
    All-append Named (account_lines s w account) (flat_map (account_lines s w) accounts)
    (balance_named account.pan (balance_after s.issuer s.accounts w.messages account.pan)) (accounts_named s w accounts)

pub whole_runs_name_cards : WholeRunsNameCards
whole_runs_name_cards s lines w fits run =
    subst AreNamed (sym run.whole)
    (All-append Named run.reported (closing s w)
    (runs_name_cards s _ run.count run.choices run.reported w fits run.reached)
    (All-append Named (flat_map (account_lines s w) s.accounts) (Done (ended_count w) ∷ []) (accounts_named s w s.accounts)
    (one_line (Done (ended_count w)) none)))
