-- A card has lost its power as often as the lines of a run tell.
-- A `torn` line is of the card in its lane's last power line: the law `RunsTellLosses`.
use Rattle.std.proofs.Common.{◌≡◌, ◌≢◌, ℕ, zero, suc, ◌⊎◌, ◌+◌, ◌≤◌, ◌<◌, cond, Bool, true, false, if◌then◌else◌, List, [], ◌∷◌, ◌++◌, length, slice_get, Option, Some, None, refl, sym, ap, ◌∙◌, inl, inr, arith, append-nil}
use Rattle.std.specs.Prelude.{◌==◌, ◌||◌, ℤ}
use Rattle.std.specs.List.{AllPairs, count_by, flat_map, list_any}
use Rattle.std.specs.Str.{bytes_eq}
use Rattle.std.proofs.lemmas.Bool.{eq-eqb, cases_eq, cases_lt}
use Rattle.std.proofs.lemmas.List.{append_assoc, get_or-set_other}
use Rattle.std.proofs.lemmas.List.Sums.{fold_push, sum_by-append}
use Rattle.std.proofs.lemmas.Option.{same_Some, slice_get_within, get_or_from_slice_get}
use Rattle.std.proofs.lemmas.Slice.Eq.{bytes_eq-Decides}
use Rattle.capture_store.specs.StoreRow.{opened_to_add}
use Rattle.issuer_host.specs.Account.{AccountData}
use Rattle.issuer_host.specs.History.{balance_after}
use Rattle.kernel.specs.Ended.{EndData}
use Rattle.kernel.specs.Reply.{Reply}
use Rattle.report_text.specs.declared.line.Line.{Line}
use Rattle.report_text.specs.declared.line.Line.TheVariants.{Power, PowerCanned, PowerTorn, ToCard, Torn, EndLost, Done}
use Rattle.scenario_plan.specs.Cards.{CardData}
use Rattle.scenario_plan.specs.Plan.{ScenarioData, IsScenario}
use Rattle.txn_replay.specs.Changes.{lost}
use Rattle.txn_replay.specs.Laws.{is_torn}
use Rattle.txn_replay.specs.Lines.{torn_lines, host_lines, outcome_line}
use Rattle.txn_replay.specs.Part.{Part, Moved, loses}
use Rattle.txn_replay.specs.Payment.{Payment, payment_in, next_of}
use Rattle.txn_replay.specs.Sound.{IsWorldSound}
use Rattle.txn_replay.specs.Steps.{Check, PowersUp, Asks, Settlement, Opens, Sends, settlements, settles, checks, audits, with_card, part_of, choice_in, turned_by, happens}
use Rattle.txn_replay.specs.Run.{Finished, balance_line, account_lines, ended_count, closing}
use Rattle.txn_replay.specs.Storing.{part_with, lane_lost, lane_copied, copied, copy_lines, lane_piece}
use Rattle.txn_replay.specs.ToldByLines.{card_next, card_told, is_loss_of, losses_told_behind, losses_told, HasLosses, RunsTellLosses, WholeRunsTellLosses}
use Rattle.txn_replay.specs.World.{Past, CardRow, LaneRow, World, new_card, new_lane, first_world, card_at, lane_at}
use Rattle.txn_replay.specs.declared.event.Event.{Event}
use Rattle.txn_replay.specs.declared.event.Event.TheVariants.{Turn, Settle, Audit}
use Rattle.txn_replay.proofs.ExchangeLaws.ExchangeCases.{Tells, StoreTells, lane_tells}
use Rattle.txn_replay.proofs.RunLaws.CardsReached.{event_sound}
use Rattle.txn_replay.proofs.RunLaws.LinesReached.{apart, reached_lines, lane_behind, card_behind}
use Rattle.txn_replay.proofs.Lists.{at_set, get_or-map_const}
use Rattle.txn_replay.proofs.CardLaws.ExchangeLosses.{lane_told}
use Rattle.txn_replay.proofs.ExchangeLaws.PurchaseFacts.{payment_facts}
use Rattle.txn_replay.proofs.ExchangeLaws.LaneMessages.{later_ended, LanesLike, settle_like, audit_like}
use Rattle.txn_replay.proofs.RunLaws.SoundWorlds.{first_sound}

pub card-push : (l : ℕ) (before : List Line) (line : Line) → card_told l (before ++ line ∷ []) ≡ card_next l (card_told l before) line
unfolding card_told
card-push l before line = fold_push (card_next l) [] before line

pub losses-append : (name : List ℕ) (before xs ys : List Line) → losses_told_behind name before (xs ++ ys) ≡ losses_told_behind name before xs + losses_told_behind name (before ++ xs) ys
unfolding losses_told_behind
losses-append name before [] ys =
    let none : losses_told_behind name before ys ≡ 0 + losses_told_behind name before ys = omega arith in
    none ∙ ap (λ (ls : List Line). 0 + losses_told_behind name ls ys) (sym (append-nil before))
losses-append name before (x ∷ xs) ys =
    let one : ℕ = (if is_loss_of name before x then 1 else 0) in
    let rest : losses_told_behind name (before ++ x ∷ []) (xs ++ ys) ≡ losses_told_behind name (before ++ x ∷ []) xs + losses_told_behind name ((before ++ x ∷ []) ++ xs) ys = losses-append name (before ++ x ∷ []) xs ys in
    let same : losses_told_behind name ((before ++ x ∷ []) ++ xs) ys ≡ losses_told_behind name (before ++ x ∷ xs) ys = ap (λ (ls : List Line). losses_told_behind name ls ys) (append_assoc before (x ∷ []) xs) in
    let both : losses_told_behind name (before ++ x ∷ []) (xs ++ ys) ≡ losses_told_behind name (before ++ x ∷ []) xs + losses_told_behind name (before ++ x ∷ xs) ys = rest ∙ ap (λ n. losses_told_behind name (before ++ x ∷ []) xs + n) same in
    omega arith

-- a line that tells a loss or a power-up
abbrev pub tells_power : Line → Bool
tells_power (Power lane card apps) = true
tells_power (PowerCanned lane card) = true
tells_power (PowerTorn lane card) = true
tells_power (Torn lane) = true
tells_power other = false

abbrev pub AreQuiet : List Line → Type 0
AreQuiet lines = list_any tells_power lines ≡ false

-- any other line tells none
record IsQuiet (line : Line) : Type 0 where
  pub loss : (name : List ℕ) (before : List Line) → is_loss_of name before line ≡ false
  pub torn : is_torn line ≡ false
  pub card : (l : ℕ) (name : List ℕ) → card_next l name line ≡ name

quiet_line : (line : Line) → tells_power line ≡ false → IsQuiet line
quiet_line (Power lane card apps) quiet = cc
quiet_line (PowerCanned lane card) quiet = cc
quiet_line (PowerTorn lane card) quiet = cc
quiet_line (Torn lane) quiet = cc
quiet_line other quiet = record { loss = λ name before. refl; torn = refl; card = λ l name. refl }

quiet_parts : (line : Line) (lines : List Line) → AreQuiet (line ∷ lines) → IsQuiet line × AreQuiet lines
quiet_parts line lines quiet = by (tells_power line) refl quiet
  where
    by : (b : Bool) → tells_power line ≡ b → (b || list_any tells_power lines) ≡ false → IsQuiet line × AreQuiet lines
    by true is none = cc
    by false is none = (quiet_line line is, none)

pub quiet_losses : (name : List ℕ) (before lines : List Line) → AreQuiet lines → losses_told_behind name before lines ≡ 0
unfolding losses_told_behind
quiet_losses name before [] quiet = refl
quiet_losses name before (line ∷ lines) quiet =
    let parts = quiet_parts line lines quiet in
    ap (λ b. (if b then 1 else 0) + losses_told_behind name (before ++ line ∷ []) lines) (parts.0.loss name before)
    ∙ ap (λ n. 0 + n) (quiet_losses name (before ++ line ∷ []) lines parts.1)

pub quiet_card : (l : ℕ) (before lines : List Line) → AreQuiet lines → card_told l (before ++ lines) ≡ card_told l before
quiet_card l before [] quiet = ap (card_told l) (append-nil before)
quiet_card l before (line ∷ lines) quiet =
    let parts = quiet_parts line lines quiet in
    ap (card_told l) (sym (append_assoc before (line ∷ []) lines))
    ∙ quiet_card l (before ++ line ∷ []) lines parts.1
    ∙ card-push l before line
    ∙ parts.0.card l (card_told l before)

quiet_torn : (lines : List Line) → AreQuiet lines → count_by is_torn lines ≡ 0
quiet_torn [] quiet = refl
quiet_torn (line ∷ lines) quiet = let parts = quiet_parts line lines quiet in rw parts.0.torn (quiet_torn lines parts.1)

-- of two lists
quiet-append : (xs ys : List Line) → AreQuiet xs → AreQuiet ys → AreQuiet (xs ++ ys)
quiet-append [] ys first second = second
quiet-append (x ∷ xs) ys first second = by (tells_power x) first (λ none. quiet-append xs ys none second)
  where
    by : (b : Bool) → (b || list_any tells_power xs) ≡ false → (list_any tells_power xs ≡ false → list_any tells_power (xs ++ ys) ≡ false)
        → (b || list_any tells_power (xs ++ ys)) ≡ false
    by true none more = none
    by false none more = more none

-- settlement lines, and an end line of either kind
quiet_copies : (p : Payment) (message : List ℕ) (messages : List (List ℕ)) (n : ℕ) → AreQuiet (copy_lines p message messages n)
quiet_copies p message messages zero = refl
quiet_copies p message messages (suc n) = quiet-append (copy_lines p message messages n) _ (quiet_copies p message messages n) refl

quiet_end : (lost_so : Bool) (lane number : ℕ) (end : EndData) → AreQuiet (outcome_line lost_so lane number end ∷ [])
quiet_end true lane number end = refl
quiet_end false lane number end = refl

module _ (p : Payment) (before : List Line) where
  -- these are losses of the purchase's card alone
  abbrev Own : List Line → Type 0
  Own lines = (name : List ℕ) → losses_told_behind name before lines ≡ (if bytes_eq p.card.name name then count_by is_torn lines else 0)

  abbrev Others : List Line → Type 0
  Others lines = (k : ℕ) → k ≢ p.lane → card_told k (before ++ lines) ≡ card_told k before

  pub record Came (lane : LaneRow) (replies : List Reply) (card : CardRow) (messages : List (List ℕ)) (lines : List Line) : Type 0 where
    pub own : Own lines
    pub others : Others lines
    pub card_is : card_told p.lane (before ++ lines) ≡ p.card.name

  -- where so many purchases had ended
  pub record Behind (ended : ℕ) (after : Part) (lines : List Line) : Type 0 where
    pub own : Own lines
    pub others : Others lines
    pub card_is : (replies : List Reply) → after.lane.running ≡ Some replies
        → (card_told p.lane (before ++ lines) ≡ p.card.name) × (length after.lane.ended ≡ ended)

  none_own : (lines : List Line) → AreQuiet lines → Own lines
  none_own lines quiet name = quiet_losses name before lines quiet ∙ sym (by (bytes_eq p.card.name name))
    where
      by : (b : Bool) → (if b then count_by is_torn lines else 0) ≡ 0
      by true = quiet_torn lines quiet
      by false = refl

  -- a power line of the purchase's card
  pub record Powers (line : Line) : Type 0 where
    pub named : (k : ℕ) (name : List ℕ) → card_next k name line ≡ (if p.lane == k then p.card.name else name)
    pub own : (name : List ℕ) (ls : List Line) → (if is_loss_of name ls line then 1 else 0) ≡ (if bytes_eq p.card.name name then count_by is_torn (line ∷ []) else 0)

  power_came : (lane : LaneRow) (replies : List Reply) (card : CardRow) (messages : List (List ℕ)) (line : Line) → Powers line
      → Came lane replies card messages (line ∷ [])
  unfolding losses_told_behind
  power_came lane replies card messages line powers = record {
    own = λ name. (let same : (if is_loss_of name before line then 1 else 0) ≡ (if bytes_eq p.card.name name then count_by is_torn (line ∷ []) else 0) = powers.own name before in omega (arith, same));
    others = λ k other. card-push k before line ∙ powers.named k (card_told k before) ∙ ap (λ b. if b then p.card.name else card_told k before) (apart k p.lane other);
    card_is = card-push p.lane before line ∙ powers.named p.lane (card_told p.lane before) ∙ ap (λ b. if b then p.card.name else card_told p.lane before) (eq-eqb p.lane p.lane refl);
  }

  no_loss : (b : Bool) → ◌≡◌ {A = ℕ} 0 (if b then 0 else 0)
  no_loss true = refl
  no_loss false = refl

  cut_card : (k : ℕ) (command : List ℕ) → card_told k (before ++ torn_lines p.lane command) ≡ card_told k before
  cut_card k command =
      let asks : Line = ToCard p.lane (record { items = command }) in
      ap (card_told k) (sym (append_assoc before (asks ∷ []) (Torn p.lane ∷ [])))
      ∙ card-push k (before ++ asks ∷ []) (Torn p.lane)
      ∙ card-push k before asks

  ends_so : (ended : ℕ) (lane : LaneRow) (card : CardRow) (messages : List (List ℕ)) (replies : List Reply) (lines : List Line) → Came lane replies card messages lines
      → (lost_so : Bool) (number : ℕ) (end : EndData) → (after : Part) → after.lane.running ≡ None
      → Behind ended after (lines ++ outcome_line lost_so p.lane number end ∷ [])
  ends_so ended lane card messages replies lines came lost_so number end after rests = record {
    own = λ name. losses-append name before lines line ∙ same name (bytes_eq p.card.name name) (came.own name);
    others = λ k other. joined k ∙ came.others k other;
    card_is = λ others runs. cc;
  }
    where
      line : List Line
      line = outcome_line lost_so p.lane number end ∷ []

      quiet : AreQuiet line
      quiet = quiet_end lost_so p.lane number end

      joined : (k : ℕ) → card_told k (before ++ (lines ++ line)) ≡ card_told k (before ++ lines)
      joined k = ap (card_told k) (sym (append_assoc before lines line)) ∙ quiet_card k (before ++ lines) line quiet

      same : (name : List ℕ) (b : Bool) → losses_told_behind name before lines ≡ (if b then count_by is_torn lines else 0)
          → losses_told_behind name before lines + losses_told_behind name (before ++ lines) line ≡ (if b then count_by is_torn (lines ++ line) else 0)
      same name true is =
          let none : losses_told_behind name (before ++ lines) line ≡ 0 = quiet_losses name (before ++ lines) line quiet in
          let both : count_by is_torn (lines ++ line) ≡ count_by is_torn lines + count_by is_torn line = sum_by-append (λ (x : Line). cond (is_torn x) 1 0) lines line in
          let zero_more : count_by is_torn line ≡ 0 = quiet_torn line quiet in
          omega (arith, is, none, both, zero_more)
      same name false is =
          let none : losses_told_behind name (before ++ lines) line ≡ 0 = quiet_losses name (before ++ lines) line quiet in omega (arith, is, none)

module _ (p : Payment) (part : Part) (before : List Line) (known : (replies : List Reply) → part.lane.running ≡ Some replies → card_told p.lane before ≡ p.card.name) where
  quiet_came : (lane : LaneRow) (replies others : List Reply) → part.lane.running ≡ Some others → (card : CardRow) (messages : List (List ℕ)) (lines : List Line)
      → AreQuiet lines → Came p before lane replies card messages lines
  quiet_came lane replies others runs card messages lines quiet = record {
    own = none_own p before lines quiet;
    others = λ k other. quiet_card k before lines quiet;
    card_is = quiet_card p.lane before lines quiet ∙ known others runs;
  }

  cut_own : (command : List ℕ) → (others : List Reply) → part.lane.running ≡ Some others → Own p before (torn_lines p.lane command)
  unfolding losses_told_behind
  cut_own command others runs name =
      let asks : Line = ToCard p.lane (record { items = command }) in
      let here : card_told p.lane (before ++ asks ∷ []) ≡ p.card.name = card-push p.lane before asks ∙ known others runs in
      ap (λ (card : List ℕ). 0 + ((if bytes_eq card name then 1 else 0) + 0)) here ∙ by (bytes_eq p.card.name name)
    where
      by : (b : Bool) → 0 + ((if b then 1 else 0) + 0) ≡ (if b then 1 else 0)
      by true = refl
      by false = refl

  host_quiet : (message : List ℕ) (reply : Option (List ℕ)) → AreQuiet (host_lines p.iso p.lane message reply)
  host_quiet message None = refl
  host_quiet message (Some reply) = refl

  tells_lost : Tells p part (Came p before) (Behind p before (length part.lane.ended))
  tells_lost = record {
    still = record {
      own = none_own p before [] refl;
      others = λ k other. quiet_card k before [] refl;
      card_is = λ replies runs. (quiet_card p.lane before [] refl ∙ known replies runs, refl);
    };
    goes = λ lane later replies card messages lines came.
        record { own = came.own; others = came.others; card_is = λ others runs. (came.card_is, ap (λ (pasts : List Past). length pasts) (later_ended part.lane lane later)) };
    ends = λ lane later replies card messages lines came end is. ends_so p before (length part.lane.ended) lane card messages replies lines came (loses p lane.store end.capture) (length lane.ended + 1) end _ refl;
    powers = λ rests free apps choice. power_came p before _ [] _ part.messages _ (record { named = λ k name. refl; own = λ name ls. no_loss p before (bytes_eq p.card.name name) });
    power_cut = λ rests free apps is. power_came p before part.lane _ (lost part.card) part.messages _ (record { named = λ k name. refl; own = λ name ls. refl });
    powers_canned = λ rests free answers canned.
        power_came p before _ [] _ part.messages _ (record { named = λ k name. refl; own = λ name ls. no_loss p before (bytes_eq p.card.name name) });
    answers = λ replies runs apps command asks. quiet_came part.lane _ replies runs _ part.messages _ refl;
    cuts = λ replies runs command cut at. record {
      own = cut_own command replies runs;
      others = λ k other. cut_card p before k command;
      card_is = cut_card p before p.lane command ∙ known replies runs;
    };
    tells = λ replies runs answers canned command answer. quiet_came part.lane _ replies runs _ part.messages _ refl;
    gone = λ replies runs answers canned command. quiet_came part.lane _ replies runs part.card part.messages _ refl;
    hosts = λ replies runs message asks reply is. quiet_came _ _ replies runs part.card _ _ (host_quiet message reply);
  }

module _ (p : Payment) (part : Part) (before : List Line) (known : (replies : List Reply) → part.lane.running ≡ Some replies → card_told p.lane before ≡ p.card.name) where
  -- while no purchase runs, and none begins
  rests_so : (after : Part) (lines : List Line) → after.lane.running ≡ None → AreQuiet lines → Behind p before (length part.lane.ended) after lines
  rests_so after lines rests quiet = record {
    own = none_own p before lines quiet;
    others = λ k other. quiet_card k before lines quiet;
    card_is = λ replies runs. (let none : None ≡ Some replies = sym rests ∙ runs in cc);
  }

  store_lost : StoreTells p part (Came p before) (Behind p before (length part.lane.ended))
  store_lost = record {
    own = tells_lost p part before known;
    again = λ one at off. tells_lost p (part_with (opened_to_add part.lane.store one) part) before known;
    opened = λ one at off. rests_so (part_with (opened_to_add part.lane.store one) part) [] at.rests refl;
    lost = λ at cut. rests_so (record part { lane = lane_lost part.lane }) _ at.rests refl;
    sent = λ at message. rests_so (copied p message part) _ at.rests (quiet_copies p message part.messages p.copies);
    sent_lost = λ at message cut.
        rests_so (record (copied p message part) { lane = lane_lost (lane_copied p message part.lane) }) _ at.rests
        (quiet-append (copy_lines p message part.messages p.copies) (EndLost p.lane (length part.lane.ended + 1) ∷ [])
        (quiet_copies p message part.messages p.copies) refl);
  }

-- each card and each running lane as the lines tell
pub record IsLost (s : ScenarioData) (w : World) (lines : List Line) : Type 0 where
  pub sound : IsWorldSound s w
  pub card : (l : ℕ) (replies : List Reply) (p : Payment) → (lane_at w l).running ≡ Some replies → next_of s w l ≡ Some p → card_told l lines ≡ p.card.name
  pub losses : HasLosses s lines w

pub names_differ : (cards : List CardData) → AllPairs (λ a b. a.name ≢ b.name) cards → (i j : ℕ) (a b : CardData) → slice_get cards i ≡ Some a → slice_get cards j ≡ Some b → i ≢ j
    → bytes_eq a.name b.name ≡ false
names_differ cards differ i j a b here there other = by_test (bytes_eq a.name b.name) refl
  where
    unequal : (k m : ℕ) (x y : CardData) → slice_get cards k ≡ Some x → slice_get cards m ≡ Some y → k < m → x.name ≢ y.name
    unequal k m x y at behind before same =
        let inside : m < length cards = slice_get_within cards m y behind in
        differ k m x before inside
        (ap (λ (c : CardData). c.name) (get_or_from_slice_get cards k x x at) ∙ same ∙ ap (λ (c : CardData). c.name) (sym (get_or_from_slice_get cards m y x behind)))

    by_order : a.name ≡ b.name → (i < j) ⊎ (j ≤ i) → ⊥
    by_order same (inl before) = unequal i j a b here there before same
    by_order same (inr past) = unequal j i b a there here (let apart : j ≢ i = (λ e. other (sym e)) in omega arith) (sym same)

    by_test : (t : Bool) → bytes_eq a.name b.name ≡ t → t ≡ false
    by_test true is = absurd (by_order ((bytes_eq-Decides a.name b.name).0 is) (cases_lt i j))
    by_test false is = refl

module _ (s : ScenarioData) (fits : IsScenario s) where
  module _ (w : World) (lines : List Line) (choices : List Bool) (is_lost : IsLost s w lines) where
    -- an event that leaves lanes and losses, and whose lines tell none
    calm : (after : World) (new : List Line) → IsWorldSound s after → LanesLike after w → ((i : ℕ) → (card_at after i).losses ≡ (card_at w i).losses) → AreQuiet new
        → IsLost s after (lines ++ new)
    calm after new sound lanes losses quiet = record {
      sound = sound;
      card = λ l replies p runs next.
          quiet_card l lines new quiet
          ∙ is_lost.card l replies p (ap (λ (row : LaneRow). row.running) (sym (lanes.each l)) ∙ runs)
          (ap (λ (row : LaneRow). payment_in s l (length row.ended)) (sym (lanes.each l)) ∙ next);
      losses = λ i card there.
          losses i ∙ is_lost.losses i card there
          ∙ (let none : losses_told_behind card.name lines new ≡ 0 = quiet_losses card.name lines new quiet in
          let joined : losses_told card.name (lines ++ new) ≡ losses_told card.name lines + losses_told_behind card.name lines new = losses-append card.name [] lines new in
          omega (arith, none, joined));
    }

    turn_lost : (l : ℕ) (o : Option Payment) → next_of s w l ≡ o → IsWorldSound s (turned_by w l choices o).world
        → IsLost s (turned_by w l choices o).world (lines ++ (turned_by w l choices o).lines)
    turn_lost l None is sound = calm w [] sound (settle_like s w choices None) (λ i. refl) refl
    turn_lost l (Some p) is sound = record {
      sound = sound;
      card = λ k replies q runs next. by_lane k replies q runs next (cases_eq k l);
      losses = λ i card there. by_card i card there (cases_eq i p.planned.card);
    }
      where
        part : Part
        part = part_of w l p.planned.card

        m : Moved
        m = lane_piece p part (choice_in choices 0) (choice_in choices 1)

        lane : p.lane ≡ l
        lane = (payment_facts s l (length (lane_at w l).ended) p is).lane

        known : (replies : List Reply) → part.lane.running ≡ Some replies → card_told p.lane lines ≡ p.card.name
        known replies runs = ap (λ k. card_told k lines) lane ∙ is_lost.card l replies p runs is

        behind : Behind p lines (length part.lane.ended) m.part m.lines
        behind =
            lane_tells p part (Came p lines) (Behind p lines (length part.lane.ended)) (store_lost p part lines known) (choice_in choices 0) (choice_in choices 1)

        by_lane : (k : ℕ) (replies : List Reply) (q : Payment) → (lane_at (turned_by w l choices (Some p)).world k).running ≡ Some replies
            → next_of s (turned_by w l choices (Some p)).world k ≡ Some q → (k ≡ l) ⊎ (k ≢ l) → card_told k (lines ++ m.lines) ≡ q.card.name
        by_lane k replies q runs next (inl this) =
            let row : lane_at (turned_by w l choices (Some p)).world k ≡ m.part.lane =
            ap (λ j. lane_at (turned_by w l choices (Some p)).world j) this ∙ lane_behind s w l p is_lost.sound is m in
            let now = behind.card_is replies (ap (λ (x : LaneRow). x.running) (sym row) ∙ runs) in
            let same : q ≡ p =
            same_Some q p
            (sym next ∙ ap (λ (x : LaneRow). payment_in s k (length x.ended)) row ∙ ap (λ n. payment_in s k n) now.1 ∙ ap (λ j. payment_in s j (length (lane_at w l).ended)) this ∙ is) in
            ap (λ j. card_told j (lines ++ m.lines)) (this ∙ sym lane) ∙ now.0 ∙ ap (λ (x : Payment). x.card.name) (sym same)
        by_lane k replies q runs next (inr other) =
            let row : lane_at (turned_by w l choices (Some p)).world k ≡ lane_at w k = get_or-set_other w.lanes l k m.part.lane new_lane other in
            behind.others k (λ same. other (same ∙ lane))
            ∙ is_lost.card k replies q (ap (λ (x : LaneRow). x.running) (sym row) ∙ runs) (ap (λ (x : LaneRow). payment_in s k (length x.ended)) (sym row) ∙ next)

        there_is : slice_get s.cards p.planned.card ≡ Some p.card
        there_is = (payment_facts s l (length (lane_at w l).ended) p is).card

        by_card : (i : ℕ) (card : CardData) → slice_get s.cards i ≡ Some card → (i ≡ p.planned.card) ⊎ (i ≢ p.planned.card)
            → (card_at (turned_by w l choices (Some p)).world i).losses ≡ losses_told card.name (lines ++ m.lines)
        by_card i card there (inl this) =
            let same : card ≡ p.card = same_Some card p.card (sym there ∙ ap (λ j. slice_get s.cards j) this ∙ there_is) in
            let row : card_at (turned_by w l choices (Some p)).world i ≡ m.part.card = ap (λ j. card_at (turned_by w l choices (Some p)).world j) this ∙ card_behind s w l p is_lost.sound is m in
            let grown : m.part.card.losses ≡ (card_at w p.planned.card).losses + count_by is_torn m.lines = lane_told p part (choice_in choices 0) (choice_in choices 1) in
            let were : (card_at w p.planned.card).losses ≡ losses_told p.card.name lines = is_lost.losses p.planned.card p.card there_is in
            let own : losses_told_behind p.card.name lines m.lines ≡ count_by is_torn m.lines =
            behind.own p.card.name ∙ ap (λ b. if b then count_by is_torn m.lines else 0) ((bytes_eq-Decides p.card.name p.card.name).1 refl) in
            let joined : losses_told p.card.name (lines ++ m.lines) ≡ losses_told p.card.name lines + losses_told_behind p.card.name lines m.lines = losses-append p.card.name [] lines m.lines in
            let now : m.part.card.losses ≡ losses_told p.card.name (lines ++ m.lines) = omega (arith, grown, were, own, joined) in
            ap (λ (x : CardRow). x.losses) row ∙ now ∙ ap (λ (c : CardData). losses_told c.name (lines ++ m.lines)) (sym same)
        by_card i card there (inr other) =
            let row : card_at (turned_by w l choices (Some p)).world i ≡ card_at w i = get_or-set_other w.cards p.planned.card i m.part.card new_card other in
            let none : losses_told_behind card.name lines m.lines ≡ 0 =
            behind.own card.name
            ∙ ap (λ b. if b then count_by is_torn m.lines else 0)
            (names_differ s.cards fits.tables.cards.names p.planned.card i p.card card there_is there (λ e. other (sym e))) in
            let joined : losses_told card.name (lines ++ m.lines) ≡ losses_told card.name lines + losses_told_behind card.name lines m.lines = losses-append card.name [] lines m.lines in
            ap (λ (x : CardRow). x.losses) row ∙ is_lost.losses i card there ∙ (omega (arith, none, joined))

    settle_lost : (o : Option Settlement) → IsWorldSound s (settles s w choices o).world → IsLost s (settles s w choices o).world (lines ++ (settles s w choices o).lines)
    settle_lost None sound = calm w [] sound (settle_like s w choices None) (λ i. refl) refl
    settle_lost (Some (Opens l)) sound =
        calm (settles s w choices (Some (Opens l))).world [] sound (settle_like s w choices (Some (Opens l))) (λ i. refl) refl
    settle_lost (Some (Sends l message drops)) sound =
        calm (settles s w choices (Some (Sends l message drops))).world (settles s w choices (Some (Sends l message drops))).lines sound
        (settle_like s w choices (Some (Sends l message drops))) (λ i. refl) refl

    -- a card that is changed, but for its losses
    kept_losses : (j : ℕ) (card : CardRow) → card.losses ≡ (card_at w j).losses → (i : ℕ) → (card_at (with_card w j card) i).losses ≡ (card_at w i).losses
    kept_losses j card same i = at_set (λ (n : ℕ) (x : CardRow). x.losses ≡ (card_at w n).losses) w.cards j card new_card same (λ n. refl) i

    audit_lost : (o : Option Check) → IsWorldSound s (audits w choices o).world → IsLost s (audits w choices o).world (lines ++ (audits w choices o).lines)
    audit_lost None sound = calm w [] sound (audit_like w choices None) (λ i. refl) refl
    audit_lost (Some (PowersUp j card)) sound = calm (audits w choices (Some (PowersUp j card))).world (audits w choices (Some (PowersUp j card))).lines sound
        (audit_like w choices (Some (PowersUp j card))) (kept_losses j _ refl) refl
    audit_lost (Some (Asks j card command)) sound = calm (audits w choices (Some (Asks j card command))).world (audits w choices (Some (Asks j card command))).lines sound
        (audit_like w choices (Some (Asks j card command))) (kept_losses j _ refl) refl

  pub lost_next : (w : World) (lines : List Line) (e : Event) (choices : List Bool) → IsLost s w lines → IsLost s (happens s w e choices).world (lines ++ (happens s w e choices).lines)
  lost_next w lines (Turn l) choices is = turn_lost w lines choices is l (next_of s w l) refl (event_sound s w (Turn l) choices is.sound)
  lost_next w lines (Settle k) choices is = settle_lost w lines choices is (slice_get (settlements s w) k) (event_sound s w (Settle k) choices is.sound)
  lost_next w lines (Audit k) choices is = audit_lost w lines choices is (slice_get (checks s) k) (event_sound s w (Audit k) choices is.sound)

  pub lost_first : IsLost s (first_world s) []
  unfolding losses_told_behind
  lost_first = record {
    sound = first_sound s;
    card = λ l replies p runs next.
        absurd (let none : None ≡ Some replies = ap (λ (row : LaneRow). row.running) (sym (get_or-map_const s.lanes l new_lane)) ∙ runs in cc);
    losses = λ i card there. ap (λ (row : CardRow). row.losses) (get_or-map_const s.cards i new_card);
  }

pub losses_are_told : RunsTellLosses
losses_are_told s place n choices lines w fits reached = (reached_lines s (IsLost s) (lost_first s fits) (lost_next s fits) place n choices lines w reached).losses

-- the lines at the end tell none
quiet_balance : (pan : List ℕ) (o : Option ℤ) → AreQuiet (balance_line pan o)
quiet_balance pan None = refl
quiet_balance pan (Some amount) = refl

quiet_accounts : (s : ScenarioData) (w : World) (accounts : List AccountData) → AreQuiet (flat_map (account_lines s w) accounts)
quiet_accounts s w [] = refl
quiet_accounts s w (account ∷ accounts) =
    quiet-append (account_lines s w account) (flat_map (account_lines s w) accounts)
    (quiet_balance account.pan (balance_after s.issuer s.accounts w.messages account.pan)) (quiet_accounts s w accounts)

quiet_closing : (s : ScenarioData) (w : World) → AreQuiet (closing s w)
quiet_closing s w = quiet-append (flat_map (account_lines s w) s.accounts) (Done (ended_count w) ∷ []) (quiet_accounts s w s.accounts) refl

pub whole_losses : WholeRunsTellLosses
whole_losses s lines w fits run i card there =
    let reported : (card_at w i).losses ≡ losses_told card.name run.reported =
    losses_are_told s Finished run.count run.choices run.reported w fits run.reached i card there in
    let none : losses_told_behind card.name run.reported (closing s w) ≡ 0 = quiet_losses card.name run.reported (closing s w) (quiet_closing s w) in
    let joined : losses_told card.name (run.reported ++ closing s w) ≡ losses_told card.name run.reported + losses_told_behind card.name run.reported (closing s w) =
    losses-append card.name [] run.reported (closing s w) in
    let all : (card_at w i).losses ≡ losses_told card.name (run.reported ++ closing s w) = omega (arith, reported, none, joined) in
    all ∙ ap (λ (ls : List Line). losses_told card.name ls) (sym run.whole)
