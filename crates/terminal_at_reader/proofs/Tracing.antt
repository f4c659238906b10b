-- A talk that is at its end is each purchase's dialogue, one behind the other.
use Rattle.std.proofs.Common.{◌≡◌, ◌+◌, Ok, inl, inr, ℕ, Bool, true, false, List, [], ◌∷◌, ◌++◌, Option, Some, None, refl, sym, ap, subst, ◌∙◌, append_assoc, arith, if◌then◌else◌, length, slice_get, take}
use Rattle.std.proofs.lemmas.List.{append-nil, take-take, take_all, take_at}
use Rattle.std.proofs.lemmas.List.Concat.{flat_map-append}
use Rattle.std.proofs.lemmas.Slice.Eq.{bytes_eq-Decides}
use Rattle.std.specs.Io.KnownBytes.{Appends, Consumes}
use Rattle.std.specs.List.{flat_map}
use Rattle.std.specs.Prelude.{option_to_list}
use Rattle.std.specs.Str.{bytes_eq}
use Rattle.emv_dict.specs.declared.purchase.Logged.{Logged}
use Rattle.kernel.specs.Dialogue.{dialogue}
use Rattle.kernel.specs.EndShown.{EndShown}
use Rattle.kernel.specs.Reply.{Reply}
use Rattle.line_talk.proofs.Talking.{onward_more}
use Rattle.line_talk.specs.Coming.{Comes}
use Rattle.line_talk.specs.Talk as talk
use Rattle.line_talk.specs.Talk.{EndsDocument, EndsWith, HasTalked, Served, Sides, TalkEnds, WritesFault, WritesLast, other_line}
use Rattle.line_talk.specs.Turns.{GoesOn, Opening, Turn, answers_of, lines_spoken, may_end, onward_behind}
use Rattle.line_talk.specs.declared.line.Came.TheVariants as came
use Rattle.line_talk.specs.declared.party.Onward.{Onward}
use Rattle.line_talk.specs.declared.party.Onward.TheVariants as way
use Rattle.line_talk.specs.declared.status.Status.{Status}
use Rattle.line_talk.specs.declared.status.Status.TheVariants.{Done, Refused, Unserved, SourceFailed, SinkFailed, OutOfMemory}
use Rattle.scenario_lanes.specs.Plan.{LaneData}
use Rattle.scenario_lanes.specs.declared.plan.Planned.{Planned}
use Rattle.terminal_state.specs.Terminal.{Outset}
use Rattle.trace_check.proofs.Closing.{Heard, heard_more}
use Rattle.trace_check.proofs.Lawful.{same_is_dialogue}
use Rattle.trace_check.proofs.Spelling.{text_is}
use Rattle.trace_check.specs.Dialogues.{entry_of_standing, is_awaited, reply_with_log}
use Rattle.trace_check.specs.Laws.{IsDialogue, over}
use Rattle.trace_check.specs.Laws as laws
use Rattle.trace_check.specs.Texts.{entry_of_text}
use Rattle.trace_check.specs.Verdicts.{verdict_of}
use Rattle.trace_check.specs.declared.compare.Verdict.TheVariants.{Same}
use Rattle.trace_check.specs.declared.entry.Entry.{Entry}
use Rattle.terminal_at_reader.proofs.Entries.{ask_unheard, over_of}
use Rattle.terminal_at_reader.proofs.Fronts.{has_end}
use Rattle.terminal_at_reader.specs.Document.{ReadsTerminal}
use Rattle.terminal_at_reader.specs.Hearing.{fault_line, understood, unread}
use Rattle.trace_check.specs.QuestionText.{question_text}
use Rattle.terminal_at_reader.specs.Settlement.{settlement_reply}
use Rattle.terminal_at_reader.specs.Talk.{AreEntries, Doing, Pays, Rests, Settles, TerminalTalked, TerminalTurn, ask_at, asked_line, asked_turn, asks, asks_again, asks_why, begins, end_shown_at, first_turn, goes, goes_on, losing_turn, lost_captured_line, lost_line, lost_turn, next_line, next_turn, other_turn, outset_of_planned, paying_turn, question_decided, replies_heard, reply_if_entry, resting_turn, settle_line, settlement_turn, settling_turn, terminal_opening, terminal_turn, told_of, turn_at, turn_by_end, turn_if_captured, turn_if_planned, turn_if_reply, turn_with, want_line, why_line, why_turn}
use Rattle.terminal_at_reader.specs.Till.{TillData, approval_logged, new_till, till_begun, till_broken_off, till_lost, till_lost_captured}
use Rattle.terminal_at_reader.specs.Top.{ArePaid, HadDialogues, IsBrokenOff, IsLoss, IsPaid, between, broken_off, lost, paid, settled, terminal_programme, unpaid, written_last}

-- what was written last
written_more : (first : List ℕ) (turns : List Turn) (one : Turn) → written_last first (turns ++ one ∷ []) ≡ one.answer
written_more first [] one = refl
written_more first (turn ∷ turns) one = written_more turn.answer turns one

module _ (iso : Bool) (log : List Logged) (outset : Outset) where
  -- what was asked up to these replies, each time followed by the reply
  data Exchanges : List Reply → List Entry → Type 0 where
    none : Exchanges [] []
    more : (replies : List Reply) (entries : List Entry) → Exchanges replies entries → (entry : Entry) (reply : Reply) → reply_with_log log entry ≡ Some reply
        → is_awaited (dialogue outset replies).deed reply ≡ true
        → Exchanges (replies ++ reply ∷ []) (entries ++ entry_of_standing outset (dialogue outset replies) ∷ entry ∷ [])

  -- each reply was awaited
  are_heard : (replies : List Reply) (entries : List Entry) → Exchanges replies entries → Heard (λ later. (dialogue outset later).deed) replies
  are_heard replies entries none = tt
  are_heard replies entries (more before earlier exchanges entry reply told awaited) =
      heard_more (λ later. (dialogue outset later).deed) before reply (are_heard before earlier exchanges) awaited

  -- exchanges, and what is left of their dialogue
  joined : (replies : List Reply) (entries : List Entry) → Exchanges replies entries → (later : List Entry) → IsDialogue log outset replies later
      → IsDialogue log outset [] (entries ++ later)
  joined replies entries none later is = is
  joined replies entries (more before earlier exchanges entry reply told awaited) later is =
      let ask = entry_of_standing outset (dialogue outset before) in
      subst (λ (all : List Entry). IsDialogue log outset [] all) (sym (append_assoc earlier (ask ∷ entry ∷ []) later))
      (joined before earlier exchanges (ask ∷ entry ∷ later) (laws.answered before entry reply later told awaited is))

  abbrev heard_in : Entry → List Reply
  heard_in entry = option_to_list (reply_with_log log entry)

  none_heard : (replies : List Reply) → heard_in (entry_of_standing outset (dialogue outset replies)) ≡ []
  none_heard replies =
      let at = dialogue outset replies in ap (λ (r : Option Reply). option_to_list r) (ask_unheard log outset at.steps_done at.deed)

  -- the replies of exchanges
  heard_all : (replies : List Reply) (entries : List Entry) → Exchanges replies entries → (later : Entry) → heard_in later ≡ []
      → replies_heard log (entries ++ later ∷ []) ≡ replies
  heard_all replies entries none later silent = ap (λ (r : List Reply). r ++ []) silent
  heard_all replies entries (more before earlier exchanges entry reply told awaited) later silent =
      let ask = entry_of_standing outset (dialogue outset before) in
      let one : heard_in entry ≡ reply ∷ [] = ap (λ (r : Option Reply). option_to_list r) told in
      let front : flat_map heard_in earlier ≡ before =
      sym (append-nil (flat_map heard_in earlier)) ∙ sym (ap (λ (r : List Reply). flat_map heard_in earlier ++ (r ++ [])) (none_heard before))
      ∙ sym (flat_map-append heard_in earlier (ask ∷ [])) ∙ heard_all before earlier exchanges ask (none_heard before) in
      ap (λ (es : List Entry). flat_map heard_in es) (append_assoc earlier (ask ∷ entry ∷ []) (later ∷ []))
      ∙ flat_map-append heard_in earlier (ask ∷ entry ∷ later ∷ [])
      ∙ ap (λ (r : List Reply). r ++ (heard_in ask ++ (heard_in entry ++ (heard_in later ++ [])))) front
      ∙ ap (λ (r : List Reply). before ++ (r ++ (heard_in entry ++ (heard_in later ++ [])))) (none_heard before)
      ∙ ap (λ (r : List Reply). before ++ (r ++ (heard_in later ++ []))) one
      ∙ ap (λ (r : List Reply). before ++ (reply ∷ (r ++ []))) silent

  -- the lines of a purchase as exchanges: the entries of its lines, with what is asked next
  record AsExchanges (first : List ℕ) (turns : List Turn) (replies : List Reply) : Type 0 where
    entries : List Entry
    exchanges : Exchanges replies entries
    are : AreEntries iso log outset first turns (entries ++ ask_at outset replies ∷ [])

  module _ (first : List ℕ) (turns : List Turn) (replies : List Reply) (till : TillData) (line : List ℕ) (far : AsExchanges first turns replies) where
    -- one more reply was taken
    taken : (said : Entry) (reply : Reply) (one : Turn) → entry_of_text line ≡ Some said → reply_with_log log (understood iso said) ≡ Some reply
        → is_awaited (dialogue outset replies).deed reply ≡ true → one.line ≡ line
        → one.answer ≡ fault_line (unread iso said) ++ asked_line iso outset (replies ++ reply ∷ [])
        → AsExchanges first (turns ++ one ∷ []) (replies ++ reply ∷ [])
    taken said reply one is heard awaited says answers =
        let ask = ask_at outset replies in
        let later = ask_at outset (replies ++ reply ∷ []) in
        record {
          entries = far.entries ++ ask ∷ understood iso said ∷ [];
          exchanges = more replies far.entries far.exchanges (understood iso said) reply heard awaited;
          are =
              subst (λ (es : List Entry). AreEntries iso log outset first (turns ++ one ∷ []) es)
              (append_assoc far.entries (ask ∷ []) (understood iso said ∷ later ∷ []) ∙ sym (append_assoc far.entries (ask ∷ understood iso said ∷ []) (later ∷ [])))
              (goes_on turns (far.entries ++ ask ∷ []) said later one far.are (says ∙ (text_is line said is).0) answers);
        }

    -- what was asked was asked once more
    again : (one : Turn) → bytes_eq line want_line ≡ true → one.line ≡ line → one.answer ≡ asked_line iso outset replies → AsExchanges first (turns ++ one ∷ []) replies
    again one is says answers = record {
      entries = far.entries;
      exchanges = far.exchanges;
      are = asks_again turns far.entries (ask_at outset replies) one far.are (says ∙ (bytes_eq-Decides line want_line).0 is) answers;
    }

    -- it was asked why the last question is of its kind
    told_why : (one : Turn) → bytes_eq line why_line ≡ true → one.line ≡ line → one.answer ≡ question_text (question_decided outset replies)
        → AsExchanges first (turns ++ one ∷ []) replies
    told_why one is says answers =
        let ask = ask_at outset replies in
        let heard : replies_heard log (far.entries ++ ask ∷ []) ≡ replies = heard_all replies far.entries far.exchanges ask (none_heard replies) in
        record {
          entries = far.entries;
          exchanges = far.exchanges;
          are =
              asks_why turns (far.entries ++ ask ∷ []) one far.are (says ∙ (bytes_eq-Decides line why_line).0 is)
              (answers ∙ ap (λ (r : List Reply). question_text (question_decided outset r)) (sym heard));
        }

-- how the talk goes on where the terminal is at this
abbrev onward_for : Doing → Onward
onward_for (Pays outset replies) = way.Awaits
onward_for Rests = way.Rests
onward_for (Settles answered) = way.Awaits

-- a line that isn't one of the two that tell of lost power
not_lost : (line : List ℕ) → bytes_eq line lost_line ≡ false → bytes_eq line lost_captured_line ≡ false → IsLoss line → ⊥
not_lost line unlost unkept (inl same) = let clash : false ≡ true = sym unlost ∙ ap (λ (l : List ℕ). bytes_eq l lost_line) same in cc clash
not_lost line unlost unkept (inr same) = let clash : false ≡ true = sym unkept ∙ ap (λ (l : List ℕ). bytes_eq l lost_captured_line) same in cc clash

another_word : (line word : List ℕ) → bytes_eq line word ≡ true → bytes_eq lost_line word ≡ false → bytes_eq lost_captured_line word ≡ false → IsLoss line → ⊥
another_word line word is unlost unkept (inl same) = let clash : false ≡ true = sym unlost ∙ sym (ap (λ (l : List ℕ). bytes_eq l word) same) ∙ is in cc clash
another_word line word is unlost unkept (inr same) = let clash : false ≡ true = sym unkept ∙ sym (ap (λ (l : List ℕ). bytes_eq l word) same) ∙ is in cc clash

no_reply : (line reply : List ℕ) → settlement_reply line ≡ Some reply → IsLoss line → ⊥
no_reply line reply is (inl same) = let clash : None ≡ Some reply = sym (ap settlement_reply same) ∙ is in cc clash
no_reply line reply is (inr same) = let clash : None ≡ Some reply = sym (ap settlement_reply same) ∙ is in cc clash

module _ (lane : LaneData) where
  abbrev first_written : List ℕ
  first_written = (terminal_opening lane).text

  -- a purchase runs: those before it, and its own lines
  record Running (turns : List Turn) (outset : Outset) (replies : List Reply) (till : TillData) : Type 0 where
    before : List Turn
    mine : List Turn
    split : turns ≡ before ++ mine
    number : ℕ
    number_is : till.begun ≡ number + 1
    planned : Planned
    planned_is : slice_get lane.purchases number ≡ Some planned
    outset_is : outset ≡ outset_of_planned lane planned
    left : List Logged
    paid_before : ArePaid lane first_written before number till.log left
    length_is : length till.log ≡ till.log_before
    exchanges : AsExchanges lane.iso till.log outset (written_last first_written before) mine replies

  -- and it waits for a reply
  record Waiting (turns : List Turn) (outset : Outset) (replies : List Reply) (till : TillData) : Type 0 where
    runs : Running turns outset replies till
    waits : end_shown_at outset replies ≡ None

  abbrev HasPaid : List Turn → TillData → Type 0
  HasPaid turns till = ArePaid lane first_written turns till.begun till.log (take till.log_before till.log)

  abbrev Came : List Turn → Doing → TillData → Type 0
  Came turns (Pays outset replies) till = Waiting turns outset replies till
  Came turns Rests till = HasPaid turns till
  Came turns (Settles answered) till = HasPaid turns till

  record Far (turns : List Turn) (turn : TerminalTurn) : Type 0 where
    onward_is : turn.onward ≡ onward_for turn.doing
    came : Came turns turn.doing turn.till

  -- a purchase is whole
  whole : (turns : List Turn) (outset : Outset) (replies : List Reply) (till : TillData) (end : EndShown) → Running turns outset replies till
      → end_shown_at outset replies ≡ Some end
      → ArePaid lane first_written turns till.begun (till.log ++ approval_logged outset.purchase.amount end.ending end.pan)
      (take till.log_before (till.log ++ approval_logged outset.purchase.amount end.ending end.pan))
  whole turns outset replies till end runs ended =
      let at = dialogue outset replies in
      let ask = ask_at outset replies in
      let ending = over_of outset at.steps_done at.deed end ended in
      let far = runs.exchanges in
      let all = far.entries ++ ask ∷ [] in
      let dialogue_is : IsDialogue till.log outset [] all =
      joined lane.iso till.log outset replies far.entries far.exchanges (ask ∷ []) (over replies ending.0 ending.1) in
      let heard : replies_heard till.log all ≡ replies =
      heard_all lane.iso till.log outset replies far.entries far.exchanges ask (none_heard lane.iso till.log outset replies) in
      let ends : end_shown_at outset (replies_heard till.log all) ≡ Some end = ap (λ (r : List Reply). end_shown_at outset r) heard ∙ ended in
      let of_first : (log : List Logged) → log ≡ [] → IsDialogue log outset [] all
      → verdict_of (record { lane = record lane { purchases = runs.planned ∷ [] }; entries = all }) ≡ Same =
      λ log empty is.
      (same_is_dialogue (outset_of_planned lane runs.planned) all).1
      (subst (λ (d : Outset). IsDialogue [] d [] all) runs.outset_is (subst (λ (l : List Logged). IsDialogue l outset [] all) empty is)) in
      let one : IsPaid lane runs.planned till.log (written_last first_written runs.before) runs.mine end = record {
        entries = all;
        are = subst (λ (d : Outset). AreEntries lane.iso till.log d (written_last first_written runs.before) runs.mine all) runs.outset_is far.are;
        whole = subst (λ (d : Outset). IsDialogue till.log d [] all) runs.outset_is dialogue_is;
        ends = subst (λ (d : Outset). end_shown_at d (replies_heard till.log all) ≡ Some end) runs.outset_is ends;
        same = λ empty. of_first till.log empty dialogue_is;
      } in
      let so = paid runs.before runs.mine runs.number till.log runs.left runs.planned end runs.paid_before runs.planned_is one in
      let approval = approval_logged outset.purchase.amount end.ending end.pan in
      subst (λ (left : List Logged). ArePaid lane first_written turns till.begun (till.log ++ approval) left)
      (sym (take_at till.log approval till.log_before runs.length_is))
      (subst (λ (ts : List Turn). ArePaid lane first_written ts till.begun (till.log ++ approval) till.log) (sym runs.split)
      (subst (λ (n : ℕ). ArePaid lane first_written (runs.before ++ runs.mine) n (till.log ++ approval) till.log) (sym runs.number_is)
      (subst (λ (d : Outset). ArePaid lane first_written (runs.before ++ runs.mine) (runs.number + 1)
      (till.log ++ approval_logged d.purchase.amount end.ending end.pan) till.log) (sym runs.outset_is) so)))

  -- a purchase is broken off behind its lines by one more
  cut_short : (turns : List Turn) (outset : Outset) (replies : List Reply) (till : TillData) (one : Turn) → Waiting turns outset replies till
      → one.line ≡ lost_line → HasPaid (turns ++ one ∷ []) (till_broken_off till)
  cut_short turns outset replies till one waiting is =
      let runs = waiting.runs in
      let ask = ask_at outset replies in
      let far = runs.exchanges in
      let all = far.entries ++ ask ∷ [] in
      let rest = has_end till.log outset replies (are_heard lane.iso till.log outset replies far.entries far.exchanges) in
      let dialogue_is : IsDialogue till.log outset [] (all ++ rest.0) =
      subst (λ (es : List Entry). IsDialogue till.log outset [] es) (sym (append_assoc far.entries (ask ∷ []) rest.0))
      (joined lane.iso till.log outset replies far.entries far.exchanges (ask ∷ rest.0) rest.1) in
      let heard : replies_heard till.log all ≡ replies =
      heard_all lane.iso till.log outset replies far.entries far.exchanges ask (none_heard lane.iso till.log outset replies) in
      let waits : end_shown_at outset (replies_heard till.log all) ≡ None = ap (λ (r : List Reply). end_shown_at outset r) heard ∙ waiting.waits in
      let cut : IsBrokenOff lane runs.planned till.log (written_last first_written runs.before) runs.mine = record {
        entries = all;
        are = subst (λ (d : Outset). AreEntries lane.iso till.log d (written_last first_written runs.before) runs.mine all) runs.outset_is far.are;
        front = (rest.0, subst (λ (d : Outset). IsDialogue till.log d [] (all ++ rest.0)) runs.outset_is dialogue_is);
        waits = subst (λ (d : Outset). end_shown_at d (replies_heard till.log all) ≡ None) runs.outset_is waits;
      } in
      let so = broken_off runs.before runs.mine one runs.number till.log runs.left runs.planned runs.paid_before runs.planned_is cut is in
      let split : turns ++ one ∷ [] ≡ runs.before ++ (runs.mine ++ one ∷ []) =
      ap (λ (ts : List Turn). ts ++ one ∷ []) runs.split ∙ append_assoc runs.before runs.mine (one ∷ []) in
      let length_is = runs.length_is in
      subst (λ (left : List Logged). ArePaid lane first_written (turns ++ one ∷ []) till.begun till.log left)
      (sym (take_all till.log_before till.log (omega (arith, length_is))))
      (subst (λ (ts : List Turn). ArePaid lane first_written ts till.begun till.log till.log) (sym split)
      (subst (λ (n : ℕ). ArePaid lane first_written (runs.before ++ (runs.mine ++ one ∷ [])) n till.log till.log) (sym runs.number_is) so))

  -- where a purchase stands behind its lines
  stands_by : (turns : List Turn) (outset : Outset) (replies : List Reply) (till : TillData) (text : List ℕ) (end : Option EndShown) → Running turns outset replies till
      → end_shown_at outset replies ≡ end → Far turns (turn_by_end outset replies till text end)
  stands_by turns outset replies till text None runs is = record { onward_is = refl; came = record { runs = runs; waits = is } }
  stands_by turns outset replies till text (Some end) runs is = record { onward_is = refl; came = whole turns outset replies till end runs is }

  stands : (turns : List Turn) (outset : Outset) (replies : List Reply) (till : TillData) (told : List ℕ) → Running turns outset replies till
      → Far turns (asked_turn lane.iso outset replies till told)
  stands turns outset replies till told runs =
      stands_by turns outset replies till (told ++ asked_line lane.iso outset replies) (end_shown_at outset replies) runs refl

  -- what turn it may be: none behind which no line follows
  abbrev Goes : List Turn → TerminalTurn → Type 0
  Goes turns turn = (turn.onward ≡ way.Stuck → ⊥) → Far turns turn

  not_stuck : (turns : List Turn) (doing : Doing) (till : TillData) → Goes turns (other_turn way.Stuck doing till)
  not_stuck turns doing till may = absurd (may refl)

  -- a line of a purchase
  module _ (turns : List Turn) (outset : Outset) (replies : List Reply) (till : TillData) (line : List ℕ) (waiting : Waiting turns outset replies till) where
    abbrev runs : Running turns outset replies till
    runs = waiting.runs

    more_of : (one : Turn) (later : List Reply) → AsExchanges lane.iso till.log outset (written_last first_written runs.before) (runs.mine ++ one ∷ []) later
        → Running (turns ++ one ∷ []) outset later till
    more_of one later exchanges = record {
      before = runs.before;
      mine = runs.mine ++ one ∷ [];
      split = ap (λ (ts : List Turn). ts ++ one ∷ []) runs.split ∙ append_assoc runs.before runs.mine (one ∷ []);
      number = runs.number;
      number_is = runs.number_is;
      planned = runs.planned;
      planned_is = runs.planned_is;
      outset_is = runs.outset_is;
      left = runs.left;
      paid_before = runs.paid_before;
      length_is = runs.length_is;
      exchanges = exchanges;
    }

    abbrev GoesBy : TerminalTurn → Type 0
    GoesBy turn = Goes (turns ++ turn_at line turn ∷ []) turn

    answer_is : (told : List ℕ) (later : List Reply) (end : Option EndShown)
        → (turn_by_end outset later till (told ++ asked_line lane.iso outset later) end).answer ≡ told ++ asked_line lane.iso outset later
    answer_is told later None = refl
    answer_is told later (Some end) = refl

    by_want : bytes_eq line want_line ≡ true → GoesBy (asked_turn lane.iso outset replies till [])
    by_want is may =
        let turn : TerminalTurn = asked_turn lane.iso outset replies till [] in
        stands (turns ++ turn_at line turn ∷ []) outset replies till []
        (more_of (turn_at line turn) replies
        (again lane.iso till.log outset (written_last first_written runs.before) runs.mine replies till line runs.exchanges (turn_at line turn) is refl
        (answer_is [] replies (end_shown_at outset replies))))

    by_awaited : (said : Entry) (reply : Reply) → entry_of_text line ≡ Some said → reply_with_log till.log (understood lane.iso said) ≡ Some reply → (awaited : Bool)
        → is_awaited (dialogue outset replies).deed reply ≡ awaited
        → GoesBy (if awaited then asked_turn lane.iso outset (replies ++ reply ∷ []) till (fault_line (unread lane.iso said)) else other_turn way.Stuck (Pays outset replies) till)
    by_awaited said reply is heard true awaited may =
        let told = fault_line (unread lane.iso said) in
        let later = replies ++ reply ∷ [] in
        let turn : TerminalTurn = asked_turn lane.iso outset later till told in
        stands (turns ++ turn_at line turn ∷ []) outset later till told
        (more_of (turn_at line turn) later
        (taken lane.iso till.log outset (written_last first_written runs.before) runs.mine replies till line runs.exchanges said reply (turn_at line turn) is heard awaited refl
        (answer_is told later (end_shown_at outset later))))
    by_awaited said reply is heard false awaited may = absurd (may refl)

    by_reply : (said : Entry) → entry_of_text line ≡ Some said → (reply : Option Reply) → reply_with_log till.log (understood lane.iso said) ≡ reply
        → GoesBy (turn_with lane.iso outset replies till (fault_line (unread lane.iso said)) reply)
    by_reply said is None heard may = absurd (may refl)
    by_reply said is (Some reply) heard may = by_awaited said reply is heard (is_awaited (dialogue outset replies).deed reply) refl may

    by_entry : (said : Option Entry) → entry_of_text line ≡ said
        → GoesBy (turn_with lane.iso outset replies till (told_of lane.iso said) (reply_if_entry lane.iso till.log said))
    by_entry None is may = absurd (may refl)
    by_entry (Some said) is may = by_reply said is (reply_with_log till.log (understood lane.iso said)) refl may

    by_why : bytes_eq line why_line ≡ true → GoesBy (why_turn way.Awaits (Pays outset replies) till (question_decided outset replies))
    by_why is may =
        let one : Turn = turn_at line (why_turn way.Awaits (Pays outset replies) till (question_decided outset replies)) in
        record {
          onward_is = refl;
          came = record {
            runs =
                more_of one replies
                (told_why lane.iso till.log outset (written_last first_written runs.before) runs.mine replies till line runs.exchanges one is refl refl);
            waits = waiting.waits;
          };
        }

    by_lost : (test : Bool) → bytes_eq line lost_line ≡ test
        → GoesBy (if test then lost_turn lost_line (till_broken_off till) else turn_with lane.iso outset replies till (told_of lane.iso (entry_of_text line)) (reply_if_entry lane.iso till.log (entry_of_text line)))
    by_lost true is may =
        let one : Turn = turn_at line (lost_turn lost_line (till_broken_off till)) in
        record { onward_is = refl; came = cut_short turns outset replies till one waiting ((bytes_eq-Decides line lost_line).0 is) }
    by_lost false other may = by_entry (entry_of_text line) refl may

    by_other : (test : Bool) → bytes_eq line why_line ≡ test
        → GoesBy (if test then why_turn way.Awaits (Pays outset replies) till (question_decided outset replies) else if bytes_eq line lost_line then lost_turn lost_line (till_broken_off till) else turn_with lane.iso outset replies till (told_of lane.iso (entry_of_text line)) (reply_if_entry lane.iso till.log (entry_of_text line)))
    by_other true is may = by_why is may
    by_other false other may = by_lost (bytes_eq line lost_line) refl may

    by_line : (test : Bool) → bytes_eq line want_line ≡ test
        → GoesBy (if test then asked_turn lane.iso outset replies till [] else if bytes_eq line why_line then why_turn way.Awaits (Pays outset replies) till (question_decided outset replies) else if bytes_eq line lost_line then lost_turn lost_line (till_broken_off till) else turn_with lane.iso outset replies till (told_of lane.iso (entry_of_text line)) (reply_if_entry lane.iso till.log (entry_of_text line)))
    by_line true is may = by_want is may
    by_line false other may = by_other (bytes_eq line why_line) refl may

    in_purchase : GoesBy (paying_turn lane.iso outset replies till line)
    unfolding paying_turn
    in_purchase may = by_line (bytes_eq line want_line) refl may

  -- a line between purchases
  module _ (turns : List Turn) (till : TillData) (line : List ℕ) (are : HasPaid turns till) where
    abbrev GoesAside : TerminalTurn → Type 0
    GoesAside turn = Far (turns ++ turn_at line turn ∷ []) turn

    aside : (turn : TerminalTurn) → (IsLoss line → ⊥) → HasPaid (turns ++ turn_at line turn ∷ []) till
    aside turn unlost = between turns (turn_at line turn) till.begun till.log (take till.log_before till.log) are unlost

    stays : (turn : TerminalTurn) → turn.onward ≡ onward_for turn.doing → Came (turns ++ turn_at line turn ∷ []) turn.doing turn.till → GoesAside turn
    stays turn same came = record { onward_is = same; came = came }

    -- what the purchase that ended last brought is taken back
    taken_back : (turn : TerminalTurn) → IsLoss line
        → ArePaid lane first_written (turns ++ turn_at line turn ∷ []) till.begun (take till.log_before till.log) (take till.log_before (take till.log_before till.log))
    taken_back turn is =
        subst (λ (left : List Logged). ArePaid lane first_written (turns ++ turn_at line turn ∷ []) till.begun (take till.log_before till.log) left)
        (sym (take-take till.log_before till.log_before till.log (omega arith)))
        (lost turns (turn_at line turn) till.begun till.log (take till.log_before till.log) are is)

    by_planned : (IsLoss line → ⊥) → (planned : Option Planned) → slice_get lane.purchases till.begun ≡ planned → GoesAside (turn_if_planned lane till planned)
    by_planned unlost None is = stays (other_turn way.Rests Rests till) refl (aside (other_turn way.Rests Rests till) unlost)
    by_planned unlost (Some planned) is =
        let outset : Outset = outset_of_planned lane planned in
        let began : TillData = till_begun till in
        let turn : TerminalTurn = asked_turn lane.iso outset [] began [] in
        let one : Turn = turn_at line turn in
        let answer : (end : Option EndShown) → (turn_by_end outset [] began (asked_line lane.iso outset []) end).answer ≡ asked_line lane.iso outset [] =
        λ end. elim end as (λ e. (turn_by_end outset [] began (asked_line lane.iso outset []) e).answer ≡ asked_line lane.iso outset []) [ None ↦ refl | Some shown ↦ refl ] in
        stands (turns ++ one ∷ []) outset [] began []
        (record {
          before = turns ++ one ∷ [];
          mine = [];
          split = sym (append-nil (turns ++ one ∷ []));
          number = till.begun;
          number_is = refl;
          planned = planned;
          planned_is = is;
          outset_is = refl;
          left = take till.log_before till.log;
          paid_before = aside turn unlost;
          length_is = refl;
          exchanges = record {
            entries = [];
            exchanges = none;
            are = asks (ask_at outset []) (written_more first_written turns one ∙ answer (end_shown_at outset []));
          };
        })

    by_captured : (IsLoss line → ⊥) → (answered : ℕ) (told : List ℕ) (captured : Option (List ℕ)) → GoesAside (turn_if_captured lane.iso till answered told captured)
    by_captured unlost answered told None =
        let turn : TerminalTurn = turn_if_captured lane.iso till answered told None in
        stays turn refl
        (subst (λ (left : List Logged). ArePaid lane first_written (turns ++ turn_at line turn ∷ []) till.begun till.log left)
        (sym (take_all (length till.log) till.log (omega arith)))
        (settled turns (turn_at line turn) told answered till.begun till.log (take till.log_before till.log) are refl))
    by_captured unlost answered told (Some message) =
        let turn : TerminalTurn = turn_if_captured lane.iso till answered told (Some message) in
        stays turn refl (aside turn unlost)

    by_loss : (test captured : Bool) → bytes_eq line lost_line ≡ test → bytes_eq line lost_captured_line ≡ captured
        → GoesAside (if test then lost_turn lost_line (till_lost till) else if captured then lost_turn lost_captured_line (till_lost_captured till) else other_turn way.Rests Rests till)
    by_loss true captured is other =
        let turn : TerminalTurn = lost_turn lost_line (till_lost till) in
        stays turn refl (taken_back turn (inl ((bytes_eq-Decides line lost_line).0 is)))
    by_loss false true isnt is =
        let turn : TerminalTurn = lost_turn lost_captured_line (till_lost_captured till) in
        stays turn refl (taken_back turn (inr ((bytes_eq-Decides line lost_captured_line).0 is)))
    by_loss false false unlost unkept =
        let turn : TerminalTurn = other_turn way.Rests Rests till in
        stays turn refl (aside turn (not_lost line unlost unkept))

    losing : GoesAside (losing_turn till line)
    unfolding losing_turn
    losing = by_loss (bytes_eq line lost_line) (bytes_eq line lost_captured_line) refl refl

    by_why_asked : (test : Bool) → bytes_eq line why_line ≡ test → GoesAside (if test then why_turn way.Rests Rests till till.question else losing_turn till line)
    by_why_asked true is =
        let turn : TerminalTurn = why_turn way.Rests Rests till till.question in
        stays turn refl (aside turn (another_word line why_line is refl refl))
    by_why_asked false isnt = losing

    by_settle : (test why : Bool) → bytes_eq line settle_line ≡ test → bytes_eq line why_line ≡ why
        → GoesAside (if test then settlement_turn lane.iso till 0 [] else if why then why_turn way.Rests Rests till till.question else losing_turn till line)
    by_settle true why is asked = by_captured (another_word line settle_line is refl refl) 0 [] (slice_get till.captures 0)
    by_settle false why isnt asked = by_why_asked why asked

    by_next : (test other why : Bool) → bytes_eq line next_line ≡ test → bytes_eq line settle_line ≡ other → bytes_eq line why_line ≡ why
        → GoesAside (if test then next_turn lane till else if other then settlement_turn lane.iso till 0 [] else if why then why_turn way.Rests Rests till till.question else losing_turn till line)
    by_next true other why is settles asked = by_planned (another_word line next_line is refl refl) (slice_get lane.purchases till.begun) refl
    by_next false other why isnt settles asked = by_settle other why settles asked

    at_rest : GoesAside (resting_turn lane till line)
    unfolding resting_turn
    at_rest = by_next (bytes_eq line next_line) (bytes_eq line settle_line) (bytes_eq line why_line) refl refl refl

    by_said : (answered : ℕ) (reply : Option (List ℕ)) → settlement_reply line ≡ reply
        → Goes (turns ++ turn_at line (turn_if_reply lane.iso till answered reply) ∷ []) (turn_if_reply lane.iso till answered reply)
    by_said answered None is may = absurd (may refl)
    by_said answered (Some reply) is may = by_captured (no_reply line reply is) (answered + 1) _ (slice_get till.captures (answered + 1))

    by_why_wanted : (answered : ℕ) (test : Bool) → bytes_eq line why_line ≡ test → (let turn : TerminalTurn = (if test then why_turn way.Awaits (Settles answered) till till.question else turn_if_reply lane.iso till answered (settlement_reply line)) in Goes (turns ++ turn_at line turn ∷ []) turn)
    by_why_wanted answered true is may =
        let turn : TerminalTurn = why_turn way.Awaits (Settles answered) till till.question in
        stays turn refl (aside turn (another_word line why_line is refl refl))
    by_why_wanted answered false isnt may = by_said answered (settlement_reply line) refl may

    by_wanted : (answered : ℕ) (test why : Bool) → bytes_eq line want_line ≡ test → bytes_eq line why_line ≡ why → (let turn : TerminalTurn = (if test then settlement_turn lane.iso till answered [] else if why then why_turn way.Awaits (Settles answered) till till.question else turn_if_reply lane.iso till answered (settlement_reply line)) in Goes (turns ++ turn_at line turn ∷ []) turn)
    by_wanted answered true why is asked may = by_captured (another_word line want_line is refl refl) answered [] (slice_get till.captures answered)
    by_wanted answered false why isnt asked may = by_why_wanted answered why asked may

    in_settlement : (answered : ℕ) → Goes (turns ++ turn_at line (settling_turn lane.iso till answered line) ∷ []) (settling_turn lane.iso till answered line)
    unfolding settling_turn
    in_settlement answered may = by_wanted answered (bytes_eq line want_line) (bytes_eq line why_line) refl refl may

  -- before the first line
  at_first : (planned : Option Planned) → slice_get lane.purchases 0 ≡ planned → (turn : TerminalTurn) → turn_if_planned lane new_till planned ≡ turn
      → first_written ≡ turn.answer → Far [] turn
  at_first None is turn turn_is says = subst (λ (t : TerminalTurn). Far [] t) turn_is record { onward_is = refl; came = unpaid }
  at_first (Some planned) is turn turn_is says =
      let outset : Outset = outset_of_planned lane planned in
      let began : TillData = till_begun new_till in
      let answer : (end : Option EndShown) → (turn_by_end outset [] began (asked_line lane.iso outset []) end).answer ≡ asked_line lane.iso outset [] =
      λ end. elim end as (λ e. (turn_by_end outset [] began (asked_line lane.iso outset []) e).answer ≡ asked_line lane.iso outset []) [ None ↦ refl | Some shown ↦ refl ] in
      let written : first_written ≡ asked_line lane.iso outset [] =
      says ∙ sym (ap (λ (t : TerminalTurn). t.answer) turn_is) ∙ answer (end_shown_at outset []) in
      subst (λ (t : TerminalTurn). Far [] t) turn_is
      (stands [] outset [] began []
      (record {
        before = [];
        mine = [];
        split = refl;
        number = 0;
        number_is = refl;
        planned = planned;
        planned_is = is;
        outset_is = refl;
        left = [];
        paid_before = unpaid;
        length_is = refl;
        exchanges = record { entries = []; exchanges = none; are = asks (ask_at outset []) written };
      }))

  by_turn : (turns : List Turn) (doing : Doing) (till : TillData) (line : List ℕ) → Came turns doing till
      → Goes (turns ++ turn_at line (terminal_turn lane doing till line) ∷ []) (terminal_turn lane doing till line)
  by_turn turns (Pays outset replies) till line came may = in_purchase turns outset replies till line came may
  by_turn turns Rests till line came may = at_rest turns till line came
  by_turn turns (Settles answered) till line came may = in_settlement turns till line came answered may

  record Come (turns : List Turn) (doing : Doing) (till : TillData) : Type 0 where
    onward_is : onward_behind (terminal_opening lane).onward turns ≡ onward_for doing
    came : Came turns doing till

  never_both : (onward : Onward) → GoesOn onward → onward ≡ way.Stuck → ⊥
  never_both onward may stuck = subst GoesOn stuck may

  come : (turns : List Turn) (doing : Doing) (till : TillData) → TerminalTalked lane turns doing till
      → (onward_behind (terminal_opening lane).onward turns ≡ way.Stuck → ⊥) → Come turns doing till
  unfolding onward_behind
  come turns doing till begins may =
      let far = at_first (slice_get lane.purchases 0) refl (first_turn lane) refl refl in record { onward_is = far.onward_is; came = far.came }
  come turns doing till (goes before earlier was line talked went) may =
      let turn : TerminalTurn = terminal_turn lane earlier was line in
      let one : Turn = turn_at line turn in
      let so = come before earlier was talked (never_both (onward_behind (terminal_opening lane).onward before) went) in
      let far = by_turn before earlier was line so.came (λ stuck. may (onward_more (terminal_opening lane).onward before one ∙ stuck)) in
      record { onward_is = onward_more (terminal_opening lane).onward before one ∙ far.onward_is; came = far.came }

  -- it is never over, and where the lines may be at their end it rests
  never_over : (doing : Doing) → way.Over ≡ onward_for doing → ⊥
  never_over (Pays outset replies) is = cc is
  never_over Rests is = cc is
  never_over (Settles answered) is = cc is

  rests_if : (doing : Doing) → may_end (onward_for doing) ≡ true → doing ≡ Rests
  rests_if (Pays outset replies) may = absurd (cc may)
  rests_if Rests may = refl
  rests_if (Settles answered) may = absurd (cc may)

-- which statuses there are
not_last : (wanted status : Status) (before held : Option (List ℕ)) (text : List ℕ) → (wanted ≡ Done → ⊥) → WritesLast wanted status before held text → status ≡ Done → ⊥
not_last wanted status before held text other (inl all) done = other (sym all.0 ∙ done)
not_last wanted status before held text other (inr front) done = let clash : SinkFailed ≡ Done = sym front.0 ∙ done in cc clash

is_over : (onward : Onward) (status : Status) → EndsWith onward status → status ≡ Done → onward ≡ way.Over
is_over way.Awaits status ends done = absurd ends
is_over way.Rests status ends done = absurd ends
is_over way.Over status ends done = refl
is_over way.Stuck status ends done = let clash : Unserved ≡ Done = sym ends ∙ done in absurd (cc clash)

may_not : (onward : Onward) → may_end onward ≡ true → onward ≡ way.Stuck → ⊥
may_not onward may stuck = let clash : false ≡ true = sym (ap may_end stuck) ∙ may in cc clash

over_not : (onward : Onward) → onward ≡ way.Over → onward ≡ way.Stuck → ⊥
over_not onward ended stuck = let clash : way.Over ≡ way.Stuck = sym ended ∙ stuck in cc clash

module _ (s : Sides) (bytes : List ℕ) where
  record WithLane : Type 0 where
    lane : LaneData
    reading : ReadsTerminal bytes (Ok lane)
    turns : List Turn
    till : TillData
    talked : TerminalTalked lane turns Rests till
    paid_are : ArePaid lane (terminal_opening lane).text turns till.begun till.log (take till.log_before till.log)
    told : Appends s.before s.held ((terminal_opening lane).text ++ answers_of turns)
    left : Option (List ℕ)
    rest : List ℕ
    taken_to : Consumes s.first left (lines_spoken turns)
    ended : Comes came.End left s.left rest

  -- where the lines are at their end
  at_the_end : (opening : Opening) (turns : List Turn) (left : Option (List ℕ)) (rest : List ℕ) → terminal_programme.Talks bytes opening turns
      → Consumes s.first left (lines_spoken turns) → Appends s.before s.held (opening.text ++ answers_of turns) → Comes came.End left s.left rest
      → may_end (onward_behind opening.onward turns) ≡ true → WithLane
  at_the_end opening turns left rest (lane, reading, opening_is, talk_is) taken_to told ended may =
      let doing = talk_is.0 in
      let till = talk_is.1 in
      let talked = talk_is.2 in
      let may_so : may_end (onward_behind (terminal_opening lane).onward turns) ≡ true =
      subst (λ (o : Opening). may_end (onward_behind o.onward turns) ≡ true) opening_is may in
      let so = come lane turns doing till talked (may_not (onward_behind (terminal_opening lane).onward turns) may_so) in
      let rests : doing ≡ Rests = rests_if lane doing (sym (ap may_end so.onward_is) ∙ may_so) in
      record {
        lane = lane;
        reading = reading;
        turns = turns;
        till = till;
        talked = subst (λ (d : Doing). TerminalTalked lane turns d till) rests talked;
        paid_are = subst (λ (d : Doing). Came lane turns d till) rests so.came;
        told = subst (λ (o : Opening). Appends s.before s.held (o.text ++ answers_of turns)) opening_is told;
        left = left;
        rest = rest;
        taken_to = taken_to;
        ended = ended;
      }

  no_over : (opening : Opening) (turns : List Turn) → terminal_programme.Talks bytes opening turns → onward_behind opening.onward turns ≡ way.Over → ⊥
  no_over opening turns (lane, reading, opening_is, talk_is) ended =
      let doing = talk_is.0 in
      let till = talk_is.1 in
      let talked = talk_is.2 in
      let ended_so : onward_behind (terminal_opening lane).onward turns ≡ way.Over = subst (λ (o : Opening). onward_behind o.onward turns ≡ way.Over) opening_is ended in
      let so = come lane turns doing till talked (over_not (onward_behind (terminal_opening lane).onward turns) ended_so) in
      never_over lane doing (sym ended_so ∙ so.onward_is)

  talk_traced : (opening : Opening) → (status : Status) → TalkEnds (terminal_programme.Talks bytes opening) opening s status → status ≡ Done → WithLane
  talk_traced opening status (talk.OpeningCut cut left front) done = let clash : SinkFailed ≡ Done = sym cut ∙ done in absurd (cc clash)
  talk_traced opening status (talk.IsOver turns talked ends) done =
      absurd (no_over opening turns talked.talks (is_over (onward_behind opening.onward turns) status ends done))
  talk_traced opening status (talk.AtEnd turns between_is rest talked comes rests ended) done =
      at_the_end opening turns between_is rest talked.talks talked.taken talked.told comes rests
  talk_traced opening status (talk.NoLine turns between_is written talked lacks writes) done = absurd (not_last Unserved status _ _ _ (λ same. cc same) writes done)
  talk_traced opening status (talk.SourceGone turns between_is later begun talked taken_to unbroken failed) done = let clash : SourceFailed ≡ Done = sym failed ∙ done in absurd (cc clash)
  talk_traced opening status (talk.AnswerCut turns turn written talks taken_to told front failed) done = let clash : SinkFailed ≡ Done = sym failed ∙ done in absurd (cc clash)
  talk_traced opening status (talk.Unanswered turns between_is line talked comes failed) done = let clash : OutOfMemory ≡ Done = sym failed ∙ done in absurd (cc clash)

pub had_dialogues : (s : Sides) (status : Status) → Served terminal_programme s status → status ≡ Done → HadDialogues s
had_dialogues s status (talk.NotAsked asked_for unread_is writes) done = absurd asked_for
had_dialogues s status (talk.Unread (inl failed) held) done = let clash : SourceFailed ≡ Done = sym failed ∙ done in absurd (cc clash)
had_dialogues s status (talk.Unread (inr failed) held) done = let clash : OutOfMemory ≡ Done = sym failed ∙ done in absurd (cc clash)
had_dialogues s status (talk.NoneFirst first writes) done = absurd (not_last Unserved status _ _ _ (λ same. cc same) writes done)
had_dialogues s status (talk.HasDocument bytes between_is document ends) done = by_document ends
  where
    by_document : EndsDocument terminal_programme bytes (record { first = between_is; left = s.left; before = s.before; held = s.held }) status → HadDialogues s
    by_document (talk.IsRefused fault refuses unread_is (talk.Told line is writes)) = absurd (not_last Refused status _ _ _ (λ same. cc same) writes done)
    by_document (talk.IsRefused fault refuses unread_is (talk.Untold failed held)) = let clash : OutOfMemory ≡ Done = sym failed ∙ done in absurd (cc clash)
    by_document (talk.IsLacking lacks unread_is writes) = absurd lacks
    by_document (talk.HasServed opening ends) =
        let found = talk_traced (record { first = between_is; left = s.left; before = s.before; held = s.held }) bytes opening status ends done in
        record {
          bytes = bytes;
          between_is = between_is;
          document = document;
          lane = found.lane;
          reading = found.reading;
          turns = found.turns;
          till = found.till;
          talked = found.talked;
          paid_are = found.paid_are;
          told = found.told;
          left = found.left;
          rest = found.rest;
          taken = found.taken_to;
          ended = found.ended;
        }
