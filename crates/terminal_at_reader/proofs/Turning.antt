-- What a terminal says to a line, by what it is at.
use Rattle.std.proofs.Common.{◌≡◌, ◌≤◌, ◌<◌, ◌+◌, ℕ, Bool, true, false, List, [], ◌∷◌, ◌++◌, length, Option, Some, None, Result, Ok, Err, OnOk, IfOk, refl, sym, ap, subst, ◌∙◌, arith, slice_get, take}
use Rattle.std.proofs.lemmas.List.Elements.{All-get_or, All-nil, All-take}
use Rattle.std.proofs.lemmas.Option.{get_or_from_slice_get, slice_get_within}
use Rattle.std.specs.Prelude.{option_map}
use Rattle.std.specs.Str.{bytes_eq}
use Rattle.emv_dict.specs.Settings.{most_amount}
use Rattle.emv_dict.specs.declared.purchase.Logged.{Logged}
use Rattle.kernel.specs.BeginEnd.{HasBegun}
use Rattle.kernel.specs.Dialogue.{dialogue}
use Rattle.kernel.specs.EndShown.{EndShown, shown_end}
use Rattle.kernel.specs.Ended.{end_of}
use Rattle.kernel.specs.Kernel.{KernelData, KernelStands, outset_in, kernel_next, standing_next}
use Rattle.kernel.specs.Reply.{Reply}
use Rattle.kernel.specs.declared.kernel.Next.TheVariants as next
use Rattle.line_talk.proofs.Talking.{onward_more}
use Rattle.line_talk.specs.Talk.{other_line}
use Rattle.line_talk.specs.Turns.{GoesOn, Opening, Turn, onward_behind}
use Rattle.line_talk.specs.declared.party.Onward.{Onward}
use Rattle.line_talk.specs.declared.party.Onward.TheVariants as way
use Rattle.scenario_lanes.specs.Plan.{IsLane, IsPlanned, LaneData}
use Rattle.scenario_lanes.specs.declared.plan.Planned.{Planned}
use Rattle.terminal_state.specs.Terminal.{Outset}
use Rattle.trace_check.specs.Dialogues.{end_text, is_awaited, reply_with_log}
use Rattle.trace_check.specs.Loop.{ReplyIsTaken}
use Rattle.trace_check.specs.Texts.{entry_of_text}
use Rattle.trace_check.specs.declared.entry.Entry.{Entry}
use Rattle.trace_check.specs.declared.entry.Entry.TheVariants as entries
use Rattle.terminal_at_reader.proofs.Entries.{no_end, told_end}
use Rattle.terminal_at_reader.specs.Document.{most_purchases}
use Rattle.terminal_at_reader.specs.Hearing.{fault_line, understood, unread}
use Rattle.trace_check.specs.LastQuestion.{question_behind}
use Rattle.trace_check.specs.QuestionText.{question_text}
use Rattle.terminal_at_reader.specs.Settlement.{settled_line, settlement_line, settlement_reply}
use Rattle.terminal_at_reader.specs.Talk.{Doing, HasAmounts, HasAskedSo, HasBegunFirst, IsPaying, IsTurnOf, Pays, Rests, Settles, TerminalTalked, TerminalTurn, WorksAt, asked_line, asked_turn, begins, end_shown_at, goes, line_of, losing_turn, lost_captured_line, lost_line, lost_turn, next_line, next_turn, other_turn, outset_of_planned, paying_turn, question_decided, resting_turn, settle_line, settlement_turn, settling_turn, terminal_opening, terminal_turn, turn_by_end, turn_if_captured, turn_if_planned, turn_if_reply, turn_with, want_line, why_line, why_turn}
use Rattle.terminal_at_reader.specs.Till.{TillData, new_till, till_begun, till_broken_off, till_ended, till_lost, till_lost_captured, till_settled}
use Rattle.trace_check.specs.declared.question.Question.{Question}
use Rattle.terminal_at_reader.specs.declared.work.Phase.TheVariants as phase
use Rattle.terminal_at_reader.specs.declared.work.Work.{Work}

-- what is so of an answer, where there was memory for it
pub if_so : {E : Type 0} (P Q : Onward → Type 0) (result : Result Onward E) → ((onward : Onward) → P onward → Q onward) → IfOk result P → IfOk result Q
if_so P Q (Ok onward) weaker holds = weaker onward holds
if_so P Q (Err fault) weaker holds = tt

pub if_other : {E : Type 0} (A : Type 0) (B P : Onward → Type 0) (result : Result Onward E) → OnOk result A → IfOk result B
    → ((onward : Onward) → A → B onward → P onward) → IfOk result P
if_other A B P (Ok onward) a b goes_so = goes_so onward a b
if_other A B P (Err fault) a b goes_so = tt

-- no reply that is awaited
pub stuck_turn : (work : Work) (text : List ℕ) (onward : Onward) (doing : Doing) (till : TillData) → text ≡ other_line → onward ≡ way.Stuck
    → IsTurnOf work text onward (other_turn way.Stuck doing till)
stuck_turn work text onward doing till told stuck = record { answer_is = told; onward_is = stuck; works = λ may. absurd may }

-- the power is lost
pub lost_told : (work : Work) (text : List ℕ) (onward : Onward) (line : List ℕ) (till : TillData) → text ≡ line ++ 10 ∷ [] → onward ≡ way.Rests
    → WorksAt work Rests till → IsTurnOf work text onward (lost_turn line till)
lost_told work text onward line till told rests works = record { answer_is = told; onward_is = rests; works = λ may. works }

pub front_amounts : (count : ℕ) (log : List Logged) → HasAmounts log → HasAmounts (take count log)
front_amounts count log amounts = All-take (λ (logged : Logged). logged.amount ≤ most_amount) count log amounts

-- a purchase that waits for a reply
pub awaits_turn : (iso : Bool) (work : Work) (outset : Outset) (replies : List Reply) (told text : List ℕ) → IsPaying work outset replies → HasAmounts work.till.log
    → (kernel_next work.kernel ≡ next.Ended → ⊥) → kernel_next work.kernel ≡ standing_next (dialogue (outset_in work.kernel) replies)
    → text ≡ told ++ asked_line iso (outset_in work.kernel) replies → IsTurnOf work text way.Awaits (asked_turn iso outset replies work.till told)
awaits_turn iso work outset replies told text paying amounts waits stands asks =
    let at = dialogue outset replies in
    let same : standing_next (dialogue (outset_in work.kernel) replies) ≡ standing_next (dialogue outset replies) =
    ap (λ (d : Outset). standing_next (dialogue d replies)) paying.live.outset_is in
    let none : end_shown_at outset replies ≡ None = no_end outset at.steps_done at.deed (λ ended. waits (stands ∙ same ∙ ended)) in
    subst (λ (e : Option EndShown). IsTurnOf work text way.Awaits (turn_by_end outset replies work.till (told ++ asked_line iso outset replies) e)) (sym none)
    record {
      answer_is = asks ∙ ap (λ (d : Outset). told ++ asked_line iso d replies) paying.live.outset_is;
      onward_is = refl;
      works = λ may. record { till_is = refl; does = paying; amounts = amounts };
    }

-- the last question of the purchase that runs
pub decided_is : (work : Work) (outset : Outset) (replies : List Reply) (question : Option Question) → IsPaying work outset replies
    → question ≡ question_behind work.terminal_type (dialogue (outset_in work.kernel) replies).steps_done → question ≡ question_decided outset replies
decided_is work outset replies question paying is =
    is ∙ ap (λ (n : ℕ). question_behind n (dialogue (outset_in work.kernel) replies).steps_done) paying.type_is
    ∙ ap (λ (d : Outset). question_behind outset.settings.kind (dialogue d replies).steps_done) paying.live.outset_is

-- what the last question rests on was told
pub why_told : (work : Work) (text : List ℕ) (onward after : Onward) (doing : Doing) (till : TillData) (question : Option Question) → text ≡ question_text question
    → onward ≡ after → WorksAt work doing till → IsTurnOf work text onward (why_turn after doing till question)
why_told work text onward after doing till question told stays works = record { answer_is = told; onward_is = stays; works = λ may. works }

-- a purchase that has ended
pub ends_turn : (iso : Bool) (old new : Work) (outset : Outset) (replies : List Reply) (told text : List ℕ) (end : EndShown) (question : Option Question) → IsPaying old outset replies
    → option_map shown_end (end_of (outset_in old.kernel) (dialogue (outset_in old.kernel) replies)) ≡ Some end → text ≡ told ++ line_of (entries.End (end_text end))
    → new.phase ≡ phase.Rests → question ≡ question_behind old.terminal_type (dialogue (outset_in old.kernel) replies).steps_done
    → new.till ≡ till_ended old.amount end question old.till → HasAmounts new.till.log
    → IsTurnOf new text way.Rests (asked_turn iso outset replies old.till told)
ends_turn iso old new outset replies told text end question paying ended tells rests asked kept amounts =
    let at = dialogue outset replies in
    let shown : end_shown_at outset replies ≡ Some end =
    ap (λ (d : Outset). option_map shown_end (end_of d (dialogue d replies))) (sym paying.live.outset_is) ∙ ended in
    let kept_so : new.till ≡ till_ended outset.purchase.amount end (question_decided outset replies) old.till =
    kept ∙ ap (λ (a : ℕ). till_ended a end question old.till) paying.amount_is
    ∙ ap (λ (q : Option Question). till_ended outset.purchase.amount end q old.till) (decided_is old outset replies question paying asked) in
    subst (λ (e : Option EndShown). IsTurnOf new text way.Rests (turn_by_end outset replies old.till (told ++ asked_line iso outset replies) e)) (sym shown)
    record {
      answer_is = tells ∙ ap (λ (l : List ℕ). told ++ l) (told_end iso outset at.steps_done at.deed end shown);
      onward_is = refl;
      works = λ may. record { till_is = kept_so; does = rests; amounts = subst (λ (t : TillData). HasAmounts t.log) kept_so amounts };
    }

module _ (iso : Bool) (outset : Outset) (replies : List Reply) (till : TillData) (line : List ℕ) where
  abbrev Behind : Work → List ℕ → Onward → Type 0
  Behind work text onward = IsTurnOf work text onward (paying_turn iso outset replies till line)

  behind_by : (turn : TerminalTurn) → paying_turn iso outset replies till line ≡ turn → (work : Work) (text : List ℕ) (onward : Onward) → IsTurnOf work text onward turn
      → Behind work text onward
  behind_by turn is work text onward so = subst (λ (t : TerminalTurn). IsTurnOf work text onward t) (sym is) so

  -- the line that asks once more
  wanted_is : bytes_eq line want_line ≡ true → paying_turn iso outset replies till line ≡ asked_turn iso outset replies till []
  unfolding paying_turn
  wanted_is is = rw is refl

  pub wanted : bytes_eq line want_line ≡ true → (work : Work) (text : List ℕ) (onward : Onward) → IsTurnOf work text onward (asked_turn iso outset replies till [])
      → Behind work text onward
  wanted is work text onward so = behind_by (asked_turn iso outset replies till []) (wanted_is is) work text onward so

  -- the line that asks why
  why_is : bytes_eq line want_line ≡ false → bytes_eq line why_line ≡ true
      → paying_turn iso outset replies till line ≡ why_turn way.Awaits (Pays outset replies) till (question_decided outset replies)
  unfolding paying_turn
  why_is unwanted is = rw (unwanted, is) refl

  pub asked_why : bytes_eq line want_line ≡ false → bytes_eq line why_line ≡ true → (work : Work) (text : List ℕ) (onward : Onward)
      → text ≡ question_text (question_decided outset replies) → onward ≡ way.Awaits → WorksAt work (Pays outset replies) till → Behind work text onward
  asked_why unwanted is work text onward told stays works =
      behind_by (why_turn way.Awaits (Pays outset replies) till (question_decided outset replies)) (why_is unwanted is) work text onward
      (why_told work text onward way.Awaits (Pays outset replies) till (question_decided outset replies) told stays works)

  -- the line that tells of lost power
  lost_is : bytes_eq line want_line ≡ false → bytes_eq line why_line ≡ false → bytes_eq line lost_line ≡ true
      → paying_turn iso outset replies till line ≡ lost_turn lost_line (till_broken_off till)
  unfolding paying_turn
  lost_is unwanted unasked is = rw (unwanted, unasked, is) refl

  pub broken_off : bytes_eq line want_line ≡ false → bytes_eq line why_line ≡ false → bytes_eq line lost_line ≡ true → (work : Work) (text : List ℕ) (onward : Onward)
      → IsTurnOf work text onward (lost_turn lost_line (till_broken_off till)) → Behind work text onward
  broken_off unwanted unasked is work text onward so =
      behind_by (lost_turn lost_line (till_broken_off till)) (lost_is unwanted unasked is) work text onward so

  module _ (unwanted : bytes_eq line want_line ≡ false) (unasked : bytes_eq line why_line ≡ false) (unlost : bytes_eq line lost_line ≡ false) where
    none_is : entry_of_text line ≡ None → paying_turn iso outset replies till line ≡ other_turn way.Stuck (Pays outset replies) till
    unfolding paying_turn
    none_is none = rw (unwanted, unasked, unlost, none) refl

    -- no entry
    pub none_read : entry_of_text line ≡ None → (work : Work) (text : List ℕ) (onward : Onward) → text ≡ other_line → onward ≡ way.Stuck → Behind work text onward
    none_read none work text onward told stuck =
        behind_by (other_turn way.Stuck (Pays outset replies) till) (none_is none) work text onward (stuck_turn work text onward (Pays outset replies) till told stuck)

    module _ (said : Entry) (is : entry_of_text line ≡ Some said) where
      by_reply : (reply : Option Reply) → reply_with_log till.log (understood iso said) ≡ reply
          → paying_turn iso outset replies till line ≡ turn_with iso outset replies till (fault_line (unread iso said)) reply
      unfolding paying_turn
      by_reply reply heard = rw (unwanted, unasked, unlost, is, heard) refl

      module _ (mid : KernelData) (entry : Entry) (entry_is : entry ≡ understood iso said) where
        abbrev TakenSo : Bool → Type 0
        TakenSo found = ReplyIsTaken (is_awaited (dialogue outset replies).deed) mid replies (reply_with_log till.log entry) found

        same_reply : reply_with_log till.log entry ≡ reply_with_log till.log (understood iso said)
        same_reply = ap (λ (e : Entry). reply_with_log till.log e) entry_is

        refused_by : (reply : Option Reply) → reply_with_log till.log entry ≡ reply → ReplyIsTaken (is_awaited (dialogue outset replies).deed) mid replies reply false
            → turn_with iso outset replies till (fault_line (unread iso said)) reply ≡ other_turn way.Stuck (Pays outset replies) till
        refused_by None heard taken = refl
        refused_by (Some reply) heard taken = rw (sym taken.0) refl

        -- an entry that is not awaited
        pub refused : TakenSo false → (work : Work) (text : List ℕ) (onward : Onward) → text ≡ other_line → onward ≡ way.Stuck → Behind work text onward
        refused taken work text onward told stuck =
            behind_by (other_turn way.Stuck (Pays outset replies) till)
            (by_reply (reply_with_log till.log entry) (sym same_reply) ∙ refused_by (reply_with_log till.log entry) refl taken)
            work text onward (stuck_turn work text onward (Pays outset replies) till told stuck)

        -- a reply that was taken
        pub record Accepted : Type 0 where
          pub reply : Reply
          pub stands : KernelStands mid (replies ++ reply ∷ [])
          pub turn_is : paying_turn iso outset replies till line ≡ asked_turn iso outset (replies ++ reply ∷ []) till (fault_line (unread iso said))

        accepted_by : (reply : Option Reply) → reply_with_log till.log entry ≡ reply → ReplyIsTaken (is_awaited (dialogue outset replies).deed) mid replies reply true → Accepted
        accepted_by None heard taken = absurd (cc taken)
        accepted_by (Some reply) heard taken =
            let awaited : turn_with iso outset replies till (fault_line (unread iso said)) (Some reply) ≡ asked_turn iso outset (replies ++ reply ∷ []) till (fault_line (unread iso said)) =
            rw (sym taken.0) refl in
            record { reply = reply; stands = taken.1; turn_is = by_reply (Some reply) (sym same_reply ∙ heard) ∙ awaited }

        pub accepted : TakenSo true → Accepted
        accepted taken = accepted_by (reply_with_log till.log entry) refl taken

        pub is_taken : (now : Accepted) → (work : Work) (text : List ℕ) (onward : Onward)
            → IsTurnOf work text onward (asked_turn iso outset (replies ++ now.reply ∷ []) till (fault_line (unread iso said))) → Behind work text onward
        is_taken now work text onward so = behind_by _ now.turn_is work text onward so

-- what the kernel takes, by the purchase that runs
pub taken_as : (work : Work) (outset : Outset) (replies : List Reply) → IsPaying work outset replies → (mid : KernelData) (entry : Entry) (seen log : List Logged) → seen ≡ log
    → (found wanted_is : Bool) → found ≡ wanted_is
    → ReplyIsTaken (is_awaited (dialogue (outset_in work.kernel) replies).deed) mid replies (reply_with_log seen entry) found
    → ReplyIsTaken (is_awaited (dialogue outset replies).deed) mid replies (reply_with_log log entry) wanted_is
taken_as work outset replies paying mid entry seen log same found wanted_is is taken =
    subst (λ (f : Bool). ReplyIsTaken (is_awaited (dialogue outset replies).deed) mid replies (reply_with_log log entry) f) is
    (subst (λ (l : List Logged). ReplyIsTaken (is_awaited (dialogue outset replies).deed) mid replies (reply_with_log l entry) found) same
    (subst (λ (d : Outset). ReplyIsTaken (is_awaited (dialogue d replies).deed) mid replies (reply_with_log seen entry) found) paying.live.outset_is taken))

-- a purchase goes on behind one more reply
pub paying_more : (old new : Work) (outset : Outset) (replies later : List Reply) → IsPaying old outset replies → new.phase ≡ old.phase → new.amount ≡ old.amount
    → new.terminal_type ≡ old.terminal_type → outset_in new.kernel ≡ outset_in old.kernel → new.kernel.is_spent ≡ false → KernelStands new.kernel later → IsPaying new outset later
paying_more old new outset replies later paying phase_same amount_same type_same outset_same fresh stands = record {
  phase_is = phase_same ∙ paying.phase_is;
  live = record { outset_is = outset_same ∙ paying.live.outset_is; stands = stands; fresh = fresh };
  amount_is = amount_same ∙ paying.amount_is;
  type_is = type_same ∙ paying.type_is;
  amount_fits = subst (λ (a : ℕ). a ≤ most_amount) (sym amount_same) paying.amount_fits;
}

-- a settlement message is sent
module _ (iso : Bool) (till : TillData) (answered : ℕ) where
  sent_by : (captured : Option (List ℕ)) → slice_get till.captures answered ≡ captured → (work : Work) (text : List ℕ) (onward : Onward)
      → IsTurnOf work text onward (turn_if_captured iso till answered [] captured) → IsTurnOf work text onward (settlement_turn iso till answered [])
  sent_by captured is work text onward so = subst (λ (c : Option (List ℕ)). IsTurnOf work text onward (turn_if_captured iso till answered [] c)) (sym is) so

  pub sent_turn : (message : List ℕ) → slice_get till.captures answered ≡ Some message → (work : Work) (text : List ℕ) → text ≡ settlement_line iso message
      → work.phase ≡ phase.Settles answered → work.till ≡ till → HasAmounts till.log → IsTurnOf work text way.Awaits (settlement_turn iso till answered [])
  sent_turn message is work text told settles same amounts =
      sent_by (Some message) is work text way.Awaits
      record {
        answer_is = told;
        onward_is = refl;
        works = λ may. record { till_is = same; does = record { phase_is = settles; waits = slice_get_within till.captures answered message is }; amounts = amounts };
      }

  pub settled_turn : slice_get till.captures answered ≡ None → (work : Work) (text : List ℕ) → text ≡ settled_line answered
      → work.phase ≡ phase.Rests → work.till ≡ till_settled till → HasAmounts till.log → IsTurnOf work text way.Rests (settlement_turn iso till answered [])
  settled_turn is work text told rests same amounts =
      sent_by None is work text way.Rests
      record { answer_is = told; onward_is = refl; works = λ may. record { till_is = same; does = rests; amounts = amounts } }

  told_by : (told : List ℕ) (captured : Option (List ℕ)) (work : Work) (text : List ℕ) (onward : Onward) → IsTurnOf work text onward (turn_if_captured iso till answered [] captured)
      → IsTurnOf work (told ++ text) onward (turn_if_captured iso till answered told captured)
  told_by told None work text onward so = record { answer_is = ap (λ (t : List ℕ). told ++ t) so.answer_is; onward_is = so.onward_is; works = so.works }
  told_by told (Some message) work text onward so = record { answer_is = ap (λ (t : List ℕ). told ++ t) so.answer_is; onward_is = so.onward_is; works = so.works }

  -- behind what is told of the reply before it
  pub told_before : (told : List ℕ) (work : Work) (text : List ℕ) (onward : Onward) → IsTurnOf work text onward (settlement_turn iso till answered [])
      → IsTurnOf work (told ++ text) onward (settlement_turn iso till answered told)
  told_before told work text onward so = told_by told (slice_get till.captures answered) work text onward so

  -- a line of a settlement
  pub wanted_again : (line : List ℕ) → bytes_eq line want_line ≡ true → settling_turn iso till answered line ≡ settlement_turn iso till answered []
  unfolding settling_turn
  wanted_again line is = rw is refl

  pub why_asked : (line : List ℕ) → bytes_eq line want_line ≡ false → bytes_eq line why_line ≡ true
      → settling_turn iso till answered line ≡ why_turn way.Awaits (Settles answered) till till.question
  unfolding settling_turn
  why_asked line unwanted is = rw (unwanted, is) refl

  pub replied : (line : List ℕ) (reply : Option (List ℕ)) → bytes_eq line want_line ≡ false → bytes_eq line why_line ≡ false → reply ≡ settlement_reply line
      → settling_turn iso till answered line ≡ turn_if_reply iso till answered reply
  unfolding settling_turn
  replied line reply unwanted unasked is = rw (unwanted, unasked) (ap (λ (r : Option (List ℕ)). turn_if_reply iso till answered r) (sym is))

-- a line at rest
module _ (lane : LaneData) (till : TillData) (line : List ℕ) where
  pub next_is : bytes_eq line next_line ≡ true → resting_turn lane till line ≡ next_turn lane till
  unfolding resting_turn
  next_is is = rw is refl

  pub settle_is : bytes_eq line next_line ≡ false → bytes_eq line settle_line ≡ true → resting_turn lane till line ≡ settlement_turn lane.iso till 0 []
  unfolding resting_turn
  settle_is other is = rw (other, is) refl

  pub why_at_rest : bytes_eq line next_line ≡ false → bytes_eq line settle_line ≡ false → bytes_eq line why_line ≡ true
      → resting_turn lane till line ≡ why_turn way.Rests Rests till till.question
  unfolding resting_turn
  why_at_rest other another is = rw (other, another, is) refl

  pub losing_is : bytes_eq line next_line ≡ false → bytes_eq line settle_line ≡ false → bytes_eq line why_line ≡ false
      → resting_turn lane till line ≡ losing_turn till line
  unfolding resting_turn
  losing_is other another unasked = rw (other, another, unasked) refl

-- a line at rest that may tell of lost power
module _ (till : TillData) (line : List ℕ) where
  pub lost_at_rest : bytes_eq line lost_line ≡ true → losing_turn till line ≡ lost_turn lost_line (till_lost till)
  unfolding losing_turn
  lost_at_rest is = rw is refl

  pub lost_captured_is : bytes_eq line lost_line ≡ false → bytes_eq line lost_captured_line ≡ true
      → losing_turn till line ≡ lost_turn lost_captured_line (till_lost_captured till)
  unfolding losing_turn
  lost_captured_is other is = rw (other, is) refl

  pub other_is : bytes_eq line lost_line ≡ false → bytes_eq line lost_captured_line ≡ false → losing_turn till line ≡ other_turn way.Rests Rests till
  unfolding losing_turn
  other_is other another = rw (other, another) refl

pub rests_turn : (till : TillData) (work : Work) (text : List ℕ) (onward : Onward) → WorksAt work Rests till → text ≡ other_line → onward ≡ way.Rests
    → IsTurnOf work text onward (other_turn way.Rests Rests till)
rests_turn till work text onward works told rests = record { answer_is = told; onward_is = rests; works = λ may. works }

pub turn_along : (work : Work) (text : List ℕ) (onward : Onward) (turn other : TerminalTurn) → other ≡ turn → IsTurnOf work text onward turn → IsTurnOf work text onward other
turn_along work text onward turn other is so = subst (λ (t : TerminalTurn). IsTurnOf work text onward t) (sym is) so

pub planned_is : (lane : LaneData) (till : TillData) (planned : Option Planned) → slice_get lane.purchases till.begun ≡ planned → next_turn lane till ≡ turn_if_planned lane till planned
planned_is lane till planned is = ap (λ (p : Option Planned). turn_if_planned lane till p) is

-- by what it is at
module _ (lane : LaneData) (work : Work) (line : List ℕ) (after : Work) (text : List ℕ) (onward : Onward) where
  abbrev AnswersAt : Doing → TillData → Type 0
  AnswersAt doing till = IsTurnOf after text onward (terminal_turn lane doing till line)

  pub in_purchase : work.phase ≡ phase.Pays
      → ((outset : Outset) (replies : List Reply) → IsPaying work outset replies → IsTurnOf after text onward (paying_turn lane.iso outset replies work.till line))
      → (doing : Doing) (till : TillData) → WorksAt work doing till → AnswersAt doing till
  in_purchase pays turn (Pays outset replies) till works =
      subst (λ (t : TillData). IsTurnOf after text onward (paying_turn lane.iso outset replies t line)) works.till_is (turn outset replies works.does)
  in_purchase pays turn Rests till works = let clash : phase.Pays ≡ phase.Rests = sym pays ∙ works.does in absurd (cc clash)
  in_purchase pays turn (Settles answered) till works = let clash : phase.Pays ≡ phase.Settles answered = sym pays ∙ works.does.phase_is in absurd (cc clash)

  pub at_rest : work.phase ≡ phase.Rests → IsTurnOf after text onward (resting_turn lane work.till line)
      → (doing : Doing) (till : TillData) → WorksAt work doing till → AnswersAt doing till
  at_rest rests turn (Pays outset replies) till works = let clash : phase.Rests ≡ phase.Pays = sym rests ∙ works.does.phase_is in absurd (cc clash)
  at_rest rests turn Rests till works = subst (λ (t : TillData). IsTurnOf after text onward (resting_turn lane t line)) works.till_is turn
  at_rest rests turn (Settles answered) till works = let clash : phase.Rests ≡ phase.Settles answered = sym rests ∙ works.does.phase_is in absurd (cc clash)

  pub in_settlement : (count : ℕ) → work.phase ≡ phase.Settles count → IsTurnOf after text onward (settling_turn lane.iso work.till count line)
      → (doing : Doing) (till : TillData) → WorksAt work doing till → AnswersAt doing till
  in_settlement count settles turn (Pays outset replies) till works = let clash : phase.Settles count ≡ phase.Pays = sym settles ∙ works.does.phase_is in absurd (cc clash)
  in_settlement count settles turn Rests till works = let clash : phase.Settles count ≡ phase.Rests = sym settles ∙ works.does in absurd (cc clash)
  in_settlement count settles turn (Settles answered) till works =
      let same : count ≡ answered = (let e : phase.Settles count ≡ phase.Settles answered = sym settles ∙ works.does.phase_is in cc e) in
      subst (λ (n : ℕ). IsTurnOf after text onward (settling_turn lane.iso till n line)) same
      (subst (λ (t : TillData). IsTurnOf after text onward (settling_turn lane.iso t count line)) works.till_is turn)

-- what follows from what a terminal is at and its phase
pub pays_fresh : (work : Work) (doing : Doing) (till : TillData) → WorksAt work doing till → work.phase ≡ phase.Pays → work.kernel.is_spent ≡ false
pays_fresh work (Pays outset replies) till works pays = works.does.live.fresh
pays_fresh work Rests till works pays = let clash : phase.Pays ≡ phase.Rests = sym pays ∙ works.does in absurd (cc clash)
pays_fresh work (Settles answered) till works pays = let clash : phase.Pays ≡ phase.Settles answered = sym pays ∙ works.does.phase_is in absurd (cc clash)

pub has_amounts : (work : Work) (doing : Doing) (till : TillData) → WorksAt work doing till → HasAmounts work.till.log
has_amounts work doing till works = subst (λ (t : TillData). HasAmounts t.log) (sym works.till_is) works.amounts

pub rests_at : (work : Work) (doing : Doing) (till : TillData) → WorksAt work doing till → work.phase ≡ phase.Rests → WorksAt work Rests work.till
rests_at work doing till works rests = record { till_is = refl; does = rests; amounts = has_amounts work doing till works }

pub settles_below : (work : Work) (doing : Doing) (till : TillData) (count : ℕ) → WorksAt work doing till → work.phase ≡ phase.Settles count → count < length work.till.captures
settles_below work (Pays outset replies) till count works settles = let clash : phase.Settles count ≡ phase.Pays = sym settles ∙ works.does.phase_is in absurd (cc clash)
settles_below work Rests till count works settles = let clash : phase.Settles count ≡ phase.Rests = sym settles ∙ works.does in absurd (cc clash)
settles_below work (Settles answered) till count works settles =
    let same : count ≡ answered = (let e : phase.Settles count ≡ phase.Settles answered = sym settles ∙ works.does.phase_is in cc e) in
    subst (λ (n : ℕ). n < length work.till.captures) (sym same)
    (subst (λ (t : TillData). answered < length t.captures) (sym works.till_is) works.does.waits)

-- one more line was answered
not_empty : (turns : List Turn) (one : Turn) → turns ++ one ∷ [] ≡ [] → ⊥
not_empty [] one same = absurd (cc same)
not_empty (turn ∷ turns) one same = absurd (cc same)

pub answers_more : (lane : LaneData) (old new : Work) (turns : List Turn) (line text : List ℕ) (onward : Onward)
    → ((doing : Doing) (till : TillData) → WorksAt old doing till → IsTurnOf new text onward (terminal_turn lane doing till line))
    → HasAskedSo lane old turns → GoesOn (onward_behind (terminal_opening lane).onward turns)
    → HasAskedSo lane new (turns ++ record { line = line; answer = text; onward = onward } ∷ [])
answers_more lane old new turns line text onward answered has may =
    let turn : TerminalTurn = terminal_turn lane has.doing has.till line in
    let so : IsTurnOf new text onward turn = answered has.doing has.till (has.works may) in
    let one : Turn = record { line = line; answer = text; onward = onward } in
    record {
      doing = turn.doing;
      till = turn.till;
      rules = has.rules;
      few = has.few;
      talked =
          subst (λ (o : Onward). TerminalTalked lane (turns ++ record { line = line; answer = text; onward = o } ∷ []) turn.doing turn.till) (sym so.onward_is)
          (subst (λ (t : List ℕ). TerminalTalked lane (turns ++ record { line = line; answer = t; onward = turn.onward } ∷ []) turn.doing turn.till) (sym so.answer_is)
          (goes turns has.doing has.till line has.talked may));
      works = λ goes_on. so.works (subst GoesOn (onward_more (terminal_opening lane).onward turns one ∙ so.onward_is) goes_on);
      first = λ none. absurd (not_empty turns one none);
    }

-- what it says first
abbrev pub opening_of : List ℕ → Opening
opening_of text = record { text = text; onward = way.Awaits }

abbrev pub opening_by : TerminalTurn → Opening
opening_by turn = record { text = turn.answer; onward = turn.onward }

module _ (lane : LaneData) (work : Work) (opened : HasBegunFirst lane work) where
  abbrev outset_first : Outset
  outset_first = outset_of_planned lane opened.planned

  waits_first : kernel_next work.kernel ≡ standing_next (dialogue (outset_in work.kernel) []) → end_shown_at outset_first [] ≡ None
  waits_first stands =
      let at = dialogue outset_first [] in
      let same : standing_next (dialogue (outset_in work.kernel) []) ≡ standing_next at = ap (λ (d : Outset). standing_next (dialogue d [])) opened.live.outset_is in
      no_end outset_first at.steps_done at.deed
      (λ ended. let clash : next.ToCard ≡ next.Ended = sym opened.waits ∙ stands ∙ same ∙ ended in cc clash)

  first_is : kernel_next work.kernel ≡ standing_next (dialogue (outset_in work.kernel) [])
      → next_turn lane new_till ≡ turn_by_end outset_first [] (till_begun new_till) (asked_line lane.iso outset_first []) None
  first_is stands =
      ap (λ (p : Option Planned). turn_if_planned lane new_till p) opened.first
      ∙ ap (λ (e : Option EndShown). turn_by_end outset_first [] (till_begun new_till) (asked_line lane.iso outset_first []) e) (waits_first stands)

  pub opens_so : kernel_next work.kernel ≡ standing_next (dialogue (outset_in work.kernel) []) → (text : List ℕ) → text ≡ asked_line lane.iso (outset_in work.kernel) []
      → opening_of text ≡ terminal_opening lane
  opens_so stands text asks =
      let text_is : text ≡ asked_line lane.iso outset_first [] = asks ∙ ap (λ (d : Outset). asked_line lane.iso d []) opened.live.outset_is in
      ap opening_of text_is ∙ sym (ap opening_by (first_is stands))

  -- before the first line
  pub none_asked : kernel_next work.kernel ≡ standing_next (dialogue (outset_in work.kernel) []) → IsLane lane → length lane.purchases ≤ most_purchases
      → WorksAt work (Pays outset_first []) (till_begun new_till) → HasAskedSo lane work []
  none_asked stands rules few works = record {
    doing = Pays outset_first [];
    till = till_begun new_till;
    rules = rules;
    few = few;
    talked = subst (λ (t : TerminalTurn). TerminalTalked lane [] t.doing t.till) (first_is stands) begins;
    works = λ may. works;
    first = λ none. opened;
  }

pub never_ended : (lane : LaneData) (work : Work) → HasBegunFirst lane work → kernel_next work.kernel ≡ next.Ended → ⊥
never_ended lane work opened ended = let clash : next.ToCard ≡ next.Ended = sym opened.waits ∙ ended in cc clash

-- a purchase of a lane
pub planned_fits : (lane : LaneData) (planned : Planned) (number : ℕ) → IsLane lane → slice_get lane.purchases number ≡ Some planned → IsPlanned planned
planned_fits lane planned number rules is =
    subst IsPlanned (get_or_from_slice_get lane.purchases number planned planned is)
    (All-get_or IsPlanned lane.purchases number planned (slice_get_within lane.purchases number planned is) rules.purchases)

pub planned_below : (lane : LaneData) (planned : Planned) (number : ℕ) → length lane.purchases ≤ most_purchases → slice_get lane.purchases number ≡ Some planned → number < most_purchases
planned_below lane planned number few is = let within = slice_get_within lane.purchases number planned is in omega (arith, few, within)

-- a purchase that has just begun
pub begun_paying : (work : Work) (outset : Outset) → HasBegun outset work.kernel → work.phase ≡ phase.Pays → work.amount ≡ outset.purchase.amount → work.terminal_type ≡ outset.settings.kind
    → outset.purchase.amount ≤ most_amount → IsPaying work outset []
begun_paying work outset begun pays amount type_is fits = record {
  phase_is = pays;
  live = record { outset_is = begun.outset_is; stands = begun.stands; fresh = begun.fresh };
  amount_is = amount;
  type_is = type_is;
  amount_fits = subst (λ (a : ℕ). a ≤ most_amount) (sym amount) fits;
}

-- the terminal of a lane whose first purchase has just begun
pub has_begun : (lane : LaneData) (work : Work) (planned : Planned) → IsLane lane → length lane.purchases ≤ most_purchases → slice_get lane.purchases 0 ≡ Some planned
    → HasBegun (outset_of_planned lane planned) work.kernel → kernel_next work.kernel ≡ standing_next (dialogue (outset_in work.kernel) []) → work.phase ≡ phase.Pays
    → work.amount ≡ planned.purchase.amount → work.terminal_type ≡ lane.settings.kind → work.till ≡ till_begun new_till → HasAskedSo lane work []
has_begun lane work planned rules few first begun stands pays amount type_is till_is =
    let opened : HasBegunFirst lane work = record {
      planned = planned;
      first = first;
      live = record { outset_is = begun.outset_is; stands = begun.stands; fresh = begun.fresh };
      waits = begun.waits;
    } in
    none_asked lane work opened stands rules few
    (record {
      till_is = till_is;
      does = begun_paying work (outset_of_planned lane planned) begun pays amount type_is (planned_fits lane planned 0 rules first).purchase.amount_fits;
      amounts = All-nil (λ (logged : Logged). logged.amount ≤ most_amount);
    })
