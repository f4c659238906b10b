-- What an exchange leaves of a trace's entries.
use Rattle.std.proofs.Common.{◌≡◌, ℕ, ◌+◌, ◌≤◌, ◌<◌, Bool, true, false, List, [], ◌∷◌, ◌++◌, length, get_or, drop, length-drop, Option, Some, None, refl, sym, ap, subst, ◌∙◌, arith, if◌then◌else◌}
use Rattle.std.proofs.lemmas.Slice.Eq.{bytes_eq-Decides}
use Rattle.std.specs.Prelude.{option_map}
use Rattle.std.specs.Str.{bytes_eq}
use Rattle.kernel.specs.StepsInTurn.{Standing}
use Rattle.kernel.specs.Dialogue.{dialogue}
use Rattle.kernel.specs.Ended.{EndData, end_by, end_with, end_of}
use Rattle.kernel.specs.Kernel.{KernelData, KernelStands, outset_in, deed_next, deed_bytes}
use Rattle.kernel.specs.Reply.{Reply, Deed}
use Rattle.kernel.specs.Reply as said
use Rattle.kernel.specs.EndShown.{EndShown, shown_end}
use Rattle.kernel.specs.declared.kernel.Next.{Next}
use Rattle.kernel.specs.declared.kernel.Next.TheVariants as next
use Rattle.terminal_state.specs.StepResults.{StepResult, state_so_far, latest, sets_card}
use Rattle.terminal_state.specs.Terminal.{Outset}
use Rattle.trace_check.specs.Dialogues.{end_text, reply_of_entry, replies_in, entry_of_reply, of_card, of_host, is_awaited, entry_of_deed, entry_of_standing, own_behind}
use Rattle.trace_check.specs.Loop.{left, ReplyIsTaken, TakenIf, DialogueGoesOn, Exchanged}
use Rattle.trace_check.specs.Verdicts.{same_entry, is_end_entry, is_whole, against, verdict}
use Rattle.trace_check.specs.declared.compare.Verdict.{Verdict}
use Rattle.trace_check.specs.declared.compare.Verdict.TheVariants.{Same, Differs}
use Rattle.trace_check.specs.declared.entry.Entry.{Entry}
use Rattle.trace_check.specs.declared.entry.Entry.TheVariants.{ToCard, CardSaid, CardGone, ToHost, HostSaid, HostSilent, End}

pub same_bytes : (bytes : List ℕ) → bytes_eq bytes bytes ≡ true
same_bytes bytes = (bytes_eq-Decides bytes bytes).1 refl

-- what a terminal does is no reply
pub asked_no_reply : (outset : Outset) (steps_done : List StepResult) (entry : Entry) (deed : Deed) → same_entry entry (entry_of_deed outset steps_done deed) ≡ true → reply_of_entry entry ≡ None
asked_no_reply outset steps_done (ToCard bytes) deed same = refl
asked_no_reply outset steps_done (CardSaid bytes) (said.ToCard command) same = absurd (cc same)
asked_no_reply outset steps_done (CardSaid bytes) (said.ToHost message) same = absurd (cc same)
asked_no_reply outset steps_done (CardSaid bytes) (said.Over ending) same = absurd (cc same)
asked_no_reply outset steps_done CardGone (said.ToCard command) same = absurd (cc same)
asked_no_reply outset steps_done CardGone (said.ToHost message) same = absurd (cc same)
asked_no_reply outset steps_done CardGone (said.Over ending) same = absurd (cc same)
asked_no_reply outset steps_done (ToHost bytes) deed same = refl
asked_no_reply outset steps_done (HostSaid bytes) (said.ToCard command) same = absurd (cc same)
asked_no_reply outset steps_done (HostSaid bytes) (said.ToHost message) same = absurd (cc same)
asked_no_reply outset steps_done (HostSaid bytes) (said.Over ending) same = absurd (cc same)
asked_no_reply outset steps_done HostSilent (said.ToCard command) same = absurd (cc same)
asked_no_reply outset steps_done HostSilent (said.ToHost message) same = absurd (cc same)
asked_no_reply outset steps_done HostSilent (said.Over ending) same = absurd (cc same)
asked_no_reply outset steps_done (End text) deed same = refl

-- what waits for a reply is no end, and where a dialogue is over its entry is one
pub asked_no_end : (outset : Outset) (steps_done : List StepResult) (entry : Entry) (deed : Deed) (waits : Next) → deed_next deed ≡ waits → (waits ≡ next.Ended → ⊥)
    → same_entry entry (entry_of_deed outset steps_done deed) ≡ true → is_end_entry entry ≡ false
asked_no_end outset steps_done (ToCard bytes) deed waits is still same = refl
asked_no_end outset steps_done (CardSaid bytes) deed waits is still same = refl
asked_no_end outset steps_done CardGone deed waits is still same = refl
asked_no_end outset steps_done (ToHost bytes) deed waits is still same = refl
asked_no_end outset steps_done (HostSaid bytes) deed waits is still same = refl
asked_no_end outset steps_done HostSilent deed waits is still same = refl
asked_no_end outset steps_done (End text) (said.ToCard command) waits is still same = absurd (cc same)
asked_no_end outset steps_done (End text) (said.ToHost message) waits is still same = absurd (cc same)
asked_no_end outset steps_done (End text) (said.Over ending) waits is still same = absurd (still (sym is))

pub over_is_end : (outset : Outset) (steps_done : List StepResult) (entry : Entry) (deed : Deed) → deed_next deed ≡ next.Ended
    → same_entry entry (entry_of_deed outset steps_done deed) ≡ true → is_end_entry entry ≡ true
over_is_end outset steps_done entry (said.ToCard command) over same = absurd (cc over)
over_is_end outset steps_done entry (said.ToHost message) over same = absurd (cc over)
over_is_end outset steps_done (ToCard bytes) (said.Over ending) over same = absurd (cc same)
over_is_end outset steps_done (CardSaid bytes) (said.Over ending) over same = absurd (cc same)
over_is_end outset steps_done CardGone (said.Over ending) over same = absurd (cc same)
over_is_end outset steps_done (ToHost bytes) (said.Over ending) over same = absurd (cc same)
over_is_end outset steps_done (HostSaid bytes) (said.Over ending) over same = absurd (cc same)
over_is_end outset steps_done HostSilent (said.Over ending) over same = absurd (cc same)
over_is_end outset steps_done (End text) (said.Over ending) over same = refl

pub over_awaits_none : (deed : Deed) (reply : Reply) → deed_next deed ≡ next.Ended → is_awaited deed reply ≡ false
over_awaits_none (said.ToCard command) reply over = absurd (cc over)
over_awaits_none (said.ToHost message) reply over = absurd (cc over)
over_awaits_none (said.Over ending) reply over = refl

-- a reply is the entry that it is read from, and no other entry is one
pub reply_same : (entry : Entry) (reply : Reply) → reply_of_entry entry ≡ Some reply → same_entry entry (entry_of_reply reply) ≡ true
reply_same (ToCard bytes) reply is = absurd (cc is)
reply_same (CardSaid bytes) reply is =
    let e : said.CardSaid bytes [] ≡ reply = cc is in
    subst (λ (r : Reply). same_entry (CardSaid bytes) (entry_of_reply r) ≡ true) e (same_bytes bytes)
reply_same CardGone reply is =
    let e : said.CardGone ≡ reply = cc is in subst (λ (r : Reply). same_entry CardGone (entry_of_reply r) ≡ true) e refl
reply_same (ToHost bytes) reply is = absurd (cc is)
reply_same (HostSaid bytes) reply is =
    let e : said.HostSaid bytes ≡ reply = cc is in
    subst (λ (r : Reply). same_entry (HostSaid bytes) (entry_of_reply r) ≡ true) e (same_bytes bytes)
reply_same HostSilent reply is =
    let e : said.HostSilent ≡ reply = cc is in subst (λ (r : Reply). same_entry HostSilent (entry_of_reply r) ≡ true) e refl
reply_same (End text) reply is = absurd (cc is)

pub no_reply_differs : (entry : Entry) (reply : Reply) → reply_of_entry entry ≡ None → same_entry entry (entry_of_reply reply) ≡ false
no_reply_differs (ToCard bytes) (said.CardSaid answer log) is = refl
no_reply_differs (ToCard bytes) said.CardGone is = refl
no_reply_differs (ToCard bytes) (said.HostSaid reply) is = refl
no_reply_differs (ToCard bytes) said.HostSilent is = refl
no_reply_differs (CardSaid bytes) reply is = absurd (cc is)
no_reply_differs CardGone reply is = absurd (cc is)
no_reply_differs (ToHost bytes) (said.CardSaid answer log) is = refl
no_reply_differs (ToHost bytes) said.CardGone is = refl
no_reply_differs (ToHost bytes) (said.HostSaid reply) is = refl
no_reply_differs (ToHost bytes) said.HostSilent is = refl
no_reply_differs (HostSaid bytes) reply is = absurd (cc is)
no_reply_differs HostSilent reply is = absurd (cc is)
no_reply_differs (End text) (said.CardSaid answer log) is = refl
no_reply_differs (End text) said.CardGone is = refl
no_reply_differs (End text) (said.HostSaid reply) is = refl
no_reply_differs (End text) said.HostSilent is = refl

reply_no_end : (entry : Entry) (reply : Reply) → reply_of_entry entry ≡ Some reply → is_end_entry entry ≡ false
reply_no_end (ToCard bytes) reply is = refl
reply_no_end (CardSaid bytes) reply is = refl
reply_no_end CardGone reply is = refl
reply_no_end (ToHost bytes) reply is = refl
reply_no_end (HostSaid bytes) reply is = refl
reply_no_end HostSilent reply is = refl
reply_no_end (End text) reply is = absurd (cc is)

-- two entries of which the second is no end make no trace whole
whole_behind : (ask entry : Entry) (entries : List Entry) → is_end_entry entry ≡ false → is_whole (ask ∷ entry ∷ entries) ≡ is_whole entries
whole_behind ask entry [] none = none
whole_behind ask entry (next ∷ entries) none = refl

module _ (outset : Outset) (before : List Reply) where
  pub none_left : (at : ℕ) → left outset before at [] ≡ Differs at
  unfolding left
  none_left at = refl

  pub other_first : (at : ℕ) (entry : Entry) (entries : List Entry) → same_entry entry (entry_of_standing outset (dialogue outset before)) ≡ false
      → left outset before at (entry ∷ entries) ≡ Differs at
  unfolding left
  other_first at entry entries other = by (replies_in (entry ∷ entries))
    where
      by : (replies : List Reply) → against at (is_whole (entry ∷ entries)) (entry ∷ entries) (own_behind outset before replies) ≡ Differs at
      by [] = rw other refl
      by (reply ∷ replies) = rw other refl

  pub last_same : (at : ℕ) (entry : Entry) → same_entry entry (entry_of_standing outset (dialogue outset before)) ≡ true
      → left outset before at (entry ∷ []) ≡ (if is_end_entry entry then Same else Differs (at + 1))
  unfolding left
  last_same at entry same = by (replies_in (entry ∷ []))
    where
      by : (replies : List Reply) → against at (is_end_entry entry) (entry ∷ []) (own_behind outset before replies) ≡ (if is_end_entry entry then Same else Differs (at + 1))
      by [] = rw same refl
      by (reply ∷ replies) = rw same refl

  pub more_behind_end : (at : ℕ) (entry other : Entry) (entries : List Entry) → deed_next (dialogue outset before).deed ≡ next.Ended
      → same_entry entry (entry_of_standing outset (dialogue outset before)) ≡ true → left outset before at (entry ∷ other ∷ entries) ≡ Differs (at + 1)
  unfolding left
  more_behind_end at entry other entries over same = by (replies_in (entry ∷ other ∷ entries))
    where
      by : (replies : List Reply)
          → against at (is_whole (other ∷ entries)) (entry ∷ other ∷ entries) (own_behind outset before replies) ≡ Differs (at + 1)
      by [] = rw same refl
      by (reply ∷ replies) = rw (same, over_awaits_none (dialogue outset before).deed reply over) refl

  -- the replies of a trace whose first entry is none
  ask_none : (ask : Entry) (entries : List Entry) → reply_of_entry ask ≡ None → replies_in (ask ∷ entries) ≡ replies_in entries
  ask_none ask entries none = rw none refl

  reply_first : (entry : Entry) (reply : Reply) (entries : List Entry) → reply_of_entry entry ≡ Some reply → replies_in (entry ∷ entries) ≡ reply ∷ replies_in entries
  reply_first entry reply entries is = rw is refl

  module _ (at : ℕ) (ask entry : Entry) (entries : List Entry) (same : same_entry ask (entry_of_standing outset (dialogue outset before)) ≡ true) where
    no_ask : reply_of_entry ask ≡ None
    no_ask = asked_no_reply outset (dialogue outset before).steps_done ask (dialogue outset before).deed same

    -- behind what is asked stands something else than a reply
    pub unanswered : reply_of_entry entry ≡ None → left outset before at (ask ∷ entry ∷ entries) ≡ Differs (at + 1)
    unfolding left
    unanswered none = rw (ask_none ask (entry ∷ entries) no_ask) (by (replies_in (entry ∷ entries)))
      where
        by_awaited : (awaited : Bool) (reply : Reply) (own : List Entry)
            → against (at + 1) (is_whole (entry ∷ entries)) (entry ∷ entries) (if awaited then entry_of_reply reply ∷ own else []) ≡ Differs (at + 1)
        by_awaited true reply own = rw (no_reply_differs entry reply none) refl
        by_awaited false reply own = refl

        by : (replies : List Reply)
            → against at (is_whole (entry ∷ entries)) (ask ∷ entry ∷ entries) (own_behind outset before replies) ≡ Differs (at + 1)
        by [] = rw same refl
        by (reply ∷ replies) = rw same (by_awaited (is_awaited (dialogue outset before).deed reply) reply (own_behind outset (before ++ reply ∷ []) replies))

    -- a reply that is not awaited
    pub not_awaited : (reply : Reply) → reply_of_entry entry ≡ Some reply → is_awaited (dialogue outset before).deed reply ≡ false
        → left outset before at (ask ∷ entry ∷ entries) ≡ Differs (at + 1)
    unfolding left
    not_awaited reply is other =
        rw (ask_none ask (entry ∷ entries) no_ask, reply_first entry reply entries is, same, other) refl

    pub goes_on : (reply : Reply) → reply_of_entry entry ≡ Some reply → is_awaited (dialogue outset before).deed reply ≡ true
        → left outset before at (ask ∷ entry ∷ entries) ≡ left outset (before ++ reply ∷ []) (at + 2) entries
    unfolding left
    goes_on reply is awaited =
        let two : at + 1 + 1 ≡ at + 2 = omega arith in
        rw (
          ask_none ask (entry ∷ entries) no_ask,
          reply_first entry reply entries is,
          same,
          awaited,
          reply_same entry reply is,
          whole_behind ask entry entries (reply_no_end entry reply is),
          two,
        ) refl

-- what a terminal is told of what it does next
pub asks_card : (outset : Outset) (steps_done : List StepResult) (deed : Deed) (bytes : List ℕ) → next.ToCard ≡ deed_next deed → bytes ≡ deed_bytes deed
    → entry_of_deed outset steps_done deed ≡ ToCard bytes
asks_card outset steps_done (said.ToCard command) bytes waits is = ap (λ (b : List ℕ). ToCard b) (sym is)
asks_card outset steps_done (said.ToHost message) bytes waits is = absurd (cc waits)
asks_card outset steps_done (said.Over ending) bytes waits is = absurd (cc waits)

pub asks_host : (outset : Outset) (steps_done : List StepResult) (deed : Deed) (bytes : List ℕ) → next.ToHost ≡ deed_next deed → bytes ≡ deed_bytes deed
    → entry_of_deed outset steps_done deed ≡ ToHost bytes
asks_host outset steps_done (said.ToCard command) bytes waits is = absurd (cc waits)
asks_host outset steps_done (said.ToHost message) bytes waits is = ap (λ (b : List ℕ). ToHost b) (sym is)
asks_host outset steps_done (said.Over ending) bytes waits is = absurd (cc waits)

pub ends_so : (outset : Outset) (steps_done : List StepResult) (deed : Deed) (end : EndShown) → option_map shown_end (end_by outset steps_done deed) ≡ Some end
    → entry_of_deed outset steps_done deed ≡ End (end_text end)
ends_so outset steps_done (said.ToCard command) end is = absurd (cc is)
ends_so outset steps_done (said.ToHost message) end is = absurd (cc is)
ends_so outset steps_done (said.Over ending) end is =
    let one : shown_end (end_with outset ending (latest sets_card None steps_done) (state_so_far steps_done)) ≡ end = cc is in
    ap (λ (e : EndShown). End (end_text e)) one

-- what it takes by its side it takes as what it does awaits
pub taken_of_card : (deed : Deed) (after : KernelData) (replies : List Reply) (told : Option Reply) (found : Bool) → next.ToCard ≡ deed_next deed
    → ReplyIsTaken of_card after replies told found → ReplyIsTaken (is_awaited deed) after replies told found
taken_of_card (said.ToCard command) after replies None found waits taken = taken
taken_of_card (said.ToCard command) after replies (Some reply) found waits taken = taken
taken_of_card (said.ToHost message) after replies told found waits taken = absurd (cc waits)
taken_of_card (said.Over ending) after replies told found waits taken = absurd (cc waits)

pub taken_of_host : (deed : Deed) (after : KernelData) (replies : List Reply) (told : Option Reply) (found : Bool) → next.ToHost ≡ deed_next deed
    → ReplyIsTaken of_host after replies told found → ReplyIsTaken (is_awaited deed) after replies told found
taken_of_host (said.ToCard command) after replies told found waits taken = absurd (cc waits)
taken_of_host (said.ToHost message) after replies None found waits taken = taken
taken_of_host (said.ToHost message) after replies (Some reply) found waits taken = taken
taken_of_host (said.Over ending) after replies told found waits taken = absurd (cc waits)

pub taken_of_none : (deed : Deed) (after : KernelData) (replies : List Reply) (told : Option Reply) → next.Ended ≡ deed_next deed
    → ReplyIsTaken (is_awaited deed) after replies told false
taken_of_none (said.ToCard command) after replies told waits = absurd (cc waits)
taken_of_none (said.ToHost message) after replies told waits = absurd (cc waits)
taken_of_none (said.Over ending) after replies None waits = refl
taken_of_none (said.Over ending) after replies (Some reply) waits = (refl, tt)

-- an exchange whose entry was taken goes on, and one whose entry was not has found the verdict
pub taken_goes : (outset : Outset) (after : KernelData) (replies : List Reply) (at : ℕ) (ask entry : Entry) (entries : List Entry)
    → same_entry ask (entry_of_standing outset (dialogue outset replies)) ≡ true
    → ReplyIsTaken (is_awaited (dialogue outset replies).deed) after replies (reply_of_entry entry) true → DialogueGoesOn outset after replies at (ask ∷ entry ∷ entries)
taken_goes outset after replies at ask entry entries same taken = by (reply_of_entry entry) refl taken
  where
    by : (told : Option Reply) → reply_of_entry entry ≡ told → ReplyIsTaken (is_awaited (dialogue outset replies).deed) after replies told true
        → DialogueGoesOn outset after replies at (ask ∷ entry ∷ entries)
    by None is taken = absurd (cc taken)
    by (Some reply) is taken = record {
      reply = reply;
      stands = taken.1;
      same = goes_on outset replies at ask entry entries same reply is (sym taken.0);
    }

pub taken_not : (outset : Outset) (after : KernelData) (replies : List Reply) (at : ℕ) (ask entry : Entry) (entries : List Entry)
    → same_entry ask (entry_of_standing outset (dialogue outset replies)) ≡ true
    → ReplyIsTaken (is_awaited (dialogue outset replies).deed) after replies (reply_of_entry entry) false
    → Differs (at + 1) ≡ left outset replies at (ask ∷ entry ∷ entries)
taken_not outset after replies at ask entry entries same taken = sym (by (reply_of_entry entry) refl taken)
  where
    by : (told : Option Reply) → reply_of_entry entry ≡ told → ReplyIsTaken (is_awaited (dialogue outset replies).deed) after replies told false
        → left outset replies at (ask ∷ entry ∷ entries) ≡ Differs (at + 1)
    by None is taken = unanswered outset replies at ask entry entries same is
    by (Some reply) is taken = not_awaited outset replies at ask entry entries same reply is (sym taken.0)

-- how far a trace is read: the terminal has taken the replies before the entries that are left
pub record Far (began now : KernelData) (entries : List Entry) (at : ℕ) (rest : List Entry) : Type 0 where
  pub replies : List Reply
  pub stands : KernelStands now replies
  pub outset : outset_in now ≡ outset_in began
  pub fresh : now.is_spent ≡ false
  pub few : at + length rest ≤ 50000
  pub same : left (outset_in began) [] 0 entries ≡ left (outset_in began) replies at rest

-- the verdict of the whole
pub whole_left : (outset : Outset) (entries : List Entry) → left outset [] 0 entries ≡ verdict outset entries
unfolding left
whole_left outset entries = refl

pub far_begins : (began : KernelData) (entries : List Entry) → KernelStands began [] → began.is_spent ≡ false → length entries ≤ 50000 → Far began began entries 0 entries
far_begins began entries stands fresh few =
    record { replies = []; stands = stands; outset = refl; fresh = fresh; few = omega arith; same = refl }

pub far_goes : (began now after : KernelData) (entries : List Entry) (at : ℕ) (rest : List Entry) (far : Far began now entries at rest)
    → DialogueGoesOn (outset_in now) after far.replies at rest → outset_in after ≡ outset_in now → after.is_spent ≡ false → 2 ≤ length rest
    → Far began after entries (at + 2) (drop 2 rest)
far_goes began now after entries at rest far goes outset fresh two =
    let few = far.few in
    record {
      replies = far.replies ++ goes.reply ∷ [];
      stands = goes.stands;
      outset = outset ∙ far.outset;
      fresh = fresh;
      few = omega (arith, length-drop 2 rest);
      same =
          far.same
          ∙ subst (λ (d : Outset). left d far.replies at rest ≡ left d (far.replies ++ goes.reply ∷ []) (at + 2) (drop 2 rest)) far.outset goes.same;
    }

pub far_found : (began now : KernelData) (entries : List Entry) (at : ℕ) (rest : List Entry) (far : Far began now entries at rest) (found : Verdict)
    → found ≡ left (outset_in now) far.replies at rest → found ≡ verdict (outset_in began) entries
far_found began now entries at rest far found is =
    is ∙ ap (λ (d : Outset). left d far.replies at rest) far.outset ∙ sym far.same ∙ whole_left (outset_in began) entries

-- entries by their number
pub none_of : (outset : Outset) (before : List Reply) (at : ℕ) (entries : List Entry) → length entries < 1 → Differs at ≡ left outset before at entries
none_of outset before at [] none = sym (none_left outset before at)
none_of outset before at (entry ∷ entries) none = absurd (omega arith)

pub two_of : (entries : List Entry) (ask entry : Entry) → 2 ≤ length entries → ask ≡ get_or entries 0 ask → entry ≡ get_or entries 1 entry
    → entries ≡ ask ∷ entry ∷ drop 2 entries
two_of [] ask entry two first second = absurd (omega arith)
two_of (a ∷ []) ask entry two first second = absurd (omega arith)
two_of (a ∷ b ∷ entries) ask entry two first second =
    ap (λ (e : Entry). e ∷ b ∷ entries) (sym first) ∙ ap (λ (e : Entry). ask ∷ e ∷ entries) (sym second)
