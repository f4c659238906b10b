-- What a verdict says of a trace.
use Rattle.std.proofs.Common.{◌≡◌, ◌↔◌, ℕ, suc, ◌+◌, ◌<◌, Bool, true, false, List, [], ◌∷◌, ◌++◌, length, take, Option, Some, None, refl, sym, ap, subst, ◌∙◌, arith, if◌then◌else◌}
use Rattle.std.proofs.lemmas.Slice.Eq.{bytes_eq-Decides}
use Rattle.std.specs.Str.{bytes_eq}
use Rattle.emv_dict.specs.declared.ending.Ending.{Ending}
use Rattle.kernel.specs.StepsInTurn.{Standing}
use Rattle.kernel.specs.Dialogue.{dialogue}
use Rattle.kernel.specs.Kernel.{deed_next}
use Rattle.kernel.specs.Laws.{asks_host}
use Rattle.kernel.specs.Reply.{Reply, Deed}
use Rattle.kernel.specs.Reply as said
use Rattle.terminal_state.specs.StepResults.{StepResult}
use Rattle.terminal_state.specs.Terminal.{Outset}
use Rattle.trace_check.proofs.Closing.{Heard, heard_more, Closed, dialogue_closes}
use Rattle.trace_check.proofs.Left.{same_bytes, none_left, other_first, last_same, unanswered, not_awaited, goes_on, over_is_end}
use Rattle.trace_check.specs.Dialogues.{reply_of_entry, entry_of_reply, is_awaited, entry_of_deed, entry_of_standing}
use Rattle.trace_check.specs.Laws.{IsDialogue, over, answered, IsFront, IsLeast}
use Rattle.trace_check.specs.Loop.{left}
use Rattle.trace_check.specs.Verdicts.{same_entry, is_end_entry, verdict}
use Rattle.trace_check.specs.declared.compare.Verdict.{Verdict}
use Rattle.trace_check.specs.declared.compare.Verdict.TheVariants.{Same, Differs}
use Rattle.trace_check.specs.declared.entry.Entry.{Entry}
use Rattle.trace_check.specs.declared.entry.Entry.TheVariants.{ToCard, CardSaid, CardGone, ToHost, HostSaid, HostSilent, End}

same_self : (entry : Entry) → same_entry entry entry ≡ true
same_self (ToCard bytes) = same_bytes bytes
same_self (CardSaid bytes) = same_bytes bytes
same_self CardGone = refl
same_self (ToHost bytes) = same_bytes bytes
same_self (HostSaid bytes) = same_bytes bytes
same_self HostSilent = refl
same_self (End text) = same_bytes text

-- entries that are the same are equal
module _ (made : List ℕ → Entry) where
  made_same : (a b : List ℕ) → bytes_eq a b ≡ true → made a ≡ made b
  made_same a b same = ap made ((bytes_eq-Decides a b).0 same)

same_is : (a b : Entry) → same_entry a b ≡ true → a ≡ b
same_is (ToCard a) (ToCard b) same = made_same (λ x. ToCard x) a b same
same_is (CardSaid a) (CardSaid b) same = made_same (λ x. CardSaid x) a b same
same_is CardGone CardGone same = refl
same_is (ToHost a) (ToHost b) same = made_same (λ x. ToHost x) a b same
same_is (HostSaid a) (HostSaid b) same = made_same (λ x. HostSaid x) a b same
same_is HostSilent HostSilent same = refl
same_is (End a) (End b) same = made_same (λ x. End x) a b same
same_is a b same = absurd (cc same)

-- an entry that is an end and what a dialogue does next: the dialogue is over
end_is_over : (outset : Outset) (steps_done : List StepResult) (deed : Deed) → is_end_entry (entry_of_deed outset steps_done deed) ≡ true → (ending : Ending) × (deed ≡ said.Over ending)
end_is_over outset steps_done (said.ToCard command) is = absurd (cc is)
end_is_over outset steps_done (said.ToHost message) is = absurd (cc is)
end_is_over outset steps_done (said.Over ending) is = (ending, refl)

over_ended : (outset : Outset) (steps_done : List StepResult) (deed : Deed) (ending : Ending) → deed ≡ said.Over ending → is_end_entry (entry_of_deed outset steps_done deed) ≡ true
over_ended outset steps_done (said.ToCard command) ending is = absurd (cc is)
over_ended outset steps_done (said.ToHost message) ending is = absurd (cc is)
over_ended outset steps_done (said.Over last) ending is = refl

module _ (outset : Outset) where
  -- the trace of a dialogue is found the same
  pub dialogue_same : (before : List Reply) (entries : List Entry) (at : ℕ) → IsDialogue [] outset before entries → left outset before at entries ≡ Same
  dialogue_same before entries at (over front ending is) =
      last_same outset front at (entry_of_standing outset (dialogue outset front)) (same_self (entry_of_standing outset (dialogue outset front)))
      ∙ rw (over_ended outset (dialogue outset front).steps_done (dialogue outset front).deed ending is) refl
  dialogue_same before entries at (answered front entry reply later told awaited rest) =
      goes_on outset front at (entry_of_standing outset (dialogue outset front)) entry later (same_self (entry_of_standing outset (dialogue outset front))) reply told awaited
      ∙ dialogue_same (front ++ reply ∷ []) later (at + 2) rest

  -- what an entry that is the dialogue's next, and its last, makes
  ends_by : (before : List Reply) (entry : Entry) → entry ≡ entry_of_standing outset (dialogue outset before) → is_end_entry entry ≡ true → IsDialogue [] outset before (entry ∷ [])
  ends_by before entry is end =
      let found = end_is_over outset (dialogue outset before).steps_done (dialogue outset before).deed (ap is_end_entry (sym is) ∙ end) in
      subst (λ (e : Entry). IsDialogue [] outset before (e ∷ [])) (sym is) (over before found.0 found.1)

  goes_by : (before : List Reply) (ask entry : Entry) (reply : Reply) (later : List Entry) → ask ≡ entry_of_standing outset (dialogue outset before) → reply_of_entry entry ≡ Some reply
      → is_awaited (dialogue outset before).deed reply ≡ true → IsDialogue [] outset (before ++ reply ∷ []) later → IsDialogue [] outset before (ask ∷ entry ∷ later)
  goes_by before ask entry reply later is told awaited rest =
      subst (λ (e : Entry). IsDialogue [] outset before (e ∷ entry ∷ later)) (sym is) (answered before entry reply later told awaited rest)

  -- what is asked, and what stands behind it
  same_by : (before : List Reply) (ask entry : Entry) (entries : List Entry) (at : ℕ) → left outset before at (ask ∷ entry ∷ entries) ≡ Same
      → same_entry ask (entry_of_standing outset (dialogue outset before)) ≡ true
      → ((reply : Reply) → left outset (before ++ reply ∷ []) (at + 2) entries ≡ Same → IsDialogue [] outset (before ++ reply ∷ []) entries)
      → (told : Option Reply) → reply_of_entry entry ≡ told → IsDialogue [] outset before (ask ∷ entry ∷ entries)
  same_by before ask entry entries at same like more None none =
      absurd (let e : Differs (at + 1) ≡ Same = sym (unanswered outset before at ask entry entries like none) ∙ same in cc e)
  same_by before ask entry entries at same like more (Some reply) told = by (is_awaited (dialogue outset before).deed reply) refl
    where
      by : (awaited : Bool) → is_awaited (dialogue outset before).deed reply ≡ awaited → IsDialogue [] outset before (ask ∷ entry ∷ entries)
      by true awaited =
          goes_by before ask entry reply entries (same_is _ _ like) told awaited
          (more reply (sym (goes_on outset before at ask entry entries like reply told awaited) ∙ same))
      by false other =
          absurd (let e : Differs (at + 1) ≡ Same = sym (not_awaited outset before at ask entry entries like reply told other) ∙ same in cc e)

  pub same_dialogue : (before : List Reply) (entries : List Entry) (at : ℕ) → left outset before at entries ≡ Same → IsDialogue [] outset before entries
  same_dialogue before [] at same = absurd (let e : Differs at ≡ Same = sym (none_left outset before at) ∙ same in cc e)
  same_dialogue before (entry ∷ []) at same = by (same_entry entry (entry_of_standing outset (dialogue outset before))) refl
    where
      by_end : same_entry entry (entry_of_standing outset (dialogue outset before)) ≡ true → (end : Bool) → is_end_entry entry ≡ end → (if end then Same else Differs (at + 1)) ≡ Same
          → IsDialogue [] outset before (entry ∷ [])
      by_end like true end is = ends_by before entry (same_is _ _ like) end
      by_end like false end is = absurd (cc is)

      by : (like : Bool) → same_entry entry (entry_of_standing outset (dialogue outset before)) ≡ like → IsDialogue [] outset before (entry ∷ [])
      by true like = by_end like (is_end_entry entry) refl (sym (last_same outset before at entry like) ∙ same)
      by false other = absurd (let e : Differs at ≡ Same = sym (other_first outset before at entry [] other) ∙ same in cc e)
  same_dialogue before (ask ∷ entry ∷ entries) at same =
      by (same_entry ask (entry_of_standing outset (dialogue outset before))) refl (λ reply is. same_dialogue (before ++ reply ∷ []) entries (at + 2) is)
    where
      by : (like : Bool) → same_entry ask (entry_of_standing outset (dialogue outset before)) ≡ like
          → ((reply : Reply) → left outset (before ++ reply ∷ []) (at + 2) entries ≡ Same → IsDialogue [] outset (before ++ reply ∷ []) entries)
          → IsDialogue [] outset before (ask ∷ entry ∷ entries)
      by true like more = same_by before ask entry entries at same like more (reply_of_entry entry) refl
      by false other more = absurd (let e : Differs at ≡ Same = sym (other_first outset before at ask (entry ∷ entries) other) ∙ same in cc e)

  -- what stands in the trace of a dialogue
  dialogue_first : (before : List Reply) (first : Entry) (entries : List Entry) → IsDialogue [] outset before (first ∷ entries) → first ≡ entry_of_standing outset (dialogue outset before)
  dialogue_first before first entries (over front ending is) = refl
  dialogue_first before first entries (answered front entry reply later told awaited rest) = refl

  record Second (before : List Reply) (entry : Entry) (later : List Entry) : Type 0 where
    reply : Reply
    told : reply_of_entry entry ≡ Some reply
    awaited : is_awaited (dialogue outset before).deed reply ≡ true
    rest : IsDialogue [] outset (before ++ reply ∷ []) later

  dialogue_second : (before : List Reply) (first entry : Entry) (later : List Entry) → IsDialogue [] outset before (first ∷ entry ∷ later) → Second before entry later
  dialogue_second before first entry later (answered front told_entry reply behind told awaited rest) = record { reply = reply; told = told; awaited = awaited; rest = rest }

  no_dialogue : (before : List Reply) → IsDialogue [] outset before [] → ⊥
  no_dialogue before is = elim is [ ]

  abbrev pub heard_in : List Reply → Type 0
  heard_in before = Heard (λ later. (dialogue outset later).deed) before

  -- each dialogue can be brought to its end
  abbrev pub IsEnding : List Reply → Type 0
  IsEnding before = (entries : List Entry) × IsDialogue [] outset before entries

  ends_over : (before : List Reply) (ending : Ending) → (dialogue outset before).deed ≡ said.Over ending → IsEnding before
  ends_over before ending is = (entry_of_standing outset (dialogue outset before) ∷ [], over before ending is)

  ends_card : (before : List Reply) (command : List ℕ) → (dialogue outset before).deed ≡ said.ToCard command
      → (ending : Ending) × ((dialogue outset (before ++ said.CardGone ∷ [])).deed ≡ said.Over ending) → IsEnding before
  ends_card before command is gone =
      let last = ends_over (before ++ said.CardGone ∷ []) gone.0 gone.1 in (
        entry_of_standing outset (dialogue outset before) ∷ CardGone ∷ last.0,
        answered before CardGone said.CardGone last.0 refl (ap (λ (d : Deed). is_awaited d said.CardGone) is) last.1,
      )

  deed_closed : (before : List Reply) → heard_in before → (deed : Deed) → (dialogue outset before).deed ≡ deed
      → Closed deed (dialogue outset (before ++ said.CardGone ∷ [])).deed (dialogue outset (before ++ said.HostSilent ∷ [])).deed
  deed_closed before heard deed is =
      subst (λ (d : Deed). Closed d (dialogue outset (before ++ said.CardGone ∷ [])).deed (dialogue outset (before ++ said.HostSilent ∷ [])).deed) is
      (dialogue_closes outset before heard)

  -- where the host is not asked
  ends_quiet : (before : List Reply) → heard_in before → (deed : Deed) → (dialogue outset before).deed ≡ deed → asks_host deed ≡ false → IsEnding before
  ends_quiet before heard (said.ToCard command) is quiet = ends_card before command is (deed_closed before heard (said.ToCard command) is)
  ends_quiet before heard (said.ToHost message) is quiet = absurd (cc quiet)
  ends_quiet before heard (said.Over ending) is quiet = ends_over before ending is

  pub is_ending : (before : List Reply) → heard_in before → IsEnding before
  is_ending before heard = by (dialogue outset before).deed refl
    where
      by : (deed : Deed) → (dialogue outset before).deed ≡ deed → IsEnding before
      by (said.ToCard command) is = ends_card before command is (deed_closed before heard (said.ToCard command) is)
      by (said.ToHost message) is =
          let awaited : is_awaited (dialogue outset before).deed said.HostSilent ≡ true = ap (λ (d : Deed). is_awaited d said.HostSilent) is in
          let behind = before ++ said.HostSilent ∷ [] in
          let later =
          ends_quiet behind (heard_more (λ later. (dialogue outset later).deed) before said.HostSilent heard awaited) (dialogue outset behind).deed refl
          (deed_closed before heard (said.ToHost message) is) in
          (entry_of_standing outset (dialogue outset before) ∷ HostSilent ∷ later.0, answered before HostSilent said.HostSilent later.0 refl awaited later.1)
      by (said.Over ending) is = ends_over before ending is

  abbrev pub FrontBehind : List Reply → List Entry → Type 0
  FrontBehind before entries = (more : List Entry) × IsDialogue [] outset before (entries ++ more)

  -- what a dialogue does next is a front of a trace behind these replies
  next_front : (before : List Reply) (entry : Entry) → heard_in before → entry ≡ entry_of_standing outset (dialogue outset before) → FrontBehind before (entry ∷ [])
  next_front before entry heard is = by (is_ending before heard).0 (is_ending before heard).1
    where
      by : (entries : List Entry) → IsDialogue [] outset before entries → FrontBehind before (entry ∷ [])
      by [] found = absurd (no_dialogue before found)
      by (first ∷ entries) found =
          (entries, subst (λ (e : Entry). IsDialogue [] outset before (e ∷ entries)) (dialogue_first before first entries found ∙ sym is) found)

  pub record Least (before : List Reply) (entries : List Entry) (count : ℕ) : Type 0 where
    pub front : FrontBehind before (take count entries)
    pub least : count < length entries → FrontBehind before (take (suc count) entries) → ⊥
    pub within : count < suc (length entries)

  -- the entry that differs is the least, counted from where the entries begin
  abbrev pub DiffersAt : List Reply → List Entry → ℕ → ℕ → Type 0
  DiffersAt before entries at found = (count : ℕ) × (found ≡ at + count) × Least before entries count

  at_first : (before : List Reply) (entries : List Entry) (at found : ℕ) → heard_in before → Differs at ≡ Differs found
      → (0 < length entries → FrontBehind before (take 1 entries) → ⊥) → DiffersAt before entries at found
  at_first before entries at found heard is none =
      let same : at ≡ found = cc is in
      (0, omega arith, record { front = is_ending before heard; least = none; within = omega arith })

  at_second : (before : List Reply) (entry : Entry) (entries : List Entry) (at found : ℕ) → heard_in before → entry ≡ entry_of_standing outset (dialogue outset before)
      → Differs (at + 1) ≡ Differs found → (1 < length (entry ∷ entries) → FrontBehind before (take 2 (entry ∷ entries)) → ⊥)
      → DiffersAt before (entry ∷ entries) at found
  at_second before entry entries at found heard next is none =
      let same : at + 1 ≡ found = cc is in
      (1, omega arith, record { front = next_front before entry heard next; least = none; within = omega arith })

  -- an entry that is not what the dialogue does next begins no front
  other_no_front : (before : List Reply) (entry : Entry) → same_entry entry (entry_of_standing outset (dialogue outset before)) ≡ false → FrontBehind before (entry ∷ []) → ⊥
  other_no_front before entry other found =
      let is = dialogue_first before entry found.0 found.1 in
      let clash : true ≡ false = sym (same_self entry) ∙ ap (λ (e : Entry). same_entry entry e) is ∙ other in
      cc clash

  -- the entries behind an exchange, and the exchange before them
  differs_goes : (before : List Reply) (ask entry : Entry) (entries : List Entry) (at found : ℕ) → same_entry ask (entry_of_standing outset (dialogue outset before)) ≡ true
      → (reply : Reply) → reply_of_entry entry ≡ Some reply → is_awaited (dialogue outset before).deed reply ≡ true
      → DiffersAt (before ++ reply ∷ []) entries (at + 2) found → DiffersAt before (ask ∷ entry ∷ entries) at found
  differs_goes before ask entry entries at found like reply told awaited later =
      let up = later.1 in (
        suc (suc later.0),
        omega arith,
        record {
          front = (later.2.front.0, goes_by before ask entry reply (take later.0 entries ++ later.2.front.0) (same_is _ _ like) told awaited later.2.front.1);
          least =
              λ some front.
              let second = dialogue_second before ask entry (take (suc later.0) entries ++ front.0) front.1 in
              let one : reply ≡ second.reply = (let e : Some reply ≡ Some second.reply = sym told ∙ second.told in cc e) in
              later.2.least (omega arith)
              (front.0, subst (λ (r : Reply). IsDialogue [] outset (before ++ r ∷ []) (take (suc later.0) entries ++ front.0)) (sym one) second.rest);
          within = let in_rest = later.2.within in omega arith;
        },
      )

  -- where what stands behind what is asked is no reply to it
  not_second : (before : List Reply) (ask entry : Entry)
      → ((reply : Reply) → reply_of_entry entry ≡ Some reply → is_awaited (dialogue outset before).deed reply ≡ true → ⊥) → FrontBehind before (ask ∷ entry ∷ []) → ⊥
  not_second before ask entry none front =
      let second = dialogue_second before ask entry front.0 front.1 in none second.reply second.told second.awaited

  differs_by : (before : List Reply) (ask entry : Entry) (entries : List Entry) (at found : ℕ) → heard_in before
      → left outset before at (ask ∷ entry ∷ entries) ≡ Differs found → same_entry ask (entry_of_standing outset (dialogue outset before)) ≡ true
      → ((reply : Reply) → heard_in (before ++ reply ∷ []) → left outset (before ++ reply ∷ []) (at + 2) entries ≡ Differs found
      → DiffersAt (before ++ reply ∷ []) entries (at + 2) found)
      → (told : Option Reply) → reply_of_entry entry ≡ told → DiffersAt before (ask ∷ entry ∷ entries) at found
  differs_by before ask entry entries at found heard differs like more None none =
      at_second before ask (entry ∷ entries) at found heard (same_is _ _ like)
      (sym (unanswered outset before at ask entry entries like none) ∙ differs)
      (λ some. not_second before ask entry (λ one is awaited. let clash : None ≡ Some one = sym none ∙ is in cc clash))
  differs_by before ask entry entries at found heard differs like more (Some reply) told = by (is_awaited (dialogue outset before).deed reply) refl
    where
      by : (awaited : Bool) → is_awaited (dialogue outset before).deed reply ≡ awaited → DiffersAt before (ask ∷ entry ∷ entries) at found
      by true awaited =
          differs_goes before ask entry entries at found like reply told awaited
          (more reply (heard_more (λ later. (dialogue outset later).deed) before reply heard awaited)
          (sym (goes_on outset before at ask entry entries like reply told awaited) ∙ differs))
      by false other =
          at_second before ask (entry ∷ entries) at found heard (same_is _ _ like)
          (sym (not_awaited outset before at ask entry entries like reply told other) ∙ differs)
          (λ some. not_second before ask entry
          (λ one is awaited.
          let same : reply ≡ one = (let e : Some reply ≡ Some one = sym told ∙ is in cc e) in
          let clash : true ≡ false = sym awaited ∙ ap (λ (r : Reply). is_awaited (dialogue outset before).deed r) (sym same) ∙ other in
          cc clash))

  pub differs_at : (before : List Reply) (entries : List Entry) (at found : ℕ) → heard_in before → left outset before at entries ≡ Differs found → DiffersAt before entries at found
  differs_at before [] at found heard differs = at_first before [] at found heard (sym (none_left outset before at) ∙ differs) (λ some. absurd (omega arith))
  differs_at before (entry ∷ []) at found heard differs = by (same_entry entry (entry_of_standing outset (dialogue outset before))) refl
    where
      by_end : same_entry entry (entry_of_standing outset (dialogue outset before)) ≡ true → (end : Bool) → (if end then Same else Differs (at + 1)) ≡ Differs found
          → DiffersAt before (entry ∷ []) at found
      by_end like true is = absurd (cc is)
      by_end like false is = at_second before entry [] at found heard (same_is _ _ like) is (λ some. absurd (omega arith))

      by : (like : Bool) → same_entry entry (entry_of_standing outset (dialogue outset before)) ≡ like → DiffersAt before (entry ∷ []) at found
      by true like = by_end like (is_end_entry entry) (sym (last_same outset before at entry like) ∙ differs)
      by false other = at_first before (entry ∷ []) at found heard (sym (other_first outset before at entry [] other) ∙ differs) (λ some. other_no_front before entry other)
  differs_at before (ask ∷ entry ∷ entries) at found heard differs =
      by (same_entry ask (entry_of_standing outset (dialogue outset before))) refl (λ reply. differs_at (before ++ reply ∷ []) entries (at + 2) found)
    where
      by : (like : Bool) → same_entry ask (entry_of_standing outset (dialogue outset before)) ≡ like
          → ((reply : Reply) → heard_in (before ++ reply ∷ []) → left outset (before ++ reply ∷ []) (at + 2) entries ≡ Differs found
          → DiffersAt (before ++ reply ∷ []) entries (at + 2) found)
          → DiffersAt before (ask ∷ entry ∷ entries) at found
      by true like more = differs_by before ask entry entries at found heard differs like more (reply_of_entry entry) refl
      by false other more =
          at_first before (ask ∷ entry ∷ entries) at found heard (sym (other_first outset before at ask (entry ∷ entries) other) ∙ differs)
          (λ some. other_no_front before ask other)

pub same_is_dialogue : (outset : Outset) (entries : List Entry) → (verdict outset entries ≡ Same) ↔ IsDialogue [] outset [] entries
unfolding left
same_is_dialogue outset entries = (same_dialogue outset [] entries 0, dialogue_same outset [] entries 0)

pub differs_is_least : (outset : Outset) (entries : List Entry) (at : ℕ) → verdict outset entries ≡ Differs at → IsLeast outset entries at
unfolding left
differs_is_least outset entries at differs =
    let found = differs_at outset [] entries 0 at tt differs in
    let same : at ≡ found.0 = (let up = found.1 in omega arith) in
    let one : suc found.0 ≡ found.0 + 1 = omega arith in
    subst (λ (n : ℕ). IsLeast outset entries n) (sym same)
    record {
      front = found.2.front;
      least = λ some front. found.2.least some (subst (λ (n : ℕ). IsFront outset (take n entries)) (sym one) front);
      within = let within = found.2.within in omega arith;
    }
