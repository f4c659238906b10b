-- Every dialogue of a terminal with a log of earlier purchases can be brought to its end: by a card that is gone, behind a host
-- that doesn't reply.
use Rattle.std.proofs.Common.{◌≡◌, ℕ, true, false, List, [], ◌∷◌, ◌++◌, refl, ap, subst}
use Rattle.emv_dict.specs.declared.ending.Ending.{Ending}
use Rattle.emv_dict.specs.declared.purchase.Logged.{Logged}
use Rattle.kernel.specs.Dialogue.{dialogue}
use Rattle.kernel.specs.Laws.{asks_host}
use Rattle.kernel.specs.Reply.{Deed, Reply}
use Rattle.kernel.specs.Reply as said
use Rattle.terminal_state.specs.Terminal.{Outset}
use Rattle.trace_check.proofs.Closing.{Closed, Heard, dialogue_closes, heard_more}
use Rattle.trace_check.specs.Dialogues.{entry_of_standing, is_awaited}
use Rattle.trace_check.specs.Laws.{IsDialogue, answered, over}
use Rattle.trace_check.specs.declared.entry.Entry.{Entry}
use Rattle.trace_check.specs.declared.entry.Entry.TheVariants.{CardGone, HostSilent}

module _ (log : List Logged) (outset : Outset) where
  abbrev pub AreHeard : List Reply → Type 0
  AreHeard before = Heard (λ later. (dialogue outset later).deed) before

  -- what is asked behind these replies, and something behind it, is the rest of a whole dialogue
  abbrev pub HasEnd : List Reply → Type 0
  HasEnd before = (more : List Entry) × IsDialogue log outset before (entry_of_standing outset (dialogue outset before) ∷ more)

  ends_over : (before : List Reply) (ending : Ending) → (dialogue outset before).deed ≡ said.Over ending → HasEnd before
  ends_over before ending is = ([], over before ending is)

  ends_card : (before : List Reply) (command : List ℕ) → (dialogue outset before).deed ≡ said.ToCard command
      → (ending : Ending) × ((dialogue outset (before ++ said.CardGone ∷ [])).deed ≡ said.Over ending) → HasEnd before
  ends_card before command is gone =
      let behind = before ++ said.CardGone ∷ [] in
      let last = ends_over behind gone.0 gone.1 in (
        CardGone ∷ entry_of_standing outset (dialogue outset behind) ∷ last.0,
        answered before CardGone said.CardGone (entry_of_standing outset (dialogue outset behind) ∷ last.0) refl
            (ap (λ (d : Deed). is_awaited d said.CardGone) is) last.1,
      )

  deed_closed : (before : List Reply) → AreHeard before → (deed : Deed) → (dialogue outset before).deed ≡ deed
      → Closed deed (dialogue outset (before ++ said.CardGone ∷ [])).deed (dialogue outset (before ++ said.HostSilent ∷ [])).deed
  deed_closed before heard deed is =
      subst (λ (d : Deed). Closed d (dialogue outset (before ++ said.CardGone ∷ [])).deed (dialogue outset (before ++ said.HostSilent ∷ [])).deed) is
      (dialogue_closes outset before heard)

  -- where the host is not asked
  ends_quiet : (before : List Reply) → AreHeard before → (deed : Deed) → (dialogue outset before).deed ≡ deed → asks_host deed ≡ false → HasEnd before
  ends_quiet before heard (said.ToCard command) is quiet = ends_card before command is (deed_closed before heard (said.ToCard command) is)
  ends_quiet before heard (said.ToHost message) is quiet = absurd (cc quiet)
  ends_quiet before heard (said.Over ending) is quiet = ends_over before ending is

  ends_host : (before : List Reply) (message : List ℕ) → AreHeard before → (dialogue outset before).deed ≡ said.ToHost message → HasEnd before
  ends_host before message heard is =
      let awaited : is_awaited (dialogue outset before).deed said.HostSilent ≡ true = ap (λ (d : Deed). is_awaited d said.HostSilent) is in
      let behind = before ++ said.HostSilent ∷ [] in
      let later =
      ends_quiet behind (heard_more (λ later. (dialogue outset later).deed) before said.HostSilent heard awaited) (dialogue outset behind).deed refl
      (deed_closed before heard (said.ToHost message) is) in (
        HostSilent ∷ entry_of_standing outset (dialogue outset behind) ∷ later.0,
        answered before HostSilent said.HostSilent (entry_of_standing outset (dialogue outset behind) ∷ later.0) refl awaited later.1,
      )

  ends_by : (before : List Reply) → AreHeard before → (deed : Deed) → (dialogue outset before).deed ≡ deed → HasEnd before
  ends_by before heard (said.ToCard command) is = ends_card before command is (deed_closed before heard (said.ToCard command) is)
  ends_by before heard (said.ToHost message) is = ends_host before message heard is
  ends_by before heard (said.Over ending) is = ends_over before ending is

  pub has_end : (before : List Reply) → AreHeard before → HasEnd before
  has_end before heard = ends_by before heard (dialogue outset before).deed refl
