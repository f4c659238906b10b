-- How a dialogue ends from where it stands, whatever its card answers from there on: built from the last step to the
-- first, and carried along what a terminal was told.
use Rattle.std.proofs.Common.{◌≡◌, ℕ, List, [], ◌∷◌, ◌++◌, Option, ap, sym, subst, ◌∙◌, append-nil}
use Rattle.std.proofs.lemmas.List.{append_assoc}
use Rattle.card_files.specs.Views.{ImageData}
use Rattle.card_state.specs.Decisions.{Decided}
use Rattle.dialogue_laws.specs.Cards.{Now, powered_with, says, goes}
use Rattle.dialogue_laws.specs.UncutPurchase.{IsToldSo, begins, card as told_card, host as told_host, IsDecided, IsLinked}
use Rattle.emv_dict.specs.declared.ending.Ending.{Ending}
use Rattle.emv_dict.specs.declared.purchase.Logged.{Logged}
use Rattle.kernel.specs.StepsInTurn.{Standing}
use Rattle.kernel.specs.Dialogue.{dialogue}
use Rattle.kernel.specs.Reply.{Reply, CardSaid, from_host, Deed, ToCard, ToHost, Over}
use Rattle.terminal_state.specs.StepResults.{StepResult}
use Rattle.terminal_state.specs.Terminal.{Outset}

-- the rest of a dialogue over the replies to come ends with a decision
pub data Ends (image : ImageData) : Now → (List Reply → Standing StepResult) → Type 0 where
  over : {now : Now} {start : List Reply → Standing StepResult} (ending : Ending) → (start []).deed ≡ Over ending → IsDecided ending → Ends image now start
  asks : {now : Now} {start : List Reply → Standing StepResult} (command : List ℕ) → (start []).deed ≡ ToCard command →
      ((log : List Logged) → Ends image (goes image now command) (λ later. start (CardSaid (says image now command) log ∷ later))) →
      Ends image now start
  sends : {now : Now} {start : List Reply → Standing StepResult} (message : List ℕ) → (start []).deed ≡ ToHost message →
      ((reply : Option (List ℕ)) → IsLinked reply → Ends image now (λ later. start (from_host reply ∷ later))) →
      Ends image now start

-- so does any other that makes the same of all replies
pub ends_as : {image : ImageData} {now : Now} {start other : List Reply → Standing StepResult} → ((later : List Reply) → start later ≡ other later)
    → Ends image now start → Ends image now other
ends_as {image} {now} {start} {other} same (over ending is decided) =
    over ending (sym (ap (λ (s : Standing StepResult). s.deed) (same [])) ∙ is) decided
ends_as {image} {now} {start} {other} same (asks command is next) =
    asks command (sym (ap (λ (s : Standing StepResult). s.deed) (same [])) ∙ is)
    (λ log. ends_as (λ later. same (CardSaid (says image now command) log ∷ later)) (next log))
ends_as {image} {now} {start} {other} same (sends message is next) =
    sends message (sym (ap (λ (s : Standing StepResult). s.deed) (same [])) ∙ is)
    (λ reply linked. ends_as (λ later. same (from_host reply ∷ later)) (next reply linked))

command_in : Deed → List ℕ
command_in (ToCard command) = command
command_in (ToHost message) = []
command_in (Over ending) = []

-- what is left behind these replies
abbrev left : Outset → List Reply → List Reply → Standing StepResult
left outset replies later = dialogue outset (replies ++ later)

at_front : (outset : Outset) (replies : List Reply) → (dialogue outset (replies ++ [])).deed ≡ (dialogue outset replies).deed
at_front outset replies = ap (λ (rs : List Reply). (dialogue outset rs).deed) (append-nil replies)

behind : (outset : Outset) (replies : List Reply) (reply : Reply) (later : List Reply) → left outset replies (reply ∷ later) ≡ left outset (replies ++ reply ∷ []) later
behind outset replies reply later = ap (dialogue outset) (sym (append_assoc replies (reply ∷ []) later))

module _ {image : ImageData} (outset : Outset) where
  answered : {now : Now} (replies : List Reply) (command : List ℕ) (log : List Logged) → Ends image now (left outset replies) → (dialogue outset replies).deed ≡ ToCard command
      → Ends image (goes image now command) (left outset (replies ++ CardSaid (says image now command) log ∷ []))
  unfolding command_in
  answered {now} replies command log (over ending is decided) wanted = absurd (cc (sym is ∙ at_front outset replies ∙ wanted))
  answered {now} replies command log (asks other is next) wanted =
      let same : other ≡ command = ap command_in (sym is ∙ at_front outset replies ∙ wanted) in
      ends_as (behind outset replies (CardSaid (says image now command) log))
      (subst (λ (c : List ℕ). Ends image (goes image now c) (λ later. left outset replies (CardSaid (says image now c) log ∷ later))) same (next log))
  answered {now} replies command log (sends message is next) wanted = absurd (cc (sym is ∙ at_front outset replies ∙ wanted))

  replied : {now : Now} (replies : List Reply) (message : List ℕ) (reply : Option (List ℕ)) → Ends image now (left outset replies) → (dialogue outset replies).deed ≡ ToHost message
      → IsLinked reply → Ends image now (left outset (replies ++ from_host reply ∷ []))
  replied {now} replies message reply (over ending is decided) wanted linked = absurd (cc (sym is ∙ at_front outset replies ∙ wanted))
  replied {now} replies message reply (asks command is next) wanted linked = absurd (cc (sym is ∙ at_front outset replies ∙ wanted))
  replied {now} replies message reply (sends other is next) wanted linked = ends_as (behind outset replies (from_host reply)) (next reply linked)

  -- whatever a terminal was told, the rest ends so, where the whole dialogue does
  pub every : {found : List Decided} {now : Now} {replies : List Reply} → Ends image (powered_with found) (dialogue outset) → IsToldSo image outset found now replies
      → Ends image now (left outset replies)
  every ends begins = ends
  every ends (told_card {now} {replies} {command} log told wanted) = answered replies command log (every ends told) wanted
  every ends (told_host {now} {replies} {message} reply told wanted linked) = replied replies message reply (every ends told) wanted linked

  pub decided_at : {now : Now} (replies : List Reply) (ending : Ending) → Ends image now (left outset replies) → (dialogue outset replies).deed ≡ Over ending → IsDecided ending
  decided_at replies ending (over other is decided) ended =
      let same : Over other ≡ Over ending = sym is ∙ at_front outset replies ∙ ended in subst IsDecided (cc same) decided
  decided_at replies ending (asks command is next) ended = absurd (cc (sym is ∙ at_front outset replies ∙ ended))
  decided_at replies ending (sends message is next) ended = absurd (cc (sym is ∙ at_front outset replies ∙ ended))
