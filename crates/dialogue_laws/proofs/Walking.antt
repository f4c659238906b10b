-- A way through the whole dialogue: what holds of each place at which a step may stand, holds of the dialogue.
use Rattle.std.proofs.Common.{◌≡◌, refl, ℕ, Bool, false, List, [], ◌∷◌, Option, Some, None}
use Rattle.app_select.specs.Candidates.{CandidateData}
use Rattle.app_select.specs.Selecting.{SelectedData}
use Rattle.dialogue_laws.proofs.Giving.{Gives, gives_any}
use Rattle.emv_dict.specs.Progress.{Progress, Wants, Stopped, Done}
use Rattle.emv_dict.specs.declared.ending.Ending.{Ending}
use Rattle.emv_dict.specs.declared.ending.Ending.TheVariants.{Terminated, CutOff}
use Rattle.emv_dict.specs.declared.ending.Step.{Step}
use Rattle.emv_dict.specs.declared.ending.Step.TheVariants as step
use Rattle.emv_dict.specs.declared.purchase.AidRow.{AidRow}
use Rattle.emv_dict.specs.declared.purchase.Logged.{Logged}
use Rattle.kernel.specs.StepsInTurn.{Standing, Rest, stands, then_step, card_step, cut_off}
use Rattle.kernel.specs.Dialogue.{restrictions, read, granted, initiation, initiation_or, candidates_left, dialogue}
use Rattle.kernel.specs.Laws.{is_approved_ending}
use Rattle.kernel.specs.Reply.{Reply, CardSaid, CardGone, HostSaid, HostSilent, Deed, ToCard, ToHost, Over}
use Rattle.object_lists.specs.CardRead.{ReadCard}
use Rattle.read_records.specs.DataRead.{reading}
use Rattle.read_records.specs.Options.{Opened}
use Rattle.terminal_state.specs.StepResults.{StepResult}
use Rattle.terminal_state.specs.Terminal.{Outset}

abbrev pub deed_approves : Deed → Bool
deed_approves (ToCard command) = false
deed_approves (ToHost message) = false
deed_approves (Over ending) = is_approved_ending ending

module _ {A : Type 0} (P : A → Type 0) (left : Step → (List (List ℕ) → Progress A) → Standing StepResult) (step : Step) (steps_done : List StepResult) (next : A → Rest StepResult)
    (Q : Standing StepResult → Type 0) (asks : (command : List ℕ) → Q (stands steps_done (ToCard command)))
    (ends : (ending : Ending) → is_approved_ending ending ≡ false → Q (stands steps_done (Over ending)))
    (leaves : (cut : Step) (course : List (List ℕ) → Progress A) → ((answers : List (List ℕ)) → Gives P (course answers)) → Q (left cut course))
    (keeps : (value : A) → P value → (log : List Logged) (replies : List Reply) → Q (next value log replies)) where
  settled_all : (log : List Logged) (replies : List Reply) (wanted : List ℕ → Standing StepResult) (progress : Progress A) → Gives P progress → ((command : List ℕ) → Q (wanted command))
      → Q (then_step step steps_done next log replies wanted progress)
  settled_all log replies wanted (Wants command) gives wants = wants command
  settled_all log replies wanted (Stopped cause) gives wants = ends (Terminated step cause) refl
  settled_all log replies wanted (Done value rest) gives wants = keeps value gives log replies

  pub card_all : (cut : Step) (course : List (List ℕ) → Progress A) → ((answers : List (List ℕ)) → Gives P (course answers)) → (log : List Logged) (replies : List Reply)
      → Q (card_step left cut step steps_done course next log replies)
  unfolding card_step
  card_all cut course gives log [] = settled_all log [] _ (course []) (gives []) asks
  card_all cut course gives log (CardSaid answer now ∷ replies) =
      settled_all log (CardSaid answer now ∷ replies) _ (course []) (gives [])
      (λ command. card_all step (λ later. course (answer ∷ later)) (λ later. gives (answer ∷ later)) now replies)
  card_all cut course gives log (CardGone ∷ replies) = settled_all log (CardGone ∷ replies) _ (course []) (gives []) (λ command. leaves cut course gives)
  card_all cut course gives log (HostSaid said ∷ replies) = settled_all log (HostSaid said ∷ replies) _ (course []) (gives []) asks
  card_all cut course gives log (HostSilent ∷ replies) = settled_all log (HostSilent ∷ replies) _ (course []) (gives []) asks

-- what holds before the card is read, and from there on, holds of each dialogue
module _ (outset : Outset) (R : ReadCard → Type 0) (reads_so : (start : Opened) (answers : List (List ℕ)) → Gives R (reading start answers)) (Q : Standing StepResult → Type 0)
    (at_first : (deed : Deed) → deed_approves deed ≡ false → Q (stands [] deed))
    (reads : (row : AidRow) (card : ReadCard) → R card → (log : List Logged) (replies : List Reply) → Q (restrictions (record { outset = outset; row = row; card = card }) log replies)) where
  opening_all : {A : Type 0} (P : A → Type 0) (at cut : Step) (course : List (List ℕ) → Progress A) (next : A → Rest StepResult) → ((answers : List (List ℕ)) → Gives P (course answers))
      → ((value : A) → P value → (log : List Logged) (replies : List Reply) → Q (next value log replies))
      → (log : List Logged) (replies : List Reply) → Q (card_step (cut_off []) cut at [] course next log replies)
  opening_all P at cut course next gives keeps log replies =
      card_all P (cut_off []) at [] next Q
      (λ command. at_first (ToCard command) refl)
      (λ ending plain. at_first (Over ending) plain)
      (λ cut course gives. at_first (Over (CutOff cut)) refl)
      keeps cut course gives log replies

  -- a step of which nothing more is said
  any_all : {A : Type 0} (at cut : Step) (course : List (List ℕ) → Progress A) (next : A → Rest StepResult) → ((value : A) (log : List Logged) (replies : List Reply) → Q (next value log replies))
      → (log : List Logged) (replies : List Reply) → Q (card_step (cut_off []) cut at [] course next log replies)
  any_all {A = A} at cut course next keeps log replies =
      let any : A → Type 0 = λ value. Unit {0} in
      opening_all any at cut course next (λ answers. gives_any any (λ value. tt) (course answers)) (λ value is. keeps value) log replies

  read_all : (row : AidRow) (at : Opened) (log : List Logged) (replies : List Reply) → Q (read outset row at log replies)
  unfolding read
  read_all row at log replies =
      opening_all R step.Read step.Read (reading at) (λ card. restrictions (record { outset = outset; row = row; card = card })) (reads_so at) (reads row) log replies

  granted_all : (row : AidRow) (others : Rest StepResult) → ((log : List Logged) (replies : List Reply) → Q (others log replies)) → (at : Option Opened) (log : List Logged) (replies : List Reply)
      → Q (granted outset row others at log replies)
  granted_all row others holds None = holds
  granted_all row others holds (Some at) = read_all row at

  initiation_all : (selected : SelectedData) (others : Rest StepResult) → ((log : List Logged) (replies : List Reply) → Q (others log replies)) → (log : List Logged) (replies : List Reply)
      → Q (initiation outset selected others log replies)
  unfolding initiation
  initiation_all selected others holds log replies = any_all step.Initiate step.Initiate _ (granted outset selected.row others) (granted_all selected.row others holds) log replies

  opened_all : (others : Rest StepResult) → ((log : List Logged) (replies : List Reply) → Q (others log replies)) → (selected : Option SelectedData) (log : List Logged) (replies : List Reply)
      → Q (initiation_or outset others selected log replies)
  opened_all others holds None = holds
  opened_all others holds (Some selected) = initiation_all selected others holds

  candidates_all : (candidates : List CandidateData) (log : List Logged) (replies : List Reply) → Q (candidates_left outset candidates log replies)
  unfolding candidates_left
  candidates_all [] log replies = at_first _ refl
  candidates_all (candidate ∷ left) log replies =
      any_all step.Select step.Select _ (initiation_or outset (candidates_left outset left)) (opened_all (candidates_left outset left) (candidates_all left)) log replies

  pub dialogue_all : (replies : List Reply) → Q (dialogue outset replies)
  unfolding dialogue
  dialogue_all replies =
      any_all step.Select step.Power _ (λ selected. initiation outset selected (candidates_left outset selected.left))
      (λ selected. initiation_all selected (candidates_left outset selected.left) (candidates_all selected.left)) [] replies
