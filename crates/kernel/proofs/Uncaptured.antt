-- With the reply that finishes reading nothing is captured: no cryptogram was asked for yet, and no message made.
use Rattle.std.proofs.Common.{◌≡◌, ℕ, false, true, List, [], ◌∷◌, ◌++◌, Option, Some, None, refl, sym, ap, ◌∙◌}
use Rattle.std.specs.Prelude.{is_some}
use Rattle.std.proofs.lemmas.Option.{same_Some}
use Rattle.app_select.specs.Candidates.{CandidateData}
use Rattle.app_select.specs.Selecting.{SelectedData}
use Rattle.emv_dict.specs.Progress.{Progress, Wants, Stopped, Done}
use Rattle.emv_dict.specs.declared.ending.Ending.{Ending}
use Rattle.emv_dict.specs.declared.ending.Ending.TheVariants.{Approved, Declined, Terminated, CutOff}
use Rattle.emv_dict.specs.declared.ending.Kind.{Kind}
use Rattle.emv_dict.specs.declared.ending.Step.{Step}
use Rattle.emv_dict.specs.declared.ending.Step.TheVariants as step
use Rattle.emv_dict.specs.declared.judged.Judged.{Judged}
use Rattle.emv_dict.specs.declared.purchase.AidRow.{AidRow}
use Rattle.emv_dict.specs.declared.purchase.Logged.{Logged}
use Rattle.emv_dict.specs.declared.verified.Verified.{Verified}
use Rattle.kernel.proofs.Growing.{verification_behind}
use Rattle.kernel.proofs.Telling.{deed_approves}
use Rattle.kernel.specs.StepsInTurn.{Standing, Rest, stands, then_step, card_step, cut_off}
use Rattle.kernel.specs.Dialogue.{TransactionData, objects_at, first_then, first, kind_wanted, analysis, judged_then, risk, verified_then, verification, restrictions, read_then, read, granted, initiation, initiation_or, candidates_left, selected_then, dialogue}
use Rattle.kernel.specs.Ended.{EndData, reversal, capture, end_with, end_by, end_of}
use Rattle.kernel.specs.Laws.{CapturesNothing, ReadingCapturesNothing}
use Rattle.kernel.specs.Reply.{Reply, CardSaid, CardGone, HostSaid, HostSilent, Deed, ToCard, ToHost, Over}
use Rattle.object_lists.specs.CardRead.{ReadCard}
use Rattle.online_step.specs.Generate.{generated, list_data}
use Rattle.online_step.specs.declared.ac.GenerateAc.TheVariants as generate
use Rattle.pse_directory.specs.Directory.{selecting_by}
use Rattle.read_records.specs.Options.{Opened}
use Rattle.risk_mgmt.specs.Risky.{risky}
use Rattle.terminal_state.specs.StepResults.{StepResult, StateSoFarData, HasRead, HasRestricted, HasVerified, HasJudged, HasAnalysed, HasFirst, HasReply, WasUnable, HasAuthenticated, HasRunBefore, HasSecond, HasRunBehind, analysed_by, state_so_far, latest, open_of, sets_card}
use Rattle.terminal_state.specs.Terminal.{Outset}

-- it is no approval, and no request was made that may have been one
record IsQuiet (s : Standing StepResult) : Type 0 where
  pub plain : deed_approves s.deed ≡ false
  pub closed : latest open_of false s.steps_done ≡ false

abbrev IsUnread : Standing StepResult → Type 0
IsUnread s = latest sets_card None s.steps_done ≡ None

abbrev Starts : Rest StepResult → Type 0
Starts rest = (log : List Logged) → IsQuiet (rest log [])

-- so a rest of a dialogue is at its beginning, and with each reply behind which the card wasn't read before
abbrev Quiets : Rest StepResult → Type 0
Quiets rest =
    Starts rest
    × ((log : List Logged) (replies : List Reply) (reply : Reply) → IsUnread (rest log replies) → IsQuiet (rest log (replies ++ reply ∷ [])))

-- a step begins so
module _ {A : Type 0} (step : Step) (steps_done : List StepResult) (closed : latest open_of false steps_done ≡ false) (next : A → Rest StepResult) (starts : (value : A) → Starts (next value)) where
  start_by : (log : List Logged) (progress : Progress A) → IsQuiet (then_step step steps_done next log [] (λ command. stands steps_done (ToCard command)) progress)
  start_by log (Wants command) = record { plain = refl; closed = closed }
  start_by log (Stopped cause) = record { plain = refl; closed = closed }
  start_by log (Done value rest) = starts value log

  step_starts : (cut : Step) (course : List (List ℕ) → Progress A) → Starts (card_step (cut_off steps_done) cut step steps_done course next)
  unfolding card_step
  step_starts cut course log = start_by log (course [])

-- and, before the card is read, goes on so
module _ {A : Type 0} (step : Step) (next : A → Rest StepResult) (quiets : (value : A) → Quiets (next value)) where
  turn_by : (log : List Logged) (replies : List Reply) (reply : Reply) (wanted other : List ℕ → Standing StepResult) (progress : Progress A)
      → ((command : List ℕ) → IsUnread (wanted command) → IsQuiet (other command)) → IsUnread (then_step step [] next log replies wanted progress)
      → IsQuiet (then_step step [] next log (replies ++ reply ∷ []) other progress)
  turn_by log replies reply wanted other (Wants command) wants unread = wants command unread
  turn_by log replies reply wanted other (Stopped cause) wants unread = record { plain = refl; closed = refl }
  turn_by log replies reply wanted other (Done value rest) wants unread = (quiets value).1 log replies reply unread

  step_turns : (cut : Step) (course : List (List ℕ) → Progress A) (log : List Logged) (replies : List Reply) (reply : Reply)
      → IsUnread (card_step (cut_off []) cut step [] course next log replies) → IsQuiet (card_step (cut_off []) cut step [] course next log (replies ++ reply ∷ []))
  unfolding card_step
  step_turns cut course log [] (CardSaid answer now) =
      turn_by log [] (CardSaid answer now) _ _ (course [])
      (λ command unread. step_starts step [] refl next (λ value. (quiets value).0) step (λ later. course (answer ∷ later)) now)
  step_turns cut course log [] CardGone = turn_by log [] CardGone _ _ (course []) (λ command unread. record { plain = refl; closed = refl })
  step_turns cut course log [] (HostSaid said) = turn_by log [] (HostSaid said) _ _ (course []) (λ command unread. record { plain = refl; closed = refl })
  step_turns cut course log [] HostSilent = turn_by log [] HostSilent _ _ (course []) (λ command unread. record { plain = refl; closed = refl })
  step_turns cut course log (CardSaid answer now ∷ replies) reply =
      turn_by log (CardSaid answer now ∷ replies) reply _ _ (course [])
      (λ command unread. step_turns step (λ later. course (answer ∷ later)) now replies reply unread)
  step_turns cut course log (CardGone ∷ replies) reply =
      turn_by log (CardGone ∷ replies) reply _ _ (course []) (λ command unread. record { plain = refl; closed = refl })
  step_turns cut course log (HostSaid said ∷ replies) reply =
      turn_by log (HostSaid said ∷ replies) reply _ _ (course []) (λ command unread. record { plain = refl; closed = refl })
  step_turns cut course log (HostSilent ∷ replies) reply =
      turn_by log (HostSilent ∷ replies) reply _ _ (course []) (λ command unread. record { plain = refl; closed = refl })

  step_quiets : (cut : Step) (course : List (List ℕ) → Progress A) → Quiets (card_step (cut_off []) cut step [] course next)
  step_quiets cut course = (step_starts step [] refl next (λ value. (quiets value).0) cut course, step_turns cut course)

-- behind reading the terminal asks before it decides: the first GENERATE AC gives nothing without an answer
module _ (transaction : TransactionData) where
  first_starts : (asked : Kind) (steps_done : List StepResult) → latest open_of false steps_done ≡ false → Starts (first transaction asked steps_done)
  unfolding first card_step
  first_starts asked steps_done closed log = by (list_data 0x8C transaction.card (objects_at transaction steps_done))
    where
      by : (o : Option (List ℕ))
          → IsQuiet (then_step step.First steps_done (first_then transaction steps_done) log [] (λ command. stands steps_done (ToCard command)) (generated 0x8C asked generate.First o []))
      by None = record { plain = refl; closed = closed }
      by (Some given) = record { plain = refl; closed = closed }

  analysis_starts : (steps_done : List StepResult) → latest open_of false steps_done ≡ false → Starts (analysis transaction steps_done)
  unfolding analysis
  analysis_starts steps_done closed = first_starts (kind_wanted transaction steps_done) (HasAnalysed (analysed_by transaction.row (kind_wanted transaction steps_done)) ∷ steps_done) closed

  risk_starts : (steps_done : List StepResult) → latest open_of false steps_done ≡ false → Starts (risk transaction steps_done)
  unfolding risk
  risk_starts steps_done closed log =
      step_starts step.Risk steps_done closed (judged_then transaction steps_done) (λ (judged : Judged). analysis_starts (HasJudged judged ∷ steps_done) closed) step.Risk
      (risky transaction.card transaction.outset.settings transaction.row transaction.outset.purchase log) log

  verification_starts : (steps_done : List StepResult) → latest open_of false steps_done ≡ false → Starts (verification transaction steps_done)
  unfolding verification
  verification_starts steps_done closed =
      step_starts step.Verify steps_done closed (verified_then transaction steps_done) (λ (verified : Verified). risk_starts (HasVerified verified ∷ steps_done) closed) step.Verify _

  restrictions_starts : Starts (restrictions transaction)
  unfolding restrictions
  restrictions_starts = verification_starts _ refl

-- once the card is read it stays read
card_stays : (later steps_done : List StepResult) → is_some (latest sets_card None steps_done) ≡ true → is_some (latest sets_card None (later ++ steps_done)) ≡ true
card_stays [] steps_done there = there
card_stays (HasRead card ∷ later) steps_done there = refl
card_stays (HasRestricted bits ∷ later) steps_done there = card_stays later steps_done there
card_stays (HasVerified verified ∷ later) steps_done there = card_stays later steps_done there
card_stays (HasJudged judged ∷ later) steps_done there = card_stays later steps_done there
card_stays (HasAnalysed analysed ∷ later) steps_done there = card_stays later steps_done there
card_stays (HasFirst ac ∷ later) steps_done there = card_stays later steps_done there
card_stays (HasReply reply ∷ later) steps_done there = card_stays later steps_done there
card_stays (WasUnable request wanted ∷ later) steps_done there = card_stays later steps_done there
card_stays (HasAuthenticated good ∷ later) steps_done there = card_stays later steps_done there
card_stays (HasRunBefore result ∷ later) steps_done there = card_stays later steps_done there
card_stays (HasSecond ac ∷ later) steps_done there = card_stays later steps_done there
card_stays (HasRunBehind result ∷ later) steps_done there = card_stays later steps_done there

restrictions_read : (transaction : TransactionData) (log : List Logged) (replies : List Reply) → IsUnread (restrictions transaction log replies) → ⊥
unfolding restrictions
restrictions_read transaction log replies unread =
    let found = verification_behind transaction _ log replies in
    let there : is_some (latest sets_card None (restrictions transaction log replies).steps_done) ≡ true =
    ap (λ (steps_done : List StepResult). is_some (latest sets_card None steps_done)) found.1 ∙ card_stays found.0 _ refl in
    let none : is_some (latest sets_card None (restrictions transaction log replies).steps_done) ≡ false = ap is_some unread in cc

restrictions_quiet : (transaction : TransactionData) → Quiets (restrictions transaction)
restrictions_quiet transaction = (restrictions_starts transaction, λ log replies reply unread. absurd (restrictions_read transaction log replies unread))

-- and so is each step up to there
module _ (outset : Outset) where
  over_quiet : (ending : Ending) → deed_approves (Over ending) ≡ false → Quiets (λ log replies. stands [] (Over ending))
  over_quiet ending plain =
      (λ log. record { plain = plain; closed = refl }, λ log replies reply unread. record { plain = plain; closed = refl })

  read_quiet : (row : AidRow) (at : Opened) → Quiets (read outset row at)
  unfolding read
  read_quiet row at =
      step_quiets step.Read (read_then outset row) (λ (card : ReadCard). restrictions_quiet (record { outset = outset; row = row; card = card })) step.Read _

  granted_quiet : (row : AidRow) (others : Rest StepResult) → Quiets others → (at : Option Opened) → Quiets (granted outset row others at)
  granted_quiet row others quiet None = quiet
  granted_quiet row others quiet (Some at) = read_quiet row at

  initiation_quiet : (selected : SelectedData) (others : Rest StepResult) → Quiets others → Quiets (initiation outset selected others)
  unfolding initiation
  initiation_quiet selected others quiet =
      step_quiets step.Initiate (granted outset selected.row others) (granted_quiet selected.row others quiet) step.Initiate _

  opened_quiet : (others : Rest StepResult) → Quiets others → (selected : Option SelectedData) → Quiets (initiation_or outset others selected)
  opened_quiet others quiet None = quiet
  opened_quiet others quiet (Some selected) = initiation_quiet selected others quiet

  candidates_quiet : (candidates : List CandidateData) → Quiets (candidates_left outset candidates)
  unfolding candidates_left
  candidates_quiet [] = over_quiet _ refl
  candidates_quiet (candidate ∷ left) =
      step_quiets step.Select (initiation_or outset (candidates_left outset left)) (opened_quiet (candidates_left outset left) (candidates_quiet left)) step.Select _

  dialogue_quiet : Quiets (card_step (cut_off []) step.Power step.Select [] (selecting_by outset.settings.pse outset.settings.aids outset.purchase.confirm) (selected_then outset))
  dialogue_quiet =
      step_quiets step.Select (selected_then outset)
      (λ selected. initiation_quiet selected (candidates_left outset selected.left) (candidates_quiet selected.left)) step.Power _

  -- so nothing is captured there
  none_reversed : (card : ReadCard) (m : StateSoFarData) → m.is_open ≡ false → reversal outset card m ≡ None
  unfolding reversal
  none_reversed card m closed = rw closed refl

  none_captured : (ending : Ending) (card : Option ReadCard) (m : StateSoFarData) → deed_approves (Over ending) ≡ false → m.is_open ≡ false
      → capture outset ending card m ≡ None
  none_captured ending None m plain closed = refl
  none_captured (Approved online) (Some card) m plain closed = absurd (cc plain)
  none_captured (Declined online) (Some card) m plain closed = none_reversed card m closed
  none_captured (Terminated at cause) (Some card) m plain closed = none_reversed card m closed
  none_captured (CutOff at) (Some card) m plain closed = none_reversed card m closed

  quiet_captures : (s : Standing StepResult) → IsQuiet s → (end : EndData) → end_of outset s ≡ Some end → end.capture ≡ None
  quiet_captures s quiet end is = by s.deed quiet.plain is
    where
      by : (deed : Deed) → deed_approves deed ≡ false → end_by outset s.steps_done deed ≡ Some end → end.capture ≡ None
      by (ToCard command) plain is = absurd (cc is)
      by (ToHost message) plain is = absurd (cc is)
      by (Over ending) plain is =
          let same : end_with outset ending (latest sets_card None s.steps_done) (state_so_far s.steps_done) ≡ end = same_Some _ _ is in
          ap (λ (e : EndData). e.capture) (sym same) ∙ none_captured ending (latest sets_card None s.steps_done) (state_so_far s.steps_done) plain quiet.closed

first_captures : (outset : Outset) → CapturesNothing outset []
unfolding dialogue
first_captures outset end is = quiet_captures outset (dialogue outset []) ((dialogue_quiet outset).0 []) end is

read_captures : (outset : Outset) (replies : List Reply) (reply : Reply) → latest sets_card None (dialogue outset replies).steps_done ≡ None
    → CapturesNothing outset (replies ++ reply ∷ [])
unfolding dialogue
read_captures outset replies reply unread end is =
    quiet_captures outset (dialogue outset (replies ++ reply ∷ [])) ((dialogue_quiet outset).1 [] replies reply unread) end is

pub reading_captures_nothing : ReadingCapturesNothing
reading_captures_nothing = record { first = first_captures; read = read_captures }
