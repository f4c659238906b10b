-- A transaction of a card's application begins only with a decision that raises the application's counter.
-- So two transactions of an application never have one counter.
use Rattle.std.proofs.Common.{◌≡◌, ◌⊎◌, ℕ, ◌+◌, ◌≤◌, Bool, true, false, if◌then◌else◌, List, [], ◌∷◌, ◌++◌, slice_get, Option, Some, None, refl, sym, ap, ◌∙◌, subst, inl, inr}
use Rattle.std.specs.Prelude.{◌==◌}
use Rattle.std.proofs.lemmas.Bool.{eqb-true, and_parts}
use Rattle.std.proofs.lemmas.List.Sums.{fold_push}
use Rattle.std.proofs.lemmas.Option.{same_Some}
use Rattle.apdu_core.specs.Command.{CommandData, command_of}
use Rattle.apdu_core.specs.Response.{ResponseData, response_of}
use Rattle.card_app.specs.Answering.{instruction_answer, answer_in_phase, card_reply, card_answer, row_or_refusal}
use Rattle.card_app.specs.Selection.{app_found, directory_asked}
use Rattle.card_app.specs.Session.{Exchange, gives_fci, phase_selected, started, is_online_asked, begun_of, first_in, directory_selected, with_cryptogram, phase_authenticated, next_phase, after_said, phase_after_exchange, phase_of}
use Rattle.card_cryptogram.specs.Authentication.{told_by}
use Rattle.card_cryptogram.specs.Bodies.{kind_in}
use Rattle.card_cryptogram.specs.Phases.{current}
use Rattle.card_cryptogram.specs.declared.phase.Phase.{Phase}
use Rattle.card_cryptogram.specs.declared.phase.Phase.TheVariants.{Idle, Directory, Selected, Started, Online, Closed, Done}
use Rattle.card_files.specs.Files.{opening_of}
use Rattle.card_files.specs.Views.{AppData, ImageData}
use Rattle.card_app.specs.PageReplies.{CardReplyData}
use Rattle.card_state.specs.Decisions.{Decided}
use Rattle.card_state.specs.Totals.{totals}
use Rattle.card_state.specs.declared.decision.Auth.{Auth}
use Rattle.card_state.specs.declared.decision.Auth.TheVariants.{Absent}
use Rattle.card_state.specs.declared.state.CardState.{CardState}
use Rattle.txn_replay.specs.Changes.{is_good, is_generate, app_counter}
use Rattle.txn_replay.proofs.CardLaws.CardDecisions.{open_app, IsGood, answered_open, started_raises}

-- it had begun, or GET PROCESSING OPTIONS was answered 9000 behind SELECT
pub record Begins (phase : Phase) (c : CommandData) (status app : ℕ) : Type 0 where
  pub ins : c.ins ≡ 0xA8
  pub good : status ≡ 0x9000
  pub selected : phase ≡ Selected app

module _ (image : ImageData) (c : CommandData) (body : List ℕ) (status app : ℕ) where
  abbrev Came : Phase → Phase → Type 0
  Came phase next = open_app next ≡ Some app → (open_app phase ≡ Some app) ⊎ Begins phase c status app

  if_came : (b : Bool) (phase next : Phase) → Came phase next → Came phase (if b then next else phase)
  if_came true phase next came = came
  if_came false phase next came = λ here. inl here

  select_came : (phase : Phase) (o : Option ℕ) → Came phase (phase_selected o phase)
  select_came phase (Some other) = λ here. cc
  select_came phase None = λ here. inl here

  directory_came : (phase : Phase) (o app : Option ℕ) → Came phase (directory_selected o (phase_selected app phase))
  directory_came phase (Some sfi) app = λ here. cc
  directory_came phase None app = select_came phase app

  start_came : (phase : Phase) → c.ins ≡ 0xA8 → status ≡ 0x9000 → Came phase (started phase)
  start_came (Selected other) ins good = λ here. inr (record { ins = ins; good = good; selected = ap (λ n. Selected n) (same_Some other app here) })
  start_came Idle ins good = λ here. inl here
  start_came Directory ins good = λ here. inl here
  start_came (Started other) ins good = λ here. inl here
  start_came (Online other first sent) ins good = λ here. inl here
  start_came (Closed other) ins good = λ here. inl here
  start_came (Done other first) ins good = λ here. inl here

  begun_came : (other : ℕ) (o : Option AppData) → Came (Started other) (begun_of other o c.body body)
  begun_came other None = λ here. inl here
  begun_came other (Some a) = by_kind (is_online_asked (kind_in a.ac_format body))
    where
      by_kind : (b : Bool) → Came (Started other) (if b then Online other (first_in a c.body body) None else Closed other)
      by_kind true = λ here. inl here
      by_kind false = λ here. inl here

  cryptogram_came : (phase : Phase) → Came phase (with_cryptogram image c.body body phase)
  cryptogram_came (Started other) = begun_came other (slice_get image.apps other)
  cryptogram_came (Online other first sent) = λ here. inl here
  cryptogram_came Idle = λ here. inl here
  cryptogram_came Directory = λ here. inl here
  cryptogram_came (Selected other) = λ here. inl here
  cryptogram_came (Closed other) = λ here. inl here
  cryptogram_came (Done other first) = λ here. inl here

  authenticate_came : (auth : Auth) (phase : Phase) → Came phase (phase_authenticated auth phase)
  authenticate_came auth (Online other first sent) = λ here. inl here
  authenticate_came auth Idle = λ here. inl here
  authenticate_came auth Directory = λ here. inl here
  authenticate_came auth (Selected other) = λ here. inl here
  authenticate_came auth (Started other) = λ here. inl here
  authenticate_came auth (Closed other) = λ here. inl here
  authenticate_came auth (Done other first) = λ here. inl here

  two_came : (b : Bool) (phase one two : Phase) → Came phase one → Came phase two → Came phase (if b then one else two)
  two_came true phase one two first second = first
  two_came false phase one two first second = second

  start_if : (b e : Bool) (phase : Phase) → (c.ins == 0xA8) ≡ b → (status == 0x9000) ≡ e
      → (other : Phase) → Came phase other → Came phase (if b then (if e then started phase else phase) else other)
  start_if true true phase ins good other came = start_came phase (eqb-true c.ins 0xA8 ins) (eqb-true status 0x9000 good)
  start_if true false phase ins good other came = λ here. inl here
  start_if false e phase ins good other came = came

  pub next_came : (phase : Phase) → Came phase (next_phase image phase c body status)
  unfolding next_phase
  next_came phase =
      two_came (c.ins == 0xA4) phase _ _
      (if_came (gives_fci status) phase _ (directory_came phase (directory_asked image c.p2 c.body) (app_found image.apps phase c.p2 c.body)))
      (start_if (c.ins == 0xA8) (status == 0x9000) phase refl refl _
      (two_came (c.ins == 0xAE) phase _ _ (if_came (status == 0x9000) phase _ (cryptogram_came phase))
      (two_came (c.ins == 0x82) phase _ _
      (two_came (status == 0x9000) phase _ _ (authenticate_came (told_by c.body) phase) (if_came (status == 0x6300) phase _ (authenticate_came Absent phase)))
      (λ here. inl here))))

module _ (image : ImageData) (ds : List Decided) (session : List Exchange) (command : List ℕ) where
  abbrev phase : Phase
  phase = phase_of image session

  abbrev reply : CardReplyData
  reply = row_or_refusal image (totals (opening_of image) ds) phase (command_of command)

  abbrev said : List ℕ
  said = (card_answer image ds session command).answer

  reply_is : card_reply image ds session command ≡ reply
  unfolding card_reply answer_in_phase
  reply_is = refl

  -- an application whose transaction has begun behind this command, had begun it before, or its counter rises
  pub opens : (app : ℕ) → open_app (phase_of image (session ++ record { command = command; answer = said } ∷ [])) ≡ Some app
      → (open_app phase ≡ Some app) ⊎ (app_counter image ds app + 1 ≤ app_counter image (ds ++ (card_answer image ds session command).new) app)
  unfolding phase_of card_reply answer_in_phase
  opens app here =
      by_command (command_of command) (response_of said) refl refl
      (ap open_app (sym (fold_push (phase_after_exchange image) Idle session (record { command = command; answer = said }))) ∙ here)
    where
      raised : (r : ResponseData) (c : CommandData) → command_of command ≡ Some c → response_of said ≡ Some r → Begins phase c r.status app
          → app_counter image ds app + 1 ≤ app_counter image (ds ++ (card_answer image ds session command).new) app
      raised r c is answered begins =
          let state : CardState = totals (opening_of image) ds in
          let same : instruction_answer image state (Selected app) c ≡ card_reply image ds session command =
          ap (λ (p : Phase). instruction_answer image state p c) (sym begins.selected)
          ∙ ap (λ (o : Option CommandData). row_or_refusal image state phase o) (sym is)
          ∙ sym reply_is in
          let good : IsGood (card_reply image ds session command) = ap is_good answered ∙ ap (λ n. n == 0x9000) begins.good in
          subst (λ (x : CardReplyData). app_counter image ds app + 1 ≤ app_counter image (ds ++ x.new) app) same
          (started_raises image state ds app c begins.ins (subst (λ (x : CardReplyData). IsGood x) (sym same) good))

      by_command : (oc : Option CommandData) (r : Option ResponseData) → command_of command ≡ oc → response_of said ≡ r
          → open_app (after_said image phase oc r) ≡ Some app
          → (open_app phase ≡ Some app) ⊎ (app_counter image ds app + 1 ≤ app_counter image (ds ++ (card_answer image ds session command).new) app)
      by_command None r is answered open_so = inl open_so
      by_command (Some c) None is answered open_so = inl open_so
      by_command (Some c) (Some r) is answered open_so =
          elim (next_came image c r.body r.status app phase open_so) [
            | inl before ↦ inl before
            | inr begins ↦ inr (raised r c is answered begins)
          ]

  -- a GENERATE AC that is answered 9000 is of an application whose transaction has begun
  pub generates_open : is_generate (command_of command) ≡ true → is_good (response_of said) ≡ true
      → (app : ℕ) → current phase ≡ Some app → open_app phase ≡ Some app
  generates_open generate good app here = by_command (command_of command) refl generate
    where
      by_command : (oc : Option CommandData) → command_of command ≡ oc → is_generate oc ≡ true → open_app phase ≡ Some app
      by_command None is generate = cc
      by_command (Some c) is generate =
          let tests = and_parts (c.class == 0x80) (c.ins == 0xAE) generate in
          let same : card_reply image ds session command ≡ instruction_answer image (totals (opening_of image) ds) phase c =
          reply_is ∙ ap (λ (o : Option CommandData). row_or_refusal image (totals (opening_of image) ds) phase o) is in
          answered_open image (totals (opening_of image) ds) phase c (eqb-true c.class 0x80 tests.0) (eqb-true c.ins 0xAE tests.1)
          (subst (λ (x : CardReplyData). IsGood x) same good) app here
