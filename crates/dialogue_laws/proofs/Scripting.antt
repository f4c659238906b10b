-- Whatever a card answers to scripts and to EXTERNAL AUTHENTICATE, the terminal goes on.
use Rattle.std.proofs.Common.{◌≡◌, ℕ, ◌+◌, ◌==◌, not, Bool, true, false, if◌then◌else◌, IsTrue, IfSome, List, [], ◌∷◌, length, slice_get, Option, Some, None, is_some, refl, ap, sym, subst, arith}
use Rattle.std.specs.Prelude.{⊤}
use Rattle.std.specs.List.{All}
use Rattle.std.proofs.lemmas.List.Elements.{All-head, All-tail, All-weaker}
use Rattle.apdu_core.specs.Command.{CommandData, command_of, command_bytes}
use Rattle.card_app.specs.Answering.{instruction_answer, instruction_row}
use Rattle.card_app.specs.Cryptograms.{authenticate_row, authenticate_in, authenticate_for, judged}
use Rattle.card_app.specs.Replies.{with_both}
use Rattle.card_cryptogram.specs.Asked.{has_issuer_auth}
use Rattle.card_cryptogram.specs.Authentication.{authentication, is_authenticated, is_authentication_size}
use Rattle.card_cryptogram.specs.declared.phase.First.{First}
use Rattle.card_cryptogram.specs.declared.phase.Phase.{Phase}
use Rattle.card_cryptogram.specs.declared.phase.Phase.TheVariants.{Idle, Directory, Selected, Started, Online, Closed, Done as IsDone}
use Rattle.card_files.specs.Views.{AppData, ImageData}
use Rattle.card_app.specs.PageReplies.{CardReplyData, refused}
use Rattle.card_state.specs.declared.state.AppState.{AppState}
use Rattle.card_state.specs.declared.state.CardState.{CardState}
use Rattle.emv_dict.specs.Progress.{Progress, Done}
use Rattle.online_step.specs.Authenticate.{authenticate_command, authentication_step, authentication_verdict}
use Rattle.script_run.specs.Ran.{all_went_on, failed_at, no_script, goes_on, command_then, ran, script_ran, template_ran}
use Rattle.script_run.specs.Script.{ReadScript, script_of}
use Rattle.dialogue_laws.specs.Cards.{Now, says, goes}
use Rattle.dialogue_laws.specs.UncutPurchase.{moves_on, IsPlain, IsPlainScript}
use Rattle.dialogue_laws.proofs.Answers.{state_at, answers, command_again}
use Rattle.dialogue_laws.proofs.Runs.{Runs, done, asks}
use Rattle.dialogue_laws.proofs.Standing.{IsOnline, stays_online}

-- a command keeps this of the card
abbrev Stays : ImageData → (Now → Type 0) → List ℕ → Type 0
Stays image Keeps command = (at : Now) → Keeps at → Keeps (goes image at command)

module _ {image : ImageData} {Keeps : Now → Type 0} where
  command_runs : (command failed : List ℕ) (next : List (List ℕ) → Progress (List ℕ)) (now : Now) → Stays image Keeps command → Keeps now
      → ((at : Now) → Keeps at → Runs image (λ at result. Keeps at) at next) → (sent : Bool)
      → Runs image (λ at result. Keeps at) now (λ answers. if sent then command_then command failed next answers else Done failed answers)
  command_runs command failed next now stays keeps runs false = done failed (λ later. refl) keeps
  command_runs command failed next now stays keeps runs true = asks command refl (by (goes_on (says image now command)))
    where
      by : (good : Bool) → Runs image (λ at result. Keeps at) (goes image now command) (λ later. if good then next later else Done failed later)
      by true = runs (goes image now command) (stays now keeps)
      by false = done failed (λ later. refl) (stays now keeps)

  commands_run : (identifier : List ℕ) (number : ℕ) (commands : List (List ℕ)) (now : Now) → All (Stays image Keeps) commands → Keeps now
      → Runs image (λ at result. Keeps at) now (ran identifier number commands)
  unfolding ran
  commands_run identifier number [] now stay keeps = done (all_went_on identifier) (λ later. refl) keeps
  commands_run identifier number (command ∷ commands) now stay keeps =
      command_runs command (failed_at identifier number) (ran identifier (number + 1) commands) now (All-head (Stays image Keeps) command commands stay) keeps
      (λ at kept. commands_run identifier (number + 1) commands at (All-tail (Stays image Keeps) command commands stay) kept) (is_some (command_of command))

  script_runs : (script : Option ReadScript) (now : Now) → IfSome script (λ s. All (Stays image Keeps) s.commands) → Keeps now → Runs image (λ at result. Keeps at) now (script_ran script)
  script_runs None now stay keeps = done no_script (λ later. refl) keeps
  script_runs (Some script) now stay keeps = commands_run script.identifier 1 script.commands now stay keeps

some_weaker : (script : Option ReadScript) (P Q : List ℕ → Type 0) → ((command : List ℕ) → P command → Q command) → IfSome script (λ s. All P s.commands) → IfSome script (λ s. All Q s.commands)
some_weaker None P Q so all = tt
some_weaker (Some script) P Q so all = All-weaker P Q so script.commands all

-- a plain script leaves the second cryptogram to come
pub plain_runs : (image : ImageData) (app : ℕ) (now : Now) (template : List ℕ) → IsPlainScript template → IsOnline image app now
    → Runs image (λ at result. IsOnline image app at) now (template_ran template)
plain_runs image app now template plain online =
    script_runs {image = image} {Keeps = IsOnline image app} (script_of template) now
    (some_weaker (script_of template) IsPlain (Stays image (IsOnline image app)) (λ command is. λ at kept. stays_online image app at command is kept) plain) online

any_stay : (image : ImageData) (script : Option ReadScript) → IfSome script (λ s. All (Stays image (λ at. ⊤)) s.commands)
any_stay image None = tt
any_stay image (Some script) = λ k d within. λ at kept. tt

-- any script comes to a result
pub any_runs : (image : ImageData) (now : Now) (template : List ℕ) → Runs image (λ at result. ⊤) now (template_ran template)
any_runs image now template = script_runs {image = image} {Keeps = λ at. ⊤} (script_of template) now (any_stay image (script_of template)) tt

-- EXTERNAL AUTHENTICATE with these data
abbrev pub authenticating : List ℕ → CommandData
authenticating value = record { class = 0; ins = 0x82; p1 = 0; p2 = 0; body = value; expects = None }

alone_for : (app : ℕ) (first : First) (value : List ℕ) (a : AppData) (s : AppState) → (authenticate_for app first value a s).body ≡ []
unfolding authenticate_for
alone_for app first value a s = by (not (has_issuer_auth a.aip)) (not (is_authentication_size (length value)))
  where
    by : (without wrong : Bool)
        → (if without then refused 0x6985 else if wrong then refused 0x6700 else judged app a (authentication a.ac_key s.counter first.cryptogram value)).body ≡ []
    by true wrong = refl
    by false true = refl
    by false false = refl

alone_both : (app : ℕ) (first : First) (value : List ℕ) (own : Option AppData) (state : Option AppState) → (with_both own state (authenticate_for app first value)).body ≡ []
alone_both app first value None state = refl
alone_both app first value (Some a) None = refl
alone_both app first value (Some a) (Some s) = alone_for app first value a s

alone_in : (image : ImageData) (state : CardState) (phase : Phase) (value : List ℕ) → (authenticate_in image state phase value).body ≡ []
alone_in image state Idle value = refl
alone_in image state Directory value = refl
alone_in image state (Selected app) value = refl
alone_in image state (Started app) value = refl
alone_in image state (Online app first None) value = alone_both app first value (slice_get image.apps app) (slice_get state.apps.items app)
alone_in image state (Online app first (Some auth)) value = refl
alone_in image state (Closed app) value = refl
alone_in image state (IsDone app first) value = refl

-- the answer is a status alone
status_alone : (image : ImageData) (state : CardState) (phase : Phase) (value : List ℕ) → (instruction_answer image state phase (authenticating value)).body ≡ []
unfolding instruction_row authenticate_row
status_alone image state phase value = alone_in image state phase value

-- EXTERNAL AUTHENTICATE is answered, and the second cryptogram is to come
pub authenticate_runs : (image : ImageData) (app : ℕ) (now : Now) (value : List ℕ) → IsOnline image app now → Runs image (λ at good. IsOnline image app at) now (authentication_step value)
unfolding authenticate_command authentication_verdict
authenticate_runs image app now value at =
    let c = authenticating value in
    let phase = Online app at.first at.sent in
    let reply : CardReplyData = instruction_answer image (state_at image now) phase c in
    let empty : reply.body ≡ [] = status_alone image (state_at image now) phase value in
    let said = answers {image = image} {now = now} {command = command_bytes c} {reply = reply} c phase (command_again c) at.is refl (omega (arith, ap length empty)) in
    let plain : IsPlain (command_bytes c) = subst (λ (o : Option CommandData). IfSome o (λ c. IsTrue (not (moves_on c.ins)))) (sym (command_again c)) refl in
    asks (command_bytes c) refl
    (done (reply.status == 0x9000) (λ later. rw said.read refl) (stays_online image app now (command_bytes c) plain at))
