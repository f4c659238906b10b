-- What one reply makes of a dialogue.
use Rattle.std.proofs.Common.{◌≡◌, ◌⊎◌, inl, inr, refl, sym, ap, ◌∙◌, ℕ, Bool, true, false, List, [], ◌∷◌, ◌++◌, drop, Option, Some, None, Result, Ok, Err, if◌then◌else◌}
use Rattle.std.specs.Prelude.{⊤, ◌&&◌, not, is_some, slice_index}
use Rattle.std.specs.List.{list_any}
use Rattle.app_select.specs.Candidates.{CandidateData}
use Rattle.app_select.specs.Selecting.{SelectedData, final}
use Rattle.auth_message.specs.Reply.{ReplyData, reply_of}
use Rattle.auth_message.specs.declared.fault.MessageFault.{MessageFault}
use Rattle.emv_dict.specs.Progress.{Progress, Wants, Stopped, Done}
use Rattle.emv_dict.specs.Views.{AcData}
use Rattle.emv_dict.specs.declared.ending.Ending.{Ending}
use Rattle.emv_dict.specs.declared.ending.Kind.{Kind}
use Rattle.emv_dict.specs.declared.ending.Kind.TheVariants.{Tc, Aac, Arqc}
use Rattle.emv_dict.specs.declared.ending.Step.{Step}
use Rattle.emv_dict.specs.declared.ending.Step.TheVariants as step
use Rattle.emv_dict.specs.declared.judged.Judged.{Judged}
use Rattle.emv_dict.specs.declared.purchase.AidRow.{AidRow}
use Rattle.emv_dict.specs.declared.purchase.Logged.{Logged}
use Rattle.kernel.proofs.Instructions.{select_asks, unfinished, final_asks, initiating_asks, reading_asks}
use Rattle.kernel.proofs.Showing.{next_is_told}
use Rattle.kernel.specs.StepsInTurn.{Standing, Rest, stands, over, by_progress, then_step, card_step, cut_off, host_step}
use Rattle.kernel.specs.Dialogue.{TransactionData, all_failed, left_script, scripts_behind, second, scripts_before, issuer_authentication, authentication_by, has_authentication, unable_online, kind_unable, reply_read, replied, is_offline_only, first_answered, first, analysis, risk, verification, restrictions, read, granted, initiation, initiation_or, candidates_left, selected_then, dialogue, decision, kind_for, kind_wanted}
use Rattle.kernel.specs.Kernel.{KernelData, KernelFits, KernelStands, outset_in, kernel_next, standing_next}
use Rattle.kernel.specs.Laws.{AsBefore, LeavesBy, IsUnable, HeardBy, Turned, IsAskedIn, is_unanswered, is_unchecked, is_issuer_authentication, templates_left, step_before, step_behind_reply, sets_reply, cuts, is_second}
use Rattle.kernel.specs.Reply.{Reply, CardSaid, CardGone, HostSaid, HostSilent, ToCard, Over}
use Rattle.object_lists.specs.CardRead.{ReadCard}
use Rattle.kernel.specs.declared.kernel.Next.TheVariants as next
use Rattle.kernel.specs.declared.stage.OnlineOutcome.{OnlineOutcome}
use Rattle.kernel.specs.declared.stage.OnlineOutcome.TheVariants.{Replied, Unable}
use Rattle.online_step.specs.Authenticate.{authentication_step}
use Rattle.pse_directory.specs.Directory.{selecting_by}
use Rattle.read_records.specs.DataRead.{reading}
use Rattle.read_records.specs.Options.{Opened, initiating}
use Rattle.script_run.specs.Ran.{template_ran}
use Rattle.terminal_state.specs.StepResults.{StepResult, state_so_far, latest, sets_card, HasVerified, HasJudged, HasAnalysed, HasFirst, HasReply, WasUnable, HasAuthenticated, HasRunBefore, HasSecond, HasRunBehind, analysed_by}
use Rattle.terminal_state.specs.Scripts.{templates_of_tag, sound_scripts, kept_host_reply}
use Rattle.terminal_state.specs.Terminal.{Outset, terminal_objects}
use Rattle.terminal_state.specs.declared.state_so_far.OnlineRequest.{OnlineRequest}
use Rattle.terminal_state.specs.declared.state_so_far.OnlineRequest.TheVariants.{Sent, NotSent}

abbrev TurnAt : Bool → Standing StepResult → Reply → Standing StepResult → Type 0
TurnAt unanswered s reply t = (t ≡ s) ⊎ Turned unanswered s reply t

-- behind the first reply
abbrev Turn : Standing StepResult → Reply → Standing StepResult → Type 0
Turn s reply t = TurnAt false s reply t

-- where a rest begins behind these steps, and what each reply makes of it
abbrev Turns : List StepResult → Rest StepResult → Type 0
Turns steps_done rest =
    ((log : List Logged) → AsBefore steps_done (rest log []))
    × ((log : List Logged) (replies : List Reply) (reply : Reply) → Turn (rest log replies) reply (rest log (replies ++ reply ∷ [])))

over_turns : (steps_done : List StepResult) (ending : Ending) → cuts ending ≡ false → Turns steps_done (over steps_done ending)
over_turns steps_done ending whole = (λ log. (whole, refl, refl), λ log replies reply. inl refl)

-- each command that a course wants answered is good
abbrev Wanted : {A : Type 0} → (List ℕ → Type 0) → (List (List ℕ) → Progress A) → Type 0
Wanted good course = (answers : List (List ℕ)) (command : List ℕ) → course answers ≡ Wants command → good command

module _ {A : Type 0} (left : Step → (List (List ℕ) → Progress A) → Standing StepResult) (step : Step) (steps_done : List StepResult) (next : A → Rest StepResult)
    (good : List ℕ → Type 0)
    (leaves : (course : List (List ℕ) → Progress A) (command : List ℕ) → good command → LeavesBy (list_any is_second steps_done) false (stands steps_done (ToCard command)) (left step course))
    (keeps : (value : A) → Turns steps_done (next value)) where
  start_by : (log : List Logged) (progress : Progress A) → AsBefore steps_done (then_step step steps_done next log [] (λ command. stands steps_done (ToCard command)) progress)
  start_by log (Wants command) = (refl, refl, refl)
  start_by log (Stopped cause) = (refl, refl, refl)
  start_by log (Done value rest) = (keeps value).0 log

  walk_starts : (cut : Step) (course : List (List ℕ) → Progress A) (log : List Logged) → AsBefore steps_done (card_step left cut step steps_done course next log [])
  unfolding card_step
  walk_starts cut course log = start_by log (course [])

  turn_by : (log : List Logged) (replies : List Reply) (reply : Reply) (wanted other : List ℕ → Standing StepResult) (progress : Progress A)
      → ((command : List ℕ) → progress ≡ Wants command → Turn (wanted command) reply (other command))
      → Turn (then_step step steps_done next log replies wanted progress) reply (then_step step steps_done next log (replies ++ reply ∷ []) other progress)
  turn_by log replies reply wanted other (Wants command) wants = wants command refl
  turn_by log replies reply wanted other (Stopped cause) wants = inl refl
  turn_by log replies reply wanted other (Done value rest) wants = (keeps value).1 log replies reply

  walk_turns : (course : List (List ℕ) → Progress A) → Wanted good course → (log : List Logged) (replies : List Reply) (reply : Reply)
      → Turn (card_step left step step steps_done course next log replies) reply (card_step left step step steps_done course next log (replies ++ reply ∷ []))
  unfolding card_step
  walk_turns course asks log [] (CardSaid answer now) =
      turn_by log [] (CardSaid answer now) _ _ (course []) (λ command is. inr (walk_starts step (λ later. course (answer ∷ later)) now))
  walk_turns course asks log [] CardGone = turn_by log [] CardGone _ _ (course []) (λ command is. inr (leaves course command (asks [] command is)))
  walk_turns course asks log [] (HostSaid said) = turn_by log [] (HostSaid said) _ _ (course []) (λ command is. inl refl)
  walk_turns course asks log [] HostSilent = turn_by log [] HostSilent _ _ (course []) (λ command is. inl refl)
  walk_turns course asks log (CardSaid answer now ∷ replies) reply =
      turn_by log (CardSaid answer now ∷ replies) reply _ _ (course [])
      (λ command is. walk_turns (λ later. course (answer ∷ later)) (λ answers. asks (answer ∷ answers)) now replies reply)
  walk_turns course asks log (CardGone ∷ replies) reply = turn_by log (CardGone ∷ replies) reply _ _ (course []) (λ command is. inl refl)
  walk_turns course asks log (HostSaid said ∷ replies) reply = turn_by log (HostSaid said ∷ replies) reply _ _ (course []) (λ command is. inl refl)
  walk_turns course asks log (HostSilent ∷ replies) reply = turn_by log (HostSilent ∷ replies) reply _ _ (course []) (λ command is. inl refl)

  card_turns : (course : List (List ℕ) → Progress A) → Wanted good course → Turns steps_done (card_step left step step steps_done course next)
  card_turns course asks = (walk_starts step course, walk_turns course asks)

  -- the first command of all: a card that is gone before its answer is named at its power-up
  first_by : (log : List Logged) (unanswered : Bool) (replies : List Reply) (reply : Reply) (wanted other : List ℕ → Standing StepResult) (progress : Progress A)
      → ((value : A) (rest : List (List ℕ)) → progress ≡ Done value rest → ⊥)
      → ((command : List ℕ) → progress ≡ Wants command → TurnAt unanswered (wanted command) reply (other command))
      → TurnAt unanswered (then_step step steps_done next log replies wanted progress) reply (then_step step steps_done next log (replies ++ reply ∷ []) other progress)
  first_by log unanswered replies reply wanted other (Wants command) unfinished wants = wants command refl
  first_by log unanswered replies reply wanted other (Stopped cause) unfinished wants = inl refl
  first_by log unanswered replies reply wanted other (Done value rest) unfinished wants = absurd (unfinished value rest refl)

  powered : (cut : Step) (course : List (List ℕ) → Progress A) → Wanted good course
      → ((value : A) (rest : List (List ℕ)) → course [] ≡ Done value rest → ⊥)
      → ((command : List ℕ) → LeavesBy (list_any is_second steps_done) true (stands steps_done (ToCard command)) (left cut course))
      → (log : List Logged) (replies : List Reply) (reply : Reply)
      → TurnAt (is_unanswered replies) (card_step left cut step steps_done course next log replies) reply (card_step left cut step steps_done course next log (replies ++ reply ∷ []))
  unfolding card_step
  powered cut course asks unfinished goes log [] (CardSaid answer now) =
      first_by log true [] (CardSaid answer now) _ _ (course []) unfinished (λ command is. inr (walk_starts step (λ later. course (answer ∷ later)) now))
  powered cut course asks unfinished goes log [] CardGone = first_by log true [] CardGone _ _ (course []) unfinished (λ command is. inr (goes command))
  powered cut course asks unfinished goes log [] (HostSaid said) = first_by log true [] (HostSaid said) _ _ (course []) unfinished (λ command is. inl refl)
  powered cut course asks unfinished goes log [] HostSilent = first_by log true [] HostSilent _ _ (course []) unfinished (λ command is. inl refl)
  powered cut course asks unfinished goes log (CardSaid answer now ∷ replies) reply =
      first_by log false (CardSaid answer now ∷ replies) reply _ _ (course []) unfinished
      (λ command is. walk_turns (λ later. course (answer ∷ later)) (λ answers. asks (answer ∷ answers)) now replies reply)
  powered cut course asks unfinished goes log (CardGone ∷ replies) reply = first_by log false (CardGone ∷ replies) reply _ _ (course []) unfinished (λ command is. inl refl)
  powered cut course asks unfinished goes log (HostSaid said ∷ replies) reply = first_by log false (HostSaid said ∷ replies) reply _ _ (course []) unfinished (λ command is. inl refl)
  powered cut course asks unfinished goes log (HostSilent ∷ replies) reply = first_by log false (HostSilent ∷ replies) reply _ _ (course []) unfinished (λ command is. inl refl)

host_walk : (steps_done : List StepResult) (message : List ℕ) (next : Option (List ℕ) → Rest StepResult)
    → ((log : List Logged) → IsUnable steps_done (next None log []))
    → ((said : List ℕ) (log : List Logged) → HeardBy (reply_of said) steps_done (next (Some said) log []))
    → ((heard : Option (List ℕ)) (log : List Logged) (replies : List Reply) (reply : Reply) → Turn (next heard log replies) reply (next heard log (replies ++ reply ∷ [])))
    → (log : List Logged) (replies : List Reply) (reply : Reply) → Turn (host_step steps_done message next log replies) reply (host_step steps_done message next log (replies ++ reply ∷ []))
unfolding host_step
host_walk steps_done message next silent says turns log [] (CardSaid answer now) = inl refl
host_walk steps_done message next silent says turns log [] CardGone = inl refl
host_walk steps_done message next silent says turns log [] (HostSaid said) = inr (says said log)
host_walk steps_done message next silent says turns log [] HostSilent = inr (silent log)
host_walk steps_done message next silent says turns log (CardSaid answer now ∷ replies) reply = inl refl
host_walk steps_done message next silent says turns log (CardGone ∷ replies) reply = inl refl
host_walk steps_done message next silent says turns log (HostSaid said ∷ replies) reply = turns (Some said) log replies reply
host_walk steps_done message next silent says turns log (HostSilent ∷ replies) reply = turns None log replies reply

host_starts : (steps_done : List StepResult) (message : List ℕ) (next : Option (List ℕ) → Rest StepResult) (log : List Logged) → AsBefore steps_done (host_step steps_done message next log [])
unfolding host_step
host_starts steps_done message next log = (refl, refl, refl)

-- a command that waits behind these steps is one of this step
abbrev IsNamed : Step → List StepResult → Type 0
IsNamed at steps_done = (instruction : ℕ) → IsAskedIn at instruction steps_done

abbrev IsGood : Step → List StepResult → List ℕ → Type 0
IsGood at steps_done command = IsAskedIn at (slice_index command 1) steps_done

cut_leaves : {A : Type 0} (at : Step) (steps_done : List StepResult) → list_any is_second steps_done ≡ false → (course : List (List ℕ) → Progress A) (command : List ℕ) → IsGood at steps_done command
    → LeavesBy (list_any is_second steps_done) false (stands steps_done (ToCard command)) (cut_off steps_done at course)
cut_leaves at steps_done none course command good = rw none (at, refl, good)

-- a step once the card is read
named_turns : {A : Type 0} (at : Step) (steps_done : List StepResult) (next : A → Rest StepResult) → list_any is_second steps_done ≡ false → IsNamed at steps_done → ((value : A) → Turns steps_done (next value))
    → (course : List (List ℕ) → Progress A) → Turns steps_done (card_step (cut_off steps_done) at at steps_done course next)
named_turns at steps_done next none named keeps course =
    card_turns (cut_off steps_done) at steps_done next (IsGood at steps_done) (cut_leaves at steps_done none) keeps course (λ answers command is. named (slice_index command 1))

-- one before it
opening_turns : {A : Type 0} (at : Step) (next : A → Rest StepResult) → ((value : A) → Turns [] (next value))
    → (course : List (List ℕ) → Progress A) → Wanted (IsGood at []) course → Turns [] (card_step (cut_off []) at at [] course next)
opening_turns at next keeps course asks = card_turns (cut_off []) at [] next (IsGood at []) (cut_leaves at [] refl) keeps course asks

decides : (outcome : OnlineOutcome) (kind : Kind) → cuts (decision outcome kind) ≡ false
decides outcome Tc = refl
decides outcome Aac = refl
decides outcome Arqc = refl

left_turns : (ending : Ending) → cuts ending ≡ false → (others : List (List ℕ)) (steps_done : List StepResult) → list_any is_second steps_done ≡ true → (s : Standing StepResult) (progress : Progress (List ℕ))
    → LeavesBy (list_any is_second steps_done) false s
    (by_progress (λ command. stands steps_done (Over ending)) (λ cause. stands steps_done (Over ending)) (λ result. stands (all_failed others (HasRunBehind result ∷ steps_done)) (Over ending)) progress)
left_turns ending whole others steps_done there s (Wants command) = rw there (ending, refl, whole)
left_turns ending whole others steps_done there s (Stopped cause) = rw there (ending, refl, whole)
left_turns ending whole others steps_done there s (Done result rest) = rw there (ending, refl, whole)

scripts_behind_turns : (ending : Ending) → cuts ending ≡ false → (scripts : List (List ℕ)) (steps_done : List StepResult) → list_any is_second steps_done ≡ true → Turns steps_done (scripts_behind ending scripts steps_done)
unfolding scripts_behind
scripts_behind_turns ending whole [] steps_done there = over_turns steps_done ending whole
scripts_behind_turns ending whole (template ∷ others) steps_done there =
    card_turns (left_script ending others steps_done) step.Script steps_done (λ result. scripts_behind ending others (HasRunBehind result ∷ steps_done)) (λ command. ⊤)
    (λ course command good. left_turns ending whole others steps_done there (stands steps_done (ToCard command)) (course ([] ∷ [])))
    (λ result. scripts_behind_turns ending whole others (HasRunBehind result ∷ steps_done) there)
    (template_ran template) (λ answers command is. tt)

second_turns : (transaction : TransactionData) (outcome : OnlineOutcome) (asked : Kind) (behind : List (List ℕ)) (steps_done : List StepResult) → list_any is_second steps_done ≡ false → IsNamed step.Second steps_done
    → Turns steps_done (second transaction outcome asked behind steps_done)
unfolding second
second_turns transaction outcome asked behind steps_done none named =
    named_turns step.Second steps_done (λ ac. scripts_behind (decision outcome ac.kind) behind (HasSecond ac ∷ steps_done)) none named
    (λ ac. scripts_behind_turns (decision outcome ac.kind) (decides outcome ac.kind) behind (HasSecond ac ∷ steps_done) refl) _

-- behind the reply these templates are left, and its cryptogram was checked where it was to be
abbrev said_templates : ReplyData → List (List ℕ)
said_templates said = templates_of_tag 0x71 (sound_scripts said.scripts)

abbrev IsHeard : TransactionData → ReplyData → List (List ℕ) → List StepResult → Type 0
IsHeard transaction said scripts steps_done =
    (list_any is_second steps_done ≡ false) × (latest sets_card None steps_done ≡ Some transaction.card) × (latest sets_reply None steps_done ≡ Some said)
    × (templates_left (said_templates said) steps_done ≡ scripts)

-- the step that follows is by the reply
abbrev IsByReply : List StepResult → Type 0
IsByReply steps_done = (at : Step) → at ≡ step_behind_reply (latest sets_reply None steps_done) steps_done → IsNamed at steps_done

checked_next : (card : ReadCard) (said : ReplyData) (scripts : List (List ℕ)) (steps_done : List StepResult) → latest sets_card None steps_done ≡ Some card → latest sets_reply None steps_done ≡ Some said
    → templates_left (said_templates said) steps_done ≡ scripts → is_unchecked (Some card) said steps_done ≡ false
    → step_before scripts ≡ step_behind_reply (latest sets_reply None steps_done) steps_done
checked_next card said scripts steps_done read heard left checked = rw (heard, read, checked) (ap step_before (sym left))

unchecked_next : (card : ReadCard) (said : ReplyData) (steps_done : List StepResult) → latest sets_card None steps_done ≡ Some card → latest sets_reply None steps_done ≡ Some said
    → is_unchecked (Some card) said steps_done ≡ true → step.Authenticate ≡ step_behind_reply (latest sets_reply None steps_done) steps_done
unchecked_next card said steps_done read heard checks = rw (heard, read, checks) refl

scripts_before_turns : (transaction : TransactionData) (said : ReplyData) (scripts : List (List ℕ)) (steps_done : List StepResult) → IsHeard transaction said scripts steps_done
    → is_unchecked (Some transaction.card) said steps_done ≡ false → IsByReply steps_done → Turns steps_done (scripts_before transaction (kept_host_reply said) scripts steps_done)
unfolding scripts_before
scripts_before_turns transaction said [] steps_done r checked named =
    second_turns transaction Replied (kind_for said.code) (templates_of_tag 0x72 (sound_scripts said.scripts)) steps_done r.0
    (named step.Second (checked_next transaction.card said [] steps_done r.1 r.2 r.3 checked))
scripts_before_turns transaction said (template ∷ others) steps_done r checked named =
    named_turns step.Script steps_done (λ result. scripts_before transaction (kept_host_reply said) others (HasRunBefore result ∷ steps_done)) r.0
    (named step.Script (checked_next transaction.card said (template ∷ others) steps_done r.1 r.2 r.3 checked))
    (λ result. scripts_before_turns transaction said others (HasRunBefore result ∷ steps_done) (r.0, r.1, r.2, ap (λ (left : List (List ℕ)). drop 1 left) r.3) checked (λ at is instruction. is))
    (template_ran template)

no_data : (has done : Bool) → (has && false && not done) ≡ false
no_data true done = refl
no_data false done = refl

is_checked : (has there : Bool) → (has && there && not true) ≡ false
is_checked true true = refl
is_checked true false = refl
is_checked false there = refl

-- what holds before the issuer has replied
abbrev IsUnanswered : TransactionData → List StepResult → Type 0
IsUnanswered transaction steps_done =
    (list_any is_second steps_done ≡ false) × (latest sets_card None steps_done ≡ Some transaction.card) × (list_any is_issuer_authentication steps_done ≡ false)
    × ((templates : List (List ℕ)) → templates_left templates steps_done ≡ templates)

authentication_by_turns : (transaction : TransactionData) (said : ReplyData) (steps_done : List StepResult) → IsUnanswered transaction steps_done → (has : Bool) (auth : Option (List ℕ))
    → has_authentication transaction.card ≡ has → said.auth ≡ auth
    → Turns (HasReply said ∷ steps_done) (authentication_by transaction (kept_host_reply said) (HasReply said ∷ steps_done) has auth)
authentication_by_turns transaction said steps_done u has None has_is auth_is =
    scripts_before_turns transaction said (said_templates said) (HasReply said ∷ steps_done) (u.0, u.1, refl, u.3 (said_templates said))
    (rw (has_is, auth_is) (no_data has (list_any is_issuer_authentication steps_done))) (λ at is instruction. is)
authentication_by_turns transaction said steps_done u false (Some value) has_is auth_is =
    scripts_before_turns transaction said (said_templates said) (HasReply said ∷ steps_done) (u.0, u.1, refl, u.3 (said_templates said)) (rw has_is refl) (λ at is instruction. is)
authentication_by_turns transaction said steps_done u true (Some value) has_is auth_is =
    named_turns step.Authenticate (HasReply said ∷ steps_done)
    (λ good. scripts_before transaction (kept_host_reply said) (said_templates said) (HasAuthenticated good ∷ HasReply said ∷ steps_done)) u.0
    (λ instruction. unchecked_next transaction.card said (HasReply said ∷ steps_done) u.1 refl (rw (has_is, auth_is, u.2) refl))
    (λ good. scripts_before_turns transaction said (said_templates said) (HasAuthenticated good ∷ HasReply said ∷ steps_done) (u.0, u.1, refl, u.3 (said_templates said))
    (is_checked (has_authentication transaction.card) (is_some said.auth)) (λ at is instruction. is))
    (authentication_step value)

authentication_turns : (transaction : TransactionData) (said : ReplyData) (steps_done : List StepResult) → IsUnanswered transaction steps_done
    → Turns (HasReply said ∷ steps_done) (issuer_authentication transaction (kept_host_reply said) (HasReply said ∷ steps_done))
unfolding issuer_authentication
authentication_turns transaction said steps_done u = authentication_by_turns transaction said steps_done u (has_authentication transaction.card) said.auth refl refl

unable_turns : (transaction : TransactionData) (request : OnlineRequest) (steps_done : List StepResult) → IsUnanswered transaction steps_done → Turns (WasUnable request (kind_unable transaction steps_done) ∷ steps_done) (unable_online transaction request steps_done)
unfolding unable_online
unable_turns transaction request steps_done u =
    second_turns transaction Unable (kind_unable transaction steps_done) [] (WasUnable request (kind_unable transaction steps_done) ∷ steps_done) u.0 (λ instruction. refl)

heard_by : (transaction : TransactionData) (steps_done : List StepResult) → IsUnanswered transaction steps_done → (said : Result ReplyData MessageFault) (log : List Logged) → HeardBy said steps_done (reply_read transaction steps_done said log [])
heard_by transaction steps_done u (Ok reply) log = (authentication_turns transaction reply steps_done u).0 log
heard_by transaction steps_done u (Err fault) log = (unable_turns transaction Sent steps_done u).0 log

read_turns : (transaction : TransactionData) (steps_done : List StepResult) → IsUnanswered transaction steps_done → (said : Result ReplyData MessageFault) (log : List Logged) (replies : List Reply) (reply : Reply)
    → Turn (reply_read transaction steps_done said log replies) reply (reply_read transaction steps_done said log (replies ++ reply ∷ []))
read_turns transaction steps_done u (Ok said) log replies reply = (authentication_turns transaction said steps_done u).1 log replies reply
read_turns transaction steps_done u (Err fault) log replies reply = (unable_turns transaction Sent steps_done u).1 log replies reply

replied_turns : (transaction : TransactionData) (steps_done : List StepResult) → IsUnanswered transaction steps_done → (heard : Option (List ℕ)) (log : List Logged) (replies : List Reply) (reply : Reply)
    → Turn (replied transaction steps_done heard log replies) reply (replied transaction steps_done heard log (replies ++ reply ∷ []))
replied_turns transaction steps_done u None log replies reply = (unable_turns transaction Sent steps_done u).1 log replies reply
replied_turns transaction steps_done u (Some said) log replies reply = read_turns transaction steps_done u (reply_of said) log replies reply

online_by_turns : (transaction : TransactionData) (steps_done : List StepResult) (message : List ℕ) → IsUnanswered transaction steps_done → (test : Bool)
    → Turns steps_done (let rest : Rest StepResult = (if test then unable_online transaction NotSent steps_done else host_step steps_done message (replied transaction steps_done)) in rest)
online_by_turns transaction steps_done message u true = unable_turns transaction NotSent steps_done u
online_by_turns transaction steps_done message u false = (
  λ log. host_starts steps_done message (replied transaction steps_done) log,
  λ log replies reply. host_walk steps_done message (replied transaction steps_done) (λ log. (unable_turns transaction Sent steps_done u).0 log)
      (λ said log. heard_by transaction steps_done u (reply_of said) log) (replied_turns transaction steps_done u) log replies reply,
)

first_answered_turns : (transaction : TransactionData) (ac : AcData) (steps_done : List StepResult) → IsUnanswered transaction steps_done → (kind : Kind) → Turns steps_done (first_answered transaction ac steps_done kind)
first_answered_turns transaction ac steps_done u Tc = over_turns steps_done _ refl
first_answered_turns transaction ac steps_done u Aac = over_turns steps_done _ refl
first_answered_turns transaction ac steps_done u Arqc = online_by_turns transaction steps_done _ u (is_offline_only transaction.outset.settings.kind)

first_turns : (transaction : TransactionData) (asked : Kind) (steps_done : List StepResult) → IsUnanswered transaction steps_done → IsNamed step.First steps_done → Turns steps_done (first transaction asked steps_done)
unfolding first
first_turns transaction asked steps_done u named =
    named_turns step.First steps_done (λ ac. first_answered transaction ac (HasFirst ac ∷ steps_done) ac.kind) u.0 named
    (λ ac. first_answered_turns transaction ac (HasFirst ac ∷ steps_done) u ac.kind) _

analysis_turns : (transaction : TransactionData) (steps_done : List StepResult) → IsUnanswered transaction steps_done → Turns steps_done (analysis transaction steps_done)
unfolding analysis
analysis_turns transaction steps_done u = first_turns transaction (kind_wanted transaction steps_done) (HasAnalysed (analysed_by transaction.row (kind_wanted transaction steps_done)) ∷ steps_done) u (λ instruction. refl)

risk_turns_at : (transaction : TransactionData) (steps_done : List StepResult) → IsUnanswered transaction steps_done → IsNamed step.Risk steps_done → (course : List (List ℕ) → Progress Judged)
    → Turns steps_done (card_step (cut_off steps_done) step.Risk step.Risk steps_done course (λ judged. analysis transaction (HasJudged judged ∷ steps_done)))
risk_turns_at transaction steps_done u named course =
    named_turns step.Risk steps_done (λ judged. analysis transaction (HasJudged judged ∷ steps_done)) u.0 named
    (λ judged. analysis_turns transaction (HasJudged judged ∷ steps_done) u) course

risk_turns : (transaction : TransactionData) (steps_done : List StepResult) → IsUnanswered transaction steps_done → IsNamed step.Risk steps_done → Turns steps_done (risk transaction steps_done)
unfolding risk
risk_turns transaction steps_done u named =
    (λ log. (risk_turns_at transaction steps_done u named _).0 log, λ log replies reply. (risk_turns_at transaction steps_done u named _).1 log replies reply)

verification_turns : (transaction : TransactionData) (steps_done : List StepResult) → IsUnanswered transaction steps_done → IsNamed step.Verify steps_done → Turns steps_done (verification transaction steps_done)
unfolding verification
verification_turns transaction steps_done u named =
    named_turns step.Verify steps_done (λ verified. risk transaction (HasVerified verified ∷ steps_done)) u.0 named
    (λ verified. risk_turns transaction (HasVerified verified ∷ steps_done) u (λ instruction. refl)) _

restrictions_turn : (transaction : TransactionData) → Turns [] (restrictions transaction)
unfolding restrictions
restrictions_turn transaction = verification_turns transaction _ (refl, refl, refl, λ templates. refl) (λ instruction. refl)

reading_turns : (outset : Outset) (row : AidRow) (at : Opened) → Turns [] (read outset row at)
unfolding read
reading_turns outset row at =
    opening_turns step.Read (λ card. restrictions (record { outset = outset; row = row; card = card }))
    (λ card. restrictions_turn (record { outset = outset; row = row; card = card }))
    (reading at) (reading_asks at)

granted_turns : (outset : Outset) (row : AidRow) (others : Rest StepResult) → Turns [] others → (at : Option Opened) → Turns [] (granted outset row others at)
granted_turns outset row others turns None = turns
granted_turns outset row others turns (Some at) = reading_turns outset row at

initiation_turns : (outset : Outset) (selected : SelectedData) (others : Rest StepResult) → Turns [] others → Turns [] (initiation outset selected others)
unfolding initiation
initiation_turns outset selected others turns =
    let terminal = terminal_objects outset selected.row (state_so_far []) in
    opening_turns step.Initiate (granted outset selected.row others) (granted_turns outset selected.row others turns)
    (initiating selected.pdol terminal) (initiating_asks selected.pdol terminal)

opened_turns : (outset : Outset) (others : Rest StepResult) → Turns [] others → (selected : Option SelectedData) → Turns [] (initiation_or outset others selected)
opened_turns outset others turns None = turns
opened_turns outset others turns (Some selected) = initiation_turns outset selected others turns

candidates_turn : (outset : Outset) (candidates : List CandidateData) → Turns [] (candidates_left outset candidates)
unfolding candidates_left
candidates_turn outset [] = over_turns [] _ refl
candidates_turn outset (candidate ∷ left) =
    opening_turns step.Select (initiation_or outset (candidates_left outset left))
    (opened_turns outset (candidates_left outset left) (candidates_turn outset left))
    (final candidate left) (final_asks candidate left)

-- application selection, the first step
abbrev selection : Outset → List (List ℕ) → Progress SelectedData
selection outset = selecting_by outset.settings.pse outset.settings.aids outset.purchase.confirm

selected_turns : (outset : Outset) (selected : SelectedData) → Turns [] (selected_then outset selected)
selected_turns outset selected = initiation_turns outset selected (candidates_left outset selected.left) (candidates_turn outset selected.left)

pub replies_turn : (outset : Outset) (replies : List Reply) (reply : Reply)
    → (dialogue outset (replies ++ reply ∷ []) ≡ dialogue outset replies) ⊎ Turned (is_unanswered replies) (dialogue outset replies) reply (dialogue outset (replies ++ reply ∷ []))
unfolding dialogue
replies_turn outset replies reply =
    let settings = outset.settings in
    powered (cut_off []) step.Select [] (selected_then outset) (IsGood step.Select []) (cut_leaves step.Select [] refl) (selected_turns outset)
    step.Power (selection outset) (select_asks settings.pse settings.aids outset.purchase.confirm) (unfinished settings.pse settings.aids outset.purchase.confirm)
    (λ command. (step.Power, refl, refl)) [] replies reply

pub uncut_at_first : (outset : Outset) → AsBefore [] (dialogue outset [])
unfolding dialogue
uncut_at_first outset =
    walk_starts (cut_off []) step.Select [] (selected_then outset) (IsGood step.Select []) (cut_leaves step.Select [] refl) (selected_turns outset) step.Power (selection outset) []

-- a kernel that asks its card, and one that it becomes where the card is gone
pub gone_leaves : (k k2 : KernelData) (replies : List Reply) → KernelFits k → KernelStands k replies → kernel_next k ≡ next.ToCard → outset_in k2 ≡ outset_in k
    → KernelFits k2 → KernelStands k2 (replies ++ CardGone ∷ []) → kernel_next k2 ≡ next.Ended
    → LeavesBy (list_any is_second (dialogue (outset_in k) replies).steps_done) (is_unanswered replies) (dialogue (outset_in k) replies) (dialogue (outset_in k) (replies ++ CardGone ∷ []))
gone_leaves k k2 replies fits is waits same fits2 is2 ended =
    let before : standing_next (dialogue (outset_in k) replies) ≡ next.ToCard = sym (next_is_told k replies fits is) ∙ waits in
    let behind : standing_next (dialogue (outset_in k) (replies ++ CardGone ∷ [])) ≡ next.Ended =
    ap (λ (outset : Outset). standing_next (dialogue outset (replies ++ CardGone ∷ []))) (sym same) ∙ sym (next_is_told k2 (replies ++ CardGone ∷ []) fits2 is2) ∙ ended in
    elim (replies_turn (outset_in k) replies CardGone) [
      | inl alike ↦ let clash : next.ToCard ≡ next.Ended = sym before ∙ ap standing_next (sym alike) ∙ behind in absurd (cc clash)
      | inr turned ↦ turned
    ]
