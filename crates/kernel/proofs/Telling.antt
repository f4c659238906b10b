-- What a dialogue tells of the host at any time, and what is captured at its end.
use Rattle.std.proofs.Common.{◌≡◌, refl, sym, ap, ◌∙◌, ℕ, Bool, true, false, List, [], ◌∷◌, Option, Some, None, is_some, option_map, Result, Ok, Err, if◌then◌else◌}
use Rattle.std.proofs.lemmas.Option.{same_Some}
use Rattle.std.specs.Prelude.{◌&&◌, ◌||◌, not, slice_index}
use Rattle.std.specs.List.{list_any}
use Rattle.app_select.specs.Candidates.{CandidateData}
use Rattle.app_select.specs.Selecting.{SelectedData}
use Rattle.auth_message.specs.Data.{PresentData}
use Rattle.auth_message.specs.Reply.{ReplyData, reply_of}
use Rattle.auth_message.specs.Spelling.{present_bytes, reversal_bytes}
use Rattle.auth_message.specs.declared.fault.MessageFault.{MessageFault}
use Rattle.auth_message.specs.declared.reversal.ReversalFields.{ReversalFields}
use Rattle.ber_tlv.specs.Written.{written}
use Rattle.emv_dict.specs.Progress.{Progress, Wants, Stopped, Done}
use Rattle.emv_dict.specs.Views.{AcData, SettingsData, PurchaseData}
use Rattle.emv_dict.specs.declared.ending.Ending.{Ending}
use Rattle.emv_dict.specs.declared.ending.Ending.TheVariants.{Approved, Declined, Terminated, CutOff}
use Rattle.emv_dict.specs.declared.ending.Kind.{Kind}
use Rattle.emv_dict.specs.declared.ending.Kind.TheVariants.{Tc, Aac, Arqc}
use Rattle.emv_dict.specs.declared.ending.Step.{Step}
use Rattle.emv_dict.specs.declared.ending.Step.TheVariants as step
use Rattle.emv_dict.specs.declared.purchase.AidRow.{AidRow}
use Rattle.emv_dict.specs.declared.purchase.Logged.{Logged}
use Rattle.kernel.specs.StepsInTurn.{Standing, Rest, stands, by_progress, then_step, card_step, cut_off, host_step}
use Rattle.kernel.specs.Dialogue.{TransactionData, all_failed, left_script, scripts_behind, second, scripts_before, issuer_authentication, authentication_by, has_authentication, unable_online, kind_unable, reply_read, replied, is_offline_only, first_answered, first, analysis, risk, verification, restrictions, read, granted, initiation, initiation_or, candidates_left, dialogue, decision, kind_for, kind_wanted}
use Rattle.kernel.specs.Ended.{EndData, end_of, end_with, capture, presentment, reversal, results_behind, code_or_zeros}
use Rattle.kernel.specs.Laws.{HostTold, asks_online, is_online_request, is_unsent, is_sent, is_reply_refused, asks_host, is_approved_ending, captured_tag, due_tag}
use Rattle.kernel.specs.Reply.{Reply, CardSaid, CardGone, HostSaid, HostSilent, Deed, ToCard, ToHost, Over}
use Rattle.kernel.specs.declared.stage.OnlineOutcome.{OnlineOutcome}
use Rattle.kernel.specs.declared.stage.OnlineOutcome.TheVariants.{Replied, Unable}
use Rattle.object_lists.specs.CardRead.{ReadCard}
use Rattle.online_step.specs.Authenticate.{authentication_step}
use Rattle.online_step.specs.Captures.{presentment_of, presentment_data, reversal_of, reversal_data}
use Rattle.read_records.specs.Options.{Opened}
use Rattle.script_run.specs.Ran.{template_ran, no_script}
use Rattle.terminal_state.specs.StepResults.{StepResult, StateSoFarData, state_so_far, latest, open_of, sets_counter, sets_ac, sets_card, HasVerified, HasJudged, HasAnalysed, HasFirst, HasReply, WasUnable, HasAuthenticated, HasRunBefore, HasSecond, HasRunBehind, analysed_by}
use Rattle.terminal_state.specs.Scripts.{templates_of_tag, kept_host_reply}
use Rattle.terminal_state.specs.Terminal.{Outset}
use Rattle.terminal_state.specs.declared.state_so_far.OnlineRequest.{OnlineRequest}
use Rattle.terminal_state.specs.declared.state_so_far.OnlineRequest.TheVariants.{Sent, NotSent}

abbrev offline : Outset → Bool
offline outset = is_offline_only outset.settings.kind

abbrev pub deed_approves : Deed → Bool
deed_approves (ToCard command) = false
deed_approves (ToHost message) = false
deed_approves (Over ending) = is_approved_ending ending

-- a request may have been approved
abbrev IsOpen : List StepResult → Type 0
IsOpen steps_done = latest open_of false steps_done ≡ (list_any is_sent steps_done && not (list_any is_reply_refused steps_done))

abbrev IsUnsent : Outset → List StepResult → Type 0
IsUnsent outset steps_done = list_any is_unsent steps_done ≡ (list_any is_online_request steps_done && offline outset)

abbrev HasCard : List StepResult → Type 0
HasCard steps_done = is_some (latest sets_card None steps_done) ≡ true

abbrev HasCounter : List StepResult → Type 0
HasCounter steps_done = is_some (latest sets_counter None steps_done) ≡ true

abbrev HasAc : List StepResult → Type 0
HasAc steps_done = is_some (latest sets_ac None steps_done) ≡ true

-- what holds of each place where a dialogue stands
abbrev Told : Outset → Standing StepResult → Type 0
Told outset s =
    IsUnsent outset s.steps_done
    × (asks_host s.deed ≡ true → (list_any is_online_request s.steps_done ≡ true) × (offline outset ≡ false) × (list_any is_sent s.steps_done ≡ false))
    × IsOpen s.steps_done
    × (list_any is_sent s.steps_done ≡ true → HasCounter s.steps_done × HasCard s.steps_done)
    × (deed_approves s.deed ≡ true → HasAc s.steps_done × HasCard s.steps_done)

-- before the card's first cryptogram
abbrev Before : List StepResult → Type 0
Before steps_done =
    (list_any is_online_request steps_done ≡ false) × (list_any is_unsent steps_done ≡ false) × (list_any is_sent steps_done ≡ false) × (list_any is_reply_refused steps_done ≡ false)
    × (latest open_of false steps_done ≡ false) × HasCard steps_done

-- where the card asks to go online
abbrev Requested : List StepResult → Type 0
Requested steps_done =
    (list_any is_online_request steps_done ≡ true) × (list_any is_unsent steps_done ≡ false) × (list_any is_sent steps_done ≡ false) × (list_any is_reply_refused steps_done ≡ false)
    × (latest open_of false steps_done ≡ false) × HasCounter steps_done × HasAc steps_done × HasCard steps_done

-- behind that
abbrev After : Outset → List StepResult → Type 0
After outset steps_done = IsUnsent outset steps_done × IsOpen steps_done × HasCounter steps_done × HasAc steps_done × HasCard steps_done

pub never : {A : Type 0} (b : Bool) → b ≡ false → b ≡ true → A
never b none is = let clash : false ≡ true = sym none ∙ is in absurd (cc clash)

after_told : (outset : Outset) (steps_done : List StepResult) → After outset steps_done → (deed : Deed) → asks_host deed ≡ false → Told outset (stands steps_done deed)
after_told outset steps_done a deed none = (a.0, λ is. never (asks_host deed) none is, a.1, λ sent. (a.2, a.4), λ good. (a.3, a.4))

before_told : (outset : Outset) (steps_done : List StepResult) → Before steps_done → (deed : Deed) → asks_host deed ≡ false → deed_approves deed ≡ false → Told outset (stands steps_done deed)
before_told outset steps_done b deed none plain = (
  rw (b.1, b.0) refl,
  λ is. never (asks_host deed) none is,
  rw (b.4, b.2) refl,
  λ sent. never (list_any is_sent steps_done) b.2 sent,
  λ good. never (deed_approves deed) plain good,
)

opening_told : (outset : Outset) (deed : Deed) → asks_host deed ≡ false → deed_approves deed ≡ false → Told outset (stands [] deed)
opening_told outset deed none plain = (
  refl,
  λ is. never (asks_host deed) none is,
  refl,
  λ sent. never false refl sent,
  λ good. never (deed_approves deed) plain good,
)

module _ {A : Type 0} (left : Step → (List (List ℕ) → Progress A) → Standing StepResult) (step : Step) (steps_done : List StepResult) (next : A → Rest StepResult) (Q : Standing StepResult → Type 0)
    (asks : (command : List ℕ) → Q (stands steps_done (ToCard command)))
    (ends : (ending : Ending) → is_approved_ending ending ≡ false → Q (stands steps_done (Over ending)))
    (leaves : (cut : Step) (course : List (List ℕ) → Progress A) → Q (left cut course))
    (keeps : (value : A) (log : List Logged) (replies : List Reply) → Q (next value log replies)) where
  settle_all : (log : List Logged) (replies : List Reply) (wanted : List ℕ → Standing StepResult) (progress : Progress A) → ((command : List ℕ) → Q (wanted command))
      → Q (then_step step steps_done next log replies wanted progress)
  settle_all log replies wanted (Wants command) wants = wants command
  settle_all log replies wanted (Stopped cause) wants = ends (Terminated step cause) refl
  settle_all log replies wanted (Done value rest) wants = keeps value log replies

  -- what holds of each place at which a step may stand
  pub card_all : (cut : Step) (course : List (List ℕ) → Progress A) (log : List Logged) (replies : List Reply) → Q (card_step left cut step steps_done course next log replies)
  unfolding card_step
  card_all cut course log [] = settle_all log [] _ (course []) asks
  card_all cut course log (CardSaid answer now ∷ replies) =
      settle_all log (CardSaid answer now ∷ replies) _ (course []) (λ command. card_all step (λ later. course (answer ∷ later)) now replies)
  card_all cut course log (CardGone ∷ replies) = settle_all log (CardGone ∷ replies) _ (course []) (λ command. leaves cut course)
  card_all cut course log (HostSaid said ∷ replies) = settle_all log (HostSaid said ∷ replies) _ (course []) asks
  card_all cut course log (HostSilent ∷ replies) = settle_all log (HostSilent ∷ replies) _ (course []) asks

pub host_all : (steps_done : List StepResult) (message : List ℕ) (next : Option (List ℕ) → Rest StepResult) (Q : Standing StepResult → Type 0) → Q (stands steps_done (ToHost message))
    → ((heard : Option (List ℕ)) (log : List Logged) (replies : List Reply) → Q (next heard log replies))
    → (log : List Logged) (replies : List Reply) → Q (host_step steps_done message next log replies)
unfolding host_step
host_all steps_done message next Q asks keeps log [] = asks
host_all steps_done message next Q asks keeps log (CardSaid answer now ∷ replies) = asks
host_all steps_done message next Q asks keeps log (CardGone ∷ replies) = asks
host_all steps_done message next Q asks keeps log (HostSaid said ∷ replies) = keeps (Some said) log replies
host_all steps_done message next Q asks keeps log (HostSilent ∷ replies) = keeps None log replies

failed_after : (outset : Outset) (others : List (List ℕ)) (steps_done : List StepResult) → After outset steps_done → After outset (all_failed others steps_done)
failed_after outset [] steps_done a = a
failed_after outset (template ∷ others) steps_done a = failed_after outset others (HasRunBehind no_script ∷ steps_done) a

left_told : (outset : Outset) (ending : Ending) (others : List (List ℕ)) (steps_done : List StepResult) → After outset steps_done → (progress : Progress (List ℕ))
    → Told outset (by_progress (λ command. stands steps_done (Over ending)) (λ cause. stands steps_done (Over ending)) (λ result. stands (all_failed others (HasRunBehind result ∷ steps_done)) (Over ending)) progress)
left_told outset ending others steps_done a (Wants command) = after_told outset steps_done a (Over ending) refl
left_told outset ending others steps_done a (Stopped cause) = after_told outset steps_done a (Over ending) refl
left_told outset ending others steps_done a (Done result rest) =
    after_told outset (all_failed others (HasRunBehind result ∷ steps_done)) (failed_after outset others (HasRunBehind result ∷ steps_done) a) (Over ending) refl

scripts_behind_told : (outset : Outset) (ending : Ending) (scripts : List (List ℕ)) (steps_done : List StepResult) → After outset steps_done → (log : List Logged) (replies : List Reply)
    → Told outset (scripts_behind ending scripts steps_done log replies)
unfolding scripts_behind
scripts_behind_told outset ending [] steps_done a log replies = after_told outset steps_done a (Over ending) refl
scripts_behind_told outset ending (template ∷ others) steps_done a log replies =
    card_all (left_script ending others steps_done) step.Script steps_done (λ result. scripts_behind ending others (HasRunBehind result ∷ steps_done)) (Told outset)
    (λ command. after_told outset steps_done a (ToCard command) refl)
    (λ at plain. after_told outset steps_done a (Over at) refl)
    (λ cut course. left_told outset ending others steps_done a (course ([] ∷ [])))
    (λ result. scripts_behind_told outset ending others (HasRunBehind result ∷ steps_done) a)
    step.Script (template_ran template) log replies

second_told : (transaction : TransactionData) (outcome : OnlineOutcome) (asked : Kind) (behind : List (List ℕ)) (steps_done : List StepResult) → After transaction.outset steps_done → (log : List Logged) (replies : List Reply)
    → Told transaction.outset (second transaction outcome asked behind steps_done log replies)
unfolding second
second_told transaction outcome asked behind steps_done a log replies =
    card_all (cut_off steps_done) step.Second steps_done (λ ac. scripts_behind (decision outcome ac.kind) behind (HasSecond ac ∷ steps_done)) (Told transaction.outset)
    (λ command. after_told transaction.outset steps_done a (ToCard command) refl)
    (λ at plain. after_told transaction.outset steps_done a (Over at) refl)
    (λ cut course. after_told transaction.outset steps_done a (Over (CutOff cut)) refl)
    (λ ac. scripts_behind_told transaction.outset (decision outcome ac.kind) behind (HasSecond ac ∷ steps_done) (a.0, a.1, a.2, refl, a.4))
    step.Second _ log replies

scripts_before_told : (transaction : TransactionData) (reply : ReplyData) (scripts : List (List ℕ)) (steps_done : List StepResult) → After transaction.outset steps_done → (log : List Logged) (replies : List Reply)
    → Told transaction.outset (scripts_before transaction reply scripts steps_done log replies)
unfolding scripts_before
scripts_before_told transaction reply [] steps_done a log replies = second_told transaction Replied (kind_for reply.code) (templates_of_tag 0x72 reply.scripts) steps_done a log replies
scripts_before_told transaction reply (template ∷ others) steps_done a log replies =
    card_all (cut_off steps_done) step.Script steps_done (λ result. scripts_before transaction reply others (HasRunBefore result ∷ steps_done)) (Told transaction.outset)
    (λ command. after_told transaction.outset steps_done a (ToCard command) refl)
    (λ at plain. after_told transaction.outset steps_done a (Over at) refl)
    (λ cut course. after_told transaction.outset steps_done a (Over (CutOff cut)) refl)
    (λ result. scripts_before_told transaction reply others (HasRunBefore result ∷ steps_done) a)
    step.Script (template_ran template) log replies

authentication_by_told : (transaction : TransactionData) (reply : ReplyData) (steps_done : List StepResult) → After transaction.outset steps_done → (has : Bool) (auth : Option (List ℕ)) (log : List Logged) (replies : List Reply)
    → Told transaction.outset (authentication_by transaction reply steps_done has auth log replies)
authentication_by_told transaction reply steps_done a has None log replies = scripts_before_told transaction reply (templates_of_tag 0x71 reply.scripts) steps_done a log replies
authentication_by_told transaction reply steps_done a false (Some value) log replies = scripts_before_told transaction reply (templates_of_tag 0x71 reply.scripts) steps_done a log replies
authentication_by_told transaction reply steps_done a true (Some value) log replies =
    card_all (cut_off steps_done) step.Authenticate steps_done (λ good. scripts_before transaction reply (templates_of_tag 0x71 reply.scripts) (HasAuthenticated good ∷ steps_done)) (Told transaction.outset)
    (λ command. after_told transaction.outset steps_done a (ToCard command) refl)
    (λ at plain. after_told transaction.outset steps_done a (Over at) refl)
    (λ cut course. after_told transaction.outset steps_done a (Over (CutOff cut)) refl)
    (λ good. scripts_before_told transaction reply (templates_of_tag 0x71 reply.scripts) (HasAuthenticated good ∷ steps_done) a)
    step.Authenticate (authentication_step value) log replies

authentication_told : (transaction : TransactionData) (reply : ReplyData) (steps_done : List StepResult) → After transaction.outset steps_done → (log : List Logged) (replies : List Reply)
    → Told transaction.outset (issuer_authentication transaction reply steps_done log replies)
unfolding issuer_authentication
authentication_told transaction reply steps_done a = authentication_by_told transaction reply steps_done a (has_authentication transaction.card) reply.auth

unable_told : (transaction : TransactionData) (request : OnlineRequest) (steps_done : List StepResult) → After transaction.outset (WasUnable request (kind_unable transaction steps_done) ∷ steps_done) → (log : List Logged) (replies : List Reply)
    → Told transaction.outset (unable_online transaction request steps_done log replies)
unfolding unable_online
unable_told transaction request steps_done a = second_told transaction Unable (kind_unable transaction steps_done) [] (WasUnable request (kind_unable transaction steps_done) ∷ steps_done) a

-- a terminal that never goes online sends nothing
unsent_after : (outset : Outset) (steps_done : List StepResult) (wanted : Kind) → Requested steps_done → offline outset ≡ true → After outset (WasUnable NotSent wanted ∷ steps_done)
unsent_after outset steps_done wanted r never_online = (rw (r.0, never_online) refl, rw r.2 refl, r.5, r.6, r.7)

sent_after : (outset : Outset) (steps_done : List StepResult) (wanted : Kind) → Requested steps_done → offline outset ≡ false → After outset (WasUnable Sent wanted ∷ steps_done)
sent_after outset steps_done wanted r goes_online = (rw (r.1, r.0, goes_online) refl, rw r.3 refl, r.5, r.6, r.7)

again : (b : Bool) → b ≡ (true && not (not b || false))
again true = refl
again false = refl

reply_after : (outset : Outset) (steps_done : List StepResult) (reply : ReplyData) → Requested steps_done → offline outset ≡ false → After outset (HasReply reply ∷ steps_done)
reply_after outset steps_done reply r goes_online = (rw (r.1, r.0, goes_online) refl, rw r.3 (again _), r.5, r.6, r.7)

reply_told : (transaction : TransactionData) (steps_done : List StepResult) → Requested steps_done → offline transaction.outset ≡ false → (said : Result ReplyData MessageFault) (log : List Logged) (replies : List Reply)
    → Told transaction.outset (reply_read transaction steps_done said log replies)
reply_told transaction steps_done r goes_online (Ok reply) = authentication_told transaction (kept_host_reply reply) (HasReply reply ∷ steps_done) (reply_after transaction.outset steps_done reply r goes_online)
reply_told transaction steps_done r goes_online (Err fault) = unable_told transaction Sent steps_done (sent_after transaction.outset steps_done (kind_unable transaction steps_done) r goes_online)

replied_told : (transaction : TransactionData) (steps_done : List StepResult) → Requested steps_done → offline transaction.outset ≡ false → (heard : Option (List ℕ)) (log : List Logged) (replies : List Reply)
    → Told transaction.outset (replied transaction steps_done heard log replies)
replied_told transaction steps_done r goes_online None = unable_told transaction Sent steps_done (sent_after transaction.outset steps_done (kind_unable transaction steps_done) r goes_online)
replied_told transaction steps_done r goes_online (Some said) = reply_told transaction steps_done r goes_online (reply_of said)

asked_told : (outset : Outset) (steps_done : List StepResult) (message : List ℕ) → Requested steps_done → offline outset ≡ false → Told outset (stands steps_done (ToHost message))
asked_told outset steps_done message r goes_online = (
  rw (r.1, r.0, goes_online) refl,
  λ is. (r.0, goes_online, r.2),
  rw (r.4, r.2) refl,
  λ sent. never (list_any is_sent steps_done) r.2 sent,
  λ good. never false refl good,
)

online_by_told : (transaction : TransactionData) (steps_done : List StepResult) (message : List ℕ) → Requested steps_done → (test : Bool) → offline transaction.outset ≡ test → (log : List Logged) (replies : List Reply)
    → Told transaction.outset (let rest : Rest StepResult = (if test then unable_online transaction NotSent steps_done else host_step steps_done message (replied transaction steps_done)) in rest log replies)
online_by_told transaction steps_done message r true is = unable_told transaction NotSent steps_done (unsent_after transaction.outset steps_done (kind_unable transaction steps_done) r is)
online_by_told transaction steps_done message r false is =
    host_all steps_done message (replied transaction steps_done) (Told transaction.outset) (asked_told transaction.outset steps_done message r is) (replied_told transaction steps_done r is)

first_after : (outset : Outset) (ac : AcData) (steps_done : List StepResult) → Before steps_done → asks_online ac.kind ≡ false → After outset (HasFirst ac ∷ steps_done)
first_after outset ac steps_done b is = (rw (b.1, is, b.0) refl, rw (b.4, b.2) refl, refl, refl, b.5)

first_requested : (ac : AcData) (steps_done : List StepResult) → Before steps_done → asks_online ac.kind ≡ true → Requested (HasFirst ac ∷ steps_done)
first_requested ac steps_done b is = (rw is refl, b.1, b.2, b.3, b.4, refl, refl, b.5)

first_answered_told : (transaction : TransactionData) (ac : AcData) (steps_done : List StepResult) → Before steps_done → (kind : Kind) → ac.kind ≡ kind → (log : List Logged) (replies : List Reply)
    → Told transaction.outset (first_answered transaction ac (HasFirst ac ∷ steps_done) kind log replies)
first_answered_told transaction ac steps_done b Tc is log replies = after_told transaction.outset (HasFirst ac ∷ steps_done) (first_after transaction.outset ac steps_done b (ap asks_online is)) (Over (Approved false)) refl
first_answered_told transaction ac steps_done b Aac is log replies = after_told transaction.outset (HasFirst ac ∷ steps_done) (first_after transaction.outset ac steps_done b (ap asks_online is)) (Over (Declined false)) refl
first_answered_told transaction ac steps_done b Arqc is log replies =
    online_by_told transaction (HasFirst ac ∷ steps_done) _ (first_requested ac steps_done b (ap asks_online is)) (is_offline_only transaction.outset.settings.kind) refl log replies

first_told : (transaction : TransactionData) (asked : Kind) (steps_done : List StepResult) → Before steps_done → (log : List Logged) (replies : List Reply) → Told transaction.outset (first transaction asked steps_done log replies)
unfolding first
first_told transaction asked steps_done b log replies =
    card_all (cut_off steps_done) step.First steps_done (λ ac. first_answered transaction ac (HasFirst ac ∷ steps_done) ac.kind) (Told transaction.outset)
    (λ command. before_told transaction.outset steps_done b (ToCard command) refl refl)
    (λ at plain. before_told transaction.outset steps_done b (Over at) refl plain)
    (λ cut course. before_told transaction.outset steps_done b (Over (CutOff cut)) refl refl)
    (λ ac. first_answered_told transaction ac steps_done b ac.kind refl)
    step.First _ log replies

analysis_told : (transaction : TransactionData) (steps_done : List StepResult) → Before steps_done → (log : List Logged) (replies : List Reply) → Told transaction.outset (analysis transaction steps_done log replies)
unfolding analysis
analysis_told transaction steps_done b = first_told transaction (kind_wanted transaction steps_done) (HasAnalysed (analysed_by transaction.row (kind_wanted transaction steps_done)) ∷ steps_done) b

risk_told : (transaction : TransactionData) (steps_done : List StepResult) → Before steps_done → (log : List Logged) (replies : List Reply) → Told transaction.outset (risk transaction steps_done log replies)
unfolding risk
risk_told transaction steps_done b log replies =
    card_all (cut_off steps_done) step.Risk steps_done (λ judged. analysis transaction (HasJudged judged ∷ steps_done)) (Told transaction.outset)
    (λ command. before_told transaction.outset steps_done b (ToCard command) refl refl)
    (λ at plain. before_told transaction.outset steps_done b (Over at) refl plain)
    (λ cut course. before_told transaction.outset steps_done b (Over (CutOff cut)) refl refl)
    (λ judged. analysis_told transaction (HasJudged judged ∷ steps_done) b)
    step.Risk _ log replies

verification_told : (transaction : TransactionData) (steps_done : List StepResult) → Before steps_done → (log : List Logged) (replies : List Reply) → Told transaction.outset (verification transaction steps_done log replies)
unfolding verification
verification_told transaction steps_done b log replies =
    card_all (cut_off steps_done) step.Verify steps_done (λ verified. risk transaction (HasVerified verified ∷ steps_done)) (Told transaction.outset)
    (λ command. before_told transaction.outset steps_done b (ToCard command) refl refl)
    (λ at plain. before_told transaction.outset steps_done b (Over at) refl plain)
    (λ cut course. before_told transaction.outset steps_done b (Over (CutOff cut)) refl refl)
    (λ verified. risk_told transaction (HasVerified verified ∷ steps_done) b)
    step.Verify _ log replies

restrictions_told : (transaction : TransactionData) (log : List Logged) (replies : List Reply) → Told transaction.outset (restrictions transaction log replies)
unfolding restrictions
restrictions_told transaction log replies = verification_told transaction _ (refl, refl, refl, refl, refl, refl) log replies

-- what holds before the card is read, and from there on, holds of each dialogue
module _ (outset : Outset) (Q : Standing StepResult → Type 0)
    (at_first : (deed : Deed) → asks_host deed ≡ false → deed_approves deed ≡ false → Q (stands [] deed))
    (reads : (row : AidRow) (card : ReadCard) (log : List Logged) (replies : List Reply) → Q (restrictions (record { outset = outset; row = row; card = card }) log replies)) where
  opening_all : {A : Type 0} (at cut : Step) (course : List (List ℕ) → Progress A) (next : A → Rest StepResult) → ((value : A) (log : List Logged) (replies : List Reply) → Q (next value log replies))
      → (log : List Logged) (replies : List Reply) → Q (card_step (cut_off []) cut at [] course next log replies)
  opening_all at cut course next keeps log replies =
      card_all (cut_off []) at [] next Q
      (λ command. at_first (ToCard command) refl refl)
      (λ ending plain. at_first (Over ending) refl plain)
      (λ cut course. at_first (Over (CutOff cut)) refl refl)
      keeps cut course log replies

  read_all : (row : AidRow) (at : Opened) (log : List Logged) (replies : List Reply) → Q (read outset row at log replies)
  unfolding read
  read_all row at log replies = opening_all step.Read step.Read _ (λ card. restrictions (record { outset = outset; row = row; card = card })) (reads row) log replies

  granted_all : (row : AidRow) (others : Rest StepResult) → ((log : List Logged) (replies : List Reply) → Q (others log replies)) → (at : Option Opened) (log : List Logged) (replies : List Reply)
      → Q (granted outset row others at log replies)
  granted_all row others holds None = holds
  granted_all row others holds (Some at) = read_all row at

  initiation_all : (selected : SelectedData) (others : Rest StepResult) → ((log : List Logged) (replies : List Reply) → Q (others log replies)) → (log : List Logged) (replies : List Reply)
      → Q (initiation outset selected others log replies)
  unfolding initiation
  initiation_all selected others holds log replies = opening_all step.Initiate step.Initiate _ (granted outset selected.row others) (granted_all selected.row others holds) log replies

  opened_all : (others : Rest StepResult) → ((log : List Logged) (replies : List Reply) → Q (others log replies)) → (selected : Option SelectedData) (log : List Logged) (replies : List Reply)
      → Q (initiation_or outset others selected log replies)
  opened_all others holds None = holds
  opened_all others holds (Some selected) = initiation_all selected others holds

  candidates_all : (candidates : List CandidateData) (log : List Logged) (replies : List Reply) → Q (candidates_left outset candidates log replies)
  unfolding candidates_left
  candidates_all [] log replies = at_first _ refl refl
  candidates_all (candidate ∷ left) log replies =
      opening_all step.Select step.Select _ (initiation_or outset (candidates_left outset left)) (opened_all (candidates_left outset left) (candidates_all left)) log replies

  pub dialogue_all : (replies : List Reply) → Q (dialogue outset replies)
  unfolding dialogue
  dialogue_all replies =
      opening_all step.Select step.Power _ (λ selected. initiation outset selected (candidates_left outset selected.left))
      (λ selected. initiation_all selected (candidates_left outset selected.left) (candidates_all selected.left)) [] replies

dialogue_told : (outset : Outset) (replies : List Reply) → Told outset (dialogue outset replies)
dialogue_told outset replies =
    dialogue_all outset (Told outset) (opening_told outset) (λ row card log replies. restrictions_told (record { outset = outset; row = row; card = card }) log replies) replies

pub host_told : (outset : Outset) (replies : List Reply) → HostTold outset (dialogue outset replies)
host_told outset replies = let told = dialogue_told outset replies in record { unsent = told.0; asked = told.1 }

-- what the messages begin with
present_tag : (fields : PresentData) → slice_index (present_bytes fields) 0 ≡ 0xE3
unfolding present_bytes written
present_tag fields = refl

reversal_tag : (fields : ReversalFields) → slice_index (reversal_bytes fields) 0 ≡ 0xE4
unfolding reversal_bytes written
reversal_tag fields = refl

presentment_tag : (card : ReadCard) (settings : SettingsData) (purchase : PurchaseData) (tvr : ℕ) (code : List ℕ) (ac : Option AcData) → is_some ac ≡ true
    → captured_tag (option_map (λ ac. presentment_of card settings purchase tvr ac code) ac) ≡ Some 0xE3
unfolding presentment_of
presentment_tag card settings purchase tvr code None there = cc
presentment_tag card settings purchase tvr code (Some ac) there = ap (λ (tag : ℕ). Some tag) (present_tag (presentment_data card settings purchase tvr ac code))

counted_tag : (card : ReadCard) (settings : SettingsData) (purchase : PurchaseData) (code : List ℕ) (counter : Option ℕ) → is_some counter ≡ true
    → captured_tag (option_map (λ counter. reversal_of card settings purchase counter code) counter) ≡ Some 0xE4
unfolding reversal_of
counted_tag card settings purchase code None there = cc
counted_tag card settings purchase code (Some counter) there = ap (λ (tag : ℕ). Some tag) (reversal_tag (reversal_data card settings purchase counter code))

presented : (outset : Outset) (card : ReadCard) (m : StateSoFarData) → is_some m.last ≡ true → captured_tag (presentment outset card m) ≡ Some 0xE3
unfolding presentment
presented outset card m there =
    presentment_tag card outset.settings outset.purchase (results_behind card m.tvr_when_first m.tvr_when_second) (code_or_zeros m.code) m.last there

-- a reversal where one may be due, and nothing else
abbrev reversal_due : Bool → Option ℕ
reversal_due may = (if may then Some 0xE4 else None)

reversed : (outset : Outset) (card : ReadCard) (m : StateSoFarData) (may : Bool) → m.is_open ≡ may → (may ≡ true → is_some m.counter ≡ true) → captured_tag (reversal outset card m) ≡ reversal_due may
unfolding reversal
reversed outset card m true is there = rw is (counted_tag card outset.settings outset.purchase (code_or_zeros m.code) m.counter (there refl))
reversed outset card m false is there = rw is refl

sent_if : (sent refused : Bool) → (sent && not refused) ≡ true → sent ≡ true
sent_if true refused is = refl
sent_if false refused is = is

never_open : (sent refused : Bool) → sent ≡ false → (sent && not refused) ≡ false
never_open sent refused none = rw none refl

no_card : (b : Bool) → (b ≡ true → false ≡ true) → b ≡ false
no_card true there = sym (there refl)
no_card false there = refl

capture_fits : (outset : Outset) (ending : Ending) (card : Option ReadCard) (m : StateSoFarData) (sent refused : Bool)
    → m.is_open ≡ (sent && not refused)
    → (sent ≡ true → (is_some m.counter ≡ true) × (is_some card ≡ true))
    → (is_approved_ending ending ≡ true → (is_some m.last ≡ true) × (is_some card ≡ true))
    → captured_tag (capture outset ending card m) ≡ (if is_approved_ending ending then Some 0xE3 else reversal_due (sent && not refused))
capture_fits outset (Approved online) None m sent refused is_open when_sent when_good = absurd (cc ((when_good refl).1))
capture_fits outset (Declined online) None m sent refused is_open when_sent when_good = sym (ap reversal_due (never_open sent refused (no_card sent (λ is. (when_sent is).1))))
capture_fits outset (Terminated step cause) None m sent refused is_open when_sent when_good = sym (ap reversal_due (never_open sent refused (no_card sent (λ is. (when_sent is).1))))
capture_fits outset (CutOff step) None m sent refused is_open when_sent when_good = sym (ap reversal_due (never_open sent refused (no_card sent (λ is. (when_sent is).1))))
capture_fits outset (Approved online) (Some card) m sent refused is_open when_sent when_good = presented outset card m (when_good refl).0
capture_fits outset (Declined online) (Some card) m sent refused is_open when_sent when_good = reversed outset card m (sent && not refused) is_open (λ is. (when_sent (sent_if sent refused is)).0)
capture_fits outset (Terminated step cause) (Some card) m sent refused is_open when_sent when_good = reversed outset card m (sent && not refused) is_open (λ is. (when_sent (sent_if sent refused is)).0)
capture_fits outset (CutOff step) (Some card) m sent refused is_open when_sent when_good = reversed outset card m (sent && not refused) is_open (λ is. (when_sent (sent_if sent refused is)).0)

captured_by : (outset : Outset) (steps_done : List StepResult) (deed : Deed) (end : EndData) → Told outset (stands steps_done deed) → end_of outset (stands steps_done deed) ≡ Some end
    → captured_tag end.capture ≡ due_tag end.ending steps_done
captured_by outset steps_done (ToCard command) end told ends = absurd (cc ends)
captured_by outset steps_done (ToHost message) end told ends = absurd (cc ends)
captured_by outset steps_done (Over ending) end told ends =
    let same : end_with outset ending (latest sets_card None steps_done) (state_so_far steps_done) ≡ end = same_Some _ _ ends in
    rw (← same) (capture_fits outset ending (latest sets_card None steps_done) (state_so_far steps_done) (list_any is_sent steps_done) (list_any is_reply_refused steps_done) told.2 told.3 told.4)

pub captures_fit : (outset : Outset) (replies : List Reply) (end : EndData) → end_of outset (dialogue outset replies) ≡ Some end
    → captured_tag end.capture ≡ due_tag end.ending (dialogue outset replies).steps_done
captures_fit outset replies end ends = captured_by outset (dialogue outset replies).steps_done (dialogue outset replies).deed end (dialogue_told outset replies) ends
