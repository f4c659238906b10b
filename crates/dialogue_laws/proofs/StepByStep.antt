-- What each finished step leaves, and the authorisation response code, through the whole dialogue.
use Rattle.std.proofs.Common.{◌≡◌, refl, ap, ℕ, Bool, true, false, List, [], ◌∷◌, Option, Some, None, is_some, Result, Ok, Err, if◌then◌else◌}
use Rattle.std.specs.List.{AllByRecursion}
use Rattle.action_analysis.specs.Analysed.{codes_of}
use Rattle.auth_message.specs.Reply.{ReplyData, reply_of}
use Rattle.auth_message.specs.declared.fault.MessageFault.{MessageFault}
use Rattle.cvm_list.specs.Begun.{cvm}
use Rattle.dialogue_laws.proofs.Giving.{Gives, gives_any}
use Rattle.dialogue_laws.proofs.Leaving.{EachLeaves}
use Rattle.dialogue_laws.proofs.Walking.{deed_approves, card_all, dialogue_all}
use Rattle.kernel.proofs.Telling.{host_all, never}
use Rattle.emv_dict.specs.Progress.{Progress, Wants, Stopped, Done}
use Rattle.emv_dict.specs.Views.{AcData}
use Rattle.emv_dict.specs.declared.ending.Ending.{Ending}
use Rattle.emv_dict.specs.declared.ending.Ending.TheVariants.{Approved, Declined, CutOff}
use Rattle.emv_dict.specs.declared.ending.Kind.{Kind}
use Rattle.emv_dict.specs.declared.ending.Kind.TheVariants.{Tc, Aac, Arqc}
use Rattle.emv_dict.specs.declared.ending.Step.TheVariants as step
use Rattle.emv_dict.specs.declared.judged.Judged.{Judged}
use Rattle.emv_dict.specs.declared.purchase.Logged.{Logged}
use Rattle.emv_dict.specs.declared.verified.Verified.{Verified}
use Rattle.kernel.specs.StepsInTurn.{Standing, Rest, stands, by_progress, cut_off, host_step}
use Rattle.kernel.specs.Dialogue.{TransactionData, objects_at, all_failed, left_script, scripts_behind, second, scripts_before, issuer_authentication, authentication_by, has_authentication, unable_online, kind_unable, reply_read, replied, is_offline_only, first_answered, first, analysis, risk, verification, restrictions, dialogue, decision, kind_for, kind_wanted}
use Rattle.kernel.specs.Reply.{Reply, Deed, ToCard, ToHost, Over}
use Rattle.kernel.specs.declared.stage.OnlineOutcome.{OnlineOutcome}
use Rattle.kernel.specs.declared.stage.OnlineOutcome.TheVariants.{Replied, Unable}
use Rattle.object_lists.specs.CardRead.{ReadCard}
use Rattle.online_step.specs.Authenticate.{authentication_step}
use Rattle.online_step.specs.Generate.{generated, list_data}
use Rattle.online_step.specs.declared.ac.GenerateAc.TheVariants as generate
use Rattle.restrictions.specs.Restricted.{restricted}
use Rattle.risk_mgmt.specs.Risky.{risky}
use Rattle.script_run.specs.Ran.{template_ran, no_script}
use Rattle.terminal_state.specs.StepResults.{StepResult, analysed_by, state_so_far, latest, open_of, sets_code, offline_code, HasRead, HasRestricted, HasVerified, HasJudged, HasAnalysed, HasFirst, HasReply, WasUnable, HasAuthenticated, HasRunBefore, HasSecond, HasRunBehind}
use Rattle.terminal_state.specs.Scripts.{templates_of_tag, kept_host_reply}
use Rattle.terminal_state.specs.Terminal.{Outset}
use Rattle.terminal_state.specs.declared.state_so_far.OnlineRequest.{OnlineRequest}
use Rattle.terminal_state.specs.declared.state_so_far.OnlineRequest.TheVariants.{Sent, NotSent}

abbrev pub HasCode : List StepResult → Type 0
HasCode steps_done = is_some (latest sets_code None steps_done) ≡ true

-- what holds of each place where a dialogue stands: where a request may be reversed, or the payment is approved, there is a code
abbrev pub Sound : (StepResult → Type 0) → Standing StepResult → Type 0
Sound P s = AllByRecursion P s.steps_done × (latest open_of false s.steps_done ≡ true → HasCode s.steps_done) × (deed_approves s.deed ≡ true → HasCode s.steps_done)

-- before the host is heard
abbrev Before : (StepResult → Type 0) → List StepResult → Type 0
Before P steps_done = AllByRecursion P steps_done × (latest open_of false steps_done ≡ false)

-- and behind it
abbrev After : (StepResult → Type 0) → List StepResult → Type 0
After P steps_done = AllByRecursion P steps_done × HasCode steps_done

module _ (P : StepResult → Type 0) where
  before_sound : (steps_done : List StepResult) → Before P steps_done → (deed : Deed) → deed_approves deed ≡ false → Sound P (stands steps_done deed)
  before_sound steps_done b deed plain = (b.0, λ is. never (latest open_of false steps_done) b.1 is, λ is. never (deed_approves deed) plain is)

  after_sound : (steps_done : List StepResult) → After P steps_done → (deed : Deed) → Sound P (stands steps_done deed)
  after_sound steps_done a deed = (a.0, λ is. a.1, λ is. a.1)

  opening_sound : (deed : Deed) → deed_approves deed ≡ false → Sound P (stands [] deed)
  opening_sound deed plain = before_sound [] (tt, refl) deed plain

  module _ (outset : Outset) (leaves : EachLeaves outset P) where
    failed_after : (others : List (List ℕ)) (steps_done : List StepResult) → After P steps_done → After P (all_failed others steps_done)
    failed_after [] steps_done a = a
    failed_after (template ∷ others) steps_done a = failed_after others (HasRunBehind no_script ∷ steps_done) ((leaves.failed, a.0), a.1)

    left_sound : (ending : Ending) (others : List (List ℕ)) (steps_done : List StepResult) → After P steps_done → (progress : Progress (List ℕ)) → Gives (λ result. P (HasRunBehind result)) progress
        → Sound P (by_progress (λ command. stands steps_done (Over ending)) (λ cause. stands steps_done (Over ending)) (λ result. stands (all_failed others (HasRunBehind result ∷ steps_done)) (Over ending)) progress)
    left_sound ending others steps_done a (Wants command) gives = after_sound steps_done a (Over ending)
    left_sound ending others steps_done a (Stopped cause) gives = after_sound steps_done a (Over ending)
    left_sound ending others steps_done a (Done result rest) gives =
        after_sound (all_failed others (HasRunBehind result ∷ steps_done)) (failed_after others (HasRunBehind result ∷ steps_done) ((gives, a.0), a.1)) (Over ending)

    scripts_behind_sound : (ending : Ending) (scripts : List (List ℕ)) (steps_done : List StepResult) → After P steps_done → (log : List Logged) (replies : List Reply)
        → Sound P (scripts_behind ending scripts steps_done log replies)
    unfolding scripts_behind
    scripts_behind_sound ending [] steps_done a log replies = after_sound steps_done a (Over ending)
    scripts_behind_sound ending (template ∷ others) steps_done a log replies =
        card_all (λ (result : List ℕ). P (HasRunBehind result)) (left_script ending others steps_done) step.Script steps_done (λ result. scripts_behind ending others (HasRunBehind result ∷ steps_done)) (Sound P)
        (λ command. after_sound steps_done a (ToCard command)) (λ at plain. after_sound steps_done a (Over at))
        (λ cut course gives. left_sound ending others steps_done a (course ([] ∷ [])) (gives ([] ∷ [])))
        (λ result is. scripts_behind_sound ending others (HasRunBehind result ∷ steps_done) ((is, a.0), a.1))
        step.Script (template_ran template) (leaves.behind template) log replies

    second_sound : (transaction : TransactionData) (outcome : OnlineOutcome) (asked : Kind) (behind : List (List ℕ)) (steps_done : List StepResult) → After P steps_done → (log : List Logged) (replies : List Reply)
        → Sound P (second transaction outcome asked behind steps_done log replies)
    unfolding second
    second_sound transaction outcome asked behind steps_done a log replies =
        card_all (λ (ac : AcData). P (HasSecond ac)) (cut_off steps_done) step.Second steps_done (λ ac. scripts_behind (decision outcome ac.kind) behind (HasSecond ac ∷ steps_done)) (Sound P)
        (λ command. after_sound steps_done a (ToCard command)) (λ at plain. after_sound steps_done a (Over at)) (λ cut course gives. after_sound steps_done a (Over (CutOff cut)))
        (λ ac is. scripts_behind_sound (decision outcome ac.kind) behind (HasSecond ac ∷ steps_done) ((is, a.0), a.1))
        step.Second (generated 0x8D asked generate.Second (list_data 0x8D transaction.card (objects_at transaction steps_done)))
        (leaves.second asked (list_data 0x8D transaction.card (objects_at transaction steps_done))) log replies

    scripts_before_sound : (transaction : TransactionData) (reply : ReplyData) (scripts : List (List ℕ)) (steps_done : List StepResult) → After P steps_done → (log : List Logged) (replies : List Reply)
        → Sound P (scripts_before transaction reply scripts steps_done log replies)
    unfolding scripts_before
    scripts_before_sound transaction reply [] steps_done a log replies = second_sound transaction Replied (kind_for reply.code) (templates_of_tag 0x72 reply.scripts) steps_done a log replies
    scripts_before_sound transaction reply (template ∷ others) steps_done a log replies =
        card_all (λ (result : List ℕ). P (HasRunBefore result)) (cut_off steps_done) step.Script steps_done (λ result. scripts_before transaction reply others (HasRunBefore result ∷ steps_done)) (Sound P)
        (λ command. after_sound steps_done a (ToCard command)) (λ at plain. after_sound steps_done a (Over at)) (λ cut course gives. after_sound steps_done a (Over (CutOff cut)))
        (λ result is. scripts_before_sound transaction reply others (HasRunBefore result ∷ steps_done) ((is, a.0), a.1))
        step.Script (template_ran template) (leaves.before template) log replies

    authentication_by_sound : (transaction : TransactionData) (reply : ReplyData) (steps_done : List StepResult) → After P steps_done → (has : Bool) (auth : Option (List ℕ)) (log : List Logged) (replies : List Reply)
        → Sound P (authentication_by transaction reply steps_done has auth log replies)
    authentication_by_sound transaction reply steps_done a has None log replies = scripts_before_sound transaction reply (templates_of_tag 0x71 reply.scripts) steps_done a log replies
    authentication_by_sound transaction reply steps_done a false (Some value) log replies = scripts_before_sound transaction reply (templates_of_tag 0x71 reply.scripts) steps_done a log replies
    authentication_by_sound transaction reply steps_done a true (Some value) log replies =
        card_all (λ (good : Bool). P (HasAuthenticated good)) (cut_off steps_done) step.Authenticate steps_done (λ good. scripts_before transaction reply (templates_of_tag 0x71 reply.scripts) (HasAuthenticated good ∷ steps_done)) (Sound P)
        (λ command. after_sound steps_done a (ToCard command)) (λ at plain. after_sound steps_done a (Over at)) (λ cut course gives. after_sound steps_done a (Over (CutOff cut)))
        (λ good is. scripts_before_sound transaction reply (templates_of_tag 0x71 reply.scripts) (HasAuthenticated good ∷ steps_done) ((is, a.0), a.1))
        step.Authenticate (authentication_step value) (λ answers. gives_any (λ (good : Bool). P (HasAuthenticated good)) leaves.authenticated (authentication_step value answers)) log replies

    authentication_sound : (transaction : TransactionData) (reply : ReplyData) (steps_done : List StepResult) → After P steps_done → (log : List Logged) (replies : List Reply)
        → Sound P (issuer_authentication transaction reply steps_done log replies)
    unfolding issuer_authentication
    authentication_sound transaction reply steps_done a = authentication_by_sound transaction reply steps_done a (has_authentication transaction.card) reply.auth

    unable_sound : (transaction : TransactionData) (request : OnlineRequest) (steps_done : List StepResult) → AllByRecursion P steps_done → (log : List Logged) (replies : List Reply)
        → Sound P (unable_online transaction request steps_done log replies)
    unfolding unable_online
    unable_sound transaction request steps_done all =
        second_sound transaction Unable (kind_unable transaction steps_done) [] (WasUnable request (kind_unable transaction steps_done) ∷ steps_done)
        ((leaves.unable_online request (state_so_far steps_done).tvr (codes_of transaction.card transaction.row) transaction.outset.settings.kind, all), refl)

    reply_sound : (transaction : TransactionData) (steps_done : List StepResult) → AllByRecursion P steps_done → (said : List ℕ) (reading : Result ReplyData MessageFault) → reply_of said ≡ reading
        → (log : List Logged) (replies : List Reply) → Sound P (reply_read transaction steps_done reading log replies)
    reply_sound transaction steps_done all said (Ok reply) is = authentication_sound transaction (kept_host_reply reply) (HasReply reply ∷ steps_done) ((leaves.replied said reply is, all), refl)
    reply_sound transaction steps_done all said (Err fault) is = unable_sound transaction Sent steps_done all

    replied_sound : (transaction : TransactionData) (steps_done : List StepResult) → AllByRecursion P steps_done → (heard : Option (List ℕ)) (log : List Logged) (replies : List Reply)
        → Sound P (replied transaction steps_done heard log replies)
    replied_sound transaction steps_done all None = unable_sound transaction Sent steps_done all
    replied_sound transaction steps_done all (Some said) = reply_sound transaction steps_done all said (reply_of said) refl

    online_by_sound : (transaction : TransactionData) (steps_done : List StepResult) (message : List ℕ) → Before P steps_done → (test : Bool) (log : List Logged) (replies : List Reply)
        → Sound P (let rest : Rest StepResult = (if test then unable_online transaction NotSent steps_done else host_step steps_done message (replied transaction steps_done)) in rest log replies)
    online_by_sound transaction steps_done message b true = unable_sound transaction NotSent steps_done b.0
    online_by_sound transaction steps_done message b false =
        host_all steps_done message (replied transaction steps_done) (Sound P) (before_sound steps_done b (ToHost message) refl) (replied_sound transaction steps_done b.0)

    -- approved offline, the code is that of the first cryptogram
    first_answered_sound : (transaction : TransactionData) (ac : AcData) (steps_done : List StepResult) → Before P (HasFirst ac ∷ steps_done) → (kind : Kind) → ac.kind ≡ kind → (log : List Logged) (replies : List Reply)
        → Sound P (first_answered transaction ac (HasFirst ac ∷ steps_done) kind log replies)
    first_answered_sound transaction ac steps_done b Tc is log replies =
        after_sound (HasFirst ac ∷ steps_done) (b.0, ap (λ (kind : Kind). is_some (offline_code kind)) is) (Over (Approved false))
    first_answered_sound transaction ac steps_done b Aac is log replies = before_sound (HasFirst ac ∷ steps_done) b (Over (Declined false)) refl
    first_answered_sound transaction ac steps_done b Arqc is log replies =
        online_by_sound transaction (HasFirst ac ∷ steps_done) _ b (is_offline_only transaction.outset.settings.kind) log replies

    first_sound : (transaction : TransactionData) (asked : Kind) (steps_done : List StepResult) → Before P steps_done → (log : List Logged) (replies : List Reply) → Sound P (first transaction asked steps_done log replies)
    unfolding first
    first_sound transaction asked steps_done b log replies =
        card_all (λ (ac : AcData). P (HasFirst ac)) (cut_off steps_done) step.First steps_done (λ ac. first_answered transaction ac (HasFirst ac ∷ steps_done) ac.kind) (Sound P)
        (λ command. before_sound steps_done b (ToCard command) refl) (λ at plain. before_sound steps_done b (Over at) plain)
        (λ cut course gives. before_sound steps_done b (Over (CutOff cut)) refl)
        (λ ac is. first_answered_sound transaction ac steps_done ((is, b.0), b.1) ac.kind refl)
        step.First (generated 0x8C asked generate.First (list_data 0x8C transaction.card (objects_at transaction steps_done)))
        (λ answers. gives_any (λ (ac : AcData). P (HasFirst ac)) leaves.first (generated 0x8C asked generate.First (list_data 0x8C transaction.card (objects_at transaction steps_done)) answers)) log replies

    analysis_sound : (transaction : TransactionData) (steps_done : List StepResult) → Before P steps_done → (log : List Logged) (replies : List Reply) → Sound P (analysis transaction steps_done log replies)
    unfolding analysis
    analysis_sound transaction steps_done b =
        first_sound transaction (kind_wanted transaction steps_done) (HasAnalysed (analysed_by transaction.row (kind_wanted transaction steps_done)) ∷ steps_done) ((leaves.analysed (analysed_by transaction.row (kind_wanted transaction steps_done)), b.0), b.1)

    risk_sound : (transaction : TransactionData) (steps_done : List StepResult) → Before P steps_done → (log : List Logged) (replies : List Reply) → Sound P (risk transaction steps_done log replies)
    unfolding risk
    risk_sound transaction steps_done b log replies =
        card_all (λ (judged : Judged). P (HasJudged judged)) (cut_off steps_done) step.Risk steps_done (λ judged. analysis transaction (HasJudged judged ∷ steps_done)) (Sound P)
        (λ command. before_sound steps_done b (ToCard command) refl) (λ at plain. before_sound steps_done b (Over at) plain)
        (λ cut course gives. before_sound steps_done b (Over (CutOff cut)) refl)
        (λ judged is. analysis_sound transaction (HasJudged judged ∷ steps_done) ((is, b.0), b.1))
        step.Risk (risky transaction.card transaction.outset.settings transaction.row transaction.outset.purchase log)
        (λ answers. gives_any (λ (judged : Judged). P (HasJudged judged)) leaves.judged (risky transaction.card transaction.outset.settings transaction.row transaction.outset.purchase log answers)) log replies

    verification_sound : (transaction : TransactionData) (steps_done : List StepResult) → transaction.outset ≡ outset → Before P steps_done → (log : List Logged) (replies : List Reply) → Sound P (verification transaction steps_done log replies)
    unfolding verification
    verification_sound transaction steps_done is b log replies =
        card_all (λ (verified : Verified). P (HasVerified verified)) (cut_off steps_done) step.Verify steps_done (λ verified. risk transaction (HasVerified verified ∷ steps_done)) (Sound P)
        (λ command. before_sound steps_done b (ToCard command) refl) (λ at plain. before_sound steps_done b (Over at) plain)
        (λ cut course gives. before_sound steps_done b (Over (CutOff cut)) refl)
        (λ verified found. risk_sound transaction (HasVerified verified ∷ steps_done) ((found, b.0), b.1))
        step.Verify (cvm transaction.card transaction.outset.settings transaction.outset.purchase)
        (λ answers. rw is (leaves.verified transaction.card answers)) log replies

    restrictions_sound : (transaction : TransactionData) → transaction.outset ≡ outset → P (HasRead transaction.card) → (log : List Logged) (replies : List Reply) → Sound P (restrictions transaction log replies)
    unfolding restrictions
    restrictions_sound transaction is read =
        let bits = restricted transaction.card transaction.outset.settings transaction.row transaction.outset.purchase in
        verification_sound transaction (HasRestricted bits ∷ HasRead transaction.card ∷ []) is ((leaves.restricted bits, (read, tt)), refl)

    pub dialogue_sound : (replies : List Reply) → Sound P (dialogue outset replies)
    dialogue_sound replies =
        dialogue_all outset (λ (card : ReadCard). P (HasRead card)) leaves.read (Sound P) opening_sound
        (λ row card read. restrictions_sound (record { outset = outset; row = row; card = card }) refl read) replies
