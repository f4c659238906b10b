-- A bit of the terminal verification results that stands belongs to a step that is finished.
use Rattle.std.proofs.Common.{◌≡◌, ◌⊎◌, inl, inr, refl, sym, ap, ◌∙◌, ℕ, zero, suc, ◌≤◌, ◌<◌, ◌==◌, max, Bool, true, false, not, ◌||◌, List, [], ◌∷◌, bit_or, Option, Some, None, Result, Ok, Err, if◌then◌else◌, arith}
use Rattle.std.specs.Int.{bit_at}
use Rattle.std.specs.List.{AllByRecursion, list_any}
use Rattle.std.proofs.lemmas.Nat.Bits.{bit_at_or, bit_at-lt, bit_at-zero}
use Rattle.auth_message.specs.Reply.{ReplyData, reply_of}
use Rattle.auth_message.specs.declared.fault.MessageFault.{MessageFault}
use Rattle.cvm_list.proofs.Own as verification_bits
use Rattle.cvm_list.specs.Begun.{cvm}
use Rattle.cvm_list.specs.OwnBits as verification_law
use Rattle.emv_dict.specs.Flags.{tvr_bit}
use Rattle.emv_dict.specs.Progress.{Progress, Wants, Stopped, Done}
use Rattle.emv_dict.specs.Views.{AcData}
use Rattle.emv_dict.specs.declared.ending.Ending.{Ending}
use Rattle.emv_dict.specs.declared.ending.Kind.{Kind}
use Rattle.emv_dict.specs.declared.ending.Kind.TheVariants.{Tc, Aac, Arqc}
use Rattle.emv_dict.specs.declared.ending.Step.{Step}
use Rattle.emv_dict.specs.declared.ending.Step.TheVariants as step
use Rattle.emv_dict.specs.declared.judged.Judged.{Judged}
use Rattle.emv_dict.specs.declared.purchase.Logged.{Logged}
use Rattle.emv_dict.specs.declared.verified.Verified.{Verified}
use Rattle.kernel.proofs.Telling.{card_all, host_all, dialogue_all}
use Rattle.kernel.specs.StepsInTurn.{Standing, Rest, stands, by_progress, then_step, card_step, cut_off, host_step}
use Rattle.kernel.specs.Dialogue.{TransactionData, all_failed, left_script, scripts_behind, second, scripts_before, issuer_authentication, authentication_by, has_authentication, unable_online, kind_unable, reply_read, replied, is_offline_only, first_answered, first, analysis, risk, verification, restrictions, dialogue, decision, kind_for, kind_wanted}
use Rattle.kernel.specs.Laws.{bits_of_step, BitsBelong}
use Rattle.kernel.specs.Reply.{Reply, CardSaid, CardGone, HostSaid, HostSilent, Over}
use Rattle.kernel.specs.declared.stage.OnlineOutcome.{OnlineOutcome}
use Rattle.kernel.specs.declared.stage.OnlineOutcome.TheVariants.{Replied, Unable}
use Rattle.online_step.specs.Authenticate.{authentication_step}
use Rattle.restrictions.proofs.OwnBits.{restricted_own}
use Rattle.restrictions.specs.Restricted.{restricted}
use Rattle.risk_mgmt.proofs.OwnBits as risk_bits
use Rattle.risk_mgmt.specs.Laws as risk_law
use Rattle.risk_mgmt.specs.Risky.{risky}
use Rattle.script_run.specs.Ran.{template_ran, no_script}
use Rattle.terminal_state.specs.StepResults.{StepResult, sets_tvr, bits_if, with_bits, union, ran_whole, HasRead, HasRestricted, HasVerified, HasJudged, HasAnalysed, HasFirst, HasReply, WasUnable, HasAuthenticated, HasRunBefore, HasSecond, HasRunBehind, analysed_by}
use Rattle.terminal_state.specs.Scripts.{templates_of_tag, kept_host_reply}
use Rattle.terminal_state.specs.declared.state_so_far.OnlineRequest.{OnlineRequest}
use Rattle.terminal_state.specs.declared.state_so_far.OnlineRequest.TheVariants.{Sent, NotSent}

-- a step's bits stand among these
abbrev AreAmong : ℕ → Option ℕ → Type 0
AreAmong own None = Unit {0}
AreAmong own (Some bits) = (place : ℕ) → bit_at bits place ≤ bit_at own place

abbrev AllOwn : List StepResult → Type 0
AllOwn steps_done = AllByRecursion (λ step_result. AreAmong (bits_of_step step_result) (sets_tvr step_result)) steps_done

among : (bits own : ℕ) → bit_or bits own ≡ own → (place : ℕ) → bit_at bits place ≤ bit_at own place
among bits own same place =
    let joined : max (bit_at bits place) (bit_at own place) ≡ bit_at own place = sym (bit_at_or bits own place) ∙ ap (λ n. bit_at n place) same in
    omega arith

among_if : (b : Bool) (bits own : ℕ) → bit_or bits own ≡ own → (place : ℕ) → bit_at (bits_if b bits) place ≤ bit_at own place
among_if true bits own same place = among bits own same place
among_if false bits own same place = omega (arith, bit_at-zero place)

one_of_two : (n : ℕ) → n < 2 → (n ≡ 0) ⊎ (n ≡ 1)
one_of_two zero small = inl refl
one_of_two (suc zero) small = inr refl
one_of_two (suc (suc n)) small = absurd (omega arith)

or_else : (b found : Bool) → found ≡ true → (b || found) ≡ true
or_else true found is = refl
or_else false found is = is

or_first : (n : ℕ) (found : Bool) → n ≡ 1 → ((n == 1) || found) ≡ true
or_first n found is = rw is refl

-- a bit of one step's or of an earlier one's
of_either : (a b own n : ℕ) (found : Bool) → a < 2 → own < 2 → b ≤ own → n ≡ max a b → (a ≡ 1 → found ≡ true) → n ≡ 1 → ((own == 1) || found) ≡ true
of_either a b own n found low few below is earlier stands =
    elim (one_of_two a low) [
      | inl none ↦ or_first own found (omega arith)
      | inr there ↦ or_else (own == 1) found (earlier there)
    ]

joined : (given : Option ℕ) (own set place : ℕ) (found : Bool) → AreAmong own given → (bit_at set place ≡ 1 → found ≡ true)
    → bit_at (with_bits given set) place ≡ 1 → ((bit_at own place == 1) || found) ≡ true
joined None own set place found among earlier stands = or_else (bit_at own place == 1) found (earlier stands)
joined (Some bits) own set place found among earlier stands =
    of_either (bit_at set place) (bit_at bits place) (bit_at own place) _ found (bit_at-lt set place) (bit_at-lt own place) (among place)
    (bit_at_or set bits place) earlier stands

belong : (steps_done : List StepResult) (place : ℕ) → AllOwn steps_done → bit_at (union sets_tvr steps_done) place ≡ 1 → list_any (λ step_result. bit_at (bits_of_step step_result) place == 1) steps_done ≡ true
belong [] place own stands = absurd (omega (arith, bit_at-zero place))
belong (step_result ∷ steps_done) place own stands =
    joined (sets_tvr step_result) (bits_of_step step_result) (union sets_tvr steps_done) place (list_any (λ step_result. bit_at (bits_of_step step_result) place == 1) steps_done) own.0 (belong steps_done place own.1) stands

-- a step's value, where it has one
abbrev Gives : {A : Type 0} → (A → Type 0) → Progress A → Type 0
Gives P (Wants command) = Unit {0}
Gives P (Stopped cause) = Unit {0}
Gives P (Done value rest) = P value

module _ {A : Type 0} (P : A → Type 0) (step : Step) (steps_done : List StepResult) (next : A → Rest StepResult) (own : AllOwn steps_done)
    (keeps : (value : A) → P value → (log : List Logged) (replies : List Reply) → AllOwn (next value log replies).steps_done) where
  settle_own : (log : List Logged) (replies : List Reply) (wanted : List ℕ → Standing StepResult) (progress : Progress A) → Gives P progress → ((command : List ℕ) → AllOwn (wanted command).steps_done)
      → AllOwn (then_step step steps_done next log replies wanted progress).steps_done
  settle_own log replies wanted (Wants command) gives wants = wants command
  settle_own log replies wanted (Stopped cause) gives wants = own
  settle_own log replies wanted (Done value rest) gives wants = keeps value gives log replies

  card_own : (cut : Step) (course : List (List ℕ) → Progress A) → ((answers : List (List ℕ)) → Gives P (course answers)) → (log : List Logged) (replies : List Reply)
      → AllOwn (card_step (cut_off steps_done) cut step steps_done course next log replies).steps_done
  unfolding card_step
  card_own cut course gives log [] = settle_own log [] _ (course []) (gives []) (λ command. own)
  card_own cut course gives log (CardSaid answer now ∷ replies) =
      settle_own log (CardSaid answer now ∷ replies) _ (course []) (gives [])
      (λ command. card_own step (λ later. course (answer ∷ later)) (λ later. gives (answer ∷ later)) now replies)
  card_own cut course gives log (CardGone ∷ replies) = settle_own log (CardGone ∷ replies) _ (course []) (gives []) (λ command. own)
  card_own cut course gives log (HostSaid said ∷ replies) = settle_own log (HostSaid said ∷ replies) _ (course []) (gives []) (λ command. own)
  card_own cut course gives log (HostSilent ∷ replies) = settle_own log (HostSilent ∷ replies) _ (course []) (gives []) (λ command. own)

abbrev Owns : Standing StepResult → Type 0
Owns s = AllOwn s.steps_done

run_behind : (result : List ℕ) → AreAmong 0x0000000010 (sets_tvr (HasRunBehind result))
run_behind result = among_if (not (ran_whole result)) (tvr_bit 5 5) 0x0000000010 refl

run_before : (result : List ℕ) → AreAmong 0x0000000020 (sets_tvr (HasRunBefore result))
run_before result = among_if (not (ran_whole result)) (tvr_bit 5 6) 0x0000000020 refl

failed_own : (others : List (List ℕ)) (steps_done : List StepResult) → AllOwn steps_done → AllOwn (all_failed others steps_done)
failed_own [] steps_done own = own
failed_own (template ∷ others) steps_done own = failed_own others (HasRunBehind no_script ∷ steps_done) (run_behind no_script, own)

left_own : (ending : Ending) (others : List (List ℕ)) (steps_done : List StepResult) → AllOwn steps_done → (progress : Progress (List ℕ))
    → Owns (by_progress (λ command. stands steps_done (Over ending)) (λ cause. stands steps_done (Over ending)) (λ result. stands (all_failed others (HasRunBehind result ∷ steps_done)) (Over ending)) progress)
left_own ending others steps_done own (Wants command) = own
left_own ending others steps_done own (Stopped cause) = own
left_own ending others steps_done own (Done result rest) = failed_own others (HasRunBehind result ∷ steps_done) (run_behind result, own)

scripts_behind_own : (ending : Ending) (scripts : List (List ℕ)) (steps_done : List StepResult) → AllOwn steps_done → (log : List Logged) (replies : List Reply)
    → Owns (scripts_behind ending scripts steps_done log replies)
unfolding scripts_behind
scripts_behind_own ending [] steps_done own log replies = own
scripts_behind_own ending (template ∷ others) steps_done own log replies =
    card_all (left_script ending others steps_done) step.Script steps_done (λ result. scripts_behind ending others (HasRunBehind result ∷ steps_done)) Owns
    (λ command. own) (λ at plain. own)
    (λ cut course. left_own ending others steps_done own (course ([] ∷ [])))
    (λ result. scripts_behind_own ending others (HasRunBehind result ∷ steps_done) (run_behind result, own))
    step.Script (template_ran template) log replies

second_own : (transaction : TransactionData) (outcome : OnlineOutcome) (asked : Kind) (behind : List (List ℕ)) (steps_done : List StepResult) → AllOwn steps_done → (log : List Logged) (replies : List Reply)
    → Owns (second transaction outcome asked behind steps_done log replies)
unfolding second
second_own transaction outcome asked behind steps_done own log replies =
    card_all (cut_off steps_done) step.Second steps_done (λ ac. scripts_behind (decision outcome ac.kind) behind (HasSecond ac ∷ steps_done)) Owns
    (λ command. own) (λ at plain. own) (λ cut course. own)
    (λ ac. scripts_behind_own (decision outcome ac.kind) behind (HasSecond ac ∷ steps_done) (tt, own))
    step.Second _ log replies

scripts_before_own : (transaction : TransactionData) (reply : ReplyData) (scripts : List (List ℕ)) (steps_done : List StepResult) → AllOwn steps_done → (log : List Logged) (replies : List Reply)
    → Owns (scripts_before transaction reply scripts steps_done log replies)
unfolding scripts_before
scripts_before_own transaction reply [] steps_done own log replies = second_own transaction Replied (kind_for reply.code) (templates_of_tag 0x72 reply.scripts) steps_done own log replies
scripts_before_own transaction reply (template ∷ others) steps_done own log replies =
    card_all (cut_off steps_done) step.Script steps_done (λ result. scripts_before transaction reply others (HasRunBefore result ∷ steps_done)) Owns
    (λ command. own) (λ at plain. own) (λ cut course. own)
    (λ result. scripts_before_own transaction reply others (HasRunBefore result ∷ steps_done) (run_before result, own))
    step.Script (template_ran template) log replies

authentication_by_own : (transaction : TransactionData) (reply : ReplyData) (steps_done : List StepResult) → AllOwn steps_done → (has : Bool) (auth : Option (List ℕ)) (log : List Logged) (replies : List Reply)
    → Owns (authentication_by transaction reply steps_done has auth log replies)
authentication_by_own transaction reply steps_done own has None log replies = scripts_before_own transaction reply (templates_of_tag 0x71 reply.scripts) steps_done own log replies
authentication_by_own transaction reply steps_done own false (Some value) log replies = scripts_before_own transaction reply (templates_of_tag 0x71 reply.scripts) steps_done own log replies
authentication_by_own transaction reply steps_done own true (Some value) log replies =
    card_all (cut_off steps_done) step.Authenticate steps_done (λ good. scripts_before transaction reply (templates_of_tag 0x71 reply.scripts) (HasAuthenticated good ∷ steps_done)) Owns
    (λ command. own) (λ at plain. own) (λ cut course. own)
    (λ good. scripts_before_own transaction reply (templates_of_tag 0x71 reply.scripts) (HasAuthenticated good ∷ steps_done)
    (among_if (not good) (tvr_bit 5 7) 0x0000000040 refl, own))
    step.Authenticate (authentication_step value) log replies

authentication_own : (transaction : TransactionData) (reply : ReplyData) (steps_done : List StepResult) → AllOwn steps_done → (log : List Logged) (replies : List Reply) → Owns (issuer_authentication transaction reply steps_done log replies)
unfolding issuer_authentication
authentication_own transaction reply steps_done own = authentication_by_own transaction reply steps_done own (has_authentication transaction.card) reply.auth

unable_own : (transaction : TransactionData) (request : OnlineRequest) (steps_done : List StepResult) → AllOwn steps_done → (log : List Logged) (replies : List Reply) → Owns (unable_online transaction request steps_done log replies)
unfolding unable_online
unable_own transaction request steps_done own = second_own transaction Unable (kind_unable transaction steps_done) [] (WasUnable request (kind_unable transaction steps_done) ∷ steps_done) (tt, own)

reply_own : (transaction : TransactionData) (steps_done : List StepResult) → AllOwn steps_done → (said : Result ReplyData MessageFault) (log : List Logged) (replies : List Reply) → Owns (reply_read transaction steps_done said log replies)
reply_own transaction steps_done own (Ok reply) = authentication_own transaction (kept_host_reply reply) (HasReply reply ∷ steps_done) (tt, own)
reply_own transaction steps_done own (Err fault) = unable_own transaction Sent steps_done own

replied_own : (transaction : TransactionData) (steps_done : List StepResult) → AllOwn steps_done → (heard : Option (List ℕ)) (log : List Logged) (replies : List Reply) → Owns (replied transaction steps_done heard log replies)
replied_own transaction steps_done own None = unable_own transaction Sent steps_done own
replied_own transaction steps_done own (Some said) = reply_own transaction steps_done own (reply_of said)

online_by_own : (transaction : TransactionData) (steps_done : List StepResult) (message : List ℕ) → AllOwn steps_done → (test : Bool) (log : List Logged) (replies : List Reply)
    → Owns (let rest : Rest StepResult = (if test then unable_online transaction NotSent steps_done else host_step steps_done message (replied transaction steps_done)) in rest log replies)
online_by_own transaction steps_done message own true = unable_own transaction NotSent steps_done own
online_by_own transaction steps_done message own false = host_all steps_done message (replied transaction steps_done) Owns own (replied_own transaction steps_done own)

first_answered_own : (transaction : TransactionData) (ac : AcData) (steps_done : List StepResult) → AllOwn steps_done → (kind : Kind) (log : List Logged) (replies : List Reply) → Owns (first_answered transaction ac steps_done kind log replies)
first_answered_own transaction ac steps_done own Tc log replies = own
first_answered_own transaction ac steps_done own Aac log replies = own
first_answered_own transaction ac steps_done own Arqc log replies = online_by_own transaction steps_done _ own (is_offline_only transaction.outset.settings.kind) log replies

first_own : (transaction : TransactionData) (asked : Kind) (steps_done : List StepResult) → AllOwn steps_done → (log : List Logged) (replies : List Reply) → Owns (first transaction asked steps_done log replies)
unfolding first
first_own transaction asked steps_done own log replies =
    card_all (cut_off steps_done) step.First steps_done (λ ac. first_answered transaction ac (HasFirst ac ∷ steps_done) ac.kind) Owns
    (λ command. own) (λ at plain. own) (λ cut course. own)
    (λ ac. first_answered_own transaction ac (HasFirst ac ∷ steps_done) (tt, own) ac.kind)
    step.First _ log replies

analysis_own : (transaction : TransactionData) (steps_done : List StepResult) → AllOwn steps_done → (log : List Logged) (replies : List Reply) → Owns (analysis transaction steps_done log replies)
unfolding analysis
analysis_own transaction steps_done own = first_own transaction (kind_wanted transaction steps_done) (HasAnalysed (analysed_by transaction.row (kind_wanted transaction steps_done)) ∷ steps_done) (tt, own)

judged_gives : (progress : Progress Judged) → risk_law.FindsRiskBits progress → Gives (λ judged. risk_law.AreRiskBits judged.tvr.0) progress
judged_gives (Wants command) finds = tt
judged_gives (Stopped cause) finds = tt
judged_gives (Done judged rest) finds = finds

risk_own : (transaction : TransactionData) (steps_done : List StepResult) → AllOwn steps_done → (log : List Logged) (replies : List Reply) → Owns (risk transaction steps_done log replies)
unfolding risk
risk_own transaction steps_done own log replies =
    card_own (λ (judged : Judged). risk_law.AreRiskBits judged.tvr.0) step.Risk steps_done (λ judged. analysis transaction (HasJudged judged ∷ steps_done)) own
    (λ judged finds. analysis_own transaction (HasJudged judged ∷ steps_done) (finds, own))
    step.Risk (risky transaction.card transaction.outset.settings transaction.row transaction.outset.purchase log)
    (λ answers. judged_gives (risky transaction.card transaction.outset.settings transaction.row transaction.outset.purchase log answers)
    (risk_bits.bits_own transaction.card transaction.outset.settings transaction.row transaction.outset.purchase log answers)) log replies

verified_gives : (progress : Progress Verified) → verification_law.FindsVerificationBits progress → Gives (λ verified. verification_law.AreVerificationBits verified.tvr.0) progress
verified_gives (Wants command) finds = tt
verified_gives (Stopped cause) finds = tt
verified_gives (Done verified rest) finds = finds

verification_own : (transaction : TransactionData) (steps_done : List StepResult) → AllOwn steps_done → (log : List Logged) (replies : List Reply) → Owns (verification transaction steps_done log replies)
unfolding verification
verification_own transaction steps_done own log replies =
    card_own (λ (verified : Verified). verification_law.AreVerificationBits verified.tvr.0) step.Verify steps_done (λ verified. risk transaction (HasVerified verified ∷ steps_done)) own
    (λ verified finds. risk_own transaction (HasVerified verified ∷ steps_done) (finds, own))
    step.Verify (cvm transaction.card transaction.outset.settings transaction.outset.purchase)
    (λ answers. verified_gives (cvm transaction.card transaction.outset.settings transaction.outset.purchase answers)
    (verification_bits.bits_own transaction.card transaction.outset.settings transaction.outset.purchase answers)) log replies

restrictions_own : (transaction : TransactionData) (log : List Logged) (replies : List Reply) → Owns (restrictions transaction log replies)
unfolding restrictions
restrictions_own transaction log replies =
    verification_own transaction
    (HasRestricted (restricted transaction.card transaction.outset.settings transaction.row transaction.outset.purchase) ∷ HasRead transaction.card ∷ [])
    (restricted_own transaction.card transaction.outset.settings transaction.row transaction.outset.purchase, (among (tvr_bit 1 8) 0x8000000000 refl, tt)) log replies

pub bits_belong : BitsBelong
bits_belong outset replies place stands =
    belong (dialogue outset replies).steps_done place
    (dialogue_all outset Owns (λ deed none plain. tt) (λ row card log replies. restrictions_own (record { outset = outset; row = row; card = card }) log replies) replies)
    stands
