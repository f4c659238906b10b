-- How a terminal's steps follow one another: each is fed the replies to what it asks, and the next one goes on
-- with those that are left.
use Rattle.std.specs.Prelude.{ℕ, List, [], ◌∷◌, Option, Some, None}
use Rattle.emv_dict.specs.Progress.{Progress, Wants, Stopped, Done}
use Rattle.emv_dict.specs.declared.ending.Cause.{Cause}
use Rattle.emv_dict.specs.declared.ending.Ending.{Ending}
use Rattle.emv_dict.specs.declared.ending.Ending.TheVariants.{Terminated, CutOff}
use Rattle.emv_dict.specs.declared.ending.Step.{Step}
use Rattle.emv_dict.specs.declared.purchase.Logged.{Logged}
use Rattle.kernel.specs.Reply.{Reply, CardSaid, CardGone, HostSaid, HostSilent, Deed, ToCard, ToHost, Over}

-- where a dialogue stands: its finished steps, the latest one first, and what it does next
pub record Standing (M : Type 0) : Type 0 where
  pub steps_done : List M
  pub deed : Deed

-- the rest of a dialogue, over the log that came with the card's latest answer and the replies that are left
abbrev pub Rest : Type 0 → Type 0
Rest M = List Logged → List Reply → Standing M

abbrev pub stands : {M : Type 0} → List M → Deed → Standing M
stands steps_done deed = record { steps_done = steps_done; deed = deed }

-- the dialogue is over here
abbrev pub over : {M : Type 0} → List M → Ending → Rest M
over steps_done ending log replies = stands steps_done (Over ending)

-- what becomes of a step's command, of its cause, or of its value
abbrev pub by_progress : {A B : Type 0} → (List ℕ → B) → (Cause → B) → (A → B) → Progress A → B
by_progress wanted stopped done (Wants command) = wanted command
by_progress wanted stopped done (Stopped cause) = stopped cause
by_progress wanted stopped done (Done value rest) = done value

-- a cause ends the dialogue in this step, and behind its value the next step follows
abbrev pub then_step : {M A : Type 0} → Step → List M → (A → Rest M) → List Logged → List Reply → (List ℕ → Standing M) → Progress A → Standing M
then_step step steps_done next log replies wanted progress =
    by_progress wanted (λ cause. stands steps_done (Over (Terminated step cause))) (λ value. next value log replies) progress

-- a step over the card's answers: each command that it wants answered takes the next reply. `left` is what becomes of
-- it where the card is gone: with the step to name, `cut` where it has no answer yet, and what it would make of more
-- answers. A reply of the host is none to it.
unfoldable pub card_step : {M A : Type 0} → (Step → (List (List ℕ) → Progress A) → Standing M) → Step → Step → List M → (List (List ℕ) → Progress A) → (A → Rest M) → Rest M
card_step left cut step steps_done course next log [] =
    then_step step steps_done next log [] (λ command. stands steps_done (ToCard command)) (course [])
card_step left cut step steps_done course next log (CardSaid answer now ∷ replies) =
    then_step step steps_done next log (CardSaid answer now ∷ replies)
    (λ command. card_step left step step steps_done (λ later. course (answer ∷ later)) next now replies) (course [])
card_step left cut step steps_done course next log (CardGone ∷ replies) =
    then_step step steps_done next log (CardGone ∷ replies) (λ command. left cut course) (course [])
card_step left cut step steps_done course next log (HostSaid reply ∷ replies) =
    then_step step steps_done next log (HostSaid reply ∷ replies) (λ command. stands steps_done (ToCard command)) (course [])
card_step left cut step steps_done course next log (HostSilent ∷ replies) =
    then_step step steps_done next log (HostSilent ∷ replies) (λ command. stands steps_done (ToCard command)) (course [])

-- a card that is gone cuts the dialogue off
abbrev pub cut_off : {M A : Type 0} → List M → Step → (List (List ℕ) → Progress A) → Standing M
cut_off steps_done cut course = stands steps_done (Over (CutOff cut))

-- a message for the host takes the next reply; the card's is none to it
unfoldable pub host_step : {M : Type 0} → List M → List ℕ → (Option (List ℕ) → Rest M) → Rest M
host_step steps_done message next log [] = stands steps_done (ToHost message)
host_step steps_done message next log (CardSaid answer now ∷ replies) = stands steps_done (ToHost message)
host_step steps_done message next log (CardGone ∷ replies) = stands steps_done (ToHost message)
host_step steps_done message next log (HostSaid reply ∷ replies) = next (Some reply) log replies
host_step steps_done message next log (HostSilent ∷ replies) = next None log replies
