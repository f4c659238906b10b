-- What a step over the card's answers makes of one reply.
use Rattle.std.specs.Prelude.{◌≡◌, refl, ℕ, List, [], ◌∷◌}
use Rattle.emv_dict.specs.Progress.{Progress, Wants, Stopped, Done}
use Rattle.emv_dict.specs.declared.ending.Cause.{Cause}
use Rattle.emv_dict.specs.declared.ending.Ending.TheVariants.{Terminated}
use Rattle.emv_dict.specs.declared.ending.Step.{Step}
use Rattle.emv_dict.specs.declared.purchase.Logged.{Logged}
use Rattle.kernel.specs.Reply.{Reply, CardSaid, CardGone, HostSaid, HostSilent, ToCard, Over}
use Rattle.kernel.specs.StepsInTurn.{Standing, Rest, stands, then_step, card_step}

-- where a command goes on alike, the step does
settled_same : {M A : Type 0} → (step : Step) → (steps_done : List M) → (next : A → Rest M) → (log : List Logged) → (replies : List Reply) → (wanted other : List ℕ → Standing M) → ((command : List ℕ) → wanted command ≡ other command) → (progress : Progress A) → then_step step steps_done next log replies wanted progress ≡ then_step step steps_done next log replies other progress
settled_same step steps_done next log replies wanted other alike (Wants command) = alike command
settled_same step steps_done next log replies wanted other alike (Stopped cause) = refl
settled_same step steps_done next log replies wanted other alike (Done value rest) = refl

-- it goes on as any other does that makes the same of all answers
pub same : {M A : Type 0} → (left : Step → (List (List ℕ) → Progress A) → Standing M) → (cut step : Step) → (steps_done : List M) → (course other : List (List ℕ) → Progress A) → (next : A → Rest M) → (log : List Logged) → (replies : List Reply) → ((at : Step) → (one two : List (List ℕ) → Progress A) → ((later : List (List ℕ)) → one later ≡ two later) → left at one ≡ left at two) → ((later : List (List ℕ)) → course later ≡ other later) → card_step left cut step steps_done course next log replies ≡ card_step left cut step steps_done other next log replies
unfolding card_step
same left cut step steps_done course other next log [] blind equal = rw (equal []) refl
same left cut step steps_done course other next log (CardSaid answer now ∷ replies) blind equal =
    rw (equal []) (settled_same step steps_done next log (CardSaid answer now ∷ replies)
    (λ command. card_step left step step steps_done (λ later. course (answer ∷ later)) next now replies)
    (λ command. card_step left step step steps_done (λ later. other (answer ∷ later)) next now replies)
    (λ command. same left step step steps_done (λ later. course (answer ∷ later)) (λ later. other (answer ∷ later)) next now replies blind (λ later. equal (answer ∷ later))) (other []))
same left cut step steps_done course other next log (CardGone ∷ replies) blind equal =
    rw (equal []) (rw (blind cut course other equal) refl)
same left cut step steps_done course other next log (HostSaid reply ∷ replies) blind equal = rw (equal []) refl
same left cut step steps_done course other next log (HostSilent ∷ replies) blind equal = rw (equal []) refl

-- a command that it wants answered
pub wants : {M A : Type 0} → (left : Step → (List (List ℕ) → Progress A) → Standing M) → (cut step : Step) → (steps_done : List M) → (course : List (List ℕ) → Progress A) → (next : A → Rest M) → (log : List Logged) → (command : List ℕ) → course [] ≡ Wants command → card_step left cut step steps_done course next log [] ≡ stands steps_done (ToCard command)
unfolding card_step
wants left cut step steps_done course next log command is = rw is refl

-- the card is gone
pub gone : {M A : Type 0} → (left : Step → (List (List ℕ) → Progress A) → Standing M) → (cut step : Step) → (steps_done : List M) → (course : List (List ℕ) → Progress A) → (next : A → Rest M) → (log : List Logged) → (command : List ℕ) → course [] ≡ Wants command → (replies : List Reply) → card_step left cut step steps_done course next log (CardGone ∷ replies) ≡ left cut course
unfolding card_step
gone left cut step steps_done course next log command is replies = rw is refl

-- the card's answer is taken
pub more : {M A : Type 0} → (left : Step → (List (List ℕ) → Progress A) → Standing M) → (cut step : Step) → (steps_done : List M) → (course other : List (List ℕ) → Progress A) → (next : A → Rest M) → (log : List Logged) → (command : List ℕ) → course [] ≡ Wants command → (answer : List ℕ) → ((at : Step) → (one two : List (List ℕ) → Progress A) → ((later : List (List ℕ)) → one later ≡ two later) → left at one ≡ left at two) → ((later : List (List ℕ)) → course (answer ∷ later) ≡ other later) → (now : List Logged) → (replies : List Reply) → card_step left cut step steps_done course next log (CardSaid answer now ∷ replies) ≡ card_step left step step steps_done other next now replies
unfolding card_step
more left cut step steps_done course other next log command is answer blind equal now replies =
    rw is (same left step step steps_done (λ later. course (answer ∷ later)) other next now replies blind equal)

-- it is done, and the next step follows
pub done : {M A : Type 0} → (left : Step → (List (List ℕ) → Progress A) → Standing M) → (cut step : Step) → (steps_done : List M) → (course : List (List ℕ) → Progress A) → (next : A → Rest M) → (value : A) → ((later : List (List ℕ)) → course later ≡ Done value later) → (log : List Logged) → (replies : List Reply) → card_step left cut step steps_done course next log replies ≡ next value log replies
unfolding card_step
done left cut step steps_done course next value is log [] = rw (is []) refl
done left cut step steps_done course next value is log (CardSaid answer now ∷ replies) = rw (is []) refl
done left cut step steps_done course next value is log (CardGone ∷ replies) = rw (is []) refl
done left cut step steps_done course next value is log (HostSaid reply ∷ replies) = rw (is []) refl
done left cut step steps_done course next value is log (HostSilent ∷ replies) = rw (is []) refl

-- a cause ends the dialogue
pub stopped : {M A : Type 0} → (left : Step → (List (List ℕ) → Progress A) → Standing M) → (cut step : Step) → (steps_done : List M) → (course : List (List ℕ) → Progress A) → (next : A → Rest M) → (cause : Cause) → ((later : List (List ℕ)) → course later ≡ Stopped cause) → (log : List Logged) → (replies : List Reply) → card_step left cut step steps_done course next log replies ≡ stands steps_done (Over (Terminated step cause))
unfolding card_step
stopped left cut step steps_done course next cause is log [] = rw (is []) refl
stopped left cut step steps_done course next cause is log (CardSaid answer now ∷ replies) = rw (is []) refl
stopped left cut step steps_done course next cause is log (CardGone ∷ replies) = rw (is []) refl
stopped left cut step steps_done course next cause is log (HostSaid reply ∷ replies) = rw (is []) refl
stopped left cut step steps_done course next cause is log (HostSilent ∷ replies) = rw (is []) refl

-- behind the card's answer the step goes on with what it makes of the answers behind that
pub taken : {M A : Type 0} → (left : Step → (List (List ℕ) → Progress A) → Standing M) → (cut step : Step) → (steps_done : List M) → (course : List (List ℕ) → Progress A) → (next : A → Rest M) → (log : List Logged) → (command : List ℕ) → course [] ≡ Wants command → (answer : List ℕ) → (now : List Logged) → (replies : List Reply) → card_step left cut step steps_done course next log (CardSaid answer now ∷ replies) ≡ card_step left step step steps_done (λ later. course (answer ∷ later)) next now replies
unfolding card_step
taken left cut step steps_done course next log command is answer now replies = rw is refl
