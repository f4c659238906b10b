-- An authorisation response code stands wherever something is captured.
use Rattle.std.proofs.Common.{◌≡◌, refl, sym, ◌∙◌, ℕ, Bool, true, false, List, Option, Some, None, is_some}
use Rattle.std.proofs.lemmas.Option.{same_Some}
use Rattle.dialogue_laws.proofs.Giving.{gives_any}
use Rattle.dialogue_laws.proofs.Leaving.{EachLeaves}
use Rattle.dialogue_laws.proofs.StepByStep.{Sound, dialogue_sound}
use Rattle.emv_dict.specs.Views.{AcData}
use Rattle.emv_dict.specs.declared.ending.Ending.{Ending}
use Rattle.emv_dict.specs.declared.ending.Ending.TheVariants.{Approved, Declined, Terminated, CutOff}
use Rattle.emv_dict.specs.declared.verified.Verified.{Verified}
use Rattle.kernel.specs.StepsInTurn.{stands}
use Rattle.kernel.specs.Dialogue.{dialogue}
use Rattle.kernel.specs.Ended.{EndData, end_of, end_with, capture, reversal}
use Rattle.kernel.specs.Laws.{is_approved_ending}
use Rattle.kernel.specs.Reply.{Reply, Deed, ToCard, ToHost, Over}
use Rattle.object_lists.specs.CardRead.{ReadCard}
use Rattle.terminal_state.specs.StepResults.{StepResult, StateSoFarData, state_so_far, latest, sets_card, HasRead, HasVerified, HasRunBefore, HasRunBehind, HasSecond}
use Rattle.terminal_state.specs.Terminal.{Outset}

-- nothing is said of a step's result
abbrev Any : StepResult → Type 0
Any step_result = Unit {0}

any_leaves : (outset : Outset) → EachLeaves outset Any
any_leaves outset = record {
  read = λ start answers. gives_any (λ (card : ReadCard). Any (HasRead card)) (λ card. tt) _;
  restricted = λ bits. tt;
  verified = λ card answers. gives_any (λ (verified : Verified). Any (HasVerified verified)) (λ verified. tt) _;
  judged = λ judged. tt;
  analysed = λ analysed. tt;
  first = λ ac. tt;
  replied = λ bytes reply is. tt;
  unable_online = λ request tvr codes kind. tt;
  authenticated = λ good. tt;
  before = λ template answers. gives_any (λ (result : List ℕ). Any (HasRunBefore result)) (λ result. tt) _;
  second = λ asked given answers. gives_any (λ (ac : AcData). Any (HasSecond ac)) (λ ac. tt) _;
  behind = λ template answers. gives_any (λ (result : List ℕ). Any (HasRunBehind result)) (λ result. tt) _;
  failed = tt;
}

reversed_open : (outset : Outset) (card : ReadCard) (held : StateSoFarData) (test : Bool) → held.is_open ≡ test → is_some (reversal outset card held) ≡ true → held.is_open ≡ true
unfolding reversal
reversed_open outset card held true is there = is
reversed_open outset card held false is there =
    let none : is_some (reversal outset card held) ≡ false = rw is refl in
    let clash : false ≡ true = sym none ∙ there in absurd (cc clash)

captured_code : (outset : Outset) (ending : Ending) (card : Option ReadCard) (held : StateSoFarData) → (held.is_open ≡ true → is_some held.code ≡ true)
    → (is_approved_ending ending ≡ true → is_some held.code ≡ true) → is_some (capture outset ending card held) ≡ true → is_some held.code ≡ true
captured_code outset ending None held when_open when_good there = absurd (cc there)
captured_code outset (Approved online) (Some card) held when_open when_good there = when_good refl
captured_code outset (Declined online) (Some card) held when_open when_good there = when_open (reversed_open outset card held held.is_open refl there)
captured_code outset (Terminated step cause) (Some card) held when_open when_good there = when_open (reversed_open outset card held held.is_open refl there)
captured_code outset (CutOff step) (Some card) held when_open when_good there = when_open (reversed_open outset card held held.is_open refl there)

code_by : (outset : Outset) (steps_done : List StepResult) (deed : Deed) (end : EndData) → Sound Any (stands steps_done deed) → end_of outset (stands steps_done deed) ≡ Some end
    → is_some end.capture ≡ true → is_some end.state_so_far.code ≡ true
code_by outset steps_done (ToCard command) end sound ends = absurd (cc ends)
code_by outset steps_done (ToHost message) end sound ends = absurd (cc ends)
code_by outset steps_done (Over ending) end sound ends =
    let same : end_with outset ending (latest sets_card None steps_done) (state_so_far steps_done) ≡ end = same_Some _ _ ends in
    rw (← same) (captured_code outset ending (latest sets_card None steps_done) (state_so_far steps_done) sound.1 sound.2)

-- a code stands wherever something is captured
pub code : (outset : Outset) (replies : List Reply) (end : EndData) → end_of outset (dialogue outset replies) ≡ Some end → is_some end.capture ≡ true → is_some end.state_so_far.code ≡ true
code outset replies end ends = code_by outset (dialogue outset replies).steps_done (dialogue outset replies).deed end (dialogue_sound Any outset (any_leaves outset) replies) ends
