-- What a dialogue captures is no request.
-- So what is stored or waits for settlement is a presentment or a reversal.
use Rattle.std.proofs.Common.{◌≡◌, ◌≢◌, ℕ, Bool, true, false, List, get_or, Option, Some, None, option_map, sym, subst, arith}
use Rattle.std.specs.Global.{Box}
use Rattle.std.specs.Prelude.{if◌then◌else◌}
use Rattle.ber_tlv.specs.Written.{written}
use Rattle.auth_message.specs.Data.{PresentData}
use Rattle.auth_message.specs.Spelling.{present_bytes, reversal_bytes}
use Rattle.auth_message.specs.declared.reversal.ReversalFields.{ReversalFields}
use Rattle.emv_dict.specs.Views.{AcData, SettingsData, PurchaseData}
use Rattle.emv_dict.specs.declared.ending.Ending.{Ending}
use Rattle.emv_dict.specs.declared.ending.Ending.TheVariants.{Approved, Declined, Terminated, CutOff}
use Rattle.kernel.specs.StepsInTurn.{Standing}
use Rattle.kernel.specs.Ended.{EndData, results_behind, code_or_zeros, presentment, reversal, capture, end_with, end_by, end_of}
use Rattle.kernel.specs.Kernel.{KernelData, KernelStands}
use Rattle.kernel.specs.Reply.{Reply, Deed, ToCard, ToHost, Over}
use Rattle.object_lists.specs.CardRead.{ReadCard}
use Rattle.online_step.specs.Captures.{presentment_data, presentment_of, reversal_data, reversal_of}
use Rattle.terminal_state.specs.StepResults.{StepResult, StateSoFarData, state_so_far, latest, sets_card}
use Rattle.terminal_state.specs.Terminal.{Outset}
use Rattle.txn_replay.specs.Payment.{Payment}
use Rattle.txn_replay.specs.Standing.{RunStands, HasTaken}
use Rattle.txn_replay.specs.Stocking.{IsNoRequest}

presentment_first : (f : PresentData) → get_or (present_bytes f) 0 0 ≢ 0xE1
unfolding present_bytes written
presentment_first f same = omega (arith, same)

reversal_first : (f : ReversalFields) → get_or (reversal_bytes f) 0 0 ≢ 0xE1
unfolding reversal_bytes written
reversal_first f same = omega (arith, same)

presented_first : (card : ReadCard) (settings : SettingsData) (purchase : PurchaseData) (tvr : ℕ) (ac : AcData) (code : List ℕ)
    → get_or (presentment_of card settings purchase tvr ac code) 0 0 ≢ 0xE1
unfolding presentment_of
presented_first card settings purchase tvr ac code = presentment_first (presentment_data card settings purchase tvr ac code)

reversed_first : (card : ReadCard) (settings : SettingsData) (purchase : PurchaseData) (counter : ℕ) (code : List ℕ)
    → get_or (reversal_of card settings purchase counter code) 0 0 ≢ 0xE1
unfolding reversal_of
reversed_first card settings purchase counter code = reversal_first (reversal_data card settings purchase counter code)

presented : (outset : Outset) (card : ReadCard) (at : StateSoFarData) → IsNoRequest (presentment outset card at)
unfolding presentment
presented outset card at = by at.last
  where
    by : (o : Option AcData)
        → IsNoRequest (option_map (λ ac. presentment_of card outset.settings outset.purchase
        (results_behind card at.tvr_when_first at.tvr_when_second) ac (code_or_zeros at.code)) o)
    by None = tt
    by (Some ac) = presented_first card outset.settings outset.purchase (results_behind card at.tvr_when_first at.tvr_when_second) ac (code_or_zeros at.code)

reversed : (outset : Outset) (card : ReadCard) (at : StateSoFarData) → IsNoRequest (reversal outset card at)
unfolding reversal
reversed outset card at = by at.is_open at.counter
  where
    by : (may : Bool) (o : Option ℕ)
        → IsNoRequest (if may then option_map (λ counter. reversal_of card outset.settings outset.purchase counter (code_or_zeros at.code)) o else None)
    by false o = tt
    by true None = tt
    by true (Some counter) = reversed_first card outset.settings outset.purchase counter (code_or_zeros at.code)

captured : (outset : Outset) (ending : Ending) (card : Option ReadCard) (at : StateSoFarData) → IsNoRequest (capture outset ending card at)
captured outset ending None at = tt
captured outset (Approved online) (Some card) at = presented outset card at
captured outset (Declined online) (Some card) at = reversed outset card at
captured outset (Terminated step cause) (Some card) at = reversed outset card at
captured outset (CutOff step) (Some card) at = reversed outset card at

ended_so : (outset : Outset) (steps_done : List StepResult) (deed : Deed) (end : EndData) → end_by outset steps_done deed ≡ Some end → IsNoRequest end.capture
ended_so outset steps_done (ToCard command) end is = cc
ended_so outset steps_done (ToHost message) end is = cc
ended_so outset steps_done (Over ending) end is =
    let same : end_with outset ending (latest sets_card None steps_done) (state_so_far steps_done) ≡ end = cc in
    subst (λ (e : EndData). IsNoRequest e.capture) same (captured outset ending (latest sets_card None steps_done) (state_so_far steps_done))

pub no_request : (outset : Outset) (standing : Standing StepResult) (end : EndData) → end_of outset standing ≡ Some end → IsNoRequest end.capture
no_request outset standing end is = ended_so outset standing.steps_done standing.deed end is

-- a terminal that runs has taken some replies
pub taken_as : (running : Option (Box KernelData)) (place : Box KernelData) (kernel : KernelData) → running ≡ Some place → kernel ≡ place.value → HasTaken running
    → (replies : List Reply) × KernelStands kernel replies
taken_as running place kernel is value taken =
    subst (λ (k : KernelData). (replies : List Reply) × KernelStands k replies) (sym value) (subst HasTaken is taken)

pub taken_from : (running : Option (Box KernelData)) (p : Payment) (told : Option (List Reply)) (place : Box KernelData) → running ≡ Some place → RunStands running p told → HasTaken running
taken_from None p told place is stands = cc
taken_from (Some kernel) p None place is stands = absurd stands
taken_from (Some kernel) p (Some replies) place is stands = (replies, stands.0)
