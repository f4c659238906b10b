-- From reading to risk management, where what is behind it ends with a decision.
use Rattle.std.proofs.Common.{◌≡◌, ℕ, List, [], ◌∷◌, All, slice_get, Some, ap, ◌∙◌}
use Rattle.card_cryptogram.specs.declared.phase.Phase.TheVariants.{Started}
use Rattle.card_files.specs.ImageRules.{KeepsRules}
use Rattle.card_files.specs.Views.{AppData, ImageData}
use Rattle.dialogue_laws.proofs.Answers.{phase_at}
use Rattle.dialogue_laws.proofs.Choices.{all_at}
use Rattle.dialogue_laws.proofs.Ends.{Ends}
use Rattle.dialogue_laws.proofs.Judging.{judging_runs}
use Rattle.dialogue_laws.proofs.Reading.{reading_runs}
use Rattle.dialogue_laws.proofs.Runs.{chain}
use Rattle.dialogue_laws.proofs.Stages.{HasLists, AnalysisEnds, ReadEnds}
use Rattle.dialogue_laws.proofs.Verifying.{verifying_runs}
use Rattle.dialogue_laws.specs.Cards.{Now}
use Rattle.dialogue_laws.specs.WellFormed.{HasWholeData, list_total}
use Rattle.cvm_list.specs.Begun.{cvm}
use Rattle.emv_dict.specs.declared.ending.Step.TheVariants as step
use Rattle.emv_dict.specs.declared.purchase.Logged.{Logged}
use Rattle.env_map.specs.Entries.{value_of}
use Rattle.kernel.specs.StepsInTurn.{cut_off}
use Rattle.kernel.specs.Dialogue.{TransactionData, analysis, risk, verification, restrictions, read}
use Rattle.object_lists.specs.CardRead.{ReadCard}
use Rattle.read_records.specs.DataRead.{reading}
use Rattle.restrictions.specs.Restricted.{restricted}
use Rattle.risk_mgmt.specs.Risky.{risky}
use Rattle.terminal_state.specs.StepResults as step_result
use Rattle.terminal_state.specs.StepResults.{StepResult}

own_lists : (a : AppData) (whole : HasWholeData a) (card : ReadCard) → card ≡ whole.reads.card → HasLists a card
own_lists a whole card same = record {
  first = ap (λ (c : ReadCard). list_total (value_of 0x8C c.entries)) same ∙ whole.first;
  second = ap (λ (c : ReadCard). list_total (value_of 0x8D c.entries)) same ∙ whole.second;
}

module _ (image : ImageData) (analysed : AnalysisEnds image) (a : AppData) (app : ℕ) (there : slice_get image.apps app ≡ Some a) where
  risk_ends : (now : Now) (transaction : TransactionData) (steps_done : List StepResult) (log : List Logged) → HasLists a transaction.card → phase_at image now ≡ Started app → Ends image now (risk transaction steps_done log)
  unfolding risk
  risk_ends now transaction steps_done log lists here =
      chain (cut_off steps_done) step.Risk steps_done (λ judged. analysis transaction (step_result.HasJudged judged ∷ steps_done)) step.Risk
      (risky transaction.card transaction.outset.settings transaction.row transaction.outset.purchase log)
      (judging_runs image app transaction.card transaction.outset.settings transaction.row transaction.outset.purchase log now here)
      (λ at judged stays later. analysed a app at transaction (step_result.HasJudged judged ∷ steps_done) later there lists stays) log

  verification_ends : (now : Now) (transaction : TransactionData) (steps_done : List StepResult) (log : List Logged) → HasLists a transaction.card → phase_at image now ≡ Started app
      → Ends image now (verification transaction steps_done log)
  unfolding verification
  verification_ends now transaction steps_done log lists here =
      chain (cut_off steps_done) step.Verify steps_done (λ verified. risk transaction (step_result.HasVerified verified ∷ steps_done)) step.Verify
      (cvm transaction.card transaction.outset.settings transaction.outset.purchase)
      (verifying_runs image app transaction.card transaction.outset.settings transaction.outset.purchase now here)
      (λ at verified stays later. risk_ends at transaction (step_result.HasVerified verified ∷ steps_done) later lists stays) log

  restrictions_end : (now : Now) (transaction : TransactionData) (log : List Logged) → HasLists a transaction.card → phase_at image now ≡ Started app → Ends image now (restrictions transaction log)
  unfolding restrictions
  restrictions_end now transaction log lists here =
      verification_ends now transaction
      (step_result.HasRestricted (restricted transaction.card transaction.outset.settings transaction.row transaction.outset.purchase) ∷ step_result.HasRead transaction.card ∷ []) log lists here

pub read_ends : (image : ImageData) → All KeepsRules image.apps → AnalysisEnds image → ReadEnds image
unfolding read
read_ends image rules analysed a app now outset row whole log there here =
    let kept : KeepsRules a = all_at KeepsRules image.apps app a there rules in
    chain (cut_off []) step.Read [] (λ card. restrictions (record { outset = outset; row = row; card = card })) step.Read
    (reading whole.reads.start)
    (reading_runs image a app kept there whole.reads.card whole.reads.start.left whole.reads.start.entries now whole.reads.read here)
    (λ at card own later. restrictions_end image analysed a app there at (record { outset = outset; row = row; card = card }) later (own_lists a whole card own.0) own.1) log
