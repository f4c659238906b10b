-- What each step of a dialogue leaves.
use Rattle.std.proofs.Common.{◌≡◌, ℕ, Bool, List, Option, Ok}
use Rattle.action_analysis.specs.Analysed.{unable}
use Rattle.action_analysis.specs.declared.Codes.{Codes}
use Rattle.auth_message.specs.Reply.{ReplyData, reply_of}
use Rattle.cvm_list.specs.Begun.{cvm}
use Rattle.dialogue_laws.proofs.Giving.{Gives}
use Rattle.emv_dict.specs.Views.{AcData}
use Rattle.emv_dict.specs.declared.ending.Kind.{Kind}
use Rattle.emv_dict.specs.declared.judged.Judged.{Judged}
use Rattle.emv_dict.specs.declared.verified.Verified.{Verified}
use Rattle.object_lists.specs.CardRead.{ReadCard}
use Rattle.online_step.specs.Generate.{generated}
use Rattle.online_step.specs.declared.ac.GenerateAc.TheVariants.{Second}
use Rattle.read_records.specs.DataRead.{reading}
use Rattle.read_records.specs.Options.{Opened}
use Rattle.script_run.specs.Ran.{template_ran, no_script}
use Rattle.terminal_state.specs.StepResults.{StepResult, HasRead, HasRestricted, HasVerified, HasJudged, HasAnalysed, HasFirst, HasReply, WasUnable, HasAuthenticated, HasRunBefore, HasSecond, HasRunBehind}
use Rattle.terminal_state.specs.Terminal.{Outset}
use Rattle.terminal_state.specs.declared.state_so_far.Analysed.{Analysed}
use Rattle.terminal_state.specs.declared.state_so_far.OnlineRequest.{OnlineRequest}

-- whatever a step finds, the result that it leaves is of this form
pub record EachLeaves (outset : Outset) (P : StepResult → Type 0) : Type 0 where
  pub read : (start : Opened) (answers : List (List ℕ)) → Gives (λ (card : ReadCard). P (HasRead card)) (reading start answers)
  pub restricted : (bits : ℕ) → P (HasRestricted bits)
  pub verified : (card : ReadCard) (answers : List (List ℕ)) → Gives (λ (verified : Verified). P (HasVerified verified)) (cvm card outset.settings outset.purchase answers)
  pub judged : (judged : Judged) → P (HasJudged judged)
  pub analysed : (analysed : Analysed) → P (HasAnalysed analysed)
  pub first : (ac : AcData) → P (HasFirst ac)
  pub replied : (bytes : List ℕ) (reply : ReplyData) → reply_of bytes ≡ Ok reply → P (HasReply reply)
  pub unable_online : (request : OnlineRequest) (tvr : ℕ) (codes : Codes) (kind : ℕ) → P (WasUnable request (unable tvr codes kind))
  pub authenticated : (good : Bool) → P (HasAuthenticated good)
  pub before : (template : List ℕ) (answers : List (List ℕ)) → Gives (λ (result : List ℕ). P (HasRunBefore result)) (template_ran template answers)
  pub second : (asked : Kind) (given : Option (List ℕ)) (answers : List (List ℕ)) → Gives (λ (ac : AcData). P (HasSecond ac)) (generated 0x8D asked Second given answers)
  pub behind : (template : List ℕ) (answers : List (List ℕ)) → Gives (λ (result : List ℕ). P (HasRunBehind result)) (template_ran template answers)
  pub failed : P (HasRunBehind no_script)
