-- The dialogue's definitions are total, so they have an answer also in cases that no dialogue comes to. What no
-- dialogue comes to, in other words (EMV 4.3 Book 3 section 5.4).
use Rattle.std.specs.Prelude.{◌≡◌, ⊤, ℕ, ◌<◌, true, false, List, [], ◌∷◌, ◌++◌, length, is_some, Some, Ok}
use Rattle.std.specs.List.{AllByRecursion}
use Rattle.emv_dict.specs.Progress.{Wants, Done}
use Rattle.emv_dict.specs.Settings.{IsPurchase}
use Rattle.env_map.specs.Entries.{value_of}
use Rattle.kernel.specs.Dialogue.{dialogue}
use Rattle.kernel.specs.Ended.{EndData, end_of}
use Rattle.kernel.specs.Laws.{asks_online}
use Rattle.kernel.specs.Reply.{Reply}
use Rattle.object_lists.specs.CardRead.{ReadCard}
use Rattle.object_lists.specs.DolEntries.{DolEntry, dol_of}
use Rattle.script_run.specs.Ran.{template_ran}
use Rattle.terminal_state.specs.StepResults.{StepResult, HasRead, HasRestricted, HasVerified, HasJudged, HasAnalysed, HasFirst, HasReply, WasUnable, HasAuthenticated, HasRunBefore, HasSecond, HasRunBehind, sound_pin}
use Rattle.terminal_state.specs.Scripts.{kept_host_reply}
use Rattle.terminal_state.specs.Terminal.{Outset}

-- an object list of the card that is there and can be read
abbrev pub HasList : ℕ → ReadCard → Type 0
HasList tag card = (list : List ℕ) × (dol : List DolEntry) × (value_of tag card.entries ≡ Some list) × (dol_of list ≡ Ok dol)

-- what a finished step can leave
abbrev pub CanStand : StepResult → Type 0
-- both lists are there, so none is filled that isn't
CanStand (HasRead card) = HasList 0x8C card × HasList 0x8D card
CanStand (HasRestricted bits) = ⊤
-- an entry for the issuer has a PIN's length
CanStand (HasVerified verified) = sound_pin verified.online_pin ≡ verified.online_pin
CanStand (HasJudged judged) = ⊤
CanStand (HasAnalysed analysed) = ⊤
CanStand (HasFirst ac) = ⊤
-- its scripts are kept as they came
CanStand (HasReply reply) = kept_host_reply reply ≡ reply
-- unable to go online, the terminal wants no request
CanStand (WasUnable request wanted) = asks_online wanted ≡ false
CanStand (HasAuthenticated good) = ⊤
CanStand (HasRunBefore result) = 0 < length result
-- the second cryptogram is no request
CanStand (HasSecond ac) = asks_online ac.kind ≡ false
CanStand (HasRunBehind result) = 0 < length result

-- no dialogue comes to the cases that its definitions answer only because they are total
pub record ShadowsDoNotCome : Type 0 where
  -- each finished step leaves what it can
  pub steps : (outset : Outset) (replies : List Reply) → IsPurchase outset.purchase → AllByRecursion CanStand (dialogue outset replies).steps_done
  -- an authorisation response code stands wherever something is captured
  pub code : (outset : Outset) (replies : List Reply) (end : EndData) → end_of outset (dialogue outset replies) ≡ Some end
      → is_some end.capture ≡ true → is_some end.state_so_far.code ≡ true
  -- an answer that can't be read ends a script that waits for one
  pub script : (template : List ℕ) (answers : List (List ℕ)) (command : List ℕ) → template_ran template answers ≡ Wants command
      → (result : List ℕ) × (template_ran template (answers ++ [] ∷ []) ≡ Done result [])
