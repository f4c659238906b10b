-- The words for steps, causes and endings.
use Rattle.std.specs.Prelude.{ℕ, List, [], ◌∷◌, ◌++◌, codes, decimal, Bool, true, false}
use Rattle.hex.specs.Hex.{encode_lower}
use Rattle.emv_dict.specs.declared.ending.Step.{Step}
use Rattle.emv_dict.specs.declared.ending.Step.TheVariants as step
use Rattle.emv_dict.specs.declared.ending.Cause.{Cause}
use Rattle.emv_dict.specs.declared.ending.Cause.TheVariants as cause
use Rattle.emv_dict.specs.declared.ending.Ending.{Ending}
use Rattle.emv_dict.specs.declared.ending.Ending.TheVariants as ending
use Rattle.ber_tlv.specs.Written.{tag_bytes}
use Rattle.report_text.specs.Pieces.{two_bytes}

unfoldable pub step_word : Step → List ℕ
step_word step.Power = codes "power"
step_word step.Select = codes "select"
step_word step.Initiate = codes "initiate"
step_word step.Read = codes "read"
step_word step.Verify = codes "verify"
step_word step.Risk = codes "risk"
step_word step.First = codes "first"
step_word step.Authenticate = codes "authenticate"
step_word step.Second = codes "second"
step_word step.Script = codes "script"

unfoldable pub cause_text : Cause → List ℕ
cause_text cause.NoCandidate = codes "no-candidate"
cause_text cause.CardBlocked = codes "card-blocked"
cause_text cause.Answer = codes "answer"
cause_text (cause.Status status) = codes "status " ++ encode_lower (two_bytes status)
cause_text (cause.Coding place) = codes "coding " ++ decimal place
cause_text (cause.Repeated tag) = codes "repeated " ++ encode_lower (tag_bytes tag.0)
cause_text (cause.Missing tag) = codes "missing " ++ encode_lower (tag_bytes tag.0)
cause_text (cause.Value tag) = codes "value " ++ encode_lower (tag_bytes tag.0)
cause_text (cause.Afl group) = codes "afl " ++ decimal group
cause_text (cause.Dol tag) = codes "dol " ++ encode_lower (tag_bytes tag.0)
cause_text cause.TooMuch = codes "too-much"
cause_text (cause.Kind information) = codes "kind " ++ encode_lower (information ∷ [])

abbrev pub side_word : Bool → List ℕ
side_word true = codes "online"
side_word false = codes "offline"

unfoldable pub ending_text : Ending → List ℕ
ending_text (ending.Approved online) = codes "approved " ++ side_word online
ending_text (ending.Declined online) = codes "declined " ++ side_word online
ending_text (ending.Terminated step cause) = codes "terminated " ++ step_word step ++ codes " " ++ cause_text cause
ending_text (ending.CutOff step) = codes "cut " ++ step_word step
