-- The end of a line of `read` that tells why reading stopped.
use Rattle.std.proofs.Common.{◌≡◌, ℕ, ◌≤◌, ◌++◌, List, length, drop, is_ok, if◌then◌else◌, Result, Ok, Err, OnOk, ap, ◌∙◌, refl, arith}
use Rattle.card_check.specs.Verdicts.{reading_text}
use Rattle.emv_dict.specs.declared.ending.Cause.{Cause}
use Rattle.emv_dict.specs.declared.ending.Ending.TheVariants.{Terminated}
use Rattle.emv_dict.specs.declared.ending.Step.TheVariants.{Read}
use Rattle.report_text.specs.Text.{line_text}
use Rattle.report_text.specs.Words.{step_word, ending_text}
use Rattle.report_text.specs.declared.line.Line.TheVariants.{ReadEnded}

pub words_behind : (cause : Cause) → drop 16 (line_text (ReadEnded (Terminated Read cause))) ≡ reading_text cause
unfolding line_text ending_text step_word
words_behind cause = refl

pub words_before : (cause : Cause) → 16 ≤ length (line_text (ReadEnded (Terminated Read cause)))
unfolding line_text ending_text step_word
words_before cause = omega arith

-- a text with these words more
pub added : {T E : Type 0} (result : Result T E) (old new text words : List ℕ) → new ≡ (if is_ok result then old ++ words else old) → words ≡ text
    → OnOk result (new ≡ old ++ text)
added (Ok value) old new text words items is = items ∙ ap (λ (w : List ℕ). old ++ w) is
added (Err fault) old new text words items is = tt
