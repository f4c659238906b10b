-- Steps, causes and endings are read from the front of a text.
use Rattle.std.proofs.Common.{◌≡◌, ℕ, ◌<◌, Bool, true, false, List, [], ◌∷◌, ◌++◌, refl, append_assoc}
use Rattle.emv_dict.specs.declared.ending.Step.{Step}
use Rattle.emv_dict.specs.declared.ending.Step.TheVariants as step
use Rattle.emv_dict.specs.declared.ending.Cause.{Cause}
use Rattle.emv_dict.specs.declared.ending.Cause.TheVariants as cause
use Rattle.emv_dict.specs.declared.ending.Ending.{Ending}
use Rattle.emv_dict.specs.declared.ending.Ending.TheVariants as ending
use Rattle.report_text.specs.Words.{step_word, cause_text, side_word, ending_text}
use Rattle.report_text.specs.Told.{IsCauseTold, IsEndingTold}
use Rattle.report_text.specs.LineTexts.{SameCause, SameEnding}
use Rattle.report_text.proofs.Fronts.{behind, number, hex, tag, two, apart, one_byte, first_same}

step_front : (a b : Step) {r s : List ℕ} → step_word a ++ r ≡ step_word b ++ s → (a ≡ b) × (r ≡ s)
unfolding step_word
step_front step.Power step.Power e = (refl, behind 5 e)
step_front step.Select step.Select e = (refl, behind 6 e)
step_front step.Initiate step.Initiate e = (refl, behind 8 e)
step_front step.Read step.Read e = (refl, behind 4 e)
step_front step.Verify step.Verify e = (refl, behind 6 e)
step_front step.Risk step.Risk e = (refl, behind 4 e)
step_front step.First step.First e = (refl, behind 5 e)
step_front step.Authenticate step.Authenticate e = (refl, behind 12 e)
step_front step.Second step.Second e = (refl, behind 6 e)
step_front step.Script step.Script e = (refl, behind 6 e)
step_front a b e = absurd (apart e refl)

side_front : (a b : Bool) {r s : List ℕ} → side_word a ++ r ≡ side_word b ++ s → (a ≡ b) × (r ≡ s)
side_front true true e = (refl, behind 6 e)
side_front false false e = (refl, behind 7 e)
side_front a b e = absurd (apart e refl)

cause_front : (a b : Cause) (c d : ℕ) (r s : List ℕ) → cause_text a ++ c ∷ r ≡ cause_text b ++ d ∷ s → IsCauseTold a → IsCauseTold b → c < 48 → d < 48 → SameCause a b × (c ∷ r ≡ d ∷ s)
unfolding cause_text SameCause
cause_front cause.NoCandidate cause.NoCandidate c d r s e ta tb hc hd = (tt, behind 12 e)
cause_front cause.CardBlocked cause.CardBlocked c d r s e ta tb hc hd = (tt, behind 12 e)
cause_front cause.Answer cause.Answer c d r s e ta tb hc hd = (tt, behind 6 e)
cause_front (cause.Status m) (cause.Status n) c d r s e ta tb hc hd = two m n c d r s (behind 7 e) hc hd
cause_front (cause.Coding m) (cause.Coding n) c d r s e ta tb hc hd = number m n c d r s (behind 7 e) hc hd
cause_front (cause.Repeated m) (cause.Repeated n) c d r s e ta tb hc hd = tag m.0 n.0 c d r s (behind 9 e) hc hd
cause_front (cause.Missing m) (cause.Missing n) c d r s e ta tb hc hd = tag m.0 n.0 c d r s (behind 8 e) hc hd
cause_front (cause.Value m) (cause.Value n) c d r s e ta tb hc hd = tag m.0 n.0 c d r s (behind 6 e) hc hd
cause_front (cause.Afl m) (cause.Afl n) c d r s e ta tb hc hd = number m n c d r s (behind 4 e) hc hd
cause_front (cause.Dol m) (cause.Dol n) c d r s e ta tb hc hd = tag m.0 n.0 c d r s (behind 4 e) hc hd
cause_front cause.TooMuch cause.TooMuch c d r s e ta tb hc hd = (tt, behind 8 e)
cause_front (cause.Kind m) (cause.Kind n) c d r s e ta tb hc hd =
    let same = hex (m ∷ []) (n ∷ []) c d r s (behind 5 e) (one_byte m ta) (one_byte n tb) hc hd in
    (first_same m n [] [] same.0, same.1)
cause_front a b c d r s e ta tb hc hd = absurd (apart e refl)

pub ending_front : (a b : Ending) (c d : ℕ) (r s : List ℕ) → ending_text a ++ c ∷ r ≡ ending_text b ++ d ∷ s → IsEndingTold a → IsEndingTold b → c < 48 → d < 48 → SameEnding a b × (c ∷ r ≡ d ∷ s)
unfolding ending_text SameEnding
ending_front (ending.Approved m) (ending.Approved n) c d r s e ta tb hc hd = side_front m n (behind 9 e)
ending_front (ending.Declined m) (ending.Declined n) c d r s e ta tb hc hd = side_front m n (behind 9 e)
ending_front (ending.Terminated at why) (ending.Terminated by how) c d r s e ta tb hc hd =
    let one : step_word at ++ 32 ∷ (cause_text why ++ c ∷ r) ≡ step_word by ++ 32 ∷ (cause_text how ++ d ∷ s) = simp append_assoc at (behind 11 e) in
    let steps = step_front at by one in
    let causes = cause_front why how c d r s (behind 1 steps.1) ta tb hc hd in
    ((steps.0, causes.0), causes.1)
ending_front (ending.CutOff m) (ending.CutOff n) c d r s e ta tb hc hd = step_front m n (behind 4 e)
ending_front a b c d r s e ta tb hc hd = absurd (apart e refl)
