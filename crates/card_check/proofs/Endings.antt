-- What becomes of a document, and of words.
use Rattle.std.proofs.Common.{◌≡◌, ◌<◌, ◌+◌, inl, inr, ℕ, List, [], ◌∷◌, length, arith, sym, subst}
use Rattle.card_check.specs.Top.{AreVerdicts, CardCheckEnds, JudgesDocument, card_check_usage}
use Rattle.emv_ports.specs.Reading.{ReadsUpTo}
use Rattle.line_talk.specs.Talk.{Sides, WritesLast}
use Rattle.line_talk.specs.declared.status.Status.{Status}
use Rattle.line_talk.specs.declared.status.Status.TheVariants.{Done, Unserved}
use Rattle.scenario.specs.declared.read.TheConstants.{MOST_BYTES}

-- the lines of a scenario's purchases were written, or a front of them
pub verdicts_told : (bytes : List ℕ) (s : Sides) → ReadsUpTo (MOST_BYTES + 1) s.first s.left bytes → (status : Status) (text : List ℕ) → AreVerdicts bytes text
    → WritesLast Done status s.before s.held text → JudgesDocument s status
verdicts_told bytes s document status text verdicts (inl (is, told)) =
    subst (JudgesDocument s) (sym is) (record { bytes = bytes; text = text; document = document; answer = verdicts; told = told })
verdicts_told bytes s document status text verdicts (inr (is, told)) =
    subst (JudgesDocument s) (sym is) (record { bytes = bytes; text = text; document = document; answer = inl verdicts; told = told })

-- without a word a document is judged
pub unworded : (words : List (List ℕ)) (s : Sides) (status : Status) → length words ≡ 0 → JudgesDocument s status → CardCheckEnds words s status
unworded [] s status none judges = judges
unworded (word ∷ words) s status none judges = absurd (omega (arith, none))

pub worded : (words : List (List ℕ)) (s : Sides) (status : Status) → 0 < length words → WritesLast Unserved status s.before s.held card_check_usage
    → CardCheckEnds words s status
worded [] s status some writes = absurd (omega (arith, some))
worded (word ∷ words) s status some writes = writes
