-- How the program ends with each status: what was read, and what was written of its answer.
use Rattle.std.specs.Prelude.{◌≡◌, ◌⊎◌, ◌+◌, ℕ, List, [], ◌∷◌, ◌++◌, codes, Option, Some, Ok, Err}
use Rattle.std.specs.Io.KnownBytes.{Appends}
use Rattle.card_check.specs.Verdicts.{verdicts_text}
use Rattle.emv_ports.specs.Growth.{AppendsFront}
use Rattle.emv_ports.specs.Reading.{ReadsUpTo}
use Rattle.line_talk.specs.Talk.{Sides, WritesLast}
use Rattle.line_talk.specs.declared.status.Status.{Status}
use Rattle.line_talk.specs.declared.status.Status.TheVariants.{Done, Refused, Unserved, SourceFailed, SinkFailed, OutOfMemory}
use Rattle.scenario_plan.specs.Plan.{ScenarioData}
use Rattle.scenario.specs.Scenario.{ReadsScenario}
use Rattle.scenario.specs.declared.read.TheConstants.{MOST_BYTES}
use Rattle.scenario_fields.specs.Line.{refused_line}
use Rattle.scenario_fields.specs.declared.fault.ScenarioFault.{ScenarioFault}

-- what answers any words
unfoldable pub card_check_usage : List ℕ
card_check_usage = codes "usage: card_check" ++ 10 ∷ []

-- the bytes of a scenario, and the lines of its purchases
pub record AreVerdicts (bytes text : List ℕ) : Type 0 where
  pub scenario : ScenarioData
  pub reading : ReadsScenario bytes (Ok scenario)
  pub text_is : text ≡ verdicts_text scenario

-- bytes that are none, and the line of their fault
pub record IsRefusal (bytes text : List ℕ) : Type 0 where
  pub fault : ScenarioFault
  pub reading : ReadsScenario bytes (Err fault)
  pub text_is : refused_line fault ≡ Some text

-- the answer to a document: verdicts or a refusal
abbrev pub IsAnswer : List ℕ → List ℕ → Type 0
IsAnswer bytes text = AreVerdicts bytes text ⊎ IsRefusal bytes text

-- a document was read, and this became of its answer
pub record CardCheckAnswers (Is : List ℕ → List ℕ → Type 0) (Tells : Option (List ℕ) → Option (List ℕ) → List ℕ → Type 0) (s : Sides) : Type 0 where
  pub bytes : List ℕ
  pub text : List ℕ
  pub document : ReadsUpTo (MOST_BYTES + 1) s.first s.left bytes
  pub answer : Is bytes text
  pub told : Tells s.before s.held text

-- what becomes of a document, by the status that tells it
abbrev pub JudgesDocument : Sides → Status → Type 0
-- 0: it is a scenario, and the sink got the lines of its purchases
JudgesDocument s Done = CardCheckAnswers AreVerdicts Appends s
-- 1: it is refused, and the sink got the line of that very fault
JudgesDocument s Refused = CardCheckAnswers IsRefusal Appends s
-- 2: only words
JudgesDocument s Unserved = ⊥
-- 3, 5: the source failed, or there was no memory, and nothing was written
JudgesDocument s SourceFailed = s.held ≡ s.before
-- 4: the sink, which failed, got a front of the lines or of the line
JudgesDocument s SinkFailed = CardCheckAnswers IsAnswer AppendsFront s
JudgesDocument s OutOfMemory = s.held ≡ s.before

-- what becomes of the words: without one a document is judged, and any word is answered by the usage line (2), or by a front of
-- it where the sink failed (4)
abbrev pub CardCheckEnds : List (List ℕ) → Sides → Status → Type 0
CardCheckEnds [] s status = JudgesDocument s status
CardCheckEnds (word ∷ words) s status = WritesLast Unserved status s.before s.held card_check_usage
