-- Bytes that are a scenario's aren't refused.
use Rattle.std.proofs.Common.{◌≡◌, ◌≢◌, ◌⊎◌, ℕ, ◌<◌, ◌≤◌, nat_lt, Bool, true, false, List, length, Option, Some, None, Result, Ok, Err, refl, sym, ap, ◌∙◌, subst, inl, inr, arith}
use Rattle.std.proofs.lemmas.Bool.Decides.{nat_tests}
use Rattle.std.proofs.lemmas.List.{append_cancel_right}
use Rattle.std.specs.Io.KnownBytes.{Consumes}
use Rattle.std.specs.Str.{IsUtf8}
use Rattle.toml.specs.Parse.{parse_document}
use Rattle.emv_ports.specs.Causes.{Rose}
use Rattle.emv_ports.specs.Memory.{Memory}
use Rattle.emv_ports.specs.Reading.{ReadsUpTo}
use Rattle.emv_top.specs.Answers.{AnswersRead, IsInputRefused}
use Rattle.emv_top.specs.Input.{IsInput, served}
use Rattle.emv_top.specs.StatusCode.{SinkCount, SourceCount, status_code}
use Rattle.emv_top.specs.declared.status.Status.{Status}
use Rattle.emv_top.specs.declared.status.Status.TheVariants.{Done, Refused, Usage, ReadFault, WriteFault, OutOfMemory}
use Rattle.emv_top.specs.declared.words.Task.{Task}
use Rattle.kernel.specs.Tally.{Counts}
use Rattle.scenario_plan.specs.Plan.{ScenarioData}
use Rattle.scenario.specs.Scenario.{ReadsScenario, scenario_of_document}
use Rattle.scenario.specs.declared.read.TheConstants.{MOST_BYTES}
use Rattle.scenario_fields.specs.Fault.{◌>>=◌, Gives}
use Rattle.scenario_fields.specs.Line.{refused_line}
use Rattle.scenario_fields.specs.declared.fault.ScenarioFault.{ScenarioFault}
use Rattle.scenario_fields.specs.declared.fault.ScenarioFault.TheVariants as fault

-- what was answered besides a scenario for the same bytes can't be, where both can't be of one document
two_readings : (bytes : List ℕ) (s : ScenarioData) (other : Result ScenarioData ScenarioFault) → ReadsScenario bytes (Ok s) → ReadsScenario bytes other
    → ((has : Result ScenarioData ScenarioFault) → has ≡ Ok s → Gives (λ x. x) other has → ⊥) → ⊥
two_readings bytes s other one two clash = by (nat_lt MOST_BYTES (length bytes)) refl
  where
    no_text : length bytes ≤ MOST_BYTES → IsUtf8 bytes → ⊥
    no_text small text = clash (scenario_of_document (parse_document bytes)) (one.text small text) (two.text small text)

    by : (long : Bool) → nat_lt MOST_BYTES (length bytes) ≡ long → ⊥
    by true size = let more : MOST_BYTES < length bytes = grind (arith, nat_tests) in let e = one.long more in absurd (cc)
    by false size = let small : length bytes ≤ MOST_BYTES = grind (arith, nat_tests) in let e = one.other small (no_text small) in absurd (cc)

module _ (task : Task) (bytes : List ℕ) (s : ScenarioData) (because : ScenarioFault) (line : List ℕ) (told : refused_line because ≡ Some line) where
  -- want of memory has no line, and a document with another fault is no scenario
  no_scenario : (e : ScenarioFault) (x : ScenarioData) (has : Result ScenarioData ScenarioFault) → e ≡ because → has ≡ Ok x
      → Gives (λ (y : ScenarioData). y) (Err e) has → ⊥
  unfolding refused_line
  no_scenario fault.OutOfMemory x has same one two =
      let none : refused_line because ≡ None = ap refused_line (sym same) in absurd (cc)
  no_scenario fault.Toml x has same one two = absurd (cc)
  no_scenario (fault.MissingKey path) x has same one two = absurd (cc)
  no_scenario (fault.BadValue path) x has same one two = absurd (cc)
  no_scenario (fault.OutOfLimit path) x has same one two = absurd (cc)
  no_scenario (fault.UnknownKey path) x has same one two = absurd (cc)
  no_scenario (fault.UnknownName path) x has same one two = absurd (cc)

  by_reads : (one two : Result ScenarioData ScenarioFault) → ReadsScenario bytes one → ReadsScenario bytes two → Ok s ≡ (one >>= served task)
      → Err because ≡ (two >>= served task) → ⊥
  by_reads (Err e) two reads others is fails = absurd (cc)
  by_reads (Ok x) (Ok y) reads others is fails =
      two_readings bytes x (Ok y) reads others
      (λ has one two. (let same : ◌≡◌ {A = Result ScenarioData ScenarioFault} (Ok x) (Ok y) = sym one ∙ two in
      let both : served task x ≡ served task y = ap (λ (r : Result ScenarioData ScenarioFault). r >>= served task) same in
      absurd (cc)))
  by_reads (Ok x) (Err e) reads others is fails =
      let same : e ≡ because = cc in two_readings bytes x (Err e) reads others (λ has one two. no_scenario e x has same one two)

  pub not_refused : IsInput task bytes (Ok s) → IsInput task bytes (Err because) → ⊥
  not_refused accepted refused = by_reads accepted.read refused.read accepted.reading refused.reading accepted.serves refused.serves

-- known bytes are read in one way
pub same_bytes : (left after : Option (List ℕ)) (one two : List ℕ) → left ≢ None → ReadsUpTo 4194305 left after one → ReadsUpTo 4194305 left after two → one ≡ two
same_bytes left after one two known first second = by left after known first.taken second.taken
  where
    by : (left after : Option (List ℕ)) → left ≢ None → Consumes left after one → Consumes left after two → one ≡ two
    by None after known first second = absurd (known refl)
    by (Some all) None known first second = absurd first
    by (Some all) (Some rest) known first second = append_cancel_right one two rest (sym first ∙ second)

-- where a scenario was read and no count of faults rose, the run was done, or memory was wanting
module _ (task : Task) (bytes : List ℕ) (s : ScenarioData) (accepted : IsInput task bytes (Ok s)) (left after old new : Option (List ℕ)) (bank : List Memory)
    (tally : Counts) (known : left ≢ None) (reads : ReadsUpTo 4194305 left after bytes) where
  refusal : (other line : List ℕ) → ReadsUpTo 4194305 left after other → IsInputRefused task other line → ⊥
  refusal other line others refused =
      let same : bytes ≡ other = same_bytes left after bytes other known reads others in
      not_refused task bytes s refused.fault line refused.told accepted
      (subst (λ (b : List ℕ). IsInput task b (Err refused.fault)) (sym same) refused.input)

  pub settles : (status : Status) (before now first last : ℕ) → AnswersRead task left after old new bank tally status → SourceCount before now status
      → SinkCount first last status → (Rose before now → ⊥) → (Rose first last → ⊥) → (status_code status ≡ 0) ⊎ (status_code status ≡ 5)
  settles Done before now first last answers source sink calm still = inl refl
  settles Refused before now first last answers source sink calm still = absurd (refusal answers.0 answers.2.0 answers.1 answers.2.1)
  settles Usage before now first last answers source sink calm still = absurd answers
  settles ReadFault before now first last answers source sink calm still = absurd (calm source)
  settles WriteFault before now first last answers source sink calm still = absurd (still sink)
  settles OutOfMemory before now first last answers source sink calm still = inr refl
