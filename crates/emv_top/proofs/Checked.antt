-- What answers a trace, and that bytes that are a trace's aren't refused.
use Rattle.std.proofs.Common.{◌≡◌, ◌≢◌, ◌⊎◌, ℕ, ◌<◌, ◌≤◌, nat_lt, Bool, true, false, List, length, Option, Some, None, Result, Ok, Err, refl, sym, ap, subst, inl, inr, arith}
use Rattle.std.proofs.lemmas.Bool.Decides.{nat_tests}
use Rattle.std.specs.Io.KnownBytes.{Appends}
use Rattle.std.specs.Str.{IsUtf8}
use Rattle.toml.specs.Parse.{parse_document}
use Rattle.emv_ports.specs.Causes.{Rose}
use Rattle.emv_ports.specs.Memory.{Memory}
use Rattle.emv_ports.specs.Reading.{ReadsUpTo}
use Rattle.emv_top.specs.Answers.{Refuses}
use Rattle.emv_top.specs.Checking.{Checks, ChecksRead, HasFault, HasVerdict, TellsFront, TellsVerdict}
use Rattle.emv_top.specs.StatusCode.{SinkCount, SourceCount, status_code}
use Rattle.emv_top.specs.declared.status.Status.{Status}
use Rattle.emv_top.specs.declared.status.Status.TheVariants.{Done, Refused, Usage, ReadFault, WriteFault, OutOfMemory}
use Rattle.emv_top.proofs.Accepting.{same_bytes}
use Rattle.kernel.specs.Tally.{Counts}
use Rattle.scenario_fields.specs.Fault.{Gives}
use Rattle.scenario_fields.specs.Line.{refused_line}
use Rattle.scenario_fields.specs.declared.fault.ScenarioFault.{ScenarioFault}
use Rattle.scenario_fields.specs.declared.fault.ScenarioFault.TheVariants as fault
use Rattle.trace_check.specs.Document.{ReadsTrace, TraceData, trace_of_document}
use Rattle.trace_check.specs.Verdicts.{verdict_of}
use Rattle.trace_check.specs.declared.read.TheConstants.{MOST_BYTES}

-- the bytes are a trace's, or have a fault
module _ (bytes : List ℕ) (old new : Option (List ℕ)) where
  pub checked : (trace : TraceData) (status : Status) → ReadsTrace bytes (Ok trace) → TellsVerdict (verdict_of trace) old new status → Checks bytes old new status
  checked trace Done reading tells = record { trace = trace; reading = reading; told = tells }
  checked trace Refused reading tells = absurd tells
  checked trace Usage reading tells = absurd tells
  checked trace ReadFault reading tells = absurd tells
  checked trace WriteFault reading tells = inl (record { trace = trace; reading = reading; told = tells })
  checked trace OutOfMemory reading tells = absurd tells

  pub unchecked : (because : ScenarioFault) (bank : List Memory) (tally : Counts) (status : Status) → ReadsTrace bytes (Err because)
      → Refuses because old new bank tally status → Checks bytes old new status
  unchecked because bank tally Done reading refuses = absurd refuses
  unchecked because bank tally Refused reading refuses =
      record { fault = because; reading = reading; line = refuses.0; named = refuses.1; told = refuses.2 }
  unchecked because bank tally Usage reading refuses = absurd refuses
  unchecked because bank tally ReadFault reading refuses = absurd refuses
  unchecked because bank tally WriteFault reading refuses =
      inr (record { fault = because; reading = reading; line = refuses.0; named = refuses.1; told = refuses.2 })
  unchecked because bank tally OutOfMemory reading refuses = refuses.0

  pub was_checked : (status : Status) (left after : Option (List ℕ)) → ReadsUpTo 4194305 left after bytes → Checks bytes old new status
      → ChecksRead left after old new status
  was_checked Done left after reads checks = (bytes, reads, checks)
  was_checked Refused left after reads checks = (bytes, reads, checks)
  was_checked Usage left after reads checks = absurd checks
  was_checked ReadFault left after reads checks = absurd checks
  was_checked WriteFault left after reads checks = (bytes, reads, checks)
  was_checked OutOfMemory left after reads checks = checks

  -- the source was read to its end
  pub no_read_fault : (status : Status) → Checks bytes old new status → status ≡ ReadFault → ⊥
  no_read_fault Done checks is = cc
  no_read_fault Refused checks is = cc
  no_read_fault Usage checks is = cc
  no_read_fault ReadFault checks is = checks
  no_read_fault WriteFault checks is = cc
  no_read_fault OutOfMemory checks is = cc

  pub source_stays : (before now : ℕ) (status : Status) → Checks bytes old new status → now ≡ before → SourceCount before now status
  source_stays before now Done checks same = same
  source_stays before now Refused checks same = same
  source_stays before now Usage checks same = same
  source_stays before now ReadFault checks same = absurd checks
  source_stays before now WriteFault checks same = same
  source_stays before now OutOfMemory checks same = same

-- what was answered besides a trace for the same bytes can't be, where both can't be of one document
two_readings : (bytes : List ℕ) (trace : TraceData) (other : Result TraceData ScenarioFault) → ReadsTrace bytes (Ok trace) → ReadsTrace bytes other
    → ((has : Result TraceData ScenarioFault) → has ≡ Ok trace → Gives (λ x. x) other has → ⊥) → ⊥
two_readings bytes trace other one two clash = by (nat_lt MOST_BYTES (length bytes)) refl
  where
    no_text : length bytes ≤ MOST_BYTES → IsUtf8 bytes → ⊥
    no_text small text = clash (trace_of_document (parse_document bytes)) (one.text small text) (two.text small text)

    by : (long : Bool) → nat_lt MOST_BYTES (length bytes) ≡ long → ⊥
    by true size = let more : MOST_BYTES < length bytes = grind (arith, nat_tests) in let e = one.long more in absurd (cc)
    by false size = let small : length bytes ≤ MOST_BYTES = grind (arith, nat_tests) in let e = one.other small (no_text small) in absurd (cc)

-- want of memory has no line, and a document with another fault is no trace
no_trace : (e because : ScenarioFault) (line : List ℕ) → refused_line because ≡ Some line → (trace : TraceData) (has : Result TraceData ScenarioFault)
    → e ≡ because → has ≡ Ok trace → Gives (λ (y : TraceData). y) (Err e) has → ⊥
unfolding refused_line
no_trace fault.OutOfMemory because line told trace has same one two =
    let none : refused_line because ≡ None = ap refused_line (sym same) in absurd (cc)
no_trace fault.Toml because line told trace has same one two = absurd (cc)
no_trace (fault.MissingKey path) because line told trace has same one two = absurd (cc)
no_trace (fault.BadValue path) because line told trace has same one two = absurd (cc)
no_trace (fault.OutOfLimit path) because line told trace has same one two = absurd (cc)
no_trace (fault.UnknownKey path) because line told trace has same one two = absurd (cc)
no_trace (fault.UnknownName path) because line told trace has same one two = absurd (cc)

not_refused : (bytes : List ℕ) (trace : TraceData) → ReadsTrace bytes (Ok trace) → (written : List ℕ → Type 0) → HasFault bytes written → ⊥
not_refused bytes trace reading written refused =
    two_readings bytes trace (Err refused.fault) reading refused.reading
    (λ has one two. no_trace refused.fault refused.fault refused.line refused.named trace has refl one two)

-- where a trace was read and no count of faults rose, the check was made, or memory was wanting
module _ (bytes : List ℕ) (trace : TraceData) (reading : ReadsTrace bytes (Ok trace)) (left after old new : Option (List ℕ)) (known : left ≢ None)
    (reads : ReadsUpTo 4194305 left after bytes) where
  refusal : (other : List ℕ) → ReadsUpTo 4194305 left after other → HasFault other (Appends old new) → ⊥
  refusal other others refused =
      not_refused bytes trace reading (Appends old new)
      (subst (λ (b : List ℕ). HasFault b (Appends old new)) (sym (same_bytes left after bytes other known reads others)) refused)

  pub settles_check : (status : Status) (before now first last : ℕ) → ChecksRead left after old new status → SourceCount before now status
      → SinkCount first last status → (Rose before now → ⊥) → (Rose first last → ⊥) → (status_code status ≡ 0) ⊎ (status_code status ≡ 5)
  settles_check Done before now first last checks source sink calm still = inl refl
  settles_check Refused before now first last checks source sink calm still = absurd (refusal checks.0 checks.1 checks.2)
  settles_check Usage before now first last checks source sink calm still = absurd checks
  settles_check ReadFault before now first last checks source sink calm still = absurd (calm source)
  settles_check WriteFault before now first last checks source sink calm still = absurd (still sink)
  settles_check OutOfMemory before now first last checks source sink calm still = inr refl
