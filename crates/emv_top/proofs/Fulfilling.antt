-- What answers the words, of the words themselves and of the pages that are handed back; what is read isn't refused.
use Rattle.std.proofs.Common.{◌≡◌, ◌⊎◌, ℕ, List, Option, Some, sym, subst}
use Rattle.emv_ports.specs.Causes.{Rose}
use Rattle.emv_ports.specs.Memory.{Memory}
use Rattle.emv_top.specs.StatusCode.{FaultCounts, status_code}
use Rattle.emv_top.specs.Subcommands.{Effects, Fulfils, SourceGives}
use Rattle.emv_top.specs.declared.status.Status.{Status}
use Rattle.emv_top.specs.declared.words.Subcommand.{Subcommand}
use Rattle.emv_top.specs.declared.words.Subcommand.TheVariants.{Play, Generate, Check}
use Rattle.emv_top.proofs.Accepting.{settles}
use Rattle.emv_top.proofs.Checked.{settles_check}
use Rattle.emv_top.proofs.Summing.{settles_summed}
use Rattle.kernel.specs.Tally.{Counts}

module _ (left after old new : Option (List ℕ)) (tally : Counts) (status : Status) where
  abbrev effects : List Memory → Effects
  effects bank = record { left = left; after = after; held = old; holds = new; pages = bank; tally = tally }

  pub fulfils_as : (asked words : Option Subcommand) (bank pages : List Memory) → asked ≡ words → pages ≡ bank → Fulfils asked (effects bank) status
      → Fulfils words (effects pages) status
  fulfils_as asked words bank pages same handed fulfils =
      subst (λ (p : List Memory). Fulfils words (effects p) status) (sym handed)
      (subst (λ (o : Option Subcommand). Fulfils o (effects bank) status) same fulfils)

  -- where no count of faults rose, what was asked for was written, or memory was wanting
  serves_by : (subcommand : Subcommand) (bank : List Memory) (source_before source_now sink_before sink_now : ℕ) → Fulfils (Some subcommand) (effects bank) status
      → FaultCounts source_before source_now sink_before sink_now status → SourceGives subcommand left after
      → (Rose source_before source_now → ⊥) → (Rose sink_before sink_now → ⊥) → (status_code status ≡ 0) ⊎ (status_code status ≡ 5)
  serves_by (Play order) bank source_before source_now sink_before sink_now fulfils counts gave calm still =
      settles order gave.bytes gave.scenario gave.input left after old new bank tally gave.known gave.reads status source_before source_now sink_before sink_now
      fulfils counts.source counts.sink calm still
  serves_by (Generate n) bank source_before source_now sink_before sink_now fulfils counts gave calm still =
      settles_summed n old new bank tally status sink_before sink_now fulfils counts.sink still
  serves_by Check bank source_before source_now sink_before sink_now fulfils counts gave calm still =
      settles_check gave.bytes gave.trace gave.input left after old new gave.known gave.reads status source_before source_now sink_before sink_now
      fulfils.0 counts.source counts.sink calm still

  pub serves : (asked : Option Subcommand) (subcommand : Subcommand) (bank : List Memory) (source_before source_now sink_before sink_now : ℕ)
      → asked ≡ Some subcommand → Fulfils asked (effects bank) status → FaultCounts source_before source_now sink_before sink_now status
      → SourceGives subcommand left after → (Rose source_before source_now → ⊥) → (Rose sink_before sink_now → ⊥)
      → (status_code status ≡ 0) ⊎ (status_code status ≡ 5)
  serves asked subcommand bank source_before source_now sink_before sink_now is fulfils =
      serves_by subcommand bank source_before source_now sink_before sink_now (subst (λ (o : Option Subcommand). Fulfils o (effects bank) status) is fulfils)
