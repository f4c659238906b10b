-- What answers `generate N`: the summary of a whole run of the generated scenario of N purchases.
use Rattle.std.specs.Prelude.{◌≡◌, ◌⊎◌, ℕ, ◌+ℤ◌, ◌-ℤ◌, ℤ, pos, Bool, List, ◌++◌, codes, decimal, fold, Option, Some, None}
use Rattle.std.specs.Fmt.{signed_decimal}
use Rattle.std.specs.Int.{saturate_signed, w128}
use Rattle.std.specs.Io.KnownBytes.{Appends}
use Rattle.emv_ports.specs.Growth.{AppendsFront}
use Rattle.emv_ports.specs.Memory.{Memory}
use Rattle.emv_top.specs.Answers.{AreSettled, IsUnmade, Leaves}
use Rattle.emv_top.specs.Decided.{DecidedRun}
use Rattle.emv_top.specs.declared.status.Status.{Status}
use Rattle.emv_top.specs.declared.status.Status.TheVariants.{Done, Refused, Usage, ReadFault, WriteFault, OutOfMemory}
use Rattle.generated.specs.Generated.{generated_of}
use Rattle.issuer_host.specs.Account.{AccountData}
use Rattle.issuer_host.specs.History.{balance_after}
use Rattle.kernel.specs.Tally.{Counts}
use Rattle.report_text.specs.Pieces.{newline}
use Rattle.report_text.specs.declared.line.Line.{Line}
use Rattle.scenario_plan.specs.Plan.{ScenarioData, IsScenario}
use Rattle.txn_replay.specs.Counting.{counts}
use Rattle.txn_replay.specs.Run.{RunPlace, Reached}
use Rattle.txn_replay.specs.World.{World}

-- the generated scenario of so many purchases, which keeps to the rules
pub record IsGenerated (n : ℕ) (s : ScenarioData) : Type 0 where
  pub rules : IsScenario s
  pub is : s ≡ generated_of n

-- the opening balance less the balance
abbrev pub less : ℕ → Option ℤ → ℤ
less opening None = pos 0
less opening (Some balance) = pos opening -ℤ balance

-- what an account has paid
abbrev pub paid : ScenarioData → World → AccountData → ℤ
paid s w account = less account.balance (balance_after s.issuer s.accounts w.messages account.pan)

-- what all accounts have paid
abbrev pub booked : ScenarioData → World → ℤ
booked s w = fold (λ sum account. sum +ℤ paid s w account) (pos 0) s.accounts

-- the number nearest to it of 128 bits
abbrev pub capped_sum : ℤ → ℤ
capped_sum sum = saturate_signed w128 sum

-- three lines, of this tally and this sum
unfoldable pub summary_of : ℕ → Counts → ℤ → List ℕ
summary_of n tally sum =
    codes "generated " ++ decimal n ++ newline
    ++ codes "approved " ++ decimal tally.approved ++ codes " declined " ++ decimal tally.declined ++ codes " other " ++ decimal tally.other ++ newline
    ++ codes "booked " ++ signed_decimal sum ++ newline

abbrev pub summary_text : ℕ → ScenarioData → World → List ℕ
summary_text n s w = summary_of n (counts w) (capped_sum (booked s w))

-- a whole run of the generated scenario was made, and this became of its summary
pub record SumsUp (n : ℕ) (bank : List Memory) (tally : Counts) (written : List ℕ → Type 0) : Type 0 where
  pub lines : List Line
  pub world : World
  pub run : DecidedRun (generated_of n) lines world
  pub leaves : Leaves (generated_of n) bank tally world
  pub settled : AreSettled (generated_of n) world
  pub told : written (summary_text n (generated_of n) world)

-- it was appended
abbrev pub IsSummed : ℕ → Option (List ℕ) → Option (List ℕ) → List Memory → Counts → Type 0
IsSummed n old new bank tally = SumsUp n bank tally (Appends old new)

-- or a front of it
abbrev pub IsSummedShort : ℕ → Option (List ℕ) → Option (List ℕ) → List Memory → Counts → Type 0
IsSummedShort n old new bank tally = SumsUp n bank tally (AppendsFront old new)

-- a run of the generated scenario has come to this world, and nothing was written
pub record IsDropped (n : ℕ) (old new : Option (List ℕ)) (bank : List Memory) (tally : Counts) : Type 0 where
  pub place : RunPlace
  pub count : ℕ
  pub choices : List Bool
  pub lines : List Line
  pub world : World
  pub reached : Reached (generated_of n) place count choices lines world
  pub leaves : Leaves (generated_of n) bank tally world
  pub unwritten : new ≡ old

-- want of memory: nothing was begun, or a run was cut
abbrev pub IsUnsummed : ℕ → Option (List ℕ) → Option (List ℕ) → List Memory → Counts → Type 0
IsUnsummed n old new bank tally = IsUnmade old new bank tally ⊎ IsDropped n old new bank tally

-- what becomes of a generated scenario, by the status that tells it
abbrev pub Generates : ℕ → Option (List ℕ) → Option (List ℕ) → List Memory → Counts → Status → Type 0
-- 0: one whole run of the generated scenario of so many purchases was made, and the sink got exactly its summary; of that very
-- run are the pages and the tally, as for `replay`
Generates n old new bank tally Done = IsSummed n old new bank tally
Generates n old new bank tally Refused = ⊥
Generates n old new bank tally Usage = ⊥
Generates n old new bank tally ReadFault = ⊥
-- 4: the run was made all the same, and the sink, which failed, got a front of its summary
Generates n old new bank tally WriteFault = IsSummedShort n old new bank tally
-- 5: there was no memory: before anything began, or in the run; nothing was written
Generates n old new bank tally OutOfMemory = IsUnsummed n old new bank tally
