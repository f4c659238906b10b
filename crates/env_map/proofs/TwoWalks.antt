-- A walk behind another.
use Rattle.std.proofs.Common.{◌≡◌, Bool, true, false, if◌then◌else◌, Some, None, Result, Ok, Err, refl}
use Rattle.ber_tlv.specs.Tag.{names_template}
use Rattle.ber_tlv.specs.Walked.{Walked, Done, Broken, Met, then_walked}
use Rattle.env_map.specs.Entries.{Entries}
use Rattle.env_map.specs.Put.{put_of}
use Rattle.env_map.specs.Gathered.{Gathered, gathered, after_put}
use Rattle.env_map.specs.declared.env.EnvFault.{EnvFault}
use Rattle.env_map.specs.declared.gathering.GatherFault.{GatherFault}

-- what is gathered of an object and the rest of the walk
abbrev of_item : Bool → Entries → Result Entries EnvFault → Walked → Gathered
of_item kind entries put rest = if kind then gathered entries rest else after_put entries put (λ more. gathered more rest)

gathered_on_item : (kind : Bool) (entries : Entries) (put : Result Entries EnvFault) (rest behind : Walked) → (of_item kind entries put rest).fault ≡ None
    → ((gathered entries rest).fault ≡ None → gathered entries (then_walked rest behind) ≡ gathered (gathered entries rest).entries behind)
    → ((more : Entries) → (gathered more rest).fault ≡ None → gathered more (then_walked rest behind) ≡ gathered (gathered more rest).entries behind)
    → of_item kind entries put (then_walked rest behind) ≡ gathered (of_item kind entries put rest).entries behind
gathered_on_item true entries put rest behind e inside later = inside e
gathered_on_item false entries (Ok more) rest behind e inside later = later more e
gathered_on_item false entries (Err fault) rest behind e inside later = cc

gathered_fault_item : (kind : Bool) (entries : Entries) (put : Result Entries EnvFault) (rest behind : Walked) (fault : GatherFault) → (of_item kind entries put rest).fault ≡ Some fault
    → ((gathered entries rest).fault ≡ Some fault → gathered entries (then_walked rest behind) ≡ gathered entries rest)
    → ((more : Entries) → (gathered more rest).fault ≡ Some fault → gathered more (then_walked rest behind) ≡ gathered more rest)
    → of_item kind entries put (then_walked rest behind) ≡ of_item kind entries put rest
gathered_fault_item true entries put rest behind fault e inside later = inside e
gathered_fault_item false entries (Ok more) rest behind fault e inside later = later more e
gathered_fault_item false entries (Err broken) rest behind fault e inside later = refl

-- what is gathered of two walks, where the first has no fault
pub gathered_on : (entries : Entries) (walk behind : Walked) → (gathered entries walk).fault ≡ None → gathered entries (then_walked walk behind) ≡ gathered (gathered entries walk).entries behind
gathered_on entries Done behind e = refl
gathered_on entries (Broken fault) behind e = cc
gathered_on entries (Met item rest) behind e =
    gathered_on_item (names_template item.tag) entries (put_of (record { 0 = item.tag }) item.value entries) rest behind e (gathered_on entries rest behind) (λ more. gathered_on more rest behind)

pub gathered_fault : (entries : Entries) (walk behind : Walked) (fault : GatherFault) → (gathered entries walk).fault ≡ Some fault → gathered entries (then_walked walk behind) ≡ gathered entries walk
gathered_fault entries Done behind fault e = cc
gathered_fault entries (Broken broken) behind fault e = refl
gathered_fault entries (Met item rest) behind fault e =
    gathered_fault_item (names_template item.tag) entries (put_of (record { 0 = item.tag }) item.value entries) rest behind fault e (gathered_fault entries rest behind fault) (λ more. gathered_fault more rest behind fault)
