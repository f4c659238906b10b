-- The primitive objects of a byte string put into a map, in the order of their first bytes, at any
-- depth (EMV 4.3 Book 3 section 10.2).
use Rattle.std.specs.Prelude.{if◌then◌else◌, List, [], ◌∷◌, Option, Some, None, Result, Ok, Err}
use Rattle.ber_tlv.specs.Item.{ItemData}
use Rattle.ber_tlv.specs.Tag.{names_template}
use Rattle.ber_tlv.specs.Walked.{Walked, Done, Broken, Met}
use Rattle.env_map.specs.Entries.{Entries}
use Rattle.env_map.specs.Put.{put_of}
use Rattle.env_map.specs.declared.env.EnvFault.{EnvFault}
use Rattle.env_map.specs.declared.gathering.GatherFault.{GatherFault}
use Rattle.env_map.specs.declared.gathering.GatherFault.TheVariants.{Coding, Put}

-- the primitive objects of a walk, in its order
abbrev pub primitives : Walked → List ItemData
primitives Done = []
primitives (Broken fault) = []
primitives (Met item rest) = (if names_template item.tag then primitives rest else item ∷ primitives rest)

-- the map, and the fault that ended the walk
pub record Gathered : Type 0 where
  pub entries : Entries
  pub fault : Option GatherFault

-- what an object's putting leaves: the rest of the walk over the new map, or the old map and the fault
abbrev pub after_put : Entries → Result Entries EnvFault → (Entries → Gathered) → Gathered
after_put entries (Ok more) rest = rest more
after_put entries (Err fault) rest = record { entries = entries; fault = Some (Put fault) }

-- each primitive object is put; the first fault of the coding or of the map ends the walk
abbrev pub gathered : Entries → Walked → Gathered
gathered entries Done = record { entries = entries; fault = None }
gathered entries (Broken fault) = record { entries = entries; fault = Some (Coding fault) }
gathered entries (Met item rest) =
    if names_template item.tag then gathered entries rest
    else after_put entries (put_of (record { 0 = item.tag }) item.value entries) (λ more. gathered more rest)
