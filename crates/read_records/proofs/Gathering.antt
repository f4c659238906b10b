-- Objects that are put into a map: those of a walk, and those of one answer before those of the later ones.
use Rattle.std.proofs.Common.{◌≡◌, List, [], ◌∷◌, Bool, true, false, Ok, Err, Some, None, option_map, is_some, not, refl, ap, sym, ◌∙◌, if◌then◌else◌}
use Rattle.std.specs.declared.option.Option.{Option}
use Rattle.std.specs.declared.result.Result.{Result}
use Rattle.ber_tlv.specs.Item.{ItemData}
use Rattle.ber_tlv.specs.Tag.{names_template}
use Rattle.ber_tlv.specs.Walked.{Walked, Done, Broken, Met, walk_fault}
use Rattle.emv_dict.specs.declared.ending.Cause.{Cause}
use Rattle.env_map.specs.Entries.{Entries}
use Rattle.env_map.specs.Gathered.{primitives, after_put, gathered}
use Rattle.env_map.specs.Put.{put_of}
use Rattle.env_map.specs.declared.env.EnvFault.{EnvFault}
use Rattle.env_map.specs.declared.gathering.GatherFault.{GatherFault}
use Rattle.read_records.specs.Records.{Held, coding_of, then_held, then_put, all_put, data_unless_fault, gathered_all}
use Rattle.read_records.specs.SeenFault.{cause_of}

-- what was looked for is there
pub is_some-there : {A B : Type 0} (see : A → B) (found : Option A) (seen : Option B) (b : Bool) → option_map see found ≡ seen → is_some found ≡ not b → b ≡ false → is_some seen ≡ true
is_some-there see None seen b same is there = cc
is_some-there see (Some value) seen b same is there = ap is_some (sym same)

-- the map, where no fault ended the walk
map_of : Entries → Option GatherFault → Result Entries Cause
map_of entries None = Ok entries
map_of entries (Some fault) = Err (cause_of fault)

put_first : (entries : Entries) (put : Result Entries EnvFault) (walk : Walked) (items : List ItemData) (fault : Option Cause)
    → ((more : Entries) → map_of (gathered more walk).entries (gathered more walk).fault ≡ data_unless_fault fault (all_put more items))
    → map_of (after_put entries put (λ more. gathered more walk)).entries (after_put entries put (λ more. gathered more walk)).fault
    ≡ data_unless_fault fault (then_put put (λ more. all_put more items))
unfolding map_of
put_first entries (Ok more) walk items fault rest = rest more
put_first entries (Err because) walk items fault rest = refl

met : (test : Bool) (entries : Entries) (item : ItemData) (rest : Walked)
    → ((more : Entries) → map_of (gathered more rest).entries (gathered more rest).fault ≡ data_unless_fault (option_map coding_of (walk_fault rest)) (all_put more (primitives rest)))
    → map_of (if test then gathered entries rest else after_put entries (put_of (record { 0 = item.tag }) item.value entries) (λ more. gathered more rest)).entries
    (if test then gathered entries rest else after_put entries (put_of (record { 0 = item.tag }) item.value entries) (λ more. gathered more rest)).fault
    ≡ data_unless_fault (option_map coding_of (walk_fault rest)) (all_put entries (if test then primitives rest else item ∷ primitives rest))
met true entries item rest each = each entries
met false entries item rest each = put_first entries (put_of (record { 0 = item.tag }) item.value entries) rest (primitives rest) _ each

-- what a walk gathers is what it holds
gathered_walk : (walk : Walked) (entries : Entries)
    → map_of (gathered entries walk).entries (gathered entries walk).fault ≡ data_unless_fault (option_map coding_of (walk_fault walk)) (all_put entries (primitives walk))
unfolding map_of
gathered_walk Done entries = refl
gathered_walk (Broken fault) entries = refl
gathered_walk (Met item rest) entries = met (names_template item.tag) entries item rest (gathered_walk rest)

pub gathered-ok : (walk : Walked) (entries : Entries) → (gathered entries walk).fault ≡ None
    → data_unless_fault (option_map coding_of (walk_fault walk)) (all_put entries (primitives walk)) ≡ Ok (gathered entries walk).entries
unfolding map_of
gathered-ok walk entries calm = sym (gathered_walk walk entries) ∙ ap (map_of (gathered entries walk).entries) calm

pub gathered-err : (walk : Walked) (entries : Entries) (fault : GatherFault) → (gathered entries walk).fault ≡ Some fault
    → data_unless_fault (option_map coding_of (walk_fault walk)) (all_put entries (primitives walk)) ≡ Err (cause_of fault)
unfolding map_of
gathered-err walk entries fault faulty = sym (gathered_walk walk entries) ∙ ap (map_of (gathered entries walk).entries) faulty

-- one answer's objects and fault before those of the later ones
unfoldable pub then_read : Result Entries Cause → (Entries → Result Entries Cause) → Result Entries Cause
then_read (Ok entries) next = next entries
then_read (Err cause) next = Err cause

put_front : (put : Result Entries EnvFault) (items : List ItemData) (fault : Option Cause) (later : Held)
    → ((more : Entries) → gathered_all more (then_held items fault later) ≡ then_read (data_unless_fault fault (all_put more items)) (λ entries. gathered_all entries later))
    → data_unless_fault (then_held items fault later).fault (then_put put (λ more. all_put more (then_held items fault later).objects))
    ≡ then_read (data_unless_fault fault (then_put put (λ more. all_put more items))) (λ entries. gathered_all entries later)
unfolding then_read
put_front (Ok more) items fault later each = each more
put_front (Err because) items None later each = refl
put_front (Err because) items (Some cause) later each = refl

pub gathered_all-then : (items : List ItemData) (fault : Option Cause) (later : Held) (entries : Entries)
    → gathered_all entries (then_held items fault later) ≡ then_read (data_unless_fault fault (all_put entries items)) (λ more. gathered_all more later)
unfolding then_read
gathered_all-then [] None later entries = refl
gathered_all-then [] (Some cause) later entries = refl
gathered_all-then (item ∷ items) None later entries = put_front (put_of (record { 0 = item.tag }) item.value entries) items None later (gathered_all-then items None later)
gathered_all-then (item ∷ items) (Some cause) later entries = put_front (put_of (record { 0 = item.tag }) item.value entries) items (Some cause) later (gathered_all-then items (Some cause) later)
