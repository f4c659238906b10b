-- READ RECORD for each record of the locator, and what the records give (EMV 4.3 Book 3 sections
-- 6.5.11 and 10.2).
use Rattle.std.specs.Prelude.{ℕ, List, [], ◌∷◌, ◌++◌, ◌==◌, Bool, nat_le, is_some, map, Option, Some, None, option_map, Result, Ok, Err, if◌then◌else◌}
use Rattle.std.specs.List.{zip}
use Rattle.apdu_core.specs.Response.{ResponseData, response_of}
use Rattle.apdu_core.specs.Status.{no_error}
use Rattle.ber_tlv.specs.Direct.{sole_value}
use Rattle.ber_tlv.specs.Item.{ItemData}
use Rattle.ber_tlv.specs.Left.{items_of}
use Rattle.ber_tlv.specs.FaultPlace.{place_of_fault, place_or_zero}
use Rattle.ber_tlv.specs.Walked.{walk_of, walk_fault}
use Rattle.ber_tlv.specs.declared.item.TlvFault.{TlvFault}
use Rattle.emv_dict.specs.declared.ending.Cause.{Cause}
use Rattle.emv_dict.specs.declared.ending.Cause.TheVariants.{Answer, Status, Coding, Repeated, TooMuch}
use Rattle.env_map.specs.Entries.{Entries}
use Rattle.env_map.specs.Gathered.{primitives}
use Rattle.env_map.specs.Put.{put_of}
use Rattle.env_map.specs.declared.env.EnvFault.{EnvFault}
use Rattle.env_map.specs.declared.env.EnvFault.TheVariants as env
use Rattle.read_records.specs.Afl.{RecordPlace}

-- what answers to READ RECORD hold: their primitive objects at any depth, in order, and the fault
-- behind these that ends reading
pub record Held : Type 0 where
  pub objects : List ItemData
  pub fault : Option Cause

abbrev pub coding_of : TlvFault → Cause
coding_of fault = Coding (place_of_fault fault)

-- a record of the files 1 to 10 is one template 70
abbrev pub in_template : Bool → List ℕ → Held
in_template is_template body =
    if is_template then record { objects = primitives (walk_of body); fault = option_map coding_of (walk_fault (walk_of body)) }
    else record { objects = []; fault = Some (Coding (place_or_zero (walk_fault (walk_of body)))) }

-- nothing is taken from records of the files 11 to 30
abbrev pub held_in_body : ℕ → List ℕ → Held
held_in_body sfi body =
    if nat_le sfi 10 then in_template (is_some (sole_value 0x70 (items_of body))) body else record { objects = []; fault = None }

abbrev pub held_in_response : ℕ → Option ResponseData → Held
held_in_response sfi None = record { objects = []; fault = Some Answer }
held_in_response sfi (Some said) =
    if said.status == no_error then held_in_body sfi said.body else record { objects = []; fault = Some (Status said.status) }

-- what the answer for a record of this file holds
unfoldable pub held_in : ℕ → List ℕ → Held
held_in sfi answer = held_in_response sfi (response_of answer)

-- what one answer holds, and unless its fault ends reading, what the later ones hold
abbrev pub then_held : List ItemData → Option Cause → Held → Held
then_held objects (Some cause) later = record { objects = objects; fault = Some cause }
then_held objects None later = record { objects = objects ++ later.objects; fault = later.fault }

abbrev pub all_held : List Held → Held
all_held [] = record { objects = []; fault = None }
all_held (one ∷ later) = then_held one.objects one.fault (all_held later)

-- what the answers for these records hold, as far as there are answers
abbrev pub held_in_all : List RecordPlace → List (List ℕ) → Held
held_in_all places answers = all_held (map (λ read. held_in read.0.sfi read.1) (zip places answers))

-- why an object is not taken
abbrev pub cause_of_put : EnvFault → Cause
cause_of_put (env.Repeated tag) = Repeated tag
cause_of_put env.TooMany = TooMuch
cause_of_put env.TooLong = TooMuch

abbrev pub then_put : Result Entries EnvFault → (Entries → Result Entries Cause) → Result Entries Cause
then_put (Ok entries) next = next entries
then_put (Err fault) next = Err (cause_of_put fault)

-- the map with these objects, or why the first is not taken that is not
abbrev pub all_put : Entries → List ItemData → Result Entries Cause
all_put entries [] = Ok entries
all_put entries (item ∷ items) = then_put (put_of (record { 0 = item.tag }) item.value entries) (λ more. all_put more items)

abbrev pub data_unless_fault : Option Cause → Result Entries Cause → Result Entries Cause
data_unless_fault fault (Err cause) = Err cause
data_unless_fault None (Ok entries) = Ok entries
data_unless_fault (Some cause) (Ok entries) = Err cause

-- the map with all objects that are held, or the first fault
abbrev pub gathered_all : Entries → Held → Result Entries Cause
gathered_all entries held = data_unless_fault held.fault (all_put entries held.objects)
