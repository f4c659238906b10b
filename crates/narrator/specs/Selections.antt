-- Which names a lane's terminal asked for and was given as it selected an application (EMV 4.3 Book 1 section 12.3).
use Rattle.std.specs.Prelude.{ℕ, ◌==◌, Bool, true, false, not, ◌&&◌, nat_lt, if◌then◌else◌, List, [], ◌∷◌, ◌++◌, length, Option, Some, None, is_some, Result, Ok, Err}
use Rattle.apdu_core.specs.Command.{CommandData, command_of}
use Rattle.apdu_core.specs.Response.{ResponseData, response_of}
use Rattle.apdu_core.specs.Status.{no_error}
use Rattle.ber_tlv.specs.Direct.{found_value, sole_value}
use Rattle.ber_tlv.specs.Left.{items_of}
use Rattle.ber_tlv.specs.declared.item.TlvFault.{TlvFault}
use Rattle.exchange_words.specs.Kinds.{value_or_empty}
use Rattle.exchange_words.specs.Lanes.{no_bytes, kept_if_short}
use Rattle.narrator.specs.declared.selection.NameFound.{NameFound}
use Rattle.narrator.specs.declared.selection.Selection.{Selection}

-- before any command, and as a card is powered up
abbrev pub nothing_selected : Selection
nothing_selected = record { name = no_bytes; given = no_bytes; found = record { items = [] } }

-- the name that SELECT asks for; none of another command
abbrev pub name_of_select : Option CommandData → Option (List ℕ)
name_of_select None = None
name_of_select (Some command) = (if command.class == 0x00 && command.ins == 0xA4 then Some command.body else None)

abbrev pub name_asked : List ℕ → Option (List ℕ)
name_asked command = name_of_select (command_of command)

-- file control information can be read where the objects in the template 6F and in its template A5 can, and the priority
-- indicator 87 has one byte (section 11.3.4); neither A5 nor 87 need be there
abbrev pub is_indicator : Result (Option (List ℕ)) TlvFault → Bool
is_indicator (Ok None) = true
is_indicator (Ok (Some value)) = length value == 1
is_indicator (Err fault) = false

abbrev pub has_indicator : List ℕ → Bool
has_indicator proprietary = is_indicator (found_value 0x87 (items_of proprietary))

abbrev pub is_proprietary : Result (Option (List ℕ)) TlvFault → Bool
is_proprietary (Ok None) = true
is_proprietary (Ok (Some value)) = has_indicator value
is_proprietary (Err fault) = false

abbrev pub is_fci : List ℕ → Bool
is_fci template = is_proprietary (found_value 0xA5 (items_of template))

-- the name 84 in it; nothing where it can't be read
abbrev pub name_in_fci : List ℕ → List ℕ
name_in_fci template = (if is_fci template then value_or_empty 0x84 template else [])

abbrev pub name_if_fci : Option (List ℕ) → List ℕ
name_if_fci None = []
name_if_fci (Some template) = name_in_fci template

abbrev pub name_selected : List ℕ → List ℕ
name_selected body = name_if_fci (sole_value 0x6F (items_of body))

abbrev pub name_by_status : Option ResponseData → List ℕ
name_by_status None = []
name_by_status (Some response) = (if response.status == no_error then name_selected response.body else [])

-- the name that an answer to SELECT gives; nothing where it selects no valid application
abbrev pub name_given : List ℕ → List ℕ
name_given answer = name_by_status (response_of answer)

-- a name was given, and there is room for it: 16 occurrences of each of 16 AIDs give no more, and the directory
abbrev pub is_finding : Selection → Bool
is_finding s = not (length s.given.items == 0) && nat_lt (length s.found.items) 257

-- the name that was given for the last one that was asked for is found
abbrev pub found_with : Selection → List NameFound
found_with s = (if is_finding s then s.found.items ++ record { asked = s.name; given = s.given } ∷ [] else s.found.items)

abbrev pub with_found : Selection → Selection
with_found s = record { name = no_bytes; given = no_bytes; found = record { items = found_with s } }

-- another SELECT directly behind an answer shows that the terminal goes through its list of AIDs (section 12.3.3): to an
-- application that it means to use it sends GET PROCESSING OPTIONS
abbrev pub selection_behind : Option (List ℕ) → Selection → Selection
selection_behind None s = record s { given = no_bytes }
selection_behind (Some name) s = record (with_found s) { name = record { items = kept_if_short 16 name } }

-- what a command leaves of selection
abbrev pub selection_asked : List ℕ → Selection → Selection
selection_asked command s = selection_behind (name_asked command) s

-- what an answer leaves of it
abbrev pub selection_answered : List ℕ → List ℕ → Selection → Selection
selection_answered command answer s =
    if is_some (name_asked command) then record s { given = record { items = kept_if_short 16 (name_given answer) } } else s
