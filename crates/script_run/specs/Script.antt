-- The script that the value of an issuer script template (71 or 72) spells (EMV 4.3 Book 3 section 10.10).
use Rattle.std.specs.Prelude.{ℕ, Bool, ◌==◌, if◌then◌else◌, List, [], ◌∷◌, length, map, Option, Some, None, Result, Ok, Err}
use Rattle.std.specs.List.{list_all}
use Rattle.ber_tlv.specs.Direct.{values_of}
use Rattle.ber_tlv.specs.Item.{ItemData}
use Rattle.ber_tlv.specs.Left.{items_of}
use Rattle.ber_tlv.specs.declared.item.TlvFault.{TlvFault}

-- an identifier of four bytes, and the commands in their order
pub record ReadScript : Type 0 where
  pub identifier : List ℕ
  pub commands : List (List ℕ)

-- the identifier of a script that has none
abbrev pub no_identifier : List ℕ
no_identifier = 0 ∷ 0 ∷ 0 ∷ 0 ∷ []

abbrev pub is_command : ItemData → Bool
is_command item = item.tag == 0x86

-- the script of these objects, where each one is a command
abbrev pub with_commands : List ℕ → List ItemData → Option ReadScript
with_commands identifier items =
    if list_all is_command items then Some (record { identifier = identifier; commands = map (λ item. item.value) items }) else None

-- an identifier of four bytes (9F18) may stand before the commands (86), and nothing else stands there
abbrev pub script_in : List ItemData → Option ReadScript
script_in [] = with_commands no_identifier []
script_in (item ∷ items) =
    if item.tag == 0x9F18 then (if length item.value == 4 then with_commands item.value items else None)
    else with_commands no_identifier (item ∷ items)

abbrev pub script_read : Result (List ItemData) TlvFault → Option ReadScript
script_read (Ok items) = script_in items
script_read (Err fault) = None

-- the script, where the value is of this form
unfoldable pub script_of : List ℕ → Option ReadScript
script_of template = script_read (items_of template)

-- the commands of a template, in their order
unfoldable pub commands_of : List ℕ → List (List ℕ)
commands_of template = values_of 0x86 (items_of template)
