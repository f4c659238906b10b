-- The file control information that a SELECT is answered with (EMV 4.3 Book 1 section 11.3.4).
use Rattle.std.specs.Prelude.{ℕ, List, [], ◌∷◌, ◌&&◌, nat_le, length, Option, Some, None, Result, Ok, Err, if◌then◌else◌, IfSome, ◌≤◌}
use Rattle.ber_tlv.specs.Direct.{first_value, sole_value}
use Rattle.ber_tlv.specs.Item.{ItemData}
use Rattle.ber_tlv.specs.Left.{items_of}
use Rattle.ber_tlv.specs.declared.item.TlvFault.{TlvFault}

-- what stands in the proprietary template (A5): the byte of the application priority indicator (87)
-- and the processing options data object list (9F38)
pub record ProprietaryData : Type 0 where
  pub priority : Option ℕ
  pub pdol : Option (List ℕ)

-- the same with the dedicated file name (84)
pub record FciData : Type 0 where
  pub name : List ℕ
  pub priority : Option ℕ
  pub pdol : Option (List ℕ)

-- the priority indicator has one byte
abbrev pub with_priority : Option (List ℕ) → Option (List ℕ) → Option ProprietaryData
with_priority None pdol = Some (record { priority = None; pdol = pdol })
with_priority (Some []) pdol = None
with_priority (Some (byte ∷ [])) pdol = Some (record { priority = Some byte; pdol = pdol })
with_priority (Some (byte ∷ other ∷ bytes)) pdol = None

unfoldable pub proprietary_in : Result (List ItemData) TlvFault → Option ProprietaryData
proprietary_in (Ok items) = with_priority (first_value 0x87 items) (first_value 0x9F38 items)
proprietary_in (Err fault) = None

-- the template need not be there
abbrev pub proprietary_of : Option (List ℕ) → Option ProprietaryData
proprietary_of None = Some (record { priority = None; pdol = None })
proprietary_of (Some value) = proprietary_in (items_of value)

-- a name has 1 to 16 bytes
abbrev pub fitting_name : Option (List ℕ) → Option (List ℕ)
fitting_name None = None
fitting_name (Some name) = (if nat_le 1 (length name) && nat_le (length name) 16 then Some name else None)

abbrev pub fci_with : Option (List ℕ) → Option ProprietaryData → Option FciData
fci_with None proprietary = None
fci_with (Some name) None = None
fci_with (Some name) (Some proprietary) = Some (record { name = name; priority = proprietary.priority; pdol = proprietary.pdol })

-- the objects directly in the FCI template (6F)
unfoldable pub fci_in : Result (List ItemData) TlvFault → Option FciData
fci_in (Ok items) = fci_with (fitting_name (first_value 0x84 items)) (proprietary_of (first_value 0xA5 items))
fci_in (Err fault) = None

abbrev pub fci_in_template : Option (List ℕ) → Option FciData
fci_in_template None = None
fci_in_template (Some template) = fci_in (items_of template)

-- what a body gives that is one template 6F alone; none where it cannot be read
unfoldable pub fci_of : List ℕ → Option FciData
fci_of body = fci_in_template (sole_value 0x6F (items_of body))

-- an object list is no longer than one that can be read
abbrev pub IsShortList : Option (List ℕ) → Type 0
IsShortList pdol = IfSome pdol (λ list. length list ≤ 255)
