-- The data objects that a terminal gives to the object lists of a card (EMV 4.3 Book 3 Annex A).
use Rattle.std.specs.Prelude.{ℕ, List, [], ◌∷◌, ◌++◌, Option, Some, None}
use Rattle.std.specs.Int.{to_be_bytes, w16}
use Rattle.emv_dict.specs.Bcd.{numeric, two_digits}
use Rattle.emv_dict.specs.Flags.{tvr_bytes}
use Rattle.emv_dict.specs.Views.{SettingsData, PurchaseData}
use Rattle.emv_dict.specs.declared.purchase.AidRow.{AidRow}
use Rattle.env_map.specs.Entries.{Entries}
use Rattle.terminal_state.specs.StepResults.{StateSoFarData}

-- a terminal with its settings, and a purchase that it is asked for
pub record Outset : Type 0 where
  pub settings : SettingsData
  pub purchase : PurchaseData

-- an object that need not be there
abbrev pub object_if_there : ℕ → Option (List ℕ) → Entries
object_if_there tag None = []
object_if_there tag (Some value) = (tag, value) ∷ []

-- those that are always there, by rising tag
unfoldable pub lasting_objects : Outset → AidRow → StateSoFarData → Entries
lasting_objects outset row state_so_far =
    (0x95, tvr_bytes state_so_far.tvr)
    ∷ (0x9A, outset.purchase.date)
    ∷ (0x9B, to_be_bytes w16 state_so_far.tsi)
    ∷ (0x9C, outset.purchase.trade ∷ [])
    ∷ (0x5F2A, outset.purchase.currency)
    ∷ (0x9F02, numeric 6 outset.purchase.amount)
    ∷ (0x9F03, numeric 6 outset.purchase.other)
    ∷ (0x9F06, row.name)
    ∷ (0x9F09, row.version)
    ∷ (0x9F1A, outset.settings.country)
    ∷ (0x9F1C, outset.settings.id)
    ∷ (0x9F21, outset.purchase.time)
    ∷ (0x9F33, outset.settings.caps)
    ∷ (0x9F34, state_so_far.results)
    ∷ (0x9F35, two_digits outset.settings.kind ∷ [])
    ∷ (0x9F37, outset.purchase.number)
    ∷ []

-- the objects of a terminal in this application at this moment, by rising tag
unfoldable pub terminal_objects : Outset → AidRow → StateSoFarData → Entries
terminal_objects outset row state_so_far = object_if_there 0x8A state_so_far.code ++ object_if_there 0x91 state_so_far.issuer_data ++ lasting_objects outset row state_so_far
