-- What an answer to SELECT says, as a contract sees it.
use Rattle.std.specs.Prelude.{option_map}
use Rattle.app_select.specs.Fci.{FciData, ProprietaryData}
use Rattle.app_select.specs.Said as spec
use Rattle.app_select.specs.declared.fci.Fci.{Fci}
use Rattle.app_select.specs.declared.fci.Proprietary.{Proprietary}
use Rattle.app_select.specs.declared.fci.Said.{Said}
use Rattle.app_select.specs.declared.fci.Said.TheVariants as said

abbrev pub seen_proprietary : Proprietary → ProprietaryData
seen_proprietary p = record { priority = p.priority; pdol = option_map (λ list. list.now) p.pdol }

abbrev pub seen_fci : Fci → FciData
seen_fci f = record { name = f.name; priority = f.priority; pdol = option_map (λ list. list.now) f.pdol }

abbrev pub seen_select_said : Said → spec.SaidData
seen_select_said said.Unreadable = spec.Unreadable
seen_select_said said.Blocked = spec.Blocked
seen_select_said (said.Named valid fci) = spec.Named valid (seen_fci fci)
seen_select_said said.Nothing = spec.Nothing
