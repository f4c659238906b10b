-- The line of a fault.
use Rattle.std.specs.Prelude.{ℕ, List, [], ◌∷◌, ◌++◌, codes, Option, Some, None}
use Rattle.scenario_fields.specs.declared.fault.ScenarioFault.{ScenarioFault}
use Rattle.scenario_fields.specs.declared.fault.ScenarioFault.TheVariants.{Toml, MissingKey, BadValue, OutOfLimit, UnknownKey, UnknownName, OutOfMemory}

-- the words in front, the path, and a newline
abbrev pub line_with : List ℕ → List ℕ → List ℕ
line_with words path = words ++ (path ++ 10 ∷ [])

-- `refused`, the number, the name and the path, with one blank between
unfoldable pub refused_line : ScenarioFault → Option (List ℕ)
refused_line Toml = Some (codes "refused 1 Toml" ++ 10 ∷ [])
refused_line (MissingKey path) = Some (line_with (codes "refused 2 MissingKey ") path)
refused_line (BadValue path) = Some (line_with (codes "refused 3 BadValue ") path)
refused_line (OutOfLimit path) = Some (line_with (codes "refused 4 OutOfLimit ") path)
refused_line (UnknownKey path) = Some (line_with (codes "refused 5 UnknownKey ") path)
refused_line (UnknownName path) = Some (line_with (codes "refused 6 UnknownName ") path)
refused_line OutOfMemory = None
