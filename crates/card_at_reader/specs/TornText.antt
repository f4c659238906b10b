-- A planned tear in the words of the line that plans it (this project's own).
use Rattle.std.specs.Prelude.{ℕ, List, ◌++◌, codes, decimal, Option, Some, None}
use Rattle.emv_ports.specs.declared.tear.Tear.{Tear}
use Rattle.emv_ports.specs.declared.tear.TearAt.{TearAt}
use Rattle.emv_ports.specs.declared.tear.TearAt.TheVariants.{Before, Within, Release}
use Rattle.report_text.specs.Pieces.{newline}

abbrev pub place_text : TearAt → List ℕ
place_text (Before number) = codes " before " ++ decimal number
place_text (Within number) = codes " within " ++ decimal number
place_text Release = codes " release"

-- the tear that fired last, if one did
abbrev pub torn_answer : Option Tear → List ℕ
torn_answer None = codes "?" ++ newline
torn_answer (Some tear) = codes "torn " ++ decimal tear.commit ++ place_text tear.at ++ newline
