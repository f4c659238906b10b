-- The text of lines.
use Rattle.std.specs.Prelude.{ℕ, List}
use Rattle.std.specs.List.{flat_map}
use Rattle.report_text.specs.Text.{line_text}
use Rattle.report_text.specs.declared.line.Line.{Line}

abbrev pub text_of_lines : List Line → List ℕ
text_of_lines lines = flat_map line_text lines
