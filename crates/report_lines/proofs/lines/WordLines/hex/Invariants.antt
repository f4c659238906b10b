use Rattle.std.proofs.Common.{take}
use Rattle.std.specs.List.{flat_map}
use Rattle.report_lines.specs.Hex.{pair_text}
use Rattle.report_lines.specs.Lines.{line_opened}
use Rattle.report_lines.proofs.Growing.{IsGrown}
use Rattle.report_lines.proofs.lines.WordLines.hex.Given as goal

abbrev pub invariant-loop-byte : goal.invariant-loop-byte
invariant-loop-byte l = IsGrown l.fn.self l.self (line_opened l.fn.self.made.bytes) (flat_map pair_text (take l.byte-index l.bytes))
