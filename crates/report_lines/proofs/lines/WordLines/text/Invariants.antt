use Rattle.report_lines.proofs.Growing.{IsGrown}
use Rattle.report_lines.specs.Lines.{line_opened}
use Rattle.std.proofs.Common.{take}
use Rattle.report_lines.proofs.lines.WordLines.text.Given as goal

abbrev pub invariant-loop-byte : goal.invariant-loop-byte
invariant-loop-byte l = IsGrown l.fn.self l.self (line_opened l.fn.self.made.bytes) (take l.byte-index l.text)
