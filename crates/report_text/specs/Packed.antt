-- The lines of an event, as heads and the bytes of all of them.
use Rattle.std.specs.Prelude.{◌≡◌, ℕ, Bool, true, false, ◌+◌, ◌≤◌, List, [], ◌∷◌, take, drop, length}
use Rattle.std.specs.List.{AllByRecursion}
use Rattle.report_text.specs.declared.line.Line.{Line}
use Rattle.report_text.specs.declared.line.Line.TheVariants as line
use Rattle.report_text.specs.declared.head.Head.{Head}
use Rattle.report_text.specs.declared.head.Head.TheVariants as head
use Rattle.report_text.specs.declared.head.LinePlace.{LinePlace}

-- contracts see the lines as a list
pub record LinesData : Type 0 where
  pub items : List Line

-- the line of a head and its bytes
abbrev pub line_at : Head → List ℕ → Line
line_at (head.Power lane card apps) bytes = line.Power lane card apps
line_at (head.PowerCanned lane card) bytes = line.PowerCanned lane card
line_at (head.PowerTorn lane card) bytes = line.PowerTorn lane card
line_at (head.ToCard lane) bytes = line.ToCard lane (record { items = bytes })
line_at (head.FromCard lane) bytes = line.FromCard lane (record { items = bytes })
line_at (head.Torn lane) bytes = line.Torn lane
line_at (head.Gone lane) bytes = line.Gone lane
line_at (head.ToHost lane) bytes = line.ToHost lane (record { items = bytes })
line_at (head.FromHost lane) bytes = line.FromHost lane (record { items = bytes })
line_at (head.NoReply lane) bytes = line.NoReply lane
line_at (head.End lane number parts) bytes = line.End lane number parts
line_at (head.EndLost lane number) bytes = line.EndLost lane number
line_at (head.SettleCall lane) bytes = line.SettleCall lane (record { items = bytes })
line_at (head.SettleReply lane) bytes = line.SettleReply lane (record { items = bytes })
line_at (head.AuditPower card apps) bytes = line.AuditPower card apps
line_at (head.AuditAsk card) bytes = line.AuditAsk card (record { items = bytes })
line_at (head.AuditAnswer card) bytes = line.AuditAnswer card (record { items = bytes })

-- the line says how a purchase ended, or that it was lost
abbrev pub is_end_line : Line → Bool
is_end_line (line.End lane number parts) = true
is_end_line (line.EndLost lane number) = true
is_end_line other = false

-- each line has the next of the bytes, as many as its place says
abbrev pub lines_at : List LinePlace → List ℕ → List Line
lines_at [] bytes = []
lines_at (place ∷ places) bytes = line_at place.head (take place.count bytes) ∷ lines_at places (drop place.count bytes)

abbrev pub packed_length : List LinePlace → ℕ
packed_length [] = 0
packed_length (place ∷ places) = place.count + packed_length places

-- the bytes are those of the lines, and no line has too many
pub record IsFilled (places : List LinePlace) (bytes : List ℕ) : Type 0 where
  pub filled : packed_length places ≡ length bytes
  pub short : AllByRecursion (λ place. place.count ≤ 2048) places
