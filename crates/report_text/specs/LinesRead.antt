-- Lines are read back: what a reader of a report takes from the text of each line is what that line tells.
use Rattle.std.specs.Prelude.{◌≡◌, ⊤, ℕ, ◌<◌, ◌≤◌, ◌^◌, ◌==◌, false, List, [], ◌∷◌, ◌++◌, codes, decimal, drop, length, IfSome, Option, Some, None}
use Rattle.std.specs.List.{All, list_any}
use Rattle.hex.specs.Hex.{encode_lower}
use Rattle.ber_tlv.specs.Written.{tag_bytes}
use Rattle.emv_dict.specs.Flags.{tvr_bytes}
use Rattle.emv_dict.specs.declared.ending.Cause.{Cause}
use Rattle.emv_dict.specs.declared.ending.Cause.TheVariants as cause
use Rattle.emv_dict.specs.declared.ending.Ending.{Ending}
use Rattle.emv_dict.specs.declared.ending.Ending.TheVariants as ending
use Rattle.report_text.specs.Pieces.{newline, hex_or_dash, two_bytes}
use Rattle.report_text.specs.Words.{step_word}
use Rattle.report_text.specs.Text.{all_shown, arc_text, line_text, scripts_text}
use Rattle.report_text.specs.Told.{IsTold}
use Rattle.report_text.specs.declared.line.Line.{Line}
use Rattle.report_text.specs.declared.line.Line.TheVariants as line
use Rattle.report_text.specs.declared.line.Shown.{Shown}
use Rattle.report_text.specs.declared.line.EndParts.{EndParts}
use Rattle.report_lines.specs.Reading as read
use Rattle.report_lines.specs.Reading.{EndingData, EndLineFields, LineData, WhatData, WhoseData, line_in}

-- the word of a cause
abbrev pub cause_named : Cause → List ℕ
cause_named cause.NoCandidate = codes "no-candidate"
cause_named cause.CardBlocked = codes "card-blocked"
cause_named cause.Answer = codes "answer"
cause_named (cause.Status status) = codes "status"
cause_named (cause.Coding place) = codes "coding"
cause_named (cause.Repeated tag) = codes "repeated"
cause_named (cause.Missing tag) = codes "missing"
cause_named (cause.Value tag) = codes "value"
cause_named (cause.Afl group) = codes "afl"
cause_named (cause.Dol tag) = codes "dol"
cause_named cause.TooMuch = codes "too-much"
cause_named (cause.Kind information) = codes "kind"

-- and what it names: the two bytes of a status, a place, a tag, a group or a byte; nothing where it names nothing
abbrev pub cause_detail : Cause → List ℕ
cause_detail (cause.Status status) = encode_lower (two_bytes status)
cause_detail (cause.Coding place) = decimal place
cause_detail (cause.Repeated tag) = encode_lower (tag_bytes tag.0)
cause_detail (cause.Missing tag) = encode_lower (tag_bytes tag.0)
cause_detail (cause.Value tag) = encode_lower (tag_bytes tag.0)
cause_detail (cause.Afl group) = decimal group
cause_detail (cause.Dol tag) = encode_lower (tag_bytes tag.0)
cause_detail (cause.Kind information) = encode_lower (information ∷ [])
cause_detail other = []

-- how a payment ended
abbrev pub ending_data : Ending → EndingData
ending_data (ending.Approved online) = read.Approved
ending_data (ending.Declined online) = read.Declined
ending_data (ending.Terminated step why) = read.Terminated (step_word step) (cause_named why) (cause_detail why)
ending_data (ending.CutOff step) = read.Cut (step_word step)

-- the fields of an end line
abbrev pub fields_data : EndParts → EndLineFields
fields_data parts = record {
  tvr = encode_lower (tvr_bytes parts.tvr.0);
  tsi = encode_lower (two_bytes parts.tsi.0);
  cvm = encode_lower parts.cvm;
  arc = arc_text parts.arc;
  scripts = scripts_text parts.scripts.items;
}

-- the counters of applications, one blank between them
abbrev pub counters_data : List Shown → List ℕ
counters_data apps = drop 1 (all_shown apps)

abbrev pub lane_data : ℕ → WhatData → Option LineData
lane_data lane what = Some (record { whose = read.Lane lane; what = what })

abbrev pub settlement_data : ℕ → WhatData → Option LineData
settlement_data lane what = Some (record { whose = read.Settlement lane; what = what })

abbrev pub audit_data : List ℕ → WhatData → Option LineData
audit_data card what = Some (record { whose = read.Audit card; what = what })

abbrev pub report_data : WhatData → Option LineData
report_data what = Some (record { whose = read.Report; what = what })

-- whose a line is and what it tells, bytes in hexadecimal; a reader has no line for the end of a card's data
abbrev pub data_of_line : Line → Option LineData
data_of_line (line.Power lane card apps) = lane_data lane (read.Power card.items (counters_data apps.items))
data_of_line (line.PowerCanned lane card) = lane_data lane (read.PowerCanned card.items)
data_of_line (line.PowerTorn lane card) = lane_data lane (read.PowerTorn card.items)
data_of_line (line.ToCard lane bytes) = lane_data lane (read.Sent (hex_or_dash bytes.items))
data_of_line (line.FromCard lane bytes) = lane_data lane (read.Given (hex_or_dash bytes.items))
data_of_line (line.Torn lane) = lane_data lane read.Torn
data_of_line (line.Gone lane) = lane_data lane read.Gone
data_of_line (line.ToHost lane bytes) = lane_data lane (read.ToHost (hex_or_dash bytes.items))
data_of_line (line.FromHost lane bytes) = lane_data lane (read.FromHost (hex_or_dash bytes.items))
data_of_line (line.NoReply lane) = lane_data lane read.NoReply
data_of_line (line.End lane number parts) = lane_data lane (read.End number (ending_data parts.ending) (fields_data parts))
data_of_line (line.EndLost lane number) = lane_data lane (read.Lost number)
data_of_line (line.SettleCall lane bytes) = settlement_data lane (read.Sent (hex_or_dash bytes.items))
data_of_line (line.SettleReply lane bytes) = settlement_data lane (read.Given (hex_or_dash bytes.items))
data_of_line (line.AuditPower card apps) = audit_data card.items (read.Power card.items (counters_data apps.items))
data_of_line (line.AuditAsk card bytes) = audit_data card.items (read.Sent (hex_or_dash bytes.items))
data_of_line (line.AuditAnswer card bytes) = audit_data card.items (read.Given (hex_or_dash bytes.items))
data_of_line (line.Balance pan amount) = report_data read.Balance
data_of_line (line.Done number) = report_data read.Done
data_of_line (line.Object tag value) = report_data (read.Object (encode_lower (tag_bytes tag.0)) (hex_or_dash value.items))
data_of_line line.ReadOk = None
data_of_line (line.ReadEnded ending) = report_data (read.ReadEnded (ending_data ending))

-- a name of 1 to 16 characters
abbrev pub IsShortName : List ℕ → Type 0
IsShortName name = (1 ≤ length name) × (length name ≤ 16)

-- the numbers, names and codes that lines have: lanes from 0 to 15, purchases by 32 bits, names of cards that are powered up,
-- and response codes without a blank and without a character before it
abbrev pub KeepsLimits : Line → Type 0
KeepsLimits (line.Power lane card apps) = (lane < 16) × IsShortName card.items
KeepsLimits (line.PowerCanned lane card) = (lane < 16) × IsShortName card.items
KeepsLimits (line.PowerTorn lane card) = (lane < 16) × IsShortName card.items
KeepsLimits (line.ToCard lane bytes) = lane < 16
KeepsLimits (line.FromCard lane bytes) = lane < 16
KeepsLimits (line.Torn lane) = lane < 16
KeepsLimits (line.Gone lane) = lane < 16
KeepsLimits (line.ToHost lane bytes) = lane < 16
KeepsLimits (line.FromHost lane bytes) = lane < 16
KeepsLimits (line.NoReply lane) = lane < 16
KeepsLimits (line.End lane number parts) = (lane < 16) × (number < 2 ^ 32) × IfSome parts.arc (λ code. All (λ c. 32 < c) code)
KeepsLimits (line.EndLost lane number) = (lane < 16) × (number < 2 ^ 32)
KeepsLimits (line.SettleCall lane bytes) = lane < 16
KeepsLimits (line.SettleReply lane bytes) = lane < 16
KeepsLimits (line.AuditPower card apps) = IsShortName card.items
KeepsLimits other = ⊤

-- the text of a line, up to its newline, has none within, and is read as that very line
abbrev pub LinesAreRead : Type 0
LinesAreRead = (line : Line) (text : List ℕ) → IsTold line → KeepsLimits line → line_text line ≡ text ++ newline
    → (list_any (λ c. c == 10) text ≡ false) × (line_in text ≡ data_of_line line)
