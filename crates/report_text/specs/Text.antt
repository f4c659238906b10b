-- The text of each line of a report.
use Rattle.std.specs.Prelude.{ℕ, List, [], ◌++◌, codes, decimal, Option, Some, None}
use Rattle.std.specs.List.{flat_map}
use Rattle.std.specs.Fmt.{signed_decimal}
use Rattle.hex.specs.Hex.{encode_lower}
use Rattle.ber_tlv.specs.Written.{tag_bytes}
use Rattle.emv_dict.specs.Flags.{tvr_bytes}
use Rattle.report_text.specs.Pieces.{newline, hex_or_dash, digits_text, two_bytes}
use Rattle.report_text.specs.Words.{ending_text}
use Rattle.report_text.specs.declared.line.Line.{Line}
use Rattle.report_text.specs.declared.line.Line.TheVariants.{Power, PowerCanned, PowerTorn, ToCard, FromCard, Torn, Gone, ToHost, FromHost, NoReply, End, EndLost, SettleCall, SettleReply, AuditPower, AuditAsk, AuditAnswer, Balance, Done, Object, ReadOk, ReadEnded}
use Rattle.report_text.specs.declared.line.Shown.{Shown}
use Rattle.report_text.specs.declared.line.EndParts.{EndParts}

-- the sum in a second currency behind a comma; nothing where the application has none
unfoldable pub second_text : Option ℕ → List ℕ
second_text None = []
second_text (Some sum) = codes "," ++ decimal sum

-- an application's counters behind a blank
unfoldable pub shown_text : Shown → List ℕ
shown_text s = codes " " ++ decimal s.counter ++ codes "," ++ decimal s.last_online ++ codes "," ++ decimal s.count
    ++ codes "," ++ decimal s.sum ++ codes "," ++ decimal s.tries ++ codes "," ++ decimal s.flags ++ second_text s.sum_two

abbrev pub all_shown : List Shown → List ℕ
all_shown apps = flat_map shown_text apps

-- the response code's two characters
unfoldable pub arc_text : Option (List ℕ) → List ℕ
arc_text None = codes "--"
arc_text (Some code) = code

-- the counter and the cryptogram of the last one
unfoldable pub cryptogram_text : Option (ℕ × List ℕ) → List ℕ
cryptogram_text None = codes " atc=---- ac=----------------"
cryptogram_text (Some last) = codes " atc=" ++ encode_lower (two_bytes last.0) ++ codes " ac=" ++ encode_lower last.1

-- the results of the scripts, joined; none are `-`
abbrev pub scripts_text : List (List ℕ) → List ℕ
scripts_text results = hex_or_dash (flat_map (λ result. result) results)

-- the text of an end line behind the purchase's number
unfoldable pub parts_text : EndParts → List ℕ
parts_text parts = ending_text parts.ending ++ codes " tvr=" ++ encode_lower (tvr_bytes parts.tvr.0) ++ codes " tsi=" ++ encode_lower (two_bytes parts.tsi.0)
    ++ codes " cvm=" ++ encode_lower parts.cvm ++ codes " arc=" ++ arc_text parts.arc ++ cryptogram_text parts.atc_ac ++ codes " scripts=" ++ scripts_text parts.scripts.items

-- the text of each line, one equation a kind of line
unfoldable pub line_text : Line → List ℕ
line_text (Power lane card apps) = codes "L" ++ decimal lane ++ codes " power " ++ card.items ++ all_shown apps.items ++ newline
line_text (PowerCanned lane card) = codes "L" ++ decimal lane ++ codes " power " ++ card.items ++ codes " canned" ++ newline
line_text (PowerTorn lane card) = codes "L" ++ decimal lane ++ codes " power " ++ card.items ++ codes " torn" ++ newline
line_text (ToCard lane bytes) = codes "L" ++ decimal lane ++ codes " > " ++ hex_or_dash bytes.items ++ newline
line_text (FromCard lane bytes) = codes "L" ++ decimal lane ++ codes " < " ++ hex_or_dash bytes.items ++ newline
line_text (Torn lane) = codes "L" ++ decimal lane ++ codes " < torn" ++ newline
line_text (Gone lane) = codes "L" ++ decimal lane ++ codes " < gone" ++ newline
line_text (ToHost lane bytes) = codes "L" ++ decimal lane ++ codes " host > " ++ hex_or_dash bytes.items ++ newline
line_text (FromHost lane bytes) = codes "L" ++ decimal lane ++ codes " host < " ++ hex_or_dash bytes.items ++ newline
line_text (NoReply lane) = codes "L" ++ decimal lane ++ codes " host < none" ++ newline
line_text (End lane number parts) = codes "L" ++ decimal lane ++ codes " end " ++ decimal number ++ codes " " ++ parts_text parts ++ newline
line_text (EndLost lane number) = codes "L" ++ decimal lane ++ codes " end " ++ decimal number ++ codes " lost" ++ newline
line_text (SettleCall lane bytes) = codes "S" ++ decimal lane ++ codes " > " ++ hex_or_dash bytes.items ++ newline
line_text (SettleReply lane bytes) = codes "S" ++ decimal lane ++ codes " < " ++ hex_or_dash bytes.items ++ newline
line_text (AuditPower card apps) = codes "A " ++ card.items ++ codes " power" ++ all_shown apps.items ++ newline
line_text (AuditAsk card bytes) = codes "A " ++ card.items ++ codes " > " ++ hex_or_dash bytes.items ++ newline
line_text (AuditAnswer card bytes) = codes "A " ++ card.items ++ codes " < " ++ hex_or_dash bytes.items ++ newline
line_text (Balance pan amount) = codes "balance " ++ digits_text pan ++ codes " " ++ signed_decimal amount ++ newline
line_text (Done number) = codes "done " ++ decimal number ++ newline
line_text (Object tag value) = codes "object " ++ encode_lower (tag_bytes tag.0) ++ codes " " ++ hex_or_dash value.items ++ newline
line_text ReadOk = codes "read ok" ++ newline
line_text (ReadEnded ending) = codes "read " ++ ending_text ending ++ newline
