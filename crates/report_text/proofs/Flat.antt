-- The text of each line, and what follows it, with each piece before all that follows it.
use Rattle.std.proofs.Common.{◌≡◌, ℕ, List, ◌∷◌, ◌++◌, refl, append_assoc}
use Rattle.std.specs.Prelude.{codes, decimal}
use Rattle.std.specs.Fmt.{signed_decimal}
use Rattle.hex.specs.Hex.{encode_lower}
use Rattle.ber_tlv.specs.Written.{tag_bytes}
use Rattle.report_text.specs.Pieces.{hex_or_dash, digits_text}
use Rattle.report_text.specs.Words.{ending_text}
use Rattle.report_text.specs.Text.{line_text, all_shown, parts_text}
use Rattle.report_text.specs.declared.line.Line.{Line}
use Rattle.report_text.specs.declared.line.Line.TheVariants.{Power, PowerCanned, PowerTorn, ToCard, FromCard, Torn, Gone, ToHost, FromHost, NoReply, End, EndLost, SettleCall, SettleReply, AuditPower, AuditAsk, AuditAnswer, Balance, Done, Object, ReadOk, ReadEnded}

abbrev pub flat_text : Line → List ℕ → List ℕ
flat_text (Power lane card apps) r = 76 ∷ (decimal lane ++ (codes " power " ++ (card.items ++ (all_shown apps.items ++ 10 ∷ r))))
flat_text (PowerCanned lane card) r = 76 ∷ (decimal lane ++ (codes " power " ++ (card.items ++ (codes " canned" ++ 10 ∷ r))))
flat_text (PowerTorn lane card) r = 76 ∷ (decimal lane ++ (codes " power " ++ (card.items ++ (codes " torn" ++ 10 ∷ r))))
flat_text (ToCard lane bytes) r = 76 ∷ (decimal lane ++ (codes " > " ++ (hex_or_dash bytes.items ++ 10 ∷ r)))
flat_text (FromCard lane bytes) r = 76 ∷ (decimal lane ++ (codes " < " ++ (hex_or_dash bytes.items ++ 10 ∷ r)))
flat_text (Torn lane) r = 76 ∷ (decimal lane ++ (codes " < torn" ++ 10 ∷ r))
flat_text (Gone lane) r = 76 ∷ (decimal lane ++ (codes " < gone" ++ 10 ∷ r))
flat_text (ToHost lane bytes) r = 76 ∷ (decimal lane ++ (codes " host > " ++ (hex_or_dash bytes.items ++ 10 ∷ r)))
flat_text (FromHost lane bytes) r = 76 ∷ (decimal lane ++ (codes " host < " ++ (hex_or_dash bytes.items ++ 10 ∷ r)))
flat_text (NoReply lane) r = 76 ∷ (decimal lane ++ (codes " host < none" ++ 10 ∷ r))
flat_text (End lane number parts) r = 76 ∷ (decimal lane ++ (codes " end " ++ (decimal number ++ (codes " " ++ (parts_text parts ++ 10 ∷ r)))))
flat_text (EndLost lane number) r = 76 ∷ (decimal lane ++ (codes " end " ++ (decimal number ++ (codes " lost" ++ 10 ∷ r))))
flat_text (SettleCall lane bytes) r = 83 ∷ (decimal lane ++ (codes " > " ++ (hex_or_dash bytes.items ++ 10 ∷ r)))
flat_text (SettleReply lane bytes) r = 83 ∷ (decimal lane ++ (codes " < " ++ (hex_or_dash bytes.items ++ 10 ∷ r)))
flat_text (AuditPower card apps) r = codes "A " ++ (card.items ++ (codes " power" ++ (all_shown apps.items ++ 10 ∷ r)))
flat_text (AuditAsk card bytes) r = codes "A " ++ (card.items ++ (codes " > " ++ (hex_or_dash bytes.items ++ 10 ∷ r)))
flat_text (AuditAnswer card bytes) r = codes "A " ++ (card.items ++ (codes " < " ++ (hex_or_dash bytes.items ++ 10 ∷ r)))
flat_text (Balance pan amount) r = codes "balance " ++ (digits_text pan ++ (codes " " ++ (signed_decimal amount ++ 10 ∷ r)))
flat_text (Done number) r = codes "done " ++ (decimal number ++ 10 ∷ r)
flat_text (Object tag value) r = codes "object " ++ (encode_lower (tag_bytes tag.0) ++ (codes " " ++ (hex_or_dash value.items ++ 10 ∷ r)))
flat_text ReadOk r = codes "read ok" ++ 10 ∷ r
flat_text (ReadEnded ending) r = codes "read " ++ (ending_text ending ++ 10 ∷ r)

pub flat_of : (line : Line) (r : List ℕ) → line_text line ++ r ≡ flat_text line r
unfolding line_text
flat_of (Power lane card apps) r = simp append_assoc
flat_of (PowerCanned lane card) r = simp append_assoc
flat_of (PowerTorn lane card) r = simp append_assoc
flat_of (ToCard lane bytes) r = simp append_assoc
flat_of (FromCard lane bytes) r = simp append_assoc
flat_of (Torn lane) r = simp append_assoc
flat_of (Gone lane) r = simp append_assoc
flat_of (ToHost lane bytes) r = simp append_assoc
flat_of (FromHost lane bytes) r = simp append_assoc
flat_of (NoReply lane) r = simp append_assoc
flat_of (End lane number parts) r = simp append_assoc
flat_of (EndLost lane number) r = simp append_assoc
flat_of (SettleCall lane bytes) r = simp append_assoc
flat_of (SettleReply lane bytes) r = simp append_assoc
flat_of (AuditPower card apps) r = simp append_assoc
flat_of (AuditAsk card bytes) r = simp append_assoc
flat_of (AuditAnswer card bytes) r = simp append_assoc
flat_of (Balance pan amount) r = simp append_assoc
flat_of (Done number) r = simp append_assoc
flat_of (Object tag value) r = simp append_assoc
flat_of ReadOk r = refl
flat_of (ReadEnded ending) r = simp append_assoc
