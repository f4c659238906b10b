-- What the values of a line keep to, without which its text wouldn't tell it.
use Rattle.std.specs.Prelude.{◌≡◌, ⊤, ℕ, ◌<◌, List, [], length, IfSome}
use Rattle.std.specs.List.{All}
use Rattle.ber_tlv.specs.Item.{AreBytes}
use Rattle.emv_dict.specs.declared.ending.Cause.{Cause}
use Rattle.emv_dict.specs.declared.ending.Cause.TheVariants as cause
use Rattle.emv_dict.specs.declared.ending.Ending.{Ending}
use Rattle.emv_dict.specs.declared.ending.Ending.TheVariants as ending
use Rattle.report_text.specs.declared.line.Line.{Line}
use Rattle.report_text.specs.declared.line.Line.TheVariants.{Power, PowerCanned, PowerTorn, ToCard, FromCard, ToHost, FromHost, End, SettleCall, SettleReply, AuditPower, AuditAsk, AuditAnswer, Object, ReadEnded}
use Rattle.report_text.specs.declared.line.EndParts.{EndParts}

-- the byte that a cause names
abbrev pub IsCauseTold : Cause → Type 0
IsCauseTold (cause.Kind information) = information < 256
IsCauseTold other = ⊤

abbrev pub IsEndingTold : Ending → Type 0
IsEndingTold (ending.Terminated step why) = IsCauseTold why
IsEndingTold other = ⊤

-- the result of a script has five bytes (EMV 4.3 Book 4 Annex A5)
pub record IsResult (result : List ℕ) : Type 0 where
  pub five : length result ≡ 5
  pub bytes : AreBytes result

-- a response code has two characters (EMV 4.3 Book 3 Annex A)
pub record ArePartsTold (parts : EndParts) : Type 0 where
  pub ending : IsEndingTold parts.ending
  pub cvm : AreBytes parts.cvm
  pub code : IfSome parts.arc (λ code. length code ≡ 2)
  pub last : IfSome parts.atc_ac (λ last. AreBytes last.1)
  pub scripts : All IsResult parts.scripts.items

-- the bytes of a line are bytes, in arrays as long as they are
abbrev pub HasLineBytes : Line → Type 0
HasLineBytes (ToCard lane bytes) = AreBytes bytes.items
HasLineBytes (FromCard lane bytes) = AreBytes bytes.items
HasLineBytes (ToHost lane bytes) = AreBytes bytes.items
HasLineBytes (FromHost lane bytes) = AreBytes bytes.items
HasLineBytes (End lane number parts) = ArePartsTold parts
HasLineBytes (SettleCall lane bytes) = AreBytes bytes.items
HasLineBytes (SettleReply lane bytes) = AreBytes bytes.items
HasLineBytes (AuditAsk card bytes) = AreBytes bytes.items
HasLineBytes (AuditAnswer card bytes) = AreBytes bytes.items
HasLineBytes (Object tag value) = AreBytes value.items
HasLineBytes (ReadEnded ending) = IsEndingTold ending
HasLineBytes other = ⊤

-- the card that a line names
abbrev pub card_named : Line → List ℕ
card_named (Power lane card apps) = card.items
card_named (PowerCanned lane card) = card.items
card_named (PowerTorn lane card) = card.items
card_named (AuditPower card apps) = card.items
card_named (AuditAsk card bytes) = card.items
card_named (AuditAnswer card bytes) = card.items
card_named other = []

-- the characters of a name stand behind the blank
abbrev pub IsCardName : List ℕ → Type 0
IsCardName name = All (λ c. 32 < c) name

pub record IsTold (line : Line) : Type 0 where
  pub bytes : HasLineBytes line
  pub name : IsCardName (card_named line)
