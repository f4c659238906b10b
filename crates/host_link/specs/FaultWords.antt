-- The fault of a message in words: those that a report has for a cause of its kind, and the fields of ISO 8583 by their
-- numbers (this project's own).
use Rattle.std.specs.Prelude.{ℕ, List, ◌++◌, codes, decimal}
use Rattle.auth_message.specs.declared.fault.MessageFault.{MessageFault}
use Rattle.auth_message.specs.declared.fault.MessageFault.TheVariants.{Coding, Missing, Value}
use Rattle.ber_tlv.specs.Written.{tag_bytes}
use Rattle.ber_tlv.specs.declared.tag.Tag.{Tag}
use Rattle.iso_message.specs.declared.fault.IsoFault.{IsoFault}
use Rattle.iso_message.specs.declared.fault.IsoFault.TheVariants.{Short, WrongType, Bitmap, Field, Rest}
use Rattle.report_text.specs.Pieces.{hex_or_dash}

abbrev pub tag_text : Tag → List ℕ
tag_text tag = hex_or_dash (tag_bytes tag.0)

-- why bytes are no message
abbrev pub message_fault_words : MessageFault → List ℕ
message_fault_words (Coding place) = codes "coding " ++ decimal place
message_fault_words (Missing tag) = codes "missing " ++ tag_text tag
message_fault_words (Value tag) = codes "value " ++ tag_text tag

-- why bytes can't be read in the style of ISO 8583
abbrev pub iso_fault_words : IsoFault → List ℕ
iso_fault_words (Short place) = codes "short " ++ decimal place
iso_fault_words WrongType = codes "type"
iso_fault_words Bitmap = codes "bitmap"
iso_fault_words (Field number) = codes "field " ++ decimal number
iso_fault_words (Rest place) = codes "rest " ++ decimal place
