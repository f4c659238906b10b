-- How many bytes a script takes in the issuer's reply: its template 71 or 72 with tag and length, which
-- holds the identifier 9F18, where there is one, and a data object 86 for each command (EMV 4.3 Book 3
-- section 10.10 and Annex E).
use Rattle.std.specs.Prelude.{ℕ, ◌+◌, Bool, true, false, List, sum_by, Option, Some, None}
use Rattle.ber_tlv.specs.Written.{written_length}
use Rattle.script_words.specs.Script.{ScriptData}
use Rattle.script_words.specs.declared.script.Word.{Word}
use Rattle.script_words.specs.declared.script.Word.TheVariants.{Block, Unblock, CardBlock, PinUnblock, Pin, Count, Amount}
use Rattle.script_words.specs.declared.script.Ordered.{Ordered}

-- the bytes of data before the message authentication code: an enciphered PIN block, a limit of one
-- byte, an amount of 12 digits
abbrev pub data_length : Word → ℕ
data_length Block = 0
data_length Unblock = 0
data_length CardBlock = 0
data_length PinUnblock = 0
data_length (Pin digits) = 8
data_length (Count limit) = 1
data_length (Amount limit) = 6

-- the four bytes of the header, the length of the data, the data and eight bytes of the message
-- authentication code
abbrev pub command_length : Word → ℕ
command_length word = 5 + data_length word + 8

-- a command as a data object
unfoldable pub order_length : Ordered → ℕ
order_length order = written_length 0x86 (command_length order.word)

-- the identifier as a data object
abbrev pub identifier_length : Option (List ℕ) → ℕ
identifier_length None = 0
identifier_length (Some id) = written_length 0x9F18 4

-- the template's tag: 71 before the final GENERATE AC, 72 behind it
abbrev pub template_tag : Bool → ℕ
template_tag true = 0x71
template_tag false = 0x72

-- what the template holds
abbrev pub content_length : ScriptData → ℕ
content_length script = identifier_length script.id + sum_by order_length script.commands

-- the whole script
unfoldable pub made_length : ScriptData → ℕ
made_length script = written_length (template_tag script.before) (content_length script)

-- all scripts of an account
abbrev pub all_made_length : List ScriptData → ℕ
all_made_length scripts = sum_by made_length scripts
