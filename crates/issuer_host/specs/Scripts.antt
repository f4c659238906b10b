-- The scripts that a reply carries, made from their words for one transaction (EMV 4.3 Book 3 sections 6.5
-- and 10.10, Book 2 section 9).
use Rattle.std.specs.Prelude.{ℕ, ◌+◌, Bool, true, false, List, [], ◌∷◌, ◌++◌, length, flat_map, Option, Some, None}
use Rattle.ber_tlv.specs.Written.{written}
use Rattle.triple_des.specs.Bits.{xor_bytes}
use Rattle.triple_des.specs.TripleDes.{tdes}
use Rattle.emv_dict.specs.Bcd.{numeric}
use Rattle.pin_block.specs.Block.{block_of}
use Rattle.app_cryptogram.specs.Cryptograms.{script_mac_of}
use Rattle.script_words.specs.MadeLength.{template_tag}
use Rattle.script_words.specs.Script.{ScriptData}
use Rattle.script_words.specs.declared.script.Word.{Word}
use Rattle.script_words.specs.declared.script.Word.TheVariants.{Block, Unblock, CardBlock, PinUnblock, Pin, Count, Amount}
use Rattle.script_words.specs.declared.script.Ordered.{Ordered}
use Rattle.issuer_host.specs.declared.script.ScriptKeys.{ScriptKeys}

-- class, instruction, P1 and P2 (Book 3 section 6.5; the data objects of PUT DATA are this project's own)
abbrev pub script_header : Word → List ℕ
script_header Block = 0x84 ∷ 0x1E ∷ 0x00 ∷ 0x00 ∷ []
script_header Unblock = 0x84 ∷ 0x18 ∷ 0x00 ∷ 0x00 ∷ []
script_header CardBlock = 0x84 ∷ 0x16 ∷ 0x00 ∷ 0x00 ∷ []
script_header PinUnblock = 0x84 ∷ 0x24 ∷ 0x00 ∷ 0x00 ∷ []
script_header (Pin digits) = 0x84 ∷ 0x24 ∷ 0x00 ∷ 0x02 ∷ []
script_header (Count limit) = 0x04 ∷ 0xDA ∷ 0xDF ∷ 0x01 ∷ []
script_header (Amount limit) = 0x04 ∷ 0xDA ∷ 0xDF ∷ 0x02 ∷ []

-- the data before the message authentication code: a PIN's plain block is enciphered
abbrev pub script_command_data : ScriptKeys → Word → List ℕ
script_command_data keys Block = []
script_command_data keys Unblock = []
script_command_data keys CardBlock = []
script_command_data keys PinUnblock = []
script_command_data keys (Pin digits) = tdes keys.enc (block_of 2 digits)
script_command_data keys (Count limit) = limit ∷ []
script_command_data keys (Amount limit) = numeric 6 limit

-- the code, whose last byte is made wrong on purpose
abbrev pub mac_bytes : Bool → List ℕ → List ℕ
mac_bytes true mac = xor_bytes mac (0 ∷ 0 ∷ 0 ∷ 0 ∷ 0 ∷ 0 ∷ 0 ∷ 0xFF ∷ [])
mac_bytes false mac = mac

-- the message authentication code of a command
abbrev pub mac_of : ScriptKeys → Word → List ℕ
mac_of keys word = script_mac_of keys.mac (script_header word) keys.counter keys.cryptogram (script_command_data keys word)

-- a command: header, length, data and code
abbrev pub script_command_bytes : ScriptKeys → Ordered → List ℕ
script_command_bytes keys order =
    script_header order.word
    ++ ((length (script_command_data keys order.word) + 8) ∷ (script_command_data keys order.word ++ mac_bytes order.bad (mac_of keys order.word)))

-- the same as a data object
unfoldable pub order_bytes : ScriptKeys → Ordered → List ℕ
order_bytes keys order = written 0x86 (script_command_bytes keys order)

-- the script's identifier as a data object
abbrev pub identifier_bytes : Option (List ℕ) → List ℕ
identifier_bytes None = []
identifier_bytes (Some id) = written 0x9F18 id

-- a script: its template, which holds the identifier and the commands
unfoldable pub script_bytes : ScriptKeys → ScriptData → List ℕ
script_bytes keys script = written (template_tag script.before) (identifier_bytes script.id ++ flat_map (order_bytes keys) script.commands)

-- the scripts of an account, in their order
abbrev pub all_script_bytes : ScriptKeys → List ScriptData → List ℕ
all_script_bytes keys scripts = flat_map (script_bytes keys) scripts
