-- How many bytes an account's scripts get.
use Rattle.std.proofs.Common.{◌≡◌, ℕ, zero, suc, Bool, true, false, ◌+◌, ◌/◌, ◌%◌, IfSome, List, [], ◌∷◌, ◌++◌, length, Option, Some, None, refl, sym, ap, ◌∙◌, arith, length-append, length-take}
use Rattle.std.specs.Prelude.{flat_map, sum_by}
use Rattle.std.specs.List.{All}
use Rattle.std.proofs.lemmas.List.Elements.{All-head, All-tail}
use Rattle.std.proofs.lemmas.List.Sums.{sum_by-cons}
use Rattle.ber_tlv.specs.Written.{written_length}
use Rattle.emv_dict.specs.Bcd.{numeric, two_digits}
use Rattle.triple_des.specs.Bits.{xor_bytes}
use Rattle.triple_des.specs.Des.{enciphered}
use Rattle.triple_des.specs.Mac.{mac}
use Rattle.triple_des.specs.TripleDes.{tdes}
use Rattle.triple_des.proofs.ByteLists.{length-bytes_from_bits}
use Rattle.app_cryptogram.specs.Cryptograms.{arpc_of, arpc_two_of, script_mac_of}
use Rattle.pin_block.specs.Block.{block_of}
use Rattle.script_words.specs.MadeLength.{template_tag, data_length, command_length, order_length, identifier_length, content_length, made_length, all_made_length}
use Rattle.script_words.specs.Script.{ScriptData, IsScript}
use Rattle.script_words.specs.declared.script.Word.{Word}
use Rattle.script_words.specs.declared.script.Word.TheVariants.{Block, Unblock, CardBlock, PinUnblock, Pin, Count, Amount}
use Rattle.script_words.specs.declared.script.Ordered.{Ordered}
use Rattle.issuer_host.specs.Scripts.{script_header, script_command_data, mac_bytes, mac_of, script_command_bytes, order_bytes, identifier_bytes, script_bytes, all_script_bytes}
use Rattle.issuer_host.specs.declared.script.ScriptKeys.{ScriptKeys}
use Rattle.issuer_host.proofs.Sizes.{written_size}

length-enciphered : (keys : List (List ℕ)) (block : List ℕ) → length (enciphered keys block) ≡ 8
unfolding enciphered
length-enciphered keys block = length-bytes_from_bits 8 _

length-tdes : (key block : List ℕ) → length (tdes key block) ≡ 8
unfolding tdes
length-tdes key block = length-enciphered _ _

length-mac : (key text : List ℕ) → length (mac key text) ≡ 8
unfolding mac
length-mac key text = length-enciphered _ _

-- the response cryptograms
pub length-arpc : (session arqc code : List ℕ) → length (arpc_of session arqc code) ≡ 8
unfolding arpc_of
length-arpc session arqc code = length-tdes session _

pub length-arpc_two : (session arqc status further : List ℕ) → length (arpc_two_of session arqc status further) ≡ 4
unfolding arpc_two_of
length-arpc_two session arqc status further = omega (arith, length-take 4 (mac session (arqc ++ status ++ further)), length-mac session (arqc ++ status ++ further))

length-xor_bytes : (xs ys : List ℕ) → length xs ≡ length ys → length (xor_bytes xs ys) ≡ length xs
unfolding xor_bytes
length-xor_bytes [] [] same = refl
length-xor_bytes [] (y ∷ ys) same = absurd (omega arith)
length-xor_bytes (x ∷ xs) [] same = absurd (omega arith)
length-xor_bytes (x ∷ xs) (y ∷ ys) same = ap (λ (n : ℕ). suc n) (length-xor_bytes xs ys (omega arith))

length-numeric : (count n : ℕ) → length (numeric count n) ≡ count
unfolding numeric
length-numeric zero n = refl
length-numeric (suc count) n = length-append (numeric count (n / 100)) (two_digits (n % 100) ∷ []) ∙ rw (length-numeric count (n / 100)) (omega arith)

-- the data of a script command, its code and the code as it is sent
pub data_size : (keys : ScriptKeys) (word : Word) → length (script_command_data keys word) ≡ data_length word
data_size keys Block = refl
data_size keys Unblock = refl
data_size keys CardBlock = refl
data_size keys PinUnblock = refl
data_size keys (Pin digits) = length-tdes keys.enc (block_of 2 digits)
data_size keys (Count limit) = refl
data_size keys (Amount limit) = length-numeric 6 limit

pub length-script_mac : (session header : List ℕ) (counter : ℕ) (cryptogram payload : List ℕ) → length (script_mac_of session header counter cryptogram payload) ≡ 8
unfolding script_mac_of
length-script_mac session header counter cryptogram payload = length-mac session _

pub code_size : (bad : Bool) (mac : List ℕ) → length mac ≡ 8 → length (mac_bytes bad mac) ≡ 8
code_size true mac eight = length-xor_bytes mac (0 ∷ 0 ∷ 0 ∷ 0 ∷ 0 ∷ 0 ∷ 0 ∷ 0xFF ∷ []) eight ∙ eight
code_size false mac eight = eight

header_size : (word : Word) → length (script_header word) ≡ 4
header_size Block = refl
header_size Unblock = refl
header_size CardBlock = refl
header_size PinUnblock = refl
header_size (Pin digits) = refl
header_size (Count limit) = refl
header_size (Amount limit) = refl

command_size : (keys : ScriptKeys) (order : Ordered) → length (script_command_bytes keys order) ≡ command_length order.word
command_size keys order =
    let payload = script_command_data keys order.word in
    let code = mac_bytes order.bad (mac_of keys order.word) in
    let eight : length code ≡ 8 = code_size order.bad _ (length-script_mac keys.mac (script_header order.word) keys.counter keys.cryptogram payload) in
    omega (arith, length-append (script_header order.word) ((length payload + 8) ∷ (payload ++ code)), length-append payload code, header_size order.word, data_size keys order.word)

order_size : (keys : ScriptKeys) (order : Ordered) → length (order_bytes keys order) ≡ order_length order
unfolding order_bytes order_length
order_size keys order = written_size 0x86 (script_command_bytes keys order) ∙ ap (written_length 0x86) (command_size keys order)

identifier_size : (id : Option (List ℕ)) → IfSome id (λ id. length id ≡ 4) → length (identifier_bytes id) ≡ identifier_length id
identifier_size None four = refl
identifier_size (Some id) four = written_size 0x9F18 id ∙ ap (written_length 0x9F18) four

orders_size : (keys : ScriptKeys) (orders : List Ordered) → length (flat_map (order_bytes keys) orders) ≡ sum_by order_length orders
orders_size keys [] = refl
orders_size keys (order ∷ orders) =
    length-append (order_bytes keys order) (flat_map (order_bytes keys) orders) ∙ rw (order_size keys order, orders_size keys orders) (sym (sum_by-cons order_length order orders))

script_size : (keys : ScriptKeys) (script : ScriptData) → IsScript script → length (script_bytes keys script) ≡ made_length script
unfolding script_bytes made_length
script_size keys script is =
    let content = identifier_bytes script.id ++ flat_map (order_bytes keys) script.commands in
    let size : length content ≡ content_length script = omega (arith, length-append (identifier_bytes script.id) (flat_map (order_bytes keys) script.commands), identifier_size script.id is.identifier, orders_size keys script.commands) in
    written_size (template_tag script.before) content ∙ ap (written_length (template_tag script.before)) size

-- as many as their words say
pub scripts_size : (keys : ScriptKeys) (scripts : List ScriptData) → All IsScript scripts → length (all_script_bytes keys scripts) ≡ all_made_length scripts
scripts_size keys [] all = refl
scripts_size keys (script ∷ scripts) all =
    length-append (script_bytes keys script) (all_script_bytes keys scripts)
    ∙ rw (script_size keys script (All-head IsScript script scripts all), scripts_size keys scripts (All-tail IsScript script scripts all))
    (sym (sum_by-cons made_length script scripts))
