-- The scripts that an issuer's host makes leave the transaction to the terminal.
use Rattle.std.proofs.Common.{◌≡◌, ℕ, ◌+◌, ◌==◌, not, Bool, true, false, cond, if◌then◌else◌, IsTrue, IfSome, List, [], ◌∷◌, ◌++◌, length, map, filter, Option, Some, None, option_map, Result, Ok, refl, ap, sym, subst, ◌∙◌, arith, append-nil}
use Rattle.std.specs.Prelude.{flat_map}
use Rattle.std.specs.List.{All, list_all}
use Rattle.std.proofs.lemmas.List.Elements.{All-nil, All-cons, All-head, All-tail}
use Rattle.apdu_core.specs.Command.{CommandData, command_of, tail_of}
use Rattle.auth_message.proofs.Spelled.{placed, are_tags, read_fields}
use Rattle.auth_message.proofs.Templates.{are_templates}
use Rattle.auth_message.specs.Spelling.{spelled}
use Rattle.ber_tlv.proofs.Reading.{no_zeros, left-end}
use Rattle.ber_tlv.specs.Direct.{values_of}
use Rattle.ber_tlv.specs.Item.{ItemData}
use Rattle.ber_tlv.specs.Left.{items_of, items_behind}
use Rattle.ber_tlv.specs.Written.{written}
use Rattle.ber_tlv.specs.declared.item.TlvFault.{TlvFault}
use Rattle.dialogue_laws.specs.UncutPurchase.{moves_on, IsPlain, IsPlainScript}
use Rattle.issuer_host.specs.Scripts.{script_header, script_command_data, mac_bytes, mac_of, script_command_bytes, order_bytes, identifier_bytes, script_bytes, all_script_bytes}
use Rattle.issuer_host.specs.declared.script.ScriptKeys.{ScriptKeys}
use Rattle.script_run.specs.Script.{ReadScript, no_identifier, is_command, with_commands, script_in, script_read, script_of}
use Rattle.script_words.specs.MadeLength.{template_tag}
use Rattle.script_words.specs.Script.{ScriptData}
use Rattle.script_words.specs.declared.script.Ordered.{Ordered}
use Rattle.script_words.specs.declared.script.Word.{Word}
use Rattle.script_words.specs.declared.script.Word.TheVariants.{Block, Unblock, CardBlock, PinUnblock, Pin, Count, Amount}
use Rattle.terminal_state.specs.Scripts.{templates_of_tag}

-- fields that are spelled are read back
fields_listed : (fields : List (ℕ × List ℕ)) → are_tags fields ≡ true → items_of (spelled fields) ≡ Ok (placed 0 fields)
fields_listed fields are =
    let bytes = spelled fields in
    let end : items_behind bytes (0 + length bytes) ≡ Ok [] = ap (items_behind bytes) (omega arith) ∙ left-end bytes (length bytes) (no_zeros bytes (length bytes) (omega arith)) in
    read_fields fields [] [] bytes [] are (sym (append-nil bytes)) end
    ∙ ap (λ (items : List ItemData). let r : Result (List ItemData) TlvFault = Ok items in r) (append-nil (placed 0 fields))

plain_header : (class ins p1 p2 : ℕ) (tail : List ℕ) → IsTrue (not (moves_on ins)) → IsPlain (class ∷ ins ∷ p1 ∷ p2 ∷ tail)
unfolding command_of
plain_header class ins p1 p2 tail plain = by (tail_of tail)
  where
    by : (o : Option (List ℕ × Option ℕ))
        → IfSome (option_map (λ t. let c : CommandData = record { class = class; ins = ins; p1 = p1; p2 = p2; body = t.0; expects = t.1 } in c) o) (λ c. IsTrue (not (moves_on c.ins)))
    by None = tt
    by (Some t) = plain

-- each word is a script command
plain_word : (word : Word) (tail : List ℕ) → IsPlain (script_header word ++ tail)
plain_word Block tail = plain_header 0x84 0x1E 0 0 tail refl
plain_word Unblock tail = plain_header 0x84 0x18 0 0 tail refl
plain_word CardBlock tail = plain_header 0x84 0x16 0 0 tail refl
plain_word PinUnblock tail = plain_header 0x84 0x24 0 0 tail refl
plain_word (Pin digits) tail = plain_header 0x84 0x24 0 2 tail refl
plain_word (Count limit) tail = plain_header 0x04 0xDA 0xDF 1 tail refl
plain_word (Amount limit) tail = plain_header 0x04 0xDA 0xDF 2 tail refl

command_fields : ScriptKeys → List Ordered → List (ℕ × List ℕ)
command_fields keys [] = []
command_fields keys (order ∷ orders) = (0x86, script_command_bytes keys order) ∷ command_fields keys orders

-- a script's identifier, if it has one, and its commands
with_identifier : Option (List ℕ) → List (ℕ × List ℕ) → List (ℕ × List ℕ)
with_identifier None fields = fields
with_identifier (Some id) fields = (0x9F18, id) ∷ fields

commands_spelled : (keys : ScriptKeys) (orders : List Ordered) → flat_map (order_bytes keys) orders ≡ spelled (command_fields keys orders)
unfolding order_bytes command_fields
commands_spelled keys [] = refl
commands_spelled keys (order ∷ orders) = ap (λ (bytes : List ℕ). written 0x86 (script_command_bytes keys order) ++ bytes) (commands_spelled keys orders)

script_spelled : (keys : ScriptKeys) (id : Option (List ℕ)) (orders : List Ordered) → identifier_bytes id ++ flat_map (order_bytes keys) orders ≡ spelled (with_identifier id (command_fields keys orders))
unfolding with_identifier
script_spelled keys None orders = commands_spelled keys orders
script_spelled keys (Some id) orders = ap (λ (bytes : List ℕ). written 0x9F18 id ++ bytes) (commands_spelled keys orders)

commands_tags : (keys : ScriptKeys) (orders : List Ordered) → are_tags (command_fields keys orders) ≡ true
unfolding command_fields
commands_tags keys [] = refl
commands_tags keys (order ∷ orders) = commands_tags keys orders

script_tags : (keys : ScriptKeys) (id : Option (List ℕ)) (orders : List Ordered) → are_tags (with_identifier id (command_fields keys orders)) ≡ true
unfolding with_identifier
script_tags keys None orders = commands_tags keys orders
script_tags keys (Some id) orders = commands_tags keys orders

plain_commands : (keys : ScriptKeys) (place : ℕ) (orders : List Ordered) → All IsPlain (map (λ (item : ItemData). item.value) (placed place (command_fields keys orders)))
unfolding command_fields
plain_commands keys place [] = All-nil IsPlain
plain_commands keys place (order ∷ orders) =
    All-cons IsPlain (script_command_bytes keys order) (map (λ (item : ItemData). item.value) (placed (place + length (written 0x86 (script_command_bytes keys order))) (command_fields keys orders)))
    (plain_word order.word ((length (script_command_data keys order.word) + 8) ∷ (script_command_data keys order.word ++ mac_bytes order.bad (mac_of keys order.word))))
    (plain_commands keys (place + length (written 0x86 (script_command_bytes keys order))) orders)

abbrev IsPlainRead : Option ReadScript → Type 0
IsPlainRead script = IfSome script (λ s. All IsPlain s.commands)

plain_with : (identifier : List ℕ) (items : List ItemData) → All IsPlain (map (λ (item : ItemData). item.value) items) → IsPlainRead (with_commands identifier items)
plain_with identifier items plain = by (list_all is_command items)
  where
    by : (all : Bool) → IsPlainRead (if all then Some (record { identifier = identifier; commands = map (λ (item : ItemData). item.value) items }) else None)
    by true = plain
    by false = tt

plain_in : (keys : ScriptKeys) (id : Option (List ℕ)) (orders : List Ordered) → IsPlainRead (script_in (placed 0 (with_identifier id (command_fields keys orders))))
unfolding with_identifier command_fields
plain_in keys None [] = All-nil IsPlain
plain_in keys None (order ∷ orders) = plain_with no_identifier (placed 0 (command_fields keys (order ∷ orders))) (plain_commands keys 0 (order ∷ orders))
plain_in keys (Some id) orders = by (length id == 4)
  where
    items : List ItemData
    items = placed (0 + length (written 0x9F18 id)) (command_fields keys orders)

    by : (four : Bool) → IsPlainRead (if four then with_commands id items else None)
    by true = plain_with id items (plain_commands keys (0 + length (written 0x9F18 id)) orders)
    by false = tt

-- what a template holds
content : ScriptKeys → ScriptData → List ℕ
content keys script = spelled (with_identifier script.id (command_fields keys script.commands))

plain_content : (keys : ScriptKeys) (script : ScriptData) → IsPlainScript (content keys script)
unfolding script_of content
plain_content keys script =
    subst (λ r. IsPlainRead (script_read r)) (sym (fields_listed (with_identifier script.id (command_fields keys script.commands)) (script_tags keys script.id script.commands)))
    (plain_in keys script.id script.commands)

-- the templates of an account's scripts
pub made_fields : ScriptKeys → List ScriptData → List (ℕ × List ℕ)
made_fields keys [] = []
made_fields keys (script ∷ scripts) = (template_tag script.before, content keys script) ∷ made_fields keys scripts

pub scripts_spelled : (keys : ScriptKeys) (scripts : List ScriptData) → all_script_bytes keys scripts ≡ spelled (made_fields keys scripts)
unfolding script_bytes content made_fields
scripts_spelled keys [] = refl
scripts_spelled keys (script ∷ scripts) =
    ap (λ (bytes : List ℕ). written (template_tag script.before) bytes ++ all_script_bytes keys scripts) (script_spelled keys script.id script.commands)
    ∙ ap (λ (bytes : List ℕ). written (template_tag script.before) (spelled (with_identifier script.id (command_fields keys script.commands))) ++ bytes) (scripts_spelled keys scripts)

one_more : (before : Bool) (value : List ℕ) (fields : List (ℕ × List ℕ)) → (are_tags fields ≡ true) × (are_templates fields ≡ true)
    → (are_tags ((template_tag before, value) ∷ fields) ≡ true) × (are_templates ((template_tag before, value) ∷ fields) ≡ true)
one_more true value fields rest = rest
one_more false value fields rest = rest

pub made_are : (keys : ScriptKeys) (scripts : List ScriptData) → (are_tags (made_fields keys scripts) ≡ true) × (are_templates (made_fields keys scripts) ≡ true)
unfolding made_fields
made_are keys [] = (refl, refl)
made_are keys (script ∷ scripts) = one_more script.before (content keys script) (made_fields keys scripts) (made_are keys scripts)

-- a template holds a plain script
abbrev pub HoldsPlain : ℕ × List ℕ → Type 0
HoldsPlain field = IsPlainScript field.1

pub made_plain : (keys : ScriptKeys) (scripts : List ScriptData) → All HoldsPlain (made_fields keys scripts)
unfolding made_fields
made_plain keys [] = All-nil HoldsPlain
made_plain keys (script ∷ scripts) = All-cons HoldsPlain (template_tag script.before, content keys script) (made_fields keys scripts) (plain_content keys script) (made_plain keys scripts)

tagged_plain : (place : ℕ) (fields : List (ℕ × List ℕ)) → All HoldsPlain fields
    → All IsPlainScript (map (λ (item : ItemData). item.value) (filter (λ (item : ItemData). item.tag == 0x71) (placed place fields)))
tagged_plain place [] plain = All-nil IsPlainScript
tagged_plain place (field ∷ fields) plain =
    let next = place + length (written field.0 field.1) in
    by (tagged_plain next fields (All-tail HoldsPlain field fields plain)) (field.0 == 0x71)
  where
    later : List ItemData
    later = filter (λ (item : ItemData). item.tag == 0x71) (placed (place + length (written field.0 field.1)) fields)

    by : All IsPlainScript (map (λ (item : ItemData). item.value) later) → (here : Bool)
        → All IsPlainScript (map (λ (item : ItemData). item.value) (cond here (record { tag = field.0; value = field.1; start = place } ∷ later) later))
    by rest true = All-cons IsPlainScript field.1 (map (λ (item : ItemData). item.value) later) (All-head HoldsPlain field fields plain) rest
    by rest false = rest

-- so does each one that runs before the second cryptogram
pub templates_plain : (fields : List (ℕ × List ℕ)) → are_tags fields ≡ true → All HoldsPlain fields → All IsPlainScript (templates_of_tag 0x71 (spelled fields))
unfolding templates_of_tag
templates_plain fields are plain = subst (λ r. All IsPlainScript (values_of 0x71 r)) (sym (fields_listed fields are)) (tagged_plain 0 fields plain)
