-- The script of a template, by its commands.
use Rattle.std.proofs.Common.{◌≡◌, ℕ, ◌==◌, ◌&&◌, arith, Bool, true, false, List, [], ◌∷◌, filter, map, refl, ap, sym, ◌∙◌, Option, Some, None, option_map, Result, Ok, Err, length, if◌then◌else◌}
use Rattle.std.proofs.lemmas.Bool.Decides.{nat_tests}
use Rattle.std.specs.List.{list_all}
use Rattle.ber_tlv.specs.Direct.{values_of}
use Rattle.ber_tlv.specs.Item.{ItemData}
use Rattle.ber_tlv.specs.Left.{items_of}
use Rattle.ber_tlv.specs.declared.item.TlvFault.{TlvFault}
use Rattle.emv_dict.specs.Progress.{Leads}
use Rattle.script_run.specs.Ran.{ran, script_ran, template_ran}
use Rattle.script_run.specs.Script.{ReadScript, is_command, no_identifier, with_commands, script_read, script_of, commands_of}

-- the script has these commands
abbrev HasCommands : Option ReadScript → List (List ℕ) → Type 0
HasCommands None commands = Unit {0}
HasCommands (Some script) commands = script.commands ≡ commands

kept_by : (test : Bool) (item : ItemData) (items kept : List ItemData) → (test && list_all is_command items) ≡ true → (list_all is_command items ≡ true → kept ≡ items)
    → (if test then item ∷ kept else kept) ≡ item ∷ items
kept_by true item items kept all same = ap (λ (others : List ItemData). item ∷ others) (same all)
kept_by false item items kept all same = cc

all_kept : (items : List ItemData) → list_all is_command items ≡ true → filter is_command items ≡ items
all_kept [] all = refl
all_kept (item ∷ items) all = kept_by (is_command item) item items (filter is_command items) all (all_kept items)

with_commands-has : (all : Bool) (identifier : List ℕ) (items : List ItemData) → (all ≡ list_all is_command items)
    → HasCommands (if all then Some (record { identifier = identifier; commands = map (λ item. item.value) items }) else None) (map (λ item. item.value) (filter is_command items))
with_commands-has true identifier items is = ap (map (λ item. item.value)) (sym (all_kept items (sym is)))
with_commands-has false identifier items is = tt

-- an identifier is no command
named-has : (named four : Bool) (item : ItemData) (items : List ItemData) → (item.tag == 0x9F18) ≡ named
    → HasCommands (if named then (if four then with_commands item.value items else None) else with_commands no_identifier (item ∷ items)) (map (λ item. item.value) (filter is_command (item ∷ items)))
named-has true true item items is =
    let other : (item.tag == 0x86) ≡ false = grind (arith, nat_tests) in
    rw other (with_commands-has (list_all is_command items) item.value items refl)
named-has true false item items is = tt
named-has false four item items is = with_commands-has (list_all is_command (item ∷ items)) no_identifier (item ∷ items) refl

script_read-has : (read : Result (List ItemData) TlvFault) → HasCommands (script_read read) (values_of 0x86 read)
script_read-has (Ok []) = refl
script_read-has (Ok (item ∷ items)) = named-has (item.tag == 0x9F18) (length item.value == 4) item items refl
script_read-has (Err fault) = tt

script_ran-same : (script : Option ReadScript) (commands : List (List ℕ)) (identifier : List ℕ) (later : List (List ℕ)) → HasCommands script commands → Some identifier ≡ option_map (λ s. s.identifier) script
    → script_ran script later ≡ ran identifier 1 commands later
script_ran-same None commands identifier later has is = cc
script_ran-same (Some script) commands identifier later has is =
    let same : script.identifier ≡ identifier = cc in
    rw (has, same) refl

-- the commands of a template's copy begin
pub begun : (template copy : List ℕ) (identifier : List ℕ) → Some identifier ≡ option_map (λ s. s.identifier) (script_of template) → copy ≡ template
    → Leads (template_ran template) [] (ran identifier 1 (commands_of copy))
unfolding script_of commands_of
begun template copy identifier is same later =
    script_ran-same (script_of template) (commands_of template) identifier later (script_read-has (items_of template)) is
    ∙ ap (λ (bytes : List ℕ). ran identifier 1 (commands_of bytes) later) (sym same)
