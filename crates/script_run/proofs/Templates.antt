-- The objects of a script as it is written.
use Rattle.std.proofs.Common.{◌≡◌, ℕ, ◌+◌, ◌<◌, ◌==◌, true, List, [], ◌∷◌, ◌++◌, length, map, refl, ap, sym, ◌∙◌, arith, append_assoc, append-nil, length-append, Some, Result, Ok, slice_get, IsTrue}
use Rattle.std.proofs.lemmas.Bool.Decides.{nat_tests}
use Rattle.std.specs.List.{list_all}
use Rattle.ber_tlv.proofs.ReadAgain.{item_read}
use Rattle.ber_tlv.proofs.Reading.{left-end, left-item, no_zeros}
use Rattle.ber_tlv.specs.Item.{ItemData, item_at}
use Rattle.ber_tlv.specs.Items.{NextItem}
use Rattle.ber_tlv.specs.Left.{items_behind, then_left}
use Rattle.ber_tlv.specs.Tag.{is_readable}
use Rattle.ber_tlv.specs.Written.{written}
use Rattle.ber_tlv.specs.declared.item.TlvFault.{TlvFault}
use Rattle.script_run.specs.Laws.{commands_written, script_written}
use Rattle.script_run.specs.Script.{is_command, no_identifier, with_commands, script_in, script_read, script_of}

front_get : (front rest : List ℕ) (byte : ℕ) → slice_get (front ++ byte ∷ rest) (length front) ≡ Some byte
front_get [] rest byte = refl
front_get (x ∷ front) rest byte = front_get front rest byte

-- one object as it is written, behind others
step : (front rest bytes : List ℕ) (tag : ℕ) (value : List ℕ) (byte : ℕ) → IsTrue (is_readable tag) → 0 < byte → slice_get (front ++ (written tag value ++ rest)) (length front) ≡ Some byte
    → bytes ≡ front ++ (written tag value ++ rest)
    → NextItem bytes (length front) (record { tag = tag; value = value; start = length front }) (length front + length (written tag value))
step front rest bytes tag value byte readable positive there same =
    let size : length bytes ≡ length front + length (written tag value ++ rest) = ap length same ∙ length-append front (written tag value ++ rest) in
    record {
      start = length front;
      zeros = no_zeros bytes (length front) (omega arith);
      begins = record { byte = byte; there = ap (λ (b : List ℕ). slice_get b (length front)) same ∙ there; not_zero = positive };
      stands = ap (λ (b : List ℕ). item_at b (length front)) (same ∙ simp append_assoc) ∙ item_read front rest tag value readable;
    }

command_begins : (front rest command : List ℕ) → slice_get (front ++ (written 0x86 command ++ rest)) (length front) ≡ Some 0x86
unfolding written
command_begins front rest command = front_get front _ 0x86

identifier_begins : (rest identifier : List ℕ) → slice_get (written 0x9F18 identifier ++ rest) 0 ≡ Some 0x9F
unfolding written
identifier_begins rest identifier = refl

abbrev placed : ℕ → List (List ℕ) → List ItemData
placed start [] = []
placed start (command ∷ commands) = record { tag = 0x86; value = command; start = start } ∷ placed (start + length (written 0x86 command)) commands

commands_read : (commands : List (List ℕ)) (front bytes : List ℕ) → bytes ≡ front ++ commands_written commands → items_behind bytes (length front) ≡ Ok (placed (length front) commands)
commands_read [] front bytes same =
    let whole : bytes ≡ front = same ∙ append-nil front in
    let size : length bytes ≡ length front = ap length whole in
    left-end bytes (length front) (rw size (no_zeros bytes (length front) (omega arith)))
commands_read (command ∷ commands) front bytes same =
    let this = written 0x86 command in
    let again : bytes ≡ (front ++ this) ++ commands_written commands = same ∙ simp append_assoc in
    let next : length (front ++ this) ≡ length front + length this = length-append front this in
    let others = commands_read commands (front ++ this) bytes again in
    left-item bytes (length front) _ _ (step front (commands_written commands) bytes 0x86 command 0x86 refl (omega arith) (command_begins front (commands_written commands) command) same)
    ∙ ap (λ (n : ℕ). then_left (record { tag = 0x86; value = command; start = length front }) (items_behind bytes n)) (sym next)
    ∙ ap (then_left (record { tag = 0x86; value = command; start = length front })) others
    ∙ ap (λ (n : ℕ). let r : Result (List ItemData) TlvFault = Ok (record { tag = 0x86; value = command; start = length front } ∷ placed n commands) in r) next

all_commands : (start : ℕ) (commands : List (List ℕ)) → list_all is_command (placed start commands) ≡ true
all_commands start [] = refl
all_commands start (command ∷ commands) = all_commands (start + length (written 0x86 command)) commands

their_values : (start : ℕ) (commands : List (List ℕ)) → map (λ item. item.value) (placed start commands) ≡ commands
their_values start [] = refl
their_values start (command ∷ commands) = ap (λ (cs : List (List ℕ)). command ∷ cs) (their_values (start + length (written 0x86 command)) commands)

with_all : (identifier : List ℕ) (start : ℕ) (commands : List (List ℕ)) → with_commands identifier (placed start commands) ≡ Some (record { identifier = identifier; commands = commands })
with_all identifier start commands = rw (all_commands start commands, their_values start commands) refl

unnamed_in : (start : ℕ) (commands : List (List ℕ)) → script_in (placed start commands) ≡ Some (record { identifier = no_identifier; commands = commands })
unnamed_in start [] = refl
unnamed_in start (command ∷ commands) = with_all no_identifier start (command ∷ commands)

pub unnamed_read : (commands : List (List ℕ)) → script_of (commands_written commands) ≡ Some (record { identifier = no_identifier; commands = commands })
unfolding script_of
unnamed_read commands = ap script_read (commands_read commands [] (commands_written commands) refl) ∙ unnamed_in 0 commands

pub named_read : (identifier : List ℕ) (commands : List (List ℕ)) → length identifier ≡ 4 → script_of (script_written identifier commands) ≡ Some (record { identifier = identifier; commands = commands })
unfolding script_of
named_read identifier commands four =
    let first = written 0x9F18 identifier in
    let bytes = script_written identifier commands in
    let item : ItemData = record { tag = 0x9F18; value = identifier; start = 0 } in
    let next : 0 + length first ≡ length first = omega arith in
    let test : (length identifier == 4) ≡ true = grind (arith, nat_tests) in
    ap script_read (left-item bytes 0 item _ (step [] (commands_written commands) bytes 0x9F18 identifier 0x9F refl (omega arith) (identifier_begins (commands_written commands) identifier) refl)
    ∙ ap (λ (n : ℕ). then_left item (items_behind bytes n)) next
    ∙ ap (then_left item) (commands_read commands first bytes refl))
    ∙ rw test (with_all identifier (length first) commands)
