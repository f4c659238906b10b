-- A command that the card was pulled out before it had answered (EMV 4.3 Book 3 section 6.5).
use Rattle.std.specs.Prelude.{ℕ, ◌+◌, ◌*◌, ◌==◌, Bool, not, ◌&&◌, ◌||◌, nat_le, if◌then◌else◌, List, [], ◌++◌, length, slice_index, codes, Option, Some, None}
use Rattle.report_lines.specs.Pieces.{Piece, line, text}
use Rattle.exchange_words.specs.Commands.{command_cited}
use Rattle.exchange_words.specs.declared.phrases.TheConstants.{NO_ANSWER_YET, MAY_BE_KEPT}

-- a command of this class and this instruction
abbrev pub has_instruction : ℕ → ℕ → List ℕ → Bool
has_instruction class instruction command = nat_le 2 (length command) && (slice_index command 0 == class && slice_index command 1 == instruction)

-- a command of a script: it has one of two classes
abbrev pub is_of_script : List ℕ → Bool
is_of_script command = nat_le 1 (length command) && (slice_index command 0 == 0x84 || slice_index command 0 == 0x04)

-- the name of a command, as far as it may be left without an answer
unfoldable pub command_name : List ℕ → Option (List ℕ)
command_name command =
    if has_instruction 0x00 0xA4 command then Some (codes "SELECT")
    else if has_instruction 0x80 0xA8 command then Some (codes "GET PROCESSING OPTIONS")
    else if has_instruction 0x00 0xB2 command then Some (codes "READ RECORD")
    else if has_instruction 0x00 0x20 command then Some (codes "VERIFY")
    else if has_instruction 0x80 0xCA command then Some (codes "GET DATA")
    else if has_instruction 0x80 0xAE command then Some (codes "GENERATE AC")
    else if has_instruction 0x00 0x82 command then Some (codes "EXTERNAL AUTHENTICATE")
    else if is_of_script command then Some (codes "the script command")
    else None

-- whether the card may keep something before it answers this command
unfoldable pub may_keep : List ℕ → Bool
may_keep command = not (has_instruction 0x00 0xA4 command || has_instruction 0x00 0xB2 command || has_instruction 0x80 0xCA command)

-- where it stands
abbrev pub sent_cited : List ℕ → List Piece
sent_cited command = (if nat_le 2 (length command) then command_cited (slice_index command 0 * 256 + slice_index command 1) else [])

abbrev pub left_open : List ℕ → Option (List ℕ) → List Piece
left_open command None = []
left_open command (Some name) =
    text (codes " ") ++ text name ++ sent_cited command ++ (if may_keep command then text MAY_BE_KEPT.now else [])

-- the card was pulled out before it had answered
abbrev pub torn_words : List ℕ → List Piece
torn_words command = line 1 ++ text NO_ANSWER_YET.now ++ left_open command (command_name command)
