-- Lines that begin with two blanks and end with a newline.
use Rattle.std.specs.Prelude.{ℕ, ◌≡◌, ◌-◌, ◌*◌, ◌==◌, Bool, ◌&&◌, nat_le, if◌then◌else◌, List, [], ◌∷◌, ◌++◌, map, take, min}
use Rattle.std.specs.List.{fold}
use Rattle.report_lines.specs.declared.lines.TheConstants.{BLANKS}

-- lines, of which the last one may be open, and whether references are told in them
pub record MadeLines : Type 0 where
  pub bytes : List ℕ
  pub books : Bool

-- what contracts see of the buffer
pub record WordsData : Type 0 where
  pub made : MadeLines
  pub failed : Bool

-- how far a line has come: 0 none is open, 1 behind its first blank, 2 behind the second; 3 it is no such line
unfoldable pub next_stage : ℕ → ℕ → ℕ
next_stage stage byte =
    if stage == 0 then (if byte == 32 then 1 else 3)
    else if stage == 1 then (if byte == 32 then 2 else 3)
    else if stage == 2 then (if byte == 10 then 0 else 2)
    else 3

-- how far the last line of these bytes has come
unfoldable pub stage_of : List ℕ → ℕ
stage_of bytes = fold next_stage 0 bytes

-- each line begins with two blanks and ends with a newline
unfoldable pub AreWordLines : List ℕ → Type 0
AreWordLines bytes = stage_of bytes ≡ 0

-- a line is open behind these bytes: a new one begins with two blanks
unfoldable pub line_opened : List ℕ → List ℕ
line_opened bytes = (if stage_of bytes == 2 then bytes else bytes ++ 32 ∷ 32 ∷ [])

-- no line is open behind these bytes
unfoldable pub line_closed : List ℕ → List ℕ
line_closed bytes = (if stage_of bytes == 2 then bytes ++ 10 ∷ [] else bytes)

-- a printable character of ASCII, or `?`
abbrev pub shown_character : ℕ → ℕ
shown_character byte = (if nat_le 32 byte && nat_le byte 126 then byte else 63)

-- a new line of so many levels, one at least and nine at most
unfoldable pub line_begun : List ℕ → ℕ → List ℕ
line_begun bytes level = line_opened (line_closed bytes) ++ map shown_character (take (2 * min (level - 1) 8) BLANKS.now)
