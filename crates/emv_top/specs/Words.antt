-- The words of the command line.
use Rattle.std.specs.Prelude.{◌≤◌, ℕ, ⊤, nat_le, ◌==◌, Bool, true, false, not, ◌&&◌, List, [], ◌∷◌, ◌++◌, Option, Some, None, option_map, codes, slice_index, if◌then◌else◌}
use Rattle.std.specs.Str.{all_ascii_digits, bytes_eq}
use Rattle.std.specs.Str.Parse.{digits_value}
use Rattle.emv_top.specs.declared.words.Task.TheVariants.{Read, Replay}
use Rattle.emv_top.specs.declared.words.Subcommand.{Subcommand}
use Rattle.emv_top.specs.declared.words.Subcommand.TheVariants.{Play, Generate, Check}

-- without the first word `--`
abbrev pub without_dashes : List (List ℕ) → List (List ℕ)
without_dashes [] = []
without_dashes (word ∷ words) = (if bytes_eq word (codes "--") then words else word ∷ without_dashes words)

-- what a word alone asks for
abbrev pub lone_subcommand : List ℕ → Option Subcommand
lone_subcommand word =
    if bytes_eq word (codes "read") then Some (Play Read)
    else if bytes_eq word (codes "replay") then Some (Play Replay) else if bytes_eq word (codes "check") then Some Check else None

-- a number from 1 to 10,000 in decimal digits, of which the first is no 0
abbrev pub is_count : List ℕ → Bool
is_count word =
    all_ascii_digits word && not (slice_index word 0 == 48) && nat_le 1 (digits_value 10 word) && nat_le (digits_value 10 word) 10000

abbrev pub spelled_count : List ℕ → Option ℕ
spelled_count word = if is_count word then Some (digits_value 10 word) else None

-- `generate` and a count
abbrev pub counted_subcommand : List ℕ → List ℕ → Option Subcommand
counted_subcommand word count = if bytes_eq word (codes "generate") then option_map Generate (spelled_count count) else None

-- what one word or two ask for
abbrev pub named_subcommand : List (List ℕ) → Option Subcommand
named_subcommand [] = None
named_subcommand (word ∷ []) = lone_subcommand word
named_subcommand (word ∷ count ∷ []) = counted_subcommand word count
named_subcommand (word ∷ count ∷ other ∷ words) = None

-- what the words ask for
unfoldable pub subcommand_of : List (List ℕ) → Option Subcommand
subcommand_of words = named_subcommand (without_dashes words)

-- a generated scenario has from 1 to 10,000 purchases
abbrev pub HasFewPurchases : Subcommand → Type 0
HasFewPurchases (Play task) = ⊤
HasFewPurchases (Generate purchases) = (1 ≤ purchases) × (purchases ≤ 10000)
HasFewPurchases Check = ⊤

-- whether the source is read for it
abbrev pub asks_source : Option Subcommand → Bool
asks_source None = false
asks_source (Some (Play task)) = true
asks_source (Some (Generate purchases)) = false
asks_source (Some Check) = true

-- what answers any other words
unfoldable pub usage_line : List ℕ
usage_line = codes "usage: emvrun read|replay|generate N|check" ++ 10 ∷ []
