-- Rules of cardholder verification in words (EMV 4.3 Book 3 Annex C3).
use Rattle.std.specs.Prelude.{ℕ, ◌%◌, List, [], ◌∷◌, ◌++◌, map, codes, Option}
use Rattle.report_lines.specs.Pieces.{Piece, text, hex, word_or}
use Rattle.report_lines.specs.Tables.{word_in}
use Rattle.value_words.specs.declared.codes.TheConstants.{METHODS, CONDITIONS}
use Rattle.value_words.specs.declared.phrases.TheConstants.{UNKNOWN_METHOD, UNKNOWN_CONDITION}

-- the method of the low six bits
abbrev pub method_words : ℕ → List Piece
method_words method = word_or (text UNKNOWN_METHOD.now) (word_in (map (λ w. (w.0, w.1.now)) METHODS) (method % 64))

-- the word of a condition
unfoldable pub condition_word : ℕ → Option (List ℕ)
condition_word condition = word_in (map (λ w. (w.0, w.1.now)) CONDITIONS) condition

-- when it is used; a condition that is not known never holds
abbrev pub condition_words : ℕ → List Piece
condition_words condition =
    word_or (text UNKNOWN_CONDITION.now ++ hex (condition ∷ []) ++ text (codes ")")) (condition_word condition)

-- a method, and when it is used
abbrev pub rule_words : ℕ → ℕ → List Piece
rule_words method condition = method_words method ++ text (codes ", ") ++ condition_words condition
