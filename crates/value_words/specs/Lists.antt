-- Values that are lists, in words: rules, groups of records, entries (EMV 4.3 Book 3 sections 5.4, 10.2, 10.5, Book 4
-- Annex A4).
use Rattle.std.specs.Prelude.{ℕ, ◌/◌, ◌%◌, ◌==◌, Bool, false, not, ◌&&◌, nat_le, if◌then◌else◌, List, [], ◌∷◌, ◌++◌, length, map, take, drop, slice_index, codes, Option, Some, None}
use Rattle.report_lines.specs.Pieces.{Piece, line, text, number, hex, joined, reference, reference_or_none}
use Rattle.ber_tlv.specs.Written.{tag_bytes}
use Rattle.report_lines.specs.References.{outcome_reference, verification_reference}
use Rattle.report_lines.specs.Tables.{word_in}
use Rattle.value_words.specs.declared.codes.TheConstants.{OUTCOMES}
use Rattle.value_words.specs.Fields.{list_entries, is_whole_list}
use Rattle.value_words.specs.Plain.{binary_number, told_if}
use Rattle.value_words.specs.Rules.{rule_words}
use Rattle.value_words.specs.declared.phrases.TheConstants.{GO_ON, FAIL, NO_RULE}

abbrev pub unsuccessful_words : Bool → List Piece
unsuccessful_words goes_on = (if goes_on then text GO_ON.now else text FAIL.now)

-- a rule in a line of its own, and what follows where it is unsuccessful
abbrev pub rule_line : ℕ → ℕ → ℕ → List Piece
rule_line level method condition =
    line level ++ hex (method ∷ condition ∷ []) ++ text (codes " ") ++ rule_words method condition ++ unsuccessful_words (method / 64 % 2 == 1)

-- the rules, two bytes each
unfoldable pub rules_words : ℕ → List ℕ → List Piece
rules_words level [] = []
rules_words level (method ∷ []) = []
rules_words level (method ∷ condition ∷ rest) = rule_line level method condition ++ rules_words level rest

-- the two amounts
abbrev pub amounts_words : List ℕ → List Piece
amounts_words amounts = text (codes "X ") ++ number (binary_number (take 4 amounts)) ++ text (codes ", Y ") ++ number (binary_number (drop 4 amounts))

-- a list of methods of cardholder verification: its two amounts, and its rules below (EMV 4.3 Book 3 section 10.5)
abbrev pub methods_words : ℕ → List ℕ → Option (List Piece)
methods_words level value =
    told_if (length value % 2 == 0 && nat_le 8 (length value)) (amounts_words (take 8 value) ++ rules_words level (drop 8 value))

abbrev pub outcome_words : Option (List ℕ) → List Piece
outcome_words None = []
outcome_words (Some word) = text (codes ": ") ++ text word

-- the rule that was performed and its outcome, and where they stand; 3F in place of a method says that none was (EMV 4.3
-- Book 4 Annex A4)
unfoldable pub performed_rule : ℕ → ℕ → ℕ → List Piece
performed_rule method condition outcome =
    if method == 0x3F then text NO_RULE.now ++ reference (verification_reference method outcome)
    else
    rule_words method condition ++ reference (verification_reference method outcome)
    ++ outcome_words (word_in (map (λ w. (w.0, w.1.now)) OUTCOMES) outcome) ++ reference_or_none (outcome_reference outcome)

-- the result of cardholder verification
abbrev pub method_result_words : List ℕ → Option (List Piece)
method_result_words value =
    told_if (length value == 3)
    (hex value ++ text (codes ", ") ++ performed_rule (slice_index value 0) (slice_index value 1) (slice_index value 2))

-- a group of records
abbrev pub offline_records_words : ℕ → List Piece
offline_records_words offline = (if offline == 0 then [] else text (codes " (") ++ number offline ++ text (codes " for offline data authentication)"))

abbrev pub group_words : ℕ → ℕ → ℕ → ℕ → List Piece
group_words file first last offline =
    text (codes "file ") ++ number (file / 8) ++ text (codes " records ") ++ number first ++ text (codes " to ") ++ number last ++ offline_records_words offline

abbrev pub comma_before : List ℕ → List Piece
comma_before rest = (if length rest == 0 then [] else text (codes ", "))

-- the groups, four bytes each
unfoldable pub groups_words : List ℕ → List Piece
groups_words [] = []
groups_words (file ∷ []) = []
groups_words (file ∷ first ∷ []) = []
groups_words (file ∷ first ∷ last ∷ []) = []
groups_words (file ∷ first ∷ last ∷ offline ∷ rest) = group_words file first last offline ++ comma_before rest ++ groups_words rest

-- an application file locator (EMV 4.3 Book 3 section 10.2)
abbrev pub locator_words : List ℕ → Option (List Piece)
locator_words value = told_if (not (length value == 0) && length value % 4 == 0) (groups_words value)

-- the entries of a data object list, each as its tag and its length
abbrev pub entry_words : ℕ × ℕ → List Piece
entry_words entry = hex (tag_bytes entry.0) ++ text (codes ":") ++ number entry.1

abbrev pub entries_words : List ℕ → List Piece
entries_words list = joined false (text (codes " ")) (map entry_words (list_entries list).0)

-- a data object list in words, entry by entry, where it can be read whole
abbrev pub list_words : List ℕ → Option (List Piece)
list_words list = told_if (is_whole_list list && not (length list == 0)) (entries_words list)
