-- What the definitions say of some messages.
use Rattle.std.proofs.Common.{◌≡◌, ℕ, List, [], ◌∷◌, ◌++◌, Some, codes, true, false, refl}
use Rattle.report_lines.specs.Tables.{word_in}
use Rattle.report_lines.specs.Lines.{line_closed, line_opened, line_begun, stage_of, next_stage}
use Rattle.report_lines.specs.Pieces.{with_piece, lines_of}
use Rattle.message_words.specs.Fields.{field_contents, named_from, has_field_bit, cut_field}
use Rattle.message_words.specs.Iso.{iso_message_of, type_word}
use Rattle.message_words.specs.Messages.{call_words, code_in, settled_by}
use Rattle.message_words.specs.declared.host.Settled.TheVariants.{Presentment, Reversal}

-- a bitmap that names the fields 39 and 55, and their contents
abbrev bitmap : List ℕ
bitmap = 0 ∷ 0 ∷ 0 ∷ 0 ∷ 2 ∷ 0 ∷ 2 ∷ 0 ∷ []

pub fields_named : named_from bitmap 1 ≡ 39 ∷ 55 ∷ []
unfolding has_field_bit
fields_named = refl

pub fields_cut : field_contents (39 ∷ 55 ∷ []) (codes "050003abc") ≡ (39, codes "05") ∷ (55, codes "abc") ∷ []
unfolding field_contents cut_field
fields_cut = refl

-- a reply whose first field is the response code
pub code_read : code_in (codes "0110" ++ bitmap ++ codes "05") ≡ Some (codes "05")
unfolding code_in iso_message_of type_word word_in
code_read = refl

-- a presentment with a type, and a reversal of data objects
pub presentment_known : settled_by (codes "0220") ≡ Presentment
unfolding settled_by iso_message_of type_word word_in
presentment_known = refl

pub reversal_known : settled_by (0xE4 ∷ 0 ∷ []) ≡ Reversal
unfolding settled_by iso_message_of
reversal_known = refl

-- the words of a reversal without its fields
pub reversal_told : lines_of false (call_words [] (codes "0400") true) ≡ codes "  0400 reversal\n"
unfolding call_words iso_message_of type_word word_in with_piece line_begun line_opened line_closed stage_of next_stage
reversal_told = refl
