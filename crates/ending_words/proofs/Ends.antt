-- What is told of an end line, part by part.
use Rattle.std.proofs.Common.{◌≡◌, ℕ, Bool, List, Option, ◌++◌, refl, subst}
use Rattle.report_lines.specs.Lines.{WordsData}
use Rattle.report_lines.specs.Pieces.{Piece, Tells}
use Rattle.report_lines.proofs.Telling.{tells_then}
use Rattle.ending_words.specs.Endings.{hex_number, end_bits, cvm_words, response_line_words, scripts_words, set_fields}
use Rattle.report_lines.specs.Reading.{EndLineFields}

fields_are : (declined : Bool) (f : EndLineFields) (brief : Bool)
    → end_bits f brief ++ cvm_words (hex_number f.cvm) ++ response_line_words declined f.arc ++ scripts_words f.scripts ≡ set_fields declined f brief
unfolding set_fields
fields_are declined f brief = refl

-- the fields of an end line
pub fields_told : (first second third fourth last : WordsData) (declined : Bool) (f : EndLineFields) (brief : Bool) (cvm : Option ℕ) → cvm ≡ hex_number f.cvm
    → Tells first second (end_bits f brief) → Tells second third (cvm_words cvm) → Tells third fourth (response_line_words declined f.arc) → Tells fourth last (scripts_words f.scripts)
    → Tells first last (set_fields declined f brief)
fields_told first second third fourth last declined f brief cvm is bits verified code scripts =
    subst (λ (p : List Piece). Tells first last p) (fields_are declined f brief)
    (tells_then first fourth last (end_bits f brief ++ cvm_words (hex_number f.cvm) ++ response_line_words declined f.arc) (scripts_words f.scripts)
    (tells_then first third fourth (end_bits f brief ++ cvm_words (hex_number f.cvm)) (response_line_words declined f.arc)
    (tells_then first second third (end_bits f brief) (cvm_words (hex_number f.cvm)) bits (subst (λ (o : Option ℕ). Tells second third (cvm_words o)) is verified)) code) scripts)
