-- What is told of a reply, by what the response code 00 says there.
use Rattle.std.proofs.Common.{◌≡◌, ℕ, ◌==◌, Bool, true, false, List, ◌++◌, cond, codes, drop, nat_le, length, take, Option, Some, None, is_some, option_map, refl, ap}
use Rattle.std.specs.Borrow.{Bor}
use Rattle.ber_tlv.specs.Left.{fault_of, items_of}
use Rattle.value_words.specs.declared.names.Form.TheVariants.{Response}
use Rattle.report_lines.specs.Pieces.{Piece, line, text, number}
use Rattle.message_words.specs.Fields.{field_contents, named_from}
use Rattle.object_words.specs.Results.{behind_blank}
use Rattle.message_words.specs.Iso.{MessageData, characters_words, field_word, content_words, message_words, type_word}
use Rattle.message_words.specs.Messages.{objects_reply}
use Rattle.message_words.specs.Objects.{styled, borrowed}
use Rattle.message_words.proofs.Alike.{said, value-alike, objects-alike, each-alike}

-- words that are borrowed say the same
pub said-borrowed : (words : Option (List ℕ)) → said (option_map borrowed words) ≡ words
said-borrowed None = refl
said-borrowed (Some words) = refl

if-alike : (c : Bool) (x y other : List Piece) → x ≡ y → cond c x other ≡ cond c y other
if-alike true x y other same = same
if-alike false x y other same = refl

else-alike : (c : Bool) (x y other : List Piece) → x ≡ y → cond c other x ≡ cond c other y
else-alike true x y other same = refl
else-alike false x y other same = same

characters-alike : (level n : ℕ) (a b : Option (Bor (List ℕ))) (bytes : List ℕ) → said a ≡ said b → characters_words (styled level a) n bytes ≡ characters_words (styled level b) n bytes
characters-alike level n a b bytes same = else-alike (n == 52) _ _ _ (if-alike (n == 39) _ _ _ (value-alike Response level a b bytes same))

content-alike : (level : ℕ) (a b : Option (Bor (List ℕ))) → said a ≡ said b → (field : ℕ × List ℕ) → content_words (styled level a) None field ≡ content_words (styled level b) None field
content-alike level a b same field =
    let objects = objects-alike 8 level a b field.1 same in
    let characters = ap (λ (words : List Piece). line level ++ text (codes "field ") ++ number field.0 ++ behind_blank (field_word field.0) ++ text (codes ": ") ++ words)
    (characters-alike level field.0 a b field.1 same) in
    both (field.0 == 55) objects characters
  where
    both : (c : Bool) {x y u v : List Piece} → x ≡ y → u ≡ v → cond c x u ≡ cond c y v
    both true first second = first
    both false first second = second

-- of a message with a type
pub message-alike : (level : ℕ) (a b : Option (Bor (List ℕ))) (message : MessageData) (brief : Bool) → said a ≡ said b
    → message_words (styled level a) None message brief ≡ message_words (styled level b) None message brief
message-alike level a b message brief same =
    let numbers = named_from (take 8 message.rest) 1 in
    let fields = each-alike (content_words (styled level a) None) (content_words (styled level b) None) (content-alike level a b same) (field_contents numbers (drop 8 message.rest)) in
    ap (λ (words : List Piece). line 1 ++ text message.digits ++ behind_blank (type_word message.kind) ++ words)
    (else-alike brief _ _ _ (if-alike (nat_le 8 (length message.rest)) _ _ _ fields))

-- of data objects
pub objects_reply-alike : (level : ℕ) (a b : Option (Bor (List ℕ))) (bytes : List ℕ) (brief : Bool) → said a ≡ said b
    → objects_reply (styled level a) bytes brief ≡ objects_reply (styled level b) bytes brief
objects_reply-alike level a b bytes brief same =
    else-alike brief _ _ _ (else-alike (is_some (fault_of (items_of bytes))) _ _ _ (objects-alike 8 level a b bytes same))
