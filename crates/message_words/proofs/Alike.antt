-- What is told of a value by a style: what the response code 00 says counts, and not where those words stand.
use Rattle.std.proofs.Common.{◌≡◌, ℕ, zero, suc, Bool, true, false, List, [], ◌∷◌, ◌++◌, cond, Option, Some, None, option_map, unwrap_or, refl, ap, ◌∙◌}
use Rattle.std.specs.Borrow.{Bor}
use Rattle.std.specs.List.{flat_map}
use Rattle.ber_tlv.specs.Written.{tag_bytes}
use Rattle.value_words.specs.declared.names.Form.{Form}
use Rattle.value_words.specs.declared.names.Form.TheVariants as form
use Rattle.value_words.specs.Plain.{hex_words}
use Rattle.object_words.specs.Issuer.{response_code_words}
use Rattle.object_words.specs.Leading.{leading_items}
use Rattle.object_words.specs.Objects.{form_words, value_words, named_value, name_of, object_words, objects_words, item_words, plain_item, is_opened, template_line, level_within}
use Rattle.report_lines.specs.Pieces.{Piece, line, text, hex}
use Rattle.message_words.specs.Objects.{styled}

-- what the words are
abbrev pub said : Option (Bor (List ℕ)) → Option (List ℕ)
said answer = option_map (λ words. words.now) answer

form-alike : (f : Form) (level : ℕ) (a b : Option (Bor (List ℕ))) (value : List ℕ) → said a ≡ said b → form_words f (styled level a) value ≡ form_words f (styled level b) value
form-alike form.Response level a b value same = ap (response_code_words value) same
form-alike other level a b value same = refl

pub value-alike : (f : Form) (level : ℕ) (a b : Option (Bor (List ℕ))) (value : List ℕ) → said a ≡ said b → value_words f (styled level a) value ≡ value_words f (styled level b) value
unfolding value_words
value-alike f level a b value same = ap (λ (words : Option (List Piece)). unwrap_or words (hex_words value)) (form-alike f level a b value same)

named-alike : (named : Option (List ℕ × Form)) (level : ℕ) (a b : Option (Bor (List ℕ))) (value : List ℕ) → said a ≡ said b
    → named_value named (styled level a) value ≡ named_value named (styled level b) value
named-alike None level a b value same = refl
named-alike (Some named) level a b value same =
    ap (λ (words : List Piece). text (32 ∷ []) ++ text named.0 ++ text (58 ∷ 32 ∷ []) ++ words) (value-alike named.1 level a b value same)

object-alike : (level tag : ℕ) (a b : Option (Bor (List ℕ))) (value : List ℕ) → said a ≡ said b → object_words (styled level a) tag value ≡ object_words (styled level b) tag value
unfolding object_words
object-alike level tag a b value same =
    ap (λ (words : List Piece). line level ++ hex (tag_bytes tag) ++ words) (named-alike (name_of tag) level a b value same)

pub each-alike : {A : Type 0} → (f g : A → List Piece) → ((x : A) → f x ≡ g x) → (xs : List A) → flat_map f xs ≡ flat_map g xs
each-alike f g same [] = refl
each-alike f g same (x ∷ xs) = ap (λ (words : List Piece). words ++ flat_map f xs) (same x) ∙ ap (λ (words : List Piece). g x ++ words) (each-alike f g same xs)

cond-alike : (b : Bool) (x y u v : List Piece) → x ≡ y → u ≡ v → cond b x u ≡ cond b y v
cond-alike true x y u v same other = same
cond-alike false x y u v same other = other

pub objects-alike : (more level : ℕ) (a b : Option (Bor (List ℕ))) (bytes : List ℕ) → said a ≡ said b → objects_words more (styled level a) bytes ≡ objects_words more (styled level b) bytes
unfolding objects_words
objects-alike zero level a b bytes same =
    each-alike (plain_item (styled level a)) (plain_item (styled level b)) (λ item. object-alike level item.tag a b item.value same) (leading_items bytes)
objects-alike (suc more) level a b bytes same =
    each-alike (item_words (styled level a) (objects_words more)) (item_words (styled level b) (objects_words more))
    (λ item.
    let within : ℕ = level_within (name_of item.tag) level item.tag in
    cond-alike (is_opened level item) _ _ _ _
    (ap (λ (words : List Piece). template_line (name_of item.tag) level item.tag ++ words) (objects-alike more within a b item.value same))
    (object-alike level item.tag a b item.value same))
    (leading_items bytes)
