-- Templates that are spelled one behind the other are scripts of a reply.
use Rattle.std.proofs.Common.{◌≡◌, ℕ, Bool, true, false, ◌||◌, ◌==◌, ◌+◌, ◌-◌, ◌≤◌, List, [], ◌∷◌, ◌++◌, take, length, Ok, refl, sym, ap, subst, ◌∙◌, arith, length-append, append_assoc, append-nil, suc}
use Rattle.std.specs.Prelude.{slice_range}
use Rattle.std.specs.List.{list_all}
use Rattle.std.proofs.lemmas.Bool.Decides.{nat_tests}
use Rattle.ber_tlv.specs.Left.{items_behind}
use Rattle.ber_tlv.specs.Written.{written}
use Rattle.ber_tlv.proofs.ReadAgain.{both}
use Rattle.ber_tlv.proofs.Reading.{no_zeros, left-end}
use Rattle.auth_message.specs.Reply.{AreScripts, names_script, is_template, place_behind, place_behind_item, end_behind, bytes_of_items}
use Rattle.auth_message.specs.Spelling.{spelled}
use Rattle.auth_message.specs.Whole.{AreSpelledScripts}
use Rattle.auth_message.proofs.Opened.{stands_at}
use Rattle.auth_message.proofs.Spelled.{placed, is_tag, are_tags, field_step, read_fields, take_whole}

-- each field is a template
abbrev pub are_templates : List (ℕ × List ℕ) → Bool
are_templates fields = list_all (λ field. names_script field.0) fields

one_tag : (tag : ℕ) (a b : Bool) → (tag == 0x71) ≡ a → (tag == 0x72) ≡ b → (a || b) ≡ true → is_tag tag ≡ true
one_tag tag true b first second is = let same : tag ≡ 0x71 = grind (arith, nat_tests) in rw same refl
one_tag tag false true first second is = let same : tag ≡ 0x72 = grind (arith, nat_tests) in rw same refl
one_tag tag false false first second is = cc

-- templates have tags
pub templates_tags : (fields : List (ℕ × List ℕ)) → are_templates fields ≡ true → are_tags fields ≡ true
templates_tags [] all = refl
templates_tags (field ∷ fields) all =
    let facts = both (names_script field.0) _ all in
    rw (one_tag field.0 _ _ refl refl facts.0) (templates_tags fields facts.1)

placed_templates : (place : ℕ) (fields : List (ℕ × List ℕ)) → are_templates fields ≡ true → list_all is_template (placed place fields ++ []) ≡ true
placed_templates place [] all = refl
placed_templates place (field ∷ fields) all =
    let facts = both (names_script field.0) _ all in
    rw facts.0 (placed_templates (place + length (written field.0 field.1)) fields facts.1)

placed_count : (place : ℕ) (fields : List (ℕ × List ℕ)) → length (placed place fields ++ []) ≡ length fields
placed_count place [] = refl
placed_count place (field ∷ fields) = ap suc (placed_count (place + length (written field.0 field.1)) fields)

pub ends_placed : (fields : List (ℕ × List ℕ)) (front rest bytes : List ℕ) → are_tags fields ≡ true → bytes ≡ front ++ (spelled fields ++ rest)
    → end_behind bytes (length front) (placed (length front) fields ++ []) ≡ length front + length (spelled fields)
ends_placed [] front rest bytes are same = omega arith
ends_placed (field ∷ fields) front rest bytes are same =
    let facts = both (is_tag field.0) _ are in
    let this = written field.0 field.1 in
    let again : bytes ≡ (front ++ this) ++ (spelled fields ++ rest) = same ∙ simp append_assoc in
    let here : bytes ≡ front ++ (this ++ (spelled fields ++ rest)) = same ∙ simp append_assoc in
    let next : length (front ++ this) ≡ length front + length this = length-append front this in
    let step = field_step front (spelled fields ++ rest) bytes field.0 field.1 facts.0 here in
    let stands : place_behind_item bytes (record { tag = field.0; value = field.1; start = length front }) ≡ length front + length this = ap place_behind (stands_at bytes bytes (length front) (record { tag = field.0; value = field.1; start = length front }) (length front + length this) refl step) in
    let others = ends_placed fields (front ++ this) rest bytes facts.1 again in
    ap (λ n. end_behind bytes n (placed (length front + length this) fields ++ [])) stands
    ∙ ap (λ n. end_behind bytes n (placed n fields ++ [])) (sym next) ∙ others ∙ omega (arith, length-append this (spelled fields))

whole_range : (bytes : List ℕ) (count : ℕ) → count ≡ length bytes → slice_range bytes 0 count ≡ bytes
whole_range bytes count same =
    let all : count - 0 ≡ length bytes = omega arith in
    ap (λ n. take n bytes) all ∙ take_whole bytes

bytes_placed : (fields : List (ℕ × List ℕ)) (bytes : List ℕ) → are_tags fields ≡ true → bytes ≡ spelled fields → bytes_of_items bytes (placed 0 fields ++ []) ≡ bytes
bytes_placed [] bytes are same = sym same
bytes_placed (field ∷ fields) bytes are same =
    let end = ends_placed (field ∷ fields) [] [] bytes are (same ∙ sym (append-nil (spelled (field ∷ fields)))) in
    whole_range bytes _ (end ∙ omega (arith, ap length same))

pub templates_are_scripts : (fields : List (ℕ × List ℕ)) → are_tags fields ≡ true → are_templates fields ≡ true → length fields ≤ 8 → length (spelled fields) ≤ 1024 → AreScripts (spelled fields)
templates_are_scripts fields are templates few short =
    let bytes = spelled fields in
    let end : items_behind bytes (0 + length bytes) ≡ Ok [] = ap (items_behind bytes) (omega arith) ∙ left-end bytes (length bytes) (no_zeros bytes (length bytes) (omega arith)) in
    record {
      items = placed 0 fields ++ [];
      listed = read_fields fields [] [] bytes [] are (sym (append-nil bytes)) end;
      templates = placed_templates 0 fields templates;
      few = omega (arith, placed_count 0 fields);
      short = short;
      no_padding = bytes_placed fields bytes are refl;
    }

pub spelled_are_scripts : (bytes : List ℕ) → AreSpelledScripts bytes → AreScripts bytes
spelled_are_scripts bytes is =
    subst AreScripts (sym is.exact)
    (templates_are_scripts is.fields (templates_tags is.fields is.templates) is.templates is.few (omega (arith, ap length is.exact, is.short)))

-- no scripts
pub none_spelled : AreSpelledScripts []
none_spelled = record { fields = []; templates = refl; few = omega arith; short = omega arith; exact = refl }

pub none_are_scripts : AreScripts []
none_are_scripts = spelled_are_scripts [] none_spelled
