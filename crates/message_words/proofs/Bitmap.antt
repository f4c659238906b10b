-- The fields that a bitmap names, one by one.
use Rattle.std.proofs.Common.{◌≡◌, ℕ, suc, ◌+◌, ◌-◌, ◌<◌, ◌≤◌, Bool, true, false, List, [], ◌∷◌, ◌++◌, cond, Option, Some, None, option_map, refl, ap, ◌∙◌, arith}
use Rattle.std.specs.List.{filter, flat_map, range_with_len}
use Rattle.report_lines.specs.Pieces.{Piece}
use Rattle.object_words.specs.declared.style.Style.{Style}
use Rattle.message_words.specs.Fields.{has_field_bit, named_from, field_contents, with_content, cut_field}
use Rattle.message_words.specs.Iso.{content_words, first_words, words_if_named, rest_if_named}

-- the words of these fields, in what is left of the bytes
abbrev pub fields_behind : Style → Option (List (ℕ × List ℕ)) → List ℕ → Option (List ℕ) → List Piece
fields_behind style known numbers None = []
fields_behind style known numbers (Some bytes) = flat_map (content_words style known) (field_contents numbers bytes)

by_parts : (style : Style) (known : Option (List (ℕ × List ℕ))) (others : List ℕ) (n : ℕ) (found : Option (List ℕ × List ℕ))
    → flat_map (content_words style known) (with_content n found (field_contents others))
    ≡ first_words style known n found ++ fields_behind style known others (option_map (λ parts. parts.1) found)
by_parts style known others n None = refl
by_parts style known others n (Some parts) = refl

by_name : (style : Style) (known : Option (List (ℕ × List ℕ))) (others : List ℕ) (n : ℕ) (bytes : List ℕ) (named : Bool)
    → flat_map (content_words style known) (field_contents (cond named (n ∷ others) others) bytes)
    ≡ words_if_named style known named n bytes ++ fields_behind style known others (rest_if_named named n bytes)
unfolding field_contents
by_name style known others n bytes true = by_parts style known others n (cut_field n bytes)
by_name style known others n bytes false = refl

-- the first of them, and those behind it
named-next : (bitmap : List ℕ) (n : ℕ) → n < 65 → named_from bitmap n ≡ cond (has_field_bit bitmap n) (n ∷ named_from bitmap (n + 1)) (named_from bitmap (n + 1))
named-next bitmap n within =
    let more : 65 - n ≡ suc (65 - (n + 1)) = omega arith in
    ap (λ (k : ℕ). filter (has_field_bit bitmap) (range_with_len n k)) more

pub fields-next : (style : Style) (known : Option (List (ℕ × List ℕ))) (bitmap : List ℕ) (n : ℕ) (bytes : List ℕ) → n < 65
    → flat_map (content_words style known) (field_contents (named_from bitmap n) bytes)
    ≡ words_if_named style known (has_field_bit bitmap n) n bytes ++ fields_behind style known (named_from bitmap (n + 1)) (rest_if_named (has_field_bit bitmap n) n bytes)
fields-next style known bitmap n bytes within =
    ap (λ (numbers : List ℕ). flat_map (content_words style known) (field_contents numbers bytes)) (named-next bitmap n within)
    ∙ by_name style known (named_from bitmap (n + 1)) n bytes (has_field_bit bitmap n)

-- none stands behind the last one
pub fields-end : (style : Style) (known : Option (List (ℕ × List ℕ))) (bitmap : List ℕ) (n : ℕ) (bytes : List ℕ) → 65 ≤ n
    → flat_map (content_words style known) (field_contents (named_from bitmap n) bytes) ≡ []
unfolding field_contents
fields-end style known bitmap n bytes past =
    let none : 65 - n ≡ 0 = omega arith in
    ap (λ (k : ℕ). flat_map (content_words style known) (field_contents (filter (has_field_bit bitmap) (range_with_len n k)) bytes)) none
