-- What is told piece by piece.
use Rattle.std.proofs.Common.{◌≡◌, ℕ, ◌+◌, ◌-◌, ◌<◌, ◌≤◌, Bool, true, false, ◌||◌, List, [], ◌∷◌, ◌++◌, cond, map, suc, refl, sym, ap, subst, ◌∙◌, arith}
use Rattle.std.specs.List.{filter, range_with_len}
use Rattle.std.proofs.lemmas.List.Sums.{fold-append}
use Rattle.report_lines.specs.Lines.{MadeLines, WordsData}
use Rattle.report_lines.specs.Bits.{has_bit, bits_told_from}
use Rattle.report_lines.specs.Pieces.{Piece, Tells, put, with_piece, joined}

-- pieces one behind the other
pub put-append : (made : MadeLines) (first second : List Piece) → put made (first ++ second) ≡ put (put made first) second
put-append made first second = fold-append with_piece made first second

-- and what was told of them
pub tells_then : (old mid new : WordsData) (first second : List Piece) → Tells old mid first → Tells mid new second → Tells old new (first ++ second)
tells_then old mid new first second before after = λ none.
    let later = after none in
    let earlier = before later.0 in
    (earlier.0, later.1 ∙ ap (λ (m : MadeLines). put m second) earlier.1 ∙ sym (put-append old.made first second))

-- nothing was told
pub tells_nothing : (words : WordsData) → Tells words words []
tells_nothing words = λ none. (none, refl)

pub ruleset telling = (put-append)

-- of what is to be told, the rest is still to be told
pub record Left (first now : WordsData) (whole rest : List Piece) : Type 0 where
  pub told : (new : WordsData) → Tells now new rest → Tells first new whole

pub left_start : (first : WordsData) (whole : List Piece) → Left first first whole whole
left_start first whole = record { told = λ new tells. tells }

-- one part more was told
pub left_more : (first now next : WordsData) (whole part rest : List Piece) → Left first now whole (part ++ rest) → Tells now next part → Left first next whole rest
left_more first now next whole part rest left tells = record { told = λ new behind. left.told new (tells_then now next new part rest tells behind) }

-- nothing is left
pub left_end : (first now : WordsData) (whole : List Piece) → Left first now whole [] → Tells first now whole
left_end first now whole left = left.told now (tells_nothing now)

-- the same rest in other words
pub left_as : (first now : WordsData) (whole rest other : List Piece) → rest ≡ other → Left first now whole rest → Left first now whole other
left_as first now whole rest other same left = subst (λ (r : List Piece). Left first now whole r) same left

-- one more of those with something between
pub joined_more : (b told : Bool) (between one : List Piece) (others : List (List Piece))
    → joined told between (cond b (one ∷ others) others) ≡ cond b (cond told between [] ++ one) [] ++ joined (told || b) between others
joined_more true true between one others = refl
joined_more true false between one others = refl
joined_more false true between one others = refl
joined_more false false between one others = refl

map_cond : (b : Bool) (name : ℕ → List Piece) (place : ℕ) (others : List ℕ) → map name (cond b (place ∷ others) others) ≡ cond b (name place ∷ map name others) (map name others)
map_cond true name place others = refl
map_cond false name place others = refl

-- the bit of a place, and those behind it
pub bits_next : (width : ℕ) (between : List Piece) (name : ℕ → List Piece) (bits : ℕ) (told : Bool) (place n : ℕ) → place < n
    → bits_told_from width between name bits told place (n - place)
    ≡ cond (has_bit width bits place) (cond told between [] ++ name place) []
    ++ bits_told_from width between name bits (told || has_bit width bits place) (place + 1) (n - (place + 1))
unfolding bits_told_from
bits_next width between name bits told place n within =
    let others : List ℕ = filter (has_bit width bits) (range_with_len (place + 1) (n - (place + 1))) in
    let more : n - place ≡ suc (n - (place + 1)) = omega arith in
    ap (λ (k : ℕ). joined told between (map name (filter (has_bit width bits) (range_with_len place k)))) more
    ∙ ap (joined told between) (map_cond (has_bit width bits place) name place others)
    ∙ joined_more (has_bit width bits place) told between (name place) (map name others)

-- nothing stands between none
pub joined_none : (told : Bool) (between : List Piece) → joined told between [] ≡ []
joined_none true between = refl
joined_none false between = refl

-- no bit stands behind the last
pub bits_end : (width : ℕ) (between : List Piece) (name : ℕ → List Piece) (bits : ℕ) (told : Bool) (place n : ℕ) → n ≤ place
    → bits_told_from width between name bits told place (n - place) ≡ []
unfolding bits_told_from
bits_end width between name bits told place n past =
    let none : n - place ≡ 0 = omega arith in
    ap (λ (k : ℕ). joined told between (map name (filter (has_bit width bits) (range_with_len place k)))) none ∙ joined_none told between
