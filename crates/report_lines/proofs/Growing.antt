-- Text that is appended to an open line, byte by byte.
use Rattle.std.proofs.Common.{◌≡◌, ℕ, ◌+◌, ◌<◌, ◌≤◌, Bool, true, false, List, [], ◌∷◌, ◌++◌, length, map, take, get_or, refl, sym, ap, ◌∙◌, append_assoc, ◌/◌, ◌%◌}
use Rattle.std.specs.List.{flat_map}
use Rattle.std.proofs.lemmas.List.{append-nil, take_more, take_all, map-append}
use Rattle.std.proofs.lemmas.Bool.{false≢true}
use Rattle.std.proofs.lemmas.Grind.{flat_map-append}
use Rattle.report_lines.specs.Hex.{digit_text, pair_text}
use Rattle.report_lines.specs.Lines.{MadeLines, WordsData, stage_of, line_opened, shown_character}
use Rattle.report_lines.specs.Pieces as piece
use Rattle.report_lines.specs.Pieces.{Tells, with_piece}
use Rattle.report_lines.proofs.Stages.{line_opened-open}

-- what has failed stays so: what has not failed yet has not failed before
pub not_before : (before after : Bool) → (before ≡ true → after ≡ true) → after ≡ false → before ≡ false
not_before false after stays none = refl
not_before true after stays none = absurd (false≢true (sym none ∙ stays refl))

-- and what has failed before has failed
pub after_before : (before after : Bool) → (after ≡ false → before ≡ false) → before ≡ true → after ≡ true
after_before before false stays was = absurd (false≢true (sym (stays refl) ∙ was))
after_before before true stays was = refl

-- lines by their parts
pub made_is : (made : MadeLines) (bytes : List ℕ) (books : Bool) → made.bytes ≡ bytes → made.books ≡ books → made ≡ record { bytes = bytes; books = books }
made_is made bytes books same kept = rw (← same, ← kept) refl

-- behind these bytes a text was appended, and the line is open
pub record IsGrown (old new : WordsData) (first text : List ℕ) : Type 0 where
  pub bytes : new.failed ≡ false → new.made.bytes ≡ first ++ map shown_character text
  pub books : new.failed ≡ false → new.made.books ≡ old.made.books
  pub one : new.failed ≡ false → stage_of new.made.bytes ≡ 2
  pub failed : old.failed ≡ true → new.failed ≡ true

pub grown_start : (old new : WordsData) (first : List ℕ) → (new.failed ≡ false → new.made.bytes ≡ first) → new.made.books ≡ old.made.books
    → (new.failed ≡ false → stage_of new.made.bytes ≡ 2) → (old.failed ≡ true → new.failed ≡ true) → IsGrown old new first []
grown_start old new first bytes books one failed = record {
  bytes = λ none. bytes none ∙ sym (append-nil first);
  books = λ none. books;
  one = one;
  failed = failed;
}

-- one byte more
pub grown_more : (old mid new : WordsData) (first text : List ℕ) (i b : ℕ) → i < length text → b ≡ get_or text i 0
    → IsGrown old mid first (take i text)
    → (new.failed ≡ false → new.made.bytes ≡ mid.made.bytes ++ shown_character b ∷ []) → new.made.books ≡ mid.made.books
    → (new.failed ≡ false → stage_of new.made.bytes ≡ 2) → (mid.failed ≡ true → new.failed ≡ true)
    → IsGrown old new first (take (i + 1) text)
grown_more old mid new first text i b within here grown bytes books one failed = record {
  bytes = λ none.
      let more : take (i + 1) text ≡ take i text ++ b ∷ [] = take_more text i 0 within ∙ ap (λ y. take i text ++ y ∷ []) (sym here) in
      bytes none ∙ ap (λ (t : List ℕ). t ++ shown_character b ∷ []) (grown.bytes (not_before mid.failed new.failed failed none))
      ∙ append_assoc first (map shown_character (take i text)) (shown_character b ∷ [])
      ∙ ap (λ (t : List ℕ). first ++ t) (sym (map-append shown_character (take i text) (b ∷ [])))
      ∙ ap (λ (t : List ℕ). first ++ map shown_character t) (sym more);
  books = λ none. books ∙ grown.books (not_before mid.failed new.failed failed none);
  one = one;
  failed = λ was. failed (grown.failed was);
}

-- the whole text
pub grown_end : (old new : WordsData) (first text : List ℕ) (i : ℕ) → length text ≤ i → IsGrown old new first (take i text)
    → new.failed ≡ false → (old.failed ≡ false) × (new.made ≡ record old.made { bytes = first ++ map shown_character text })
grown_end old new first text i past grown none = (
  not_before old.failed new.failed grown.failed none,
  made_is new.made (first ++ map shown_character text) old.made.books
      (grown.bytes none ∙ ap (λ (t : List ℕ). first ++ map shown_character t) (take_all i text past)) (grown.books none),
)

-- two digits more
pub grown_pair : (old mid new : WordsData) (first bytes : List ℕ) (i b x y : ℕ) → i < length bytes → b ≡ get_or bytes i 0
    → IsGrown old mid first (flat_map pair_text (take i bytes)) → x ≡ digit_text (b / 16) → y ≡ digit_text (b % 16)
    → Tells mid new (piece.text (x ∷ y ∷ [])) → (new.failed ≡ false → stage_of new.made.bytes ≡ 2)
    → IsGrown old new first (flat_map pair_text (take (i + 1) bytes))
unfolding with_piece
grown_pair old mid new first bytes i b x y within here grown high low told one = record {
  bytes = λ none.
      let before : mid.failed ≡ false = (told none).0 in
      let more : take (i + 1) bytes ≡ take i bytes ++ b ∷ [] = take_more bytes i 0 within ∙ ap (λ y. take i bytes ++ y ∷ []) (sym here) in
      let pair : x ∷ y ∷ [] ≡ flat_map pair_text (b ∷ []) = ap (λ x. x ∷ y ∷ []) high ∙ ap (λ y. digit_text (b / 16) ∷ y ∷ []) low in
      ap (λ (m : MadeLines). m.bytes) (told none).1
      ∙ ap (λ (t : List ℕ). t ++ map shown_character (x ∷ y ∷ [])) (line_opened-open mid.made.bytes (grown.one before) ∙ grown.bytes before)
      ∙ append_assoc first (map shown_character (flat_map pair_text (take i bytes))) (map shown_character (x ∷ y ∷ []))
      ∙ ap (λ (t : List ℕ). first ++ t) (sym (map-append shown_character (flat_map pair_text (take i bytes)) (x ∷ y ∷ [])))
      ∙ ap (λ (t : List ℕ). first ++ map shown_character (flat_map pair_text (take i bytes) ++ t)) pair
      ∙ ap (λ (t : List ℕ). first ++ map shown_character t) (sym (flat_map-append pair_text (take i bytes) (b ∷ [])))
      ∙ ap (λ (t : List ℕ). first ++ map shown_character (flat_map pair_text t)) (sym more);
  books = λ none. ap (λ (m : MadeLines). m.books) (told none).1 ∙ grown.books (told none).0;
  one = one;
  failed = λ was. after_before mid.failed new.failed (λ none. (told none).0) (grown.failed was);
}

-- no digits yet
pub grown_none : (old new : WordsData) → Tells old new (piece.text []) → (new.failed ≡ false → stage_of new.made.bytes ≡ 2)
    → IsGrown old new (line_opened old.made.bytes) []
unfolding with_piece
grown_none old new told one = record {
  bytes = λ none. ap (λ (m : MadeLines). m.bytes) (told none).1;
  books = λ none. ap (λ (m : MadeLines). m.books) (told none).1;
  one = one;
  failed = after_before old.failed new.failed (λ none. (told none).0);
}

-- all digits
pub grown_end_pairs : (old new : WordsData) (first bytes : List ℕ) (i : ℕ) → length bytes ≤ i → IsGrown old new first (flat_map pair_text (take i bytes))
    → new.failed ≡ false → (old.failed ≡ false) × (new.made ≡ record old.made { bytes = first ++ map shown_character (flat_map pair_text bytes) })
grown_end_pairs old new first bytes i past grown none = (
  not_before old.failed new.failed grown.failed none,
  made_is new.made (first ++ map shown_character (flat_map pair_text bytes)) old.made.books
      (grown.bytes none ∙ ap (λ (t : List ℕ). first ++ map shown_character (flat_map pair_text t)) (take_all i bytes past)) (grown.books none),
)
