-- Lines that are written one by one.
use Rattle.std.proofs.Common.{◌≡◌, ℕ, ◌+◌, ◌<◌, List, ◌∷◌, ◌++◌, length, drop, get_or, sym, ap, ◌∙◌, subst}
use Rattle.std.proofs.lemmas.Grind.{flat_map-append}
use Rattle.std.proofs.lemmas.List.{drop_more}
use Rattle.std.proofs.lemmas.List.Concat.{flat_map-cons}
use Rattle.std.specs.List.{flat_map}
use Rattle.std.specs.declared.option.Option.{Option}
use Rattle.std.specs.Io.KnownBytes.{Appends}
use Rattle.emv_ports.specs.Growth.{IsSoFar, AppendsFront}
use Rattle.emv_ports.proofs.Growth.{IsSoFar_more, IsSoFar_front}
use Rattle.report_text.specs.Text.{line_text}
use Rattle.report_text.specs.declared.line.Line.{Line}
use Rattle.emv_top.specs.Texts.{text_of_lines}

pub text_of_lines-append : (xs ys : List Line) → text_of_lines (xs ++ ys) ≡ text_of_lines xs ++ text_of_lines ys
text_of_lines-append xs ys = flat_map-append line_text xs ys

-- the element at a place, and those behind it
pub drop_split : {A : Type 0} → (xs : List A) (i : ℕ) (x : A) → i < length xs → x ≡ get_or xs i x → drop i xs ≡ x ∷ drop (i + 1) xs
drop_split xs i x within is = drop_more xs i x within ∙ ap (λ y. y ∷ drop (i + 1) xs) (sym is)

-- a text of elements that are left, of which the first is written
module _ {A : Type 0} (f : A → List Line) (left rest : List A) (x : A) (is : left ≡ x ∷ rest) where
  split : text_of_lines (flat_map f left) ≡ text_of_lines (f x) ++ text_of_lines (flat_map f rest)
  split = ap (λ (ys : List A). text_of_lines (flat_map f ys)) is ∙ ap text_of_lines (flat_map-cons f x rest) ∙ text_of_lines-append (f x) (flat_map f rest)

  pub piece_more : (old mid new : Option (List ℕ)) (whole : List ℕ) → IsSoFar old mid (text_of_lines (flat_map f left)) whole
      → Appends mid new (text_of_lines (f x)) → IsSoFar old new (text_of_lines (flat_map f rest)) whole
  piece_more old mid new whole so_far more =
      IsSoFar_more old mid new (text_of_lines (f x)) (text_of_lines (flat_map f rest)) whole
      (subst (λ (t : List ℕ). IsSoFar old mid t whole) split so_far) more

  pub piece_front : (old mid new : Option (List ℕ)) (whole : List ℕ) → IsSoFar old mid (text_of_lines (flat_map f left)) whole
      → AppendsFront mid new (text_of_lines (f x)) → AppendsFront old new whole
  piece_front old mid new whole so_far stopped =
      IsSoFar_front old mid new (text_of_lines (f x)) (text_of_lines (flat_map f rest)) whole
      (subst (λ (t : List ℕ). IsSoFar old mid t whole) split so_far) stopped

-- a text of lines that are left, of which the first is written
module _ (left rest : List Line) (line : Line) (is : left ≡ line ∷ rest) where
  split_line : text_of_lines left ≡ line_text line ++ text_of_lines rest
  split_line = ap text_of_lines is ∙ flat_map-cons line_text line rest

  pub line_more : (old mid new : Option (List ℕ)) (whole : List ℕ) → IsSoFar old mid (text_of_lines left) whole
      → Appends mid new (line_text line) → IsSoFar old new (text_of_lines rest) whole
  line_more old mid new whole so_far more =
      IsSoFar_more old mid new (line_text line) (text_of_lines rest) whole
      (subst (λ (t : List ℕ). IsSoFar old mid t whole) split_line so_far) more

  pub line_front : (old mid new : Option (List ℕ)) (whole : List ℕ) → IsSoFar old mid (text_of_lines left) whole
      → AppendsFront mid new (line_text line) → AppendsFront old new whole
  line_front old mid new whole so_far stopped =
      IsSoFar_front old mid new (line_text line) (text_of_lines rest) whole
      (subst (λ (t : List ℕ). IsSoFar old mid t whole) split_line so_far) stopped
