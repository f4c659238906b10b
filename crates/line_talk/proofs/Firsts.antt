-- The first line of a text, and that no document stands first.
use Rattle.std.proofs.Common.{◌≡◌, ℕ, suc, ◌+◌, ◌<◌, ◌==◌, ◌||◌, Bool, true, false, List, [], ◌∷◌, ◌++◌, length, Option, Some, None, IfSome, refl, sym, ap, subst, ◌∙◌, append_assoc, append-nil, length-append, drop, arith}
use Rattle.std.proofs.lemmas.Option.{same_Some}
use Rattle.std.specs.List.{list_any}
use Rattle.std.proofs.KnownBytes.{Consumes-trans}
use Rattle.std.specs.Io.KnownBytes.{Consumes, IsAtEnd}
use Rattle.line_talk.specs.Coming.{IsUnbroken, OfFirstLine}
use Rattle.line_talk.specs.Preamble.{HasFewer, IsDocumentOfLength, IsPreamble, NoDocument, length_in}
use Rattle.line_talk.specs.declared.document.Preamble.{Preamble}
use Rattle.line_talk.specs.declared.document.Preamble.TheVariants.{Document, Other}

-- a newline is none of the bytes of such a text, and they are neither broken behind the first
begins_otherwise : (byte : ℕ) (bytes : List ℕ) → IsUnbroken (byte ∷ bytes) → byte ≡ 10 → ⊥
begins_otherwise byte bytes whole same = let clash : true ≡ false = subst (λ (b : ℕ). IsUnbroken (b ∷ bytes)) same whole in cc clash

goes_on : (test rest : Bool) → (test || rest) ≡ false → rest ≡ false
goes_on true rest none = absurd (cc none)
goes_on false rest none = none

behind_first : (byte : ℕ) (bytes : List ℕ) → IsUnbroken (byte ∷ bytes) → IsUnbroken bytes
behind_first byte bytes whole = goes_on (byte == 10) (list_any (λ b. b == 10) bytes) whole

abbrev first_or : ℕ → List ℕ → ℕ
first_or other [] = other
first_or other (x ∷ xs) = x

first_same : (a b : ℕ) (c d : List ℕ) → a ∷ c ≡ b ∷ d → a ≡ b
first_same a b c d same = ap (λ (l : List ℕ). first_or a l) same

rest_same : (a b : ℕ) (c d : List ℕ) → a ∷ c ≡ b ∷ d → c ≡ d
rest_same a b c d same = ap (λ (l : List ℕ). drop 1 l) same

-- a text has one first line
one_line : (a b c d : List ℕ) → a ++ 10 ∷ b ≡ c ++ 10 ∷ d → IsUnbroken a → IsUnbroken c → (a ≡ c) × (b ≡ d)
one_line [] b [] d same whole other = (refl, rest_same 10 10 b d same)
one_line [] b (x ∷ c) d same whole other = absurd (begins_otherwise x c other (sym (first_same 10 x b (c ++ 10 ∷ d) same)))
one_line (x ∷ a) b [] d same whole other = absurd (begins_otherwise x a whole (first_same x 10 (a ++ 10 ∷ b) d same))
one_line (x ∷ a) b (y ∷ c) d same whole other =
    let more = one_line a b c d (rest_same x y (a ++ 10 ∷ b) (c ++ 10 ∷ d) same) (behind_first x a whole) (behind_first y c other) in (
      ap (λ (byte : ℕ). byte ∷ a) (first_same x y (a ++ 10 ∷ b) (c ++ 10 ∷ d) same) ∙ ap (λ (l : List ℕ). y ∷ l) more.0,
      more.1,
    )

-- the newline behind a line would stand within a longer text
within : (line more text rest : List ℕ) → text ++ rest ≡ line ++ 10 ∷ more → length line < length text → IsUnbroken text → ⊥
within line more [] rest same longer whole = absurd (omega (arith, longer))
within [] more (x ∷ text) rest same longer whole = begins_otherwise x text whole (first_same x 10 (text ++ rest) more same)
within (y ∷ line) more (x ∷ text) rest same longer whole =
    within line more text rest (rest_same x y (text ++ rest) (line ++ 10 ∷ more) same) (omega (arith, longer)) (behind_first x text whole)

module _ (P : List ℕ → List ℕ → Type 0) where
  -- a line came
  pub line_came : (old new : Option (List ℕ)) (text : List ℕ) → Consumes old new (text ++ 10 ∷ []) → IsUnbroken text → IfSome new (λ rest. P text rest)
      → OfFirstLine P old
  line_came None new text taken whole holds = tt
  line_came (Some all) None text taken whole holds = absurd taken
  line_came (Some all) (Some later) text taken whole holds = record {
    holds =
        λ line rest same unbroken short.
        let line_is = one_line text later line rest (sym (append_assoc text (10 ∷ []) later) ∙ sym taken ∙ same) whole unbroken in
        subst (λ (l : List ℕ). P l rest) line_is.0 (subst (λ (r : List ℕ). P text r) line_is.1 holds);
  }

  -- the end came without another newline
  pub end_came : (old new : Option (List ℕ)) (text : List ℕ) → Consumes old new text → IsUnbroken text → IsAtEnd new → OfFirstLine P old
  end_came None new text taken whole end = tt
  end_came (Some all) None text taken whole end = absurd taken
  end_came (Some all) (Some later) text taken whole end = record {
    holds =
        λ line rest same unbroken short.
        let text_is : text ++ [] ≡ line ++ 10 ∷ rest = ap (λ (l : List ℕ). text ++ l) (sym end) ∙ sym taken ∙ same in
        let size : length text ≡ length line + suc (length rest) =
        ap (λ (l : List ℕ). length l) (sym (append-nil text) ∙ text_is) ∙ length-append line (10 ∷ rest) in
        absurd (within line rest text [] text_is (omega (arith, size)) whole);
  }

  -- what came is longer than a line
  pub long_came : (old new : Option (List ℕ)) (text : List ℕ) → Consumes old new text → IsUnbroken text → length text ≡ 8192 → OfFirstLine P old
  long_came None new text taken whole size = tt
  long_came (Some all) None text taken whole size = absurd taken
  long_came (Some all) (Some later) text taken whole size = record {
    holds =
        λ line rest same unbroken short.
        absurd (within line rest text later (sym taken ∙ same) (omega (arith, short, size)) whole);
  }

-- behind a line that says no length stands no document
says_none : (line rest : List ℕ) → length_in line ≡ None → NoDocument line rest
says_none line rest none bytes more same says = let clash : None ≡ Some (length bytes) = sym none ∙ says in cc clash

-- nor where fewer bytes stand behind it
has_fewer : (line rest : List ℕ) (count : ℕ) → length_in line ≡ Some count → length rest < count → NoDocument line rest
has_fewer line rest count said fewer bytes more same says =
    let counted : count ≡ length bytes = same_Some count (length bytes) (sym said ∙ says) in
    let size : length rest ≡ length bytes + length more = ap (λ (l : List ℕ). length l) same ∙ length-append bytes more in
    omega (arith, fewer, counted, size)

fewer_left : (line : List ℕ) (count : ℕ) → length_in line ≡ Some count → (left : Option (List ℕ)) → HasFewer count left → IfSome left (λ rest. NoDocument line rest)
fewer_left line count said None fewer = tt
fewer_left line count said (Some rest) fewer = has_fewer line rest count said fewer

pub none_said : (line : List ℕ) → length_in line ≡ None → (left : Option (List ℕ)) → IfSome left (λ rest. NoDocument line rest)
none_said line none None = tt
none_said line none (Some rest) = says_none line rest none

-- a line came that says a length, and what stands behind it
pub is_preamble : (old mid new : Option (List ℕ)) (text : List ℕ) (count : ℕ) → Consumes old mid (text ++ 10 ∷ []) → IsUnbroken text → length_in text ≡ Some count
    → (given : Preamble) → IsDocumentOfLength count mid new given → IsPreamble old new given
is_preamble old mid new text count taken whole said (Document bytes) counted = record {
  line = text;
  says = said ∙ ap (λ (n : ℕ). Some n) (sym counted.1);
  taken = Consumes-trans old mid new (text ++ 10 ∷ []) bytes.items taken counted.0;
}
is_preamble old mid new text count taken whole said Other counted =
    line_came NoDocument old mid text taken whole (fewer_left text count said mid counted)

-- what is so of each first line is so of it in other words
pub of_first_weaker : (P Q : List ℕ → List ℕ → Type 0) → ((line rest : List ℕ) → P line rest → Q line rest) → (left : Option (List ℕ)) → OfFirstLine P left → OfFirstLine Q left
of_first_weaker P Q weaker None holds = tt
of_first_weaker P Q weaker (Some text) first = record {
  holds = λ line rest same unbroken short. weaker line rest (first.holds line rest same unbroken short);
}
