-- Arrays of bytes, and bytes that are appended part by part.
use Rattle.std.proofs.Common.{◌≡◌, ℕ, ◌<◌, ◌^◌, List, ◌++◌, length, get_or, ◌∙◌, ap, arith, sym, append_assoc}
use Rattle.std.proofs.lemmas.List.{get_or_default}
use Rattle.card_state.specs.Encoding.{AreBytesOf}

-- an array of bytes
pub are_bytes : (bs : List ℕ) (n : ℕ) → length bs ≡ n → ((i : ℕ) → get_or bs i 0 < 256) → AreBytesOf n bs
are_bytes bs n size small = (
  size,
  λ k d within. (
      let here : get_or bs k 0 < 256 = small k in
      let same : get_or bs k d ≡ get_or bs k 0 = get_or_default bs k d 0 within in
      let goal : get_or bs k d < 2 ^ 8 = omega arith in goal),
)

-- three parts, one behind the other
pub three_parts : (out after_one after_two after_all all a b c : List ℕ) → after_one ≡ out ++ a → after_two ≡ after_one ++ b → after_all ≡ after_two ++ c
    → all ≡ (a ++ b) ++ c → after_all ≡ out ++ all
three_parts out after_one after_two after_all all a b c first second third is =
    third
    ∙ ap (λ (xs : List ℕ). xs ++ c) (second ∙ ap (λ (xs : List ℕ). xs ++ b) first)
    ∙ regroup out a b c
    ∙ ap (λ (xs : List ℕ). out ++ xs) (sym is)
  where
    regroup : (out a b c : List ℕ) → ((out ++ a) ++ b) ++ c ≡ out ++ ((a ++ b) ++ c)
    regroup out a b c = simp append_assoc
