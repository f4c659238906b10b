-- The kind and the cryptogram are read back from a body in either format.
use Rattle.std.proofs.Common.{◌≡◌, ◌≢◌, ℕ, suc, ◌+◌, ◌==◌, true, false, List, [], ◌∷◌, ◌++◌, length, take, drop, slice_index, Some, refl, ap, ◌∙◌, arith, length-append}
use Rattle.std.specs.Int.{to_be_bytes, w16}
use Rattle.std.proofs.lemmas.List.{take_at}
use Rattle.std.proofs.lemmas.Bool.Decides.{nat_tests}
use Rattle.ber_tlv.specs.Written.{written, length_bytes}
use Rattle.emv_dict.specs.Kinds.{kind_byte, kind_of}
use Rattle.emv_dict.specs.declared.ending.Kind.{Kind}
use Rattle.emv_dict.specs.declared.ending.Kind.TheVariants.{Aac, Tc, Arqc}
use Rattle.card_cryptogram.specs.Bodies.{body_one, body_two, kind_in, cryptogram_in}

kind_back : (kind : Kind) → kind_of (kind_byte kind) ≡ Some kind
kind_back Aac = refl
kind_back Tc = refl
kind_back Arqc = refl

one_is : (kind : Kind) (counter : ℕ) (cryptogram iad : List ℕ) → length cryptogram ≡ 8 → length iad ≡ 6
    → body_one kind counter cryptogram iad ≡ 0x80 ∷ 17 ∷ kind_byte kind ∷ to_be_bytes w16 counter ++ (cryptogram ++ iad)
unfolding body_one written
one_is kind counter cryptogram iad eight six =
    let count : length (cryptogram ++ iad) ≡ 14 = length-append cryptogram iad ∙ ap (λ n. n + length iad) eight ∙ ap (λ n. 8 + n) six in
    ap (λ n. (0x80 ∷ []) ++ length_bytes (suc (suc (suc n))) ++ (kind_byte kind ∷ to_be_bytes w16 counter ++ (cryptogram ++ iad))) count

two_is : (kind : Kind) (counter : ℕ) (cryptogram iad : List ℕ) → length cryptogram ≡ 8 → length iad ≡ 6
    → body_two kind counter cryptogram iad
    ≡ 0x77 ∷ 29 ∷ 0x9F ∷ 0x27 ∷ 1 ∷ kind_byte kind ∷ 0x9F ∷ 0x36 ∷ 2 ∷ to_be_bytes w16 counter ++ (0x9F ∷ 0x26 ∷ 8 ∷ cryptogram ++ (0x9F ∷ 0x10 ∷ 6 ∷ iad))
unfolding body_two written
two_is kind counter cryptogram iad eight six =
    let count : length (cryptogram ++ (0x9F ∷ 0x10 ∷ 6 ∷ iad)) ≡ 17 =
    length-append cryptogram (0x9F ∷ 0x10 ∷ 6 ∷ iad) ∙ ap (λ n. n + suc (suc (suc (length iad)))) eight ∙ ap (λ n. 8 + suc (suc (suc n))) six in
    let head : List ℕ = 0x9F ∷ 0x27 ∷ 1 ∷ kind_byte kind ∷ 0x9F ∷ 0x36 ∷ 2 ∷ to_be_bytes w16 counter in
    ap (λ n. written 0x77 (head ++ (0x9F ∷ 0x26 ∷ [] ++ length_bytes n ++ cryptogram) ++ (0x9F ∷ 0x10 ∷ [] ++ length_bytes (length iad) ++ iad))) eight
    ∙ ap (λ n. written 0x77 (head ++ (0x9F ∷ 0x26 ∷ 8 ∷ cryptogram) ++ (0x9F ∷ 0x10 ∷ [] ++ length_bytes n ++ iad))) six
    ∙ ap (λ n. (0x77 ∷ []) ++ length_bytes (suc (suc (suc (suc (suc (suc (suc (suc (suc (suc (suc (suc n)))))))))))) ++ (head ++ (0x9F ∷ 0x26 ∷ 8 ∷ cryptogram ++ (0x9F ∷ 0x10 ∷ 6 ∷ iad)))) count

module _ (format : ℕ) (kind : Kind) (counter : ℕ) (cryptogram iad : List ℕ) (eight : length cryptogram ≡ 8) (six : length iad ≡ 6) where
  pub one_kind : format ≡ 1 → kind_in format (body_one kind counter cryptogram iad) ≡ Some kind
  unfolding kind_in
  one_kind is = let test : (format == 1) ≡ true = grind (arith, nat_tests) in rw test (ap (λ (body : List ℕ). kind_of (slice_index body 2)) (one_is kind counter cryptogram iad eight six) ∙ kind_back kind)

  pub one_cryptogram : format ≡ 1 → cryptogram_in format (body_one kind counter cryptogram iad) ≡ cryptogram
  unfolding cryptogram_in
  one_cryptogram is =
      let test : (format == 1) ≡ true = grind (arith, nat_tests) in
      rw test (ap (λ (body : List ℕ). take 8 (drop 5 body)) (one_is kind counter cryptogram iad eight six) ∙ take_at cryptogram iad 8 eight)

  pub two_kind : format ≢ 1 → kind_in format (body_two kind counter cryptogram iad) ≡ Some kind
  unfolding kind_in
  two_kind is = let test : (format == 1) ≡ false = grind (arith, nat_tests) in rw test (ap (λ (body : List ℕ). kind_of (slice_index body 5)) (two_is kind counter cryptogram iad eight six) ∙ kind_back kind)

  pub two_cryptogram : format ≢ 1 → cryptogram_in format (body_two kind counter cryptogram iad) ≡ cryptogram
  unfolding cryptogram_in
  two_cryptogram is =
      let test : (format == 1) ≡ false = grind (arith, nat_tests) in
      rw test (ap (λ (body : List ℕ). take 8 (drop 14 body)) (two_is kind counter cryptogram iad eight six) ∙ take_at cryptogram (0x9F ∷ 0x10 ∷ 6 ∷ iad) 8 eight)
