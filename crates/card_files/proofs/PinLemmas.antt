-- The PIN that a block of format 2 spells is the PIN that it is the block of.
use Rattle.std.proofs.Common.{◌≡◌, ℕ, Bool, true, false, suc, ◌+◌, ◌-◌, ◌<◌, ◌≤◌, ◌&&◌, List, ◌∷◌, ◌++◌, length, take, drop, get_or, replicate, sym, refl, ◌∙◌, ap, arith, length-append, Option, Some, None, is_some}
use Rattle.std.specs.Prelude.{IfSome, IsTrue, ◌↔◌, slice_index, nat_le}
use Rattle.std.specs.List.{All, list_all}
use Rattle.std.specs.Str.{bytes_eq}
use Rattle.std.proofs.lemmas.Bool.{le-leb, leb-true, and_parts, and_from, true≢false}
use Rattle.std.proofs.lemmas.List.{take_at, length-replicate}
use Rattle.std.proofs.lemmas.List.Elements.{All-cons, All-append, All-replicate}
use Rattle.std.proofs.lemmas.List.Sums.{AllPass-from_list_all, list_all-from_AllPass}
use Rattle.std.proofs.lemmas.Slice.Eq.{bytes_eq-Decides}
use Rattle.emv_dict.specs.Nibbles.{nibbles, is_decimal}
use Rattle.emv_dict.proofs.HexDigits.{nibbles-packed}
use Rattle.pin_block.specs.Block.{IsPin, block_digits, block_of}
use Rattle.card_files.specs.AppRules.{spelled_pin, is_plain_block, has_size}

block_size : (pin : List ℕ) → IsPin pin → length (block_digits 2 pin) ≡ 16
block_size pin is =
    let fill : List ℕ = replicate (14 - length pin) 15 in
    let body : length (pin ++ fill) ≡ length pin + length fill = length-append pin fill in
    let filler : length fill ≡ 14 - length pin = length-replicate (14 - length pin) 15 in
    let most : length pin ≤ 12 = is.most in
    let whole : length (pin ++ fill) ≡ 14 = omega arith in
    ap (λ (n : ℕ). suc (suc n)) whole

block_small : (pin : List ℕ) → IsPin pin → All (λ d. d < 16) (block_digits 2 pin)
block_small pin is =
    let Small : ℕ → Type 0 = λ d. d < 16 in
    let most : length pin ≤ 12 = is.most in
    let count : length pin < 16 = omega arith in
    let pin_small : All Small pin = λ k d within. (let decimal : get_or pin k d ≤ 9 = is.decimal k d within in omega arith) in
    All-cons Small 2 (length pin ∷ pin ++ replicate (14 - length pin) 15) (omega arith)
    (All-cons Small (length pin) (pin ++ replicate (14 - length pin) 15) count
    (All-append Small pin (replicate (14 - length pin) 15) pin_small (All-replicate Small (14 - length pin) 15 (omega arith))))

digits_of_block : (pin bytes : List ℕ) → IsPin pin → block_of 2 pin ≡ bytes → nibbles bytes ≡ block_digits 2 pin
unfolding block_of
digits_of_block pin bytes is same =
    ap (λ (xs : List ℕ). nibbles xs) (sym same) ∙ nibbles-packed (block_digits 2 pin) 8 (block_size pin is) (block_small pin is)

spelled : (pin bytes : List ℕ) → IsPin pin → block_of 2 pin ≡ bytes → spelled_pin bytes ≡ pin
spelled pin bytes is same =
    ap (λ (xs : List ℕ). take (slice_index xs 1) (drop 2 xs)) (digits_of_block pin bytes is same)
    ∙ take_at pin (replicate (14 - length pin) 15) (length pin) refl

-- a PIN and its block pass the tests
passes : (pin bytes : List ℕ) → IsPin pin → block_of 2 pin ≡ bytes
    → (has_size 4 12 pin && (list_all is_decimal pin && bytes_eq (block_of 2 pin) bytes)) ≡ true
passes pin bytes is same =
    let size : has_size 4 12 pin ≡ true = and_from (nat_le 4 (length pin)) (nat_le (length pin) 12) (le-leb 4 (length pin) is.least) (le-leb (length pin) 12 is.most) in
    let decimal : list_all is_decimal pin ≡ true = list_all-from_AllPass is_decimal pin (λ k d within. le-leb (get_or pin k d) 9 (is.decimal k d within)) in
    let equal : bytes_eq (block_of 2 pin) bytes ≡ true = (bytes_eq-Decides (block_of 2 pin) bytes).1 same in
    and_from (has_size 4 12 pin) (list_all is_decimal pin && bytes_eq (block_of 2 pin) bytes) size
    (and_from (list_all is_decimal pin) (bytes_eq (block_of 2 pin) bytes) decimal equal)

-- and only they do
passed : (pin bytes : List ℕ) → (has_size 4 12 pin && (list_all is_decimal pin && bytes_eq (block_of 2 pin) bytes)) ≡ true
    → IsPin pin × (block_of 2 pin ≡ bytes)
passed pin bytes test =
    let parts = and_parts (has_size 4 12 pin) (list_all is_decimal pin && bytes_eq (block_of 2 pin) bytes) test in
    let ends = and_parts (nat_le 4 (length pin)) (nat_le (length pin) 12) parts.0 in
    let rest = and_parts (list_all is_decimal pin) (bytes_eq (block_of 2 pin) bytes) parts.1 in
    let decimal = AllPass-from_list_all is_decimal pin rest.0 in (
      record {
        least = leb-true 4 (length pin) ends.0;
        most = leb-true (length pin) 12 ends.1;
        decimal = λ k d within. leb-true (get_or pin k d) 9 (decimal k d within);
      },
      (bytes_eq-Decides (block_of 2 pin) bytes).0 rest.1,
    )

-- the block of a PIN passes
pub block_passes : (pin bytes : List ℕ) → IsPin pin → bytes ≡ block_of 2 pin → is_plain_block bytes ≡ true
block_passes pin bytes is same = rw (spelled pin bytes is (sym same)) (passes pin bytes is (sym same))

-- what reads a block exactly where it is one tells the test
pub told : (bytes : List ℕ) (found : Option (List ℕ)) → IfSome found (λ pin. IsPin pin × (block_of 2 pin ≡ bytes))
    → ((pin : List ℕ) → IsPin pin → block_of 2 pin ≡ bytes → found ≡ Some pin) → is_some found ≡ is_plain_block bytes
told bytes (Some pin) is reads =
    sym (block_passes pin bytes is.0 (sym is.1))
told bytes None is reads = none (is_plain_block bytes) refl
  where
    none : (test : Bool) → is_plain_block bytes ≡ test → false ≡ is_plain_block bytes
    none false e = sym e
    none true e =
        let pin = passed (spelled_pin bytes) bytes e in
        let wrong : None ≡ Some (spelled_pin bytes) = reads (spelled_pin bytes) pin.0 pin.1 in
        absurd (true≢false (ap is_some (sym wrong)))

-- and a PIN whose block it is, is there exactly then
pub of_some_pin : (bytes : List ℕ) (found : Option (List ℕ)) (test : Bool) → test ≡ is_some found → IfSome found (λ pin. IsPin pin × (block_of 2 pin ≡ bytes))
    → ((pin : List ℕ) → IsPin pin → block_of 2 pin ≡ bytes → found ≡ Some pin)
    → IsTrue test ↔ ((pin : List ℕ) × IsPin pin × (block_of 2 pin ≡ bytes))
of_some_pin bytes (Some pin) test same is reads = (λ _. (pin, is.0, is.1), λ _. same)
of_some_pin bytes None test same is reads =
    (λ true_too. absurd (true≢false (sym true_too ∙ same)), λ there. absurd (true≢false (ap is_some (sym (reads there.0 there.1 there.2)))))
