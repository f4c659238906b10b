-- What the digits of a block say of its PIN.
use Rattle.std.proofs.Common.{◌≡◌, ℕ, suc, ◌+◌, ◌-◌, ◌<◌, ◌≤◌, List, ◌∷◌, ◌++◌, length, take, drop, get_or, replicate, sym, ◌∙◌, ap, arith, length-append}
use Rattle.std.specs.List.{All}
use Rattle.std.proofs.lemmas.List.{take_at, length-replicate}
use Rattle.std.proofs.lemmas.List.Elements.{All-cons, All-append, All-replicate}
use Rattle.emv_dict.specs.Nibbles.{nibbles}
use Rattle.emv_dict.proofs.HexDigits.{nibbles-packed}
use Rattle.pin_block.specs.Block.{IsPin, block_digits, block_of}

pub block_size : (format : ℕ) (pin : List ℕ) → IsPin pin → length (block_digits format pin) ≡ 16
block_size format pin is =
    let fill : List ℕ = replicate (14 - length pin) 15 in
    let body : length (pin ++ fill) ≡ length pin + length fill = length-append pin fill in
    let filler : length fill ≡ 14 - length pin = length-replicate (14 - length pin) 15 in
    let most : length pin ≤ 12 = is.most in
    let whole : length (pin ++ fill) ≡ 14 = omega arith in
    ap (λ (n : ℕ). suc (suc n)) whole

pub block_small : (format : ℕ) (pin : List ℕ) → format < 16 → IsPin pin → All (λ d. d < 16) (block_digits format pin)
block_small format pin small is =
    let Small : ℕ → Type 0 = λ d. d < 16 in
    let most : length pin ≤ 12 = is.most in
    let count : length pin < 16 = omega arith in
    let pin_small : All Small pin = λ k d within. (let decimal : get_or pin k d ≤ 9 = is.decimal k d within in omega arith) in
    All-cons Small format (length pin ∷ pin ++ replicate (14 - length pin) 15) small
    (All-cons Small (length pin) (pin ++ replicate (14 - length pin) 15) count
    (All-append Small pin (replicate (14 - length pin) 15) pin_small (All-replicate Small (14 - length pin) 15 (omega arith))))

-- the digits of a block
digits_of_block : (format : ℕ) (pin bytes : List ℕ) → format < 16 → IsPin pin → block_of format pin ≡ bytes → nibbles bytes ≡ block_digits format pin
unfolding block_of
digits_of_block format pin bytes small is same =
    ap (λ (xs : List ℕ). nibbles xs) (sym same)
    ∙ nibbles-packed (block_digits format pin) 8 (block_size format pin is) (block_small format pin small is)

-- the second digit is the number of PIN digits
pub count_of_block : (format : ℕ) (pin bytes : List ℕ) → format < 16 → IsPin pin → block_of format pin ≡ bytes → get_or (nibbles bytes) 1 0 ≡ length pin
count_of_block format pin bytes small is same = ap (λ (xs : List ℕ). get_or xs 1 0) (digits_of_block format pin bytes small is same)

-- the PIN stands behind it
pub pin_of_block : (format : ℕ) (pin bytes : List ℕ) (count : ℕ) → format < 16 → IsPin pin → block_of format pin ≡ bytes → count ≡ length pin
    → take count (drop 2 (nibbles bytes)) ≡ pin
pin_of_block format pin bytes count small is same here =
    ap (λ (xs : List ℕ). take count (drop 2 xs)) (digits_of_block format pin bytes small is same)
    ∙ take_at pin (replicate (14 - length pin) 15) count (sym here)
