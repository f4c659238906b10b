use Rattle.std.proofs.Common.{ℕ, List, ◌≡◌, ◌<◌, length, take, ap, refl, sym, ◌∙◌, rules, arith}
use Rattle.std.specs.List.{All}
use Rattle.emv_dict.specs.Nibbles.{nibbles, packed}
use Rattle.card_keys.specs.Decimal.{as_decimal, decimalised}
use Rattle.card_keys.proofs.DecimalLists.{length-sixteen, sixteen_small, read_again, decimals_first}
use Rattle.card_keys.proofs.decimal.decimalise.Goals as goal

pub slice_bounds-pack_block-end : goal.slice_bounds-pack_block-end
slice_bounds-pack_block-end c =
    let forty : length c.hexadecimal-digits.result ≡ 40 = search rules in
    let is : c.deref.result.now ≡ as_decimal c.hexadecimal-digits.result = search rules in
    sym (length-sixteen c.hexadecimal-digits.result c.deref.result.now forty is)

pub pack_block-requires-clause-sixteen : goal.pack_block-requires-clause-sixteen
pack_block-requires-clause-sixteen c =
    let forty : length c.hexadecimal-digits.result ≡ 40 = search rules in
    let is : c.deref.result.now ≡ as_decimal c.hexadecimal-digits.result = search rules in
    length-sixteen c.hexadecimal-digits.result c.deref.result.now forty is

pub pack_block-requires-clause-small : goal.pack_block-requires-clause-small
pack_block-requires-clause-small c = λ k d within.
    let is : c.deref.result.now ≡ as_decimal c.hexadecimal-digits.result = search rules in
    let nine = sixteen_small c.hexadecimal-digits.result c.deref.result.now c.hexadecimal-digits.ensures.small is k d within in
    omega (arith, nine)

-- the digits of the block are the first sixteen of the list
block_digits : (hash digits list block : List ℕ) → digits ≡ nibbles hash → length digits ≡ 40 → All (λ d. d < 16) digits → list ≡ as_decimal digits
    → block ≡ packed (take 16 list) → nibbles block ≡ take 16 (as_decimal digits)
unfolding decimalised
block_digits hash digits list block value forty small is packed_is =
    ap nibbles (packed_is ∙ ap (λ (l : List ℕ). packed (take 16 l)) (is ∙ ap as_decimal value)) ∙ read_again hash digits value forty small

pub returns-clause-decimal : goal.returns-clause-decimal
returns-clause-decimal c =
    let forty : length c.hexadecimal-digits.result ≡ 40 = search rules in
    let is : c.deref.result.now ≡ as_decimal c.hexadecimal-digits.result = search rules in
    let again : nibbles c.pack_block.result ≡ take 16 (as_decimal c.hexadecimal-digits.result) =
    block_digits c.args.hash c.hexadecimal-digits.result c.deref.result.now c.pack_block.result
    c.hexadecimal-digits.ensures.value forty c.hexadecimal-digits.ensures.small is c.pack_block.ensures in
    rw again (sixteen_small c.hexadecimal-digits.result (as_decimal c.hexadecimal-digits.result) c.hexadecimal-digits.ensures.small refl)

pub returns-clause-first : goal.returns-clause-first
returns-clause-first c =
    let forty : length c.hexadecimal-digits.result ≡ 40 = search rules in
    let is : c.deref.result.now ≡ as_decimal c.hexadecimal-digits.result = search rules in
    let again : nibbles c.pack_block.result ≡ take 16 (as_decimal c.hexadecimal-digits.result) =
    block_digits c.args.hash c.hexadecimal-digits.result c.deref.result.now c.pack_block.result
    c.hexadecimal-digits.ensures.value forty c.hexadecimal-digits.ensures.small is c.pack_block.ensures in
    rw again (rw (← c.hexadecimal-digits.ensures.value) (decimals_first c.hexadecimal-digits.result))
